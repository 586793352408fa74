-- A text has one part more than it has bytes that divide it, and so at most one more than it has bytes.
use Rattle.std.proofs.Common.{◌≡◌, ℕ, ◌+◌, ◌≤◌, Bool, List, length, Bor, ap, arith}
use Rattle.std.specs.List.{slice_split}
use Rattle.std.proofs.lemmas.List.{length-map}
use Rattle.std.proofs.lemmas.List.Sums.{count_by-le-length}
use Rattle.std.proofs.lemmas.List.Splits.{length-slice_split}
use Rattle.text_words.specs.Lines.{texts}

pub parts_few : (at : ℕ → Bool) (text : List ℕ) (parts : List (Bor (List ℕ))) → texts parts ≡ slice_split at text
    → length parts ≤ length text + 1
parts_few at text parts is =
    omega (arith, length-map parts (λ part. part.now), ap length is, length-slice_split at text, count_by-le-length at text)
