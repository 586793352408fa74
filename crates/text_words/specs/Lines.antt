-- The lines of a text, and the words of a line.
use Rattle.std.specs.Prelude.{◌≡◌, ℕ, ◌+◌, ◌-◌, ◌≤◌, Bool, true, false, ◌||◌, ◌==◌, not, if◌then◌else◌, List, []}
use Rattle.std.specs.Prelude.{◌∷◌, length, map, slice_index, slice_index_or}
use Rattle.std.specs.List.{slice_split, filter}
use Rattle.std.specs.Str.Lines.{strip_carriage_return}
use Rattle.std.specs.Borrow.{Bor}

-- texts, without where they lie in memory
abbrev pub texts : List (Bor (List ℕ)) → List (List ℕ)
texts words = map (λ word. word.now) words

-- what stands between the LFs
abbrev pub parts_of : List ℕ → List (List ℕ)
parts_of text = slice_split (λ byte. byte == 10) text

-- a space or a tab
abbrev pub is_blank : ℕ → Bool
is_blank byte = byte == 32 || byte == 9

-- the words of a line: what stands between its blanks
abbrev pub words_of : List ℕ → List (List ℕ)
words_of line = filter (λ word. not (length word == 0)) (slice_split is_blank line)

-- a line without words is skipped, and one whose first word begins with `#`
abbrev pub is_skipped : List (List ℕ) → Bool
is_skipped [] = true
is_skipped (first ∷ rest) = slice_index first 0 == 35

-- a line that isn't skipped: its number, and its words
pub record Sentence : Type 0 where
  pub number : ℕ
  pub words : List (List ℕ)

-- the lines that aren't skipped, where the first of all has the number n. One CR at the end of a line is dropped
abbrev pub sentences_from : ℕ → List (List ℕ) → List Sentence
sentences_from n [] = []
sentences_from n (line ∷ rest) =
    let words = words_of (strip_carriage_return line) in
    if is_skipped words then sentences_from (n + 1) rest
    else record { number = n; words = words } ∷ sentences_from (n + 1) rest

-- the lines of a text that aren't skipped, where all lines are counted from 1
abbrev pub sentences_of : List ℕ → List Sentence
sentences_of text = sentences_from 1 (parts_of text)

-- the words of line n of a text, where lines are counted from 1
abbrev pub words_at : List ℕ → ℕ → List (List ℕ)
words_at text n = words_of (strip_carriage_return (slice_index_or (parts_of text) (n - 1) []))

-- the text has a line n that isn't skipped
pub record HasLine (text : List ℕ) (n : ℕ) : Type 0 where
  pub least : 1 ≤ n
  pub most : n ≤ length (parts_of text)
  pub read : is_skipped (words_at text n) ≡ false
