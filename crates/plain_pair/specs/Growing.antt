-- What several marks count, by what is kept.
use Rattle.std.specs.Prelude.{◌≡◌, ℕ, ◌+◌, ◌≤◌, MatchResult, Result, Err, None, count_by}
use Rattle.std.specs.List.{range_with_len}
use Rattle.part_geometry.specs.declared.TheConstants.{MAX_PARTS, MAX_TOTAL}
use Rattle.part_geometry.specs.declared.answers.Marks.{Marks}
use Rattle.part_geometry.specs.Pieces.{pieces}
use Rattle.plain_pair.specs.declared.answers.PlainStop.{PlainStop}
use Rattle.plain_pair.specs.Kept.{Kept, is_whole}
use Rattle.plain_pair.specs.StandsFor.{StandsFor}
use Rattle.plain_pair.specs.Many.{Progress, told}

-- how many partitions are marked in the sender's round, and how many of its pieces are out
unfoldable pub marks_in : Kept → ℕ
marks_in kept = count_by (λ b. b) kept.marked

unfoldable pub pieces_in : Kept → ℕ
pieces_in kept = count_by (is_whole kept.shape kept.marked) (range_with_len 0 (pieces kept.shape))

-- a mark raises both
pub record Grows (old new : Kept) (sent : ℕ) : Type 0 where
  pub marks : marks_in new ≡ marks_in old + 1
  pub pieces : pieces_in new ≡ pieces_in old + sent
  pub few_marks : marks_in new ≤ MAX_PARTS
  pub few_pieces : pieces_in new ≤ MAX_TOTAL

-- what was counted in this call is among what is marked and out
pub record IsCounted (kept : Kept) (marks : Marks) : Type 0 where
  pub count : marks.count ≤ marks_in kept
  pub sent : marks.sent ≤ pieces_in kept

-- the pair and the counts are where a call came to, and nothing was refused
pub record IsAt (kept : Kept) (marks : Marks) (done : Progress) : Type 0 where
  pub stands : StandsFor kept done.after
  pub count : marks.count ≡ done.count
  pub sent : marks.sent ≡ done.sent
  pub going : done.refused ≡ None

-- one mark more: the counts go on, or the call ends with this answer
abbrev pub GoesOn : Kept → Marks → Result (Unit {0}) PlainStop → Progress → Type 0
GoesOn kept marks result done =
    StandsFor kept done.after
    × MatchResult result (λ _. IsAt kept marks done) (λ stop. told marks.round done ≡ Err stop)
