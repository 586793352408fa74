-- A mark is one more of those of its round, and sends out what it completes: one flag more is set, and those pieces are
-- whole that lacked this partition alone.
use Rattle.std.proofs.Common.{◌≡◌, ℕ, ◌+◌, ◌<◌, Bool, true, false, cond, List, length, get_or, set, count_by, arith}
use Rattle.std.specs.List.{range_with_len}
use Rattle.std.proofs.lemmas.List.{length-set}
use Rattle.std.proofs.lemmas.List.Sums.{sum_by-set, count_by-le-length}
use Rattle.std.proofs.lemmas.List.FromFn.{length-range_with_len}
use Rattle.part_geometry.proofs.Bounds.{cells-le}
use Rattle.part_geometry.proofs.PieceFacts.{pieces-le}
use Rattle.part_geometry.specs.Pieces.{pieces}
use Rattle.plain_pair.specs.Kept.{Kept, is_whole}
use Rattle.plain_pair.specs.Sound.{IsSound}
use Rattle.plain_pair.specs.Marking.{CanMark}
use Rattle.plain_pair.specs.Tables.{ArePiecesOf}
use Rattle.plain_pair.specs.Growing.{marks_in, pieces_in, Grows}
use Rattle.plain_pair.proofs.Marks.{marked_kept, whole_after, sent_by}

-- one flag more is set
one_more : (flags : List Bool) (p : ℕ) → p < length flags → get_or flags p false ≡ false → count_by (λ b. b) (set flags p true) ≡ count_by (λ b. b) flags + 1
one_more flags p inside free =
    let sum : count_by (λ b. b) (set flags p true) + cond (get_or flags p false) 1 0 ≡ count_by (λ b. b) flags + 1 = sum_by-set (λ b. cond b 1 0) flags p true false inside in
    let old = rw free at sum in
    omega arith

-- a mark raises the number of marks in the round by 1 and that of pieces out by those it sends, within the limits
pub grows : (k : Kept) (missing : List ℕ) (p : ℕ) (buffers : List (List ℕ)) (first end sent : ℕ) → IsSound k missing → CanMark k p → ArePiecesOf k.shape p first end
    → sent ≡ sent_by missing first end → Grows k (marked_kept k p buffers) sent
unfolding marks_in pieces_in
grows k missing p buffers first end sent s m t is =
    let g = k.shape in
    let v = s.shape in
    let size = s.sizes.marked_size in
    let inside = m.inside in
    let total = v.length in
    let a = cells-le g v in
    let b = pieces-le g in
    let parts = v.send_parts.1 in
    let sum = whole_after k missing p first end s m t in
    let few = count_by-le-length (λ b. b) (set k.marked p true) in
    let few_flags = size_set k.marked p in
    let few_out = count_by-le-length (is_whole g (set k.marked p true)) (range_with_len 0 (pieces g)) in
    let range = length-range_with_len 0 (pieces g) in
    record {
      marks = one_more k.marked p (omega arith) m.free;
      pieces = omega arith;
      few_marks = omega arith;
      few_pieces = omega arith;
    }
  where
    size_set : (flags : List Bool) (p : ℕ) → length (set flags p true) ≡ length flags
    size_set flags p = length-set flags p true
