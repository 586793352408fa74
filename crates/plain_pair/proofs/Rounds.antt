-- The rounds of a record, and what is out of them. A piece touches at least one partition, so none is out of a round
-- without marks, and a round put behind the others changes nothing of those.
use Rattle.std.proofs.Common.{◌≡◌, ℕ, add-zero, ◌+◌, ◌-◌, ◌<◌, ◌≤◌, Bool, true, false, List, [], ◌∷◌, ◌++◌, length, get_or, replicate, is_some, ap, arith}
use Rattle.std.specs.FinMap as rounds
use Rattle.std.specs.Ordering.{nat_cmp}
use Rattle.std.proofs.lemmas.List.{get_or_push, get_or_append_left}
use Rattle.std.proofs.lemmas.List.Sums.{sum_by_push}
use Rattle.part_geometry.specs.Shape.{Shape, IsShape}
use Rattle.part_geometry.specs.Pieces.{pieces, need_count, needed, first_part, last_part, first_cell, last_cell}
use Rattle.part_geometry.proofs.PieceFacts.{need_count-pos, piece-ordered}
use Rattle.part_geometry.proofs.Parts.{send-below}
use Rattle.plain_pair.specs.Record.{Round, Record, no_marks, round_of, is_marked, is_out, round_out, pieces_out}
use Rattle.plain_pair.specs.Kept.{has, is_whole}
use Rattle.plain_pair.proofs.Counts.{has-none, list_all-range, list_all-not, count-none}

-- no partition is marked in an empty round
pub is_marked-none : (p : ℕ) → is_marked no_marks p ≡ false
is_marked-none p = ap (λ o. is_some o) (rounds.get-empty nat_cmp p)

-- a new round behind the others leaves the rounds before it
pub round_of-old : (r : Record) (new : Round) (k : ℕ) → 0 < k → k ≤ length r.rounds → get_or (r.rounds ++ new ∷ []) (k - 1) no_marks ≡ round_of r k
round_of-old r new k pos old = get_or_append_left r.rounds (new ∷ []) no_marks (k - 1) (omega arith)

-- and is the next round
pub round_of-new : (rs : List Round) (new : Round) (k : ℕ) → k ≡ length rs + 1 → get_or (rs ++ new ∷ []) (k - 1) no_marks ≡ new
round_of-new rs new k is = get_or_push rs new no_marks (k - 1) (omega arith)

-- a piece touches its first partition, which is among the partitions
pub first_needed : (g : Shape) (v : IsShape g) (i : ℕ) → i < pieces g → (first_part g i < first_part g i + need_count g i) × (first_part g i < g.send_parts)
unfolding first_part
first_needed g v i inside =
    let n = need_count-pos g v i inside in
    let o = piece-ordered g i inside in
    (omega arith, send-below g v (first_cell g i) (omega (arith, o.0, o.1)))

-- each partition that a piece touches is among them
pub needed_below : (g : Shape) (v : IsShape g) (i p : ℕ) → i < pieces g → p < first_part g i + need_count g i → first_part g i ≤ p → p < g.send_parts
unfolding last_part
needed_below g v i p inside below above =
    let n = need_count-pos g v i inside in
    let o = piece-ordered g i inside in
    let l = send-below g v (last_cell g i) o.1 in omega arith

-- no piece is out where nothing is marked
pub is_out-none : (g : Shape) (v : IsShape g) (i : ℕ) → i < pieces g → is_out g no_marks i ≡ false
unfolding is_out needed
is_out-none g v i inside =
    let h = first_needed g v i inside in
    list_all-not (is_marked no_marks) (first_part g i) (need_count g i) (first_part g i) (omega arith) h.0 (is_marked-none (first_part g i))

-- so no piece of an empty round is out
pub round_out-none : (g : Shape) → IsShape g → round_out g no_marks ≡ 0
unfolding round_out
round_out-none g v = count-none (is_out g no_marks) 0 (pieces g) (λ i low high. is_out-none g v i (omega arith))

-- and an empty round more leaves the number of pieces out
pub pieces_out-new : (g : Shape) → IsShape g → (r : Record) (s : Record) → s.rounds ≡ r.rounds ++ no_marks ∷ [] → pieces_out g s ≡ pieces_out g r
unfolding pieces_out
pieces_out-new g v r s is = rw (is, sum_by_push (round_out g) r.rounds no_marks, round_out-none g v) (add-zero _)

-- no piece is whole where no partition is marked
pub is_whole-none : (g : Shape) (v : IsShape g) (n i : ℕ) → i < pieces g → is_whole g (replicate n false) i ≡ false
unfolding is_whole needed
is_whole-none g v n i inside =
    let h = first_needed g v i inside in
    list_all-not (has (replicate n false)) (first_part g i) (need_count g i) (first_part g i) (omega arith) h.0 (has-none n (first_part g i))

-- each piece is whole where all partitions are
pub is_whole-all : (g : Shape) (v : IsShape g) (marks : List Bool) (i : ℕ) → i < pieces g → ((p : ℕ) → p < g.send_parts → has marks p ≡ true) → is_whole g marks i ≡ true
unfolding is_whole needed
is_whole-all g v marks i inside all =
    list_all-range (has marks) (first_part g i) (need_count g i) (λ p low high. all p (needed_below g v i p inside high low))
