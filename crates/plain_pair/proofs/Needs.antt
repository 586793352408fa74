-- How many send partitions a piece touches, from the first cells of the pieces: those from the partition of its first
-- cell to that of its last.
use Rattle.std.proofs.Common.{◌≡◌, ℕ, ◌+◌, ◌-◌, ◌<◌, ◌≤◌, List, [], ◌∷◌, ◌++◌, length, get_or, map, refl, ap, arith}
use Rattle.std.specs.List.{range_with_len}
use Rattle.std.proofs.lemmas.List.FromFn.{map-range_with_len_more}
use Rattle.part_geometry.specs.declared.TheConstants.{MAX_PARTS}
use Rattle.part_geometry.specs.declared.walk.Cell.{Cell}
use Rattle.part_geometry.specs.Shape.{Shape, IsShape}
use Rattle.part_geometry.specs.Cells.{cells, send_of}
use Rattle.part_geometry.specs.Pieces.{pieces, first_cell, last_cell, first_part, last_part, piece_of, need_count}
use Rattle.part_geometry.specs.Walk.{cell_at}
use Rattle.part_geometry.proofs.PieceFacts.{piece-ordered, piece_of-inside, piece_of-holds, need_count-pos}
use Rattle.part_geometry.proofs.Parts.{send-mono, send-below}
use Rattle.plain_pair.specs.declared.tables.Row.TheVariants.{Piece}
use Rattle.plain_pair.specs.Tables.{AreCellsOf, AreFirsts}
use Rattle.plain_pair.proofs.Firsts.{cells_length, cell_there}

-- the cells numbered i by piece are those of piece i
pub piece_cells : (g : Shape) (i first end : ℕ) → i < pieces g → AreCellsOf Piece g i first end → (first_cell g i ≡ first) × (last_cell g i + 1 ≡ end)
piece_cells g i first end inside is =
    let some = is.some in let within = is.inside in
    let o = piece-ordered g i inside in
    let f = is.all (first_cell g i) (omega (arith, o.0, o.1)) (piece_of-inside g i (first_cell g i) inside (omega arith) o.0) in
    let l = is.all (last_cell g i) o.1 (piece_of-inside g i (last_cell g i) inside o.0 (omega arith)) in
    let fn = is.numbered first (omega arith) some in
    let en = is.numbered (end - 1) (omega arith) (omega arith) in
    let fh = piece_of-holds g first (omega arith) in
    let eh = piece_of-holds g (end - 1) (omega arith) in
    let fl : first_cell g (piece_of g first) ≡ first_cell g i = ap (first_cell g) fn in
    let el : last_cell g (piece_of g (end - 1)) ≡ last_cell g i = ap (last_cell g) en in
    let a = fh.low in let b = eh.high in let c = f.0 in let d = l.1 in
    (omega arith, omega arith)

-- what one turn needs, and makes
pub record TurnOf (g : Shape) (i first next : ℕ) (a b : Cell) : Type 0 where
  pub low : first < cells g
  pub high : next ≤ cells g
  pub some : 1 ≤ next
  pub first_is : a.send ≡ first_part g i
  pub last_is : b.send ≡ last_part g i
  pub ordered : a.send ≤ b.send + 1
  pub small : b.send < MAX_PARTS

-- what one turn reads for piece i from the tables: its first and its last cell, and their send partitions
pub turn : (g : Shape) (v : IsShape g) (all : List Cell) (firsts : List ℕ) (i first next : ℕ) (d e : Cell)
    → all ≡ map (cell_at g) (range_with_len 0 (cells g)) → AreFirsts Piece g firsts → i + 1 < length firsts
    → first ≡ get_or firsts i 0 → next ≡ get_or firsts (i + 1) 0
    → TurnOf g i first next (get_or all first d) (get_or all (next - 1) e)
unfolding first_part last_part
turn g v all firsts i first next d e is f inside first_is next_is =
    let size = f.size in
    let cells_of = rw (← first_is, ← next_is) at (f.each i (omega arith)) in
    let h = piece_cells g i first next (omega arith) cells_of in
    let some = cells_of.some in let within = cells_of.inside in
    let all_size = cells_length g all is in
    let at_first = cell_there g all first d is (omega arith) in
    let at_last = cell_there g all (next - 1) e is (omega arith) in
    let last : last_cell g i ≡ next - 1 = (let z = h.1 in omega arith) in
    let pos = need_count-pos g v i (omega arith) in
    let a : (get_or all first d).send ≡ send_of g first = ap (λ x. x.send) at_first in
    let b : (get_or all (next - 1) e).send ≡ send_of g (next - 1) = ap (λ x. x.send) at_last in
    let fp : send_of g (first_cell g i) ≡ send_of g first = ap (send_of g) h.0 in
    let lp : send_of g (last_cell g i) ≡ send_of g (next - 1) = ap (send_of g) last in
    let few = send-below g v (next - 1) (omega arith) in let many = v.send_parts.1 in
    let up = send-mono g v first (next - 1) (omega arith) (omega arith) in
    record {
      low = omega arith;
      high = within;
      some = omega arith;
      first_is = omega arith;
      last_is = omega arith;
      ordered = omega arith;
      small = omega arith;
    }

-- so it pushes how many send partitions piece i touches
pub needs_more : (g : Shape) (i first next n : ℕ) (a b : Cell) (needs needs' : List ℕ) → TurnOf g i first next a b
    → needs ≡ map (need_count g) (range_with_len 0 i) → n ≡ b.send + 1 - a.send → needs' ≡ needs ++ n ∷ []
    → needs' ≡ map (need_count g) (range_with_len 0 (i + 1))
needs_more g i first next n a b needs needs' t before is after =
    let fi = t.first_is in let la = t.last_is in
    let e : n ≡ need_count g i = omega arith in
    rw (after, before, e, map-range_with_len_more (need_count g) 0 i i (omega arith)) refl
