-- What the readers of a geometry know while they walk over its cells, and what follows of their answers. Pieces count
-- up from cell to cell, so the cells before a piece, and those up to its last, are found by comparing the piece of each
-- cell with it.
use Rattle.std.proofs.Common.{◌≡◌, Some, None, refl, ◌↔◌, ℕ, zero, suc, ◌+◌, ◌-◌, ◌*◌, ◌/◌, ◌^◌, ◌<◌, ◌≤◌, min, add-one, ap, ◌∙◌, arith, inl, inr}
use Rattle.std.specs.Int.{IsBitSet}
use Rattle.std.proofs.lemmas.Bool.{cases_lt, le-ltb, lt-ltb, cond-false}
use Rattle.std.proofs.lemmas.Nat.{pow_pos}
use Rattle.std.proofs.lemmas.Nat.Bits.{and_pow, bit_at_ones, bit_at_ones_above, ones_shr}
use Rattle.part_geometry.specs.declared.walk.Cell.{Cell}
use Rattle.part_geometry.specs.Shape.{Shape, IsShape}
use Rattle.part_geometry.specs.Cells.{cells, start, end, send_of, recv_of}
use Rattle.part_geometry.specs.Pieces.{Run, pieces, first_cell, last_cell, piece_of, Touches, first_part, last_part, need_count, need}
use Rattle.part_geometry.specs.Walk.{Walked, cell_at, next_cell, passed}
use Rattle.part_geometry.proofs.Bounds.{cells-pos, start-rises, end-start}
use Rattle.part_geometry.proofs.Parts.{start-le, end-min, send-next-more, recv-next-more, send-mono, recv-mono, send-below, recv-below}
use Rattle.part_geometry.proofs.PieceFacts.{piece-ordered, piece-last, piece_of-inside, piece_of-holds, before-piece, upto-piece, Touches-range, need_count-pos}
use Rattle.part_geometry.proofs.WalkFacts.{some_next}

-- the walk over the geometry has passed n cells
pub record Counted (g : Shape) (w : Walked) (n : ℕ) : Type 0 where
  pub shape : w.shape ≡ g
  pub place : w.place ≡ n
  pub inside : n ≤ cells g

-- first and end count the passed cells before a piece, and those up to its last
pub record Split (g : Shape) (i : ℕ) (w : Walked) (first end : ℕ) : Type 0 where
  pub shape : w.shape ≡ g
  pub inside : w.place ≤ cells g
  pub before : first ≡ min w.place (first_cell g i)
  pub upto : end ≡ min w.place (last_cell g i + 1)

-- each cell begins a partition of some side, so there are no more cells than partitions before
cell-le : (g : Shape) (v : IsShape g) (c : ℕ) → c < cells g → c ≤ send_of g c + recv_of g c
cell-le g v zero inside = omega arith
cell-le g v (suc c) inside =
    let before = cell-le g v c (omega arith) in
    let s = send-mono g v c (c + 1) (omega arith) (omega arith) in
    let r = recv-mono g v c (c + 1) (omega arith) (omega arith) in
    rw (← add-one) (elim (end-min g v c (omega arith)) [
      | inl e ↦ let m = send-next-more g v c e in omega arith
      | inr e ↦ let m = recv-next-more g v c e in omega arith
    ])

-- a message has a cell, and fewer cells than both sides together have partitions
pub cells-few : (g : Shape) → IsShape g → (1 ≤ cells g) × (cells g + 1 ≤ g.send_parts + g.recv_parts)
cells-few g v =
    let some = cells-pos g v in
    let last = cell-le g v (cells g - 1) (omega arith) in
    let s = send-below g v (cells g - 1) (omega arith) in
    let r = recv-below g v (cells g - 1) (omega arith) in
    (omega arith, omega arith)

-- where a walk gives a cell, it is the one that it stands before
next-some : (w : Walked) (cell : Cell) → next_cell w ≡ Some cell → (w.place < cells w.shape) × (cell ≡ cell_at w.shape w.place)
next-some w cell given =
    elim (cases_lt w.place (cells w.shape)) [
      | inl before ↦
          let e = some_next w.shape w.place before in
          (before, cc)
      | inr h ↦ let e : next_cell w ≡ None = cond-false _ _ _ (le-ltb w.place (cells w.shape) h) in absurd (cc)
    ]

-- where it gives none, none is left
pub next-none : (w : Walked) → next_cell w ≡ None → cells w.shape ≤ w.place
next-none w given =
    elim (cases_lt w.place (cells w.shape)) [
      | inl before ↦ let e = some_next w.shape w.place before in absurd (cc)
      | inr h ↦ h
    ]

-- what a count is behind a cell, by whether the cell is counted
pub record IsCounted (small : Type 0) (before after : ℕ) : Type 0 where
  pub more : small → after ≡ before + 1
  pub same : ¬ small → after ≡ before

-- the counts behind the next cell
pub split-next : (g : Shape) (i : ℕ) (w : Walked) (first end f e : ℕ) (cell : Cell) → i < pieces g → Split g i w first end
    → next_cell w ≡ Some cell → IsCounted (cell.piece < i) first f → IsCounted (cell.piece ≤ i) end e → Split g i (passed w) f e
split-next g i w first end f e cell inside split given before upto =
    let n = next-some w cell given in
    let within : w.place < cells g = rw (← split.shape) n.0 in
    let number : cell.piece ≡ piece_of g w.place = ap (λ x. x.piece) n.1 ∙ ap (λ s. piece_of s w.place) split.shape in
    let b = before-piece g i w.place inside within in
    let u = upto-piece g i w.place inside within in
    let sb = split.before in let su = split.upto in
    let step : (passed w).place ≡ w.place + 1 = rw (lt-ltb w.place (cells w.shape) n.0) refl in
    record {
      shape = split.shape;
      inside = rw step (omega arith);
      before = rw step (elim (cases_lt cell.piece i) [
        | inl less ↦ let m = before.more less in let h = b.1 (omega arith) in omega arith
        | inr more ↦ let m = before.same (λ h. absurd (omega arith)) in
            elim (cases_lt w.place (first_cell g i)) [
              | inl h ↦ let k = b.0 h in absurd (omega arith)
              | inr h ↦ omega arith
            ]
      ]);
      upto = rw step (elim (cases_lt i cell.piece) [
        | inl more ↦ let m = upto.same (λ h. absurd (omega arith)) in
            elim (cases_lt (last_cell g i) w.place) [
              | inl h ↦ omega arith
              | inr h ↦ let k = u.0 h in absurd (omega arith)
            ]
        | inr less ↦ let m = upto.more less in let h = u.1 (omega arith) in omega arith
      ]);
    }

-- no count passes the number of cells
pub split-small : (g : Shape) (v : IsShape g) (i : ℕ) (w : Walked) (first end : ℕ) → Split g i w first end → (first ≤ 2047) × (end ≤ 2047)
split-small g v i w first end split =
    let few = cells-few g v in let s = v.send_parts.1 in let r = v.recv_parts.1 in
    let b = split.before in let u = split.upto in let h = split.inside in
    (omega arith, omega arith)

-- behind the last cell they give the piece's first and last
pub split-whole : (g : Shape) (i : ℕ) (w : Walked) (first end : ℕ) → i < pieces g → Split g i w first end → next_cell w ≡ None
    → (first ≡ first_cell g i) × (end ≡ last_cell g i + 1)
split-whole g i w first end inside split none =
    let all : cells g ≤ w.place = rw (← split.shape) (next-none w none) in
    let o = piece-ordered g i inside in
    let b = split.before in let u = split.upto in
    (omega arith, omega arith)

-- the piece of the last cell is the last piece
pub piece_of-last : (g : Shape) (c : ℕ) → c + 1 ≡ cells g → piece_of g c + 1 ≡ pieces g
piece_of-last g c last =
    let some = (piece_of-holds g c (omega arith)).inside in
    let i = pieces g - 1 in
    let o = piece-ordered g i (omega arith) in
    let l = piece-last g i (omega arith) in
    let e : piece_of g c ≡ i = piece_of-inside g i c (omega arith) (let h = o.0 in omega arith) (omega arith) in
    omega arith

-- the lowest k bits are set, and no others
ones_set : (k b : ℕ) → IsBitSet (2 ^ k - 1) b ↔ (b < k)
ones_set k b = (
  (λ set. elim (cases_lt b k) [
    | inl below ↦ below
    | inr above ↦ absurd (set (let e = and_pow (2 ^ k - 1) b ∙ ap (λ x. x * 2 ^ b) (bit_at_ones_above k b above) in omega arith))
  ]),
  (λ below none.
      let some = pow_pos b in
      let e = and_pow (2 ^ k - 1) b ∙ ap (λ x. x * 2 ^ b) (bit_at_ones k b below) in
      absurd (omega arith)),
)

-- bit b of the mask is set exactly where the piece touches the partition b behind its first
pub need-bit : (g : Shape) (v : IsShape g) (i b : ℕ) → i < pieces g → IsBitSet (need g i) b ↔ Touches g i (first_part g i + b)
unfolding need
need-bit g v i b inside =
    let t = Touches-range g v i (first_part g i + b) inside in
    let o = ones_set (need_count g i) b in (
      (λ set. t.1 (omega arith) (let h = o.0 set in omega arith)),
      (λ touches. o.1 (let h = (t.0 touches).1 in omega arith)),
    )

-- 32 ones without the lowest 32 - k are the mask of a piece that touches k partitions: so the code makes it
pub need-ones : (g : Shape) (i k : ℕ) → k ≤ 32 → k ≡ need_count g i → (2 ^ 32 - 1) / 2 ^ (32 - k) ≡ need g i
unfolding need
need-ones g i k few is =
    let e : 32 - (32 - k) ≡ need_count g i = omega arith in
    ones_shr 32 (32 - k) (omega arith) ∙ ap (λ n. 2 ^ n - 1) e

-- a cell starts in its send partition
pub send-starts : (g : Shape) (v : IsShape g) (c : ℕ)
    → (send_of g c * g.send_bytes ≤ start g c) × (start g c < (send_of g c + 1) * g.send_bytes)
unfolding send_of
send-starts g v c = let s = v.send_bytes.0 in (omega arith, omega arith)

-- and in its receive partition
pub recv-starts : (g : Shape) (v : IsShape g) (c : ℕ)
    → (recv_of g c * g.recv_bytes ≤ start g c) × (start g c < (recv_of g c + 1) * g.recv_bytes)
unfolding recv_of
recv-starts g v c = let r = v.recv_bytes.0 in (omega arith, omega arith)

-- the send partition of the first cell of a piece's run is the piece's first
pub first_part-is : (g : Shape) (i p : ℕ) (run : Run) → p ≡ send_of g run.0 → run ≡ (first_cell g i, last_cell g i) → p ≡ first_part g i
unfolding first_part
first_part-is g i p run of is = of ∙ ap (λ r. send_of g r.0) is

-- and that of the last cell is its last
pub last_part-is : (g : Shape) (i p : ℕ) (run : Run) → p ≡ send_of g run.1 → run ≡ (first_cell g i, last_cell g i) → p ≡ last_part g i
unfolding last_part
last_part-is g i p run of is = of ∙ ap (λ r. send_of g r.1) is

-- a piece touches its first partition
pub first_part-touched : (g : Shape) (v : IsShape g) (i : ℕ) → i < pieces g → Touches g i (first_part g i)
first_part-touched g v i inside =
    let some = need_count-pos g v i inside in
    (Touches-range g v i (first_part g i) inside).1 (omega arith) (omega arith)

-- a piece's last partition is one of the send partitions
pub last_part-below : (g : Shape) (v : IsShape g) (i : ℕ) → i < pieces g → last_part g i < g.send_parts
unfolding last_part
last_part-below g v i inside = send-below g v (last_cell g i) (piece-ordered g i inside).1

-- a piece ends behind its start
pub piece-bytes : (g : Shape) (v : IsShape g) (i : ℕ) → i < pieces g → start g (first_cell g i) < end g (last_cell g i)
piece-bytes g v i inside =
    let o = piece-ordered g i inside in
    let before = start-le g v (first_cell g i) (last_cell g i) o.0 (let h = o.1 in omega arith) in
    let rise = start-rises g v (last_cell g i) o.1 in
    let e = end-start g (last_cell g i) in omega arith
