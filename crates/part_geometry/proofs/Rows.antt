-- The numbers of the cells in three rows: by send partition, by receive partition and by piece. Each row counts up from
-- 0 by steps of at most 1, so it takes each number below its count.
use Rattle.std.proofs.Common.{◌≡◌, ℕ, zero, suc, add-zero, ◌+◌, ◌-◌, ◌*◌, ◌<◌, ◌≤◌, ap, arith, inl, inr}
use Rattle.std.proofs.lemmas.Bool.{cases_lt}
use Rattle.part_geometry.specs.Shape.{Shape, IsShape}
use Rattle.part_geometry.specs.Cells.{cells, end, send_of, recv_of}
use Rattle.part_geometry.specs.Pieces.{pieces, last_cell, piece_of}
use Rattle.part_geometry.proofs.Bounds.{cells-pos}
use Rattle.part_geometry.proofs.Parts.{send-zero, recv-zero, send-mono, recv-mono, send-last, recv-last, send-below, recv-below, recv_end-le, recv-next-same, recv-next-more}
use Rattle.part_geometry.proofs.PieceFacts.{send-step, piece-ordered, piece-next, piece-last, piece_of-holds, piece_of-inside, pieces-order}

-- f numbers n cells from 0 on, by steps of at most 1, with `count` numbers in all
pub record IsRow (f : ℕ → ℕ) (n count : ℕ) : Type 0 where
  pub some : 0 < n
  pub first : f 0 ≡ 0
  pub rises : (c : ℕ) → c + 1 < n → f c ≤ f (c + 1)
  pub step : (c : ℕ) → c + 1 < n → f (c + 1) ≤ f c + 1
  pub last : f (n - 1) + 1 ≡ count

-- a row doesn't fall
pub row-mono : (f : ℕ → ℕ) (n count : ℕ) → IsRow f n count → (c k : ℕ) → c + k < n → f c ≤ f (c + k)
row-mono f n count r c zero inside = let e : f (c + zero) ≡ f c = ap f (add-zero c) in omega arith
row-mono f n count r c (suc k) inside =
    let before = row-mono f n count r c k (omega arith) in
    let here = r.rises (c + k) (omega arith) in
    let e : f (c + k + 1) ≡ f (c + suc k) = ap f (let z : c + k + 1 ≡ c + suc k = omega arith in z) in omega arith

-- a later cell has no smaller number
pub row-le : (f : ℕ → ℕ) (n count : ℕ) → IsRow f n count → (c d : ℕ) → c ≤ d → d < n → f c ≤ f d
row-le f n count r c d below inside =
    let h = row-mono f n count r c (d - c) (omega arith) in
    let e : f (c + (d - c)) ≡ f d = ap f (let z : c + (d - c) ≡ d = omega arith in z) in omega arith

-- each number in a row is below the count
pub row-below : (f : ℕ → ℕ) (n count : ℕ) → IsRow f n count → (c : ℕ) → c < n → f c < count
row-below f n count r c inside =
    let some = r.some in
    let h = row-le f n count r c (n - 1) (omega arith) (omega arith) in let l = r.last in omega arith

-- a row takes each number between two of its numbers
pub row-hits : (f : ℕ → ℕ) (n count : ℕ) → IsRow f n count → (c k j : ℕ) → c + k < n → f c ≤ j → j ≤ f (c + k) → (d : ℕ) × (c ≤ d) × (d ≤ c + k) × (f d ≡ j)
row-hits f n count row c zero j inside low high =
    let e : f (c + zero) ≡ f c = ap f (add-zero c) in (c, omega arith, omega arith, omega arith)
row-hits f n count row c (suc k) j inside low high =
    elim (cases_lt (f (c + k)) j) [
      | inl above ↦
          let step = row.step (c + k) (omega arith) in
          let e : f (c + k + 1) ≡ f (c + suc k) = ap f (let z : c + k + 1 ≡ c + suc k = omega arith in z) in
          (c + suc k, omega arith, omega arith, omega arith)
      | inr below ↦
          let h = row-hits f n count row c k j (omega arith) low below in
          (h.0, h.1, (let u = h.2 in omega arith), h.3)
    ]

-- a row takes each number below its count
pub row-all : (f : ℕ → ℕ) (n count : ℕ) → IsRow f n count → (j : ℕ) → j < count → (c : ℕ) × (c < n) × (f c ≡ j)
row-all f n count row j inside =
    let some = row.some in let last = row.last in let first = row.first in
    let e : f (0 + (n - 1)) ≡ f (n - 1) = ap f (let z : 0 + (n - 1) ≡ n - 1 = omega arith in z) in
    let h = row-hits f n count row 0 (n - 1) j (omega arith) (omega arith) (omega arith) in
    (h.0, (let u = h.2 in omega arith), h.3)

recv-step : (g : Shape) (v : IsShape g) (c : ℕ) → c < cells g → recv_of g (c + 1) ≤ recv_of g c + 1
recv-step g v c inside =
    elim (cases_lt (end g c) ((recv_of g c + 1) * g.recv_bytes)) [
      | inl below ↦ let e = recv-next-same g v c inside below in omega arith
      | inr above ↦ let e = recv-next-more g v c (let h = recv_end-le g v c inside in omega arith) in omega arith
    ]

-- the cells' send partitions form a row
pub send-row : (g : Shape) → IsShape g → IsRow (send_of g) (cells g) g.send_parts
send-row g v = record {
  some = cells-pos g v;
  first = send-zero g;
  rises = λ c inside. send-mono g v c (c + 1) (omega arith) (omega arith);
  step = λ c inside. send-step g v c (omega arith);
  last =
      let some = cells-pos g v in
      let up = send-step g v (cells g - 1) (omega arith) in
      let e : send_of g (cells g - 1 + 1) ≡ send_of g (cells g) = ap (send_of g) (let z : cells g - 1 + 1 ≡ cells g = omega arith in z) in
      let l = send-last g v in let b = send-below g v (cells g - 1) (omega arith) in omega arith;
}

-- the cells' receive partitions form a row
pub recv-row : (g : Shape) → IsShape g → IsRow (recv_of g) (cells g) g.recv_parts
recv-row g v = record {
  some = cells-pos g v;
  first = recv-zero g;
  rises = λ c inside. recv-mono g v c (c + 1) (omega arith) (omega arith);
  step = λ c inside. recv-step g v c (omega arith);
  last =
      let some = cells-pos g v in
      let up = recv-step g v (cells g - 1) (omega arith) in
      let e : recv_of g (cells g - 1 + 1) ≡ recv_of g (cells g) = ap (recv_of g) (let z : cells g - 1 + 1 ≡ cells g = omega arith in z) in
      let l = recv-last g v in let b = recv-below g v (cells g - 1) (omega arith) in omega arith;
}

-- the next cell is in the same piece, or in the next
piece-step : (g : Shape) (c : ℕ) → c + 1 < cells g → (piece_of g c ≤ piece_of g (c + 1)) × (piece_of g (c + 1) ≤ piece_of g c + 1)
piece-step g c inside =
    let h = piece_of-holds g c (omega arith) in
    let i = piece_of g c in
    elim (cases_lt c (last_cell g i)) [
      | inl within ↦ let e = piece_of-inside g i (c + 1) h.inside (let l = h.low in omega arith) (omega arith) in (omega arith, omega arith)
      | inr end ↦
          let last : last_cell g i ≡ c = (let u = h.high in omega arith) in
          elim (cases_lt (i + 1) (pieces g)) [
            | inl more ↦
                let n = piece-next g i more in let o = piece-ordered g (i + 1) more in
                let e = piece_of-inside g (i + 1) (c + 1) more (omega arith) (let q = o.0 in omega arith) in (omega arith, omega arith)
            | inr none ↦ let e = piece-last g i (let q = h.inside in omega arith) in absurd (omega arith)
          ]
    ]

-- the cells' pieces form a row
pub piece-row : (g : Shape) → IsShape g → IsRow (piece_of g) (cells g) (pieces g)
piece-row g v = record {
  some = cells-pos g v;
  first =
      let h = piece_of-holds g 0 (cells-pos g v) in
      elim (cases_lt 0 (piece_of g 0)) [
        | inl more ↦ let o = pieces-order g 0 (piece_of g 0) more h.inside in let l = h.low in absurd (omega arith)
        | inr none ↦ omega arith
      ];
  rises = λ c inside. (piece-step g c inside).0;
  step = λ c inside. (piece-step g c inside).1;
  last =
      let some = cells-pos g v in
      let h = piece_of-holds g (cells g - 1) (omega arith) in
      elim (cases_lt (piece_of g (cells g - 1) + 1) (pieces g)) [
        | inl more ↦
            let o = pieces-order g (piece_of g (cells g - 1)) (piece_of g (cells g - 1) + 1) (omega arith) more in
            let q = piece-ordered g (piece_of g (cells g - 1) + 1) more in let u = h.high in let a = q.0 in let b = q.1 in absurd (omega arith)
        | inr none ↦ let i = h.inside in omega arith
      ];
}
