-- Where the cells of a send or a receive partition begin and end, for both sides at once: a cell that is the first of
-- its partition starts no earlier than the partition, and the cell before it ends no later than the partition before,
-- which is the same place.
use Rattle.std.proofs.Common.{◌≡◌, ℕ, ◌+◌, ◌-◌, ◌*◌, ◌<◌, ◌≤◌, ap, sym, ◌∙◌, arith, inl, inr}
use Rattle.std.proofs.lemmas.Bool.{cases_lt}
use Rattle.std.proofs.lemmas.Nat.{mul-le}
use Rattle.part_geometry.specs.Shape.{Shape, IsShape}
use Rattle.part_geometry.specs.Cells.{cells, start, end, send_of, recv_of}
use Rattle.part_geometry.proofs.Bounds.{start-zero, start-last, end-start}
use Rattle.part_geometry.proofs.Parts.{send_end-le, recv_end-le}
use Rattle.part_geometry.proofs.ReaderFacts.{send-starts, recv-starts}
use Rattle.part_geometry.proofs.Rows.{IsRow, send-row, recv-row}
use Rattle.part_tables.specs.Parts.{cells_before}
use Rattle.part_tables.proofs.CountFacts.{is_front, before-all, before-le, before-first, before-rises}

-- one side cuts the message into `parts` partitions of `bytes` bytes, and `part` is that of each cell
pub record IsSide (g : Shape) (part : ℕ → ℕ) (parts bytes : ℕ) : Type 0 where
  pub row : IsRow part (cells g) parts
  pub starts : (c : ℕ) → part c * bytes ≤ start g c
  pub ends : (c : ℕ) → c < cells g → end g c ≤ (part c + 1) * bytes
  pub whole : start g (cells g) ≡ parts * bytes

-- the sender is such a side
pub send_side : (g : Shape) → IsShape g → IsSide g (send_of g) g.send_parts g.send_bytes
send_side g v = record {
  row = send-row g v;
  starts = λ c. (send-starts g v c).0;
  ends = λ c inside. send_end-le g v c inside;
  whole = start-last g v;
}

-- and the receiver is
pub recv_side : (g : Shape) → IsShape g → IsSide g (recv_of g) g.recv_parts g.recv_bytes
recv_side g v = record {
  row = recv-row g v;
  starts = λ c. (recv-starts g v c).0;
  ends = λ c inside. recv_end-le g v c inside;
  whole = start-last g v ∙ v.same;
}

-- the first cell of a partition starts where the partition does
pub start-first : (g : Shape) (part : ℕ → ℕ) (parts bytes : ℕ) → IsSide g part parts bytes → (p : ℕ) → p ≤ parts
    → start g (cells_before part (cells g) p) ≡ p * bytes
start-first g part parts bytes side p inside =
    let n = cells g in
    let c = cells_before part n p in
    elim (cases_lt p parts) [
      | inl below ↦
          let here = before-first part n parts side.row p below in
          let low = side.starts c in
          let less = before-rises part n parts side.row p below in
          let few = before-le part n parts side.row (p + 1) in
          let same : part c * bytes ≡ p * bytes = ap (λ x. x * bytes) here in
          elim (cases_lt 0 c) [
            | inl some ↦
                let earlier = (is_front part n parts side.row p).before (c - 1) (omega arith) in
                let ends = side.ends (c - 1) (omega arith) in
                let within : (part (c - 1) + 1) * bytes ≤ p * bytes = mul-le (part (c - 1) + 1) bytes p bytes (omega arith) (omega arith) in
                let there : end g (c - 1) ≡ start g c = end-start g (c - 1) ∙ ap (start g) (let z : c - 1 + 1 ≡ c = omega arith in z) in
                omega arith
            | inr none ↦
                let there : start g c ≡ 0 = ap (start g) (let z : c ≡ 0 = omega arith in z) ∙ start-zero g in
                omega arith
          ]
      | inr last ↦
          let same : p ≡ parts = omega arith in
          ap (λ x. start g (cells_before part n x)) same ∙ ap (start g) (before-all part n parts side.row) ∙ side.whole ∙ ap (λ x. x * bytes) (sym same)
    ]

-- and the last one ends where the partition does
pub end-last : (g : Shape) (part : ℕ → ℕ) (parts bytes : ℕ) → IsSide g part parts bytes → (p : ℕ) → p < parts
    → end g (cells_before part (cells g) (p + 1) - 1) ≡ (p + 1) * bytes
end-last g part parts bytes side p inside =
    let next = cells_before part (cells g) (p + 1) in
    let rise = before-rises part (cells g) parts side.row p inside in
    end-start g (next - 1) ∙ ap (start g) (let z : next - 1 + 1 ≡ next = omega arith in z) ∙ start-first g part parts bytes side (p + 1) (omega arith)
