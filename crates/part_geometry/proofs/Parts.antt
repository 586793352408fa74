-- Which partition a cell lies in, from cell to cell. A cell's partition is the quotient of its start by the partition's
-- size; the next cell starts at the nearer of the next multiples of the two sizes, so a quotient stays, or goes up by
-- one.
use Rattle.std.proofs.Common.{◌≡◌, ◌⊎◌, ℕ, ◌+◌, ◌-◌, ◌*◌, ◌/◌, ◌<◌, ◌≤◌, ap, ◌∙◌, arith, inl, inr}
use Rattle.std.proofs.Math.Nat.{zero-div, mul-div_left, div-eq_of_lt-le, div-lt_iff_lt-mul, le-div_iff_mul-le}
use Rattle.std.proofs.lemmas.Bool.{cases_lt}
use Rattle.part_geometry.specs.Shape.{Shape, IsShape}
use Rattle.part_geometry.specs.Cells.{cells, start, end, send_of, recv_of}
use Rattle.part_geometry.proofs.Bounds.{start-next, start-below, start-mono, start-rises, start-last, start-zero, end-start}

-- the quotient stays up to the next multiple
same_quotient : (x y s : ℕ) → 0 < s → x ≤ y → y < (x / s + 1) * s → y / s ≡ x / s
same_quotient x y s pos above below = div-eq_of_lt-le s (omega arith) below

-- a quotient doesn't fall
quotient_mono : (x y s : ℕ) → 0 < s → x ≤ y → x / s ≤ y / s
quotient_mono x y s pos above = (le-div_iff_mul-le pos).1 (omega arith)

-- a cell ends no later than its send partition
pub send_end-le : (g : Shape) (v : IsShape g) (c : ℕ) → c < cells g → end g c ≤ (send_of g c + 1) * g.send_bytes
unfolding send_of
send_end-le g v c inside = rw (end-start g c, start-next g v c inside) (omega arith)

-- nor than its receive partition
pub recv_end-le : (g : Shape) (v : IsShape g) (c : ℕ) → c < cells g → end g c ≤ (recv_of g c + 1) * g.recv_bytes
unfolding recv_of
recv_end-le g v c inside = rw (end-start g c, start-next g v c inside) (omega arith)

-- a cell ends at the nearer of the two partitions' ends
pub end-min : (g : Shape) (v : IsShape g) (c : ℕ) → c < cells g
    → (end g c ≡ (send_of g c + 1) * g.send_bytes) ⊎ (end g c ≡ (recv_of g c + 1) * g.recv_bytes)
unfolding send_of recv_of
end-min g v c inside =
    let e = end-start g c ∙ start-next g v c inside in
    elim (cases_lt ((start g c / g.send_bytes + 1) * g.send_bytes) ((start g c / g.recv_bytes + 1) * g.recv_bytes)) [
      | inl h ↦ inl (omega arith)
      | inr h ↦ inr (omega arith)
    ]

-- where a cell ends before its send partition does, the next cell lies in the same one
pub send-next-same : (g : Shape) (v : IsShape g) (c : ℕ) → c < cells g → end g c < (send_of g c + 1) * g.send_bytes → send_of g (c + 1) ≡ send_of g c
unfolding send_of
send-next-same g v c inside below =
    let rise = start-rises g v c inside in let e = end-start g c in
    same_quotient (start g c) (start g (c + 1)) g.send_bytes (omega (arith, v.send_bytes.0)) (omega arith) (omega arith)

-- where both end at one place, the next cell lies in the next send partition
pub send-next-more : (g : Shape) (v : IsShape g) (c : ℕ) → end g c ≡ (send_of g c + 1) * g.send_bytes → send_of g (c + 1) ≡ send_of g c + 1
unfolding send_of
send-next-more g v c there = rw (← end-start g c, there) (mul-div_left (start g c / g.send_bytes + 1) (omega (arith, v.send_bytes.0)))

-- where a cell ends before its receive partition does, the next cell lies in the same one
pub recv-next-same : (g : Shape) (v : IsShape g) (c : ℕ) → c < cells g → end g c < (recv_of g c + 1) * g.recv_bytes → recv_of g (c + 1) ≡ recv_of g c
unfolding recv_of
recv-next-same g v c inside below =
    let rise = start-rises g v c inside in let e = end-start g c in
    same_quotient (start g c) (start g (c + 1)) g.recv_bytes (omega (arith, v.recv_bytes.0)) (omega arith) (omega arith)

-- where both end at one place, the next cell lies in the next receive partition
pub recv-next-more : (g : Shape) (v : IsShape g) (c : ℕ) → end g c ≡ (recv_of g c + 1) * g.recv_bytes → recv_of g (c + 1) ≡ recv_of g c + 1
unfolding recv_of
recv-next-more g v c there = rw (← end-start g c, there) (mul-div_left (start g c / g.recv_bytes + 1) (omega (arith, v.recv_bytes.0)))

-- the first cell lies in the first send partition
pub send-zero : (g : Shape) → send_of g 0 ≡ 0
unfolding send_of
send-zero g = rw (start-zero g) (zero-div g.send_bytes)

-- and in the first receive partition
pub recv-zero : (g : Shape) → recv_of g 0 ≡ 0
unfolding recv_of
recv-zero g = rw (start-zero g) (zero-div g.recv_bytes)

-- behind the last cell stands the number of send partitions
pub send-last : (g : Shape) (v : IsShape g) → send_of g (cells g) ≡ g.send_parts
unfolding send_of
send-last g v = rw (start-last g v) (mul-div_left g.send_parts (omega (arith, v.send_bytes.0)))

-- and that of receive partitions
pub recv-last : (g : Shape) (v : IsShape g) → recv_of g (cells g) ≡ g.recv_parts
unfolding recv_of
recv-last g v = rw (start-last g v, v.same) (mul-div_left g.recv_parts (omega (arith, v.recv_bytes.0)))

-- each cell lies in one of the send partitions
pub send-below : (g : Shape) (v : IsShape g) (c : ℕ) → c < cells g → send_of g c < g.send_parts
unfolding send_of
send-below g v c inside = (div-lt_iff_lt-mul (let h = v.send_bytes.0 in omega arith)).1 (start-below g v c inside)

-- and in one of the receive partitions
pub recv-below : (g : Shape) (v : IsShape g) (c : ℕ) → c < cells g → recv_of g c < g.recv_parts
unfolding recv_of
recv-below g v c inside = (div-lt_iff_lt-mul (let h = v.recv_bytes.0 in omega arith)).1 (let h = start-below g v c inside in let e = v.same in omega arith)

-- a later cell starts no earlier
pub start-le : (g : Shape) (v : IsShape g) (c d : ℕ) → c ≤ d → d ≤ cells g → start g c ≤ start g d
start-le g v c d below inside =
    let e : c + (d - c) ≡ d = omega arith in
    let h = start-mono g v c (d - c) (omega arith) in
    let whole : start g (c + (d - c)) ≡ start g d = ap (start g) e in omega arith

-- a later cell lies in no earlier send partition
pub send-mono : (g : Shape) (v : IsShape g) (c d : ℕ) → c ≤ d → d ≤ cells g → send_of g c ≤ send_of g d
unfolding send_of
send-mono g v c d below inside = quotient_mono _ _ g.send_bytes (omega (arith, v.send_bytes.0)) (start-le g v c d below inside)

-- nor in an earlier receive partition
pub recv-mono : (g : Shape) (v : IsShape g) (c d : ℕ) → c ≤ d → d ≤ cells g → recv_of g c ≤ recv_of g d
unfolding recv_of
recv-mono g v c d below inside = quotient_mono _ _ g.recv_bytes (omega (arith, v.recv_bytes.0)) (start-le g v c d below inside)
