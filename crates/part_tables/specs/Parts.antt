-- Which cells lie in a partition, and which a send partition and a piece share: in each case cells in a row.
use Rattle.std.specs.Prelude.{ℕ, ◌+◌, min, max, nat_lt, count_by}
use Rattle.std.specs.List.{range_with_len}
use Rattle.part_geometry.specs.Shape.{Shape}
use Rattle.part_geometry.specs.Cells.{cells, send_of, recv_of}
use Rattle.part_geometry.specs.Pieces.{first_cell, last_cell}

-- how many of the cells 0 to n - 1 lie before part v, where each cell has a part
abbrev pub cells_before : (ℕ → ℕ) → ℕ → ℕ → ℕ
cells_before part n v = count_by (λ c. nat_lt (part c) v) (range_with_len 0 n)

-- the first cell of a send partition and of a receive partition; behind the last one, the number of cells
unfoldable pub first_sent : Shape → ℕ → ℕ
first_sent g p = cells_before (send_of g) (cells g) p

unfoldable pub first_received : Shape → ℕ → ℕ
first_received g q = cells_before (recv_of g) (cells g) q

-- send partition p and piece i share the cells from the first of these up to and without the second, if any
abbrev pub first_shared : Shape → ℕ → ℕ → ℕ
first_shared g p i = max (first_sent g p) (first_cell g i)

abbrev pub after_shared : Shape → ℕ → ℕ → ℕ
after_shared g p i = min (first_sent g (p + 1)) (last_cell g i + 1)
