-- The cells of a message: the intervals between neighbouring bounds.
use Rattle.std.specs.Prelude.{◌≡◌, ◌⊎◌, ◌↔◌, ℕ, ◌+◌, ◌-◌, ◌*◌, ◌/◌, ◌%◌, ◌≤◌, Bool, ◌||◌, ◌==◌, List, length, filter, Contains, slice_index}
use Rattle.std.specs.List.{range_with_len}
use Rattle.std.specs.List.Sorted.{IsStrictlyIncreasing}
use Rattle.part_geometry.specs.Shape.{Shape, send_total}

-- a bound: a place where a send or a receive partition starts, or the end of the message
abbrev pub IsBound : Shape → ℕ → Type 0
IsBound g x =
    ((i : ℕ) × (i ≤ g.send_parts) × (x ≡ i * g.send_bytes)) ⊎ ((j : ℕ) × (j ≤ g.recv_parts) × (x ≡ j * g.recv_bytes))

-- the list of all bounds in ascending order
pub record AreBounds (g : Shape) (xs : List ℕ) : Type 0 where
  pub ascending : IsStrictlyIncreasing xs
  pub members : (x : ℕ) → Contains xs x ↔ IsBound g x

-- whether a place up to the total is a bound
abbrev pub is_bound : Shape → ℕ → Bool
is_bound g x = (x % g.send_bytes == 0) || (x % g.recv_bytes == 0)

-- that list: the places from 0 to the total, filtered
unfoldable pub bounds : Shape → List ℕ
bounds g = filter (is_bound g) (range_with_len 0 (send_total g + 1))

-- how many cells there are
unfoldable pub cells : Shape → ℕ
cells g = length (bounds g) - 1

-- where a cell starts, and the place after its end
unfoldable pub start : Shape → ℕ → ℕ
start g c = slice_index (bounds g) c

unfoldable pub end : Shape → ℕ → ℕ
end g c = slice_index (bounds g) (c + 1)

-- the partitions that hold a cell: those in which it starts
unfoldable pub send_of : Shape → ℕ → ℕ
send_of g c = start g c / g.send_bytes

unfoldable pub recv_of : Shape → ℕ → ℕ
recv_of g c = start g c / g.recv_bytes
