-- Which six numbers make a geometry, and else the first fault.
use Rattle.std.specs.Prelude.{ℕ, Bool, ⊤, ◌&&◌, ◌==◌, not, nat_le, if◌then◌else◌, Result, Ok, Err}
use Rattle.part_geometry.specs.declared.TheConstants.{MAX_PARTS, MAX_PART_BYTES, MAX_TOTAL, MAX_GRAIN, MAX_DEPTH}
use Rattle.part_geometry.specs.declared.geometry.GeometryFault.{GeometryFault}
use Rattle.part_geometry.specs.declared.geometry.GeometryFault.TheVariants.{BadParts, BadBytes, TooLong, SizeMismatch, BadGrain, BadDepth}
use Rattle.part_geometry.specs.Shape.{Shape, send_total, recv_total}

-- both numbers are from low to high
abbrev pub both_within : ℕ → ℕ → ℕ → ℕ → Bool
both_within low high m n = (nat_le low m && nat_le m high) && (nat_le low n && nat_le n high)

-- whether the partitions of the two sides keep their limits, and else the first fault in this order
abbrev pub parts_answer : ℕ → ℕ → ℕ → ℕ → Result ⊤ GeometryFault
parts_answer send_parts send_bytes recv_parts recv_bytes =
    if not (both_within 1 MAX_PARTS send_parts recv_parts) then Err BadParts else (
    if not (both_within 1 MAX_PART_BYTES send_bytes recv_bytes) then Err BadBytes else Ok tt)

-- the six numbers, where they keep all limits, else the first fault in this order
abbrev pub geometry_of : Shape → Result Shape GeometryFault
geometry_of g =
    if not (both_within 1 MAX_PARTS g.send_parts g.recv_parts) then Err BadParts else (
    if not (both_within 1 MAX_PART_BYTES g.send_bytes g.recv_bytes) then Err BadBytes else (
    if not (both_within 0 MAX_TOTAL (send_total g) (recv_total g)) then Err TooLong else (
    if not (send_total g == recv_total g) then Err (SizeMismatch (send_total g) (recv_total g)) else (
    if not (both_within 1 MAX_GRAIN g.grain g.grain) then Err BadGrain else (
    if not (both_within 1 MAX_DEPTH g.depth g.depth) then Err BadDepth else Ok g)))))
