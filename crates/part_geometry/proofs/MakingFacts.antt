-- What six numbers keep, once they were tried.
use Rattle.std.proofs.Common.{◌≡◌, ℕ, ◌*◌, ◌≤◌, Bool, true, false, ◌&&◌, refl, rules}
use Rattle.std.proofs.lemmas.Bool.{and_parts, leb-true}
use Rattle.std.proofs.lemmas.Nat.{mul-le}
use Rattle.std.specs.Prelude.{⊤, not, nat_le, if◌then◌else◌, Result, Ok, Err}
use Rattle.part_geometry.specs.declared.TheConstants.{MAX_PARTS, MAX_PART_BYTES, MAX_TOTAL, MAX_GRAIN, MAX_DEPTH}
use Rattle.part_geometry.specs.declared.geometry.GeometryFault.{GeometryFault}
use Rattle.part_geometry.specs.declared.geometry.GeometryFault.TheVariants.{BadParts, BadBytes}
use Rattle.part_geometry.specs.Shape.{Shape, IsShape, IsWithin, send_total, recv_total}
use Rattle.part_geometry.specs.Making.{both_within, parts_answer}

-- both numbers from low to high
pub within : (low high m n : ℕ) → both_within low high m n ≡ true → IsWithin low high m × IsWithin low high n
within low high m n is =
    let two = and_parts (nat_le low m && nat_le m high) (nat_le low n && nat_le n high) is in
    let one = and_parts (nat_le low m) (nat_le m high) two.0 in
    let other = and_parts (nat_le low n) (nat_le n high) two.1 in
    ((leb-true _ _ one.0, leb-true _ _ one.1), (leb-true _ _ other.0, leb-true _ _ other.1))

abbrev answer : Bool → Bool → Result ⊤ GeometryFault
answer parts bytes = if not parts then Err BadParts else (if not bytes then Err BadBytes else Ok tt)

kept : (parts bytes : Bool) → answer parts bytes ≡ Ok tt → (parts ≡ true) × (bytes ≡ true)
kept true true is = (refl, refl)
kept true false is = search rules
kept false bytes is = search rules

-- the partitions and the bytes of a partition are in their ranges
pub parts_kept : (send_parts send_bytes recv_parts recv_bytes : ℕ)
    → parts_answer send_parts send_bytes recv_parts recv_bytes ≡ Ok tt
    → (both_within 1 MAX_PARTS send_parts recv_parts ≡ true) × (both_within 1 MAX_PART_BYTES send_bytes recv_bytes ≡ true)
parts_kept send_parts send_bytes recv_parts recv_bytes is =
    kept (both_within 1 MAX_PARTS send_parts recv_parts) (both_within 1 MAX_PART_BYTES send_bytes recv_bytes) is

-- so the bytes of a side fit 32 bits
pub totals_fit : (send_parts send_bytes recv_parts recv_bytes : ℕ)
    → parts_answer send_parts send_bytes recv_parts recv_bytes ≡ Ok tt
    → (send_parts * send_bytes ≤ 1024 * 1048576) × (recv_parts * recv_bytes ≤ 1024 * 1048576)
totals_fit send_parts send_bytes recv_parts recv_bytes is =
    let both = parts_kept send_parts send_bytes recv_parts recv_bytes is in
    let parts = within 1 MAX_PARTS send_parts recv_parts both.0 in
    let bytes = within 1 MAX_PART_BYTES send_bytes recv_bytes both.1 in
    (mul-le send_parts send_bytes 1024 1048576 parts.0.1 bytes.0.1, mul-le recv_parts recv_bytes 1024 1048576 parts.1.1 bytes.1.1)

-- six numbers that keep all limits are a shape
pub shape_of : (g : Shape) → parts_answer g.send_parts g.send_bytes g.recv_parts g.recv_bytes ≡ Ok tt
    → both_within 0 MAX_TOTAL (send_total g) (recv_total g) ≡ true → send_total g ≡ recv_total g
    → both_within 1 MAX_GRAIN g.grain g.grain ≡ true → both_within 1 MAX_DEPTH g.depth g.depth ≡ true → IsShape g
shape_of g is short same grain depth =
    let both = parts_kept g.send_parts g.send_bytes g.recv_parts g.recv_bytes is in
    let parts = within 1 MAX_PARTS g.send_parts g.recv_parts both.0 in
    let bytes = within 1 MAX_PART_BYTES g.send_bytes g.recv_bytes both.1 in
    record {
      send_parts = parts.0;
      recv_parts = parts.1;
      send_bytes = bytes.0;
      recv_bytes = bytes.1;
      length = (within 0 MAX_TOTAL (send_total g) (recv_total g) short).0.1;
      same = same;
      grain = (within 1 MAX_GRAIN g.grain g.grain grain).0;
      depth = (within 1 MAX_DEPTH g.depth g.depth depth).0;
    }
