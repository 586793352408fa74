-- The elements of a message as bytes.
use Rattle.std.specs.Prelude.{ℕ, ◌+◌, ◌-◌, ◌*◌, ◌/◌, min, ℤ, pos, List, ◌++◌, length, map, replicate, slice_range}
use Rattle.std.specs.List.{flat_map, range_with_len}
use Rattle.std.specs.Int.RustNames.{FitsSigned}
use Rattle.std.specs.Int.{cast_signed, cast_unsigned, from_le_bytes, to_le_bytes, w64}
use Rattle.halo_message.specs.declared.TheConstants.{ELEMENT_BYTES}
use Rattle.halo_message.specs.Message.{Message, elements}

-- a value of 64 bits
abbrev pub IsWord : ℤ → Type 0
IsWord z = FitsSigned w64 z

-- a value as an element: 8 bytes, two's complement, low byte first
abbrev pub element : ℤ → List ℕ
element z = to_le_bytes w64 (cast_unsigned w64 z)

-- the bytes of a message of values: their elements one after another, and then zeros
unfoldable pub encoded : Message → List ℤ → List ℕ
encoded m xs = flat_map element (xs ++ replicate (elements m - length xs) (pos 0))

-- the value of the element at place i, counted in elements
abbrev pub value_at : List ℕ → ℕ → ℤ
value_at bytes i =
    cast_signed w64 (from_le_bytes w64 (slice_range bytes (i * ELEMENT_BYTES) (i * ELEMENT_BYTES + ELEMENT_BYTES)))

-- the values of the first n elements
unfoldable pub decoded : ℕ → List ℕ → List ℤ
decoded n bytes = map (value_at bytes) (range_with_len 0 n)

-- the bytes of receive partition q of a message
abbrev pub part_bytes : Message → ℕ → List ℕ → List ℕ
part_bytes m q bytes =
    slice_range bytes (q * (elements m / m.recv_parts * ELEMENT_BYTES))
    (q * (elements m / m.recv_parts * ELEMENT_BYTES) + elements m / m.recv_parts * ELEMENT_BYTES)

-- the first value that receive partition q has, and the place behind its last: what lies past the values is padding
abbrev pub part_start : Message → ℕ → ℕ
part_start m q = min (q * elements m / m.recv_parts) m.values

abbrev pub part_end : Message → ℕ → ℕ
part_end m q = min ((q + 1) * elements m / m.recv_parts) m.values
