-- The bytes that a buffer keeps, in itself or on the heap.
use Rattle.std.specs.Prelude.{ℕ, List, Option, Some, None}
use Rattle.pair_rule.specs.declared.buf.Kept.{Kept}
use Rattle.pair_rule.specs.declared.buf.Kept.TheVariants.{Short, Long}

abbrev pub kept : Kept → List ℕ
kept (Short bytes) = bytes
kept (Long bytes) = bytes.items

-- the copy of them: of those on the heap there is none
abbrev pub copy_of : Kept → Option Kept
copy_of (Short bytes) = Some (Short bytes)
copy_of (Long bytes) = None
