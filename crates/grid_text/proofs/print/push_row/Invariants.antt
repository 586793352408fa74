use Rattle.std.proofs.Common.{◌≡◌, ◌++◌, map, take}
use Rattle.std.specs.Fmt.{signed_decimal}
use Rattle.std.specs.List.{join_with_byte}
use Rattle.grid_text.proofs.print.push_row.Given as goal

abbrev pub invariant-loop-col : goal.invariant-loop-col
invariant-loop-col l = l.text.items ≡ l.initial.text.items ++ join_with_byte 44 (map signed_decimal (take l.col l.row))
