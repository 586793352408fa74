use Rattle.std.proofs.Common.{◌≡◌}
use Rattle.std.specs.List.{flat_map, range_with_len}
use Rattle.stencil_def.specs.Plane.{row_of}
use Rattle.grid_text.specs.Printing.{row_text}
use Rattle.grid_text.proofs.print.print_grid.Given as goal

abbrev pub invariant-loop-row : goal.invariant-loop-row
invariant-loop-row l = l.text.items ≡ flat_map (λ row. row_text (row_of l.grid row)) (range_with_len 0 l.row)
