use Rattle.std.proofs.Common.{◌≡◌, ◌<◌, ◌^◌, map, vec_len}
use Rattle.std.specs.List.{All, range_with_len}
use Rattle.stencil_def.specs.Limits.{IsValue}
use Rattle.grid_text.specs.Making.{cell_at, number_at}
use Rattle.grid_text.proofs.make.make_grid.Given as goal

abbrev pub invariant-loop-n : goal.invariant-loop-n
invariant-loop-n l = record {
  number : l.x ≡ number_at l.seed l._n;
  bound : l.x < 2 ^ 31;
  values : l.values.items ≡ map (cell_at l.seed) (range_with_len 0 l._n);
  count : vec_len l.values ≡ l._n;
  limits : All IsValue l.values.items;
}
