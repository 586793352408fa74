use Rattle.std.proofs.Common.{◌/◌, ◌%◌, arith}
use Rattle.grid_tiles.specs.Kept.{plan_of}
use Rattle.grid_tiles.proofs.Planning.{cols-some, rows-some}
use Rattle.grid_tiles.proofs.plan.TilePlan.tile.Goals as goal

pub returns-clause-some : goal.returns-clause-some
returns-clause-some c =
    let q = plan_of c.self.inside in
    let rows = rows-some q (c.args.t / q.tile_cols) c.self.invariant in
    let cols = cols-some q (c.args.t % q.tile_cols) c.self.invariant in
    let a = c.cut_at-first_row.ensures.value in let b = c.cut_at.ensures.value in
    let d = c.cut_at-first_col.ensures.value in let e = c.cut_at-2.ensures.value in
    (omega arith, omega arith)
