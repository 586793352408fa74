use Rattle.std.proofs.Common.{ap, subst, arith}
use Rattle.grid_tiles.specs.Plan.{IsPlan, Plan}
use Rattle.grid_tiles.proofs.Planning.{number-found, rows-found}
use Rattle.grid_tiles.proofs.plan.TilePlan.upward.Goals as goal

pub returns-clause-limits : goal.returns-clause-limits
returns-clause-limits c =
    let p = c.args.self.now in let b = c.args.b in let view = c.self.view_is in
    let cols = ap (λ (q : Plan). q.tile_cols) view in
    record {
      from = number-found p c.self.inside.tile_cols c.args.d b cols c.requires.from c.requires.column;
      to = number-found p c.self.inside.tile_cols c.args.a b cols c.requires.to c.requires.column;
      tag = (omega arith, omega arith);
      values = rows-found p b c.self.inside.shape.reach c.with_sides-first_col.result.1 (subst IsPlan view c.self.invariant) c.requires.column
          (ap (λ (q : Plan). q.shape.reach) view) c.with_sides-first_col.ensures.count;
    }
