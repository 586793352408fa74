use Rattle.std.proofs.Common.{◌∙◌, ap, subst, ◌+◌, arith}
use Rattle.grid_tiles.specs.Plan.{IsPlan, Plan, first_row}
use Rattle.grid_tiles.proofs.Planning.{number-found, side-found}
use Rattle.grid_tiles.proofs.plan.TilePlan.rightward.Goals as goal

pub returns-clause-limits : goal.returns-clause-limits
returns-clause-limits c =
    let p = c.args.self.now in let a = c.args.a in let view = c.self.view_is in
    let cols = ap (λ (q : Plan). q.tile_cols) view in
    record {
      from = number-found p c.self.inside.tile_cols a c.args.b cols c.requires.row c.requires.from;
      to = number-found p c.self.inside.tile_cols a c.args.c cols c.requires.row c.requires.to;
      tag = (omega arith, omega arith);
      values = side-found p a c.cut_at-top.result c.cut_at.result c.self.inside.shape.reach (subst IsPlan view c.self.invariant) c.requires.row
          (c.cut_at-top.ensures.value ∙ ap (λ (q : Plan). first_row q a) view)
          (c.cut_at.ensures.value ∙ ap (λ (q : Plan). first_row q (a + 1)) view)
          (ap (λ (q : Plan). q.shape.reach) view);
    }
