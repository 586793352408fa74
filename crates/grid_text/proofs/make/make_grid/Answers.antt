use Rattle.std.proofs.Common.{◌∙◌, ap, sym, arith, rules, FitsSigned, w64}
use Rattle.std.proofs.lemmas.Int.{to_z-of_z}
use Rattle.std.proofs.lemmas.List.Elements.{All-nil}
use Rattle.stencil_def.specs.Limits.{IsValue}
use Rattle.grid_text.specs.Making.{number_after}
use Rattle.grid_text.proofs.MakeFacts.{cells-all, cells-more, limits-more, number-more, number-none}
use Rattle.grid_text.proofs.make.make_grid.Goals as goal

pub loop-n-init : goal.loop-n-init
loop-n-init c = record {
  number = number-none c.args.seed;
  bound = c.requires.seed;
  values = c.in_ok-values.ensures.items;
  count = c.in_ok-values.ensures.len;
  limits = rw c.in_ok-values.ensures.items (All-nil IsValue);
}

pub loop-n-preserved : goal.loop-n-preserved
loop-n-preserved c =
    let x = c.number_after-x.ensures.value ∙ ap number_after c.loop-n.invariant.number in
    let items = c.in_ok-push.ensures.items in
    let len = c.in_ok-push.ensures.len in
    let fits : FitsSigned w64 c.cell_of.result = search rules in
    record {
      number = x ∙ sym (number-more c.args.seed c.loop-n._n);
      bound = c.number_after-x.ensures.bound;
      values = cells-more c.args.seed c.loop-n._n _ _ c.loop-n.values.items _ c.loop-n.invariant.values x (to_z-of_z w64 c.cell_of.result fits ∙ c.cell_of.ensures.value) items;
      count = omega arith;
      limits = limits-more _ c.loop-n.values.items _ c.loop-n.invariant.limits (rw (to_z-of_z w64 c.cell_of.result fits) c.cell_of.ensures.limits) items;
    }

pub returns-clause-made : goal.returns-clause-made
returns-clause-made c =
    c.from_values.ensures.value ∙ cells-all c.args.seed c.args.rows c.args.cols c.loop-n._n _ c.loop-n.invariant.values (omega arith)
