use Rattle.std.proofs.Common.{◌∙◌, ap, sym, arith, pos, ◌+ℤ◌, to_z, rules, FitsSigned, w64, get_or, take, ℤ}
use mir.Syntax.{w128}
use Rattle.std.proofs.lemmas.Int.{to_z-of_z}
use Rattle.grid_text.specs.Printing.{check_sum, weighted}
use Rattle.grid_text.proofs.PrintFacts.{check-more, sum-exact, sum-more}
use Rattle.grid_text.proofs.summary.check_sum.Goals as goal

pub loop-place-preserved : goal.loop-place-preserved
loop-place-preserved c =
    let few = c.requires.few in
    let exact = sum-exact (to_z w128 c.loop-place.sum-bits) c.weighted-sum.result c.loop-place.place c.loop-place.invariant.limits c.weighted-sum.ensures.limits (omega arith) in
    let more = sum-more (to_z w128 c.loop-place.sum-bits) c.weighted-sum.result c.loop-place.place c.loop-place.invariant.limits c.weighted-sum.ensures.limits (omega arith) in
    let fits : FitsSigned w64 (get_or c.args.values.now c.loop-place.place (pos 0)) = search rules in
    record {
      sum = exact ∙ (ap (λ (s : ℤ). s +ℤ c.weighted-sum.result) c.loop-place.invariant.sum
          ∙ (ap (λ (x : ℤ). check_sum (take c.loop-place.place c.args.values.now) +ℤ x) (c.weighted-sum.ensures.value ∙ ap (weighted c.loop-place.place) (to_z-of_z w64 _ fits))
          ∙ sym (check-more c.args.values.now c.loop-place.place c.loop-place-test.true)));
      limits = rw exact more.0;
    }
