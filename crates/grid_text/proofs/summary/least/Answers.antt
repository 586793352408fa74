use Rattle.std.proofs.Common.{◌∙◌, ℤ, pos, to_z, w64, FitsSigned, get_or, slice_index_or, ap, sym, arith, rules}
use Rattle.std.specs.Int.{int_min}
use Rattle.std.proofs.lemmas.Int.{to_z-of_z}
use Rattle.std.proofs.lemmas.List.{take_all}
use Rattle.grid_text.proofs.PrintFacts.{fold-more}
use Rattle.grid_text.proofs.summary.least.Goals as goal

pub loop-value-preserved : goal.loop-value-preserved
loop-value-preserved c =
    let x = get_or c.args.values.now c.loop-value.value-index (pos 0) in
    let fits : FitsSigned w64 x = search rules in
    let result_fits : FitsSigned w64 c.min-least.result = search rules in
    to_z-of_z w64 c.min-least.result result_fits
    ∙ (c.min-least.ensures.value ∙ (ap (int_min (to_z w64 c.loop-value.least-bits)) (to_z-of_z w64 x fits)
    ∙ (ap (λ (y : ℤ). int_min y x) c.loop-value.invariant
    ∙ sym (fold-more int_min (slice_index_or c.args.values.now 0 (pos 0)) c.args.values.now c.loop-value.value-index c.loop-value-test.true))))

pub returns : goal.returns
returns c = rw (take_all c.loop-value.value-index c.args.values.now (omega arith)) at c.loop-value.invariant
