use Rattle.std.proofs.Common.{◌∙◌, FitsSigned, rules, w64}
use mir.Syntax.{w128}
use Rattle.std.proofs.lemmas.Int.{to_z-of_z}
use Rattle.grid_text.proofs.PrintFacts.{tail-joined}
use Rattle.grid_text.proofs.summary.push_tail.Goals as goal

pub returns : goal.returns
returns c =
    let total : FitsSigned w64 c.total.result = search rules in
    let least : FitsSigned w64 c.least.result = search rules in
    let greatest : FitsSigned w64 c.greatest.result = search rules in
    let total_wide : FitsSigned w128 c.from.result = search rules in
    let least_wide : FitsSigned w128 c.from-2.result = search rules in
    let greatest_wide : FitsSigned w128 c.from-3.result = search rules in
    let check : FitsSigned w128 c.check_sum.result = search rules in
    tail-joined c.args.text.now.items c.push_number.new.text.items c.push_number-2.new.text.items c.push_number-3.new.text.items c.push_number-4.new.text.items _ _ _ _ _ c.args.values.now
    (to_z-of_z w128 c.from.result total_wide ∙ (c.from.ensures ∙ (to_z-of_z w64 c.total.result total ∙ c.total.ensures)))
    (to_z-of_z w128 c.from-2.result least_wide ∙ (c.from-2.ensures ∙ (to_z-of_z w64 c.least.result least ∙ c.least.ensures)))
    (to_z-of_z w128 c.from-3.result greatest_wide ∙ (c.from-3.ensures ∙ (to_z-of_z w64 c.greatest.result greatest ∙ c.greatest.ensures)))
    (to_z-of_z w128 c.check_sum.result check ∙ c.check_sum.ensures)
    c.in_ok-push_number.ensures c.in_ok-push_number-2.ensures c.in_ok-push_number-3.ensures c.in_ok-push_number-4.ensures c.in_ok-push.ensures.items
