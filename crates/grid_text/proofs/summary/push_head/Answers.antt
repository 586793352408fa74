use Rattle.std.proofs.Common.{◌∙◌, FitsSigned, rules}
use mir.Syntax.{w128}
use Rattle.std.proofs.lemmas.Int.{to_z-of_z}
use Rattle.std.proofs.lemmas.Result.{on_ok_weaker}
use Rattle.grid_text.proofs.PrintFacts.{head-joined}
use Rattle.grid_text.proofs.summary.push_head.Goals as goal

pub returns : goal.returns
returns c =
    let rows : FitsSigned w128 c.from.result = search rules in
    let cols : FitsSigned w128 c.from-2.result = search rules in
    let steps : FitsSigned w128 c.from-3.result = search rules in
    on_ok_weaker c.push_number-3.result
    (head-joined c.args.text.now.items c.push_number.new.text.items c.push_number-2.new.text.items c.push_number-3.new.text.items _ _ _ c.args.rows c.args.cols c.args.steps
    (to_z-of_z w128 c.from.result rows ∙ c.from.ensures) (to_z-of_z w128 c.from-2.result cols ∙ c.from-2.ensures) (to_z-of_z w128 c.from-3.result steps ∙ c.from-3.ensures)
    c.in_ok-push_number.ensures c.in_ok-push_number-2.ensures)
    c.push_number-3.ensures
