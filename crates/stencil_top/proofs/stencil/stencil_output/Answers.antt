use Rattle.stencil_top.proofs.stencil.stencil_output.Goals as goal
use Rattle.stencil_top.proofs.Output.{is_output}

pub returns : goal.returns
returns c =
    let last = c.in_ok-last.last in let e = c.in_ok-last.ensures in
    is_output c.args.words.now c.args.inputs.now c.rule_of-rule.result last.steps last.grid c.print.result c.rule_of-rule.ensures e.last e.fold c.print.ensures
