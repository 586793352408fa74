use Rattle.std.proofs.Common.{sym}
use Rattle.std.proofs.lemmas.Result.{err_from_is_err_and}
use Rattle.stencil_top.proofs.Begun.{plan_fails, stencil_fails, stencil_given}
use Rattle.stencil_top.proofs.serial.stencil.Goals as goal

pub returns-in_err-inputs-clause-gives : goal.returns-in_err-inputs-clause-gives
returns-in_err-inputs-clause-gives g c =
    let p = err_from_is_err_and c.from_residual.result c.from_residual.ensures.1 in
    rw (p.1, p.2) (stencil_fails c.args.words.now _ _ _ _ c.in_err-inputs.ensures.finds)

pub returns-in_err-sharing-clause-gives : goal.returns-in_err-sharing-clause-gives
returns-in_err-sharing-clause-gives g c =
    let p = err_from_is_err_and c.from_residual-in_err-sharing.result c.from_residual-in_err-sharing.ensures.1 in
    rw (p.1, p.2) (plan_fails c.args.words.now _ _ _ c.in_ok-inputs.inputs _ c.in_ok-inputs.ensures.finds (sym c.in_err-sharing.ensures.answer))

pub returns-in-Ok-clause-gives : goal.returns-in-Ok-clause-gives
returns-in-Ok-clause-gives g c =
    stencil_given c.args.words.now _ _ _ c.in_ok-inputs.inputs _ c.in-Ok.output c.in_ok-inputs.ensures.finds (sym c.in_ok-sharing.ensures.answer) c.in-Ok.ensures
