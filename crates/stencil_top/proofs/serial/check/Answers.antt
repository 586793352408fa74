use Rattle.stencil_top.proofs.serial.check.Goals as goal
use Rattle.stencil_top.proofs.Checks.{check_fails, check_given}
use Rattle.std.proofs.lemmas.Result.{err_from_is_err_and}

pub returns-in_err-text-clause-gives : goal.returns-in_err-text-clause-gives
returns-in_err-text-clause-gives g c =
    let p = err_from_is_err_and c.from_residual.result c.from_residual.ensures.1 in
    rw (p.1, p.2) (check_fails _ _ _ _ _ c.in_err-text.ensures.reads)

pub returns-clause-gives : goal.returns-clause-gives
returns-clause-gives g c =
    check_given _ _ _ _ c.in_ok-text.text c.deref.result.now c.check_text.result c.in_ok-text.ensures.reads c.deref.ensures.value c.check_text.ensures
