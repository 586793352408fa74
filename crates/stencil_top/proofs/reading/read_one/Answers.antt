use Rattle.stencil_top.proofs.reading.read_one.Goals as goal
use Rattle.stencil_top.proofs.Texts.{moved}
use Rattle.stencil_top.proofs.Inputs.{one_fails, one_read}
use Rattle.std.proofs.lemmas.Result.{err_from_is_err_and}
use Rattle.std.proofs.Common.{refl}

pub returns-in_err-weights-clause-finds : goal.returns-in_err-weights-clause-finds
returns-in_err-weights-clause-finds g c =
    let p = err_from_is_err_and c.from_residual.result c.from_residual.ensures.1 in
    rw (p.1, p.2) (one_fails _ c.args.size _ _ _ _ (moved _ _ _ _ _ _ _ _ _ refl c.as_str.ensures refl c.in_err-weights.ensures.reads))

pub returns-clause-finds : goal.returns-clause-finds
returns-clause-finds g c =
    one_read _ c.args.size _ _ _ c.in_ok-weights.weights c.deref.result.now c.made_with.result
    (moved _ _ _ _ _ _ _ _ _ refl c.as_str.ensures refl c.in_ok-weights.ensures.reads) c.deref.ensures.value c.made_with.ensures
