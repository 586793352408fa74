use Rattle.stencil_top.proofs.reading.read_both.Goals as goal
use Rattle.stencil_top.proofs.Texts.{moved}
use Rattle.stencil_top.proofs.Inputs.{weights_fail, grid_fails, both_read}
use Rattle.std.proofs.lemmas.Result.{err_from_is_err_and}
use Rattle.std.proofs.Common.{refl}

pub returns-in_err-weights-clause-finds : goal.returns-in_err-weights-clause-finds
returns-in_err-weights-clause-finds g c =
    let p = err_from_is_err_and c.from_residual.result c.from_residual.ensures.1 in
    rw (p.1, p.2) (weights_fail _ c.args.grid.now _ _ _ _ (moved _ _ _ _ _ _ _ _ _ refl c.as_str.ensures refl c.in_err-weights.ensures.reads))

pub returns-in_err-grid-clause-finds : goal.returns-in_err-grid-clause-finds
returns-in_err-grid-clause-finds g c =
    let p = err_from_is_err_and c.from_residual-in_err-grid.result c.from_residual-in_err-grid.ensures.1 in
    rw (p.1, p.2) (grid_fails _ _ _ _ _ _ c.in_ok-weights.weights _
    (moved _ _ _ _ _ _ _ _ _ refl c.as_str.ensures refl c.in_ok-weights.ensures.reads)
    (moved _ _ _ _ _ _ _ _ _ c.in_ok-weights.ensures.files c.as_str-2.ensures c.in_ok-weights.ensures.kept c.in_err-grid.ensures.reads))

pub returns-clause-finds : goal.returns-clause-finds
returns-clause-finds g c =
    both_read _ _ _ _ _ _ c.in_ok-weights.weights c.in_ok-grid.grid c.deref.result.now c.deref-2.result.now c.inputs_in.result
    (moved _ _ _ _ _ _ _ _ _ refl c.as_str.ensures refl c.in_ok-weights.ensures.reads)
    (moved _ _ _ _ _ _ _ _ _ c.in_ok-weights.ensures.files c.as_str-2.ensures c.in_ok-weights.ensures.kept c.in_ok-grid.ensures.reads)
    c.deref.ensures.value c.deref-2.ensures.value c.inputs_in.ensures
