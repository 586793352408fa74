use Rattle.std.proofs.Common.{arith}
use Rattle.std.proofs.lemmas.Result.{err_from_is_err_and}
use Rattle.grid_text.proofs.ReadFacts.{weights-count, weights-fault, weights-missing, weights-ok, weights-values}
use Rattle.grid_text.proofs.read.read_weights.Goals as goal

pub returns-in_err-rows-clause-fault : goal.returns-in_err-rows-clause-fault
returns-in_err-rows-clause-fault c =
    let p = err_from_is_err_and c.from_residual.result c.from_residual.ensures.1 in
    rw (p.1, p.2) (λ real. weights-fault c.args.text.now _ (c.in_err-rows.ensures.fault real))

pub returns-then-rows-clause-fault : goal.returns-then-rows-clause-fault
returns-then-rows-clause-fault c = λ real.
    weights-missing c.args.text.now c.in_ok-rows.rows c.in_ok-rows.ensures.faultless c.in_ok-rows.ensures.kept (omega arith)

pub new-requires-clause-count : goal.new-requires-clause-count
new-requires-clause-count c =
    rw c.deref.ensures.value (weights-count c.args.text.now c.in_ok-rows.rows c.in_ok-rows.ensures.faultless c.in_ok-rows.ensures.kept (omega arith))

pub new-requires-clause-values : goal.new-requires-clause-values
new-requires-clause-values c =
    rw c.deref.ensures.value (weights-values c.args.text.now c.in_ok-rows.rows c.in_ok-rows.ensures.kept)

pub returns-clause-ok : goal.returns-clause-ok
returns-clause-ok c =
    rw (c.new.ensures, c.deref.ensures.value) (weights-ok c.args.text.now c.in_ok-rows.rows c.in_ok-rows.ensures.faultless c.in_ok-rows.ensures.kept (omega arith))
