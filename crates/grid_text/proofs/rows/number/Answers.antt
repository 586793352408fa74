use Rattle.std.proofs.Common.{◌∙◌, sym, arith}
use Rattle.grid_text.specs.Numbers.{signed_of}
use Rattle.grid_text.proofs.NumberFacts.{exact, within-ok}
use Rattle.grid_text.proofs.FaultFacts.{field-err, field-ok}
use Rattle.grid_text.proofs.rows.number.Goals as goal

pub returns-in-Ok-clause-ok : goal.returns-in-Ok-clause-ok
returns-in-Ok-clause-ok c =
    let size = (within-ok c.args.limit (signed_of c.without_spaces.result.now) c.in-Ok.value c.in-Ok.ensures).1 in
    exact c.in-Ok.value (omega arith)
    ∙ sym (field-ok c.args.limit c.args.row c.args.col c.args.field.now _ c.in-Ok.value c.without_spaces.ensures c.in-Ok.ensures).1

pub returns-in-Ok-clause-faultless : goal.returns-in-Ok-clause-faultless
returns-in-Ok-clause-faultless c =
    (field-ok c.args.limit c.args.row c.args.col c.args.field.now _ c.in-Ok.value c.without_spaces.ensures c.in-Ok.ensures).0

pub returns-in-Err-BadForm-clause-fault : goal.returns-in-Err-BadForm-clause-fault
returns-in-Err-BadForm-clause-fault c =
    field-err c.args.limit c.args.row c.args.col c.args.field.now _ _ c.without_spaces.ensures (rw c.in-Err-BadForm.field-0-is at c.in-Err-BadForm.ensures)

pub returns-in-Err-OutOfRange-clause-fault : goal.returns-in-Err-OutOfRange-clause-fault
returns-in-Err-OutOfRange-clause-fault c =
    field-err c.args.limit c.args.row c.args.col c.args.field.now _ _ c.without_spaces.ensures (rw c.in-Err-OutOfRange.field-0-is at c.in-Err-OutOfRange.ensures)
