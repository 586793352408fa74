use Rattle.std.proofs.Common.{◌∙◌, sym, subst}
use Rattle.stencil_def.specs.Step.{new_cell}
use Rattle.cell_lanes.specs.Change.{IsChange}
use Rattle.cell_lanes.proofs.ChangeFacts.{change-back}
use Rattle.cell_lanes.proofs.padded.next_padded_changed.Goals as goal

pub set_all_end_rows-requires-clause-length : goal.set_all_end_rows-requires-clause-length
set_all_end_rows-requires-clause-length c = c.next_rows_changed-most.auto.next ∙ (c.requires.same_length ∙ c.requires.length)

pub set_all_end_rows-requires-clause-values : goal.set_all_end_rows-requires-clause-values
set_all_end_rows-requires-clause-values c = c.next_rows_changed-most.ensures.values

pub returns-clause-padded : goal.returns-clause-padded
returns-clause-padded c g e f padded = c.set_all_end_rows.ensures.padded (new_cell g c.args.rule.now) (c.next_rows_changed-most.ensures.rows g e f padded)

pub returns-clause-values : goal.returns-clause-values
returns-clause-values c = c.set_all_end_rows.ensures.values

pub returns-clause-change : goal.returns-clause-change
returns-clause-change c g e f padded =
    let most = c.next_rows_changed-most in change-back most.result most.ensures.range ∙ most.ensures.change g e f padded

pub returns-clause-range : goal.returns-clause-range
returns-clause-range c =
    let most = c.next_rows_changed-most in subst IsChange (sym (change-back most.result most.ensures.range)) most.ensures.range
