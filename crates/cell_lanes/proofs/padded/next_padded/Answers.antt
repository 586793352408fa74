use Rattle.std.proofs.Common.{◌∙◌}
use Rattle.stencil_def.specs.Step.{new_cell}
use Rattle.cell_lanes.proofs.padded.next_padded.Goals as goal

pub set_all_end_rows-requires-clause-length : goal.set_all_end_rows-requires-clause-length
set_all_end_rows-requires-clause-length c = c.next_rows.auto.next ∙ (c.requires.same_length ∙ c.requires.length)

pub set_all_end_rows-requires-clause-values : goal.set_all_end_rows-requires-clause-values
set_all_end_rows-requires-clause-values c = c.next_rows.ensures.values

pub returns-clause-padded : goal.returns-clause-padded
returns-clause-padded c g e f padded = c.set_all_end_rows.ensures.padded (new_cell g c.args.rule.now) (c.next_rows.ensures.rows g e f padded)

pub returns-clause-values : goal.returns-clause-values
returns-clause-values c = c.set_all_end_rows.ensures.values
