use Rattle.cell_lanes.proofs.PaddedFacts.{rows-padded}
use Rattle.cell_lanes.proofs.padded.set_all_end_rows.Goals as goal

pub returns-clause-padded : goal.returns-clause-padded
returns-clause-padded c own middle =
    rows-padded c.args.rule.now c.args.rows c.args.cols c.reach-reach.result own c.args.values.now c.set_end_rows.new.values c.set_end_rows-2.new.values
    c.requires.rows.0 c.reach-reach.ensures.value middle c.set_end_rows.ensures.ends c.set_end_rows.ensures.above c.set_end_rows-2.ensures.ends c.set_end_rows-2.ensures.below
