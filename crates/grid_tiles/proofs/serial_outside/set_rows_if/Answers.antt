use Rattle.grid_tiles.proofs.OutsideFacts.{rows-if, rows-not}
use Rattle.grid_tiles.proofs.serial_outside.set_rows_if.Goals as goal

pub returns-then-is_open-clause-set : goal.returns-then-is_open-clause-set
returns-then-is_open-clause-set c = rows-if c.args.plan.now c.args.rule.now c.args.t c.args.from c.args.is_open c.args.block.now c.set_rows.new.block c.set_rows.ensures.set

pub returns-else-is_open-clause-set : goal.returns-else-is_open-clause-set
returns-else-is_open-clause-set c = rows-not c.args.plan.now c.args.rule.now c.args.t c.args.from c.args.is_open c.args.block.now c.if-is_open.false c.requires.size
