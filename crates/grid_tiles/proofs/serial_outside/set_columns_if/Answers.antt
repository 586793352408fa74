use Rattle.grid_tiles.proofs.OutsideFacts.{columns-if, columns-not}
use Rattle.grid_tiles.proofs.serial_outside.set_columns_if.Goals as goal

pub returns-then-is_open : goal.returns-then-is_open
returns-then-is_open c = columns-if c.args.plan.now c.args.rule.now c.args.t c.args.from c.args.is_open c.args.block.now c.set_columns.new.block c.set_columns.ensures

pub returns-else-is_open : goal.returns-else-is_open
returns-else-is_open c = columns-not c.args.plan.now c.args.rule.now c.args.t c.args.from c.args.is_open c.args.block.now c.if-is_open.false c.requires.size
