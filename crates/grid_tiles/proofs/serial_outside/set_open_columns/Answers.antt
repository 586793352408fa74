use Rattle.std.proofs.Common.{◌∙◌, sym, ◌+◌, arith}
use Rattle.grid_tiles.proofs.OutsideFacts.{open-left, open-right, sides-set}
use Rattle.grid_tiles.proofs.serial_outside.set_open_columns.Goals as goal

pub set_columns_if-requires-clause-own : goal.set_columns_if-requires-clause-own
set_columns_if-requires-clause-own c is =
    open-left c.args.plan.now c.args.rule.now c.args.t c.reach.ensures.limits c.requires.tile c.requires.around (sym c.opens_left.ensures ∙ is)

pub set_columns_if-requires-2-clause-own : goal.set_columns_if-requires-2-clause-own
set_columns_if-requires-2-clause-own c is =
    let reach = c.reach.ensures.value in let cols = c.cols.ensures.value in let size = c.requires.size.cols in
    open-right c.args.plan.now c.args.rule.now c.args.t _ c.reach.ensures.limits c.requires.tile c.requires.around (omega arith) (sym c.opens_right.ensures ∙ is)

pub returns : goal.returns
returns c =
    let reach = c.reach.ensures.value in let cols = c.cols.ensures.value in let size = c.requires.size.cols in
    sides-set c.args.plan.now c.args.rule.now c.args.t (c.reach.result + c.cols.result) c.opens_left.result c.opens_right.result c.args.block.now c.set_columns_if.new.block c.set_columns_if-2.new.block
    c.set_columns_if.ensures c.set_columns_if-2.ensures c.opens_left.ensures c.opens_right.ensures (omega arith)
