use Rattle.std.proofs.Common.{◌∙◌, sym, ◌+◌, arith}
use Rattle.grid_tiles.proofs.OutsideFacts.{ends-set, open-down, open-up}
use Rattle.grid_tiles.proofs.serial_outside.set_open_rows.Goals as goal

pub set_rows_if-requires-clause-own : goal.set_rows_if-requires-clause-own
set_rows_if-requires-clause-own c is =
    open-up c.args.plan.now c.args.rule.now c.args.t c.reach.ensures.limits c.requires.tile c.requires.around (sym c.opens_up.ensures ∙ is)

pub set_rows_if-requires-2-clause-own : goal.set_rows_if-requires-2-clause-own
set_rows_if-requires-2-clause-own c is =
    let reach = c.reach.ensures.value in let rows = c.rows.ensures.value in let size = c.requires.size.rows in
    open-down c.args.plan.now c.args.rule.now c.args.t _ c.reach.ensures.limits c.requires.tile c.requires.around (omega arith) (sym c.opens_down.ensures ∙ is)

pub returns-clause-set : goal.returns-clause-set
returns-clause-set c =
    let reach = c.reach.ensures.value in let rows = c.rows.ensures.value in let size = c.requires.size.rows in
    ends-set c.args.plan.now c.args.rule.now c.args.t (c.reach.result + c.rows.result) c.opens_up.result c.opens_down.result c.args.block.now c.set_rows_if.new.block c.set_rows_if-2.new.block
    c.set_rows_if.ensures.set c.set_rows_if-2.ensures.set c.opens_up.ensures c.opens_down.ensures (omega arith)
