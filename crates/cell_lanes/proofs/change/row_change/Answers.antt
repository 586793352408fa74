use Rattle.std.proofs.Common.{◌∙◌, ◌+◌, ◌-◌, ◌*◌, ℕ, pos, sym, ap, refl, arith}
use Rattle.cell_lanes.proofs.ChangeFacts.{change-back, row-change-is}
use Rattle.cell_lanes.proofs.BlockFacts.{own-room}
use Rattle.cell_lanes.proofs.RowFacts.{part-length}
use Rattle.cell_lanes.proofs.PlaceFacts.{cut-limits}
use Rattle.cell_lanes.proofs.change.row_change.Goals as goal

pub returns-clause-change : goal.returns-clause-change
returns-clause-change c g next top left was is =
    let a = c.args in
    let start = (a.reach + a.row) * (a.cols + 2 * a.reach) + a.reach in
    change-back c.greatest_change.result c.greatest_change.ensures.limits
    ∙ c.greatest_change.ensures.change
    ∙ ap (λ (m : ℕ). pos m) (row-change-is g next top left a.rows a.cols a.reach a.row start (start + a.cols - start) a.old.now a.new.now c.requires.old c.requires.row refl refl was is)

pub slice_bounds-greatest_change-end : goal.slice_bounds-greatest_change-end
slice_bounds-greatest_change-end c =
    let a = c.args in
    let room = own-room a.rows a.cols a.reach a.row a.old.now c.requires.old c.requires.row in
    omega (arith, room)

pub greatest_change-requires-clause-length : goal.greatest_change-requires-clause-length
greatest_change-requires-clause-length c =
    let a = c.args in
    let start = (a.reach + a.row) * (a.cols + 2 * a.reach) + a.reach in
    part-length a.new.now start a.cols (own-room a.rows a.cols a.reach a.row a.new.now c.requires.new c.requires.row)
    ∙ sym (part-length a.old.now start a.cols (own-room a.rows a.cols a.reach a.row a.old.now c.requires.old c.requires.row))

pub greatest_change-requires-clause-old : goal.greatest_change-requires-clause-old
greatest_change-requires-clause-old c = let s = c.requires.old in cut-limits c.args.old.now c.args.old.now _ _ refl s.values

pub greatest_change-requires-clause-new : goal.greatest_change-requires-clause-new
greatest_change-requires-clause-new c = let s = c.requires.new in cut-limits c.args.new.now c.args.new.now _ _ refl s.values
