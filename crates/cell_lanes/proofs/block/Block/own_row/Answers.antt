use Rattle.std.proofs.Common.{◌∙◌, ◌+◌, ◌*◌, ap, List, ℤ, take, drop, length, arith}
use Rattle.cell_lanes.specs.Block.{Part, part_of, width, own_cells}
use Rattle.cell_lanes.proofs.BlockFacts.{window-cut}
use Rattle.cell_lanes.proofs.PlaceFacts.{cut-room, cut-limits}
use Rattle.cell_lanes.proofs.RowFacts.{part-length}
use Rattle.cell_lanes.proofs.block.Block.own_row.Goals as goal

pub returns-clause-value : goal.returns-clause-value
returns-clause-value c =
    let i = c.self.inside in
    let start = (i.reach + c.args.row) * (i.cols + 2 * i.reach) + i.reach in
    window-cut start i.cols c.deref.result.now ∙ (ap (λ (xs : List ℤ). take i.cols (drop start xs)) c.deref.ensures.value ∙ ap (λ (b : Part). own_cells b c.args.row) c.self.view_is)

pub returns-clause-length : goal.returns-clause-length
returns-clause-length c =
    let i = c.self.inside in
    let rows = ap (λ (b : Part). b.rows) c.self.view_is in
    let cols = ap (λ (b : Part). width b) c.self.view_is in
    let h = cut-room (part_of i.rows i.cols i.reach i.values.items) ((i.reach + c.args.row)) (i.reach) (i.cols) c.self.invariant.0 (omega (arith, rows, c.requires)) (omega arith) in
    part-length c.deref.result.now ((i.reach + c.args.row) * (i.cols + 2 * i.reach) + i.reach) i.cols (omega (arith, h, ap length c.deref.ensures.value)) ∙ ap (λ (b : Part). b.cols) c.self.view_is

pub returns-clause-limits : goal.returns-clause-limits
returns-clause-limits c =
    let s = c.self.invariant.0 in cut-limits c.self.inside.values.items c.deref.result.now _ _ c.deref.ensures.value s.values
