use Rattle.std.proofs.Common.{◌∙◌, ◌+◌, ◌*◌, ap, List, ℤ, take, drop, length, arith}
use Rattle.cell_lanes.specs.Block.{Part, part_of, height, width, cells_at}
use Rattle.cell_lanes.proofs.BlockFacts.{window-cut}
use Rattle.cell_lanes.proofs.PlaceFacts.{cut-room, cut-limits}
use Rattle.cell_lanes.proofs.RowFacts.{part-length}
use Rattle.cell_lanes.proofs.block.Block.row_range.Goals as goal

pub returns-clause-value : goal.returns-clause-value
returns-clause-value c =
    let i = c.self.inside in
    let start = c.args.y * (i.cols + 2 * i.reach) + c.args.x in
    window-cut start c.args.len c.deref.result.now ∙ (ap (λ (xs : List ℤ). take c.args.len (drop start xs)) c.deref.ensures.value ∙ ap (λ (b : Part). cells_at b c.args.y c.args.x c.args.len) c.self.view_is)

pub returns-clause-length : goal.returns-clause-length
returns-clause-length c =
    let i = c.self.inside in
    let rows = ap (λ (b : Part). height b) c.self.view_is in
    let cols = ap (λ (b : Part). width b) c.self.view_is in
    let h = cut-room (part_of i.rows i.cols i.reach i.values.items) (c.args.y) (c.args.x) (c.args.len) c.self.invariant.0 (omega (arith, rows, c.requires.row)) (omega (arith, cols, c.requires.room)) in
    part-length c.deref.result.now (c.args.y * (i.cols + 2 * i.reach) + c.args.x) c.args.len (omega (arith, h, ap length c.deref.ensures.value))

pub returns-clause-limits : goal.returns-clause-limits
returns-clause-limits c =
    let s = c.self.invariant.0 in cut-limits c.self.inside.values.items c.deref.result.now _ _ c.deref.ensures.value s.values
