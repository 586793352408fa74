use Rattle.std.proofs.Common.{◌≡◌, ◌∙◌, refl, sym, ap, ◌+◌, ◌-◌, ◌*◌, ℤ, List, int_div, length, arith}
use Rattle.std.proofs.lemmas.Nat.{mul-le}
use Rattle.stencil_def.specs.Step.{clamped, next_plane}
use Rattle.cell_lanes.specs.Block.{part_of}
use Rattle.cell_lanes.specs.Window.{sum_at}
use Rattle.cell_lanes.proofs.RowFacts.{part-length}
use Rattle.cell_lanes.proofs.BlockFacts.{length-put, limits-put, new-cell-at, own-next, own-room, window-cut}
use Rattle.cell_lanes.proofs.PlaceFacts.{cut-limits}
use Rattle.cell_lanes.proofs.block.next_own_row.Goals as goal

pub returns-clause-own : goal.returns-clause-own
returns-clause-own c g rule top left weights div holds inside done =
    let a = c.args in
    let w = a.cols + 2 * a.reach in
    let start = (a.reach + a.row) * w + a.reach in
    let room = own-room a.rows a.cols a.reach a.row a.next.now c.requires.next c.requires.row in
    let part = part-length a.next.now start a.cols room in
    let long : length c.new_cells.new.out ≡ a.cols = c.new_cells.auto.out ∙ part in
    own-next (next_plane g rule) top left a.rows a.cols a.reach a.row start (start + a.cols - start) a.next.now c.new_cells.new.out done refl room long
    (λ col l. c.new_cells.ensures.values col (omega arith)
    ∙ ap (λ (xs : List ℤ). clamped (int_div (sum_at a.weights.now xs w col) a.divisor.now)) (window-cut (a.row * w) ((2 * a.reach + 1) * w) a.values.now)
    ∙ new-cell-at g rule top left (part_of a.rows a.cols a.reach a.values.now) a.weights.now a.divisor.now a.row col weights div c.requires.reach holds inside c.requires.row l)

pub returns-clause-limits : goal.returns-clause-limits
returns-clause-limits c =
    let a = c.args in
    let start = (a.reach + a.row) * (a.cols + 2 * a.reach) + a.reach in
    let k = start + a.cols - start in
    let room = own-room a.rows a.cols a.reach a.row a.next.now c.requires.next c.requires.row in
    let part = part-length a.next.now start a.cols room in
    let size : k ≡ a.cols = omega arith in
    limits-put a.rows a.cols a.reach start k a.next.now c.new_cells.new.out c.requires.next c.new_cells.ensures.limits
    (length-put start k a.next.now c.new_cells.new.out (omega arith) (c.new_cells.auto.out ∙ part ∙ sym size))

-- the window's rows are among those of the part
pub slice_bounds-window-end : goal.slice_bounds-window-end
slice_bounds-window-end c =
    let a = c.args in
    let w = a.cols + 2 * a.reach in
    let less = c.requires.row in
    let m = mul-le (a.row + (2 * a.reach + 1)) w (a.rows + 2 * a.reach) w (omega (arith, less)) (omega arith) in
    let long = c.requires.part.length in
    omega (arith, m, long)

pub slice_bounds-cells-end : goal.slice_bounds-cells-end
slice_bounds-cells-end c =
    let a = c.args in
    let room = own-room a.rows a.cols a.reach a.row a.next.now c.requires.next c.requires.row in
    omega (arith, room)

pub new_cells-requires-clause-window : goal.new_cells-requires-clause-window
new_cells-requires-clause-window c =
    let a = c.args in
    let w = a.cols + 2 * a.reach in
    let less = c.requires.row in
    let m = mul-le (a.row + (2 * a.reach + 1)) w (a.rows + 2 * a.reach) w (omega (arith, less)) (omega arith) in
    let long = c.requires.part.length in
    part-length a.values.now (a.row * w) ((2 * a.reach + 1) * w) (omega (arith, m, long)) ∙ ap (λ k. (2 * k + 1) * w) (sym c.requires.reach)

pub new_cells-requires-clause-values : goal.new_cells-requires-clause-values
new_cells-requires-clause-values c =
    let s = c.requires.part in cut-limits c.args.values.now c.args.values.now _ _ refl s.values

pub new_cells-requires-clause-out : goal.new_cells-requires-clause-out
new_cells-requires-clause-out c =
    let a = c.args in
    let room = own-room a.rows a.cols a.reach a.row a.next.now c.requires.next c.requires.row in
    let size = part-length a.next.now ((a.reach + a.row) * (a.cols + 2 * a.reach) + a.reach) a.cols room in
    ap (λ n. n + 2 * a.weights.now.reach) size ∙ ap (λ k. a.cols + 2 * k) c.requires.reach
