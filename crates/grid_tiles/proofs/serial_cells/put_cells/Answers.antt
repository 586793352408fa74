use Rattle.std.proofs.Common.{◌≡◌, refl, ◌+◌, ◌-◌, ◌*◌, length, take, drop, length-take-le, arith}
use Rattle.std.proofs.lemmas.List.{length-drop}
use Rattle.std.proofs.lemmas.List.Elements.{All-take, All-drop}
use Rattle.std.proofs.lemmas.Nat.{mul-le}
use Rattle.stencil_def.specs.Limits.{IsValue}
use Rattle.grid_tiles.proofs.CellFacts.{put-next, put-none}
use Rattle.grid_tiles.proofs.serial_cells.put_cells.Goals as goal

pub loop-k-init : goal.loop-k-init
loop-k-init c = put-none c.args.block.now c.args.y c.args.x c.args.cols c.args.values.now c.reach-reach.ensures.limits

pub put-requires-clause-row : goal.put-requires-clause-row
put-requires-clause-row c =
    let s = c.loop-k.invariant.size in let r = s.rows in let h = s.reach in let end = c.requires.rows in
    omega arith

pub put-requires-clause-room : goal.put-requires-clause-room
put-requires-clause-room c =
    let s = c.loop-k.invariant.size in let w = s.cols in let h = s.reach in let fits = c.requires.cols in
    let cols = c.args.cols in
    let start = c.loop-k.k * cols in
    let n = start + cols - start in
    let all = c.requires.count in
    let m = mul-le (c.loop-k.k + 1) cols c.args.rows cols (omega arith) (omega arith) in
    let rest = length-drop start c.args.values.now in
    let long : length (take n (drop start c.args.values.now)) ≡ n = length-take-le n (drop start c.args.values.now) (omega (arith, m)) in
    omega arith

pub put-requires-clause-values : goal.put-requires-clause-values
put-requires-clause-values c =
    let start = c.loop-k.k * c.args.cols in
    All-take IsValue (start + c.args.cols - start) (drop start c.args.values.now) (All-drop IsValue start c.args.values.now c.requires.values)

pub loop-k-preserved : goal.loop-k-preserved
loop-k-preserved c =
    let k = c.loop-k.k in let cols = c.args.cols in
    let end = c.requires.rows in
    let start = k * cols in
    let n = start + cols - start in
    let all = c.requires.count in
    let m = mul-le (k + 1) cols c.args.rows cols (omega arith) (omega arith) in
    let rest = length-drop start c.args.values.now in
    let cells = take n (drop start c.args.values.now) in
    let long : length cells ≡ n = length-take-le n (drop start c.args.values.now) (omega (arith, m)) in
    put-next c.args.y c.args.x k cols start n c.args.values.now cells c.args.block.now c.loop-k.block c.put.new.self c.loop-k.invariant
    refl (omega arith) refl long (omega arith) c.requires.cols c.put.ensures.put c.put.ensures.limits
