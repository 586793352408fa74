use Rattle.std.proofs.Common.{◌≡◌, ap, ◌+◌, ◌-◌, ◌*◌, length, take, drop, length-take-le, arith}
use Rattle.std.proofs.lemmas.List.{length-drop}
use Rattle.std.proofs.lemmas.List.Elements.{All-take, All-drop}
use Rattle.std.proofs.lemmas.Nat.{mul-le}
use Rattle.stencil_def.specs.Limits.{IsValue}
use Rattle.rank_task.proofs.RowFacts.{put-first, put-next}
use Rattle.rank_task.proofs.serial_rows.put_rows.Goals as goal

pub loop-k-init : goal.loop-k-init
loop-k-init c = put-first c.args.block.now c.args.first c.args.rows.now c.reach-reach.ensures.limits

pub put-requires-clause-row : goal.put-requires-clause-row
put-requires-clause-row c =
    let s = c.loop-k.invariant.size in let r = s.rows in let h = s.reach in let end = c.requires.end in
    omega arith

pub put-requires-clause-room : goal.put-requires-clause-room
put-requires-clause-room c =
    let s = c.loop-k.invariant.size in let w = s.cols in let h = s.reach in
    let far = c.reach-reach.ensures.value in
    let value = c.cols-cols.ensures.value in
    let start = c.loop-k.k * c.cols-cols.result in
    let n = start + c.cols-cols.result - start in
    let wide : n ≡ c.args.block.now.cols = omega arith in
    let all = c.requires.rows in
    let m = mul-le (c.loop-k.k + 1) c.args.block.now.cols c.args.count c.args.block.now.cols (omega arith) (omega arith) in
    let place : start ≡ c.loop-k.k * c.args.block.now.cols = ap (λ m. c.loop-k.k * m) value in
    let rest = length-drop start c.args.rows.now in
    let long : length (take n (drop start c.args.rows.now)) ≡ n = length-take-le n (drop start c.args.rows.now) (omega (arith, m)) in
    omega arith

pub put-requires-clause-values : goal.put-requires-clause-values
put-requires-clause-values c =
    let start = c.loop-k.k * c.cols-cols.result in
    All-take IsValue (start + c.cols-cols.result - start) (drop start c.args.rows.now) (All-drop IsValue start c.args.rows.now c.requires.values)

pub loop-k-preserved : goal.loop-k-preserved
loop-k-preserved c =
    let b = c.args.block.now in
    let k = c.loop-k.k in
    let s = c.loop-k.invariant.size in let r = s.rows in let h = s.reach in let end = c.requires.end in
    let value = c.cols-cols.ensures.value in
    let start = k * c.cols-cols.result in
    let n = start + c.cols-cols.result - start in
    let wide : n ≡ b.cols = omega arith in
    let place : start ≡ k * b.cols = ap (λ m. k * m) value in
    let all = c.requires.rows in
    let m = mul-le (k + 1) b.cols c.args.count b.cols (omega arith) (omega arith) in
    let rest = length-drop start c.args.rows.now in
    let cells = take n (drop start c.args.rows.now) in
    let long : length cells ≡ n = length-take-le n (drop start c.args.rows.now) (omega (arith, m)) in
    put-next b c.loop-k.block c.put.new.self c.args.first k start n c.reach-reach.result c.args.rows.now cells c.loop-k.invariant
    place wide c.reach-reach.ensures.value (λ i. cells) long (omega arith) c.put.ensures.put c.put.ensures.limits
