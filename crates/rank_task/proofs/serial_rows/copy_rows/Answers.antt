use Rattle.std.proofs.Common.{◌≡◌, ◌∙◌, sym, ap, subst, ◌+◌, ◌-◌, ◌*◌, ◌≤◌, length, arith}
use Rattle.std.specs.List.{All}
use Rattle.std.proofs.lemmas.Nat.{mul-le}
use Rattle.stencil_def.specs.Limits.{IsValue}
use Rattle.cell_lanes.proofs.PaddedFacts.{all-put}
use Rattle.rank_task.proofs.RowFacts.{copy-next}
use Rattle.rank_task.proofs.serial_rows.copy_rows.Goals as goal

pub loop-k-preserved : goal.loop-k-preserved
loop-k-preserved c =
    let b = c.args.block.now in
    let k = c.loop-k.k in
    let start = k * c.cols-cols.result in
    let n = start + c.cols-cols.result - start in
    let value = c.cols-cols.ensures.value in
    let wide : n ≡ b.cols = omega arith in
    let place : start ≡ k * b.cols = ap (λ m. k * m) value in
    let size = c.loop-k.auto.out in let all = c.requires.out in
    let m = mul-le (k + 1) b.cols c.args.count b.cols (omega arith) (omega arith) in
    let room : start + n ≤ length c.loop-k.out = omega (arith, m) in
    let after = c.copy_from_slice.ensures.after in
    copy-next b c.args.first k start n c.loop-k.out c.copy_from_slice.new.self c.loop-k.invariant place wide room
    (after ∙ c.own_row.ensures.value) (ap length after ∙ c.own_row.ensures.length ∙ sym wide)
    (all-put start n c.loop-k.out c.copy_from_slice.new.self c.loop-k.invariant.values (subst (All IsValue) (sym after) c.own_row.ensures.limits))
