use Rattle.std.proofs.Common.{◌≡◌, ◌∙◌, sym, ap, subst, ◌+◌, ◌-◌, ◌*◌, ◌≤◌, length, arith}
use Rattle.std.specs.List.{All}
use Rattle.std.proofs.lemmas.Nat.{mul-le}
use Rattle.stencil_def.specs.Limits.{IsValue}
use Rattle.cell_lanes.proofs.PaddedFacts.{all-put}
use Rattle.grid_tiles.proofs.CellFacts.{copy-next}
use Rattle.grid_tiles.proofs.serial_cells.copy_cells.Goals as goal

pub loop-k-preserved : goal.loop-k-preserved
loop-k-preserved c =
    let b = c.args.block.now in
    let k = c.loop-k.k in let cols = c.args.cols in
    let start = k * cols in
    let n = start + cols - start in
    let wide : n ≡ cols = omega arith in
    let size = c.loop-k.auto.out in let all = c.requires.out in
    let m = mul-le (k + 1) cols c.args.rows cols (omega arith) (omega arith) in
    let room : start + n ≤ length c.loop-k.out = omega (arith, m) in
    let after = c.copy_from_slice.ensures.after in
    copy-next b c.args.y c.args.x cols k start n c.loop-k.out c.copy_from_slice.new.self c.loop-k.invariant (λ i. start) wide room
    (after ∙ c.row_range.ensures.value) (ap length after ∙ c.row_range.ensures.length ∙ sym wide)
    (all-put start n c.loop-k.out c.copy_from_slice.new.self c.loop-k.invariant.values (subst (All IsValue) (sym after) c.row_range.ensures.limits))
