use Rattle.std.proofs.Common.{◌∙◌, ap, sym, ℕ, ◌+◌, ◌-◌, ◌*◌, ◌≤◌, unsigned_abs, map, to_z, w64, arith}
use Rattle.stencil_def.specs.Limits.{IsValue}
use Rattle.cell_lanes.specs.Mirror.{row_alike}
use Rattle.cell_lanes.specs.Window.{met}
use Rattle.cell_lanes.proofs.TwoFacts.{two-back, two-same, added}
use Rattle.cell_lanes.proofs.WindowFacts.{value-at}
use Rattle.cell_lanes.proofs.MirrorFacts.{both-before, both-middle, row-alike-size}
use Rattle.cell_lanes.proofs.mirrored.alike_in_row.Goals as goal
use Rattle.cell_lanes.proofs.mirrored.alike_in_row.Goals.{then-b-reach, else-b-reach}

pub returns : goal.returns
returns c =
    let a = c.args.a in
    let b = c.args.b in
    let r = c.args.reach in
    let at : ℕ → ℕ → _ = λ i column. met c.args.window.now c.args.width (c.args.x + i) a column in
    let value : (i column : ℕ) → IsValue (at i column) = λ i column. value-at c.args.window.now (a * c.args.width + (c.args.x + i + column)) c.requires.values in
    let all : ℕ → _ = λ i. row_alike c.args.window.now c.args.width r (c.args.x + i) a b in
    let size : (i : ℕ) → unsigned_abs (all i) ≤ 2000000000000 = λ i. row-alike-size c.args.window.now c.args.width r (c.args.x + i) a b c.requires.values in
    let own = two-back c.values_met-values.result (λ i. at i b) c.values_met-values.ensures (λ i. let q = value i b in omega arith) in
    elim c.if-b-reach.branch [
      | then-b-reach w ↦ ap (map (to_z w64)) w.result-is
          ∙ added _ _ w.plus.result (λ i. at i b) (λ i. at i (2 * r - b)) all own
          (two-back w.values_met.result (λ i. at i (2 * r - b)) w.values_met.ensures (λ i. let q = value i (2 * r - b) in omega arith))
          (λ i. sym (both-before r (at i) b w.if-b-reach.true)) (λ i. let s = size i in omega arith) w.plus.ensures
      | else-b-reach w ↦ ap (map (to_z w64)) w.result-is
          ∙ (own ∙ two-same (λ i. at i b) all (λ i. sym (both-middle r (at i) b w.if-b-reach.false)))
    ]
