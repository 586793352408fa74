use Rattle.std.proofs.Common.{ℕ, ◌+◌, ◌<◌, ◌≤◌, below_more, arith}
use Rattle.cell_lanes.proofs.ReadyFacts.{IsMirroredAt, mirrored-here}
use Rattle.cell_lanes.proofs.weights.is_mirrored.Goals as goal

pub loop-b-preserved : goal.loop-b-preserved
loop-b-preserved c =
    record {
      above = c.loop-b.invariant.above;
      here = below_more (λ b. IsMirroredAt c.args.weights.now c.loop-a.a b) c.loop-b.b c.loop-b.invariant.here
          (mirrored-here c.args.weights.now c.reach-reach.result c.loop-a.a c.loop-b.b c.at-weight.result c.at.result c.at-else-at-weight.result c.at-else-at-weight-2.result
          c.reach-reach.ensures.value c.at-weight.ensures.value c.at.ensures.value c.at-else-at-weight.ensures.value c.at-else-at-weight-2.ensures.value
          c.at-weight.ensures.limits c.at.ensures.limits c.at-else-at-weight.ensures.limits c.at-else-at-weight-2.ensures.limits
          c.if-at-weight.false c.if-at-weight-2.false c.if-at-weight-3.false);
    }

pub loop-a-preserved : goal.loop-a-preserved
loop-a-preserved c =
    let w = c.args.weights.now in
    let end = c.loop-b-test.false in
    let reach = c.reach-reach.ensures.value in
    let rows : (a : ℕ) → a < c.loop-a.a + 1 → (b : ℕ) → b ≤ w.reach → IsMirroredAt w a b =
    below_more (λ a. (b : ℕ) → b ≤ w.reach → IsMirroredAt w a b) c.loop-a.a
    (λ a h b g. c.loop-b.invariant.above a b h g) (λ b g. c.loop-b.invariant.here b (omega arith)) in
    λ a b h g. rows a h b g
