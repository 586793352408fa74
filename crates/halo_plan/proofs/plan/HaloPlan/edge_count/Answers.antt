use Rattle.std.proofs.Common.{◌≡◌, ◌∙◌, sym, ap, subst, ◌+◌, ◌-◌, ◌*◌, true, false, length, arith}
use Rattle.std.specs.Prelude.{if◌then◌else◌}
use Rattle.halo_plan.specs.Plan.{IsPlan}
use Rattle.halo_plan.specs.Edges.{edges, goes_round}
use Rattle.halo_plan.proofs.EdgeFacts.{edges-many}
use Rattle.halo_plan.proofs.plan.HaloPlan.edge_count.Goals as goal

pub returns-then-goes_round-clause-value : goal.returns-then-goes_round-clause-value
returns-then-goes_round-clause-value c =
    let p = c.args.self.now in
    let s = subst IsPlan c.self.view_is c.self.invariant.limits in
    let some = s.ranks in
    let ranks : c.self.inside.ranks ≡ p.ranks = ap (λ q. q.ranks) c.self.view_is in
    let round : goes_round p ≡ true = sym c.goes_round.ensures ∙ c.if-goes_round.true in
    let many : length (edges p) ≡ 2 * (p.ranks - 1 + 1) = edges-many p ∙ ap (λ b. 2 * (p.ranks - 1 + (if b then 1 else 0))) round in
    omega arith

pub returns-else-goes_round-clause-value : goal.returns-else-goes_round-clause-value
returns-else-goes_round-clause-value c =
    let p = c.args.self.now in
    let ranks : c.self.inside.ranks ≡ p.ranks = ap (λ q. q.ranks) c.self.view_is in
    let round : goes_round p ≡ false = sym c.goes_round.ensures ∙ c.if-goes_round.false in
    let many : length (edges p) ≡ 2 * (p.ranks - 1 + 0) = edges-many p ∙ ap (λ b. 2 * (p.ranks - 1 + (if b then 1 else 0))) round in
    omega arith
