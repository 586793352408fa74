use Rattle.std.proofs.Common.{◌∙◌, sym, ap, subst, ◌/◌, Some, arith}
use Rattle.halo_plan.specs.declared.edge.Edge.{Edge}
use Rattle.halo_plan.specs.Plan.{IsPlan}
use Rattle.halo_plan.proofs.EdgeFacts.{down, up, edge-even, edge-odd, edge-two, few-edges}
use Rattle.halo_plan.proofs.plan.HaloPlan.edge.Goals as goal

pub behind-j-requires : goal.behind-j-requires
behind-j-requires c = let few = few-edges c.args.self.now (subst IsPlan c.self.view_is c.self.invariant.limits) in omega arith

pub down-requires-clause-two : goal.down-requires-clause-two
down-requires-clause-two c = edge-two c.args.self.now c.args.e c.requires

pub up-requires-clause-two : goal.up-requires-clause-two
up-requires-clause-two c = edge-two c.args.self.now c.args.e c.requires

pub returns-then-e-eq0-clause-value : goal.returns-then-e-eq0-clause-value
returns-then-e-eq0-clause-value c =
    let p = c.args.self.now in let i = c.args.e / 2 in
    edge-even p c.args.e i c.requires (omega arith)
    ∙ ap (λ j. Some (down p i j)) (sym c.behind-j.ensures.value) ∙ ap (λ (x : Edge). Some x) (sym c.down.ensures.value)

pub returns-else-e-eq0-clause-value : goal.returns-else-e-eq0-clause-value
returns-else-e-eq0-clause-value c =
    let p = c.args.self.now in let i = c.args.e / 2 in
    edge-odd p c.args.e i c.requires (omega arith)
    ∙ ap (λ j. Some (up p i j)) (sym c.behind-j.ensures.value) ∙ ap (λ (x : Edge). Some x) (sym c.up.ensures.value)
