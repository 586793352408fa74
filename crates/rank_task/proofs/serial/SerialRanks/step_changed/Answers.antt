use Rattle.std.proofs.Common.{◌≡◌, ◌∙◌, sym, ap, subst, pos, ◌+◌, ◌++◌, List, take, drop, length, arith}
use Rattle.plain_pair.specs.Kept.{Kept}
use Rattle.stencil_def.specs.Step.{fold_plane}
use Rattle.cell_lanes.specs.Block.{Part}
use Rattle.cell_lanes.specs.Change.{change}
use Rattle.cell_lanes.proofs.ChangeFacts.{change-back}
use Rattle.rank_task.specs.Blocks.{ArePaired, AreSized, HoldGrid}
use Rattle.rank_task.specs.Ranks.{Ranks, gathered, ranks_after}
use Rattle.rank_task.proofs.GridFacts.{AreAfter, stepped, written}
use Rattle.rank_task.proofs.StepFacts.{fold-one}
use Rattle.rank_task.proofs.serial.SerialRanks.step_changed.Goals as goal

-- the blocks and the pairs as they stand in their vectors afterwards
blocks : goal.After-self-3-1 → List Part
blocks c = take c.self.inside.blocks.len (c.step_changed-most.new.blocks ++ drop (length c.step_changed-most.new.blocks) c.self.inside.blocks.items)

same-blocks : (c : goal.After-self-3-1) → blocks c ≡ c.step_changed-most.new.blocks
unfolding blocks
same-blocks c = written c.self.inside.blocks.len c.self.inside.blocks.items c.step_changed-most.new.blocks c.self.inside.blocks.ok.0 (c.step_changed-most.auto.blocks ∙ ap length c.deref_mut-2.ensures.value)

pairs : goal.After-self-3-1 → List Kept
pairs c = take c.self.inside.pairs.len (c.step_changed-most.new.pairs ++ drop (length c.step_changed-most.new.pairs) c.self.inside.pairs.items)

same-pairs : (c : goal.After-self-3-1) → pairs c ≡ c.step_changed-most.new.pairs
unfolding pairs
same-pairs c = written c.self.inside.pairs.len c.self.inside.pairs.items c.step_changed-most.new.pairs c.self.inside.pairs.ok.0 (c.step_changed-most.auto.pairs ∙ ap length c.deref_mut.ensures.value)

sized : (c : goal.After-self-3-1) → AreSized c.self.inside.plan (blocks c)
sized c = subst (AreSized c.self.inside.plan) (sym (same-blocks c)) c.step_changed-most.ensures.blocks

after : (c : goal.After-self-3-1) → AreAfter c.self.inside.plan (gathered c.self.inside.plan c.self.inside.blocks.items) c.self.inside.rule 1 (blocks c)
after c =
    let k = c.self.inside in let i = c.self.invariant in let g = gathered k.plan k.blocks.items in
    stepped k.plan g k.rule 1 (blocks c) c.reach-reach.ensures.limits (sized c) i.plane i.suit
    (subst (HoldGrid k.plan (fold_plane g k.rule 1)) (sym (same-blocks c))
    (subst (λ h. HoldGrid k.plan h c.step_changed-most.new.blocks) (sym (fold-one g k.rule)) (c.step_changed-most.ensures.next g i.suit (subst (HoldGrid k.plan g) (sym c.deref_mut-2.ensures.value) i.own))))

pub invariant_of-self : goal.invariant_of-self
unfolding blocks pairs
invariant_of-self c =
    let k = c.self.inside in let i = c.self.invariant in let done = after c in
    let steps = ap (λ (r : Ranks). r.steps) c.self.view_is in let last = c.requires in
    record {
      plane = done.plane;
      suit = done.suit;
      weights = i.weights;
      divisor = i.divisor;
      sized = sized c;
      own = done.own;
      pairs = subst (ArePaired k.plan (k.steps + 1) 0) (sym (same-pairs c)) c.step_changed-most.ensures.pairs;
      few = omega arith;
      room = c.step_changed-most.ensures.scratch;
    }

pub returns-clause-after : goal.returns-clause-after
unfolding blocks
returns-clause-after c =
    let k = c.self.inside in let done = (after c).grid in
    (λ j. record { plan = k.plan; rule = k.rule; steps = k.steps + 1; grid = done j }) ∙ ap (λ r. ranks_after r 1) c.self.view_is

pub returns-clause-change : goal.returns-clause-change
unfolding blocks
returns-clause-change c =
    let k = c.self.inside in let i = c.self.invariant in let g = gathered k.plan k.blocks.items in
    let done = (after c).grid ∙ fold-one g k.rule in
    change-back c.step_changed-most.result c.step_changed-most.ensures.range
    ∙ c.step_changed-most.ensures.change g i.suit (subst (HoldGrid k.plan g) (sym c.deref_mut-2.ensures.value) i.own)
    ∙ (λ j. pos (change (c.self.view_is j).grid (sym done j)))
