use Rattle.std.proofs.Common.{◌≡◌, ◌∙◌, sym, ap, subst, ◌+◌, ◌++◌, List, take, drop, length, arith}
use Rattle.plain_pair.specs.Kept.{Kept}
use Rattle.stencil_def.specs.Step.{fold_plane}
use Rattle.cell_lanes.specs.Block.{Part}
use Rattle.rank_task.specs.Blocks.{ArePaired, AreSized, HoldGrid}
use Rattle.rank_task.specs.Ranks.{Ranks, gathered, ranks_after}
use Rattle.rank_task.proofs.GridFacts.{AreAfter, stepped, written}
use Rattle.rank_task.proofs.serial.SerialRanks.run.Goals as goal

-- the blocks and the pairs as they stand in their vectors afterwards
blocks : goal.After-self-3-1 → List Part
blocks c = take c.self.inside.blocks.len (c.run_steps.new.blocks ++ drop (length c.run_steps.new.blocks) c.self.inside.blocks.items)

same-blocks : (c : goal.After-self-3-1) → blocks c ≡ c.run_steps.new.blocks
unfolding blocks
same-blocks c = written c.self.inside.blocks.len c.self.inside.blocks.items c.run_steps.new.blocks c.self.inside.blocks.ok.0 (c.run_steps.auto.blocks ∙ ap length c.deref_mut-2.ensures.value)

pairs : goal.After-self-3-1 → List Kept
pairs c = take c.self.inside.pairs.len (c.run_steps.new.pairs ++ drop (length c.run_steps.new.pairs) c.self.inside.pairs.items)

same-pairs : (c : goal.After-self-3-1) → pairs c ≡ c.run_steps.new.pairs
unfolding pairs
same-pairs c = written c.self.inside.pairs.len c.self.inside.pairs.items c.run_steps.new.pairs c.self.inside.pairs.ok.0 (c.run_steps.auto.pairs ∙ ap length c.deref_mut.ensures.value)

sized : (c : goal.After-self-3-1) → AreSized c.self.inside.plan (blocks c)
sized c = subst (AreSized c.self.inside.plan) (sym (same-blocks c)) c.run_steps.ensures.blocks

after : (c : goal.After-self-3-1) → AreAfter c.self.inside.plan (gathered c.self.inside.plan c.self.inside.blocks.items) c.self.inside.rule c.args.steps (blocks c)
after c =
    let k = c.self.inside in let i = c.self.invariant in let g = gathered k.plan k.blocks.items in
    stepped k.plan g k.rule c.args.steps (blocks c) c.reach-reach.ensures.limits (sized c) i.plane i.suit
    (subst (HoldGrid k.plan (fold_plane g k.rule c.args.steps)) (sym (same-blocks c))
    (c.run_steps.ensures.fold g i.suit (subst (HoldGrid k.plan g) (sym c.deref_mut-2.ensures.value) i.own)))

pub invariant_of-self : goal.invariant_of-self
unfolding blocks pairs
invariant_of-self c =
    let k = c.self.inside in let i = c.self.invariant in let done = after c in
    let steps = ap (λ (r : Ranks). r.steps) c.self.view_is in let last = c.requires in
    record {
      plane = done.plane;
      suit = done.suit;
      weights = i.weights;
      divisor = i.divisor;
      sized = sized c;
      own = done.own;
      pairs = subst (ArePaired k.plan (k.steps + c.args.steps) 0) (sym (same-pairs c)) c.run_steps.ensures.pairs;
      few = omega arith;
      room = c.run_steps.ensures.scratch;
    }

pub returns : goal.returns
unfolding blocks
returns c =
    let k = c.self.inside in let done = (after c).grid in
    (λ j. record { plan = k.plan; rule = k.rule; steps = k.steps + c.args.steps; grid = done j }) ∙ ap (λ r. ranks_after r c.args.steps) c.self.view_is
