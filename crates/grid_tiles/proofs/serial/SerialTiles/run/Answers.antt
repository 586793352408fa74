use Rattle.std.proofs.Common.{◌≡◌, ◌∙◌, sym, ap, subst, ◌+◌, ◌++◌, List, take, drop, length, arith}
use Rattle.stencil_def.specs.Step.{fold_plane}
use Rattle.cell_lanes.specs.Block.{Part}
use Rattle.grid_tiles.specs.declared.serial_edges.Link.{Link}
use Rattle.grid_tiles.specs.Blocks.{AreLinked, AreSized, HoldGrid, Suit}
use Rattle.grid_tiles.specs.Tiles.{Tiles, gathered, tiles_after}
use Rattle.grid_tiles.proofs.GridFacts.{stepped, stepped-plane, written}
use Rattle.grid_tiles.proofs.StepFacts.{suit-next}
use Rattle.grid_tiles.proofs.serial.SerialTiles.run.Goals as goal

-- the blocks and the links as they stand in their vectors afterwards
blocks : goal.After-self-3-1 → List Part
blocks c = take c.self.inside.blocks.len (c.run_steps.new.blocks ++ drop (length c.run_steps.new.blocks) c.self.inside.blocks.items)

same-blocks : (c : goal.After-self-3-1) → blocks c ≡ c.run_steps.new.blocks
unfolding blocks
same-blocks c = written c.self.inside.blocks.len c.self.inside.blocks.items c.run_steps.new.blocks c.self.inside.blocks.ok.0 (c.run_steps.auto.blocks ∙ ap length c.deref_mut-2.ensures.value)

links : goal.After-self-3-1 → List Link
links c = take c.self.inside.links.len (c.run_steps.new.links ++ drop (length c.run_steps.new.links) c.self.inside.links.items)

same-links : (c : goal.After-self-3-1) → links c ≡ c.run_steps.new.links
unfolding links
same-links c = written c.self.inside.links.len c.self.inside.links.items c.run_steps.new.links c.self.inside.links.ok.0 (c.run_steps.auto.links ∙ ap length c.deref_mut.ensures.value)

sized : (c : goal.After-self-3-1) → AreSized c.self.inside.plan (blocks c)
sized c = subst (AreSized c.self.inside.plan) (sym (same-blocks c)) c.run_steps.ensures.blocks

holds : (c : goal.After-self-3-1) → HoldGrid c.self.inside.plan (fold_plane (gathered c.self.inside.plan c.self.inside.blocks.items) c.self.inside.rule c.args.steps) (blocks c)
holds c =
    let k = c.self.inside in let i = c.self.invariant in let g = gathered k.plan k.blocks.items in
    subst (HoldGrid k.plan (fold_plane g k.rule c.args.steps)) (sym (same-blocks c))
    (c.run_steps.ensures.fold g i.suit (subst (HoldGrid k.plan g) (sym c.deref_mut-2.ensures.value) i.own))

pub invariant_of-self : goal.invariant_of-self
unfolding blocks links
invariant_of-self c =
    let k = c.self.inside in let i = c.self.invariant in let g = gathered k.plan k.blocks.items in
    let v = c.reach-reach.ensures.limits in
    let done = stepped k.plan g k.rule c.args.steps (blocks c) v (sized c) i.plane i.suit (holds c) in
    let steps = ap (λ (r : Tiles). r.steps) c.self.view_is in let last = c.requires in
    record {
      plane = stepped-plane k.plan g k.rule c.args.steps (blocks c) v (sized c) i.plane i.suit (holds c);
      suit = subst (λ h. Suit k.plan h k.rule) (sym done) (suit-next k.plan g k.rule c.args.steps i.suit);
      weights = i.weights;
      divisor = i.divisor;
      sized = sized c;
      own = subst (λ h. HoldGrid k.plan h (blocks c)) (sym done) (holds c);
      links = subst (AreLinked k.plan (k.steps + c.args.steps) 0) (sym (same-links c)) c.run_steps.ensures.links;
      few = omega arith;
      room = c.run_steps.ensures.scratch;
    }

pub returns : goal.returns
unfolding blocks
returns c =
    let k = c.self.inside in let i = c.self.invariant in let g = gathered k.plan k.blocks.items in
    let done = stepped k.plan g k.rule c.args.steps (blocks c) c.reach-reach.ensures.limits (sized c) i.plane i.suit (holds c) in
    (λ j. record { plan = k.plan; rule = k.rule; steps = k.steps + c.args.steps; grid = done j }) ∙ ap (λ r. tiles_after r c.args.steps) c.self.view_is
