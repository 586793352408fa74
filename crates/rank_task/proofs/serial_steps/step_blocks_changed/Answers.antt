use Rattle.std.proofs.Common.{◌≡◌, ◌∙◌, refl, sym, ap, subst, ◌<◌, ℕ, pos, get_or, to_z, w64, arith}
use Rattle.std.proofs.lemmas.Int.{ints}
use Rattle.stencil_def.specs.Plane.{Plane}
use Rattle.stencil_def.specs.Step.{next_plane}
use Rattle.cell_lanes.specs.Block.{HoldsMiddle, IsInside, Part, SameSize, height}
use Rattle.cell_lanes.specs.Change.{change_within}
use Rattle.cell_lanes.proofs.ChangeFacts.{change-kept}
use Rattle.halo_plan.specs.Plan.{first_row}
use Rattle.rank_task.specs.Blocks.{AllRead, Suit, block_at, no_part}
use Rattle.rank_task.proofs.HaloFacts.{any-default, at-other, sized-set}
use Rattle.rank_task.proofs.MostFacts.{ranks-all, ranks-more, ranks-none}
use Rattle.rank_task.proofs.StepFacts.{block-inside, next-one}
use Rattle.rank_task.proofs.serial_steps.step_blocks_changed.Goals as goal

pub loop-i-init : goal.loop-i-init
loop-i-init c =
    let p = c.args.plan.now in let rule = c.args.rule.now in
    record {
      blocks = c.requires.blocks;
      next = λ g suit all i less. absurd (omega arith);
      rest = λ i low. refl;
      change = λ g suit all. ranks-none p g (next_plane g rule) c.ranks-i-end.ensures.limits;
      range = (omega (arith, ints), omega (arith, ints));
    }

pub step_block_changed-requires-clause-reach : goal.step_block_changed-requires-clause-reach
step_block_changed-requires-clause-reach c =
    let s = c.loop-i.invariant.blocks in let count = s.count in
    let less = c.loop-i-test.true in let ranks = c.ranks-i-end.ensures.value in
    let same = any-default c.loop-i.blocks c.loop-i.i c.index-blocks-i.result no_part (omega arith) in
    c.requires.reach ∙ sym (ap (λ (q : Part). q.reach) same ∙ (s.each c.loop-i.i (omega arith)).reach)

pub loop-i-preserved : goal.loop-i-preserved
loop-i-preserved c =
    let p = c.args.plan.now in let rule = c.args.rule.now in
    let n = c.loop-i.i in
    let i = c.loop-i.invariant in
    let s = i.blocks in let count = s.count in
    let v = c.ranks-i-end.ensures.limits in
    let most = to_z w64 c.loop-i.most-bits in
    let own = c.step_block_changed.ensures in
    let less : n < p.ranks = let l = c.loop-i-test.true in let ranks = c.ranks-i-end.ensures.value in omega arith in
    let b = get_or c.loop-i.blocks n c.index-blocks-i.result in
    let same : b ≡ block_at c.loop-i.blocks n = any-default c.loop-i.blocks n c.index-blocks-i.result no_part (omega arith) in
    let new = c.step_block_changed.new.block in
    let size = s.each n less in
    let wide : (g : Plane) → Suit p g rule → g.cols ≡ b.cols = λ g suit. suit.cols ∙ sym (ap (λ (q : Part). q.cols) same ∙ size.cols) in
    let inside : (g : Plane) → Suit p g rule → IsInside g (first_row p n) 0 b =
    λ g suit. subst (λ (q : Part). IsInside g (first_row p n) 0 q) (sym same) (block-inside p g rule n (block_at c.loop-i.blocks n) v suit less size) in
    let reads : (g : Plane) → AllRead p g rule c.args.blocks.now → (y : ℕ) → y < height b → HoldsMiddle g rule (first_row p n) y b =
    λ g all. subst (λ (q : Part). (y : ℕ) → y < height q → HoldsMiddle g rule (first_row p n) y q) (sym (same ∙ i.rest n (omega arith)))
    (λ y low. let old = c.requires.blocks.each n less in let tall = old.rows in let high = old.reach in all n y less (omega arith)) in
    record {
      blocks = sized-set p c.loop-i.blocks n new s less (subst (λ (q : Part). SameSize q new) same own.size) own.limits;
      next = λ g suit all. next-one p (next_plane g rule) n c.loop-i.blocks new (omega arith) (i.next g suit all)
          (own.own g (first_row p n) (wide g suit) (inside g suit) (reads g all));
      rest = λ j above. at-other c.loop-i.blocks j n new (λ e. omega arith) ∙ i.rest j (omega arith);
      change = λ g suit all. ranks-more p g (next_plane g rule) n most c.step_block_changed.result c.max-most.result v i.range own.range
          (i.change g suit all)
          (own.change g (first_row p n) (wide g suit) (inside g suit) (reads g all)
          ∙ ap (λ (q : Part). pos (change_within g (next_plane g rule) (first_row p n) q.rows 0 q.cols)) same
          ∙ (λ j. pos (change_within g (next_plane g rule) (first_row p n) (size.rows j) 0 (size.cols j))))
          c.max-most.ensures;
      range = change-kept most c.step_block_changed.result c.max-most.result i.range own.range c.max-most.ensures;
    }

pub returns-clause-change : goal.returns-clause-change
returns-clause-change c g suit all =
    let far = c.loop-i-test.false in let near = c.loop-i.auto.i-end in let ranks = c.ranks-i-end.ensures.value in
    c.loop-i.invariant.change g suit all
    ∙ ranks-all c.args.plan.now g (next_plane g c.args.rule.now) c.args.rule.now c.loop-i.i c.ranks-i-end.ensures.limits suit (omega arith)
