use Rattle.std.proofs.Common.{◌≡◌, ◌∙◌, sym, ap, subst, ◌<◌, ℕ, get_or, arith}
use Rattle.stencil_def.specs.Step.{next_plane}
use Rattle.cell_lanes.specs.Block.{HoldsMiddle, IsInside, Part, SameSize, height}
use Rattle.halo_plan.specs.Plan.{first_row}
use Rattle.rank_task.specs.Blocks.{block_at, no_part}
use Rattle.rank_task.proofs.HaloFacts.{any-default, at-other, sized-set}
use Rattle.rank_task.proofs.StepFacts.{block-inside, next-one}
use Rattle.rank_task.proofs.serial_steps.step_blocks.Goals as goal

pub step_block-requires-clause-reach : goal.step_block-requires-clause-reach
step_block-requires-clause-reach c =
    let s = c.loop-i.invariant.blocks in let count = s.count in
    let less = c.loop-i-test.true in let ranks = c.ranks-i-end.ensures.value in
    let same = any-default c.loop-i.blocks c.loop-i.i c.index-blocks-i.result no_part (omega arith) in
    c.requires.reach ∙ sym (ap (λ (q : Part). q.reach) same ∙ (s.each c.loop-i.i (omega arith)).reach)

pub loop-i-preserved : goal.loop-i-preserved
loop-i-preserved c =
    let p = c.args.plan.now in let rule = c.args.rule.now in
    let n = c.loop-i.i in
    let i = c.loop-i.invariant in
    let s = i.blocks in let count = s.count in
    let less : n < p.ranks = let l = c.loop-i-test.true in let ranks = c.ranks-i-end.ensures.value in omega arith in
    let b = get_or c.loop-i.blocks n c.index-blocks-i.result in
    let same : b ≡ block_at c.loop-i.blocks n = any-default c.loop-i.blocks n c.index-blocks-i.result no_part (omega arith) in
    let new = c.step_block.new.block in
    let size = s.each n less in
    record {
      blocks = sized-set p c.loop-i.blocks n new s less (subst (λ (q : Part). SameSize q new) same c.step_block.ensures.size) c.step_block.ensures.limits;
      next = λ g suit all. next-one p (next_plane g rule) n c.loop-i.blocks new (omega arith) (i.next g suit all)
          (c.step_block.ensures.own g (first_row p n) (suit.cols ∙ sym (ap (λ (q : Part). q.cols) same ∙ size.cols))
          (subst (λ (q : Part). IsInside g (first_row p n) 0 q) (sym same) (block-inside p g rule n (block_at c.loop-i.blocks n) c.ranks-i-end.ensures.limits suit less size))
          (subst (λ (q : Part). (y : ℕ) → y < height q → HoldsMiddle g rule (first_row p n) y q) (sym (same ∙ i.rest n (omega arith)))
          (λ y low. let old = c.requires.blocks.each n less in let tall = old.rows in let high = old.reach in all n y less (omega arith))));
      rest = λ j above. at-other c.loop-i.blocks j n new (λ e. omega arith) ∙ i.rest j (omega arith);
    }
