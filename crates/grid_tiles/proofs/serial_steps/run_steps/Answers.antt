use Rattle.std.proofs.Common.{◌≡◌, sym, subst, ◌+◌, ◌-◌, arith}
use Rattle.stencil_def.specs.Step.{fold_plane}
use Rattle.stencil_def.proofs.StepFacts.{fold-more, fold-none}
use Rattle.grid_tiles.specs.Blocks.{AreLinked, HoldGrid}
use Rattle.grid_tiles.proofs.StepFacts.{suit-next}
use Rattle.grid_tiles.proofs.serial_steps.run_steps.Goals as goal

pub loop-k-init : goal.loop-k-init
loop-k-init c =
    let p = c.args.plan.now in
    let same : c.args.done ≡ c.args.done + 0 = omega arith in
    record {
      links = subst (λ n. AreLinked p n 0 c.args.links.now) same c.requires.links;
      blocks = c.requires.blocks;
      scratch = c.requires.scratch;
      fold = λ g suit holds. subst (λ h. HoldGrid p h c.args.blocks.now) (sym (fold-none g c.args.rule.now)) holds;
    }

pub step-requires-clause-links : goal.step-requires-clause-links
step-requires-clause-links c =
    let same : c.args.done + c.loop-k.k ≡ c.args.done + c.loop-k.k + 1 - 1 = omega arith in
    subst (λ n. AreLinked c.args.plan.now n 0 c.loop-k.links) same c.loop-k.invariant.links

pub loop-k-preserved : goal.loop-k-preserved
loop-k-preserved c =
    let p = c.args.plan.now in let rule = c.args.rule.now in
    let i = c.loop-k.invariant in let e = c.step.ensures in
    let same : c.args.done + c.loop-k.k + 1 ≡ c.args.done + (c.loop-k.k + 1) = omega arith in
    record {
      links = subst (λ n. AreLinked p n 0 c.step.new.links) same e.links;
      blocks = e.blocks;
      scratch = e.scratch;
      fold = λ g suit holds. subst (λ h. HoldGrid p h c.step.new.blocks) (sym (fold-more g rule c.loop-k.k))
          (e.next (fold_plane g rule c.loop-k.k) (suit-next p g rule c.loop-k.k suit) (i.fold g suit holds));
    }

pub returns-clause-links : goal.returns-clause-links
returns-clause-links c =
    let far = c.loop-k-test.false in let near = c.loop-k.auto.k-end in
    let end : c.loop-k.k ≡ c.args.steps = omega arith in
    subst (λ n. AreLinked c.args.plan.now (c.args.done + n) 0 c.loop-k.links) end c.loop-k.invariant.links

pub returns-clause-fold : goal.returns-clause-fold
returns-clause-fold c g suit holds =
    let far = c.loop-k-test.false in let near = c.loop-k.auto.k-end in
    let end : c.loop-k.k ≡ c.args.steps = omega arith in
    subst (λ n. HoldGrid c.args.plan.now (fold_plane g c.args.rule.now n) c.loop-k.blocks) end (c.loop-k.invariant.fold g suit holds)
