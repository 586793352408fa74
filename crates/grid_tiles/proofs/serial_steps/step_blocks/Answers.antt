use Rattle.std.proofs.Common.{◌∙◌, sym, ap, subst, arith}
use Rattle.stencil_def.specs.Step.{next_plane}
use Rattle.cell_lanes.specs.Block.{Holds, HoldsOwn, Part}
use Rattle.grid_tiles.specs.Blocks.{left, top}
use Rattle.grid_tiles.proofs.OutsideFacts.{sized-same}
use Rattle.grid_tiles.proofs.PassFacts.{block-found, each-next, found-sized, rest-next, sized-set}
use Rattle.grid_tiles.proofs.StepFacts.{block-holds, block-inside}
use Rattle.grid_tiles.proofs.serial_steps.step_blocks.Goals as goal

pub step-requires : goal.step-requires
step-requires c =
    let p = c.args.plan.now in
    let less = c.loop-t-test.true in let end = c.tile_count-t-end.ensures.value in
    let s = found-sized p c.loop-t.blocks c.loop-t.t c.index-blocks-t.result c.loop-t.invariant.blocks (omega arith) in
    record { reach = ap (λ w. w.reach) c.requires.weights ∙ c.requires.reach ∙ sym s.reach }

pub loop-t-preserved : goal.loop-t-preserved
loop-t-preserved c =
    let p = c.args.plan.now in let rule = c.args.rule.now in let t = c.loop-t.t in
    let i = c.loop-t.invariant in let s = i.blocks in let count = s.count in
    let less = c.loop-t-test.true in let end = c.tile_count-t-end.ensures.value in
    let v = c.tile_count-t-end.ensures.limits in
    let b = c.step.new.self in
    let same = block-found p c.loop-t.blocks t c.index-blocks-t.result s (omega arith) in
    let found = found-sized p c.loop-t.blocks t c.index-blocks-t.result s (omega arith) in
    record {
      blocks = sized-set p c.loop-t.blocks t b s (omega arith) (sized-same p t _ b found c.step.ensures.size c.step.ensures.limits);
      next = λ g suit all.
          each-next (λ u q. HoldsOwn (next_plane g rule) (top p u) (left p u) q) c.loop-t.blocks t b (omega arith) (i.next g suit all)
          (c.step.ensures.own g rule (top p t) (left p t) c.requires.weights c.requires.divisor
          (subst (λ (q : Part). Holds g rule (top p t) (left p t) q) (sym (same ∙ i.rest t (omega arith)))
          (block-holds p g rule c.args.blocks.now t (omega arith) (c.requires.blocks.each t (omega arith)) all))
          (block-inside p g rule t _ v suit (omega arith) found));
      rest = rest-next c.args.blocks.now c.loop-t.blocks t b i.rest;
    }

pub returns-clause-next : goal.returns-clause-next
returns-clause-next c g suit all t less =
    let far = c.loop-t-test.false in let end = c.tile_count-t-end.ensures.value in
    c.loop-t.invariant.next g suit all t (omega arith)
