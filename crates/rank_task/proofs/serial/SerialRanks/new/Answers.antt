use Rattle.std.proofs.Common.{◌≡◌, ◌∙◌, sym, ap, subst, ◌*◌, arith}
use Rattle.std.proofs.lemmas.Int.{ints}
use Rattle.stencil_def.specs.Plane.{IsPlane}
use Rattle.cell_lanes.proofs.LaneFacts.{back}
use Rattle.rank_task.specs.Blocks.{HoldGrid, Suit}
use Rattle.rank_task.specs.Ranks.{first_ranks, gathered}
use Rattle.rank_task.proofs.GridFacts.{gathered-is}
use Rattle.rank_task.proofs.serial.SerialRanks.new.Goals as goal

same : (c : goal.After-new-divisor) → gathered c.args.plan c.in_ok-blocks.blocks.items ≡ c.args.grid.now
same c =
    let rows = c.requires.rows in let cols = c.requires.cols in
    gathered-is c.args.plan c.args.grid.now c.in_ok-blocks.blocks.items c.reach-reach.ensures.limits c.in_ok-blocks.ensures.size c.in_ok-blocks.ensures.own rows cols
    (c.rows-rows.ensures.limits.length ∙ (λ i. rows i * cols i))

pub invariant_of-result : goal.invariant_of-result
invariant_of-result c =
    let p = c.args.plan in
    let is = same c in
    record {
      plane = subst IsPlane (sym is) c.rows-rows.ensures.limits;
      suit = subst (λ h. Suit p h c.args.rule) (sym is) (record { rows = c.requires.rows; cols = c.requires.cols; reach = c.requires.reach; around = c.requires.around });
      weights = c.new-weights.ensures;
      divisor = c.new-divisor.ensures ∙ back c.args.rule.div (let h = c.args.rule.has_div in omega (arith, ints));
      sized = c.in_ok-blocks.ensures.size;
      own = subst (λ h. HoldGrid p h c.in_ok-blocks.blocks.items) (sym is) c.in_ok-blocks.ensures.own;
      pairs = c.in_ok-pairs.ensures;
      few = omega arith;
      room = c.in_ok-scratch.ensures;
    }

pub returns : goal.returns
returns c = ap (first_ranks c.args.plan c.args.rule) (same c)
