use Rattle.std.proofs.Common.{◌≡◌, ◌∙◌, sym, ap, subst, arith}
use Rattle.std.proofs.lemmas.Int.{ints}
use Rattle.stencil_def.specs.Plane.{IsPlane}
use Rattle.cell_lanes.proofs.LaneFacts.{back}
use Rattle.grid_tiles.specs.Blocks.{HoldGrid, Suit}
use Rattle.grid_tiles.specs.Tiles.{first_tiles, gathered}
use Rattle.grid_tiles.proofs.GridFacts.{gathered-is}
use Rattle.grid_tiles.proofs.serial.SerialTiles.new.Goals as goal

same : (c : goal.After-new-divisor) → gathered c.args.plan c.in_ok-blocks.blocks.items ≡ c.args.grid.now
same c =
    gathered-is c.args.plan c.args.grid.now c.in_ok-blocks.blocks.items c.reach-reach.ensures.limits c.in_ok-blocks.ensures.size c.in_ok-blocks.ensures.own c.requires.rows c.requires.cols
    c.rows-rows.ensures.limits.length

pub invariant_of-result : goal.invariant_of-result
invariant_of-result c =
    let p = c.args.plan in
    let is = same c in
    record {
      plane = subst IsPlane (sym is) c.rows-rows.ensures.limits;
      suit = subst (λ h. Suit p h c.args.rule) (sym is) (record { rows = c.requires.rows; cols = c.requires.cols; reach = c.requires.reach; around = c.requires.around });
      weights = c.new-weights.ensures;
      divisor = c.new-divisor.ensures ∙ back c.args.rule.div (let h = c.args.rule.has_div in omega (arith, ints));
      sized = c.in_ok-blocks.ensures.size;
      own = subst (λ h. HoldGrid p h c.in_ok-blocks.blocks.items) (sym is) c.in_ok-blocks.ensures.own;
      links = c.in_ok-links.ensures;
      few = omega arith;
      room = c.in_ok-scratch.ensures;
    }

pub returns : goal.returns
returns c = ap (first_tiles c.args.plan c.args.rule) (same c)
