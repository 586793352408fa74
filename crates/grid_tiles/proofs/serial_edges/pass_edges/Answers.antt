use Rattle.std.proofs.Common.{◌≡◌, ◌∙◌, sym, ap, subst, ◌-◌, arith}
use Rattle.std.specs.Prelude.{slice_get}
use Rattle.cell_lanes.proofs.WindowFacts.{below-or}
use Rattle.grid_tiles.specs.Edges.{edges}
use Rattle.grid_tiles.specs.Blocks.{AreLinked, IsBrought}
use Rattle.grid_tiles.proofs.BringFacts.{edge-brings}
use Rattle.grid_tiles.proofs.EdgeFacts.{same-edge}
use Rattle.grid_tiles.proofs.PassFacts.{brought-kept, keeps-more, linked-next, ready-kept}
use Rattle.grid_tiles.proofs.serial_edges.pass_edges.Goals as goal

pub pass_edge-requires-clause-edge : goal.pass_edge-requires-clause-edge
pass_edge-requires-clause-edge c = (c.loop-e.e, c.edge-edge.ensures.value)

pub pass_edge-requires-clause-link : goal.pass_edge-requires-clause-link
pass_edge-requires-clause-link c = c.loop-e.invariant.links.rest c.loop-e.e c.edge-edge.result c.index-links-e.result (omega arith) c.edge-edge.ensures.value

pub loop-e-preserved : goal.loop-e-preserved
loop-e-preserved c =
    let p = c.args.plan.now in
    let e = c.loop-e.e in let x = c.edge-edge.result in let at = c.edge-edge.ensures.value in
    let i = c.loop-e.invariant in let done = c.pass_edge.ensures in
    let v = c.reach-reach.ensures.limits in
    let low = c.loop-e.auto.e in let less = c.loop-e-test.true in let end = c.requires.end in let some = c.requires.some in
    let old = c.args.blocks.now in let now = c.loop-e.blocks in let new = c.pass_edge.new.blocks in
    let brings = edge-brings p e x v at in
    record {
      links = linked-next p (c.args.round - 1) e c.args.round c.loop-e.links c.pass_edge.new.link x i.links (omega arith) at (omega arith) done.link;
      blocks = done.blocks;
      scratch = done.scratch;
      keeps = λ g rule suit ready. keeps-more p g rule old now new (i.keeps g rule suit ready)
          (done.keeps g rule suit (ready-kept p g rule x old now brings (i.keeps g rule suit ready) (ready e x (omega arith) less at)));
      brought = λ g rule suit ready f y from l is.
          let here = ready-kept p g rule x old now brings (i.keeps g rule suit ready) (ready e x (omega arith) less at) in
          below-or f e
          (λ m. brought-kept p g rule y now new (edge-brings p f y v is) (done.keeps g rule suit here) (i.brought g rule suit ready f y from m is))
          (λ h. let there : f ≡ e = omega arith in
          subst (IsBrought p g rule new) (same-edge x y (sym at ∙ ap (slice_get (edges p)) (sym there) ∙ is)) (done.brought g rule suit here));
    }

pub returns-clause-links : goal.returns-clause-links
returns-clause-links c =
    let far = c.loop-e-test.false in let near = c.loop-e.auto.e-end in let order = c.requires.order in
    let end : c.loop-e.e ≡ c.args.end = omega arith in
    subst (λ n. AreLinked c.args.plan.now (c.args.round - 1) n c.loop-e.links) end c.loop-e.invariant.links

pub returns-clause-brought : goal.returns-clause-brought
returns-clause-brought c g rule suit ready e x low less is =
    let far = c.loop-e-test.false in
    c.loop-e.invariant.brought g rule suit ready e x low (omega arith) is
