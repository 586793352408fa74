use Rattle.std.proofs.Common.{◌≡◌, ◌∙◌, ap, subst, ◌+◌, [], ◌∷◌, Some, length, length-append, arith}
use Rattle.std.specs.Prelude.{slice_get}
use Rattle.std.proofs.lemmas.Option.{slice_get_within}
use Rattle.halo_message.specs.Message as message
use Rattle.halo_message.specs.Message.{Message}
use Rattle.halo_message.specs.Passing.{RestsAt}
use Rattle.grid_tiles.specs.declared.serial_edges.Link.{Link}
use Rattle.grid_tiles.specs.declared.tile.TileEdge.{TileEdge}
use Rattle.grid_tiles.specs.Edges.{edges}
use Rattle.grid_tiles.specs.Blocks.{IsLinked}
use Rattle.grid_tiles.proofs.GridFacts.{pushed}
use Rattle.grid_tiles.proofs.serial_blocks.all_links.Goals as goal

pub loop-e-preserved : goal.loop-e-preserved
loop-e-preserved c =
    let p = c.args.plan.now in
    let i = c.loop-e.invariant in
    let old = c.loop-e.links.items in let new = c.push.new.self.items in
    let is = c.in_ok-push.ensures.items in
    let link : Link = record { message = c.message-message.result; pair = c.in_ok-pair.pair } in
    record {
      count = ap length is ∙ length-append old (link ∷ []) ∙ ap (λ n. n + 1) i.count;
      rest = λ e less x d at. pushed (λ f q. (y : TileEdge) → slice_get (edges p) f ≡ Some y → IsLinked p y 0 q) old new link d c.loop-e.e is i.count
          (λ f low y there. i.rest f low y d there)
          (λ y there. record {
            message = c.message-message.ensures y there;
            pair = subst (λ (m : Message). RestsAt (message.shape_of m) 0 c.in_ok-pair.pair) (c.message-message.ensures y there) c.in_ok-pair.ensures;
          }) e less x at;
    }

pub returns : goal.returns
returns c =
    let p = c.args.plan.now in let i = c.loop-e.invariant in
    let far = c.loop-e-test.false in let near = c.loop-e.auto.e-end in let count = c.edge_count-count.ensures.value in let many = i.count in
    record {
      count = omega arith;
      passed = λ e x d less at. absurd (omega arith);
      rest = λ e x d less at. i.rest e (let h = slice_get_within (edges p) e x at in omega arith) x d at;
    }
