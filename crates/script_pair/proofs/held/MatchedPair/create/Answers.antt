use Rattle.std.proofs.Common.{sym, ap, ◌∙◌}
use Rattle.part_geometry.specs.Shape.{Shape}
use Rattle.script_pair.proofs.Holding.{held_first}
use Rattle.script_pair.proofs.held.MatchedPair.create.Goals as goal

pub invariant_of-result : goal.invariant_of-result
invariant_of-result c =
    held_first c.in_ok-pair.pair c.matched.result c.matched-2.result c.in_ok-kept.kept.items c.in_ok-pair.ensures.first
    (c.in_ok-kept.ensures.len ∙ c.recv_parts.ensures.value ∙ ap (λ (g : Shape). g.recv_parts) (sym c.in_ok-pair.ensures.shape))
    c.in_ok-kept.ensures.none c.matched.ensures c.matched-2.ensures
