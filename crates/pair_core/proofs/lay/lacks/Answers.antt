use Rattle.std.proofs.Common.{◌≡◌, ◌∙◌, ap, sym, refl, true≢false, arith}
use Rattle.std.specs.Prelude.{not}
use Rattle.pair_core.specs.Core.{has}
use Rattle.pair_core.proofs.StateLay.{has_any, not_yes}
use Rattle.pair_core.proofs.lay.lacks.Goals as goal

pub returns-then-not-touches : goal.returns-then-not-touches
returns-then-not-touches c = (λ no. absurd (true≢false (sym no)), λ both. absurd (true≢false (sym (c.if-not-touches.ensures.1 both.0))))

pub overflow_cast-i : goal.overflow_cast-i
overflow_cast-i c = omega (arith, c.requires, c.pieces-count.ensures.value, c.pieces-count.ensures.limits)

pub returns : goal.returns
returns c =
    let e : c.contains.result ≡ has c.args.pending.now.laid c.args.i = c.contains.ensures.value ∙ has_any c.args.i c.args.pending.now.laid in (
      λ yes. (c.if-not-touches.ensures.0 refl, sym e ∙ not_yes c.contains.result yes),
      λ both. ap not (e ∙ both.1),
    )
