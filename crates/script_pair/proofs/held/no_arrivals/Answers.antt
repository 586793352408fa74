use Rattle.std.proofs.Common.{◌≡◌, [], ◌∷◌, length, None, refl, ap, arith}
use Rattle.std.proofs.Math.ListN.{length-append}
use Rattle.std.proofs.lemmas.List.Elements.{All-push}
use Rattle.script_pair.proofs.held.no_arrivals.Goals as goal

pub loop-i-preserved : goal.loop-i-preserved
loop-i-preserved c =
    let items = c.in_ok-push.ensures.items in
    record {
      len = omega (arith, ap length items, length-append c.loop-i.kept.items (None ∷ []), c.loop-i.invariant.len);
      none = rw items (All-push (λ slot. slot ≡ None) c.loop-i.kept.items None c.loop-i.invariant.none refl);
    }
