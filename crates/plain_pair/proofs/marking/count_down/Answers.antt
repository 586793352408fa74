use Rattle.std.proofs.Common.{◌≡◌, ◌+◌, cond, ap, sym, ◌∙◌, arith}
use Rattle.plain_pair.proofs.Lessening.{lessens_more, counted}
use Rattle.plain_pair.proofs.marking.count_down.Goals as goal
use Rattle.plain_pair.proofs.marking.count_down.Goals.{then-lessen, else-lessen}

pub loop-i-preserved : goal.loop-i-preserved
loop-i-preserved c =
    let inv = c.loop-i.invariant in
    let inside = c.requires.inside in
    let few = inv.few in
    let low = c.loop-i.auto.i in
    let here = c.loop-i-test.true in
    let left = lessens_more _ _ _ _ _ inv.left (omega arith) (omega arith) c.lessen.ensures.left in
    let count = counted _ _ _ _ _ _ _ inv.left (omega arith) (omega arith) c.lessen.ensures.left c.lessen.ensures.whole inv.count in
    elim c.if-lessen.branch [
      | then-lessen w ↦
          let e = w.whole-is in
          record { left = left; count = e ∙ ap (λ b. c.loop-i.whole + cond b 1 0) (sym w.if-lessen.true) ∙ count; few = omega arith }
      | else-lessen w ↦
          let e = w.whole-is in
          record { left = left; count = e ∙ (let z : c.loop-i.whole ≡ c.loop-i.whole + 0 = omega arith in z) ∙ ap (λ b. c.loop-i.whole + cond b 1 0) (sym w.if-lessen.false) ∙ count; few = omega arith }
    ]
