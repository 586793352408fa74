use Rattle.std.proofs.Common.{◌↔◌, ℕ, ap, refl, sym, subst, true≢false, arith}
use Rattle.std.specs.Prelude.{IsTrue}
use Rattle.pair_core.specs.Moves.{MayShut}
use Rattle.pair_core.specs.declared.view.SendSide.{SendSide}
use Rattle.pair_core.proofs.state.CoreState.may_shut.Goals as goal

pub returns-then-not-sees_claimed : goal.returns-then-not-sees_claimed
returns-then-not-sees_claimed c = λ core shows. (
  λ no. absurd (true≢false (sym no)),
  λ may.
      let own = subst (λ (k : ℕ). MayShut c.args.self.now.tables (core.seen 0) k) (ap (λ (d : SendSide). d.round) (sym shows.send_are)) may in
      (c.if-not-sees_claimed.ensures core shows).1 own.claimed,
)

pub returns-then-not-sees_out : goal.returns-then-not-sees_out
returns-then-not-sees_out c = λ core shows. (
  λ no. absurd (true≢false (sym no)),
  λ may.
      let own = subst (λ (k : ℕ). MayShut c.args.self.now.tables (core.seen 0) k) (ap (λ (d : SendSide). d.round) (sym shows.send_are)) may in
      (c.if-not-sees_out.ensures core shows).1 own.full,
)

pub returns : goal.returns
returns c = λ core shows.
    subst (λ (k : ℕ). IsTrue c.has_room.result ↔ MayShut c.args.self.now.tables (core.seen 0) k) (ap (λ (d : SendSide). d.round) shows.send_are) (
      λ so. let room = (c.has_room.ensures core shows).0 so in
          record { claimed = (c.if-not-sees_claimed.ensures core shows).0 refl; full = (c.if-not-sees_out.ensures core shows).0 refl; room = omega arith },
      λ may. let room = may.room in (c.has_room.ensures core shows).1 (omega arith),
    )
