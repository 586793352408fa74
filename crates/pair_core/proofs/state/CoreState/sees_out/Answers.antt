use Rattle.std.proofs.Common.{refl, sym, true≢false, below_more, arith}
use Rattle.pair_core.proofs.StateSeats.{send_at}
use Rattle.pair_core.proofs.state.CoreState.sees_out.Goals as goal

pub returns-then-not-sees_full : goal.returns-then-not-sees_full
returns-then-not-sees_full c = λ core shows.
    let s = c.args.self.now in let at = send_at s.tables s.words.items s.slots.items s.send s.recv s.seats.items s.kept in
    (λ no. absurd (true≢false (sym no)), λ all. (c.if-not-sees_full.ensures core 0 shows at).1 (all c.loop-i.i (omega (arith, c.pieces-i-end.ensures.value))))

pub loop-i-preserved : goal.loop-i-preserved
loop-i-preserved c = λ core shows.
    let s = c.args.self.now in let at = send_at s.tables s.words.items s.slots.items s.send s.recv s.seats.items s.kept in
    below_more _ _ (c.loop-i.invariant core shows) ((c.if-not-sees_full.ensures core 0 shows at).0 refl)

pub returns : goal.returns
returns c = λ core shows. (λ _ i low. c.loop-i.invariant core shows i (omega (arith, c.pieces-i-end.ensures.value)), λ _. refl)
