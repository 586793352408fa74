use Rattle.std.proofs.Common.{◌<◌, refl, sym, subst, arith, ap}
use Rattle.part_geometry.specs.Shape.{Shape}
use Rattle.pair_core.specs.Names.{Claim, claim_words, Fits}
use Rattle.pair_core.specs.Moves.{LoadClaim, IsAllowed}
use Rattle.pair_core.specs.Steps.{enters}
use Rattle.pair_core.specs.Shows.{Shows}
use Rattle.pair_core.proofs.StateBecomes.{becomes_quiet}
use Rattle.pair_core.proofs.StateAdds.{entered_live, view_live, at_low}
use Rattle.pair_core.proofs.StateReads.{reads_3}
use Rattle.pair_core.proofs.state.CoreState.load_claim.Goals as goal

pub look-requires-clause-at : goal.look-requires-clause-at
look-requires-clause-at c = at_low c.enter.new.self.seats.items c.in_ok-at.at c.args.event.now.seat c.in_ok-at.ensures.at

pub look-requires-clause-index : goal.look-requires-clause-index
look-requires-clause-index c = omega (arith, c.if-c-claim_words.false, c.claim_words.ensures.value, ap claim_words c.enter.ensures.tables)

pub returns-then-c-claim_words-clause-becomes : goal.returns-then-c-claim_words-clause-becomes
returns-then-c-claim_words-clause-becomes c = λ core shows.
    let g = c.args.self.now.tables in let e = c.args.event.now in (
      reads_3 g core e (λ m. ¬ IsAllowed g core m) c.requires (λ n b reads allowed.
          let high = c.if-c-claim_words.true in let on = reads.on in let low = allowed.1 in omega (arith, c.claim_words.ensures.value)),
      shows,
    )

pub returns-clause-becomes : goal.returns-clause-becomes
returns-clause-becomes c = λ core shows.
    let s = c.args.self.now in let e = c.args.event.now in let t = c.enter.new.self in
    let low : e.word < claim_words s.tables = omega (arith, c.claim_words.ensures.value) in
    let in' = c.in_ok-at.ensures.shows core shows in
    let live = view_live t.tables t.words.items t.slots.items t.send t.recv t.seats.items t.takes (enters e.seat core) c.in_ok-at.at e.seat in' c.in_ok-at.ensures.at in
    becomes_quiet s.tables e (Shows c.look.new.self) core c.quietly.result (LoadClaim e.seat e.word) c.quietly.ensures
    (record { by = refl; kind_is = c.requires; on = refl }) (entered_live e.seat core live, low)
    (c.look.ensures.shows (enters e.seat core) e.seat (Claim e.word) in' c.in_ok-at.ensures.at (subst (λ (g : Shape). Fits g (Claim e.word)) (sym c.enter.ensures.tables) low) refl)
    refl refl
