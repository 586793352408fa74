use Rattle.std.proofs.Common.{refl, arith, ◌∙◌, sym}
use Rattle.pair_core.specs.Names.{Release}
use Rattle.pair_core.specs.Moves.{LoadRelease, IsAllowed}
use Rattle.pair_core.specs.Shows.{Shows}
use Rattle.pair_core.proofs.StateSeats.{send_at}
use Rattle.pair_core.proofs.StateBecomes.{becomes_quiet}
use Rattle.pair_core.proofs.StateReads.{reads_5}
use Rattle.pair_core.proofs.state.CoreState.load_release.Goals as goal

pub returns-then-event-ne0-clause-becomes : goal.returns-then-event-ne0-clause-becomes
returns-then-event-ne0-clause-becomes c = λ core shows.
    let g = c.args.self.now.tables in let e = c.args.event.now in (
      reads_5 g core e (λ m. ¬ IsAllowed g core m) c.requires (λ reads allowed.
          c.if-event-ne0.true reads.by),
      shows,
    )

pub returns-then-event-release-clause-becomes : goal.returns-then-event-release-clause-becomes
returns-then-event-release-clause-becomes c = λ core shows.
    let g = c.args.self.now.tables in let e = c.args.event.now in (
      reads_5 g core e (λ m. ¬ IsAllowed g core m) c.requires (λ reads allowed.
          c.if-event-release.true (reads.on ∙ sym c.claim_words-release.ensures.value)),
      shows,
    )

pub returns-clause-becomes : goal.returns-clause-becomes
returns-clause-becomes c = λ core shows.
    let s = c.args.self.now in let at = send_at s.tables s.words.items s.slots.items s.send s.recv s.seats.items s.kept in
    becomes_quiet s.tables c.args.event.now (Shows c.look.new.self) core c.quietly.result LoadRelease c.quietly.ensures
    (record { by = omega arith; kind_is = c.requires; on = omega arith }) tt
    (c.look.ensures.shows core 0 Release shows at tt (omega arith)) refl refl
