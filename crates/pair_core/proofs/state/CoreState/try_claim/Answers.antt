use Rattle.std.proofs.Common.{◌≡◌, ◌≢◌, ◌<◌, ◌≤◌, ◌/◌, ◌==◌, ◌∙◌, ℕ, None, refl, sym, subst, ap, true≢false, arith}
use Rattle.part_geometry.specs.Shape.{Shape}
use Rattle.pair_core.specs.Names.{Claim, claim_words}
use Rattle.pair_core.specs.Core.{IsMarker}
use Rattle.pair_core.specs.Moves.{TryClaim, IsAllowed, MayClaim}
use Rattle.pair_core.specs.History.{Mark}
use Rattle.pair_core.specs.Shows.{Shows}
use Rattle.pair_core.specs.declared.view.Life.TheVariants.{Live}
use Rattle.pair_core.proofs.Cut.{claim_word}
use Rattle.pair_core.proofs.StateReads.{reads_7}
use Rattle.pair_core.proofs.StateAdds.{view_live}
use Rattle.pair_core.proofs.StateBecomes.{becomes_quiet, no_out, no_take}
use Rattle.pair_core.proofs.StateClaim.{claim_number, won, lost}
use Rattle.pair_core.proofs.state.CoreState.try_claim.Goals as goal
use Rattle.pair_core.proofs.state.CoreState.try_claim.Goals.{then-event-lt2-via-then-event-lt2, then-event-lt2-via-else-event-lt2+then-event-ne0}

pub may_claim-requires-clause-part : goal.may_claim-requires-clause-part
may_claim-requires-clause-part c = omega (arith, c.send_parts.ensures.value, ap (λ (g : Shape). g.send_parts) c.geometry.ensures.value)

pub word-requires : goal.word-requires
word-requires c = claim_number c.args.self.now.tables c.args.event.now.partition (omega (arith, c.send_parts.ensures.value, ap (λ (g : Shape). g.send_parts) c.geometry.ensures.value))

pub seen-requires-clause-index : goal.seen-requires-clause-index
seen-requires-clause-index c = claim_number c.args.self.now.tables c.args.event.now.partition (omega (arith, c.send_parts.ensures.value, ap (λ (g : Shape). g.send_parts) c.geometry.ensures.value))

pub look-requires-clause-index : goal.look-requires-clause-index
look-requires-clause-index c = claim_number c.args.self.now.tables c.args.event.now.partition (omega (arith, c.send_parts.ensures.value, ap (λ (g : Shape). g.send_parts) c.geometry.ensures.value))

pub claim-requires-clause-at : goal.claim-requires-clause-at
claim-requires-clause-at c = c.in-Some.ensures.some

pub claim-requires-clause-part : goal.claim-requires-clause-part
claim-requires-clause-part c = omega (arith, c.send_parts.ensures.value, ap (λ (g : Shape). g.send_parts) c.geometry.ensures.value)

-- a seat that may claim is a marker, of a partition of the pair, on the partition's claim word, and has a view
pub returns-then-event-lt2-clause-becomes : goal.returns-then-event-lt2-clause-becomes
returns-then-event-lt2-clause-becomes c = λ core shows.
    let e = c.args.event.now in
    let other : ¬ IsMarker e.seat = elim c.then-event-lt2.branch [
      | then-event-lt2-via-then-event-lt2 w ↦ λ sort. let two = sort.0 in let low = w.if-event-lt2.true in omega arith
      | then-event-lt2-via-else-event-lt2+then-event-ne0 w ↦ λ sort. w.if-event-ne0.true sort.1
    ] in (
      reads_7 c.args.self.now.tables core e (λ m. ¬ IsAllowed c.args.self.now.tables core m) c.requires (λ n p a reads allowed.
          other (subst IsMarker (sym reads.0.by) allowed.0)),
      shows,
    )

pub returns-then-p-send_parts-clause-becomes : goal.returns-then-p-send_parts-clause-becomes
returns-then-p-send_parts-clause-becomes c = λ core shows.
    let g = c.args.self.now.tables in let e = c.args.event.now in
    let high : g.send_parts ≤ e.partition = omega (arith, c.if-p-send_parts.true, c.send_parts.ensures.value, ap (λ (g : Shape). g.send_parts) c.geometry.ensures.value) in (
      reads_7 g core e (λ m. ¬ IsAllowed g core m) c.requires (λ n p a reads allowed. let is = reads.1 in let low = allowed.2 in omega arith),
      shows,
    )

pub returns-then-event-index-clause-becomes : goal.returns-then-event-index-clause-becomes
returns-then-event-index-clause-becomes c = λ core shows.
    let g = c.args.self.now.tables in let e = c.args.event.now in (
      reads_7 g core e (λ m. ¬ IsAllowed g core m) c.requires (λ n p a reads allowed.
          c.if-event-index.true (reads.0.on ∙ ap (λ (z : ℕ). z / 32) (sym reads.1))),
      shows,
    )

pub returns-in_default-clause-becomes : goal.returns-in_default-clause-becomes
returns-in_default-clause-becomes c = λ core shows.
    let g = c.args.self.now.tables in let e = c.args.event.now in
    let blank = (shows.others_are e.seat c.in_default.ensures.none).blank in (
      reads_7 g core e (λ m. ¬ IsAllowed g core m) c.requires (λ n p a reads allowed.
          let live : core.life e.seat ≡ Live = ap core.life reads.0.by ∙ allowed.1 in absurd (cc)),
      shows,
    )

pub returns-then-not-is_free-clause-becomes : goal.returns-then-not-is_free-clause-becomes
returns-then-not-is_free-clause-becomes c = λ core shows.
    let g = c.args.self.now.tables in let e = c.args.event.now in (
      reads_7 g core e (λ m. ¬ IsAllowed g core m) c.requires (λ n p a reads allowed.
          absurd (true≢false (sym ((c.if-not-is_free.ensures core e.seat shows c.in-Some.ensures.some).1 (subst (λ (z : ℕ). core.pending z ≡ None) (sym reads.0.by) allowed.3))))),
      shows,
    )

pub returns-then-not-may_claim-clause-becomes : goal.returns-then-not-may_claim-clause-becomes
returns-then-not-may_claim-clause-becomes c = λ core shows.
    let g = c.args.self.now.tables in let e = c.args.event.now in (
      reads_7 g core e (λ m. ¬ IsAllowed g core m) c.requires (λ n p a reads allowed.
          absurd (true≢false (sym ((c.if-not-may_claim.ensures core e.seat shows c.in-Some.ensures.some).1
          (subst (λ (z : ℕ). MayClaim (core.seen z) e.partition) (sym reads.0.by) (subst (λ (z : ℕ). MayClaim (core.seen n) z) (sym reads.1) allowed.4)))))),
      shows,
    )

pub returns-then-word-seen-clause-becomes : goal.returns-then-word-seen-clause-becomes
returns-then-word-seen-clause-becomes c = λ core shows.
    let s = c.args.self.now in let g = s.tables in let e = c.args.event.now in let p = e.partition in let at = c.in-Some.ensures.some in
    let low : p < g.send_parts = omega (arith, c.send_parts.ensures.value, ap (λ (g : Shape). g.send_parts) c.geometry.ensures.value) in
    let fits : p / 32 < claim_words g = claim_word g p low in
    let word = c.word.ensures core (Claim (p / 32)) shows fits refl in
    let seen = c.seen.ensures core e.seat (Claim (p / 32)) shows at fits refl in
    let other : core.word (Claim (p / 32)) ≢ core.seen e.seat (Claim (p / 32)) = (λ f. c.if-word-seen.true (word ∙ (f ∙ sym seen))) in
    becomes_quiet g e (Shows c.look.new.self) core c.quietly.result (TryClaim e.seat p tt) c.quietly.ensures
    (record { by = refl; kind_is = c.requires; on = c.if-event-index.false }, refl) (
      (c.if-event-lt2.false, c.if-event-ne0.false),
      view_live g s.words.items s.slots.items s.send s.recv s.seats.items s.takes core c.in-Some.at e.seat shows at,
      low,
      (c.if-not-is_free.ensures core e.seat shows at).0 refl,
      (c.if-not-may_claim.ensures core e.seat shows at).0 refl,
    )
    (lost g (Shows c.look.new.self) core e.seat p other (c.look.ensures.shows core e.seat (Claim (p / 32)) shows at fits refl))
    (no_out (core.word (Claim (p / 32)) == core.seen e.seat (Claim (p / 32))) (Mark core.send.round p) refl) (no_take (core.word (Claim (p / 32)) == core.seen e.seat (Claim (p / 32))) (Mark core.send.round p) refl)

pub returns-clause-becomes : goal.returns-clause-becomes
returns-clause-becomes c = λ core shows.
    let s = c.args.self.now in let g = s.tables in let e = c.args.event.now in let p = e.partition in let at = c.in-Some.ensures.some in
    let low : p < g.send_parts = omega (arith, c.send_parts.ensures.value, ap (λ (g : Shape). g.send_parts) c.geometry.ensures.value) in
    let fits : p / 32 < claim_words g = claim_word g p low in
    let word = c.word.ensures core (Claim (p / 32)) shows fits refl in
    let seen = c.seen.ensures core e.seat (Claim (p / 32)) shows at fits refl in
    let same : core.word (Claim (p / 32)) ≡ core.seen e.seat (Claim (p / 32)) = sym word ∙ (c.if-word-seen.false ∙ seen) in
    becomes_quiet g e (Shows c.claim.new.self) core c.quietly-2.result (TryClaim e.seat p tt) c.quietly-2.ensures
    (record { by = refl; kind_is = c.requires; on = c.if-event-index.false }, refl) (
      (c.if-event-lt2.false, c.if-event-ne0.false),
      view_live g s.words.items s.slots.items s.send s.recv s.seats.items s.takes core c.in-Some.at e.seat shows at,
      low,
      (c.if-not-is_free.ensures core e.seat shows at).0 refl,
      (c.if-not-may_claim.ensures core e.seat shows at).0 refl,
    )
    (won g (Shows c.claim.new.self) core e.seat p same (c.in_ok-claim.ensures.shows core shows))
    (no_out (core.word (Claim (p / 32)) == core.seen e.seat (Claim (p / 32))) (Mark core.send.round p) refl) (no_take (core.word (Claim (p / 32)) == core.seen e.seat (Claim (p / 32))) (Mark core.send.round p) refl)
