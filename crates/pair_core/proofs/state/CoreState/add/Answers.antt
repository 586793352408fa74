use Rattle.std.proofs.Common.{List, refl, sym, subst, ap, ◌∙◌, arith}
use Rattle.std.specs.Prelude.{slice_get}
use Rattle.std.proofs.lemmas.Bool.{eq-eqb, ne_eqb}
use Rattle.pair_core.specs.State.{IsKept, Stands}
use Rattle.pair_core.specs.Steps.{marker_more, watcher_more, enters}
use Rattle.pair_core.specs.declared.seat.Seat.{Seat}
use Rattle.pair_core.proofs.StateAdds.{get_pushed, kept_push, marker_push, watcher_push}
use Rattle.pair_core.proofs.state.CoreState.add.Goals as goal

pub invariant_of-self-then-marker : goal.invariant_of-self-then-marker
invariant_of-self-then-marker c = let s = c.args.self.now in
    record {
      kept = subst (IsKept s.tables s.words.items s.slots.items (marker_more s.send) s.recv) (sym c.in_ok-push.ensures.items)
          (kept_push s.tables s.words.items s.slots.items s.send (marker_more s.send) s.recv s.recv s.seats.items c.args.view s.kept refl refl (omega arith) c.requires.new c.requires.first c.requires.number);
    }

pub invariant_of-self-else-marker : goal.invariant_of-self-else-marker
invariant_of-self-else-marker c = let s = c.args.self.now in
    record {
      kept = subst (IsKept s.tables s.words.items s.slots.items s.send (watcher_more s.recv)) (sym c.in_ok-push.ensures.items)
          (kept_push s.tables s.words.items s.slots.items s.send s.send s.recv (watcher_more s.recv) s.seats.items c.args.view s.kept refl refl (omega arith) c.requires.new c.requires.first c.requires.number);
    }

pub returns-then-marker-clause-at : goal.returns-then-marker-clause-at
returns-then-marker-clause-at c = let s = c.args.self.now in
    (c.args.view, ap (λ (l : List Seat). slice_get l c.len-at.result) c.in_ok-push.ensures.items ∙ get_pushed s.seats.items c.args.view c.len-at.result (omega (arith, c.len-at.ensures, s.seats.ok.0)), refl)

pub returns-else-marker-clause-at : goal.returns-else-marker-clause-at
returns-else-marker-clause-at c = let s = c.args.self.now in
    (c.args.view, ap (λ (l : List Seat). slice_get l c.len-at.result) c.in_ok-push.ensures.items ∙ get_pushed s.seats.items c.args.view c.len-at.result (omega (arith, c.len-at.ensures, s.seats.ok.0)), refl)

pub returns-then-marker-clause-shows : goal.returns-then-marker-clause-shows
returns-then-marker-clause-shows c = λ core shows. let s = c.args.self.now in
    subst (λ (l : List Seat). Stands s.tables s.words.items s.slots.items (marker_more s.send) s.recv l s.takes (enters c.args.view.seat core)) (sym c.in_ok-push.ensures.items)
    (marker_push s.tables s.words.items s.slots.items s.send s.recv s.seats.items s.takes c.args.view core shows c.requires.new c.requires.first (eq-eqb _ _ c.if-marker.true))

pub returns-else-marker-clause-shows : goal.returns-else-marker-clause-shows
returns-else-marker-clause-shows c = λ core shows. let s = c.args.self.now in
    subst (λ (l : List Seat). Stands s.tables s.words.items s.slots.items s.send (watcher_more s.recv) l s.takes (enters c.args.view.seat core)) (sym c.in_ok-push.ensures.items)
    (watcher_push s.tables s.words.items s.slots.items s.send s.recv s.seats.items s.takes c.args.view core shows c.requires.new c.requires.first (ne_eqb _ _ c.if-marker.false))
