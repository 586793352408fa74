use Rattle.std.proofs.Common.{◌≡◌, ◌∙◌, List, subst}
use Rattle.pair_core.specs.Copies.{AreCopies}
use Rattle.pair_core.specs.declared.seat.Seat.{Seat}
use Rattle.pair_core.proofs.StateCopy.{kept_same, stands_same}
use Rattle.pair_core.proofs.state.CoreState.copy.Goals as goal

pub invariant_of-result : goal.invariant_of-result
invariant_of-result c =
    let s = c.args.self.now in
    let words : c.in_ok-words.words.items ≡ s.words.items = c.in_ok-words.ensures.items_if_clones_equal (λ x y h. h) ∙ c.as_slice.ensures.value in
    let slots : c.in_ok-slots.slots.items ≡ s.slots.items = c.in_ok-slots.ensures.items_if_clones_equal (λ x y h. h) ∙ c.as_slice-2.ensures.value in
    let seats = subst (λ (l : List Seat). AreCopies l c.in_ok-seats.seats.items) c.as_slice-3.ensures.value c.in_ok-seats.ensures in
    record {
      kept = kept_same s.tables c.in_ok-tables.tables s.words.items c.in_ok-words.words.items s.slots.items c.in_ok-slots.slots.items s.send s.recv s.seats.items c.in_ok-seats.seats.items
          (c.in_ok-tables.ensures ∙ c.geometry.ensures.value) words slots seats s.kept;
    }

pub returns-clause-shows : goal.returns-clause-shows
returns-clause-shows c = λ core shows.
    let s = c.args.self.now in
    let words : c.in_ok-words.words.items ≡ s.words.items = c.in_ok-words.ensures.items_if_clones_equal (λ x y h. h) ∙ c.as_slice.ensures.value in
    let slots : c.in_ok-slots.slots.items ≡ s.slots.items = c.in_ok-slots.ensures.items_if_clones_equal (λ x y h. h) ∙ c.as_slice-2.ensures.value in
    let seats = subst (λ (l : List Seat). AreCopies l c.in_ok-seats.seats.items) c.as_slice-3.ensures.value c.in_ok-seats.ensures in
    stands_same s.tables c.in_ok-tables.tables s.words.items c.in_ok-words.words.items s.slots.items c.in_ok-slots.slots.items s.send s.recv s.seats.items c.in_ok-seats.seats.items s.takes c.in_ok-takes.takes core
    (c.in_ok-tables.ensures ∙ c.geometry.ensures.value) words slots c.in_ok-takes.ensures seats shows
