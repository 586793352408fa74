use Rattle.std.proofs.Common.{ℕ, subst, ◌≡◌, ◌∙◌, List, sym, ap, length}
use Rattle.std.specs.Prelude.{IfOk, replicate}
use Rattle.pair_core.specs.State.{IsAt, Plain, ListsWords}
use Rattle.pair_core.specs.Core.{Core}
use Rattle.pair_core.specs.Moves.{first_word}
use Rattle.pair_core.specs.Steps.{enters, entered}
use Rattle.pair_core.specs.Shows.{Shows}
use Rattle.pair_core.specs.declared.view.Life.{Life}
use Rattle.pair_core.proofs.StateAdds.{view_live}
use Rattle.pair_core.proofs.state.CoreState.enter.Goals as goal

pub add-requires-clause-first : goal.add-requires-clause-first
add-requires-clause-first c =
    let g = c.args.self.now.tables in let e = c.in_ok-view.ensures.seen ∙ c.as_slice.ensures.value in
    record {
      seen = subst (λ (l : List ℕ). ListsWords g l (first_word g)) (sym e) c.in_ok-words.ensures.words;
      seen_size = ap length e ∙ c.in_ok-words.ensures.size;
      looks = c.in_ok-view.ensures.looks ∙ ap (λ (n : ℕ). replicate n 0) (ap length c.as_slice.ensures.value ∙ c.in_ok-words.ensures.size);
      pending = c.in_ok-view.ensures.pending;
      marks = c.in_ok-view.ensures.marks;
    }

pub add-requires-clause-new : goal.add-requires-clause-new
add-requires-clause-new c = λ at v is same. c.in_default.ensures.none at v is (same ∙ c.in_ok-view.ensures.seat)

pub returns-in-Some-clause-shows : goal.returns-in-Some-clause-shows
returns-in-Some-clause-shows c = λ core shows.
    let s = c.args.self.now in
    let live = view_live s.tables s.words.items s.slots.items s.send s.recv s.seats.items s.takes core c.in-Some.at c.args.seat shows c.in-Some.ensures.some in
    let same : enters c.args.seat core ≡ core = ap (λ (l : Life). entered l c.args.seat core) live in subst (Shows s) (sym same) shows

pub returns-clause-shows : goal.returns-clause-shows
returns-clause-shows c =
    subst (λ (n : ℕ). IfOk c.add.result (λ _. (core : Core Plain) → Shows c.args.self.now core → Shows c.add.new.self (enters n core))) c.in_ok-view.ensures.seat c.add.ensures.shows

pub returns-clause-at : goal.returns-clause-at
returns-clause-at c = subst (λ (n : ℕ). IfOk c.add.result (λ at. IsAt c.add.new.self.seats.items at n)) c.in_ok-view.ensures.seat c.add.ensures.at
