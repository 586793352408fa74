use Rattle.std.proofs.Common.{◌∙◌, ◌++◌, ◌∷◌, [], ℕ, List, length, sym, subst, ap}
use Rattle.std.specs.Prelude.{replicate}
use Rattle.pair_core.specs.Moves.{first_word}
use Rattle.pair_core.specs.State.{ListsWords}
use Rattle.pair_core.specs.declared.seat.Seat.{Seat}
use Rattle.pair_core.proofs.first.first_seats.Goals as goal

pub returns : goal.returns
returns c =
    let g = c.args.tables.now in
    let v = c.in_ok-new.field-0 in let w = c.in_ok-new-2.field-0 in (
      v,
      w,
      c.in_ok-push-2.ensures.items ∙ ap (λ (l : List Seat). l ++ w ∷ []) (c.in_ok-push.ensures.items ∙ ap (λ (l : List Seat). l ++ v ∷ []) c.new-seats.ensures.items),
      record {
        seen = subst (λ (l : List ℕ). ListsWords g l (first_word g)) (sym c.in_ok-new.ensures.seen) c.requires.words;
        seen_size = ap length c.in_ok-new.ensures.seen ∙ c.requires.size;
        looks = c.in_ok-new.ensures.looks ∙ ap (λ (n : ℕ). replicate n 0) c.requires.size;
        pending = c.in_ok-new.ensures.pending;
        marks = c.in_ok-new.ensures.marks;
      },
      record {
        seen = subst (λ (l : List ℕ). ListsWords g l (first_word g)) (sym c.in_ok-new-2.ensures.seen) c.requires.words;
        seen_size = ap length c.in_ok-new-2.ensures.seen ∙ c.requires.size;
        looks = c.in_ok-new-2.ensures.looks ∙ ap (λ (n : ℕ). replicate n 0) c.requires.size;
        pending = c.in_ok-new-2.ensures.pending;
        marks = c.in_ok-new-2.ensures.marks;
      },
      c.in_ok-new.ensures.seat,
      c.in_ok-new-2.ensures.seat,
    )
