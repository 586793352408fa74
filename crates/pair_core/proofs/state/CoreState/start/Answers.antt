use Rattle.std.proofs.Common.{◌≡◌, ◌∙◌, ◌*◌, length, refl, subst, ap, ℕ, List, sym, arith}
use Rattle.std.specs.Prelude.{replicate}
use Rattle.std.proofs.lemmas.List.{length-replicate}
use Rattle.part_geometry.specs.Shape.{Shape}
use Rattle.part_geometry.specs.Cells.{cells}
use Rattle.pair_core.specs.Moves.{first_state, first_word}
use Rattle.pair_core.specs.State.{Plain, Stands, ListsWords}
use Rattle.pair_core.specs.declared.seat.Spot.TheVariants.{Filled}
use Rattle.pair_core.proofs.StateFirst.{first_kept, first_stands}
use Rattle.std.proofs.lemmas.Nat.{mul-le}
use Rattle.pair_core.proofs.state.CoreState.start.Goals as goal

pub overflow_mul-spots : goal.overflow_mul-spots
overflow_mul-spots c = let h = mul-le _ _ _ _ c.depth.ensures.limits.1 c.cells.ensures.limits in omega arith

pub first_seats-requires-clause-size : goal.first_seats-requires-clause-size
first_seats-requires-clause-size c = ap length c.as_slice.ensures.value ∙ c.in_ok-words.ensures.size

pub first_seats-requires-clause-words : goal.first_seats-requires-clause-words
first_seats-requires-clause-words c =
    let g = c.in_ok-tables.tables in
    subst (λ (l : List ℕ). ListsWords g l (first_word g)) (sym c.as_slice.ensures.value) c.in_ok-words.ensures.words

pub invariant_of-result : goal.invariant_of-result
invariant_of-result c =
    let g = c.in_ok-tables.tables in let s = c.in_ok-seats.ensures in
    let count : c.depth.result * c.cells.result ≡ g.depth * cells g = rw (c.depth.ensures.value, c.cells.ensures.value, c.geometry.ensures.value) refl in
    let spots : c.in_ok-slots.slots.items ≡ replicate (g.depth * cells g) (Filled 0) = c.in_ok-slots.ensures.items_if_clones_equal (λ y h. h) ∙ ap (λ n. replicate n (Filled 0)) count in
    record {
      kept = first_kept g c.in_ok-words.words.items c.in_ok-slots.slots.items _ _ c.in_ok-seats.seats.items s.0 s.1 s.2 c.in_ok-words.ensures.size
          (ap length spots ∙ length-replicate (g.depth * cells g) (Filled 0)) refl refl refl refl s.3 s.4 s.5 s.6;
    }

pub returns-clause-first : goal.returns-clause-first
returns-clause-first c =
    let g = c.in_ok-tables.tables in let s = c.in_ok-seats.ensures in
    let count : c.depth.result * c.cells.result ≡ g.depth * cells g = rw (c.depth.ensures.value, c.cells.ensures.value, c.geometry.ensures.value) refl in
    let spots : c.in_ok-slots.slots.items ≡ replicate (g.depth * cells g) (Filled 0) = c.in_ok-slots.ensures.items_if_clones_equal (λ y h. h) ∙ ap (λ n. replicate n (Filled 0)) count in
    subst (λ (z : Shape). Stands g c.in_ok-words.words.items c.in_ok-slots.slots.items record { round = 0; pieces = c.pieces.result; opened = c.claim_words-claims.result; shut = c.claim_words-claims.result; markers = 0 }
    record { round = 0; returns = c.take_words-takes.result; takes = c.take_words-takes.result; released = 1; watchers = 0 } c.in_ok-seats.seats.items c.new.result (first_state {A = Plain} z)) c.in_ok-tables.ensures
    (first_stands g c.in_ok-words.words.items c.in_ok-slots.slots.items _ _ c.in_ok-seats.seats.items c.new.result s.0 s.1 s.2 c.in_ok-words.ensures.words spots
    (rw (c.pieces.ensures.value, c.claim_words-claims.ensures.value) refl) (rw c.take_words-takes.ensures.value refl) c.new.ensures s.3 s.4 s.5 s.6)
