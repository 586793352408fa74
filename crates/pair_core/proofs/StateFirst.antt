-- The state before the first step: it keeps the first words, each slot at home with round 0, and a fresh seat for each
-- side.
use Rattle.std.proofs.Common.{◌≡◌, ◌≢◌, ℕ, zero, suc, ◌+◌, ◌*◌, ◌^◌, ◌<◌, List, [], ◌∷◌, length, get_or, Some, None, refl, sym, ap, ◌∙◌, subst, arith}
use Rattle.std.specs.Prelude.{slice_get, replicate, nat_lt, if◌then◌else◌}
use Rattle.std.proofs.lemmas.Bool.{le-ltb}
use Rattle.std.proofs.lemmas.List.{get_or-replicate, length-replicate}
use Rattle.part_geometry.specs.Shape.{Shape}
use Rattle.part_geometry.specs.Cells.{cells}
use Rattle.pair_core.specs.Names.{number}
use Rattle.pair_core.specs.Moves.{first_state, first_word}
use Rattle.pair_core.specs.State.{IsKept, IsFresh, IsView, Plain, Stands, ListsWords, slot_of, word_count}
use Rattle.pair_core.specs.declared.view.Mark.{Mark}
use Rattle.pair_core.specs.declared.view.SendSide.{SendSide}
use Rattle.pair_core.specs.declared.view.RecvSide.{RecvSide}
use Rattle.pair_core.specs.declared.view.Life.TheVariants.{Blank, Live}
use Rattle.pair_core.specs.declared.seat.Seat.{Seat}
use Rattle.pair_core.specs.declared.seat.Spot.{Spot}
use Rattle.pair_core.specs.declared.seat.Spot.TheVariants.{Filled}
use Rattle.pair_core.proofs.StateNumbers.{number_lt, row_lt}

-- two seats
pair_get : (v w : Seat) (P : ℕ → Seat → Type 0) → P 0 v → P 1 w → (j : ℕ) (y : Seat) → slice_get (v ∷ w ∷ []) j ≡ Some y → P j y
pair_get v w P a b zero y is = let e : v ≡ y = cc in subst (P 0) e a
pair_get v w P a b (suc zero) y is = let e : w ≡ y = cc in subst (P 1) e b
pair_get v w P a b (suc (suc j)) y is = let e : None ≡ Some y = is in cc

-- what is kept is whole
pub first_kept : (g : Shape) (words : List ℕ) (slots : List Spot) (send : SendSide) (recv : RecvSide) (seats : List Seat) (v w : Seat) → seats ≡ v ∷ w ∷ [] → length words ≡ word_count g
    → length slots ≡ g.depth * cells g → send.round ≡ 0 → recv.round ≡ 0 → send.markers ≡ 0 → recv.watchers ≡ 0 → IsFresh g v → IsFresh g w → v.seat ≡ 0 → w.seat ≡ 1
    → IsKept g words slots send recv seats
first_kept g words slots send recv seats v w is size spots a b m n fv fw zero' one = subst (IsKept g words slots send recv) (sym is) (record {
  words_size = size;
  slots_size = spots;
  sent = omega arith;
  received = omega arith;
  two = omega arith;
  send_seat = λ y there. pair_get v w (λ j y. j ≡ 0 → y.seat ≡ 0) (λ _. zero') (λ e. absurd (omega arith)) 0 y there refl;
  recv_seat = λ y there. pair_get v w (λ j y. j ≡ 1 → y.seat ≡ 1) (λ e. absurd (omega arith)) (λ _. one) 1 y there refl;
  seen = pair_get v w (λ j y. length y.seen.items ≡ word_count g) fv.seen_size fw.seen_size;
  looks = pair_get v w (λ j y. length y.looks.items ≡ word_count g) (ap length fv.looks ∙ length-replicate (word_count g) 0) (ap length fw.looks ∙ length-replicate (word_count g) 0);
  numbers = pair_get v w (λ j y. y.seat < 2 ^ 32) (omega arith) (omega arith);
  once = λ x y u q first second. pair_get v w (λ j z. z.seat ≡ q.seat → j ≡ y)
      (λ e. pair_get v w (λ k z. v.seat ≡ z.seat → 0 ≡ k) (λ _. refl) (λ f. absurd (omega arith)) y q second e)
      (λ e. pair_get v w (λ k z. w.seat ≡ z.seat → 1 ≡ k) (λ f. absurd (omega arith)) (λ _. refl) y q second e) x u first;
  out = omega arith;
})

first_view : (g : Shape) (v : Seat) (n : ℕ) → IsFresh g v → v.seat ≡ n → (first_state {A = Plain} g).life n ≡ Live → IsView g v (first_state g)
first_view g v n fresh is live = record {
  live = ap (λ (z : ℕ). if nat_lt z 2 then Live else Blank) is ∙ live;
  seen = fresh.seen;
  looks = λ x fits.
      let none : get_or v.looks.items (number g x) 0 ≡ 0 = ap (λ (l : List ℕ). get_or l (number g x) 0) fresh.looks ∙ get_or-replicate (word_count g) (number g x) 0 0 (number_lt g x fits) in omega arith;
  pending = fresh.pending;
  marks = fresh.marks;
}

-- and shows the first core
pub first_stands : (g : Shape) (words : List ℕ) (slots : List Spot) (send : SendSide) (recv : RecvSide) (seats : List Seat) (takes : List (Mark Plain)) (v w : Seat) → seats ≡ v ∷ w ∷ [] → ListsWords g words (first_word g)
    → slots ≡ replicate (g.depth * cells g) (Filled 0) → send ≡ (first_state {A = Plain} g).send → recv ≡ (first_state {A = Plain} g).recv → takes ≡ []
    → IsFresh g v → IsFresh g w → v.seat ≡ 0 → w.seat ≡ 1 → Stands g words slots send recv seats takes (first_state g)
first_stands g words slots send recv seats takes v w is listed spots a b none fv fw zero' one =
    subst (λ (l : List Seat). Stands g words slots send recv l takes (first_state g)) (sym is) (record {
      words_are = listed;
      slots_are = λ d c row cell. ap (λ (l : List Spot). slot_of (get_or l (d * cells g + c) (Filled 0))) spots
          ∙ ap slot_of (get_or-replicate (g.depth * cells g) (d * cells g + c) (Filled 0) (Filled 0) (row_lt d c g.depth (cells g) row cell));
      send_are = a;
      recv_are = b;
      seats_are = pair_get v w (λ _ y. IsView g y (first_state g)) (first_view g v 0 fv zero' refl) (first_view g w 1 fw one refl);
      others_are = λ n absent.
          let not_zero : n ≢ 0 = (λ e. absent 0 v refl (zero' ∙ sym e)) in let not_one : n ≢ 1 = (λ e. absent 1 w refl (one ∙ sym e)) in
          record {
            blank = rw (le-ltb n 2 (omega arith)) refl;
            new = record { seen = λ x fits. refl; looks = λ x fits. refl; pending = refl; marks = refl };
          };
      takes_are = none;
    })
