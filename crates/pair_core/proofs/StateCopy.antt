-- A copy of a state shows the same cores, since all that is read of a seat is the same in its copy.
use Rattle.std.proofs.Common.{◌≡◌, ◌∙◌, ℕ, ◌+◌, ◌-◌, ◌^◌, ◌<◌, min, List, [], ◌∷◌, ◌++◌, length, get_or, Some, sym, ap, subst, arith}
use Rattle.std.specs.Prelude.{slice_get}
use Rattle.std.proofs.lemmas.List.{length_push}
use Rattle.std.proofs.lemmas.Option.{slice_get_within, slice_get-get_or}
use Rattle.part_geometry.specs.Shape.{Shape}
use Rattle.pair_core.specs.Names.{number}
use Rattle.pair_core.specs.Core.{Core}
use Rattle.pair_core.specs.State.{IsKept, IsView, Plain, Stands}
use Rattle.pair_core.specs.Copies.{IsCopy, AreCopies}
use Rattle.pair_core.specs.declared.view.Mark.{Mark}
use Rattle.pair_core.specs.declared.view.SendSide.{SendSide}
use Rattle.pair_core.specs.declared.view.RecvSide.{RecvSide}
use Rattle.pair_core.specs.declared.seat.Seat.{Seat}
use Rattle.pair_core.specs.declared.seat.Spot.{Spot}
use Rattle.pair_core.proofs.StateSeats.{get_one}
use Rattle.pair_core.proofs.StateAdds.{push_get}

-- what stands at a place of a list that is as long as another
pub there : {X : Type 0} (xs ys : List X) → length ys ≡ length xs → (at : ℕ) (y : X) → slice_get ys at ≡ Some y → (x : X) × (slice_get xs at ≡ Some x)
there {X} xs ys size at y is = let low = slice_get_within ys at y is in (get_or xs at y, slice_get-get_or xs at y (omega arith))

-- what holds of the seats that are kept holds of copies of them
pub kept_copy : (g : Shape) (words : List ℕ) (slots : List Spot) (send : SendSide) (recv : RecvSide) (seats copies : List Seat) → IsKept g words slots send recv seats → AreCopies seats copies
    → IsKept g words slots send recv copies
kept_copy g words slots send recv seats copies kept same =
    let old : (at : ℕ) (w : Seat) → slice_get copies at ≡ Some w → (v : Seat) × (slice_get seats at ≡ Some v) = there seats copies same.size in
    let copy : (at : ℕ) (w : Seat) (is : slice_get copies at ≡ Some w) → IsCopy (old at w is).0 w = (λ at w is. same.each at (old at w is).0 w (old at w is).1 is) in
    record {
      words_size = kept.words_size;
      slots_size = kept.slots_size;
      sent = kept.sent;
      received = kept.received;
      two = (let l = same.size in let two = kept.two in omega arith);
      send_seat = λ w is. (copy 0 w is).seat ∙ kept.send_seat (old 0 w is).0 (old 0 w is).1;
      recv_seat = λ w is. (copy 1 w is).seat ∙ kept.recv_seat (old 1 w is).0 (old 1 w is).1;
      seen = λ at w is. ap length (copy at w is).seen ∙ kept.seen at (old at w is).0 (old at w is).1;
      looks = λ at w is. ap length (copy at w is).looks ∙ kept.looks at (old at w is).0 (old at w is).1;
      numbers = λ at w is. subst (λ (z : ℕ). z < 2 ^ 32) (sym (copy at w is).seat) (kept.numbers at (old at w is).0 (old at w is).1);
      once = λ a b v w first second e. kept.once a b (old a v first).0 (old b w second).0 (old a v first).1 (old b w second).1
          (sym (copy a v first).seat ∙ (e ∙ (copy b w second).seat));
      out = (let l = same.size in let out = kept.out in omega arith);
    }

-- and the copies show each core that they show
pub stands_copy : (g : Shape) (words : List ℕ) (slots : List Spot) (send : SendSide) (recv : RecvSide) (seats copies : List Seat) (takes : List (Mark Plain)) (s : Core Plain)
    → Stands g words slots send recv seats takes s → AreCopies seats copies → Stands g words slots send recv copies takes s
stands_copy g words slots send recv seats copies takes s shows same = record {
  words_are = shows.words_are;
  slots_are = shows.slots_are;
  send_are = shows.send_are;
  recv_are = shows.recv_are;
  seats_are = λ at w is.
      let old = there seats copies same.size at w is in let copy = same.each at old.0 w old.1 is in view_copy g old.0 w s (shows.seats_are at old.0 old.1) copy;
  others_are = λ n none. shows.others_are n (λ at v is e.
      let new = there copies seats (sym same.size) at v is in none at new.0 new.1 ((same.each at v new.0 is new.1).seat ∙ e));
  takes_are = shows.takes_are;
}
  where
    view_copy : (g : Shape) (v w : Seat) (s : Core Plain) → IsView g v s → IsCopy v w → IsView g w s
    view_copy g v w s view copy = record {
      live = ap s.life copy.seat ∙ view.live;
      seen = λ y fits. ap (λ (l : List ℕ). get_or l (number g y) 0) copy.seen ∙ (view.seen y fits ∙ ap (λ (z : ℕ). s.seen z y) (sym copy.seat));
      looks = λ y fits. ap (λ (l : List ℕ). get_or l (number g y) 0) copy.looks ∙ (view.looks y fits ∙ ap (λ (z : ℕ). min (s.looks z y) (2 ^ 64 - 1)) (sym copy.seat));
      pending = copy.pending ∙ (view.pending ∙ ap s.pending (sym copy.seat));
      marks = copy.marks ∙ (view.marks ∙ ap s.marks (sym copy.seat));
    }

-- copies of the first n seats of a list
pub record AreSome (n : ℕ) (seats copies : List Seat) : Type 0 where
  -- they are n
  pub size : length copies ≡ n
  -- each is a copy of the seat at its place
  pub each : (at : ℕ) (v w : Seat) → slice_get seats at ≡ Some v → slice_get copies at ≡ Some w → IsCopy v w

-- with a copy of the next seat they are one more
pub some_more : (n : ℕ) (seats copies new : List Seat) (v w : Seat) → AreSome n seats copies → slice_get seats n ≡ Some v → IsCopy v w → new ≡ copies ++ w ∷ [] → AreSome (n + 1) seats new
some_more n seats copies new v w some is copy after = subst (AreSome (n + 1) seats) (sym after) (record {
  size = (let l = length_push copies w in let size = some.size in omega arith);
  each = λ at x y first second. push_get copies w (λ j z. (u : Seat) → slice_get seats j ≡ Some u → IsCopy u z)
      (λ u found. subst (λ (q : Seat). IsCopy q w) (get_one seats n v u is (ap (slice_get seats) (sym some.size) ∙ found)) copy)
      (λ j z was u found. some.each j u z found was) at y second x first;
})

-- all of them
pub kept_same : (g g' : Shape) (words words' : List ℕ) (slots slots' : List Spot) (send : SendSide) (recv : RecvSide) (seats copies : List Seat) → g' ≡ g → words' ≡ words → slots' ≡ slots
    → AreCopies seats copies → IsKept g words slots send recv seats → IsKept g' words' slots' send recv copies
kept_same g g' words words' slots slots' send recv seats copies a b d same kept =
    subst (λ (z : Shape). IsKept z words' slots' send recv copies) (sym a)
    (subst (λ (z : List ℕ). IsKept g z slots' send recv copies) (sym b)
    (subst (λ (z : List Spot). IsKept g words z send recv copies) (sym d) (kept_copy g words slots send recv seats copies kept same)))

-- and all of them show the cores that the state shows
pub stands_same : (g g' : Shape) (words words' : List ℕ) (slots slots' : List Spot) (send : SendSide) (recv : RecvSide) (seats copies : List Seat) (takes takes' : List (Mark Plain)) (s : Core Plain) → g' ≡ g
    → words' ≡ words → slots' ≡ slots → takes' ≡ takes → AreCopies seats copies → Stands g words slots send recv seats takes s → Stands g' words' slots' send recv copies takes' s
stands_same g g' words words' slots slots' send recv seats copies takes takes' s a b d f same shows =
    subst (λ (z : Shape). Stands z words' slots' send recv copies takes' s) (sym a)
    (subst (λ (z : List ℕ). Stands g z slots' send recv copies takes' s) (sym b)
    (subst (λ (z : List Spot). Stands g words z send recv copies takes' s) (sym d)
    (subst (λ (z : List (Mark Plain)). Stands g words slots send recv copies z s) (sym f) (stands_copy g words slots send recv seats copies takes s shows same))))
