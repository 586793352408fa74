-- A seat that stands behind the others from now on: it is fresh, and so has the view that its blank seat had in the
-- core.
use Rattle.std.proofs.Common.{◌≡◌, ◌≢◌, ℕ, zero, suc, ◌+◌, ◌%◌, ◌^◌, ◌<◌, Bool, true, false, ◌==◌, List, [], ◌∷◌, ◌++◌, length, get_or, Some, None, refl, sym, ap, ◌∙◌, subst, arith}
use Rattle.std.specs.Prelude.{slice_get}
use Rattle.std.proofs.lemmas.List.{length_push, get_or_append_left, get_or_push, get_or-replicate, length-replicate}
use Rattle.std.proofs.lemmas.Option.{slice_get_within, get_or_from_slice_get, slice_get-get_or}
use Rattle.part_geometry.specs.Shape.{Shape}
use Rattle.pair_core.specs.Names.{Name, number, put}
use Rattle.pair_core.specs.Core.{Core}
use Rattle.pair_core.specs.Steps.{counted, entered, enters, marker_more, watcher_more}
use Rattle.pair_core.specs.State.{IsKept, IsAt, IsFresh, IsView, IsBlank, Plain, Stands, word_count}
use Rattle.pair_core.specs.declared.view.Mark.{Mark}
use Rattle.pair_core.specs.declared.view.SendSide.{SendSide}
use Rattle.pair_core.specs.declared.view.RecvSide.{RecvSide}
use Rattle.pair_core.specs.declared.view.Life.{Life}
use Rattle.pair_core.specs.declared.view.Life.TheVariants.{Live, Spent}
use Rattle.pair_core.specs.declared.seat.Seat.{Seat}
use Rattle.pair_core.specs.declared.seat.Spot.{Spot}
use Rattle.pair_core.proofs.Puts.{put_here, put_else}
use Rattle.pair_core.proofs.StateNumbers.{number_lt}
use Rattle.pair_core.proofs.StateSeats.{SameAt, view_same, blank_same}

-- an element of a list with one more
pub push_get : {X : Type 0} (xs : List X) (x : X) (P : ℕ → X → Type 0) → P (length xs) x → ((j : ℕ) (y : X) → slice_get xs j ≡ Some y → P j y)
    → (j : ℕ) (y : X) → slice_get (xs ++ x ∷ []) j ≡ Some y → P j y
push_get {X} [] x P here rest zero y is = let e : x ≡ y = cc in subst (P 0) e here
push_get {X} [] x P here rest (suc j) y is = let e : None ≡ Some y = is in cc
push_get {X} (w ∷ xs) x P here rest zero y is = rest 0 y is
push_get {X} (w ∷ xs) x P here rest (suc j) y is = push_get xs x (λ k z. P (suc k) z) here (λ k z was. rest (suc k) z was) j y is

-- the new element stands behind the others
pub get_pushed : {X : Type 0} (xs : List X) (x : X) (n : ℕ) → n ≡ length xs → slice_get (xs ++ x ∷ []) n ≡ Some x
get_pushed {X} xs x n is = slice_get-get_or (xs ++ x ∷ []) n x (let l = length_push xs x in omega arith) ∙ ap Some (get_or_push xs x x n (sym is))

-- which stay where they were
pub get_kept : {X : Type 0} (xs : List X) (x : X) (j : ℕ) (y : X) → slice_get xs j ≡ Some y → slice_get (xs ++ x ∷ []) j ≡ Some y
get_kept {X} xs x j y is = let low = slice_get_within xs j y is in
    slice_get-get_or (xs ++ x ∷ []) j y (let l = length_push xs x in omega arith) ∙ ap Some (get_or_append_left xs (x ∷ []) y j low ∙ get_or_from_slice_get xs j y y is)

-- what is kept is whole with a fresh seat more, that one of the sides counts as out
pub kept_push : (g : Shape) (words : List ℕ) (slots : List Spot) (send send' : SendSide) (recv recv' : RecvSide) (seats : List Seat) (v : Seat)
    → IsKept g words slots send recv seats → send'.round ≡ send.round → recv'.round ≡ recv.round → send'.markers + recv'.watchers ≡ send.markers + recv.watchers + 1
    → ((at : ℕ) (w : Seat) → slice_get seats at ≡ Some w → w.seat ≢ v.seat) → IsFresh g v → v.seat < 2 ^ 32 → IsKept g words slots send' recv' (seats ++ v ∷ [])
kept_push g words slots send send' recv recv' seats v kept a b count none fresh small = record {
  words_size = kept.words_size;
  slots_size = kept.slots_size;
  sent = (let h = kept.sent in omega arith);
  received = (let h = kept.received in omega arith);
  two = (let l = length_push seats v in let two = kept.two in omega arith);
  send_seat = λ w is. push_get seats v (λ j w. j ≡ 0 → w.seat ≡ 0) (λ e. let two = kept.two in absurd (omega arith)) (λ j w was e. kept.send_seat w (ap (slice_get seats) (sym e) ∙ was)) 0 w is refl;
  recv_seat = λ w is. push_get seats v (λ j w. j ≡ 1 → w.seat ≡ 1) (λ e. let two = kept.two in absurd (omega arith)) (λ j w was e. kept.recv_seat w (ap (slice_get seats) (sym e) ∙ was)) 1 w is refl;
  seen = push_get seats v (λ j w. length w.seen.items ≡ word_count g) fresh.seen_size kept.seen;
  looks = push_get seats v (λ j w. length w.looks.items ≡ word_count g) (ap length fresh.looks ∙ length-replicate (word_count g) 0) kept.looks;
  numbers = push_get seats v (λ j w. w.seat < 2 ^ 32) small kept.numbers;
  once = λ x y u w first second. push_get seats v (λ j z. z.seat ≡ w.seat → j ≡ y)
      (λ e. push_get seats v (λ k z. v.seat ≡ z.seat → length seats ≡ k) (λ _. refl) (λ k z was f. absurd (none k z was (sym f))) y w second e)
      (λ j z was e. push_get seats v (λ k q. z.seat ≡ q.seat → j ≡ k) (λ f. absurd (none j z was f)) (λ k q then f. kept.once j k z q was then f) y w second e)
      x u first;
  out = (let l = length_push seats v in let out = kept.out in omega arith);
}

-- the seats, in a core where v's seat has its view too
pushed_each : (g : Shape) (seats : List Seat) (v : Seat) (s t : Core Plain) → ((at : ℕ) (w : Seat) → slice_get seats at ≡ Some w → IsView g w s)
    → ((at : ℕ) (w : Seat) → slice_get seats at ≡ Some w → w.seat ≢ v.seat) → IsView g v t → ((n : ℕ) → n ≢ v.seat → SameAt n s t)
    → (at : ℕ) (w : Seat) → slice_get (seats ++ v ∷ []) at ≡ Some w → IsView g w t
pushed_each g seats v s t each none view rest = push_get seats v (λ _ w. IsView g w t) view (λ j w was. view_same g w s t (rest w.seat (none j w was)) (each j w was))

pushed_others : (g : Shape) (seats : List Seat) (v : Seat) (s t : Core Plain) → ((n : ℕ) → ((at : ℕ) (w : Seat) → slice_get seats at ≡ Some w → w.seat ≢ n) → IsBlank g n s)
    → ((n : ℕ) → n ≢ v.seat → SameAt n s t)
    → (n : ℕ) → ((at : ℕ) (w : Seat) → slice_get (seats ++ v ∷ []) at ≡ Some w → w.seat ≢ n) → IsBlank g n t
pushed_others g seats v s t others rest n absent =
    blank_same g n s t (rest n (λ e. absent (length seats) v (get_pushed seats v (length seats) refl) (sym e))) (others n (λ j w was. absent j w (get_kept seats v j w was)))

-- a seat as it is met has the view of a blank one
fresh_view : (g : Shape) (v : Seat) (s t : Core Plain) → IsFresh g v → IsBlank g v.seat s → t.life v.seat ≡ Live → t.seen v.seat ≡ s.seen v.seat → t.looks v.seat ≡ s.looks v.seat
    → t.pending v.seat ≡ s.pending v.seat → t.marks v.seat ≡ s.marks v.seat → IsView g v t
fresh_view g v s t fresh blank live seen looks pending marks = record {
  live = live;
  seen = λ x fits. fresh.seen x fits ∙ (sym (blank.new.seen x fits) ∙ sym (ap (λ (f : Name → ℕ). f x) seen));
  looks = λ x fits.
      let none : t.looks v.seat x ≡ 0 = ap (λ (f : Name → ℕ). f x) looks ∙ blank.new.looks x fits in
      let zero' : get_or v.looks.items (number g x) 0 ≡ 0 = ap (λ (l : List ℕ). get_or l (number g x) 0) fresh.looks ∙ get_or-replicate (word_count g) (number g x) 0 0 (number_lt g x fits) in
      omega arith;
  pending = fresh.pending ∙ (sym blank.new.pending ∙ sym pending);
  marks = fresh.marks ∙ (sym blank.new.marks ∙ sym marks);
}

lives_else : (n : ℕ) (s t : Core Plain) → t.life ≡ put s.life n Live → t.seen ≡ s.seen → t.looks ≡ s.looks → t.pending ≡ s.pending → t.marks ≡ s.marks → (m : ℕ) → m ≢ n → SameAt m s t
lives_else n s t life seen looks pending marks m other = record {
  life = ap (λ (f : ℕ → Life). f m) life ∙ put_else s.life n Live m other;
  seen = ap (λ (f : ℕ → Name → ℕ). f m) seen;
  looks = ap (λ (f : ℕ → Name → ℕ). f m) looks;
  pending = ap (λ f. f m) pending;
  marks = ap (λ f. f m) marks;
}

-- a fresh marker behind the others is kept, and so what is kept shows the core that it entered
pub marker_push : (g : Shape) (words : List ℕ) (slots : List Spot) (send : SendSide) (recv : RecvSide) (seats : List Seat) (takes : List (Mark Plain)) (v : Seat) (s : Core Plain)
    → Stands g words slots send recv seats takes s → ((at : ℕ) (w : Seat) → slice_get seats at ≡ Some w → w.seat ≢ v.seat) → IsFresh g v → (v.seat % 2 == 0) ≡ true
    → Stands g words slots (marker_more send) recv (seats ++ v ∷ []) takes (enters v.seat s)
marker_push g words slots send recv seats takes v s shows none fresh even =
    let blank = shows.others_are v.seat none in
    let t : Core Plain = counted true v.seat s in
    let is : enters v.seat s ≡ t = ap (λ (l : Life). entered l v.seat s) blank.blank ∙ ap (λ (b : Bool). counted b v.seat s) even in
    let rest = lives_else v.seat s t refl refl refl refl refl in
    subst (Stands g words slots (marker_more send) recv (seats ++ v ∷ []) takes) (sym is) (record {
      words_are = shows.words_are;
      slots_are = shows.slots_are;
      send_are = ap marker_more shows.send_are;
      recv_are = shows.recv_are;
      seats_are = pushed_each g seats v s t shows.seats_are none (fresh_view g v s t fresh blank (put_here s.life v.seat Live) refl refl refl refl) rest;
      others_are = pushed_others g seats v s t shows.others_are rest;
      takes_are = shows.takes_are;
    })

-- the same of a watcher
pub watcher_push : (g : Shape) (words : List ℕ) (slots : List Spot) (send : SendSide) (recv : RecvSide) (seats : List Seat) (takes : List (Mark Plain)) (v : Seat) (s : Core Plain)
    → Stands g words slots send recv seats takes s → ((at : ℕ) (w : Seat) → slice_get seats at ≡ Some w → w.seat ≢ v.seat) → IsFresh g v → (v.seat % 2 == 0) ≡ false
    → Stands g words slots send (watcher_more recv) (seats ++ v ∷ []) takes (enters v.seat s)
watcher_push g words slots send recv seats takes v s shows none fresh odd =
    let blank = shows.others_are v.seat none in
    let t : Core Plain = counted false v.seat s in
    let is : enters v.seat s ≡ t = ap (λ (l : Life). entered l v.seat s) blank.blank ∙ ap (λ (b : Bool). counted b v.seat s) odd in
    let rest = lives_else v.seat s t refl refl refl refl refl in
    subst (Stands g words slots send (watcher_more recv) (seats ++ v ∷ []) takes) (sym is) (record {
      words_are = shows.words_are;
      slots_are = shows.slots_are;
      send_are = shows.send_are;
      recv_are = ap watcher_more shows.recv_are;
      seats_are = pushed_each g seats v s t shows.seats_are none (fresh_view g v s t fresh blank (put_here s.life v.seat Live) refl refl refl refl) rest;
      others_are = pushed_others g seats v s t shows.others_are rest;
      takes_are = shows.takes_are;
    })

-- a seat that is kept after it entered wasn't spent before
pub entered_live : (n : ℕ) (s : Core Plain) → (enters n s).life n ≡ Live → s.life n ≢ Spent
entered_live n s live spent =
    let same : enters n s ≡ s = ap (λ (l : Life). entered l n s) spent in
    let e : Spent ≡ Live = sym spent ∙ (sym (ap (λ (z : Core Plain). z.life n) same) ∙ live) in cc

-- the seat at a place has a view
pub view_live : (g : Shape) (words : List ℕ) (slots : List Spot) (send : SendSide) (recv : RecvSide) (seats : List Seat) (takes : List (Mark Plain)) (s : Core Plain) (at n : ℕ)
    → Stands g words slots send recv seats takes s → IsAt seats at n → s.life n ≡ Live
view_live g words slots send recv seats takes s at n shows there = ap s.life (sym there.2) ∙ (shows.seats_are at there.0 there.1).live

-- the place of a seat is below the length of the list
pub at_low : (seats : List Seat) (at n : ℕ) → IsAt seats at n → at < length seats
at_low seats at n there = slice_get_within seats at there.0 there.1
