-- The seats that a state keeps, where one of them changed: the elements at the other places stay, and so do their
-- views.
use Rattle.std.proofs.Common.{◌≡◌, ◌≢◌, ℕ, ◌+◌, ◌-◌, ◌^◌, ◌<◌, ◌≤◌, min, List, [], ◌∷◌, length, get_or, Option, Some, refl, sym, ap, ◌∙◌, subst, arith}
use Rattle.std.specs.Prelude.{slice_set, slice_get, Result, Ok, Err, IfOk, IfErr}
use Rattle.std.proofs.lemmas.List.{get_or-set_same, get_or-set_other}
use Rattle.std.proofs.lemmas.Option.{slice_get_within, get_or_from_slice_get, slice_get-get_or, slice_get_read}
use Rattle.std.proofs.Math.ListN.{length-set}
use mathlib.Core.Logic.{dite}
use native.Mathlib.Decide.{ℕ_discrete}
use Rattle.part_geometry.specs.Shape.{Shape}
use Rattle.pair_core.specs.Names.{Name, Fits, number, put, put_word}
use Rattle.pair_core.specs.Core.{Core}
use Rattle.pair_core.specs.Steps.{saw}
use Rattle.pair_core.specs.State.{IsKept, IsAt, IsView, IsBlank, Plain, ListsWords, ListsLooks, word_count}
use Rattle.pair_core.specs.declared.view.SendSide.{SendSide}
use Rattle.pair_core.specs.declared.view.Mark.{Mark}
use Rattle.pair_core.specs.declared.view.Pending.{Pending}
use Rattle.pair_core.specs.declared.view.RecvSide.{RecvSide}
use Rattle.pair_core.specs.declared.seat.Seat.{Seat}
use Rattle.pair_core.specs.declared.seat.Spot.{Spot}
use Rattle.pair_core.proofs.Puts.{put_here, put_else}
use Rattle.pair_core.proofs.StateNumbers.{lists_put}

-- an element of a list of which one was changed
pub set_get : {X : Type 0} (xs : List X) (i : ℕ) (x : X) (P : ℕ → X → Type 0) → i < length xs → P i x → ((j : ℕ) (y : X) → j ≢ i → slice_get xs j ≡ Some y → P j y)
    → (j : ℕ) (y : X) → slice_get (slice_set xs i x) j ≡ Some y → P j y
set_get {X} xs i x P inside here rest j y is = dite (ℕ_discrete j i)
    (λ e. let at : get_or (slice_set xs i x) j y ≡ y = get_or_from_slice_get (slice_set xs i x) j y y is in
    let same : x ≡ y = sym (ap (λ (z : ℕ). get_or (slice_set xs i x) z y) e ∙ get_or-set_same xs i x y inside) ∙ at in
    subst (λ (z : ℕ). P z y) (sym e) (subst (P i) same here))
    (λ other. let at = get_or_from_slice_get (slice_set xs i x) j y y is in
    let old : get_or xs j y ≡ y = sym (get_or-set_other xs i j x y other) ∙ at in
    let low : j < length xs = (let h = slice_get_within (slice_set xs i x) j y is in let l = length-set xs i x in omega arith) in
    rest j y other (slice_get-get_or xs j y low ∙ ap Some old))

-- the element that was changed is the new one
pub get_set : {X : Type 0} (xs : List X) (i : ℕ) (x : X) → i < length xs → slice_get (slice_set xs i x) i ≡ Some x
get_set {X} xs i x inside = slice_get-get_or (slice_set xs i x) i x (let l = length-set xs i x in omega arith) ∙ ap Some (get_or-set_same xs i x x inside)

-- any other is the old one
pub get_else : {X : Type 0} (xs : List X) (i j : ℕ) (x y : X) → j ≢ i → slice_get xs j ≡ Some y → slice_get (slice_set xs i x) j ≡ Some y
get_else {X} xs i j x y other is =
    let low = slice_get_within xs j y is in
    slice_get-get_or (slice_set xs i x) j y (let l = length-set xs i x in omega arith) ∙ ap Some (get_or-set_other xs i j x y other ∙ get_or_from_slice_get xs j y y is)

-- a place has one element
pub get_one : {X : Type 0} (xs : List X) (i : ℕ) (x y : X) → slice_get xs i ≡ Some x → slice_get xs i ≡ Some y → x ≡ y
get_one {X} xs i x y a b = sym (get_or_from_slice_get xs i x x a) ∙ get_or_from_slice_get xs i y x b

-- seats keep their places
pub at_set : (seats : List Seat) (at : ℕ) (old new : Seat) → slice_get seats at ≡ Some old → new.seat ≡ old.seat → (m n : ℕ) → IsAt seats m n → IsAt (slice_set seats at new) m n
at_set seats at old new is same m n there = let inside = slice_get_within seats at old is in dite (ℕ_discrete m at)
    (λ e. (
      new,
      ap (slice_get (slice_set seats at new)) e ∙ get_set seats at new inside,
      same ∙ (ap (λ (z : Seat). z.seat) (get_one seats at old there.0 is (ap (slice_get seats) (sym e) ∙ there.1)) ∙ there.2),
    ))
    (λ other. (there.0, get_else seats at m new there.0 other there.1, there.2))

-- what is kept stays whole
pub kept_set : (g : Shape) (words : List ℕ) (slots : List Spot) (send : SendSide) (recv : RecvSide) (seats : List Seat) (at : ℕ) (old new : Seat)
    → IsKept g words slots send recv seats → slice_get seats at ≡ Some old → new.seat ≡ old.seat → length new.seen.items ≡ word_count g → length new.looks.items ≡ word_count g
    → IsKept g words slots send recv (slice_set seats at new)
kept_set g words slots send recv seats at old new kept is same seen looks =
    let inside = slice_get_within seats at old is in
    record {
      words_size = kept.words_size;
      slots_size = kept.slots_size;
      sent = kept.sent;
      received = kept.received;
      two = (let l = length-set seats at new in let two = kept.two in omega arith);
      send_seat = λ v there. set_get seats at new (λ j w. j ≡ 0 → w.seat ≡ 0) inside
          (λ e. same ∙ kept.send_seat old (ap (slice_get seats) (sym e) ∙ is)) (λ j w other was e. kept.send_seat w (ap (slice_get seats) (sym e) ∙ was)) 0 v there refl;
      recv_seat = λ v there. set_get seats at new (λ j w. j ≡ 1 → w.seat ≡ 1) inside
          (λ e. same ∙ kept.recv_seat old (ap (slice_get seats) (sym e) ∙ is)) (λ j w other was e. kept.recv_seat w (ap (slice_get seats) (sym e) ∙ was)) 1 v there refl;
      seen = set_get seats at new (λ j w. length w.seen.items ≡ word_count g) inside seen (λ j w other was. kept.seen j w was);
      looks = set_get seats at new (λ j w. length w.looks.items ≡ word_count g) inside looks (λ j w other was. kept.looks j w was);
      numbers = set_get seats at new (λ j w. w.seat < 2 ^ 32) inside (subst (λ (z : ℕ). z < 2 ^ 32) (sym same) (kept.numbers at old is)) (λ j w other was. kept.numbers j w was);
      once = λ a b v w first second. set_get seats at new (λ j x. x.seat ≡ w.seat → j ≡ b) inside
          (λ e. set_get seats at new (λ j x. new.seat ≡ x.seat → at ≡ j) inside (λ _. refl) (λ j x other was f. kept.once at j old x is was (sym same ∙ f)) b w second e)
          (λ j x other was e. set_get seats at new (λ k y. x.seat ≡ y.seat → j ≡ k) inside (λ f. kept.once j at x old was is (f ∙ same)) (λ k y _ then f. kept.once j k x y was then f) b w second e)
          a v first;
      out = (let l = length-set seats at new in let out = kept.out in omega arith);
    }

-- two cores have one view of a seat
pub record SameAt (n : ℕ) (s t : Core Plain) : Type 0 where
  -- the seat has the same life
  pub life : t.life n ≡ s.life n
  -- it has seen the same of each word
  pub seen : t.seen n ≡ s.seen n
  -- as often
  pub looks : t.looks n ≡ s.looks n
  -- it has the same claim pending
  pub pending : t.pending n ≡ s.pending n
  -- and the same marks
  pub marks : t.marks n ≡ s.marks n

-- a seat that has its view in the one core has it in the other
pub view_same : (g : Shape) (v : Seat) (s t : Core Plain) → SameAt v.seat s t → IsView g v s → IsView g v t
view_same g v s t same view = record {
  live = same.life ∙ view.live;
  seen = subst (ListsWords g v.seen.items) (sym same.seen) view.seen;
  looks = subst (ListsLooks g v.looks.items) (sym same.looks) view.looks;
  pending = view.pending ∙ sym same.pending;
  marks = view.marks ∙ sym same.marks;
}

-- and a seat that is blank in the one is in the other
pub blank_same : (g : Shape) (n : ℕ) (s t : Core Plain) → SameAt n s t → IsBlank g n s → IsBlank g n t
blank_same g n s t same blank = record {
  blank = same.life ∙ blank.blank;
  new = let new = blank.new in record {
    seen = λ x fits. ap (λ (f : Name → ℕ). f x) same.seen ∙ new.seen x fits;
    looks = λ x fits. ap (λ (f : Name → ℕ). f x) same.looks ∙ new.looks x fits;
    pending = same.pending ∙ new.pending;
    marks = same.marks ∙ new.marks;
  };
}

-- the seats that are kept have their views, and the others are blank
pub record Seats (g : Shape) (seats : List Seat) (s : Core Plain) : Type 0 where
  -- each seat that is kept has its view
  pub each : (at : ℕ) (v : Seat) → slice_get seats at ≡ Some v → IsView g v s
  -- any other is blank
  pub others : (n : ℕ) → ((at : ℕ) (v : Seat) → slice_get seats at ≡ Some v → v.seat ≢ n) → IsBlank g n s

-- one of them changed
pub seats_set : (g : Shape) (words : List ℕ) (slots : List Spot) (send : SendSide) (recv : RecvSide) (seats : List Seat) (at : ℕ) (old new : Seat) (s t : Core Plain)
    → IsKept g words slots send recv seats → Seats g seats s → slice_get seats at ≡ Some old → new.seat ≡ old.seat → IsView g new t
    → ((n : ℕ) → n ≢ old.seat → SameAt n s t) → Seats g (slice_set seats at new) t
seats_set g words slots send recv seats at old new s t kept all is same view rest =
    let inside = slice_get_within seats at old is in
    record {
      each = set_get seats at new (λ j v. IsView g v t) inside view
          (λ j v other was. view_same g v s t (rest v.seat (λ e. other (kept.once j at v old was is e))) (all.each j v was));
      others = λ n none.
          let not_old : n ≢ old.seat = (λ e. none at new (get_set seats at new inside) (same ∙ sym e)) in
          blank_same g n s t (rest n not_old) (all.others n (λ j v was e. dite (ℕ_discrete j at)
          (λ here. not_old (sym e ∙ ap (λ (z : Seat). z.seat) (get_one seats at v old (ap (slice_get seats) (sym here) ∙ was) is)))
          (λ other. none j v (get_else seats at j new v other was) e)));
    }

-- a look leaves the views of other seats
pub saw_else : (n : ℕ) (x : Name) (w : ℕ) (s : Core Plain) (m : ℕ) → m ≢ n → SameAt m s (saw n x w s)
saw_else n x w s m other = record {
  life = refl;
  seen = put_else s.seen n (put_word x w (s.seen n)) m other;
  looks = put_else s.looks n (put_word x (s.looks n x + 1) (s.looks n)) m other;
  pending = refl;
  marks = refl;
}

-- and is in the view of its own
pub saw_here : (g : Shape) (old new : Seat) (x : Name) (index w : ℕ) (s : Core Plain) → IsView g old s → Fits g x → number g x ≡ index
    → index < length old.seen.items → index < length old.looks.items → new.seat ≡ old.seat → new.seen.items ≡ slice_set old.seen.items index w
    → new.looks.items ≡ slice_set old.looks.items index (min (get_or old.looks.items index 0 + 1) (2 ^ 64 - 1)) → new.pending ≡ old.pending → new.marks ≡ old.marks
    → IsView g new (saw old.seat x w s)
saw_here g old new x index w s view fits at low low' seat seen looks pending marks =
    let T : ℕ → ℕ = λ z. min z (2 ^ 64 - 1) in
    let was : get_or old.looks.items index 0 ≡ T (s.looks old.seat x) = ap (λ (z : ℕ). get_or old.looks.items z 0) (sym at) ∙ view.looks x fits in
    let count : min (get_or old.looks.items index 0 + 1) (2 ^ 64 - 1) ≡ T (s.looks old.seat x + 1) = omega arith in
    record {
      live = ap s.life seat ∙ view.live;
      seen = let P : (Name → ℕ) → Type 0 = ListsWords g new.seen.items in
          subst P (sym (ap (saw old.seat x w s).seen seat ∙ put_here s.seen old.seat (put_word x w (s.seen old.seat))))
          (subst (λ (l : List ℕ). ListsWords g l (put_word x w (s.seen old.seat))) (sym seen) (lists_put g old.seen.items x index w (s.seen old.seat) w (λ z. z) view.seen fits at low refl));
      looks = let P : (Name → ℕ) → Type 0 = ListsLooks g new.looks.items in
          subst P (sym (ap (saw old.seat x w s).looks seat ∙ put_here s.looks old.seat (put_word x (s.looks old.seat x + 1) (s.looks old.seat))))
          (subst (λ (l : List ℕ). ListsLooks g l (put_word x (s.looks old.seat x + 1) (s.looks old.seat))) (sym looks)
          (lists_put g old.looks.items x index _ (s.looks old.seat) (s.looks old.seat x + 1) T view.looks fits at low' count));
      pending = pending ∙ (view.pending ∙ ap s.pending (sym seat));
      marks = marks ∙ (view.marks ∙ ap s.marks (sym seat));
    }

-- the seat at a place, read
pub read_seat : (seats : List Seat) (at : ℕ) (v : Seat) → at < length seats → v ≡ get_or seats at v → slice_get seats at ≡ Some v
read_seat seats at v inside is = slice_get_read seats (length seats) at v refl inside is

-- its number is the one that stands at the place
pub at_seat : (seats : List Seat) (at n : ℕ) (v : Seat) → slice_get seats at ≡ Some v → IsAt seats at n → v.seat ≡ n
at_seat seats at n v is there = ap (λ (z : Seat). z.seat) (get_one seats at v there.0 is there.1) ∙ there.2

-- a number that is read within a list doesn't depend on what is read outside of it
pub read_number : (xs : List ℕ) (i x : ℕ) → i < length xs → x ≡ get_or xs i x → x ≡ get_or xs i 0
read_number xs i x inside is = sym (get_or_from_slice_get xs i x 0 (slice_get_read xs (length xs) i x refl inside is))

-- the two sides stand first
pub send_at : (g : Shape) (words : List ℕ) (slots : List Spot) (send : SendSide) (recv : RecvSide) (seats : List Seat) → IsKept g words slots send recv seats → IsAt seats 0 0
send_at g words slots send recv seats kept = first seats kept.two kept.send_seat
  where
    first : (seats : List Seat) → 2 ≤ length seats → ((v : Seat) → slice_get seats 0 ≡ Some v → v.seat ≡ 0) → IsAt seats 0 0
    first [] two own = absurd (omega arith)
    first (v ∷ vs) two own = (v, refl, own v refl)

-- this is the receive side
pub recv_at : (g : Shape) (words : List ℕ) (slots : List Spot) (send : SendSide) (recv : RecvSide) (seats : List Seat) → IsKept g words slots send recv seats → IsAt seats 1 1
recv_at g words slots send recv seats kept = second seats kept.two kept.recv_seat
  where
    second : (seats : List Seat) → 2 ≤ length seats → ((v : Seat) → slice_get seats 1 ≡ Some v → v.seat ≡ 1) → IsAt seats 1 1
    second [] two own = absurd (omega arith)
    second (u ∷ []) two own = absurd (omega arith)
    second (u ∷ v ∷ vs) two own = (v, refl, own v refl)

-- another claim of a seat pends, or it marked one more
pub pends_else : (n : ℕ) (x : Option Pending) (s : Core Plain) (m : ℕ) → m ≢ n → SameAt m s (record s { pending = put s.pending n x })
pends_else n x s m other = record { life = refl; seen = refl; looks = refl; pending = put_else s.pending n x m other; marks = refl }

-- in the seat's own view the claim is the new one
pub pends_here : (g : Shape) (old new : Seat) (x : Option Pending) (s : Core Plain) → IsView g old s → new.seat ≡ old.seat → new.seen ≡ old.seen → new.looks ≡ old.looks → new.pending ≡ x → new.marks ≡ old.marks
    → IsView g new (record s { pending = put s.pending old.seat x })
pends_here g old new x s view seat seen looks pending marks = record {
  live = ap s.life seat ∙ view.live;
  seen = λ y fits. ap (λ v. get_or v.items (number g y) 0) seen ∙ (view.seen y fits ∙ ap (λ (z : ℕ). s.seen z y) (sym seat));
  looks = λ y fits. ap (λ v. get_or v.items (number g y) 0) looks ∙ (view.looks y fits ∙ ap (λ (z : ℕ). min (s.looks z y) (2 ^ 64 - 1)) (sym seat));
  pending = pending ∙ sym (ap (put s.pending old.seat x) seat ∙ put_here s.pending old.seat x);
  marks = marks ∙ (view.marks ∙ ap s.marks (sym seat));
}

-- another list of marks of a seat leaves the views of the others
pub marked_else : (n : ℕ) (l : List (Mark Plain)) (s : Core Plain) (m : ℕ) → m ≢ n → SameAt m s (record s { marks = put s.marks n l })
marked_else n l s m other = record { life = refl; seen = refl; looks = refl; pending = refl; marks = put_else s.marks n l m other }

-- and in its own view they are the new ones
pub marked_here : (g : Shape) (old new : Seat) (l : List (Mark Plain)) (s : Core Plain) → IsView g old s → new.seat ≡ old.seat → new.seen ≡ old.seen → new.looks ≡ old.looks → new.pending ≡ old.pending → new.marks ≡ l
    → IsView g new (record s { marks = put s.marks old.seat l })
marked_here g old new l s view seat seen looks pending marks = record {
  live = ap s.life seat ∙ view.live;
  seen = λ y fits. ap (λ v. get_or v.items (number g y) 0) seen ∙ (view.seen y fits ∙ ap (λ (z : ℕ). s.seen z y) (sym seat));
  looks = λ y fits. ap (λ v. get_or v.items (number g y) 0) looks ∙ (view.looks y fits ∙ ap (λ (z : ℕ). min (s.looks z y) (2 ^ 64 - 1)) (sym seat));
  pending = pending ∙ (view.pending ∙ ap s.pending (sym seat));
  marks = marks ∙ sym (ap (put s.marks old.seat l) seat ∙ put_here s.marks old.seat l);
}

-- a seat of which all parts are as they were
pub view_equal : (g : Shape) (old new : Seat) (s : Core Plain) → IsView g old s → new.seat ≡ old.seat → new.seen ≡ old.seen → new.looks ≡ old.looks → new.pending ≡ old.pending → new.marks ≡ old.marks → IsView g new s
view_equal g old new s view seat seen looks pending marks = record {
  live = ap s.life seat ∙ view.live;
  seen = λ y fits. ap (λ v. get_or v.items (number g y) 0) seen ∙ (view.seen y fits ∙ ap (λ (z : ℕ). s.seen z y) (sym seat));
  looks = λ y fits. ap (λ v. get_or v.items (number g y) 0) looks ∙ (view.looks y fits ∙ ap (λ (z : ℕ). min (s.looks z y) (2 ^ 64 - 1)) (sym seat));
  pending = pending ∙ (view.pending ∙ ap s.pending (sym seat));
  marks = marks ∙ (view.marks ∙ ap s.marks (sym seat));
}

-- where one thing follows of another for each value, it does for the value of a result
pub ok_map : {A E : Type 0} (r : Result A E) (P Q : A → Type 0) → ((x : A) → P x → Q x) → IfOk r P → IfOk r Q
ok_map {A} {E} (Ok x) P Q f p = f x p
ok_map {A} {E} (Err e) P Q f p = p

-- and for each error
pub err_map : {A E : Type 0} (r : Result A E) (P Q : E → Type 0) → ((x : E) → P x → Q x) → IfErr r P → IfErr r Q
err_map {A} {E} (Ok x) P Q f p = p
err_map {A} {E} (Err e) P Q f p = f e p
