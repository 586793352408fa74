-- Seats are made: a side's view is cut in two, and the new seat shows a view of the core that was blank so far. A new marker or
-- watcher gets its view by the core's split, and sees by a rise all that its side has seen.
use Rattle.std.proofs.Common.{◌≡◌, ◌≢◌, ◌⊎◌, inl, inr, ⊎_elim, ℕ, zero, suc, ◌+◌, ◌*◌, ◌%◌, ◌<◌, ◌≤◌, Bool, true, false, ◌==◌, List, [], ◌∷◌, ◌++◌, length, get_or, set, replicate, Contains, refl, sym, ap, ◌∙◌, subst, arith}
use Rattle.std.proofs.lemmas.Bool.{cases_lt, eq-eqb, ne_eqb}
use mathlib.Core.Logic.{dite}
use mathlib.Core.Option.{some, some-injective, some-ne-none}
use native.Mathlib.Decide.{ℕ_discrete}
use lib.ListN.{get_elem?}
use Rattle.gate_word.specs.Order.{IsLater}
use Rattle.atomic_table.specs.Table.{Splits}
use Rattle.atomic_table.proofs.Lists.{at_set, set_here, set_else}
use Rattle.part_geometry.specs.Shape.{Shape}
use Rattle.part_geometry.specs.Pieces.{pieces, piece_of}
use Rattle.part_tables.specs.Bytes.{cell_bytes}
use Rattle.gate_word.specs.Words.{round_in}
use Rattle.pair_core.specs.Names.{Name, Claim, Release, Take, Return, Piece, Fits, number, put, put_word, claim_words, take_words}
use Rattle.pair_core.specs.Core.{IsMarker, IsWatcher}
use Rattle.pair_core.specs.Steps.{enters, entered, counted, rises, marker_more, watcher_more}
use Rattle.pair_core.specs.Moves.{Split, Rise, IsAllowed, after, first_state}
use Rattle.pair_core.specs.Sound.{HasRound, Sound}
use Rattle.pair_core.specs.State.{word_count}
use Rattle.pair_core.specs.declared.view.Mark.{Mark}
use Rattle.pair_core.specs.declared.view.Life.{Life}
use Rattle.pair_core.specs.declared.view.Life.TheVariants.{Blank, Live, Spent}
use Rattle.pair_core.proofs.Facts.{put_here, put_else, any_word}
use Rattle.slot_rows.proofs.Lists.{at_split}
use Rattle.pair_rule.specs.Rule.{At, Shown, slot_number, Stands, Given, Agrees, Tells, Rule, Holds}
use Rattle.pair_rule.specs.First.{first_words, in_company, receiver, with_marker, marker, with_watcher, watcher, note}
use Rattle.pair_rule.specs.declared.view.View.{View}
use Rattle.pair_rule.specs.declared.view.Standing.TheVariants.{Seated, Told, Closed}
use Rattle.pair_rule.specs.declared.rule.Key.{Key}
use Rattle.pair_rule.proofs.Core.{CoreLaws}
use Rattle.pair_rule.proofs.Bridge.{one_not_alone}
use Rattle.pair_rule.proofs.FirstFacts.{first_words-length, first_words-at}
use Rattle.pair_rule.proofs.SideSteps.{of_running}

-- what stands in a list and one more
pub at_end : {A : Type 0} (l : List A) (a b : A) (j : ℕ) → get_elem? (l ++ a ∷ []) j ≡ some b → (get_elem? l j ≡ some b) ⊎ ((j ≡ length l) × (a ≡ b))
at_end [] a b zero e = inr (refl, some-injective a b e)
at_end [] a b (suc j) e = absurd (some-ne-none b (sym e))
at_end (x ∷ xs) a b zero e = inl e
at_end (x ∷ xs) a b (suc j) e = ⊎_elim (λ t. inl t) (λ (t : (j ≡ length xs) × (a ≡ b)). inr (ap suc t.0, t.1)) (at_end xs a b j e)

at_front : {A : Type 0} (l : List A) (a b : A) (j : ℕ) → get_elem? l j ≡ some b → get_elem? (l ++ a ∷ []) j ≡ some b
at_front [] a b j e = absurd (some-ne-none b (sym e))
at_front (x ∷ xs) a b zero e = e
at_front (x ∷ xs) a b (suc j) e = at_front xs a b j e

at_last : {A : Type 0} (l : List A) (a : A) → get_elem? (l ++ a ∷ []) (length l) ≡ some a
at_last [] a = refl
at_last (x ∷ xs) a = at_last xs a

-- a name is one of the pair's, or it isn't
pub fits_or : (g : Shape) (x : Name) → Fits g x ⊎ ¬ Fits g x
fits_or g (Claim c) = elim (cases_lt c (claim_words g)) [ inl less ↦ inl less | inr more ↦ inr (λ h. absurd (omega arith)) ]
fits_or g Release = inl tt
fits_or g (Take t) = elim (cases_lt t (take_words g)) [ inl less ↦ inl less | inr more ↦ inr (λ h. absurd (omega arith)) ]
fits_or g (Return t) = elim (cases_lt t (take_words g)) [ inl less ↦ inl less | inr more ↦ inr (λ h. absurd (omega arith)) ]
fits_or g (Piece d i) = elim (cases_lt d g.depth) [
  | inl low ↦ elim (cases_lt i (pieces g)) [ inl less ↦ inl (low, less) | inr more ↦ inr (λ h. let x = h.1 in absurd (omega arith)) ]
  | inr deep ↦ inr (λ h. let x = h.0 in absurd (omega arith))
]

chosen : {P : Type 0} → P ⊎ ¬ P → ℕ → ℕ → ℕ
chosen (inl _) a b = a
chosen (inr _) a b = b

chosen_yes : {P : Type 0} (o : P ⊎ ¬ P) (a b : ℕ) → P → chosen o a b ≡ a
unfolding chosen
chosen_yes (inl _) a b p = refl
chosen_yes (inr lacks) a b p = absurd (lacks p)

chosen_no : {P : Type 0} (o : P ⊎ ¬ P) (a b : ℕ) → ¬ P → chosen o a b ≡ b
unfolding chosen
chosen_no (inl has) a b lacks = absurd (lacks has)
chosen_no (inr _) a b lacks = refl

-- the words of f where the pair has them, and those of h elsewhere
pub risen : Shape → (Name → ℕ) → (Name → ℕ) → Name → ℕ
risen g f h x = chosen (fits_or g x) (f x) (h x)

-- of a name that the pair has
pub risen_here : (g : Shape) (f h : Name → ℕ) (x : Name) → Fits g x → risen g f h x ≡ f x
unfolding risen
risen_here g f h x fits = chosen_yes (fits_or g x) (f x) (h x) fits

-- and of one that it hasn't
pub risen_else : (g : Shape) (f h : Name → ℕ) (x : Name) → ¬ Fits g x → risen g f h x ≡ h x
unfolding risen
risen_else g f h x lacks = chosen_no (fits_or g x) (f x) (h x) lacks

-- the core's view of the seat n is new, and all else is as it was, but for the counts of the sides
pub record Grown (c c' : Shown) (n : ℕ) : Type 0 where
  pub word : (x : Name) → c'.word x ≡ c.word x
  pub slot : (e i : ℕ) → c'.slot e i ≡ c.slot e i
  pub life : (m : ℕ) → m ≢ n → c'.life m ≡ c.life m
  pub seen : (m : ℕ) → m ≢ n → (x : Name) → c.seen m x ≡ c'.seen m x
  pub looks : (m : ℕ) → m ≢ n → (x : Name) → c.looks m x ≡ c'.looks m x
  pub pending : (m : ℕ) → c'.pending m ≡ c.pending m
  pub marks : (m : ℕ) → c'.marks m ≡ c.marks m
  pub takes : c'.takes ≡ c.takes

-- the receive side was made
pub beside : (alone : Bool) (markers watchers n : ℕ) → n ≡ 1 → Given alone markers watchers n → alone ≡ false
beside true markers watchers n e given = absurd (one_not_alone true markers watchers n refl e given)
beside false markers watchers n e given = refl

even_two : (k : ℕ) → (2 + 2 * k) % 2 ≡ 0
even_two k = omega arith

odd_three : (k : ℕ) → (3 + 2 * k) % 2 ≡ 1
odd_three k = omega arith

module _ {T : Type 0} (may : T → ℕ → ℕ → ℕ → Type 0) (key : Key T) where
  abbrev G : Shape
  G = key.geometry

  -- the table with a seat more, which shows the core's new view
  adds : (s : At) (r : Rule may key s) (id n : ℕ) (d d' e : View) (c' : Shown) (alone' : Bool) (markers' watchers' : ℕ)
      → get_elem? s.views id ≡ some d → d.standing ≡ Seated → d'.standing ≡ Seated → d'.number ≡ d.number → e.standing ≡ Seated → e.number ≡ n
      → Sound G c' → Grown r.core c' n → c'.life n ≡ Live
      → (d.number ≢ 0 → (r.core.send ≡ c'.send) × (markers' ≡ r.markers) × (alone' ≡ r.alone)) → (d.number ≢ 1 → (r.core.recv ≡ c'.recv) × (watchers' ≡ r.watchers))
      → ¬ Given r.alone r.markers r.watchers n → Given alone' markers' watchers' n → ((m : ℕ) → Given r.alone r.markers r.watchers m → Given alone' markers' watchers' m)
      → alone' ≡ false → ((m : ℕ) → m ≡ 1 → m ≢ n → r.alone ≡ false)
      → Agrees G c' alone' markers' watchers' (put r.seat n (length (set s.views id d'))) id d'
      → Agrees G c' alone' markers' watchers' (put r.seat n (length (set s.views id d'))) (length (set s.views id d')) e
      → Rule may key record { words = s.words; homes = s.homes; views = set s.views id d' ++ e ∷ [] }
  adds s r id n d d' e c' alone' markers' watchers' at live live' same seated numbered sound grown born send recv new given more company made mine newly =
      let size : ℕ = length (set s.views id d') in let seat' : ℕ → ℕ = put r.seat n size in
      let a = r.seats id d at live in
      let apart : (m : ℕ) → Given r.alone r.markers r.watchers m → m ≢ n = λ m h e'. new (subst (Given r.alone r.markers r.watchers) e' h) in
      let keep : (i : ℕ) (f : View) → Agrees G r.core r.alone r.markers r.watchers r.seat i f → f.number ≢ d.number → Agrees G c' alone' markers' watchers' seat' i f = λ i f k other.
      let o : f.number ≢ n = apart f.number k.given in
      let zero : f.number ≡ 0 → d.number ≢ 0 = λ z w. other (z ∙ sym w) in
      let one : f.number ≡ 1 → d.number ≢ 1 = λ z w. other (z ∙ sym w) in
      record {
        geometry = k.geometry;
        seat_is = put_else r.seat n size f.number o ∙ k.seat_is;
        given = more f.number k.given;
        live = grown.life f.number o ∙ k.live;
        seen_size = k.seen_size;
        looks_size = k.looks_size;
        seen_is = λ x fits. k.seen_is x fits ∙ grown.seen f.number o x;
        looks_is = λ x fits. k.looks_is x fits ∙ grown.looks f.number o x;
        pending_is = k.pending_is ∙ sym (grown.pending f.number);
        marks_is = k.marks_is ∙ sym (grown.marks f.number);
        send_is = λ z. k.send_is z ∙ (send (zero z)).0;
        markers_is = λ z. let m = k.markers_is z in let q = send (zero z) in (m.0 ∙ sym q.1, m.1 ∙ sym q.2);
        recv_is = λ z. k.recv_is z ∙ (recv (one z)).0;
        takes_is = λ z. k.takes_is z ∙ sym grown.takes;
        watchers_is = λ z. k.watchers_is z ∙ sym (recv (one z)).1;
      } in
      let same_words : c'.word ≡ r.core.word = λ j x. grown.word x j in
      let front : (i : ℕ) (f : View) → get_elem? (set s.views id d') i ≡ some f → ((i ≡ id) × (d' ≡ f)) ⊎ ((i ≢ id) × (get_elem? s.views i ≡ some f)) = λ i f h. at_set s.views id i d' f h in
      record {
        core = c';
        seat = seat';
        alone = alone';
        markers = markers';
        watchers = watchers';
        bytes = r.bytes;
        shape = r.shape;
        sound = sound;
        size = r.size;
        room = r.room;
        words = λ x fits. r.words x fits ∙ sym (grown.word x);
        slots = λ f i deep inside. subst (Stands G i (get_elem? s.homes (slot_number G f i))) (sym (grown.slot f i)) (r.slots f i deep inside);
        kept = λ f i b deep inside home. subst (λ (w : Name → ℕ). HasRound G (λ t. w (Return t)) (w (Piece f (piece_of G i))) i → 1 ≤ round_in (w (Piece f (piece_of G i)))
            → b.bytes ≡ cell_bytes G (r.bytes (round_in (w (Piece f (piece_of G i))))) i) (sym same_words) (r.kept f i b deep inside home);
        seats = λ i f is alive. ⊎_elim
            (λ (t : get_elem? (set s.views id d') i ≡ some f). ⊎_elim
            (λ (u : (i ≡ id) × (d' ≡ f)). subst (λ (z : ℕ × View). Agrees G c' alone' markers' watchers' seat' z.0 z.1) (λ j. (sym u.0 j, u.1 j)) mine)
            (λ (u : (i ≢ id) × (get_elem? s.views i ≡ some f)). let k = r.seats i f u.1 alive in keep i f k (λ z. u.0 (sym k.seat_is ∙ (ap r.seat z ∙ a.seat_is))))
            (front i f t))
            (λ (t : (i ≡ size) × (e ≡ f)). subst (λ (z : ℕ × View). Agrees G c' alone' markers' watchers' seat' z.0 z.1) (λ j. (sym t.0 j, t.1 j)) newly)
            (at_end (set s.views id d') e f i is);
        notes = λ i f is told. ⊎_elim
            (λ (t : get_elem? (set s.views id d') i ≡ some f). ⊎_elim
            (λ (u : (i ≡ id) × (d' ≡ f)). let no : d'.standing ≡ Told = ap (λ (z : View). z.standing) u.1 ∙ told in absurd (cc))
            (λ (u : (i ≢ id) × (get_elem? s.views i ≡ some f)). let k = r.notes i f u.1 told in
            record { geometry = k.geometry; seen_size = k.seen_size; seen_is = λ x fits. subst (IsLater (get_or f.seen (number G x) 0)) (sym (grown.word x)) (k.seen_is x fits) })
            (front i f t))
            (λ (t : (i ≡ size) × (e ≡ f)). let no : e.standing ≡ Told = ap (λ (z : View). z.standing) t.1 ∙ told in absurd (cc))
            (at_end (set s.views id d') e f i is);
        running = λ i f is closed. ⊎_elim
            (λ (t : get_elem? (set s.views id d') i ≡ some f). ⊎_elim
            (λ (u : (i ≡ id) × (d' ≡ f)). let no : d'.standing ≡ Closed = ap (λ (z : View). z.standing) u.1 ∙ closed in absurd (cc))
            (λ (u : (i ≢ id) × (get_elem? s.views i ≡ some f)). r.running i f u.1 closed)
            (front i f t))
            (λ (t : (i ≡ size) × (e ≡ f)). let no : e.standing ≡ Closed = ap (λ (z : View). z.standing) t.1 ∙ closed in absurd (cc))
            (at_end (set s.views id d') e f i is);
        first = λ is. absurd (cc);
        unwatched = λ is. absurd (cc);
        new = λ m not one. let o : m ≢ n = λ e'. not (subst (Given alone' markers' watchers') (sym e') given) in grown.life m o ∙ r.new m (λ h. not (more m h)) one;
        here = λ m alive reached. dite (ℕ_discrete m n)
            (λ is. (e, ap (get_elem? (set s.views id d' ++ e ∷ [])) (ap seat' is ∙ put_here r.seat n size) ∙ at_last (set s.views id d') e, seated, numbered ∙ sym is))
            (λ other. let b = r.here m (sym (grown.life m other) ∙ alive) (λ one. made m one other) in
            let seat_same : seat' m ≡ r.seat m = put_else r.seat n size m other in
            dite (ℕ_discrete (r.seat m) id)
            (λ is. let at' : get_elem? s.views id ≡ some b.0 = ap (get_elem? s.views) (sym is) ∙ b.1 in
            let eq : d ≡ b.0 = some-injective d b.0 (sym at ∙ at') in (
              d',
              ap (get_elem? (set s.views id d' ++ e ∷ [])) (seat_same ∙ is) ∙ at_front (set s.views id d') e d' id (set_here s.views id d' (at_split s.views id d at).0),
              live',
              same ∙ (ap (λ (z : View). z.number) eq ∙ b.3),
            ))
            (λ far. (b.0, ap (get_elem? (set s.views id d' ++ e ∷ [])) seat_same ∙ at_front (set s.views id d') e b.0 (r.seat m) (set_else s.views id (r.seat m) d' far ∙ b.1), b.2, b.3)));
        marks = λ m k h. r.marks m k (subst (λ (z : List (Mark (List ℕ))). Contains z k) (grown.marks m) h);
        takes = λ k h. r.takes k (subst (λ (z : List (Mark (List ℕ))). Contains z k) grown.takes h);
      }

  -- a list of zeros has no look
  zeros : (n i : ℕ) → ◌≡◌ {A = ℕ} (get_or (replicate n 0) i 0) 0
  zeros zero i = refl
  zeros (suc n) zero = refl
  zeros (suc n) (suc i) = zeros n i

  zeros_length : (n : ℕ) → length {A = ℕ} (replicate n 0) ≡ n
  zeros_length zero = refl
  zeros_length (suc n) = ap suc (zeros_length n)

  -- no side counts more than it did
  unchanged : (c : Shown) (n : ℕ) → Grown c c n
  unchanged c n = record { word = λ x. refl; slot = λ e i. refl; life = λ m o. refl; seen = λ m o x. refl; looks = λ m o x. refl; pending = λ m. refl; marks = λ m. refl; takes = refl }

  -- the receive side is made, before any step
  pub receiver_splits : CoreLaws G → (id : ℕ) (d : View) → d.standing ≡ Seated → d.number ≡ 0 → d.alone ≡ true
      → Splits (Holds may key) id d (in_company d) (receiver d)
  receiver_splits L id d live zeroth alone s h at =
      let r = of_running may key L s h id d at live in
      let a = r.seats id d at live in
      let by = a.markers_is zeroth in
      let is : r.alone ≡ true = sym by.1 ∙ alone in
      let f = r.first is in
      let size : ℕ = length (set s.views id (in_company d)) in
      let new : ¬ Given r.alone r.markers r.watchers 1 = one_not_alone r.alone r.markers r.watchers 1 is refl in
      let more : (m : ℕ) → Given r.alone r.markers r.watchers m → Given false r.markers r.watchers m = λ m g. ⊎_elim (λ z. inl z) (λ y. ⊎_elim (λ z. inr (inl (z.0, refl))) (λ z. inr (inr z)) y) g in
      let other : d.number ≢ 1 = λ e. absurd (omega arith) in
      let born : r.core.life 1 ≡ Live = r.sound.lives.recv in
      inl (adds s r id 1 d (in_company d) (receiver d) r.core false r.markers r.watchers at live live refl refl refl r.sound (unchanged r.core 1) born
      (λ no. absurd (no zeroth)) (λ _. (refl, refl)) new (inr (inl (refl, refl))) more refl (λ m one far. absurd (far one))
      (record {
        geometry = a.geometry;
        seat_is = put_else r.seat 1 size d.number other ∙ a.seat_is;
        given = more d.number a.given;
        live = a.live;
        seen_size = a.seen_size;
        looks_size = a.looks_size;
        seen_is = a.seen_is;
        looks_is = a.looks_is;
        pending_is = a.pending_is;
        marks_is = a.marks_is;
        send_is = a.send_is;
        markers_is = λ z. (by.0, refl);
        recv_is = a.recv_is;
        takes_is = a.takes_is;
        watchers_is = a.watchers_is;
      })
      (record {
        geometry = a.geometry;
        seat_is = put_here r.seat 1 size;
        given = inr (inl (refl, refl));
        live = born;
        seen_size = first_words-length d.geometry ∙ ap word_count a.geometry;
        looks_size = zeros_length (word_count d.geometry) ∙ ap word_count a.geometry;
        seen_is = λ x fits. ap (λ (z : Shape). get_or (first_words z) (number G x) 0) a.geometry ∙ (first_words-at G x r.shape fits ∙ sym (f.seen x fits));
        looks_is = λ x fits. zeros (word_count d.geometry) (number G x) ∙ sym (f.looks x fits);
        pending_is = sym f.pending;
        marks_is = sym f.marks;
        send_is = λ z. absurd (omega arith);
        markers_is = λ z. absurd (omega arith);
        recv_is = λ z. ap (λ (g : Shape). (first_state {A = List ℕ} g).recv) a.geometry ∙ sym f.recv;
        takes_is = λ z. sym f.takes;
        watchers_is = λ z. sym (r.unwatched is);
      }))

  -- what holds of the seat n of the core after it was split and rose to what its side has seen
  module _ (L : CoreLaws G) (s : At) (r : Rule may key s) (n : ℕ) (blank : r.core.life n ≡ Blank) (two : 2 ≤ n) (of : ℕ) (known : r.core.life of ≡ Live) where
    abbrev c : Shown
    c = r.core

    abbrev w : Name → ℕ
    w = risen G (c.seen of) (c.seen n)

    unspent : c.life of ≢ Spent
    unspent gone = absurd (cc)

    may_rise : (t : Shown) → t.life n ≡ Live → t.seen n ≡ c.seen n → t.word ≡ c.word → IsAllowed G t (Rise n w 0)
    may_rise t born same words = (
      born,
      λ x fits. let here : w x ≡ c.seen of x = risen_here G (c.seen of) (c.seen n) x fits in
          let news = r.sound.news n blank in (
            subst (λ (z : ℕ × ℕ). IsLater z.0 z.1) (λ i. (sym (ap (λ (f : Name → ℕ). f x) same ∙ news.seen x fits) i, sym here i)) (r.sound.seen.first of x fits),
            subst (λ (z : ℕ × ℕ). IsLater z.0 z.1) (λ i. (sym here i, sym (ap (λ (f : Name → ℕ). f x) words) i)) (r.sound.seen.present of x unspent fits),
          ),
      omega arith,
      λ x fits. risen_else G (c.seen of) (c.seen n) x fits ∙ sym (ap (λ (f : Name → ℕ). f x) same),
    )

    -- the core after both moves, from the one after the split
    grown_by : (t : Shown) → t.life ≡ put c.life n Live → t.seen ≡ c.seen → t.looks ≡ c.looks → t.word ≡ c.word → ((e i : ℕ) → t.slot e i ≡ c.slot e i)
        → ((m : ℕ) → t.pending m ≡ c.pending m) → ((m : ℕ) → t.marks m ≡ c.marks m) → t.takes ≡ c.takes → Grown c (rises n w 0 t) n
    grown_by t life seen looks words slot pending marks takes = record {
      word = λ x. ap (λ (f : Name → ℕ). f x) words;
      slot = slot;
      life = λ m o. ap (λ (f : ℕ → Life). f m) life ∙ put_else c.life n Live m o;
      seen = λ m o x. sym (ap (λ (f : Name → ℕ). f x) (put_else t.seen n w m o) ∙ ap (λ (f : ℕ → Name → ℕ). f m x) seen);
      looks = λ m o x. sym (ap (λ (f : Name → ℕ). f x) (put_else t.looks n (put_word (Claim 0) (t.looks n (Claim 0) + 0) (t.looks n)) m o) ∙ ap (λ (f : ℕ → Name → ℕ). f m x) looks);
      pending = pending;
      marks = marks;
      takes = takes;
    }

    -- no look was made
    no_look : (t : Shown) → t.looks ≡ c.looks → (x : Name) → Fits G x → (rises n w 0 t).looks n x ≡ 0
    no_look t same x fits =
        let news = r.sound.news n blank in
        let old : (y : Name) → t.looks n y ≡ c.looks n y = λ y. ap (λ (f : ℕ → Name → ℕ). f n y) same in
        ap (λ (f : Name → ℕ). f x) (put_here t.looks n (put_word (Claim 0) (t.looks n (Claim 0) + 0) (t.looks n)))
        ∙ any_word (Claim 0) x (t.looks n (Claim 0) + 0) (t.looks n) (λ y v. Fits G y → v ≡ 0)
        (λ f. let e = old (Claim 0) in let z = news.looks (Claim 0) f in omega arith) (λ y f. old y ∙ news.looks y f) fits

    -- what it has seen is what its side has seen
    sees : (t : Shown) (x : Name) → Fits G x → (rises n w 0 t).seen n x ≡ c.seen of x
    sees t x fits = ap (λ (f : Name → ℕ). f x) (put_here t.seen n w) ∙ risen_here G (c.seen of) (c.seen n) x fits

  enters_blank : (c : Shown) (n : ℕ) → c.life n ≡ Blank → enters n c ≡ counted (n % 2 == 0) n c
  enters_blank c n blank = ap (λ (z : Life). entered z n c) blank

  -- the send side makes a marker
  pub marker_splits : CoreLaws G → (id : ℕ) (d : View) → d.standing ≡ Seated → d.number ≡ 0 → d.alone ≡ false
      → Splits (Holds may key) id d (with_marker d) (marker d)
  marker_splits L id d live zeroth company s h at =
      let r = of_running may key L s h id d at live in
      let a = r.seats id d at live in let by = a.markers_is zeroth in
      let n : ℕ = 2 + 2 * d.made in
      let even : n % 2 ≡ 0 = even_two d.made in
      let is_marker : IsMarker n = (omega arith, even) in
      let new : ¬ Given r.alone r.markers r.watchers n = λ g. ⊎_elim (λ (z : n ≡ 0). omega arith)
      (λ (y : ((n ≡ 1) × (r.alone ≡ false)) ⊎ (IsMarker n × (n < 2 + 2 * r.markers)) ⊎ (IsWatcher n × (n < 3 + 2 * r.watchers))). ⊎_elim (λ (z : (n ≡ 1) × (r.alone ≡ false)). omega arith)
      (λ (x : (IsMarker n × (n < 2 + 2 * r.markers)) ⊎ (IsWatcher n × (n < 3 + 2 * r.watchers))). ⊎_elim (λ (z : IsMarker n × (n < 2 + 2 * r.markers)). omega (arith, by.0)) (λ (z : IsWatcher n × (n < 3 + 2 * r.watchers)). let odd = z.0.1 in omega (arith, even)) x) y) g in
      let blank : r.core.life n ≡ Blank = r.new n new (λ e. omega arith) in
      let t : Shown = record r.core { life = put r.core.life n Live; send = marker_more r.core.send } in
      let split : after G r.core (Split n) ≡ t = enters_blank r.core n blank ∙ ap (λ (b : Bool). counted b n r.core) (eq-eqb (n % 2) 0 even) in
      let known : r.core.life 0 ≡ Live = r.sound.lives.send in
      let sound1 : Sound G t = subst (Sound G) split (L.kept r.core (Split n) r.sound (omega arith, blank)) in
      let born : t.life n ≡ Live = put_here r.core.life n Live in
      let rise = may_rise L s r n blank (omega arith) 0 known t born refl refl in
      let c' : Shown = rises n (w L s r n blank (omega arith) 0 known) 0 t in
      let sound2 : Sound G c' = L.kept t (Rise n (w L s r n blank (omega arith) 0 known) 0) sound1 rise in
      let grown : Grown r.core c' n = grown_by L s r n blank (omega arith) 0 known t refl refl refl refl (λ e i. refl) (λ m. refl) (λ m. refl) refl in
      let more : (m : ℕ) → Given r.alone r.markers r.watchers m → Given r.alone (r.markers + 1) r.watchers m = λ m g. ⊎_elim (λ z. inl z)
      (λ y. ⊎_elim (λ z. inr (inl z)) (λ x. ⊎_elim (λ (z : IsMarker m × (m < 2 + 2 * r.markers)). inr (inr (inl (z.0, omega arith)))) (λ z. inr (inr (inr z))) x) y) g in
      let given : Given r.alone (r.markers + 1) r.watchers n = inr (inr (inl (is_marker, let e = by.0 in omega arith))) in
      let size : ℕ = length (set s.views id (with_marker d)) in
      let other : d.number ≢ n = λ e. absurd (omega arith) in
      let alone' : r.alone ≡ false = sym by.1 ∙ company in
      let news = r.sound.news n blank in
      inl (adds s r id n d (with_marker d) (marker d) c' r.alone (r.markers + 1) r.watchers at live live refl refl refl sound2 grown born
      (λ no. absurd (no zeroth)) (λ _. (refl, refl)) new given more alone' (λ m one far. alone')
      (record {
        geometry = a.geometry;
        seat_is = put_else r.seat n size d.number other ∙ a.seat_is;
        given = more d.number a.given;
        live = grown.life d.number other ∙ a.live;
        seen_size = a.seen_size;
        looks_size = a.looks_size;
        seen_is = λ x fits. a.seen_is x fits ∙ grown.seen d.number other x;
        looks_is = λ x fits. a.looks_is x fits ∙ grown.looks d.number other x;
        pending_is = a.pending_is;
        marks_is = a.marks_is;
        send_is = λ z. ap marker_more (a.send_is z);
        markers_is = λ z. (ap (λ (m : ℕ). m + 1) by.0, by.1);
        recv_is = a.recv_is;
        takes_is = a.takes_is;
        watchers_is = λ z. absurd (omega arith);
      })
      (record {
        geometry = a.geometry;
        seat_is = put_here r.seat n size;
        given = given;
        live = born;
        seen_size = a.seen_size;
        looks_size = zeros_length (word_count d.geometry) ∙ ap word_count a.geometry;
        seen_is = λ x fits. a.seen_is x fits ∙ (ap (λ (z : ℕ). r.core.seen z x) zeroth ∙ sym (sees L s r n blank (omega arith) 0 known t x fits));
        looks_is = λ x fits. zeros (word_count d.geometry) (number G x) ∙ sym (no_look L s r n blank (omega arith) 0 known t refl x fits);
        pending_is = sym news.pending;
        marks_is = sym news.marks;
        send_is = λ z. absurd (omega arith);
        markers_is = λ z. absurd (omega arith);
        recv_is = λ z. absurd (omega arith);
        takes_is = λ z. absurd (omega arith);
        watchers_is = λ z. absurd (omega arith);
      }))

  -- the receive side makes a watcher
  pub watcher_splits : CoreLaws G → (id : ℕ) (d : View) → d.standing ≡ Seated → d.number ≡ 1
      → Splits (Holds may key) id d (with_watcher d) (watcher d)
  watcher_splits L id d live oneth s h at =
      let r = of_running may key L s h id d at live in
      let a = r.seats id d at live in let by = a.watchers_is oneth in
      let n : ℕ = 3 + 2 * d.made in
      let odd : n % 2 ≡ 1 = odd_three d.made in
      let is_watcher : IsWatcher n = (omega arith, odd) in
      let new : ¬ Given r.alone r.markers r.watchers n = λ g. ⊎_elim (λ (z : n ≡ 0). omega arith)
      (λ (y : ((n ≡ 1) × (r.alone ≡ false)) ⊎ (IsMarker n × (n < 2 + 2 * r.markers)) ⊎ (IsWatcher n × (n < 3 + 2 * r.watchers))). ⊎_elim (λ (z : (n ≡ 1) × (r.alone ≡ false)). omega arith)
      (λ (x : (IsMarker n × (n < 2 + 2 * r.markers)) ⊎ (IsWatcher n × (n < 3 + 2 * r.watchers))). ⊎_elim (λ (z : IsMarker n × (n < 2 + 2 * r.markers)). let even = z.0.1 in omega (arith, odd)) (λ (z : IsWatcher n × (n < 3 + 2 * r.watchers)). omega (arith, by)) x) y) g in
      let blank : r.core.life n ≡ Blank = r.new n new (λ e. omega arith) in
      let t : Shown = record r.core { life = put r.core.life n Live; recv = watcher_more r.core.recv } in
      let split : after G r.core (Split n) ≡ t = enters_blank r.core n blank ∙ ap (λ (b : Bool). counted b n r.core) (ne_eqb (n % 2) 0 (λ e. omega arith)) in
      let known : r.core.life 1 ≡ Live = r.sound.lives.recv in
      let sound1 : Sound G t = subst (Sound G) split (L.kept r.core (Split n) r.sound (omega arith, blank)) in
      let born : t.life n ≡ Live = put_here r.core.life n Live in
      let rise = may_rise L s r n blank (omega arith) 1 known t born refl refl in
      let c' : Shown = rises n (w L s r n blank (omega arith) 1 known) 0 t in
      let sound2 : Sound G c' = L.kept t (Rise n (w L s r n blank (omega arith) 1 known) 0) sound1 rise in
      let grown : Grown r.core c' n = grown_by L s r n blank (omega arith) 1 known t refl refl refl refl (λ e i. refl) (λ m. refl) (λ m. refl) refl in
      let more : (m : ℕ) → Given r.alone r.markers r.watchers m → Given r.alone r.markers (r.watchers + 1) m = λ m g. ⊎_elim (λ z. inl z)
      (λ y. ⊎_elim (λ z. inr (inl z)) (λ x. ⊎_elim (λ z. inr (inr (inl z))) (λ (z : IsWatcher m × (m < 3 + 2 * r.watchers)). inr (inr (inr (z.0, omega arith)))) x) y) g in
      let given : Given r.alone r.markers (r.watchers + 1) n = inr (inr (inr (is_watcher, let e = by in omega arith))) in
      let size : ℕ = length (set s.views id (with_watcher d)) in
      let other : d.number ≢ n = λ e. absurd (omega arith) in
      let alone' : r.alone ≡ false = beside r.alone r.markers r.watchers d.number oneth a.given in
      let news = r.sound.news n blank in
      inl (adds s r id n d (with_watcher d) (watcher d) c' r.alone r.markers (r.watchers + 1) at live live refl refl refl sound2 grown born
      (λ _. (refl, refl, refl)) (λ no. absurd (no oneth)) new given more alone' (λ m one far. alone')
      (record {
        geometry = a.geometry;
        seat_is = put_else r.seat n size d.number other ∙ a.seat_is;
        given = more d.number a.given;
        live = grown.life d.number other ∙ a.live;
        seen_size = a.seen_size;
        looks_size = a.looks_size;
        seen_is = λ x fits. a.seen_is x fits ∙ grown.seen d.number other x;
        looks_is = λ x fits. a.looks_is x fits ∙ grown.looks d.number other x;
        pending_is = a.pending_is;
        marks_is = a.marks_is;
        send_is = λ z. absurd (omega arith);
        markers_is = λ z. absurd (omega arith);
        recv_is = λ z. ap watcher_more (a.recv_is z);
        takes_is = a.takes_is;
        watchers_is = λ z. ap (λ (m : ℕ). m + 1) by;
      })
      (record {
        geometry = a.geometry;
        seat_is = put_here r.seat n size;
        given = given;
        live = born;
        seen_size = a.seen_size;
        looks_size = zeros_length (word_count d.geometry) ∙ ap word_count a.geometry;
        seen_is = λ x fits. a.seen_is x fits ∙ (ap (λ (z : ℕ). r.core.seen z x) oneth ∙ sym (sees L s r n blank (omega arith) 1 known t x fits));
        looks_is = λ x fits. zeros (word_count d.geometry) (number G x) ∙ sym (no_look L s r n blank (omega arith) 1 known t refl x fits);
        pending_is = sym news.pending;
        marks_is = sym news.marks;
        send_is = λ z. absurd (omega arith);
        markers_is = λ z. absurd (omega arith);
        recv_is = λ z. absurd (omega arith);
        takes_is = λ z. absurd (omega arith);
        watchers_is = λ z. absurd (omega arith);
      }))

  -- what a seat has seen was so
  pub tells : (s : At) (r : Rule may key s) (id : ℕ) (d : View) → get_elem? s.views id ≡ some d → d.standing ≡ Seated → Tells G r.core d
  tells s r id d at live = let a = r.seats id d at live in
      let unspent : r.core.life d.number ≢ Spent = λ gone. let alive = a.live in absurd (cc) in
      record {
        geometry = a.geometry;
        seen_size = a.seen_size;
        seen_is = λ x fits. subst (λ (z : ℕ). IsLater z (r.core.word x)) (sym (a.seen_is x fits)) (r.sound.seen.present d.number x unspent fits);
      }

  -- a seat makes a note
  pub note_splits : CoreLaws G → (id : ℕ) (d : View) → d.standing ≡ Seated → Splits (Holds may key) id d d (note d)
  note_splits L id d live s h at =
      let r = of_running may key L s h id d at live in
      let e : View = note d in
      let t : Tells G r.core d = tells s r id d at live in
      let views' : List View = set s.views id d in
      let split : (i : ℕ) (f : View) → get_elem? (views' ++ e ∷ []) i ≡ some f → (get_elem? s.views i ≡ some f) ⊎ (e ≡ f) = λ i f is. ⊎_elim
      (λ (u : get_elem? views' i ≡ some f). ⊎_elim
      (λ (v : (i ≡ id) × (d ≡ f)). inl (ap (get_elem? s.views) v.0 ∙ (at ∙ ap (λ (z : View). some z) v.1)))
      (λ (v : (i ≢ id) × (get_elem? s.views i ≡ some f)). inl v.1)
      (at_set s.views id i d f u))
      (λ (u : (i ≡ length views') × (e ≡ f)). inr u.1)
      (at_end views' e f i is) in
      inl (record {
        core = r.core;
        seat = r.seat;
        alone = r.alone;
        markers = r.markers;
        watchers = r.watchers;
        bytes = r.bytes;
        shape = r.shape;
        sound = r.sound;
        size = r.size;
        room = r.room;
        words = r.words;
        slots = r.slots;
        kept = r.kept;
        seats = λ i f is alive. ⊎_elim (λ u. r.seats i f u alive) (λ (u : e ≡ f). let no : e.standing ≡ Seated = ap (λ (z : View). z.standing) u ∙ alive in absurd (cc)) (split i f is);
        notes = λ i f is said. ⊎_elim (λ u. r.notes i f u said)
            (λ (u : e ≡ f). subst (Tells G r.core) u (record { geometry = t.geometry; seen_size = t.seen_size; seen_is = t.seen_is })) (split i f is);
        running = λ i f is closed. ⊎_elim (λ u. r.running i f u closed) (λ (u : e ≡ f). let no : e.standing ≡ Closed = ap (λ (z : View). z.standing) u ∙ closed in absurd (cc)) (split i f is);
        first = r.first;
        unwatched = r.unwatched;
        new = r.new;
        here = λ m alive reached. let b = r.here m alive reached in (
          b.0,
          at_front views' e b.0 (r.seat m) (dite (ℕ_discrete (r.seat m) id)
              (λ is. let at' : get_elem? s.views id ≡ some b.0 = ap (get_elem? s.views) (sym is) ∙ b.1 in
              let eq : d ≡ b.0 = some-injective d b.0 (sym at ∙ at') in
              ap (get_elem? views') is ∙ (set_here s.views id d (at_split s.views id d at).0 ∙ ap (λ (z : View). some z) eq))
              (λ far. set_else s.views id (r.seat m) d far ∙ b.1)),
          b.2,
          b.3,
        );
        marks = r.marks;
        takes = r.takes;
      })
