-- A seat is joined into its side: the side's view rises to what both have seen, and the core's join gives it the other's marks.
use Rattle.std.proofs.Common.{◌≡◌, ◌≢◌, ◌⊎◌, inl, inr, ⊎_elim, ℕ, ◌+◌, ◌%◌, ◌<◌, ◌≤◌, Bool, true, false, List, [], ◌++◌, length, get_or, set, Contains, Option, Some, None, refl, sym, ap, ◌∙◌, subst, arith}
use Rattle.std.specs.Prelude.{if◌then◌else◌}
use Rattle.std.proofs.lemmas.Bool.{eq-eqb, ne_eqb}
use Rattle.std.proofs.lemmas.List.FromFn.{length-map-range_with_len, get_or-map-range_with_len}
use mathlib.Core.Logic.{dite}
use mathlib.Core.Option.{some, some-injective}
use native.Mathlib.Decide.{ℕ_discrete}
use lib.ListN.{get_elem?}
use Rattle.gate_word.specs.Order.{IsLater, join_of, IsJoin}
use Rattle.gate_word.specs.Words.{round_in}
use Rattle.atomic_table.specs.Table.{Joins}
use Rattle.atomic_table.proofs.Lists.{at_set, set_here, set_else}
use Rattle.part_geometry.specs.Shape.{Shape}
use Rattle.part_geometry.specs.Pieces.{piece_of}
use Rattle.part_tables.specs.Bytes.{cell_bytes}
use Rattle.pair_core.specs.Names.{Name, Claim, Return, Piece, Fits, number, put, put_word}
use Rattle.pair_core.specs.Core.{IsMarker, IsWatcher}
use Rattle.pair_core.specs.Steps.{rises, marker_less, watcher_less}
use Rattle.pair_core.specs.Moves.{Rise, Join, joined, first_word}
use Rattle.pair_core.specs.Sound.{HasRound, Sound}
use Rattle.pair_core.specs.State.{word_count}
use Rattle.pair_core.specs.declared.view.Mark.{Mark}
use Rattle.pair_core.specs.declared.view.Pending.{Pending}
use Rattle.pair_core.specs.declared.view.Life.TheVariants.{Live, Spent}
use Rattle.pair_core.proofs.Facts.{put_here, put_else, any_word, number_lt, later_refl}
use Rattle.slot_rows.proofs.Lists.{at_split}
use Rattle.pair_rule.specs.Rule.{At, Shown, slot_number, Stands, Given, Agrees, Rule, Holds}
use Rattle.pair_rule.specs.First.{spent, with_marker_back, with_watcher_back}
use Rattle.pair_rule.specs.Views.{is_own, told_word}
use Rattle.pair_rule.specs.Views as view
use Rattle.pair_rule.specs.declared.view.View.{View}
use Rattle.pair_rule.specs.declared.view.Standing.TheVariants as stand
use Rattle.pair_rule.specs.declared.rule.Key.{Key}
use Rattle.pair_rule.proofs.Core.{CoreLaws}
use Rattle.pair_rule.proofs.Bridge.{one_not_alone}
use Rattle.pair_rule.proofs.Splitting.{risen, risen_here, risen_else, beside}
use Rattle.pair_rule.proofs.Marks.{in_both, in_none}
use Rattle.pair_rule.proofs.SideSteps.{of_running}

-- the seat n is gone from the core, and of the others the seat `of` has another view
pub record Gone (c c' : Shown) (of n : ℕ) : Type 0 where
  pub word : (x : Name) → c'.word x ≡ c.word x
  pub slot : (e i : ℕ) → c'.slot e i ≡ c.slot e i
  pub life_gone : c'.life n ≡ Spent
  pub life : (m : ℕ) → m ≢ n → c'.life m ≡ c.life m
  pub seen : (m : ℕ) → m ≢ n → m ≢ of → (x : Name) → c.seen m x ≡ c'.seen m x
  pub looks : (m : ℕ) → m ≢ n → m ≢ of → (x : Name) → c.looks m x ≡ c'.looks m x
  pub pending : (m : ℕ) → c'.pending m ≡ c.pending m
  pub marks : (m : ℕ) → m ≢ n → m ≢ of → c'.marks m ≡ c.marks m
  pub marked : (m : ℕ) (k : Mark (List ℕ)) → Contains (c'.marks m) k → (j : ℕ) × Contains (c.marks j) k
  pub takes : c'.takes ≡ c.takes

module _ {T : Type 0} (may : T → ℕ → ℕ → ℕ → Type 0) (key : Key T) where
  abbrev G : Shape
  G = key.geometry

  -- the table after the view at `other` was joined into that at id
  takes_in : (s : At) (r : Rule may key s) (id other n : ℕ) (d both e : View) (c' : Shown)
      → get_elem? s.views id ≡ some d → d.standing ≡ stand.Seated → both.standing ≡ stand.Seated → both.number ≡ d.number
      → other ≢ id → get_elem? s.views other ≡ some e → e.standing ≡ stand.Seated → e.number ≡ n
      → Sound G c' → Gone r.core c' d.number n
      → (d.number ≢ 0 → r.core.send ≡ c'.send) → (d.number ≢ 1 → r.core.recv ≡ c'.recv) → r.alone ≡ false
      → Agrees G c' r.alone r.markers r.watchers r.seat id both
      → Rule may key record { words = s.words; homes = s.homes; views = set (set s.views id both) other spent }
  takes_in s r id other n d both e c' at live live' same far there live'' numbered sound gone send recv company mine =
      let a = r.seats id d at live in
      let b = r.seats other e there live'' in
      let at_other : r.seat n ≡ other = ap r.seat (sym numbered) ∙ b.seat_is in
      let keep : (i : ℕ) (f : View) → Agrees G r.core r.alone r.markers r.watchers r.seat i f → f.number ≢ d.number → f.number ≢ n → Agrees G c' r.alone r.markers r.watchers r.seat i f = λ i f k o m.
      record {
        geometry = k.geometry;
        seat_is = k.seat_is;
        given = k.given;
        live = gone.life f.number m ∙ k.live;
        seen_size = k.seen_size;
        looks_size = k.looks_size;
        seen_is = λ x fits. k.seen_is x fits ∙ gone.seen f.number m o x;
        looks_is = λ x fits. k.looks_is x fits ∙ gone.looks f.number m o x;
        pending_is = k.pending_is ∙ sym (gone.pending f.number);
        marks_is = k.marks_is ∙ sym (gone.marks f.number m o);
        send_is = λ z. k.send_is z ∙ send (λ w. o (z ∙ sym w));
        markers_is = k.markers_is;
        recv_is = λ z. k.recv_is z ∙ recv (λ w. o (z ∙ sym w));
        takes_is = λ z. k.takes_is z ∙ sym gone.takes;
        watchers_is = k.watchers_is;
      } in
      let same_words : c'.word ≡ r.core.word = λ j x. gone.word x j in
      let views' : List View = set s.views id both in
      let which : (i : ℕ) (f : View) → get_elem? (set views' other spent) i ≡ some f → (spent ≡ f) ⊎ ((i ≡ id) × (both ≡ f)) ⊎ ((i ≢ id) × (i ≢ other) × (get_elem? s.views i ≡ some f)) = λ i f is. ⊎_elim
      (λ (u : (i ≡ other) × (spent ≡ f)). inl u.1)
      (λ (u : (i ≢ other) × (get_elem? views' i ≡ some f)). ⊎_elim (λ (v : (i ≡ id) × (both ≡ f)). inr (inl v)) (λ (v : (i ≢ id) × (get_elem? s.views i ≡ some f)). inr (inr (v.0, u.0, v.1))) (at_set s.views id i both f u.1))
      (at_set views' other i spent f is) in
      record {
        core = c';
        seat = r.seat;
        alone = r.alone;
        markers = r.markers;
        watchers = r.watchers;
        bytes = r.bytes;
        shape = r.shape;
        sound = sound;
        size = r.size;
        room = r.room;
        words = λ x fits. r.words x fits ∙ sym (gone.word x);
        slots = λ f i deep inside. subst (Stands G i (get_elem? s.homes (slot_number G f i))) (sym (gone.slot f i)) (r.slots f i deep inside);
        kept = λ f i b deep inside home. subst (λ (w : Name → ℕ). HasRound G (λ t. w (Return t)) (w (Piece f (piece_of G i))) i → 1 ≤ round_in (w (Piece f (piece_of G i)))
            → b.bytes ≡ cell_bytes G (r.bytes (round_in (w (Piece f (piece_of G i))))) i) (sym same_words) (r.kept f i b deep inside home);
        seats = λ i f is alive. ⊎_elim
            (λ (u : spent ≡ f). let no : spent.standing ≡ stand.Seated = ap (λ (z : View). z.standing) u ∙ alive in absurd (cc))
            (λ (y : ((i ≡ id) × (both ≡ f)) ⊎ ((i ≢ id) × (i ≢ other) × (get_elem? s.views i ≡ some f))). ⊎_elim
            (λ (u : (i ≡ id) × (both ≡ f)). subst (λ (z : ℕ × View). Agrees G c' r.alone r.markers r.watchers r.seat z.0 z.1) (λ j. (sym u.0 j, u.1 j)) mine)
            (λ (u : (i ≢ id) × (i ≢ other) × (get_elem? s.views i ≡ some f)). let k = r.seats i f u.2 alive in
            keep i f k (λ z. u.0 (sym k.seat_is ∙ (ap r.seat z ∙ a.seat_is))) (λ z. u.1 (sym k.seat_is ∙ (ap r.seat z ∙ at_other)))) y)
            (which i f is);
        notes = λ i f is told. ⊎_elim
            (λ (u : spent ≡ f). let no : spent.standing ≡ stand.Told = ap (λ (z : View). z.standing) u ∙ told in absurd (cc))
            (λ (y : ((i ≡ id) × (both ≡ f)) ⊎ ((i ≢ id) × (i ≢ other) × (get_elem? s.views i ≡ some f))). ⊎_elim
            (λ (u : (i ≡ id) × (both ≡ f)). let no : both.standing ≡ stand.Told = ap (λ (z : View). z.standing) u.1 ∙ told in absurd (cc))
            (λ (u : (i ≢ id) × (i ≢ other) × (get_elem? s.views i ≡ some f)). let k = r.notes i f u.2 told in
            record { geometry = k.geometry; seen_size = k.seen_size; seen_is = λ x fits. subst (IsLater (get_or f.seen (number G x) 0)) (sym (gone.word x)) (k.seen_is x fits) }) y)
            (which i f is);
        running = λ i f is closed. ⊎_elim
            (λ (u : spent ≡ f). let no : spent.standing ≡ stand.Closed = ap (λ (z : View). z.standing) u ∙ closed in absurd (cc))
            (λ (y : ((i ≡ id) × (both ≡ f)) ⊎ ((i ≢ id) × (i ≢ other) × (get_elem? s.views i ≡ some f))). ⊎_elim
            (λ (u : (i ≡ id) × (both ≡ f)). let no : both.standing ≡ stand.Closed = ap (λ (z : View). z.standing) u.1 ∙ closed in absurd (cc))
            (λ (u : (i ≢ id) × (i ≢ other) × (get_elem? s.views i ≡ some f)). r.running i f u.2 closed) y)
            (which i f is);
        first = λ is. absurd (cc);
        unwatched = λ is. absurd (cc);
        new = λ m not one. let o : m ≢ n = λ is. not (subst (Given r.alone r.markers r.watchers) (numbered ∙ sym is) b.given) in gone.life m o ∙ r.new m not one;
        here = λ m alive reached.
            let o : m ≢ n = λ is. let w = gone.life_gone in let w' : c'.life n ≡ Live = ap c'.life (sym is) ∙ alive in absurd (cc) in
            let h = r.here m (sym (gone.life m o) ∙ alive) reached in
            let away : r.seat m ≢ other = λ is.
            let at' : get_elem? s.views other ≡ some h.0 = ap (get_elem? s.views) (sym is) ∙ h.1 in
            let eq : e ≡ h.0 = some-injective e h.0 (sym there ∙ at') in
            o (sym h.3 ∙ (ap (λ (z : View). z.number) (sym eq) ∙ numbered)) in
            dite (ℕ_discrete (r.seat m) id)
            (λ is. let at' : get_elem? s.views id ≡ some h.0 = ap (get_elem? s.views) (sym is) ∙ h.1 in
            let eq : d ≡ h.0 = some-injective d h.0 (sym at ∙ at') in (
              both,
              ap (get_elem? (set views' other spent)) is ∙ (set_else views' other id spent (λ z. far (sym z)) ∙ set_here s.views id both (at_split s.views id d at).0),
              live',
              same ∙ (ap (λ (z : View). z.number) eq ∙ h.3),
            ))
            (λ apart. (h.0, set_else views' other (r.seat m) spent away ∙ (set_else s.views id (r.seat m) both apart ∙ h.1), h.2, h.3));
        marks = λ m k h. let j = gone.marked m k h in r.marks j.0 k j.1;
        takes = λ k h. r.takes k (subst (λ (z : List (Mark (List ℕ))). Contains z k) gone.takes h);
      }

  -- the seat `of` is told of words between what it has seen and what is
  module _ (L : CoreLaws G) (c : Shown) (sound : Sound G c) (of : ℕ) (alive : c.life of ≡ Live) (f : Name → ℕ)
      (between : (x : Name) → Fits G x → IsLater (c.seen of x) (f x) × IsLater (f x) (c.word x)) where
    abbrev w : Name → ℕ
    w = risen G f (c.seen of)

    abbrev pub told : Shown
    told = rises of w 0 c

    -- the core after that is sound
    pub told_sound : Sound G told
    told_sound = L.kept c (Rise of w 0) sound (
      alive,
      λ x fits. let here : f x ≡ w x = sym (risen_here G f (c.seen of) x fits) in
          subst (λ (z : ℕ). IsLater (c.seen of x) z × IsLater z (c.word x)) here (between x fits),
      omega arith,
      λ x fits. risen_else G f (c.seen of) x fits,
    )

    -- the seat has then seen what it was told
    pub told_sees : (x : Name) → Fits G x → told.seen of x ≡ f x
    told_sees x fits = ap (λ (g : Name → ℕ). g x) (put_here c.seen of w) ∙ risen_here G f (c.seen of) x fits

    -- and others what they had seen
    pub told_seen_else : (m : ℕ) → m ≢ of → (x : Name) → told.seen m x ≡ c.seen m x
    told_seen_else m o x = ap (λ (g : Name → ℕ). g x) (put_else c.seen of w m o)

    -- no look was made
    pub told_looks : (m : ℕ) (x : Name) → told.looks m x ≡ c.looks m x
    told_looks m x = dite (ℕ_discrete m of)
        (λ is. ap (λ (z : ℕ). told.looks z x) is ∙ (ap (λ (g : Name → ℕ). g x) (put_here c.looks of (put_word (Claim 0) (c.looks of (Claim 0) + 0) (c.looks of)))
        ∙ (any_word (Claim 0) x (c.looks of (Claim 0) + 0) (c.looks of) (λ y v. v ≡ c.looks of y) (omega arith) (λ y. refl) ∙ ap (λ (z : ℕ). c.looks z x) (sym is))))
        (λ o. ap (λ (g : Name → ℕ). g x) (put_else c.looks of (put_word (Claim 0) (c.looks of (Claim 0) + 0) (c.looks of)) m o))

  -- the words that a view has seen once it is told what another has seen
  module _ (law : IsJoin) (s : At) (r : Rule may key s) (id : ℕ) (d e : View) (a : Agrees G r.core r.alone r.markers r.watchers r.seat id d)
      (below : (x : Name) → Fits G x → IsLater (get_or e.seen (number G x) 0) (r.core.word x)) where
    -- the words that the view has seen then, by name
    pub heard : Name → ℕ
    heard x = told_word d e (number G x)

    either : Bool → ℕ → ℕ → ℕ
    either b v u = if b then v else join_of v u

    either_between : (b : Bool) (v u top : ℕ) → IsLater v top → IsLater u top → IsLater v (either b v u) × IsLater (either b v u) top
    unfolding either
    either_between true v u top low high = (later_refl v, low)
    either_between false v u top low high = let least = law.least v u in (least.first, least.least top low high)

    -- each lies between what it had seen and what is
    pub heard_between : (x : Name) → Fits G x → IsLater (r.core.seen d.number x) (heard x) × IsLater (heard x) (r.core.word x)
    unfolding heard either
    heard_between x fits =
        let unspent : r.core.life d.number ≢ Spent = λ gone. let alive = a.live in absurd (cc) in
        let is : get_or d.seen (number G x) 0 ≡ r.core.seen d.number x = a.seen_is x fits in
        let top : IsLater (get_or d.seen (number G x) 0) (r.core.word x) = subst (λ (z : ℕ). IsLater z (r.core.word x)) (sym is) (r.sound.seen.present d.number x unspent fits) in
        let both = either_between (is_own d (number G x)) (get_or d.seen (number G x) 0) (get_or e.seen (number G x) 0) (r.core.word x) top (below x fits) in
        (subst (λ (z : ℕ). IsLater z (heard x)) is both.0, both.1)

    -- they stand in its list
    pub heard_at : (x : Name) → Fits G x → get_or (view.told d e).seen (number G x) 0 ≡ heard x
    unfolding heard
    heard_at x fits = get_or-map-range_with_len (told_word d e) 0 (word_count d.geometry) (number G x) (number G x) 0
        (subst (λ (z : Shape). number G x < word_count z) (sym a.geometry) (number_lt G x fits)) (let e : 0 + number G x ≡ number G x = omega arith in e)

    -- which has its length
    pub heard_size : length (view.told d e).seen ≡ word_count G
    heard_size = length-map-range_with_len (told_word d e) 0 (word_count d.geometry) ∙ ap word_count a.geometry

  -- a watcher has no claim
  no_claim : CoreLaws G → (c : Shown) → Sound G c → (n : ℕ) → IsWatcher n → (o : Option Pending) → c.pending n ≡ o → c.pending n ≡ None
  no_claim L c sound n watcher None e = e
  no_claim L c sound n watcher (Some x) e = let f = L.facts in let p = f.pending_is c n x sound e in let even = p.3.1 in let odd = watcher.1 in absurd (omega arith)

  no_pending : CoreLaws G → (c : Shown) → Sound G c → (n : ℕ) → IsWatcher n → c.pending n ≡ None
  no_pending L c sound n watcher = no_claim L c sound n watcher (c.pending n) refl

  -- a marker is joined into the send side
  pub marker_joins : CoreLaws G → IsJoin → (id : ℕ) (d : View) (other : ℕ) (e : View) → d.standing ≡ stand.Seated → d.number ≡ 0 → d.alone ≡ false
      → e.standing ≡ stand.Seated → IsMarker e.number → e.pending ≡ None
      → Joins (Holds may key) id d other e (with_marker_back d e) spent
  marker_joins L law id d other e live zeroth company live' marker none s h at far there =
      let r = of_running may key L s h id d at live in
      let there' : get_elem? s.views other ≡ some e = sym (set_else s.views id other (with_marker_back d e) far) ∙ there in
      let a = r.seats id d at live in let b = r.seats other e there' live' in
      let n : ℕ = e.number in
      let alive : r.core.life 0 ≡ Live = r.sound.lives.send in
      let below : (x : Name) → Fits G x → IsLater (get_or e.seen (number G x) 0) (r.core.word x) = λ x fits.
      subst (λ (z : ℕ). IsLater z (r.core.word x)) (sym (b.seen_is x fits)) (r.sound.seen.present n x (λ z. let l = b.live in absurd (cc)) fits) in
      let f : Name → ℕ = heard law s r id d e a below in
      let between : (x : Name) → Fits G x → IsLater (r.core.seen 0 x) (f x) × IsLater (f x) (r.core.word x) = λ x fits.
      subst (λ (z : ℕ). IsLater (r.core.seen z x) (f x) × IsLater (f x) (r.core.word x)) zeroth (heard_between law s r id d e a below x fits) in
      let t : Shown = told L r.core r.sound 0 alive f between in
      let sound1 = told_sound L r.core r.sound 0 alive f between in
      let c' : Shown = joined true G n t in
      let sound2 : Sound G c' = subst (λ (z : Bool). Sound G (joined z G n t)) (eq-eqb (n % 2) 0 marker.1) (L.kept t (Join n) sound1 (marker.0, b.live, sym b.pending_is ∙ none)) in
      let low : 2 ≤ n = marker.0 in
      let n0 : n ≢ 0 = λ z. absurd (omega arith) in let o0 : 0 ≢ n = λ z. absurd (omega arith) in
      let all : List (Mark (List ℕ)) = r.core.marks n ++ r.core.marks 0 in
      let marks_of : c'.marks 0 ≡ all = put_else (put t.marks 0 (t.marks n ++ t.marks 0)) n [] 0 o0 ∙ put_here t.marks 0 (t.marks n ++ t.marks 0) in
      let company' : r.alone ≡ false = sym (a.markers_is zeroth).1 ∙ company in
      let gone : Gone r.core c' d.number n = record {
        word = λ x. refl;
        slot = λ f i. refl;
        life_gone = put_here t.life n Spent;
        life = λ m o. put_else t.life n Spent m o;
        seen = λ m o p x. let p' : m ≢ 0 = λ z. p (z ∙ sym zeroth) in sym (ap (λ (f : Name → ℕ). f x) (put_else t.seen n (first_word G) m o) ∙ told_seen_else L r.core r.sound 0 alive f between m p' x);
        looks = λ m o p x. sym (ap (λ (f : Name → ℕ). f x) (put_else t.looks n (λ y. 0) m o) ∙ told_looks L r.core r.sound 0 alive f between m x);
        pending = λ m. refl;
        marks = λ m o p. let p' : m ≢ 0 = λ z. p (z ∙ sym zeroth) in put_else (put t.marks 0 (t.marks n ++ t.marks 0)) n [] m o ∙ put_else t.marks 0 (t.marks n ++ t.marks 0) m p';
        marked = λ m k held. dite (ℕ_discrete m n)
            (λ is. absurd (in_none k (subst (λ (z : List (Mark (List ℕ))). Contains z k) (ap c'.marks is ∙ put_here (put t.marks 0 (t.marks n ++ t.marks 0)) n []) held)))
            (λ o. dite (ℕ_discrete m 0)
            (λ is. let both : Contains all k = subst (λ (z : List (Mark (List ℕ))). Contains z k) (ap c'.marks is ∙ marks_of) held in
            ⊎_elim (λ x. (n, x)) (λ y. (0, y)) (in_both (r.core.marks n) (r.core.marks 0) k both))
            (λ p. (m, subst (λ (z : List (Mark (List ℕ))). Contains z k) (put_else (put t.marks 0 (t.marks n ++ t.marks 0)) n [] m o ∙ put_else t.marks 0 (t.marks n ++ t.marks 0) m p) held)));
        takes = refl;
      } in
      inl (takes_in s r id other n d (with_marker_back d e) e c' at live live refl far there' live' refl sound2 gone
      (λ no. absurd (no zeroth)) (λ _. refl) company'
      (record {
        geometry = a.geometry;
        seat_is = a.seat_is;
        given = a.given;
        live = put_else t.life n Spent d.number (λ z. absurd (omega arith)) ∙ a.live;
        seen_size = heard_size law s r id d e a below;
        looks_size = a.looks_size;
        seen_is = λ x fits. heard_at law s r id d e a below x fits
            ∙ sym (ap (λ (z : ℕ). c'.seen z x) zeroth ∙ (ap (λ (g : Name → ℕ). g x) (put_else t.seen n (first_word G) 0 o0) ∙ told_sees L r.core r.sound 0 alive f between x fits));
        looks_is = λ x fits. a.looks_is x fits ∙ (ap (λ (z : ℕ). r.core.looks z x) zeroth
            ∙ sym (ap (λ (z : ℕ). c'.looks z x) zeroth ∙ (ap (λ (f : Name → ℕ). f x) (put_else t.looks n (λ y. 0) 0 o0) ∙ told_looks L r.core r.sound 0 alive f between 0 x)));
        pending_is = a.pending_is;
        marks_is = λ i. (ap (λ (z : List (Mark (List ℕ))). z ++ d.marks) b.marks_is ∙ (ap (λ (z : List (Mark (List ℕ))). r.core.marks n ++ z) (a.marks_is ∙ ap r.core.marks zeroth) ∙ sym (ap c'.marks zeroth ∙ marks_of))) i;
        send_is = λ z. ap marker_less (a.send_is z);
        markers_is = a.markers_is;
        recv_is = a.recv_is;
        takes_is = a.takes_is;
        watchers_is = a.watchers_is;
      }))

  -- a watcher is joined into the receive side
  pub watcher_joins : CoreLaws G → IsJoin → (id : ℕ) (d : View) (other : ℕ) (e : View) → d.standing ≡ stand.Seated → d.number ≡ 1
      → e.standing ≡ stand.Seated → IsWatcher e.number
      → Joins (Holds may key) id d other e (with_watcher_back d e) spent
  watcher_joins L law id d other e live oneth live' watcher s h at far there =
      let r = of_running may key L s h id d at live in
      let there' : get_elem? s.views other ≡ some e = sym (set_else s.views id other (with_watcher_back d e) far) ∙ there in
      let a = r.seats id d at live in let b = r.seats other e there' live' in
      let n : ℕ = e.number in
      let alive : r.core.life 1 ≡ Live = r.sound.lives.recv in
      let below : (x : Name) → Fits G x → IsLater (get_or e.seen (number G x) 0) (r.core.word x) = λ x fits.
      subst (λ (z : ℕ). IsLater z (r.core.word x)) (sym (b.seen_is x fits)) (r.sound.seen.present n x (λ z. let l = b.live in absurd (cc)) fits) in
      let f : Name → ℕ = heard law s r id d e a below in
      let between : (x : Name) → Fits G x → IsLater (r.core.seen 1 x) (f x) × IsLater (f x) (r.core.word x) = λ x fits.
      subst (λ (z : ℕ). IsLater (r.core.seen z x) (f x) × IsLater (f x) (r.core.word x)) oneth (heard_between law s r id d e a below x fits) in
      let t : Shown = told L r.core r.sound 1 alive f between in
      let sound1 = told_sound L r.core r.sound 1 alive f between in
      let c' : Shown = joined false G n t in
      let odd = watcher.1 in
      let sound2 : Sound G c' = subst (λ (z : Bool). Sound G (joined z G n t)) (ne_eqb (n % 2) 0 (λ z. omega arith)) (L.kept t (Join n) sound1 (watcher.0, b.live, no_pending L r.core r.sound n watcher)) in
      let low : 2 ≤ n = watcher.0 in
      let o1 : 1 ≢ n = λ z. absurd (omega arith) in
      let company' : r.alone ≡ false = beside r.alone r.markers r.watchers d.number oneth a.given in
      let gone : Gone r.core c' d.number n = record {
        word = λ x. refl;
        slot = λ f i. refl;
        life_gone = put_here t.life n Spent;
        life = λ m o. put_else t.life n Spent m o;
        seen = λ m o p x. let p' : m ≢ 1 = λ z. p (z ∙ sym oneth) in sym (ap (λ (f : Name → ℕ). f x) (put_else t.seen n (first_word G) m o) ∙ told_seen_else L r.core r.sound 1 alive f between m p' x);
        looks = λ m o p x. sym (ap (λ (f : Name → ℕ). f x) (put_else t.looks n (λ y. 0) m o) ∙ told_looks L r.core r.sound 1 alive f between m x);
        pending = λ m. refl;
        marks = λ m o p. refl;
        marked = λ m k held. (m, held);
        takes = refl;
      } in
      inl (takes_in s r id other n d (with_watcher_back d e) e c' at live live refl far there' live' refl sound2 gone
      (λ _. refl) (λ no. absurd (no oneth)) company'
      (record {
        geometry = a.geometry;
        seat_is = a.seat_is;
        given = a.given;
        live = put_else t.life n Spent d.number (λ z. absurd (omega arith)) ∙ a.live;
        seen_size = heard_size law s r id d e a below;
        looks_size = a.looks_size;
        seen_is = λ x fits. heard_at law s r id d e a below x fits
            ∙ sym (ap (λ (z : ℕ). c'.seen z x) oneth ∙ (ap (λ (g : Name → ℕ). g x) (put_else t.seen n (first_word G) 1 o1) ∙ told_sees L r.core r.sound 1 alive f between x fits));
        looks_is = λ x fits. a.looks_is x fits ∙ (ap (λ (z : ℕ). r.core.looks z x) oneth
            ∙ sym (ap (λ (z : ℕ). c'.looks z x) oneth ∙ (ap (λ (f : Name → ℕ). f x) (put_else t.looks n (λ y. 0) 1 o1) ∙ told_looks L r.core r.sound 1 alive f between 1 x)));
        pending_is = a.pending_is;
        marks_is = a.marks_is;
        send_is = λ z. absurd (omega arith);
        markers_is = λ z. absurd (omega arith);
        recv_is = λ z. ap watcher_less (a.recv_is z);
        takes_is = a.takes_is;
        watchers_is = a.watchers_is;
      }))

  -- a note is told to a seat
  pub hears : CoreLaws G → IsJoin → (id : ℕ) (d : View) (other : ℕ) (e : View) → d.standing ≡ stand.Seated → e.standing ≡ stand.Told
      → Joins (Holds may key) id d other e (view.told d e) spent
  hears L law id d other e live said s h at far there =
      let r = of_running may key L s h id d at live in
      let there' : get_elem? s.views other ≡ some e = sym (set_else s.views id other (view.told d e) far) ∙ there in
      let a = r.seats id d at live in let b = r.notes other e there' said in
      let of : ℕ = d.number in
      let f : Name → ℕ = heard law s r id d e a b.seen_is in
      let between = heard_between law s r id d e a b.seen_is in
      let c' : Shown = told L r.core r.sound of a.live f between in
      let both' : View = view.told d e in
      let seen' : (m : ℕ) → m ≢ of → (x : Name) → c'.seen m x ≡ r.core.seen m x = told_seen_else L r.core r.sound of a.live f between in
      let looks' : (m : ℕ) (x : Name) → c'.looks m x ≡ r.core.looks m x = told_looks L r.core r.sound of a.live f between in
      let keep : (i : ℕ) (f : View) → Agrees G r.core r.alone r.markers r.watchers r.seat i f → f.number ≢ of → Agrees G c' r.alone r.markers r.watchers r.seat i f = λ i f k o.
      record {
        geometry = k.geometry;
        seat_is = k.seat_is;
        given = k.given;
        live = k.live;
        seen_size = k.seen_size;
        looks_size = k.looks_size;
        seen_is = λ x fits. k.seen_is x fits ∙ sym (seen' f.number o x);
        looks_is = λ x fits. k.looks_is x fits ∙ sym (looks' f.number x);
        pending_is = k.pending_is;
        marks_is = k.marks_is;
        send_is = k.send_is;
        markers_is = k.markers_is;
        recv_is = k.recv_is;
        takes_is = k.takes_is;
        watchers_is = k.watchers_is;
      } in
      let mine : Agrees G c' r.alone r.markers r.watchers r.seat id both' = record {
        geometry = a.geometry;
        seat_is = a.seat_is;
        given = a.given;
        live = a.live;
        seen_size = heard_size law s r id d e a b.seen_is;
        looks_size = a.looks_size;
        seen_is = λ x fits. heard_at law s r id d e a b.seen_is x fits ∙ sym (told_sees L r.core r.sound of a.live f between x fits);
        looks_is = λ x fits. a.looks_is x fits ∙ sym (looks' of x);
        pending_is = a.pending_is;
        marks_is = a.marks_is;
        send_is = a.send_is;
        markers_is = a.markers_is;
        recv_is = a.recv_is;
        takes_is = a.takes_is;
        watchers_is = a.watchers_is;
      } in
      let views' : List View = set s.views id both' in
      let which : (i : ℕ) (f : View) → get_elem? (set views' other spent) i ≡ some f → (spent ≡ f) ⊎ ((i ≡ id) × (both' ≡ f)) ⊎ ((i ≢ id) × (get_elem? s.views i ≡ some f)) = λ i f is. ⊎_elim
      (λ (u : (i ≡ other) × (spent ≡ f)). inl u.1)
      (λ (u : (i ≢ other) × (get_elem? views' i ≡ some f)). inr (at_set s.views id i both' f u.1))
      (at_set views' other i spent f is) in
      inl (record {
        core = c';
        seat = r.seat;
        alone = r.alone;
        markers = r.markers;
        watchers = r.watchers;
        bytes = r.bytes;
        shape = r.shape;
        sound = told_sound L r.core r.sound of a.live f between;
        size = r.size;
        room = r.room;
        words = r.words;
        slots = r.slots;
        kept = r.kept;
        seats = λ i f is alive. ⊎_elim
            (λ (u : spent ≡ f). let no : spent.standing ≡ stand.Seated = ap (λ (z : View). z.standing) u ∙ alive in absurd (cc))
            (λ (y : ((i ≡ id) × (both' ≡ f)) ⊎ ((i ≢ id) × (get_elem? s.views i ≡ some f))). ⊎_elim
            (λ (u : (i ≡ id) × (both' ≡ f)). subst (λ (z : ℕ × View). Agrees G c' r.alone r.markers r.watchers r.seat z.0 z.1) (λ j. (sym u.0 j, u.1 j)) mine)
            (λ (u : (i ≢ id) × (get_elem? s.views i ≡ some f)). let k = r.seats i f u.1 alive in keep i f k (λ z. u.0 (sym k.seat_is ∙ (ap r.seat z ∙ a.seat_is)))) y)
            (which i f is);
        notes = λ i f is told. ⊎_elim
            (λ (u : spent ≡ f). let no : spent.standing ≡ stand.Told = ap (λ (z : View). z.standing) u ∙ told in absurd (cc))
            (λ (y : ((i ≡ id) × (both' ≡ f)) ⊎ ((i ≢ id) × (get_elem? s.views i ≡ some f))). ⊎_elim
            (λ (u : (i ≡ id) × (both' ≡ f)). let no : both'.standing ≡ stand.Told = ap (λ (z : View). z.standing) u.1 ∙ told in absurd (cc))
            (λ (u : (i ≢ id) × (get_elem? s.views i ≡ some f)). let k = r.notes i f u.1 told in
            record { geometry = k.geometry; seen_size = k.seen_size; seen_is = k.seen_is }) y)
            (which i f is);
        running = λ i f is closed. ⊎_elim
            (λ (u : spent ≡ f). let no : spent.standing ≡ stand.Closed = ap (λ (z : View). z.standing) u ∙ closed in absurd (cc))
            (λ (y : ((i ≡ id) × (both' ≡ f)) ⊎ ((i ≢ id) × (get_elem? s.views i ≡ some f))). ⊎_elim
            (λ (u : (i ≡ id) × (both' ≡ f)). let no : both'.standing ≡ stand.Closed = ap (λ (z : View). z.standing) u.1 ∙ closed in absurd (cc))
            (λ (u : (i ≢ id) × (get_elem? s.views i ≡ some f)). r.running i f u.1 closed) y)
            (which i f is);
        first = λ is. let z = r.first is in
            let other1 : 1 ≢ of = λ w. one_not_alone r.alone r.markers r.watchers of is (sym w) a.given in
            record { recv = z.recv; seen = λ x fits. seen' 1 other1 x ∙ z.seen x fits; looks = λ x fits. looks' 1 x ∙ z.looks x fits; pending = z.pending; marks = z.marks; takes = z.takes };
        unwatched = r.unwatched;
        new = r.new;
        here = λ m alive reached. let h = r.here m alive reached in
            let away : r.seat m ≢ other = λ is.
            let eq : e ≡ h.0 = some-injective e h.0 (sym there' ∙ (ap (get_elem? s.views) (sym is) ∙ h.1)) in
            let no : h.0.standing ≡ stand.Told = ap (λ (z : View). z.standing) (sym eq) ∙ said in let yes' = h.2 in absurd (cc) in
            dite (ℕ_discrete (r.seat m) id)
            (λ is. let eq : d ≡ h.0 = some-injective d h.0 (sym at ∙ (ap (get_elem? s.views) (sym is) ∙ h.1)) in (
              both',
              ap (get_elem? (set views' other spent)) is ∙ (set_else views' other id spent (λ z. far (sym z)) ∙ set_here s.views id both' (at_split s.views id d at).0),
              live,
              ap (λ (z : View). z.number) eq ∙ h.3,
            ))
            (λ apart. (h.0, set_else views' other (r.seat m) spent away ∙ (set_else s.views id (r.seat m) both' apart ∙ h.1), h.2, h.3));
        marks = r.marks;
        takes = r.takes;
      })
