-- A look at the words of pieces, one after another: what the seat has seen of other words is as before, and of these it has
-- seen the words found.
use Rattle.std.proofs.Common.{◌≡◌, ◌≢◌, ℕ, suc, ◌+◌, ◌%◌, ◌<◌, ◌≤◌, List, [], ◌∷◌, ◌++◌, length, get_or, refl, sym, ap, ◌∙◌, subst, arith, inl, inr, add-zero, length-append, length-set, get_or-set_same, get_or-set_other}
use Rattle.std.proofs.lemmas.Bool.{cases_eq}
use Rattle.atomic_table.specs.Seated.{TableId}
use Rattle.gate_word.specs.Order.{IsLater}
use Rattle.part_geometry.specs.Shape.{Shape}
use Rattle.part_geometry.specs.Pieces.{pieces}
use Rattle.slot_rows.specs.Lists.{Every}
use Rattle.slot_rows.proofs.Acts.{every_append}
use Rattle.pair_core.specs.Names.{Piece, number}
use Rattle.pair_core.specs.Reading.{IsFull}
use Rattle.pair_core.specs.State.{word_count}
use Rattle.pair_core.proofs.Facts.{number_lt}
use Rattle.pair_rule.specs.Views.{seen, saw}
use Rattle.pair_rule.specs.declared.view.View.{View}
use Rattle.pair_rule.specs.Told.{IsFullStill}
use Rattle.part_recv.specs.Seeing.{looked, AreFull, first_piece, after_piece, place_in, Misses, SeesAll}
use Rattle.part_recv.specs.Found.{StaysFull}

-- it changes what was seen and how often, and nothing else
pub looked_is : (e i : ℕ) (ws : List ℕ) (d : View) → looked e i ws d ≡ record d { seen = (looked e i ws d).seen; looks = (looked e i ws d).looks }
looked_is e i [] d = refl
looked_is e i (w ∷ ws) d = looked_is e (suc i) ws (saw (Piece e i) w d)

-- so the geometry stays
pub looked_geometry : (e i : ℕ) (ws : List ℕ) (d : View) → (looked e i ws d).geometry ≡ d.geometry
looked_geometry e i ws d = ap (λ (z : View). z.geometry) (looked_is e i ws d)

-- one more look
pub looked_more : (e i : ℕ) (ws : List ℕ) (w : ℕ) (d : View) → looked e i (ws ++ w ∷ []) d ≡ saw (Piece e (i + length ws)) w (looked e i ws d)
looked_more e i [] w d = ap (λ (z : ℕ). saw (Piece e z) w d) (let n : i ≡ i + 0 = omega arith in n)
looked_more e i (x ∷ xs) w d =
    looked_more e (suc i) xs w (saw (Piece e i) x d)
    ∙ ap (λ (z : ℕ). saw (Piece e z) w (looked e (suc i) xs (saw (Piece e i) x d))) (let n : suc i + length xs ≡ i + suc (length xs) = omega arith in n)

-- a word that isn't among those of the pieces looked at
pub seen_past : (n e i : ℕ) (ws : List ℕ) (d : View) → ((j : ℕ) → i ≤ j → j < i + length ws → n ≢ number d.geometry (Piece e j))
    → get_or (looked e i ws d).seen n 0 ≡ get_or d.seen n 0
seen_past n e i [] d apart = refl
seen_past n e i (w ∷ ws) d apart =
    seen_past n e (suc i) ws (saw (Piece e i) w d) (λ j low high. apart j (omega arith) (omega arith))
    ∙ get_or-set_other d.seen (number d.geometry (Piece e i)) n w 0 (apart i (omega arith) (omega arith))

-- the words of later pieces
pub seen_ahead : (e i j : ℕ) (ws : List ℕ) (d : View) → i + length ws ≤ j → seen (looked e i ws d) (Piece e j) ≡ seen d (Piece e j)
seen_ahead e i j ws d far =
    ap (λ (z : Shape). get_or (looked e i ws d).seen (number z (Piece e j)) 0) (looked_geometry e i ws d)
    ∙ seen_past (number d.geometry (Piece e j)) e i ws d (λ m low high. λ (same : number d.geometry (Piece e j) ≡ number d.geometry (Piece e m)). omega arith)

-- as many words are seen as before
pub looked_size : (e i : ℕ) (ws : List ℕ) (d : View) → length (looked e i ws d).seen ≡ length d.seen
looked_size e i [] d = refl
looked_size e i (w ∷ ws) d = looked_size e (suc i) ws (saw (Piece e i) w d) ∙ length-set d.seen (number d.geometry (Piece e i)) w

-- of words that were found full, each is seen so
pub seen_full : (k e i : ℕ) (ws : List ℕ) (d : View) → e < d.geometry.depth → i + length ws ≤ pieces d.geometry → length d.seen ≡ word_count d.geometry
    → AreFull d.geometry k i ws → (j : ℕ) → i ≤ j → j < i + length ws → IsFull d.geometry (get_or (looked e i ws d).seen (number d.geometry (Piece e j)) 0) k j
seen_full k e i [] d place few size full j low high = absurd (omega arith)
seen_full k e i (w ∷ ws) d place few size full j low high =
    elim (cases_eq j i) [
      | inl same ↦
          let here : get_or (looked e i (w ∷ ws) d).seen (number d.geometry (Piece e i)) 0 ≡ w =
          seen_past (number d.geometry (Piece e i)) e (suc i) ws (saw (Piece e i) w d) (λ m from to. λ (one : number d.geometry (Piece e i) ≡ number d.geometry (Piece e m)). omega arith)
          ∙ get_or-set_same d.seen (number d.geometry (Piece e i)) w 0 (subst (λ (z : ℕ). number d.geometry (Piece e i) < z) (sym size) (number_lt d.geometry (Piece e i) (place, omega arith))) in
          subst (λ (z : ℕ). IsFull d.geometry (get_or (looked e i (w ∷ ws) d).seen (number d.geometry (Piece e z)) 0) k z) (sym same)
          (subst (λ (z : ℕ). IsFull d.geometry z k i) (sym here) full.0)
      | inr later ↦
          seen_full k e (suc i) ws (saw (Piece e i) w d) place (omega arith) (length-set d.seen (number d.geometry (Piece e i)) w ∙ size) full.1 j (omega arith) (omega arith)
    ]

-- a look under way: the seat is as it was but for what it has seen, and the words of the pieces before piece n were found full
pub record Walked {S : Type 0} (W : S → View → S) (V : S → View) (T : S → TableId) (k e first : ℕ) (from to : S) (n : ℕ) : Type 0 where
  -- the words that were found
  pub words : List ℕ
  -- they are those of the pieces from the first up to piece n
  pub count : first + length words ≡ n
  -- the view has looked at these
  pub view : V to ≡ looked e first words (V from)
  -- the seat is of the same table
  pub table : T to ≡ T from
  -- with any view put, it is the seat before with that view
  pub same : (d : View) → W to d ≡ W from d
  -- once it has looked, it is the seat before with its view
  pub seat : first < n → to ≡ W from (V to)
  -- each word is the one that was seen before, or a later one
  pub later : Every (λ i w. IsLater (seen (V from) (Piece e i)) w) first words
  -- and is full in the round
  pub full : AreFull (V from).geometry k first words

module _ {S : Type 0} (W : S → View → S) (V : S → View) (T : S → TableId) (has_view : (s : S) (d : View) → V (W s d) ≡ d) (has_table : (s : S) (d : View) → T (W s d) ≡ T s)
    (has_last : (s : S) (d e : View) → W (W s d) e ≡ W s e) where
  -- no look was taken so far
  pub walk_begins : (k e first : ℕ) (s : S) → Walked W V T k e first s s first
  walk_begins k e first s = record {
    words = [];
    count = add-zero first;
    view = refl;
    table = refl;
    same = λ d. refl;
    seat = λ low. absurd (omega arith);
    later = tt;
    full = tt;
  }

  module _ (k e first n w : ℕ) (from to next : S) (h : Walked W V T k e first from to n) (step : next ≡ W to (saw (Piece e n) w (V to))) (later : IsLater (seen (V to) (Piece e n)) w) where
    walk_view : V next ≡ looked e first (h.words ++ w ∷ []) (V from)
    walk_view =
        ap V step ∙ (has_view to (saw (Piece e n) w (V to)) ∙ (ap (saw (Piece e n) w) h.view
        ∙ (ap (λ (z : ℕ). saw (Piece e z) w (looked e first h.words (V from))) (sym h.count) ∙ sym (looked_more e first h.words w (V from)))))

    walk_seat : next ≡ W from (V next)
    walk_seat = step ∙ (h.same (saw (Piece e n) w (V to)) ∙ ap (W from) (sym (ap V step ∙ has_view to (saw (Piece e n) w (V to)))))

    walk_later : Every (λ i z. IsLater (seen (V from) (Piece e i)) z) first (h.words ++ w ∷ [])
    walk_later =
        let count = h.count in
        let before : seen (V to) (Piece e n) ≡ seen (V from) (Piece e n) = ap (λ (z : View). seen z (Piece e n)) h.view ∙ seen_ahead e first n h.words (V from) (omega arith) in
        let here : IsLater (seen (V from) (Piece e n)) w = subst (λ (z : ℕ). IsLater z w) before later in
        every_append (λ i z. IsLater (seen (V from) (Piece e i)) z) first h.words (w ∷ []) h.later (subst (λ (z : ℕ). IsLater (seen (V from) (Piece e z)) w) (sym h.count) here, tt)

    -- the word that was found is full
    pub walk_goes : IsFull (V from).geometry w k n → Walked W V T k e first from next (n + 1)
    walk_goes full = record {
      words = h.words ++ w ∷ [];
      count = let size = length-append h.words (w ∷ []) in let count = h.count in omega arith;
      view = walk_view;
      table = ap T step ∙ (has_table to (saw (Piece e n) w (V to)) ∙ h.table);
      same = λ d. ap (λ (z : S). W z d) step ∙ (has_last to (saw (Piece e n) w (V to)) d ∙ h.same d);
      seat = λ low. walk_seat;
      later = walk_later;
      full = every_append (λ j z. IsFull (V from).geometry z k j) first h.words (w ∷ []) h.full (subst (λ (z : ℕ). IsFull (V from).geometry w k z) (sym h.count) full, tt);
    }

    walk_stays : (q : ℕ) → e ≡ place_in (V from) k → IsFullStill (V to) (Piece e n) w → StaysFull k n w (V from)
    walk_stays q place still one active same full =
        let g : Shape = (V from).geometry in
        let s : List ℕ = (looked e first h.words (V from)).seen in let l : List ℕ = (looked e first h.words (V from)).looks in
        let count = h.count in
        let told : IsFullStill (record (V from) { seen = s; looks = l }) (Piece e n) w = subst (λ (z : View). IsFullStill z (Piece e n) w) (h.view ∙ looked_is e first h.words (V from)) still in
        let before : get_or s (number g (Piece e n)) 0 ≡ seen (V from) (Piece e n) =
        seen_past (number g (Piece e n)) e first h.words (V from) (λ m low high. λ (both : number g (Piece e n) ≡ number g (Piece e m)). omega arith) in
        let here : IsFull g (seen (V from) (Piece e n)) (V from).recv.round n = subst (λ (z : ℕ × ℕ). IsFull g (seen (V from) (Piece z.0 n)) z.1 n) (λ j. (sym place j, same j)) full in
        subst (λ (z : ℕ). IsFull g w z n) (sym same)
        (told.0 one active (place ∙ ap (λ (z : ℕ). z % g.depth) same) (subst (λ (z : ℕ). IsFull g z (V from).recv.round n) (sym before) here))

    -- and it isn't
    pub walk_stops : (q : ℕ) → e ≡ place_in (V from) k → first ≡ first_piece (V from).geometry q → n < after_piece (V from).geometry q → ¬ IsFull (V from).geometry w k n
        → IsFullStill (V to) (Piece e n) w → (d : View) × (next ≡ W from d) × (Misses k q n w (V from) d × StaysFull k n w (V from))
    walk_stops q place start over missing still =
        let g : Shape = (V from).geometry in
        let misses : Misses k q n w (V from) (V next) = record {
          before = h.words;
          looks = record {
            view = walk_view ∙ (λ j. looked (place j) (start j) (h.words ++ w ∷ []) (V from));
            told = subst (λ (z : ℕ × ℕ). Every (λ i x. IsLater (seen (V from) (Piece z.0 i)) x) z.1 (h.words ++ w ∷ [])) (λ j. (place j, start j)) walk_later;
          };
          full = subst (λ (z : ℕ). AreFull g k z h.words) start h.full;
          here = ap (λ (z : ℕ). z + length h.words) (sym start) ∙ h.count;
          over = over;
          missing = missing;
        } in
        (V next, walk_seat, (misses, walk_stays q place still))

  -- all pieces were found full
  pub walk_ends : (k e first n q : ℕ) (from to : S) → Walked W V T k e first from to n → first < n → n ≡ after_piece (V from).geometry q
      → e ≡ place_in (V from) k → first ≡ first_piece (V from).geometry q → (d : View) × (to ≡ W from d) × SeesAll k q (V from) d
  walk_ends k e first n q from to h some end place start = (
    V to,
    h.seat some,
    record {
      words = h.words;
      looks = record {
        view = h.view ∙ (λ j. looked (place j) (start j) h.words (V from));
        told = subst (λ (z : ℕ × ℕ). Every (λ i x. IsLater (seen (V from) (Piece z.0 i)) x) z.1 h.words) (λ j. (place j, start j)) h.later;
      };
      full = subst (λ (z : ℕ). AreFull (V from).geometry k z h.words) start h.full;
      all = ap (λ (z : ℕ). z + length h.words) (sym start) ∙ (h.count ∙ end);
    },
  )
