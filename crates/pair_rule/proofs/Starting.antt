-- A pair begins by its rule: the table has the first words, each slot is home with a buffer of round 0, and the one view is that of
-- the send side, which is alone. It shows the core's first state. No piece has a round from 1 on, so no buffer has to have marked
-- bytes. The lanes of the receive side are those of a round in which each partition was taken and given back.
use Rattle.std.proofs.Common.{◌≡◌, ◌≢◌, inl, inr, ℕ, zero, suc, ◌+◌, ◌*◌, ◌/◌, ◌%◌, ◌<◌, ◌≤◌, true, false, nat_lt, List, [], ◌∷◌, length, map, Option, Some, None, refl, sym, ap, ◌∙◌, subst, arith}
use Rattle.std.specs.Prelude.{if◌then◌else◌}
use Rattle.std.specs.List.{range_with_len}
use Rattle.std.proofs.lemmas.Bool.{cases_lt, le-ltb, lt-ltb}
use Rattle.std.proofs.lemmas.List.{length-replicate, get_or-replicate, length-map}
use Rattle.std.proofs.lemmas.List.FromFn.{length-map-range_with_len, get_or-map-range_with_len}
use Rattle.std.proofs.lemmas.Nat.{mod-mul-add}
use mathlib.Core.Option.{some, some-injective, some-ne-none}
use lib.ListN.{get_elem?}
use Rattle.atomic_table.specs.Table.{opening}
use Rattle.atomic_table.proofs.Lists.{at_index, at_map}
use Rattle.part_geometry.specs.Shape.{Shape, IsShape}
use Rattle.part_geometry.specs.Cells.{cells}
use Rattle.part_geometry.specs.Pieces.{piece_of}
use Rattle.pair_core.specs.Names.{Take, number}
use Rattle.pair_core.specs.Moves.{first_state}
use Rattle.pair_core.specs.Words.{bit}
use Rattle.pair_core.specs.State.{word_count}
use Rattle.slot_rows.specs.Lanes.{wide}
use Rattle.pair_core.specs.declared.view.Life.TheVariants.{Live, Blank}
use Rattle.pair_core.proofs.Facts.{number_lt}
use Rattle.pair_core.proofs.Cut.{cell_piece, take_word}
use Rattle.pair_core.proofs.Start.{piece_full, part_there}
use Rattle.pair_core.proofs.StateNumbers.{row_lt}
use Rattle.pair_rule.specs.Buf.{Buf}
use Rattle.pair_rule.specs.First.{first_table, first_buf, first_bufs, first_in_slot, first_view, receiver}
use Rattle.pair_rule.specs.Parts.{first_lane, first_lanes}
use Rattle.pair_rule.specs.Seats.{AreLanes, IsLane}
use Rattle.pair_rule.specs.Rule.{slot_number, slot_row, cell_length, Agrees, Holds}
use Rattle.pair_rule.specs.declared.view.View.{View}
use Rattle.pair_rule.specs.declared.view.Standing.TheVariants.{Told, Closed}
use Rattle.pair_rule.specs.declared.rule.Key.{Key}
use Rattle.pair_rule.proofs.Core.{CoreLaws}
use Rattle.pair_rule.proofs.FirstFacts.{first_words-length, first_words-at, first_table-length, first_table-has}

pub first_bufs-length : (g : Shape) → length (first_bufs g) ≡ g.depth * slot_row g
unfolding first_bufs
first_bufs-length g = length-map-range_with_len (first_in_slot g) 0 (g.depth * slot_row g)

first_bufs-nth : (g : Shape) (n : ℕ) → n < g.depth * slot_row g → get_elem? (first_bufs g) n ≡ some (first_in_slot g n)
unfolding first_bufs
first_bufs-nth g n inside =
    let f : ℕ → Option Buf = first_in_slot g in
    let count : ℕ = g.depth * slot_row g in
    let long : n < length (map f (range_with_len 0 count)) = let e = length-map-range_with_len f 0 count in omega arith in
    at_index (map f (range_with_len 0 count)) n (f n) long (sym (get_or-map-range_with_len f 0 count n n (f n) inside (let e : 0 + n ≡ n = omega arith in e)))

-- the slot of a cell at a place has the cell's buffer
first_bufs-at : (g : Shape) (e c : ℕ) → e < g.depth → c < cells g → get_elem? (first_bufs g) (slot_number g e c) ≡ some (Some (first_buf g c))
first_bufs-at g e c deep inside =
    let low : c < slot_row g = omega arith in
    let is : slot_number g e c % slot_row g ≡ c = mod-mul-add e (slot_row g) c low in
    first_bufs-nth g (slot_number g e c) (row_lt e c g.depth (slot_row g) deep low)
    ∙ (ap (λ (z : ℕ). some (if nat_lt z (cells g) then Some (first_buf g z) else None)) is ∙ rw (lt-ltb c (cells g) inside) refl)

-- the one view that the table has
only_first : (v d : View) (i : ℕ) → get_elem? (v ∷ []) i ≡ some d → (i ≡ 0) × (v ≡ d)
only_first v d zero e = (refl, some-injective v d e)
only_first v d (suc i) e = absurd (some-ne-none d (sym e))

-- the two sides alone have a view
blank_from_two : (n : ℕ) → 2 ≤ n → (if nat_lt n 2 then Live else Blank) ≡ Blank
blank_from_two n h = rw (le-ltb n 2 h) refl

module _ {T : Type 0} (may : T → ℕ → ℕ → ℕ → Type 0) (key : Key T) where
  abbrev G : Shape
  G = key.geometry

  first_agrees : IsShape G → Agrees G (first_state {A = List ℕ} G) true 0 0 (λ n. 0) 0 (first_view G)
  first_agrees v = record {
    geometry = refl;
    seat_is = refl;
    given = inl refl;
    live = refl;
    seen_size = first_words-length G;
    looks_size = length-replicate (word_count G) 0;
    seen_is = λ x fits. first_words-at G x v fits;
    looks_is = λ x fits. get_or-replicate (word_count G) (number G x) 0 0 (number_lt G x fits);
    pending_is = refl;
    marks_is = refl;
    send_is = λ z. refl;
    markers_is = λ z. (refl, refl);
    recv_is = λ z. refl;
    takes_is = λ z. refl;
    watchers_is = λ z. refl;
  }

  pub starts : CoreLaws G → IsShape G → Holds may key (opening (first_table G) (first_bufs G) (first_view G))
  starts L v =
      let d : View = first_view G in
      let homes = map some (first_bufs G) in
      let at : (e c : ℕ) → e < G.depth → c < cells G → get_elem? homes (slot_number G e c) ≡ some (some (Some (first_buf G c))) = λ e c deep inside.
      at_map some (first_bufs G) (slot_number G e c) (Some (first_buf G c)) (first_bufs-at G e c deep inside) in
      inl (record {
        core = first_state {A = List ℕ} G;
        seat = λ n. 0;
        alone = true;
        markers = 0;
        watchers = 0;
        bytes = λ k p. [];
        shape = v;
        sound = L.first;
        size = first_table-length G;
        room = length-map (first_bufs G) some ∙ first_bufs-length G;
        words = first_table-has G;
        slots = λ e c deep inside. (first_buf G c, at e c deep inside, refl, length-replicate (cell_length G c) 0);
        kept = λ e c b deep inside home kept one. let none = (piece_full G v e (piece_of G c) (cell_piece G c inside)).round in absurd (omega arith);
        seats = λ i f is alive. let o = only_first d f i is in
            subst (λ (z : ℕ × View). Agrees G (first_state {A = List ℕ} G) true 0 0 (λ n. 0) z.0 z.1) (λ j. (sym o.0 j, o.1 j)) (first_agrees v);
        notes = λ i f is told. let no : d.standing ≡ Told = ap (λ (z : View). z.standing) (only_first d f i is).1 ∙ told in absurd (cc);
        running = λ i f is closed. let no : d.standing ≡ Closed = ap (λ (z : View). z.standing) (only_first d f i is).1 ∙ closed in absurd (cc);
        first = λ is. record { recv = refl; seen = λ x fits. refl; looks = λ x fits. refl; pending = refl; marks = refl; takes = refl };
        unwatched = λ is. refl;
        new = λ n not one. blank_from_two n (let zeroth : n ≢ 0 = λ e. not (inl e) in omega arith);
        here = λ n alive reached. elim (cases_lt n 2) [
          | inl low ↦ let second : n ≢ 1 = λ e. let no = reached e in absurd (cc) in (d, refl, refl, (let e : 0 ≡ n = omega arith in e))
          | inr high ↦ let no = blank_from_two n high in absurd (cc)
        ];
        marks = λ n m h. absurd (let below = h.1 in omega arith);
        takes = λ m h. absurd (let below = h.1 in omega arith);
      })

-- what stands in a table of a function
at_range : {X : Type 0} (f : ℕ → X) (a n i : ℕ) (x : X) → get_elem? (map f (range_with_len a n)) i ≡ some x → (i < n) × (f (a + i) ≡ x)
at_range f a zero i x e = absurd (some-ne-none x (sym e))
at_range f a (suc n) zero x e = (omega arith, ap f (let z : a + 0 ≡ a = omega arith in z) ∙ some-injective (f a) x e)
at_range f a (suc n) (suc i) x e = let h = at_range f (a + 1) n i x e in (let low = h.0 in omega arith, ap f (let z : a + suc i ≡ a + 1 + i = omega arith in z) ∙ h.1)

-- no lane is out
none_wide : (g : Shape) (a n : ℕ) → wide (map (first_lane g) (range_with_len a n)) ≡ 0
none_wide g a zero = refl
none_wide g a (suc n) = let rest = none_wide g (a + 1) n in omega arith

first_is_lane : (g : Shape) → IsShape g → (q : ℕ) → q < g.recv_parts → IsLane (receiver (first_view g)) q (first_lane g q)
first_is_lane g v q inside = record {
  first = refl;
  count = refl;
  taken = ap (λ (w : ℕ). bit w (q % 32)) (first_words-at g (Take (q / 32)) v (take_word g q inside)) ∙ part_there false g.recv_parts q inside;
  out = λ active. let no = active.1 in absurd (omega arith);
  home = λ _. refl;
  unreturned = λ starting. absurd (omega arith);
  untaken = λ starting. absurd (omega arith);
}

pub first_are_lanes : (g : Shape) → IsShape g → AreLanes (receiver (first_view g)) 0 (first_lanes g)
first_are_lanes g v = record {
  words = first_words-length g;
  round = omega arith;
  order = λ _. refl;
  parts = length-map-range_with_len (first_lane g) 0 g.recv_parts;
  total = sym (none_wide g 0 g.recv_parts);
  each = λ q l at. let h = at_range (first_lane g) 0 g.recv_parts q l at in
      let is : first_lane g q ≡ l = ap (first_lane g) (let z : q ≡ 0 + q = omega arith in z) ∙ h.1 in
      subst (IsLane (receiver (first_view g)) q) is (first_is_lane g v q h.0);
}
