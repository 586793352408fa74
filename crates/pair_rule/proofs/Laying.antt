-- A lay: the buffers of the cells that a pending partition and a piece share come home, each with its part of the mark's
-- bytes.
use Rattle.std.proofs.Common.{◌≡◌, ◌⊎◌, inl, inr, ⊎_elim, ℕ, ◌+◌, ◌-◌, ◌*◌, ◌%◌, ◌^◌, ◌<◌, ◌≤◌, Bool, ◌==◌, ◌&&◌, List, length, map, get_or, set, Contains, Option, Some, refl, sym, ap, ◌∙◌, subst, arith, bit_or}
use Rattle.std.proofs.lemmas.Bool.{eq-eqb, eqb-true}
use Rattle.std.proofs.lemmas.List.{length-map}
use Rattle.std.proofs.Math.Nat.{mul-le-mul_right}
use mathlib.Core.Option.{some, none}
use mathlib.Core.Option as maybe
use lib.ListN.{get_elem?}
use Rattle.gate_word.specs.Words.{round_in}
use Rattle.gate_word.specs.Order.{IsLater}
use Rattle.part_geometry.specs.Shape.{Shape}
use Rattle.part_geometry.specs.Cells.{cells, send_of}
use Rattle.part_geometry.specs.Pieces.{pieces, piece_of, first_part, Touches}
use Rattle.part_tables.specs.Parts.{first_shared, after_shared}
use Rattle.part_tables.specs.Bytes.{cell_bytes, cut}
use Rattle.part_tables.proofs.Facts.{in_shared, after_shared-le, cut-is, length-cut, shared-some}
use Rattle.pair_core.specs.Names.{Name, Piece, Fits}
use Rattle.pair_core.specs.Core.{Slot, Home}
use Rattle.pair_core.specs.Steps.{mark, lays_piece, left_of}
use Rattle.pair_core.specs.Moves.{Move, LayPiece, MayLay, IsAllowed, after, lays}
use Rattle.pair_core.specs.Sound.{Sound}
use Rattle.pair_core.specs.Facts.{piece_word, IsKept, BringsHome}
use Rattle.pair_core.specs.declared.view.Mark.{Mark}
use Rattle.pair_core.specs.declared.view.Pending.{Pending}
use Rattle.pair_core.proofs.Facts.{put_here, put_else}
use Rattle.slot_rows.specs.Lists.{Every}
use Rattle.slot_rows.proofs.Acts.{stocked, stocked_here, stocked_else, stocked_length}
use Rattle.pair_rule.specs.Addresses.{address}
use Rattle.pair_rule.specs.Buf.{Buf}
use Rattle.pair_rule.specs.Rule.{At, Shown, slot_number, slot_row, cell_length, Stands, Agrees, IsMarked, Rule}
use Rattle.pair_rule.specs.Views as view
use Rattle.pair_rule.specs.Steps.{MayMake, AreCuts}
use Rattle.pair_rule.specs.declared.view.View.{View}
use Rattle.pair_rule.specs.declared.view.Standing.TheVariants.{Seated}
use Rattle.pair_rule.specs.declared.rule.Key.{Key}
use Rattle.pair_rule.proofs.Core.{CoreLaws}
use Rattle.pair_rule.proofs.Bridge.{Held, Others, saw_others, saw_agrees, steps}
use Rattle.pair_rule.proofs.Allowed.{may_make, place_there}
use Rattle.pair_rule.proofs.SlotFacts.{IsAmong, among, number_in, number_out, every_back}
use Rattle.pair_rule.proofs.SlotFacts as slots
use Rattle.pair_rule.proofs.Marks.{both_true}

lays_others : (g : Shape) (c : Shown) (n i : ℕ) (x : Pending) → Others c (lays_piece g n i x c) n
lays_others g c n i x =
    let y : Name = Piece (x.round % g.depth) i in let w : ℕ = bit_or (c.word y) (2 ^ (x.partition - first_part g i)) in
    let o = saw_others c n y w in
    record {
      life = o.life;
      seen = o.seen;
      looks = o.looks;
      pending = λ m other. sym (put_else c.pending n (left_of g i x) m other);
      marks = o.marks;
      send = o.send;
      recv = o.recv;
      takes = o.takes;
    }

lays_agree : (g : Shape) (c : Shown) (alone : Bool) (markers watchers : ℕ) (seat : ℕ → ℕ) (id i : ℕ) (x : Pending) (d : View) → Fits g (Piece (x.round % g.depth) i)
    → Agrees g c alone markers watchers seat id d
    → Agrees g (lays_piece g d.number i x c) alone markers watchers seat id
    (record (view.saw (Piece (x.round % g.depth) i) (bit_or (c.word (Piece (x.round % g.depth) i)) (2 ^ (x.partition - first_part g i))) d) { pending = left_of g i x })
lays_agree g c alone markers watchers seat id i x d fits a =
    let y : Name = Piece (x.round % g.depth) i in let w : ℕ = bit_or (c.word y) (2 ^ (x.partition - first_part g i)) in
    let e = saw_agrees g c alone markers watchers seat id d y w fits a in
    record {
      geometry = e.geometry;
      seat_is = e.seat_is;
      given = e.given;
      live = e.live;
      seen_size = e.seen_size;
      looks_size = e.looks_size;
      seen_is = e.seen_is;
      looks_is = e.looks_is;
      pending_is = sym (put_here c.pending d.number (left_of g i x));
      marks_is = e.marks_is;
      send_is = e.send_is;
      markers_is = e.markers_is;
      recv_is = e.recv_is;
      takes_is = e.takes_is;
      watchers_is = e.watchers_is;
    }

pend_one : (x y : Pending) → Some x ≡ Some y → x ≡ y
pend_one x y e = cc

lay_is : (n p i m q j : ℕ) → ◌≡◌ {A = Move (List ℕ)} (LayPiece n p i) (LayPiece m q j) → (p ≡ q) × (i ≡ j)
lay_is n p i m q j e = (cc, cc)

module _ {T : Type 0} (may : T → ℕ → ℕ → ℕ → Type 0) (key : Key T) (L : CoreLaws key.geometry) where
  abbrev G : Shape
  G = key.geometry

  module _ (s : At) (r : Rule may key s) (n p i : ℕ) (x : Pending) (b : List ℕ) (xs : List Buf) (at_core : r.core.pending n ≡ Some x) (of : x.partition ≡ p) (piece : i < pieces G) (touch : Touches G i p)
      (size : length xs ≡ after_shared G p i - first_shared G p i) (all : AreCuts G x.round b (first_shared G p i) xs) (mine : Contains (r.core.marks n) (mark x.round p b))
      (allowed : IsAllowed G r.core (LayPiece n p i)) (is : after G r.core (LayPiece n p i) ≡ lays_piece G n i x r.core) where
    abbrev c : Shown
    c = r.core

    abbrev c' : Shown
    c' = lays_piece G n i x r.core

    abbrev k : ℕ
    k = x.round

    abbrev place : ℕ
    place = k % G.depth

    abbrev first : ℕ
    first = first_shared G p i

    abbrev count : ℕ
    count = after_shared G p i - first_shared G p i

    abbrev these : ℕ → Bool
    these j = (send_of G j == x.partition) && (piece_of G j == i)

    abbrev zs : List (Option Buf)
    zs = map Some xs

    abbrev homes' : List (maybe.Option (Option Buf))
    homes' = stocked s.homes (slot_number G place first) zs

    there : place < G.depth
    there = place_there k G.depth r.shape.depth.0

    sized : length zs ≡ count
    sized = length-map xs Some ∙ size

    marked : IsMarked may key r.bytes (mark k p b)
    marked = r.marks n (mark k p b) mine

    whole : first + count ≤ cells G
    whole = let l = after_shared-le G r.shape p i in let f = (shared-some G r.shape p i piece).0 touch in omega arith

    of_both : (j : ℕ) → j < cells G → first ≤ j → j < first + count → (send_of G j ≡ p) × (piece_of G j ≡ i)
    of_both j within from to = let f = (shared-some G r.shape p i piece).0 touch in (in_shared G r.shape p i j within piece).1 (from, omega arith)

    in_both : (j : ℕ) → j < cells G → send_of G j ≡ p → piece_of G j ≡ i → (first ≤ j) × (j < first + count)
    in_both j within a d = let h = (in_shared G r.shape p i j within piece).0 (a, d) in let f = (shared-some G r.shape p i piece).0 touch in (h.0, let y = h.1 in omega arith)

    room : slot_number G place first + length zs ≤ length s.homes
    room = let h = whole in let t = there in let rows = mul-le-mul_right {m = place + 1} {n = G.depth} (slot_row G) (omega arith) in let deep = r.room in let z = sized in omega (arith, rows)

    -- what comes home: the round, the length and the bytes of its cell
    abbrev Fits' : ℕ → Buf → Type 0
    Fits' j y = (e : ℕ) → j ≡ place * slot_row G + e → (y.round ≡ k) × (length y.bytes ≡ cell_length G e) × (y.bytes ≡ cell_bytes G (r.bytes k) e)

    filled : Every Fits' (slot_number G place first) xs
    filled = every_back Fits' (λ e y. (y.round ≡ k) × (y.bytes ≡ cut G e b)) (place * slot_row G) first xs
        (λ j y from to h e same.
        let here : j ≡ e = omega arith in
        let within : j < cells G = let w = whole in let z = size in omega arith in
        let parts = of_both j within from (let z = size in omega arith) in
        let bytes : r.bytes k (send_of G j) ≡ b = ap (r.bytes k) parts.0 ∙ sym marked.bytes_are in
        let cut' : y.bytes ≡ cell_bytes G (r.bytes k) j = h.1 ∙ cut-is G r.shape (r.bytes k) j b within bytes marked.may_be.long in
        let long : length y.bytes ≡ cell_length G j = ap length h.1 ∙ length-cut G r.shape j b within marked.may_be.long in
        (h.0, long ∙ ap (cell_length G) here, cut' ∙ ap (cell_bytes G (r.bytes k)) here))
        all

    brought : (e j : ℕ) → IsAmong place first count e j → (y : Buf) × (get_elem? homes' (slot_number G e j) ≡ some (some (Some y))) × Fits' (slot_number G e j) y
    brought e j among' = let at = number_in G place first count e j among' in let z = sized in
        stocked_here Some Fits' s.homes (slot_number G place first) xs (slot_number G e j) filled at.0 (let q = at.1 in let zz = size in omega arith) (let q = room in let zz = length-map xs Some in omega arith)

    -- its slot is number place * cells + j
    as_number : (e j : ℕ) → e ≡ place → slot_number G e j ≡ place * slot_row G + j
    as_number e j same = ap (λ (z : ℕ). z * slot_row G + j) same

    apart : (e j : ℕ) → j < cells G → ¬ IsAmong place first count e j → (slot_number G e j < slot_number G place first) ⊎ (slot_number G place first + length zs ≤ slot_number G e j)
    apart e j within not = let z = sized in ⊎_elim (λ low. inl low) (λ high. inr (omega arith)) (number_out G place first count e j within whole not)

    stands : (e j : ℕ) → e < G.depth → j < cells G → Stands G j (get_elem? homes' (slot_number G e j)) (c'.slot e j)
    stands e j deep within = ⊎_elim
        (λ (among' : IsAmong place first count e j). let y = brought e j among' in let fits = y.2 j (as_number e j among'.0) in
        let parts = of_both j within among'.1 among'.2 in
        subst (Stands G j (get_elem? homes' (slot_number G e j)))
        (sym (slots.put_here c.slot place these (Home k) e j among'.0 (λ q. eq-eqb (send_of G j) x.partition (parts.0 ∙ sym of) q && eq-eqb (piece_of G j) i parts.1 q)))
        (y.0, y.1, fits.0, fits.1))
        (λ (not : ¬ IsAmong place first count e j).
        subst (λ (z : maybe.Option (maybe.Option (Option Buf)) × Slot). Stands G j z.0 z.1)
        (λ q. (
          sym (stocked_else s.homes (slot_number G place first) zs (slot_number G e j) (apart e j within not)) q,
          sym (slots.put_else c.slot place these (Home k) e j (λ both. let t = both_true (send_of G j == x.partition) (piece_of G j == i) both.1 in
              let h = in_both j within (eqb-true (send_of G j) x.partition t.0 ∙ of) (eqb-true (piece_of G j) i t.1) in not (both.0, h.0, h.1))) q,
        ))
        (r.slots e j deep within))
        (among place first count e j)

    sound' : Sound G c'
    sound' = subst (Sound G) is (L.kept c (LayPiece n p i) r.sound allowed)

    round_now : x.round ≡ c.send.round
    round_now = (L.facts.pending_is c n x r.sound at_core).0

    kept : (e j : ℕ) (y : Buf) → e < G.depth → j < cells G → get_elem? homes' (slot_number G e j) ≡ some (some (Some y))
        → IsKept G c' e j → 1 ≤ round_in (piece_word G c' e j) → y.bytes ≡ cell_bytes G (r.bytes (round_in (piece_word G c' e j))) j
    kept e j y deep within home tie positive = ⊎_elim
        (λ (among' : IsAmong place first count e j). let z = brought e j among' in let fits = z.2 j (as_number e j among'.0) in
        let parts = of_both j within among'.1 among'.2 in
        let same : z.0 ≡ y = cc (sym z.1 ∙ home) in
        let slot : c'.slot e j ≡ Home k = slots.put_here c.slot place these (Home k) e j among'.0 (λ q. eq-eqb (send_of G j) x.partition (parts.0 ∙ sym of) q && eq-eqb (piece_of G j) i parts.1 q) in
        let now : k ≡ round_in (piece_word G c' e j) = sound'.slots.tied e j k deep within slot tie in
        ap (λ (u : Buf). u.bytes) (sym same) ∙ (fits.2 ∙ ap (λ (u : ℕ). cell_bytes G (r.bytes u) j) now))
        (λ (not : ¬ IsAmong place first count e j).
        let here = sym (stocked_else s.homes (slot_number G place first) zs (slot_number G e j) (apart e j within not)) ∙ home in
        let before = subst (λ (u : Shown). IsKept G u e j → BringsHome G c (LayPiece n p i) e j ⊎ (IsKept G c e j × (round_in (piece_word G u e j) ≡ round_in (piece_word G c e j)))) is
        (L.facts.kept_before c (LayPiece n p i) e j r.sound allowed deep within) tie in
        ⊎_elim
        (λ (lay : BringsHome G c (LayPiece n p i) e j).
        let parts = lay_is n p i lay.0 (send_of G j) (piece_of G j) lay.1 in
        let h = in_both j within (sym parts.0) (sym parts.1) in
        absurd (not (lay.2 ∙ ap (λ (u : ℕ). u % G.depth) (sym round_now), h.0, h.1)))
        (λ (t : IsKept G c e j × (round_in (piece_word G c' e j) ≡ round_in (piece_word G c e j))).
        r.kept e j y deep within here t.0 (subst (λ (u : ℕ). 1 ≤ u) t.1 positive) ∙ ap (λ (u : ℕ). cell_bytes G (r.bytes u) j) (sym t.1))
        before)
        (among place first count e j)

    pub lays_home : (id : ℕ) (d : View) → get_elem? s.views id ≡ some d → d.standing ≡ Seated → d.number ≡ n
        → Held may key record {
          words = set s.words (address G (Piece place i)) (bit_or (c.word (Piece place i)) (2 ^ (x.partition - first_part G i)));
          homes = homes';
          views = set s.views id (record (view.saw (Piece place i) (bit_or (c.word (Piece place i)) (2 ^ (x.partition - first_part G i))) d) { pending = left_of G i x });
        } c'
    lays_home id d at live who =
        let y : Name = Piece place i in let w : ℕ = bit_or (c.word y) (2 ^ (x.partition - first_part G i)) in
        let fits : Fits G y = (there, piece) in
        let a = r.seats id d at live in
        let d' : View = record (view.saw y w d) { pending = left_of G i x } in
        steps may key s r id d d' y w homes' c' r.bytes at live live refl fits sound' (λ z f. refl)
        (λ z f. subst (λ (u : Shown). IsLater (c.word z) (u.word z)) is (L.grows c (LayPiece n p i) z r.sound allowed f))
        (subst (Others c c') (sym who) (lays_others G c n i x))
        (subst (λ (u : ℕ). Agrees G (lays_piece G u i x c) r.alone r.markers r.watchers r.seat id d') who (lays_agree G c r.alone r.markers r.watchers r.seat id i x d fits a))
        (stocked_length s.homes (slot_number G place first) zs)
        stands kept r.marks r.takes

  -- the lay of a claim that pends, of buffers that are filled with their parts of the mark
  pub lay_leads : (s : At) (r : Rule may key s) (id : ℕ) (d : View) (n p i v : ℕ) (x : Pending) (b : List ℕ) (xs : List Buf) → get_elem? s.views id ≡ some d → d.standing ≡ Seated → MayMake d (LayPiece n p i)
      → d.pending ≡ Some x → Contains d.marks (mark x.round p b) → length xs ≡ after_shared G p i - first_shared G p i → AreCuts G x.round b (first_shared G p i) xs
      → v ≡ get_or s.words (address G (Piece (x.round % G.depth) i)) 0
      → Held may key record {
        words = set s.words (address G (Piece (x.round % G.depth) i)) (bit_or v (2 ^ (p - first_part G i)));
        homes = stocked s.homes (slot_number G (x.round % G.depth) (first_shared G p i)) (map Some xs);
        views = set s.views id (view.laid i x (bit_or v (2 ^ (p - first_part G i))) d);
      } (after G r.core (LayPiece n p i))
  lay_leads s r id d n p i v x b xs at live h pend mine size all found =
      let a = r.seats id d at live in let y : Name = Piece (x.round % G.depth) i in
      let allowed = may_make G r.shape r.core r.alone r.markers r.watchers r.seat id d r.sound a (LayPiece n p i) h in
      let at_core : r.core.pending n ≡ Some x = ap r.core.pending (sym h.0) ∙ (sym a.pending_is ∙ pend) in
      let same : allowed.0 ≡ x = pend_one allowed.0 x (sym allowed.1 ∙ at_core) in
      let may_lay : MayLay G x p i = subst (λ (z : Pending). MayLay G z p i) same allowed.2 in
      let is : after G r.core (LayPiece n p i) ≡ lays_piece G n i x r.core = ap (λ (o : Option Pending). lays G n i o r.core) at_core in
      let fits : Fits G y = (place_there x.round G.depth r.shape.depth.0, may_lay.piece) in
      let mine' : Contains (r.core.marks n) (mark x.round p b) = subst (λ (z : List (Mark (List ℕ))). Contains z (mark x.round p b)) (a.marks_is ∙ ap r.core.marks h.0) mine in
      let led = lays_home s r n p i x b xs at_core may_lay.partition may_lay.piece may_lay.touches size all mine' allowed is id d at live h.0 in
      let word : r.core.word y ≡ v = sym (found ∙ r.words y fits) in
      let w : bit_or (r.core.word y) (2 ^ (x.partition - first_part G i)) ≡ bit_or v (2 ^ (p - first_part G i)) = (λ q. bit_or (word q) (2 ^ (may_lay.partition q - first_part G i))) in
      let P : ℕ × Shape → Type 0 = λ z. Held may key record {
        words = set s.words (address G y) z.0;
        homes = stocked s.homes (slot_number G (x.round % G.depth) (first_shared G p i)) (map Some xs);
        views = set s.views id (record (view.saw (Piece (x.round % z.1.depth) i) z.0 d) { pending = left_of z.1 i x });
      } (after G r.core (LayPiece n p i)) in
      subst P (λ q. (w q, sym a.geometry q)) (subst (λ (z : Shown). Held may key record {
        words = set s.words (address G y) (bit_or (r.core.word y) (2 ^ (x.partition - first_part G i)));
        homes = stocked s.homes (slot_number G (x.round % G.depth) (first_shared G p i)) (map Some xs);
        views = set s.views id (record (view.saw y (bit_or (r.core.word y) (2 ^ (x.partition - first_part G i))) d) { pending = left_of G i x });
      } z) (sym is) led)
