-- A return: the buffers of a receive partition that was taken come home, with the receiver's round. Nothing is said of their
-- bytes from then on.
use Rattle.std.proofs.Common.{◌≡◌, ◌⊎◌, inl, inr, ⊎_elim, ℕ, ◌+◌, ◌-◌, ◌*◌, ◌%◌, ◌/◌, ◌^◌, ◌<◌, ◌≤◌, Bool, ◌==◌, List, length, map, get_or, set, Option, Some, refl, sym, ap, ◌∙◌, subst, arith, bit_or}
use Rattle.std.proofs.lemmas.Bool.{eq-eqb, eqb-true}
use Rattle.std.proofs.lemmas.List.{length-map}
use Rattle.std.proofs.Math.Nat.{mul-le-mul_right}
use mathlib.Core.Option.{some, none}
use mathlib.Core.Option as maybe
use lib.ListN.{get_elem?}
use Rattle.gate_word.specs.Words.{round_in}
use Rattle.part_geometry.specs.Shape.{Shape}
use Rattle.part_geometry.specs.Cells.{cells, recv_of}
use Rattle.part_tables.specs.Parts.{first_received}
use Rattle.part_tables.specs.Bytes.{cell_bytes}
use Rattle.part_tables.proofs.Facts.{in_received, first_received-le, first_received-mono}
use Rattle.pair_core.specs.Names.{Name, Return, Fits}
use Rattle.pair_core.specs.Core.{Slot, Home}
use Rattle.pair_core.specs.Steps.{saw, returns_part}
use Rattle.pair_core.specs.Moves.{Move, ReturnPart, LayPiece, IsAllowed, after}
use Rattle.pair_core.specs.Facts.{piece_word, IsKept, BringsHome}
use Rattle.pair_core.specs.declared.view.RecvSide.{RecvSide}
use Rattle.slot_rows.specs.Lists.{Every}
use Rattle.slot_rows.proofs.Acts.{stocked, stocked_here, stocked_else, stocked_length}
use Rattle.pair_rule.specs.Addresses.{address}
use Rattle.pair_rule.specs.Buf.{Buf}
use Rattle.pair_rule.specs.Rule.{At, Shown, slot_number, slot_row, cell_length, Stands, Agrees, Rule}
use Rattle.pair_rule.specs.Views as view
use Rattle.pair_rule.specs.Steps.{MayMake, AreOf}
use Rattle.pair_rule.specs.declared.view.View.{View}
use Rattle.pair_rule.specs.declared.view.Standing.TheVariants.{Seated}
use Rattle.pair_rule.specs.declared.rule.Key.{Key}
use Rattle.pair_rule.proofs.Core.{CoreLaws}
use Rattle.pair_rule.proofs.Bridge.{Held, Others, saw_others, saw_agrees, steps}
use Rattle.pair_rule.proofs.Allowed.{may_make, word_there, place_there}
use Rattle.pair_rule.proofs.SlotFacts.{IsAmong, among, number_in, number_out, every_back}
use Rattle.pair_rule.proofs.SlotFacts as slots

returns_others : (g : Shape) (c : Shown) (q : ℕ) → Others c (returns_part g q c) 1
returns_others g c q = let o = saw_others c 1 (Return (q / 32)) (bit_or (c.word (Return (q / 32))) (2 ^ (q % 32))) in record {
  life = o.life;
  seen = o.seen;
  looks = o.looks;
  pending = o.pending;
  marks = o.marks;
  send = o.send;
  recv = o.recv;
  takes = o.takes;
}

returns_agree : (g : Shape) (c : Shown) (alone : Bool) (markers watchers : ℕ) (seat : ℕ → ℕ) (id q : ℕ) (d : View) → Fits g (Return (q / 32)) → d.number ≡ 1
    → Agrees g c alone markers watchers seat id d
    → Agrees g (returns_part g q c) alone markers watchers seat id (view.given_back q (bit_or (c.word (Return (q / 32))) (2 ^ (q % 32))) d)
returns_agree g c alone markers watchers seat id q d fits first a =
    let x : Name = Return (q / 32) in let w : ℕ = bit_or (c.word x) (2 ^ (q % 32)) in
    let e = subst (λ (z : ℕ). Agrees g (saw z x w c) alone markers watchers seat id (view.saw x w d)) first (saw_agrees g c alone markers watchers seat id d x w fits a) in
    record {
      geometry = e.geometry;
      seat_is = e.seat_is;
      given = e.given;
      live = e.live;
      seen_size = e.seen_size;
      looks_size = e.looks_size;
      seen_is = e.seen_is;
      looks_is = e.looks_is;
      pending_is = e.pending_is;
      marks_is = e.marks_is;
      send_is = e.send_is;
      markers_is = e.markers_is;
      recv_is = e.recv_is;
      takes_is = e.takes_is;
      watchers_is = e.watchers_is;
    }

module _ {T : Type 0} (may : T → ℕ → ℕ → ℕ → Type 0) (key : Key T) (L : CoreLaws key.geometry) where
  abbrev G : Shape
  G = key.geometry

  module _ (s : At) (r : Rule may key s) (q : ℕ) (ys : List Buf) (allowed : IsAllowed G r.core (ReturnPart q))
      (size : length ys ≡ first_received G (q + 1) - first_received G q) (all : AreOf G r.core.recv.round (first_received G q) ys) where
    abbrev c : Shown
    c = r.core

    abbrev c' : Shown
    c' = returns_part G q r.core

    abbrev k : ℕ
    k = c.recv.round

    abbrev place : ℕ
    place = k % G.depth

    abbrev first : ℕ
    first = first_received G q

    abbrev count : ℕ
    count = first_received G (q + 1) - first_received G q

    abbrev these : ℕ → Bool
    these j = recv_of G j == q

    abbrev zs : List (Option Buf)
    zs = map Some ys

    abbrev homes' : List (maybe.Option (Option Buf))
    homes' = stocked s.homes (slot_number G place first) zs

    there : place < G.depth
    there = place_there k G.depth r.shape.depth.0

    low : first ≤ first_received G (q + 1)
    low = first_received-mono G r.shape q (q + 1) (omega arith)

    whole : first + count ≤ cells G
    whole = let h = first_received-le G r.shape (q + 1) in let l = low in omega arith

    sized : length zs ≡ count
    sized = length-map ys Some ∙ size

    room : slot_number G place first + length zs ≤ length s.homes
    room = let h = whole in let t = there in let rows = mul-le-mul_right {m = place + 1} {n = G.depth} (slot_row G) (omega arith) in let deep = r.room in let z = sized in omega (arith, rows)

    of_part : (i : ℕ) → i < cells G → first ≤ i → i < first + count → recv_of G i ≡ q
    of_part i within from to = let l = low in (in_received G r.shape q i within).1 (from, omega arith)

    in_part : (i : ℕ) → i < cells G → recv_of G i ≡ q → (first ≤ i) × (i < first + count)
    in_part i within is = let h = (in_received G r.shape q i within).0 is in let l = low in (h.0, let x = h.1 in omega arith)

    abbrev Fits' : ℕ → Buf → Type 0
    Fits' j y = (e : ℕ) → j ≡ place * slot_row G + e → (y.round ≡ k) × (length y.bytes ≡ cell_length G e)

    filled : Every Fits' (slot_number G place first) ys
    filled = every_back Fits' (λ e y. (y.round ≡ k) × (length y.bytes ≡ cell_length G e)) (place * slot_row G) first ys
        (λ j y from to h e same. let here : j ≡ e = omega arith in (h.0, h.1 ∙ ap (cell_length G) here)) all

    brought : (e j : ℕ) → IsAmong place first count e j → (y : Buf) × (get_elem? homes' (slot_number G e j) ≡ some (some (Some y))) × Fits' (slot_number G e j) y
    brought e j among' = let at = number_in G place first count e j among' in let z = sized in
        stocked_here Some Fits' s.homes (slot_number G place first) ys (slot_number G e j) filled at.0 (let p = at.1 in let zz = size in omega arith) (let p = room in let zz = length-map ys Some in omega arith)

    apart : (e j : ℕ) → j < cells G → ¬ IsAmong place first count e j → (slot_number G e j < slot_number G place first) ⊎ (slot_number G place first + length zs ≤ slot_number G e j)
    apart e j within not = let z = sized in ⊎_elim (λ l. inl l) (λ high. inr (omega arith)) (number_out G place first count e j within whole not)

    stands : (e j : ℕ) → e < G.depth → j < cells G → Stands G j (get_elem? homes' (slot_number G e j)) (c'.slot e j)
    stands e j deep within = ⊎_elim
        (λ (among' : IsAmong place first count e j). let y = brought e j among' in let fits = y.2 j (ap (λ (z : ℕ). z * slot_row G + j) among'.0) in
        subst (Stands G j (get_elem? homes' (slot_number G e j)))
        (sym (slots.put_here c.slot place these (Home k) e j among'.0 (eq-eqb (recv_of G j) q (of_part j within among'.1 among'.2))))
        (y.0, y.1, fits.0, fits.1))
        (λ (not : ¬ IsAmong place first count e j).
        subst (λ (z : maybe.Option (maybe.Option (Option Buf)) × Slot). Stands G j z.0 z.1)
        (λ p. (
          sym (stocked_else s.homes (slot_number G place first) zs (slot_number G e j) (apart e j within not)) p,
          sym (slots.put_else c.slot place these (Home k) e j (λ both. let h = in_part j within (eqb-true (recv_of G j) q both.1) in not (both.0, h.0, h.1))) p,
        ))
        (r.slots e j deep within))
        (among place first count e j)

    kept : (e j : ℕ) (y : Buf) → e < G.depth → j < cells G → get_elem? homes' (slot_number G e j) ≡ some (some (Some y))
        → IsKept G c' e j → 1 ≤ round_in (piece_word G c' e j) → y.bytes ≡ cell_bytes G (r.bytes (round_in (piece_word G c' e j))) j
    kept e j y deep within home tie positive = ⊎_elim
        (λ (among' : IsAmong place first count e j).
        let tie' : IsKept G c' place j = subst (λ (z : ℕ). IsKept G c' z j) among'.0 tie in
        absurd (L.facts.return_unkept c q j r.sound allowed within (of_part j within among'.1 among'.2) tie'))
        (λ (not : ¬ IsAmong place first count e j).
        let here = sym (stocked_else s.homes (slot_number G place first) zs (slot_number G e j) (apart e j within not)) ∙ home in
        ⊎_elim
        (λ (lay : BringsHome G c (ReturnPart q) e j). absurd (no_lay lay.0 _ _ lay.1))
        (λ (t : IsKept G c e j × (round_in (piece_word G c' e j) ≡ round_in (piece_word G c e j))).
        r.kept e j y deep within here t.0 (subst (λ (u : ℕ). 1 ≤ u) t.1 positive) ∙ ap (λ (u : ℕ). cell_bytes G (r.bytes u) j) (sym t.1))
        (L.facts.kept_before c (ReturnPart q) e j r.sound allowed deep within tie))
        (among place first count e j)
      where
        no_lay : (n p i : ℕ) → ◌≡◌ {A = Move (List ℕ)} (ReturnPart q) (LayPiece n p i) → ⊥
        no_lay n p i e = cc

    pub returns_home : (id : ℕ) (d : View) → get_elem? s.views id ≡ some d → d.standing ≡ Seated → d.number ≡ 1
        → Held may key record {
          words = set s.words (address G (Return (q / 32))) (bit_or (c.word (Return (q / 32))) (2 ^ (q % 32)));
          homes = homes';
          views = set s.views id (view.given_back q (bit_or (c.word (Return (q / 32))) (2 ^ (q % 32))) d);
        } c'
    returns_home id d at live who =
        let x : Name = Return (q / 32) in let w : ℕ = bit_or (c.word x) (2 ^ (q % 32)) in
        let fits : Fits G x = word_there q G.recv_parts allowed.0 in
        let a = r.seats id d at live in
        steps may key s r id d (view.given_back q w d) x w homes' c' r.bytes at live live refl fits
        (L.kept c (ReturnPart q) r.sound allowed) (λ y f. refl) (λ y f. L.grows c (ReturnPart q) y r.sound allowed f)
        (subst (Others c c') (sym who) (returns_others G c q))
        (returns_agree G c r.alone r.markers r.watchers r.seat id q d fits who a)
        (stocked_length s.homes (slot_number G place first) zs)
        stands kept r.marks r.takes

  -- the return of a partition whose buffers have the receiver's round and their cells' lengths
  pub return_leads : (s : At) (r : Rule may key s) (id : ℕ) (d : View) (q v : ℕ) (ys : List Buf) → get_elem? s.views id ≡ some d → d.standing ≡ Seated → MayMake d (ReturnPart q)
      → length ys ≡ first_received G (q + 1) - first_received G q → AreOf G d.recv.round (first_received G q) ys → v ≡ get_or s.words (address G (Return (q / 32))) 0
      → Held may key record {
        words = set s.words (address G (Return (q / 32))) (bit_or v (2 ^ (q % 32)));
        homes = stocked s.homes (slot_number G (d.recv.round % G.depth) (first_received G q)) (map Some ys);
        views = set s.views id (view.given_back q (bit_or v (2 ^ (q % 32))) d);
      } (after G r.core (ReturnPart q))
  return_leads s r id d q v ys at live h size all found =
      let a = r.seats id d at live in let x : Name = Return (q / 32) in
      let allowed : IsAllowed G r.core (ReturnPart q) = may_make G r.shape r.core r.alone r.markers r.watchers r.seat id d r.sound a (ReturnPart q) h in
      let fits : Fits G x = word_there q G.recv_parts allowed.0 in
      let word : r.core.word x ≡ v = sym (found ∙ r.words x fits) in
      let now : d.recv.round ≡ r.core.recv.round = ap (λ (z : RecvSide). z.round) (a.recv_is h.0) in
      let led = returns_home s r q ys allowed size (subst (λ (z : ℕ). AreOf G z (first_received G q) ys) now all) id d at live h.0 in
      subst (λ (z : ℕ × ℕ). Held may key record {
        words = set s.words (address G x) (bit_or z.0 (2 ^ (q % 32)));
        homes = stocked s.homes (slot_number G (z.1 % G.depth) (first_received G q)) (map Some ys);
        views = set s.views id (view.given_back q (bit_or z.0 (2 ^ (q % 32))) d);
      } (after G r.core (ReturnPart q))) (λ i. (word i, sym now i)) led
