-- A claim that wins: the slots of the partition's cells go out to the marker, and the bytes of the mark are from then on
-- those of its round and partition. No seat has a mark of them so far, no receive partition under them was taken in the
-- round, and no buffer that is home has its bytes in it, so what was said of bytes before is said still.
use Rattle.std.proofs.Common.{◌≡◌, ⊎_elim, ℕ, ◌+◌, ◌-◌, ◌*◌, ◌%◌, ◌/◌, ◌^◌, ◌<◌, ◌≤◌, Bool, ◌==◌, List, [], ◌∷◌, length, map, get_or, set, Contains, Option, Some, refl, sym, ap, ◌∙◌, subst, arith, bit_or}
use Rattle.std.specs.Prelude.{if◌then◌else◌}
use Rattle.std.proofs.lemmas.Bool.{eq-eqb, eqb-true}
use Rattle.std.proofs.Math.Nat.{mul-le-mul_right}
use Rattle.gate_word.specs.Order.{IsLater}
use mathlib.Core.Option.{some, none, some-injective, some-ne-none}
use mathlib.Core.Option as maybe
use lib.ListN.{get_elem?}
use Rattle.gate_word.specs.Words.{round_in}
use Rattle.part_geometry.specs.Shape.{Shape}
use Rattle.part_geometry.specs.Cells.{cells, send_of, recv_of}
use Rattle.part_tables.specs.Parts.{first_sent}
use Rattle.part_tables.specs.Bytes.{cell_bytes, part_bytes}
use Rattle.part_tables.proofs.Facts.{in_sent, first_sent-le, first_sent-mono, cell_bytes-agree}
use Rattle.pair_core.specs.Words.{bit}
use Rattle.pair_core.specs.Names.{Name, Claim, Fits, put, put_pair}
use Rattle.pair_core.specs.Core.{Slot, Home, Out, times}
use Rattle.pair_core.specs.Steps.{mark, saw, claims, loads, put_slots}
use Rattle.pair_core.specs.Moves.{TryClaim, MayClaim, IsAllowed, after}
use Rattle.pair_core.specs.Sound.{Sound}
use Rattle.pair_core.specs.Facts.{piece_word, IsKept}
use Rattle.pair_core.specs.declared.view.Mark.{Mark}
use Rattle.pair_core.specs.declared.view.Pending.{Pending}
use Rattle.pair_core.proofs.Facts.{put_here, put_else, put_cases, put_pair_here, put_pair_else}
use Rattle.slot_rows.proofs.Acts.{cleared, cleared_here, cleared_else, cleared_length, Stand, gathered}
use Rattle.pair_rule.specs.Addresses.{address}
use Rattle.pair_rule.specs.Buf.{Buf}
use Rattle.pair_rule.specs.Rule.{At, Shown, slot_number, slot_row, cell_length, Stands, Agrees, MayMark, IsMarked, Rule}
use Rattle.pair_rule.specs.Views as view
use Rattle.pair_rule.specs.Steps.{MayMake, AreLong}
use Rattle.pair_rule.specs.declared.view.View.{View}
use Rattle.pair_rule.specs.declared.view.Standing.TheVariants.{Seated}
use Rattle.pair_rule.specs.declared.rule.Key.{Key}
use Rattle.pair_rule.proofs.Core.{CoreLaws}
use Rattle.pair_rule.proofs.Bridge.{Held, Others, saw_others, saw_agrees, steps}
use Rattle.pair_rule.proofs.Allowed.{seen_same, may_make, word_there, place_there}
use Rattle.pair_rule.proofs.Marks.{in_cons, times_in}
use Rattle.pair_rule.proofs.SlotFacts.{IsAmong, among, number_in, number_out, every_moved, part_bytes-agree}
use Rattle.pair_rule.proofs.SlotFacts as slots

claims_others : (g : Shape) (c : Shown) (n p : ℕ) (b : List ℕ) → Others c (claims g n p b c) n
claims_others g c n p b =
    let x : Name = Claim (p / 32) in let w : ℕ = bit_or (c.word x) (2 ^ (p % 32)) in
    let o = saw_others c n x w in
    record {
      life = o.life;
      seen = o.seen;
      looks = o.looks;
      pending = λ m other. sym (put_else c.pending n (Some record { round = c.send.round; partition = p; laid = [] }) m other);
      marks = λ m other. sym (put_else c.marks n (mark c.send.round p b ∷ c.marks n) m other);
      send = o.send;
      recv = o.recv;
      takes = o.takes;
    }

claims_agree : (g : Shape) (c : Shown) (alone : Bool) (markers watchers : ℕ) (seat : ℕ → ℕ) (id k p : ℕ) (b : List ℕ) (d : View) → Fits g (Claim (p / 32)) → k ≡ c.send.round
    → Agrees g c alone markers watchers seat id d
    → Agrees g (claims g d.number p b c) alone markers watchers seat id (view.claimed k p b (bit_or (c.word (Claim (p / 32))) (2 ^ (p % 32))) d)
claims_agree g c alone markers watchers seat id k p b d fits now a =
    let n : ℕ = d.number in let x : Name = Claim (p / 32) in let w : ℕ = bit_or (c.word x) (2 ^ (p % 32)) in
    let e = saw_agrees g c alone markers watchers seat id d x w fits a in
    record {
      geometry = e.geometry;
      seat_is = e.seat_is;
      given = e.given;
      live = e.live;
      seen_size = e.seen_size;
      looks_size = e.looks_size;
      seen_is = e.seen_is;
      looks_is = e.looks_is;
      pending_is = ap (λ (z : ℕ). let y : Pending = record { round = z; partition = p; laid = [] } in Some y) now ∙ sym (put_here c.pending n (Some record { round = c.send.round; partition = p; laid = [] }));
      marks_is = (λ i. mark (now i) p b ∷ a.marks_is i) ∙ sym (put_here c.marks n (mark c.send.round p b ∷ c.marks n));
      send_is = e.send_is;
      markers_is = e.markers_is;
      recv_is = e.recv_is;
      takes_is = e.takes_is;
      watchers_is = e.watchers_is;
    }

module _ {T : Type 0} (may : T → ℕ → ℕ → ℕ → Type 0) (key : Key T) (L : CoreLaws key.geometry) where
  abbrev G : Shape
  G = key.geometry

  -- the bytes after the mark
  abbrev pub with_mark : (ℕ → ℕ → List ℕ) → ℕ → ℕ → List ℕ → ℕ → ℕ → List ℕ
  with_mark bytes k p b = put_pair bytes k p b

  module _ (s : At) (r : Rule may key s) (n p : ℕ) (b : List ℕ) (inside : p < G.send_parts) (free : MayClaim r.core.word p) where
    abbrev c : Shown
    c = r.core

    abbrev k : ℕ
    k = c.send.round

    abbrev place : ℕ
    place = k % G.depth

    abbrev first : ℕ
    first = first_sent G p

    abbrev count : ℕ
    count = first_sent G (p + 1) - first_sent G p

    low : first ≤ first_sent G (p + 1)
    low = first_sent-mono G r.shape p (p + 1) (omega arith)

    whole : first + count ≤ cells G
    whole = let h = first_sent-le G r.shape (p + 1) in let l = low in omega arith

    there : place < G.depth
    there = place_there k G.depth r.shape.depth.0

    of_part : (i : ℕ) → i < cells G → first ≤ i → i < first + count → send_of G i ≡ p
    of_part i within from to = let l = low in (in_sent G r.shape p i within).1 (from, omega arith)

    in_part : (i : ℕ) → i < cells G → send_of G i ≡ p → (first ≤ i) × (i < first + count)
    in_part i within is = let h = (in_sent G r.shape p i within).0 is in let l = low in (h.0, let x = h.1 in omega arith)

    -- the buffers that are home in its slots
    pub lent : (ys : List Buf) × (length ys ≡ count) × Stand s.homes (slot_number G place first) (map Some ys) × AreLong G first ys
    lent =
        let P : ℕ → Buf → Type 0 = λ j y. (i : ℕ) → j ≡ place * slot_row G + i → length y.bytes ≡ cell_length G i in
        let each : (j : ℕ) → slot_number G place first ≤ j → j < slot_number G place first + count → (y : Buf) × (get_elem? s.homes j ≡ some (some (Some y))) × P j y = λ j from to.
        let i : ℕ = j - place * slot_row G in
        let at : place * slot_row G + i ≡ j = omega arith in
        let within : i < cells G = let h = whole in omega arith in
        let home = L.facts.claim_home c p i r.sound inside free within (of_part i within (omega arith) (omega arith)) in
        let stands : Stands G i (get_elem? s.homes (slot_number G place i)) (Home home.0) = subst (Stands G i (get_elem? s.homes (slot_number G place i))) home.1 (r.slots place i there within) in
        (stands.0, ap (get_elem? s.homes) (sym at) ∙ stands.1, λ x e. stands.3 ∙ ap (cell_length G) (let z : i ≡ x = omega arith in z)) in
        let g = gathered Some P s.homes (slot_number G place first) count each in
        (g.0, g.1, g.2, every_moved P (λ x y. length y.bytes ≡ cell_length G x) (place * slot_row G) first g.0 (λ x y h. h x refl) g.3)

    -- in no other round and of no other partition do the bytes change
    other_bytes : (m q : ℕ) → ¬ ((m ≡ k) × (q ≡ p)) → r.bytes m q ≡ with_mark r.bytes k p b m q
    other_bytes m q not = sym (put_pair_else r.bytes k p b m q not)

    old_mark : (j : ℕ) (m : Mark (List ℕ)) → Contains (c.marks j) m → ¬ ((m.round ≡ k) × (m.partition ≡ p))
    old_mark j m has both =
        let none = L.facts.claim_unmarked c p j r.sound inside free in
        let one : 1 ≤ times m.round m.partition (c.marks j) = times_in m (c.marks j) has in
        let one' : 1 ≤ times k p (c.marks j) = subst (λ (z : ℕ × ℕ). 1 ≤ times z.0 z.1 (c.marks j)) (λ i. (both.0 i, both.1 i)) one in
        omega arith

    old_marked : (j : ℕ) (m : Mark (List ℕ)) → Contains (c.marks j) m → IsMarked may key (with_mark r.bytes k p b) m
    old_marked j m has = let o = r.marks j m has in
        record { bytes_are = o.bytes_are ∙ other_bytes m.round m.partition (old_mark j m has); may_be = o.may_be }

    marked : MayMark may key k p b → (j : ℕ) (m : Mark (List ℕ)) → Contains (put c.marks n (mark k p b ∷ c.marks n) j) m → IsMarked may key (with_mark r.bytes k p b) m
    marked ok j = put_cases c.marks n (mark k p b ∷ c.marks n) (λ _ v. (m : Mark (List ℕ)) → Contains v m → IsMarked may key (with_mark r.bytes k p b) m)
        (λ m has. ⊎_elim
        (λ (e : mark k p b ≡ m). subst (IsMarked may key (with_mark r.bytes k p b)) e (record { bytes_are = sym (put_pair_here r.bytes k p b); may_be = ok }))
        (old_marked n m) (in_cons (mark k p b) m (c.marks n) has))
        (λ i _. old_marked i) j

    took : (m : Mark (List ℕ)) → Contains c.takes m → m.with ≡ part_bytes G (with_mark r.bytes k p b m.round) m.partition
    took m has =
        let often : 1 ≤ times m.round m.partition c.takes = times_in m c.takes has in
        let part = (r.sound.takes.own m.round m.partition often).1 in
        r.takes m has ∙ part_bytes-agree G r.shape (r.bytes m.round) (with_mark r.bytes k p b m.round) m.partition part
        (λ i within is. other_bytes m.round (send_of G i) (λ both.
        let none : times k (recv_of G i) c.takes ≡ 0 = L.facts.claim_untaken c p i r.sound inside free within both.1 in
        let one : 1 ≤ times k (recv_of G i) c.takes = subst (λ (z : ℕ × ℕ). 1 ≤ times z.0 z.1 c.takes) (λ j. (both.0 j, sym is j)) often in
        omega arith))

    kept : (e i : ℕ) (y : Buf) → e < G.depth → i < cells G → get_elem? (cleared s.homes (slot_number G place first) count) (slot_number G e i) ≡ some (some (Some y))
        → IsKept G c e i → 1 ≤ round_in (piece_word G c e i) → y.bytes ≡ cell_bytes G (with_mark r.bytes k p b (round_in (piece_word G c e i))) i
    kept e i y deep within home tie positive = ⊎_elim
        (λ (all : IsAmong place first count e i). let at = number_in G place first count e i all in
        let gone = cleared_here s.homes (slot_number G place first) count (slot_number G e i) at.0 at.1 room in absurd (cc (sym gone ∙ home)))
        (λ (not : ¬ IsAmong place first count e i).
        let m : ℕ = round_in (piece_word G c e i) in
        let same = cleared_else s.homes (slot_number G place first) count (slot_number G e i) (number_out G place first count e i within whole not) in
        r.kept e i y deep within (sym same ∙ home) tie positive
        ∙ cell_bytes-agree G r.shape (r.bytes m) (with_mark r.bytes k p b m) i within (other_bytes m (send_of G i) (λ both. L.facts.claim_unkept c p e i r.sound inside free deep within both.1 tie both.0)))
        (among place first count e i)
      where
        room : slot_number G place first + count ≤ length s.homes
        room = let h = whole in let t = there in let rows = mul-le-mul_right {m = place + 1} {n = G.depth} (slot_row G) (omega arith) in let size = r.room in omega (arith, rows)

    stands : (e i : ℕ) → e < G.depth → i < cells G
        → Stands G i (get_elem? (cleared s.homes (slot_number G place first) count) (slot_number G e i)) (put_slots c.slot place (λ j. send_of G j == p) (Out n) e i)
    stands e i deep within = ⊎_elim
        (λ (all : IsAmong place first count e i). let at = number_in G place first count e i all in
        subst (Stands G i (get_elem? (cleared s.homes (slot_number G place first) count) (slot_number G e i)))
        (sym (slots.put_here c.slot place (λ j. send_of G j == p) (Out n) e i all.0 (eq-eqb (send_of G i) p (of_part i within all.1 all.2))))
        (cleared_here s.homes (slot_number G place first) count (slot_number G e i) at.0 at.1 room))
        (λ (not : ¬ IsAmong place first count e i).
        subst (λ (z : maybe.Option (maybe.Option (Option Buf)) × Slot). Stands G i z.0 z.1)
        (λ j. (
          sym (cleared_else s.homes (slot_number G place first) count (slot_number G e i) (number_out G place first count e i within whole not)) j,
          sym (slots.put_else c.slot place (λ x. send_of G x == p) (Out n) e i (λ both. let h = in_part i within (eqb-true (send_of G i) p both.1) in not (both.0, h.0, h.1))) j,
        ))
        (r.slots e i deep within))
        (among place first count e i)
      where
        room : slot_number G place first + count ≤ length s.homes
        room = let h = whole in let t = there in let rows = mul-le-mul_right {m = place + 1} {n = G.depth} (slot_row G) (omega arith) in let size = r.room in omega (arith, rows)

    pub wins : (id : ℕ) (d : View) → get_elem? s.views id ≡ some d → d.standing ≡ Seated → d.number ≡ n → IsAllowed G c (TryClaim n p b)
        → after G c (TryClaim n p b) ≡ claims G n p b c → MayMark may key k p b
        → Held may key record {
          words = set s.words (address G (Claim (p / 32))) (bit_or (c.word (Claim (p / 32))) (2 ^ (p % 32)));
          homes = cleared s.homes (slot_number G place first) count;
          views = set s.views id (view.claimed k p b (bit_or (c.word (Claim (p / 32))) (2 ^ (p % 32))) d);
        } (claims G n p b c)
    wins id d at live who allowed is ok =
        let x : Name = Claim (p / 32) in let w : ℕ = bit_or (c.word x) (2 ^ (p % 32)) in
        let fits : Fits G x = word_there p G.send_parts inside in
        let a = r.seats id d at live in
        steps may key s r id d (view.claimed k p b w d) x w (cleared s.homes (slot_number G place first) count) (claims G n p b c) (with_mark r.bytes k p b) at live live refl fits
        (subst (Sound G) is (L.kept c (TryClaim n p b) r.sound allowed)) (λ y f. refl)
        (λ y f. subst (λ (z : Shown). IsLater (c.word y) (z.word y)) is (L.grows c (TryClaim n p b) y r.sound allowed f))
        (subst (Others c (claims G n p b c)) (sym who) (claims_others G c n p b))
        (subst (λ (z : ℕ). Agrees G (claims G z p b c) r.alone r.markers r.watchers r.seat id (view.claimed k p b w d)) who
        (claims_agree G c r.alone r.markers r.watchers r.seat id k p b d fits refl a))
        (cleared_length s.homes (slot_number G place first) count)
        stands kept (marked ok) took

  -- the exchange that finds the word that the marker has last seen
  pub claim_leads : (s : At) (r : Rule may key s) (id : ℕ) (d : View) (shown n p : ℕ) (b : List ℕ) → get_elem? s.views id ≡ some d → d.standing ≡ Seated → MayMake d (TryClaim n p b)
      → view.seen d (Claim (p / 32)) ≡ shown → get_or s.words (address G (Claim (p / 32))) 0 ≡ shown → MayMark may key (round_in shown) p b
      → (ys : List Buf) × (length ys ≡ first_sent G (p + 1) - first_sent G p) × Stand s.homes (slot_number G (round_in shown % G.depth) (first_sent G p)) (map Some ys) × AreLong G (first_sent G p) ys
      × Held may key record {
        words = set s.words (address G (Claim (p / 32))) (bit_or shown (2 ^ (p % 32)));
        homes = cleared s.homes (slot_number G (round_in shown % G.depth) (first_sent G p)) (first_sent G (p + 1) - first_sent G p);
        views = set s.views id (view.claimed (round_in shown) p b (bit_or shown (2 ^ (p % 32))) d);
      } (after G r.core (TryClaim n p b))
  claim_leads s r id d shown n p b at live h saw found ok =
      let a = r.seats id d at live in let x : Name = Claim (p / 32) in
      let allowed = may_make G r.shape r.core r.alone r.markers r.watchers r.seat id d r.sound a (TryClaim n p b) h in
      let inside : p < G.send_parts = allowed.2 in
      let fits : Fits G x = word_there p G.send_parts inside in
      let word : r.core.word x ≡ shown = sym (r.words x fits) ∙ found in
      let seen' : r.core.seen n x ≡ shown = ap (λ (z : ℕ). r.core.seen z x) (sym h.0) ∙ (sym (seen_same G r.shape r.core r.alone r.markers r.watchers r.seat id d a x fits) ∙ saw) in
      let same : r.core.word x ≡ r.core.seen n x = word ∙ sym seen' in
      let is : after G r.core (TryClaim n p b) ≡ claims G n p b r.core = ap (λ (z : Bool). if z then claims G n p b r.core else loads n x r.core) (eq-eqb (r.core.word x) (r.core.seen n x) same) in
      let same_bits : (j : ℕ) → bit (r.core.seen n x) j ≡ bit (r.core.word x) j = λ j. ap (λ (z : ℕ). bit z j) (sym same) in
      let free : MayClaim r.core.word p = let m = allowed.4 in (sym (same_bits 32) ∙ m.0, sym (same_bits (p % 32)) ∙ m.1) in
      let round : r.core.send.round ≡ round_in shown = sym (L.facts.may_claim_active r.core p r.sound inside free).0 ∙ ap round_in word in
      let P : ℕ × ℕ → Type 0 = λ z. (ys : List Buf) × (length ys ≡ first_sent G (p + 1) - first_sent G p) × Stand s.homes (slot_number G (z.0 % G.depth) (first_sent G p)) (map Some ys) × AreLong G (first_sent G p) ys
      × Held may key record {
        words = set s.words (address G x) (bit_or z.1 (2 ^ (p % 32)));
        homes = cleared s.homes (slot_number G (z.0 % G.depth) (first_sent G p)) (first_sent G (p + 1) - first_sent G p);
        views = set s.views id (view.claimed z.0 p b (bit_or z.1 (2 ^ (p % 32))) d);
      } (after G r.core (TryClaim n p b)) in
      let l = lent s r n p b inside free in
      let led = wins s r n p b inside free id d at live h.0 allowed is (subst (λ (z : ℕ). MayMark may key z p b) (sym round) ok) in
      subst P (λ i. (round i, word i)) (
        l.0,
        l.1,
        l.2,
        l.3,
        subst (λ (z : Shown). Held may key record {
          words = set s.words (address G x) (bit_or (r.core.word x) (2 ^ (p % 32)));
          homes = cleared s.homes (slot_number G (r.core.send.round % G.depth) (first_sent G p)) (first_sent G (p + 1) - first_sent G p);
          views = set s.views id (view.claimed r.core.send.round p b (bit_or (r.core.word x) (2 ^ (p % 32))) d);
        } z) (sym is) led,
      )
