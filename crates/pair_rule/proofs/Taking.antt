-- A take: the slots of a receive partition's cells go out to the receive side, with the bytes that were marked there in the
-- receiver's round.
use Rattle.std.proofs.Common.{◌≡◌, ⊎_elim, ℕ, zero, suc, ◌+◌, ◌-◌, ◌*◌, ◌%◌, ◌/◌, ◌^◌, ◌<◌, ◌≤◌, Bool, ◌==◌, List, [], ◌∷◌, ◌++◌, length, map, get_or, set, Option, Some, refl, sym, ap, ◌∙◌, subst, arith, bit_or}
use Rattle.std.specs.List.{flat_map}
use Rattle.std.proofs.lemmas.Bool.{eq-eqb, eqb-true}
use Rattle.std.proofs.Math.Nat.{mul-le-mul_right}
use mathlib.Core.Option.{some, none}
use mathlib.Core.Option as maybe
use lib.ListN.{get_elem?}
use Rattle.gate_word.specs.Words.{round_in}
use Rattle.part_geometry.specs.Shape.{Shape}
use Rattle.part_geometry.specs.Cells.{cells, start, end, send_of, recv_of}
use Rattle.part_tables.specs.Parts.{first_received}
use Rattle.part_tables.specs.Bytes.{bytes_between, byte_at, cell_bytes, part_bytes}
use Rattle.part_tables.proofs.Facts.{in_received, first_received-le, first_received-mono, start-first_received, received-row, bytes_between-append, length-bytes_between, get_or-bytes_between, length-cell_bytes, length-part_bytes, cell-inside, byte_in}
use Rattle.pair_core.specs.Names.{Name, Take, Fits}
use Rattle.pair_core.specs.Core.{Slot, Home, Out}
use Rattle.pair_core.specs.Steps.{mark, saw, takes_part, put_slots}
use Rattle.pair_core.specs.Moves.{TakePart, IsAllowed, after}
use Rattle.pair_core.specs.Facts.{piece_word, IsKept}
use Rattle.pair_core.specs.declared.view.Mark.{Mark}
use Rattle.pair_core.specs.declared.view.RecvSide.{RecvSide}
use Rattle.slot_rows.specs.Lists.{Every}
use Rattle.slot_rows.proofs.Acts.{cleared, cleared_here, cleared_else, cleared_length, Stand, gathered, every_weaker}
use Rattle.pair_rule.specs.Addresses.{address}
use Rattle.pair_rule.specs.Buf.{Buf}
use Rattle.pair_rule.specs.Rule.{At, Shown, slot_number, slot_row, cell_length, Stands, Agrees, MayStand, Rule}
use Rattle.pair_rule.specs.Views as view
use Rattle.pair_rule.specs.Steps.{MayMake, AreOf}
use Rattle.pair_rule.specs.declared.view.View.{View}
use Rattle.pair_rule.specs.declared.view.Standing.TheVariants.{Seated}
use Rattle.pair_rule.specs.declared.rule.Key.{Key}
use Rattle.pair_rule.proofs.Core.{CoreLaws}
use Rattle.pair_rule.proofs.Bridge.{Held, Others, saw_others, saw_agrees, steps}
use Rattle.pair_rule.proofs.Allowed.{may_make, word_there, place_there}
use Rattle.pair_rule.proofs.Marks.{in_cons, in_times}
use Rattle.pair_rule.proofs.SlotFacts.{IsAmong, among, number_in, number_out, every_moved}
use Rattle.pair_rule.proofs.SlotFacts as slots

-- bytes that may stand one after another
may_append : {T : Type 0} (may : T → ℕ → ℕ → ℕ → Type 0) (tag : T) (k from : ℕ) (a b : List ℕ) → MayStand may tag k from a → MayStand may tag k (from + length a) b → MayStand may tag k from (a ++ b)
may_append {T} may tag k from [] b left right j low = subst (λ (z : ℕ). may tag k (z + j) (get_or b j 0)) (let e : from + 0 ≡ from = omega arith in e) (right j low)
may_append {T} may tag k from (x ∷ a) b left right zero low = left 0 (omega arith)
may_append {T} may tag k from (x ∷ a) b left right (suc j) low =
    let e : (n : ℕ) → suc from + n ≡ from + suc n = λ n. omega arith in
    subst (λ (z : ℕ). may tag k z (get_or (a ++ b) j 0)) (e j)
    (may_append may tag k (suc from) a b (λ i less. subst (λ (z : ℕ). may tag k z (get_or a i 0)) (sym (e i)) (left (suc i) (omega arith)))
    (λ i less. subst (λ (z : ℕ). may tag k (z + i) (get_or b i 0)) (sym (e (length a))) (right i less)) j (omega arith))

-- a cell ends where the next one starts
end-next : (g : Shape) (c : ℕ) → end g c ≡ start g (c + 1)
unfolding start end
end-next g c = refl

takes_others : (g : Shape) (c : Shown) (q : ℕ) (b : List ℕ) → Others c (takes_part g q b c) 1
takes_others g c q b = let o = saw_others c 1 (Take (q / 32)) (bit_or (c.word (Take (q / 32))) (2 ^ (q % 32))) in record {
  life = o.life;
  seen = o.seen;
  looks = o.looks;
  pending = o.pending;
  marks = o.marks;
  send = o.send;
  recv = o.recv;
  takes = λ no. absurd (no refl);
}

takes_agree : (g : Shape) (c : Shown) (alone : Bool) (markers watchers : ℕ) (seat : ℕ → ℕ) (id q : ℕ) (b : List ℕ) (d : View) → Fits g (Take (q / 32)) → d.number ≡ 1
    → Agrees g c alone markers watchers seat id d
    → Agrees g (takes_part g q b c) alone markers watchers seat id (view.taken q b (bit_or (c.word (Take (q / 32))) (2 ^ (q % 32))) d)
takes_agree g c alone markers watchers seat id q b d fits first a =
    let x : Name = Take (q / 32) in let w : ℕ = bit_or (c.word x) (2 ^ (q % 32)) in
    let e = subst (λ (z : ℕ). Agrees g (saw z x w c) alone markers watchers seat id (view.saw x w d)) first (saw_agrees g c alone markers watchers seat id d x w fits a) in
    record {
      geometry = e.geometry;
      seat_is = e.seat_is;
      given = e.given;
      live = e.live;
      seen_size = e.seen_size;
      looks_size = e.looks_size;
      seen_is = e.seen_is;
      looks_is = e.looks_is;
      pending_is = e.pending_is;
      marks_is = e.marks_is;
      send_is = e.send_is;
      markers_is = e.markers_is;
      recv_is = e.recv_is;
      takes_is = λ is. (λ i. mark (ap (λ (z : RecvSide). z.round) (a.recv_is first) i) q b ∷ a.takes_is first i);
      watchers_is = e.watchers_is;
    }

module _ {T : Type 0} (may : T → ℕ → ℕ → ℕ → Type 0) (key : Key T) (L : CoreLaws key.geometry) where
  abbrev G : Shape
  G = key.geometry

  module _ (s : At) (r : Rule may key s) (q : ℕ) (w : List ℕ) (allowed : IsAllowed G r.core (TakePart q w)) where
    abbrev c : Shown
    c = r.core

    abbrev k : ℕ
    k = c.recv.round

    abbrev place : ℕ
    place = k % G.depth

    abbrev first : ℕ
    first = first_received G q

    abbrev count : ℕ
    count = first_received G (q + 1) - first_received G q

    abbrev bytes : ℕ → List ℕ
    bytes = r.bytes k

    inside : q < G.recv_parts
    inside = allowed.0

    low : first ≤ first_received G (q + 1)
    low = first_received-mono G r.shape q (q + 1) (omega arith)

    whole : first + count ≤ cells G
    whole = let h = first_received-le G r.shape (q + 1) in let l = low in omega arith

    there : place < G.depth
    there = place_there k G.depth r.shape.depth.0

    room : slot_number G place first + count ≤ length s.homes
    room = let h = whole in let t = there in let rows = mul-le-mul_right {m = place + 1} {n = G.depth} (slot_row G) (omega arith) in let size = r.room in omega (arith, rows)

    of_part : (i : ℕ) → i < cells G → first ≤ i → i < first + count → recv_of G i ≡ q
    of_part i within from to = let l = low in (in_received G r.shape q i within).1 (from, omega arith)

    in_part : (i : ℕ) → i < cells G → recv_of G i ≡ q → (first ≤ i) × (i < first + count)
    in_part i within is = let h = (in_received G r.shape q i within).0 is in let l = low in (h.0, let x = h.1 in omega arith)

    positive : 1 ≤ k
    positive = let e = r.sound.progress.current in let z = allowed.1.1 in omega arith

    -- what a buffer of cell i that is taken is like
    abbrev Taken' : ℕ → Buf → Type 0
    Taken' i y = (y.round ≡ k) × (length y.bytes ≡ cell_length G i) × (y.bytes ≡ cell_bytes G bytes i)

    -- the buffers that are home in its slots
    pub gone : (ys : List Buf) × (length ys ≡ count) × Stand s.homes (slot_number G place first) (map Some ys) × Every Taken' first ys
    gone =
        let P : ℕ → Buf → Type 0 = λ j y. (i : ℕ) → j ≡ place * slot_row G + i → Taken' i y in
        let each : (j : ℕ) → slot_number G place first ≤ j → j < slot_number G place first + count → (y : Buf) × (get_elem? s.homes j ≡ some (some (Some y))) × P j y = λ j from to.
        let i : ℕ = j - place * slot_row G in
        let at : place * slot_row G + i ≡ j = omega arith in
        let within : i < cells G = let h = whole in omega arith in
        let of : recv_of G i ≡ q = of_part i within (omega arith) (omega arith) in
        let home = L.facts.take_home c q i w r.sound allowed within of in
        let stands : Stands G i (get_elem? s.homes (slot_number G place i)) (Home k) = subst (Stands G i (get_elem? s.homes (slot_number G place i))) home.0 (r.slots place i there within) in
        let now : round_in (piece_word G c place i) ≡ k = home.2 in
        let is = r.kept place i stands.0 there within stands.1 home.1 (let p = positive in omega arith) ∙ ap (λ (z : ℕ). cell_bytes G (r.bytes z) i) now in
        (stands.0, ap (get_elem? s.homes) (sym at) ∙ stands.1, λ x e. subst (λ (z : ℕ). Taken' z stands.0) (let z : i ≡ x = omega arith in z) (stands.2, stands.3, is)) in
        let g = gathered Some P s.homes (slot_number G place first) count each in
        (g.0, g.1, g.2, every_moved P Taken' (place * slot_row G) first g.0 (λ x y h. h x refl) g.3)

    -- they have the partition's bytes
    pub whole_bytes : (ys : List Buf) → length ys ≡ count → Every Taken' first ys → flat_map (λ (y : Buf). y.bytes) ys ≡ part_bytes G bytes q
    whole_bytes ys size all = received-row (λ (y : Buf). y.bytes) G r.shape bytes q inside (Every Taken')
        (λ i y rest from to h. (h.0.2, h.1)) ys size all

    -- and these may stand there
    cell_may : (i : ℕ) → i < cells G → recv_of G i ≡ q → MayStand may key.tag k (start G i) (cell_bytes G bytes i)
    cell_may i within of j less =
        let p : ℕ = send_of G i in let x : ℕ = start G i + j in let h = cell-inside G r.shape i within in
        let size = length-cell_bytes G bytes i in
        let a = h.low in let b = h.high in let d = h.rises in
        let byte : get_or (cell_bytes G bytes i) j 0 ≡ get_or (bytes p) (x - p * G.send_bytes) 0 =
        get_or-bytes_between (byte_at G bytes) (start G i) (end G i) j (omega arith) ∙ byte_in G r.shape bytes p x (omega arith) (omega arith) in
        let m = L.facts.take_marked c q i w r.sound allowed within of in
        let one = in_times k p (c.marks m.0) (let e = m.1 in omega arith) in
        let ok = r.marks m.0 one.0 one.1 in
        let same : one.0.with ≡ bytes p = ok.bytes_are ∙ (λ z. r.bytes (one.2 z) (one.3 z)) in
        let long : length (bytes p) ≡ G.send_bytes = ap length (sym same) ∙ ok.may_be.long in
        let may' : MayStand may key.tag k (p * G.send_bytes) (bytes p) = subst (λ (z : (ℕ × ℕ) × List ℕ). MayStand may key.tag z.0.0 (z.0.1 * G.send_bytes) z.1) (λ z. ((one.2 z, one.3 z), same z)) ok.may_be.allowed in
        let at : p * G.send_bytes + (x - p * G.send_bytes) ≡ x = omega arith in
        subst (λ (z : ℕ). may key.tag k x z) (sym byte) (subst (λ (z : ℕ). may key.tag k z (get_or (bytes p) (x - p * G.send_bytes) 0)) at (may' (x - p * G.send_bytes) (let e = h.next in omega arith)))

    all_may : (n : ℕ) → n ≤ count → (start G first ≤ start G (first + n)) × MayStand may key.tag k (start G first) (bytes_between (byte_at G bytes) (start G first) (start G (first + n)))
    all_may zero few = let e : first + 0 ≡ first = omega arith in (
      let z : start G (first + 0) ≡ start G first = ap (start G) e in omega arith,
      λ j less. absurd (let z : start G (first + 0) ≡ start G first = ap (start G) e in let size = length-bytes_between (byte_at G bytes) (start G first) (start G (first + 0)) in omega arith),
    )
    all_may (suc n) few =
        let before = all_may n (omega arith) in let i : ℕ = first + n in
        let within : i < cells G = let h = whole in omega arith in
        let h = cell-inside G r.shape i within in let a = before.0 in let d = h.rises in
        let next : end G i ≡ start G (first + suc n) = end-next G i ∙ ap (start G) (let e : i + 1 ≡ first + suc n = omega arith in e) in
        let f : ℕ → ℕ = byte_at G bytes in
        let joined : bytes_between f (start G first) (start G i) ++ bytes_between f (start G i) (end G i) ≡ bytes_between f (start G first) (start G (first + suc n)) =
        bytes_between-append f (start G first) (start G i) (end G i) a (omega arith) ∙ ap (bytes_between f (start G first)) next in
        let size = length-bytes_between f (start G first) (start G i) in
        let at : start G first + length (bytes_between f (start G first) (start G i)) ≡ start G i = omega arith in (
          omega arith,
          subst (MayStand may key.tag k (start G first)) joined
              (may_append may key.tag k (start G first) (bytes_between f (start G first) (start G i)) (bytes_between f (start G i) (end G i)) before.1
              (subst (λ (z : ℕ). MayStand may key.tag k z (bytes_between f (start G i) (end G i))) (sym at) (cell_may i within (of_part i within (omega arith) (omega arith))))),
        )

    pub may_stand : MayStand may key.tag k (q * G.recv_bytes) (part_bytes G bytes q)
    may_stand =
        let all = all_may count (omega arith) in
        let from : start G first ≡ q * G.recv_bytes = start-first_received G r.shape q (let i = inside in omega arith) in
        let to : start G (first + count) ≡ (q + 1) * G.recv_bytes = ap (start G) (let l = low in let e : first + count ≡ first_received G (q + 1) = omega arith in e) ∙ start-first_received G r.shape (q + 1) (let i = inside in omega arith) in
        subst (λ (z : ℕ × ℕ). MayStand may key.tag k z.0 (bytes_between (byte_at G bytes) z.0 z.1)) (λ i. (from i, to i)) all.1

    stands : (e i : ℕ) → e < G.depth → i < cells G
        → Stands G i (get_elem? (cleared s.homes (slot_number G place first) count) (slot_number G e i)) (put_slots c.slot place (λ j. recv_of G j == q) (Out 1) e i)
    stands e i deep within = ⊎_elim
        (λ (all : IsAmong place first count e i). let at = number_in G place first count e i all in
        subst (Stands G i (get_elem? (cleared s.homes (slot_number G place first) count) (slot_number G e i)))
        (sym (slots.put_here c.slot place (λ j. recv_of G j == q) (Out 1) e i all.0 (eq-eqb (recv_of G i) q (of_part i within all.1 all.2))))
        (cleared_here s.homes (slot_number G place first) count (slot_number G e i) at.0 at.1 room))
        (λ (not : ¬ IsAmong place first count e i).
        subst (λ (z : maybe.Option (maybe.Option (Option Buf)) × Slot). Stands G i z.0 z.1)
        (λ j. (
          sym (cleared_else s.homes (slot_number G place first) count (slot_number G e i) (number_out G place first count e i within whole not)) j,
          sym (slots.put_else c.slot place (λ x. recv_of G x == q) (Out 1) e i (λ both. let h = in_part i within (eqb-true (recv_of G i) q both.1) in not (both.0, h.0, h.1))) j,
        ))
        (r.slots e i deep within))
        (among place first count e i)

    kept : (e i : ℕ) (y : Buf) → e < G.depth → i < cells G → get_elem? (cleared s.homes (slot_number G place first) count) (slot_number G e i) ≡ some (some (Some y))
        → IsKept G c e i → 1 ≤ round_in (piece_word G c e i) → y.bytes ≡ cell_bytes G (r.bytes (round_in (piece_word G c e i))) i
    kept e i y deep within home tie some' = ⊎_elim
        (λ (all : IsAmong place first count e i). let at = number_in G place first count e i all in
        let out = cleared_here s.homes (slot_number G place first) count (slot_number G e i) at.0 at.1 room in absurd (cc (sym out ∙ home)))
        (λ (not : ¬ IsAmong place first count e i).
        r.kept e i y deep within (sym (cleared_else s.homes (slot_number G place first) count (slot_number G e i) (number_out G place first count e i within whole not)) ∙ home) tie some')
        (among place first count e i)

    pub takes_out : (id : ℕ) (d : View) → get_elem? s.views id ≡ some d → d.standing ≡ Seated → d.number ≡ 1 → w ≡ part_bytes G bytes q
        → Held may key record {
          words = set s.words (address G (Take (q / 32))) (bit_or (c.word (Take (q / 32))) (2 ^ (q % 32)));
          homes = cleared s.homes (slot_number G place first) count;
          views = set s.views id (view.taken q w (bit_or (c.word (Take (q / 32))) (2 ^ (q % 32))) d);
        } (takes_part G q w c)
    takes_out id d at live who of =
        let x : Name = Take (q / 32) in let v : ℕ = bit_or (c.word x) (2 ^ (q % 32)) in
        let fits : Fits G x = word_there q G.recv_parts inside in
        let a = r.seats id d at live in
        steps may key s r id d (view.taken q w v d) x v (cleared s.homes (slot_number G place first) count) (takes_part G q w c) r.bytes at live live refl fits
        (L.kept c (TakePart q w) r.sound allowed) (λ y f. refl) (λ y f. L.grows c (TakePart q w) y r.sound allowed f)
        (subst (Others c (takes_part G q w c)) (sym who) (takes_others G c q w))
        (takes_agree G c r.alone r.markers r.watchers r.seat id q w d fits who a)
        (cleared_length s.homes (slot_number G place first) count)
        stands kept r.marks
        (λ m has. ⊎_elim (λ (e : mark k q w ≡ m). subst (λ (z : Mark (List ℕ)). z.with ≡ part_bytes G (r.bytes z.round) z.partition) e of) (r.takes m) (in_cons (mark k q w) m c.takes has))

  -- what a take leads to, and what the seat is told: buffers with the receiver's round and their cells' lengths, which have the bytes
  -- that the take keeps, and these may stand there
  pub record Takes (s : At) (id : ℕ) (d : View) (q v k : ℕ) (c : Shown) : Type 0 where
    pub bufs : List Buf
    pub with : List ℕ
    pub size : length bufs ≡ first_received G (q + 1) - first_received G q
    pub home : Stand s.homes (slot_number G (k % G.depth) (first_received G q)) (map Some bufs)
    pub of : AreOf G k (first_received G q) bufs
    pub bytes : flat_map (λ (y : Buf). y.bytes) bufs ≡ with
    pub long : length with ≡ G.recv_bytes
    pub may_stand : MayStand may key.tag k (q * G.recv_bytes) with
    pub led : Held may key record {
      words = set s.words (address G (Take (q / 32))) (bit_or v (2 ^ (q % 32)));
      homes = cleared s.homes (slot_number G (k % G.depth) (first_received G q)) (first_received G (q + 1) - first_received G q);
      views = set s.views id (view.taken q with (bit_or v (2 ^ (q % 32))) d);
    } (after G c (TakePart q with))

  pub take_leads : (s : At) (r : Rule may key s) (id : ℕ) (d : View) (q v : ℕ) → get_elem? s.views id ≡ some d → d.standing ≡ Seated → MayMake d (TakePart q [])
      → v ≡ get_or s.words (address G (Take (q / 32))) 0 → Takes s id d q v d.recv.round r.core
  take_leads s r id d q v at live h found =
      let a = r.seats id d at live in let x : Name = Take (q / 32) in
      let w : List ℕ = part_bytes G (r.bytes r.core.recv.round) q in
      let allowed : IsAllowed G r.core (TakePart q w) = may_make G r.shape r.core r.alone r.markers r.watchers r.seat id d r.sound a (TakePart q w) h in
      let fits : Fits G x = word_there q G.recv_parts allowed.0 in
      let word : r.core.word x ≡ v = sym (found ∙ r.words x fits) in
      let now : r.core.recv.round ≡ d.recv.round = sym (ap (λ (z : RecvSide). z.round) (a.recv_is h.0)) in
      let g = gone s r q w allowed in
      let led = takes_out s r q w allowed id d at live h.0 refl in
      let here : Takes s id d q v r.core.recv.round r.core = record {
        bufs = g.0;
        with = w;
        size = g.1;
        home = g.2;
        of = every_weaker (λ i y. (y.round ≡ r.core.recv.round) × (length y.bytes ≡ cell_length G i) × (y.bytes ≡ cell_bytes G (r.bytes r.core.recv.round) i))
            (λ i y. (y.round ≡ r.core.recv.round) × (length y.bytes ≡ cell_length G i)) (first_received G q) g.0 (λ i y from to e. (e.0, e.1)) g.3;
        bytes = whole_bytes s r q w allowed g.0 g.1 g.3;
        long = length-part_bytes G (r.bytes r.core.recv.round) q;
        may_stand = may_stand s r q w allowed;
        led = subst (λ (z : ℕ). Held may key record {
          words = set s.words (address G x) (bit_or z (2 ^ (q % 32)));
          homes = cleared s.homes (slot_number G (r.core.recv.round % G.depth) (first_received G q)) (first_received G (q + 1) - first_received G q);
          views = set s.views id (view.taken q w (bit_or z (2 ^ (q % 32))) d);
        } (after G r.core (TakePart q w))) word led;
      } in
      subst (λ (z : ℕ). Takes s id d q v z r.core) now here
