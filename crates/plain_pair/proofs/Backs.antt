-- A return: what is kept stays sound, and stands for the record with the return. The buffer that is put back is one
-- that was away, so no byte that the pair answers for changes.
use Rattle.std.proofs.Common.{◌≡◌, ◌≢◌, ℕ, ◌+◌, ◌*◌, ◌/◌, ◌%◌, ◌<◌, ◌≤◌, ◌==◌, Bool, true, false, cond, ◌&&◌, ◌||◌, not, List, [], length, get_or, set, refl, ap, sym, ◌∙◌, arith, inl, inr}
use Rattle.std.specs.FinSet as parts
use Rattle.std.specs.Cmp.{nat_cmp_total}
use Rattle.std.proofs.lemmas.Bool.{cases_eq, eq-eqb, ne_eqb, and_from, and_left, and_right, false≢true}
use Rattle.std.proofs.lemmas.List.{length-set, get_or-set_same, get_or-set_other}
use Rattle.std.proofs.Math.Nat.{div-lt_iff_lt-mul}
use Rattle.part_geometry.specs.Shape.{send_total}
use Rattle.plain_pair.specs.Taken.{Taken}
use Rattle.plain_pair.specs.Record.{Record, pieces_out}
use Rattle.plain_pair.specs.Moves.{gave_back}
use Rattle.plain_pair.specs.Kept.{Kept, has, kept_byte, was_taken, kept_out, buffer_place}
use Rattle.plain_pair.specs.Sound.{IsSound, HasRounds, is_away}
use Rattle.plain_pair.specs.Looking.{IsOut}
use Rattle.plain_pair.specs.StandsFor.{StandsFor}
use Rattle.plain_pair.proofs.Touching.{has-set, has-set_other}
use Rattle.plain_pair.proofs.Places.{one_turn, place_inside}
use Rattle.plain_pair.proofs.Marks.{ties}
use Rattle.plain_pair.proofs.Takes.{one_place}

-- what is kept after a return
abbrev pub back_kept : Kept → ℕ → List ℕ → Kept
back_kept k q bytes = record k { back = set k.back q true; buffers = set k.buffers (buffer_place k.shape k.received q) bytes }

-- a return changes no round
same_rounds : (k : Kept) (q : ℕ) (bytes : List ℕ) → HasRounds k → HasRounds (back_kept k q bytes)
same_rounds k q bytes r = record {
  sent = r.sent;
  received = r.received;
  released = r.released;
  begun = r.begun;
  ahead = r.ahead;
  idle_ahead = r.idle_ahead;
  idle = r.idle;
  busy = r.busy;
}

-- after a return each buffer that is there is full
full_back : (k : Kept) (missing : List ℕ) (t : Taken) → IsSound k missing → IsOut k t → (place x : ℕ) → place < k.shape.depth → x < k.shape.recv_parts
    → is_away (back_kept k t.partition t.bytes) place x ≡ false
    → length (get_or (set k.buffers (buffer_place k.shape k.received t.partition) t.bytes) (place * k.shape.recv_parts + x) []) ≡ k.shape.recv_bytes
full_back k missing t s m place x low high here =
    let g = k.shape in
    let q = t.partition in
    let inside : buffer_place g k.received q < length k.buffers = (let e = s.sizes.buffers_size in let b = place_inside g s.shape k.received q m.inside in omega arith) in
    elim (cases_eq (place * g.recv_parts + x) (buffer_place g k.received q)) [
      | inl same ↦ ap (λ n. length (get_or (set k.buffers (buffer_place g k.received q) t.bytes) n [])) same
          ∙ ap length (get_or-set_same k.buffers (buffer_place g k.received q) t.bytes [] inside) ∙ m.size
      | inr other ↦
          ap length (get_or-set_other k.buffers (buffer_place g k.received q) (place * g.recv_parts + x) t.bytes [] other)
          ∙ s.sizes.full place x low high (elim (cases_eq x q) [
            | inr apart ↦ ap (λ b. (k.receiving && (place == k.received % g.depth)) && (has k.taken x && not b)) (sym (has-set_other k.back q x apart)) ∙ here
            | inl one ↦
                let elsewhere : place ≢ k.received % g.depth = λ e. other (ap (λ n. n * g.recv_parts + x) e ∙ ap (λ y. k.received % g.depth * g.recv_parts + y) one) in
                and_left (k.receiving && (place == k.received % g.depth)) (has k.taken x && not (has k.back x)) (and_right k.receiving (place == k.received % g.depth) (ne_eqb _ _ elsewhere))
          ])
    ]

-- what is kept after a return is sound
pub sound_back : (k : Kept) (missing : List ℕ) (t : Taken) → IsSound k missing → IsOut k t → IsSound (back_kept k t.partition t.bytes) missing
sound_back k missing t s m =
    let g = k.shape in
    let q = t.partition in
    record {
      shape = s.shape;
      sizes = record {
        marked_size = s.sizes.marked_size;
        taken_size = s.sizes.taken_size;
        back_size = length-set k.back q true ∙ s.sizes.back_size;
        missing_size = s.sizes.missing_size;
        buffers_size = length-set k.buffers (buffer_place g k.received q) t.bytes ∙ s.sizes.buffers_size;
        full = full_back k missing t s m;
      };
      rounds = same_rounds k q t.bytes s.rounds;
      counts = s.counts;
      whole = s.whole;
      done = s.done;
      arrived = s.arrived;
      returned = λ part inside back.
          elim (cases_eq part q) [
            | inl one ↦ ap (has k.taken) one ∙ m.was_taken
            | inr other ↦ s.returned part inside (sym (has-set_other k.back q part other) ∙ back)
          ];
    }

-- a place of a round in flight that wasn't taken lies in a buffer that stays
byte_stays : (k : Kept) (missing : List ℕ) (t : Taken) (round x : ℕ) → IsSound k missing → IsOut k t → k.released < round → round ≤ k.sent → x < send_total k.shape
    → was_taken k round x ≡ false → kept_byte (back_kept k t.partition t.bytes) round x ≡ kept_byte k round x
byte_stays k missing t round x s m later upto inside free =
    let g = k.shape in
    let q = t.partition in
    let pos : 0 < g.depth = omega (arith, s.shape.depth.0) in
    let ahead = s.rounds.ahead in
    let received = s.rounds.busy m.active in
    let part : x / g.recv_bytes < g.recv_parts = (div-lt_iff_lt-mul {k = g.recv_bytes} {x = x} {y = g.recv_parts} (let h = s.shape.recv_bytes.0 in omega arith)).1 (let e = s.shape.same in omega arith) in
    let apart : buffer_place g round (x / g.recv_bytes) ≢ buffer_place g k.received q = λ same.
    let e = one_place (round % g.depth) (k.received % g.depth) q (x / g.recv_bytes) g.recv_parts m.inside part same in
    let one : round ≡ k.received = one_turn k.released round k.received g.depth pos later (omega arith) (omega arith) (omega arith) e.0 in
    let taken : was_taken k round x ≡ true = and_from ((round == k.received) && k.receiving) (has k.taken (x / g.recv_bytes))
    (and_from (round == k.received) k.receiving (eq-eqb _ _ one) m.active) (ap (has k.taken) e.1 ∙ m.was_taken) in
    false≢true (sym free ∙ taken) in
    ap (λ buffer. get_or buffer (x % g.recv_bytes) 0) (get_or-set_other k.buffers (buffer_place g k.received q) (buffer_place g round (x / g.recv_bytes)) t.bytes [] apart)

-- and stands for the record with the return
pub stands_back : (k : Kept) (missing : List ℕ) (r : Record) (t : Taken) → IsSound k missing → IsOut k t → StandsFor k r → StandsFor (back_kept k t.partition t.bytes) (gave_back r t.partition)
unfolding kept_out pieces_out
stands_back k missing r t s m st =
    let there : t.partition < length k.back = (let e = s.sizes.back_size in let i = m.inside in omega arith) in
    let released_is = st.released in let sent_is = st.sent in
    record {
      sent = st.sent;
      received = st.received;
      released = st.released;
      sending = st.sending;
      receiving = st.receiving;
      taken = st.taken;
      back = λ part inside. has-set k.back t.partition part there ∙ chosen (part == t.partition) (has k.back part) (parts.contains r.back part) (st.back part inside)
          ∙ ap (λ b. b || parts.contains r.back part) (sym (ties part t.partition)) ∙ sym (parts.contains-insert nat_cmp_total r.back t.partition part);
      out = st.out;
      marks = st.marks;
      bytes = λ round x later upto inside is free.
          byte_stays k missing t round x s m (omega arith) (omega arith) inside free ∙ st.bytes round x later upto inside is free;
    }
  where
    chosen : (b c d : Bool) → c ≡ d → cond b true c ≡ (b || d)
    chosen true c d e = refl
    chosen false c d e = e
