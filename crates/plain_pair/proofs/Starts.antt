-- Starting a side: what is kept stays sound, and stands for the record with the start. The round that is left behind is
-- whole, so its pieces are all out, and the new one has none out and nothing taken.
use Rattle.std.proofs.Common.{◌≡◌, ◌≢◌, ℕ, Ok, Err, add-zero, ◌+◌, ◌-◌, ◌*◌, ◌/◌, ◌<◌, ◌≤◌, Bool, true, false, not, ◌==◌, List, [], length, map, replicate, refl, ap, sym, ◌∙◌, arith, inl, inr}
use Rattle.std.specs.FinSet as parts
use Rattle.std.specs.Ordering.{nat_cmp}
use Rattle.std.specs.List.{range_with_len}
use Rattle.std.proofs.lemmas.Bool.{eqb-false, cond-true, cond-false, cases_lt, cases_Bool, eq-eqb, ne_eqb, lt-ltb, le-ltb, or_left, and_left, and_right, false≢true}
use Rattle.std.proofs.lemmas.List.{length-replicate, length_push, get_or-replicate}
use Rattle.std.proofs.lemmas.Nat.{mul-le}
use Rattle.std.proofs.Math.Nat.{one-mul, zero-mul, add-mul}
use Rattle.std.proofs.lemmas.List.FromFn.{length-map-range_with_len, get_or-map-range_with_len}
use Rattle.part_geometry.specs.declared.TheConstants.{LAST_ROUND}
use Rattle.part_geometry.specs.declared.answers.StartFault.TheVariants.{RoundsSpent}
use Rattle.part_geometry.specs.Shape.{Shape, IsShape}
use Rattle.part_geometry.specs.Pieces.{pieces, need_count, needed, first_part}
use Rattle.plain_pair.specs.Record.{Record, no_marks, is_marked, pieces_out, byte_at, first_record}
use Rattle.plain_pair.specs.Moves.{start_answer, start_send_answer, after_start_send, start_recv_answer, after_start_recv, started_send, started_recv}
use Rattle.plain_pair.specs.Kept.{Kept, has, kept_mark, was_taken, kept_out, is_whole}
use Rattle.plain_pair.specs.Sound.{IsSound, unmarked}
use Rattle.plain_pair.specs.StandsFor.{StandsFor, Follows}
use Rattle.plain_pair.proofs.Counts.{has-none, count-all, count-none}
use Rattle.plain_pair.proofs.Rounds.{is_marked-none, round_of-old, round_of-new, pieces_out-new, is_whole-none, is_whole-all}

-- what is kept once the send is started
abbrev pub sending_kept : Kept → Kept
sending_kept k = record k { sent = k.sent + 1; sending = true; marked = replicate (length k.marked) false }

-- where nothing is marked, a piece lacks all partitions that it touches
unmarked-none : (g : Shape) (n i : ℕ) → unmarked g (replicate n false) i ≡ need_count g i
unfolding unmarked needed
unmarked-none g n i = count-all (λ p. not (has (replicate n false) p)) (first_part g i) (need_count g i) (λ p low high. ap not (has-none n p))

-- an earlier round than the sender's is whole
pub kept_mark-before : (k : Kept) (round p : ℕ) → round < k.sent → kept_mark k round p ≡ true
kept_mark-before k round p before = or_left _ _ (lt-ltb round k.sent before)

-- no mark is kept of a later round
kept_mark-after : (k : Kept) (round p : ℕ) → k.sent < round → kept_mark k round p ≡ false
kept_mark-after k round p above = rw (le-ltb round k.sent (omega arith), ne_eqb round k.sent (omega arith)) refl

-- a mark that is kept is in a round up to the sender's
pub kept_mark-within : (k : Kept) (round p : ℕ) → kept_mark k round p ≡ true → round ≤ k.sent
kept_mark-within k round p is =
    elim (cases_lt k.sent round) [
      | inl above ↦ absurd (false≢true (sym (kept_mark-after k round p above) ∙ is))
      | inr ok ↦ ok
    ]

-- what is kept once the send is started is sound, with all that each piece needs missing
pub sound_start_send : (k : Kept) (missing needs : List ℕ) → IsSound k missing → k.sending ≡ false → k.sent < LAST_ROUND
    → needs ≡ map (need_count k.shape) (range_with_len 0 (pieces k.shape)) → IsSound (sending_kept k) needs
sound_start_send k missing needs s idle more is =
    let g = k.shape in
    let r = s.rounds in
    record {
      shape = s.shape;
      sizes = record {
        marked_size = length-replicate _ _ ∙ s.sizes.marked_size;
        taken_size = s.sizes.taken_size;
        back_size = s.sizes.back_size;
        missing_size = rw is (length-map-range_with_len (need_count g) 0 (pieces g));
        buffers_size = s.sizes.buffers_size;
        full = s.sizes.full;
      };
      rounds = record {
        sent = omega arith;
        received = r.received;
        released = (let h = r.released in omega arith);
        begun = λ e. omega arith;
        ahead = (let h = r.idle_ahead idle in omega arith);
        idle_ahead = λ e. absurd (false≢true (sym e));
        idle = r.idle;
        busy = r.busy;
      };
      counts = λ i inside. rw is (get_or-map-range_with_len (need_count g) 0 (pieces g) i i 0 inside (omega arith)) ∙ sym (unmarked-none g (length k.marked) i);
      whole = λ e. absurd (false≢true (sym e));
      done = λ e. (let h = r.released in absurd (omega arith));
      arrived = λ busy q x inside taken place there.
          let old = s.arrived busy q x inside taken place there in
          kept_mark-before (sending_kept k) k.received _ (let h = kept_mark-within k k.received _ old in omega arith);
      returned = s.returned;
    }

-- a round after the released one is at least 1
later_pos : (a b : ℕ) → a < b → 0 < b
later_pos a b h = omega arith

-- once the send is started, the pieces out are all those of the rounds before
pub kept_out-sending : (k : Kept) → IsShape k.shape → kept_out (sending_kept k) ≡ k.sent * pieces k.shape
unfolding kept_out
kept_out-sending k v =
    let g = k.shape in
    let marks = replicate (length k.marked) false in
    let none = count-none (is_whole g marks) 0 (pieces g) (λ i low high. is_whole-none g v (length k.marked) i (omega arith)) in
    let before : k.sent + 1 - 1 ≡ k.sent = omega arith in
    rw (ne_eqb (k.sent + 1) 0 (λ e. omega arith), none, before) (add-zero _)

-- and as many are out before, where the sender's round is whole
pub kept_out-whole : (k : Kept) → IsShape k.shape → ((p : ℕ) → 0 < k.sent → p < k.shape.send_parts → has k.marked p ≡ true) → kept_out k ≡ k.sent * pieces k.shape
unfolding kept_out
kept_out-whole k v whole =
    let g = k.shape in
    elim (cases_lt 0 k.sent) [
      | inl some ↦
          let all = count-all (is_whole g k.marked) 0 (pieces g) (λ i low high. is_whole-all g v k.marked i (omega arith) (λ p inside. whole p some inside)) in
          let split : (k.sent - 1) * pieces g + pieces g ≡ k.sent * pieces g =
          ap (λ n. (k.sent - 1) * pieces g + n) (sym (one-mul (pieces g))) ∙ sym (add-mul (k.sent - 1) 1 (pieces g)) ∙ ap (λ n. n * pieces g) (let z : k.sent - 1 + 1 ≡ k.sent = omega arith in z) in
          rw (ne_eqb k.sent 0 (λ e. omega arith), all) split
      | inr no_round ↦
          let zero_is : k.sent ≡ 0 = omega arith in
          rw zero_is (sym (zero-mul (pieces g)))
    ]

-- what is kept once the send is started stands for the record with the start
pub stands_start_send : (k : Kept) (missing : List ℕ) (r : Record) → IsSound k missing → k.sending ≡ false → StandsFor k r → StandsFor (sending_kept k) (started_send r)
stands_start_send k missing r s idle st =
    let g = k.shape in
    let size = length_push r.rounds no_marks in
    record {
      sent = (let e = st.sent in omega arith);
      received = st.received;
      released = st.released;
      sending = refl;
      receiving = st.receiving;
      taken = st.taken;
      back = st.back;
      out = kept_out-sending k s.shape ∙ sym (kept_out-whole k s.shape (λ p some inside. s.whole idle some p inside)) ∙ st.out
          ∙ sym (pieces_out-new g s.shape r (started_send r) refl);
      marks = λ round p later upto inside.
          elim (cases_lt (length r.rounds) round) [
            | inl new ↦
                let same : round ≡ length r.rounds + 1 = omega arith in
                let here : round ≡ k.sent + 1 = (let e = st.sent in omega arith) in
                let unmarked_is : kept_mark (sending_kept k) round p ≡ false = rw (le-ltb round (k.sent + 1) (omega arith), eq-eqb round (k.sent + 1) here) (has-none (length k.marked) p) in
                unmarked_is ∙ sym (is_marked-none p) ∙ ap (λ x. is_marked x p) (sym (round_of-new r.rounds no_marks round same))
            | inr old ↦
                let before : round < k.sent + 1 = (let e = st.sent in omega arith) in
                let was : kept_mark k round p ≡ true = elim (cases_lt round k.sent) [
                  | inl less ↦ kept_mark-before k round p less
                  | inr same ↦ let here : round ≡ k.sent = omega arith in
                      rw (here, le-ltb k.sent k.sent (omega arith), eq-eqb k.sent k.sent refl) (s.whole idle (omega arith) p inside)
                ] in
                kept_mark-before (sending_kept k) round p before ∙ sym was ∙ st.marks round p later old inside
                ∙ ap (λ x. is_marked x p) (sym (round_of-old r no_marks round (later_pos _ _ later) old))
          ];
      bytes = λ round x later upto inside marked free.
          elim (cases_lt (length r.rounds) round) [
            | inl new ↦
                let same : round ≡ length r.rounds + 1 = omega arith in
                absurd (false≢true (sym (is_marked-none _) ∙ ap (λ z. is_marked z (x / g.send_bytes)) (sym (round_of-new r.rounds no_marks round same)) ∙ marked))
            | inr old ↦
                let e = round_of-old r no_marks round (later_pos _ _ later) old in
                st.bytes round x later old inside (ap (λ z. is_marked z (x / g.send_bytes)) (sym e) ∙ marked) free ∙ ap (λ z. byte_at g z x) (sym e)
          ];
    }

-- what is kept once the receive is started
abbrev pub receiving_kept : Kept → Kept
receiving_kept k = record k {
  received = k.received + 1;
  receiving = true;
  taken = replicate (length k.taken) false;
  back = replicate (length k.back) false;
}

-- once the receive is started, no place was taken
was_taken-none : (k : Kept) (round x : ℕ) → was_taken (receiving_kept k) round x ≡ false
was_taken-none k round x = and_right _ _ (has-none (length k.taken) (x / k.shape.recv_bytes))

-- and none was where the receiver is inactive
was_taken-idle : (k : Kept) (round x : ℕ) → k.receiving ≡ false → was_taken k round x ≡ false
was_taken-idle k round x idle = and_left _ _ (and_right (round == k.received) _ idle)

-- what is kept once the receive is started stands for the record with the start
pub stands_start_recv : (k : Kept) (r : Record) → k.receiving ≡ false → StandsFor k r → StandsFor (receiving_kept k) (started_recv r)
unfolding kept_out pieces_out
stands_start_recv k r idle st = record {
  sent = st.sent;
  received = ap (λ n. n + 1) st.received;
  released = st.released;
  sending = st.sending;
  receiving = refl;
  taken = λ q inside. has-none (length k.taken) q ∙ sym (parts.contains-empty nat_cmp q);
  back = λ q inside. has-none (length k.back) q ∙ sym (parts.contains-empty nat_cmp q);
  out = st.out;
  marks = st.marks;
  bytes = λ round x later upto inside marked free. st.bytes round x later upto inside marked (was_taken-idle k round x idle);
}

-- the buffers of each place lie one after another
pub place_below : (place q places parts : ℕ) → place < places → q < parts → place * parts + q < places * parts
place_below place q places parts low high =
    let h : (place + 1) * parts ≤ places * parts = mul-le (place + 1) parts places parts (omega arith) (omega arith) in
    let e : (place + 1) * parts ≡ place * parts + parts = add-mul place 1 parts ∙ ap (λ n. place * parts + n) (one-mul parts) in
    omega arith

-- a new pair
abbrev pub first_kept : Shape → List (List ℕ) → Kept
first_kept g buffers = record {
  shape = g;
  sent = 0;
  received = 0;
  released = 0;
  sending = false;
  receiving = false;
  marked = replicate g.send_parts false;
  taken = replicate g.recv_parts false;
  back = replicate g.recv_parts false;
  buffers = buffers;
}

-- a new pair, with a buffer of zeros for each receive partition at each place, is sound
pub sound_first : (g : Shape) (v : IsShape g) (needs : List ℕ) → needs ≡ map (need_count g) (range_with_len 0 (pieces g))
    → IsSound (first_kept g (replicate (g.depth * g.recv_parts) (replicate g.recv_bytes 0))) needs
sound_first g v needs is = record {
  shape = v;
  sizes = record {
    marked_size = length-replicate _ _;
    taken_size = length-replicate _ _;
    back_size = length-replicate _ _;
    missing_size = rw is (length-map-range_with_len (need_count g) 0 (pieces g));
    buffers_size = length-replicate _ _;
    full = λ place q low high away.
        ap length (get_or-replicate (g.depth * g.recv_parts) (place * g.recv_parts + q) (replicate g.recv_bytes 0) [] (place_below place q g.depth g.recv_parts low high))
        ∙ length-replicate _ _;
  };
  rounds = record {
    sent = omega arith;
    received = omega arith;
    released = omega arith;
    begun = λ e. absurd (false≢true e);
    ahead = omega arith;
    idle_ahead = λ e. (let h = v.depth.0 in omega arith);
    idle = λ e. refl;
    busy = λ e. absurd (false≢true e);
  };
  counts = λ i inside. rw is (get_or-map-range_with_len (need_count g) 0 (pieces g) i i 0 inside (omega arith)) ∙ sym (unmarked-none g g.send_parts i);
  whole = λ e some. absurd (omega arith);
  done = λ e some. absurd (omega arith);
  arrived = λ e. absurd (false≢true e);
  returned = λ q inside e. absurd (false≢true (sym (has-none g.recv_parts q) ∙ e));
}

-- and stands for the record before any call
pub stands_first : (g : Shape) (buffers : List (List ℕ)) → StandsFor (first_kept g buffers) first_record
unfolding kept_out pieces_out
stands_first g buffers = record {
  sent = refl;
  received = refl;
  released = refl;
  sending = refl;
  receiving = refl;
  taken = λ q inside. has-none g.recv_parts q ∙ sym (parts.contains-empty nat_cmp q);
  back = λ q inside. has-none g.recv_parts q ∙ sym (parts.contains-empty nat_cmp q);
  out = refl;
  marks = λ round p later upto inside. absurd (omega arith);
  bytes = λ round x later upto inside marked free. absurd (omega arith);
}

-- what an answered start tells
pub start_ok : (active : Bool) (k n : ℕ) → Ok n ≡ start_answer active k → (active ≡ false) × (n ≡ k + 1) × (k ≢ LAST_ROUND)
start_ok true k n is = cc
start_ok false k n is =
    elim (cases_Bool (k == LAST_ROUND)) [
      | inl last ↦ let e : Ok n ≡ Err RoundsSpent = is ∙ cond-true _ _ _ last in cc
      | inr other ↦
          let e : Ok n ≡ Ok (k + 1) = is ∙ cond-false _ _ _ other in
          (refl, cc, eqb-false _ _ other)
    ]

-- the object after an answered start of the send, and of the receive
abbrev pub sent_as : Kept → ℕ → List Bool → Kept
sent_as k n marks = record k { sent = n; sending = true; marked = marks }

abbrev pub received_as : Kept → ℕ → List Bool → List Bool → Kept
received_as k n takes backs = record k { received = n; receiving = true; taken = takes; back = backs }

-- the object after an answered start of the send is sound
pub sound_sending : (k : Kept) (n : ℕ) (marks : List Bool) (missing needs : List ℕ) → IsSound k missing → Ok n ≡ start_answer k.sending k.sent
    → marks ≡ replicate (length k.marked) false → needs ≡ map (need_count k.shape) (range_with_len 0 (pieces k.shape)) → IsSound (sent_as k n marks) needs
sound_sending k n marks missing needs s is marks_are needs_are =
    let h = start_ok k.sending k.sent n is in
    let few = s.rounds.sent in let other = h.2 in
    rw (marks_are, h.1) (sound_start_send k missing needs s h.0 (omega arith) needs_are)

-- an answered start of the send answers as each record says, and leaves the record with the start
pub follows_start_send : (k : Kept) (n : ℕ) (marks : List Bool) (missing : List ℕ) → IsSound k missing → Ok n ≡ start_answer k.sending k.sent
    → marks ≡ replicate (length k.marked) false → Follows k (sent_as k n marks) (Ok n) start_send_answer after_start_send
follows_start_send k n marks missing s is marks_are r st =
    let h = start_ok k.sending k.sent n is in
    let answer : Ok n ≡ start_send_answer r = is ∙ ap (λ b. start_answer b k.sent) st.sending ∙ ap (start_answer r.sending) st.sent in
    let next : after_start_send r ≡ started_send r = rw (← answer) refl in
    let new : StandsFor (sent_as k n marks) (started_send r) = rw (marks_are, h.1) (stands_start_send k missing r s h.0 st) in
    (answer, rw next new)

-- the object after an answered start of the receive is sound: nothing is taken in the new round
pub sound_receiving : (k : Kept) (n : ℕ) (takes backs : List Bool) (missing : List ℕ) → IsSound k missing
    → Ok n ≡ start_answer k.receiving k.received → takes ≡ replicate (length k.taken) false
    → backs ≡ replicate (length k.back) false → IsSound (received_as k n takes backs) missing
sound_receiving k n takes backs missing s is takes_are backs_are =
    let h = start_ok k.receiving k.received n is in
    let r = s.rounds in
    let was = r.idle h.0 in
    let few = r.received in
    let other = h.2 in
    let next = h.1 in
    record {
      shape = s.shape;
      sizes = record {
        marked_size = s.sizes.marked_size;
        taken_size = ap length takes_are ∙ length-replicate _ _ ∙ s.sizes.taken_size;
        back_size = ap length backs_are ∙ length-replicate _ _ ∙ s.sizes.back_size;
        missing_size = s.sizes.missing_size;
        buffers_size = s.sizes.buffers_size;
        full = λ place q low high here. s.sizes.full place q low high (rw h.0 refl);
      };
      rounds = record {
        sent = r.sent;
        received = omega arith;
        released = r.released;
        begun = r.begun;
        ahead = r.ahead;
        idle_ahead = r.idle_ahead;
        idle = λ e. absurd (false≢true (sym e));
        busy = λ e. omega arith;
      };
      counts = s.counts;
      whole = s.whole;
      done = s.done;
      arrived = λ busy q x inside taken place. absurd (false≢true (sym (has-none (length k.taken) q) ∙ ap (λ t. has t q) (sym takes_are) ∙ taken));
      returned = λ q inside back. absurd (false≢true (sym (has-none (length k.back) q) ∙ ap (λ t. has t q) (sym backs_are) ∙ back));
    }

-- an answered start of the receive answers as each record says, and leaves the record with the start
pub follows_start_recv : (k : Kept) (n : ℕ) (takes backs : List Bool) → Ok n ≡ start_answer k.receiving k.received
    → takes ≡ replicate (length k.taken) false → backs ≡ replicate (length k.back) false
    → Follows k (received_as k n takes backs) (Ok n) start_recv_answer after_start_recv
follows_start_recv k n takes backs is takes_are backs_are r st =
    let h = start_ok k.receiving k.received n is in
    let answer : Ok n ≡ start_recv_answer r = is ∙ ap (λ b. start_answer b k.received) st.receiving ∙ ap (start_answer r.receiving) st.received in
    let next : after_start_recv r ≡ started_recv r = rw (← answer) refl in
    let new : StandsFor (received_as k n takes backs) (started_recv r) = rw (takes_are, backs_are, h.1) (stands_start_recv k r h.0 st) in
    (answer, rw next new)

-- a new object
abbrev pub made_as : Shape → List Bool → List Bool → List Bool → List (List ℕ) → Kept
made_as g marks takes backs buffers = record {
  shape = g;
  sent = 0;
  received = 0;
  released = 0;
  sending = false;
  receiving = false;
  marked = marks;
  taken = takes;
  back = backs;
  buffers = buffers;
}

-- an object with lists of the right lengths in which nothing is set is a new pair
pub made_is : (g t : Shape) (marks takes backs : List Bool) (buffers : List (List ℕ)) → t ≡ g
    → marks ≡ replicate g.send_parts false → takes ≡ replicate g.recv_parts false → backs ≡ replicate g.recv_parts false
    → made_as t marks takes backs buffers ≡ first_kept g buffers
made_is g t marks takes backs buffers e m k b i = made_as (e i) (m i) (k i) (b i) buffers

-- the numbers that an object is made of
pub record IsMadeOf (g t : Shape) (sends recvs depth bytes : ℕ) (marks takes backs : List Bool) (buffers : List (List ℕ)) : Type 0 where
  pub shape : t ≡ g
  pub sends_are : sends ≡ g.send_parts
  pub recvs_are : recvs ≡ g.recv_parts
  pub depth_is : depth ≡ g.depth
  pub bytes_are : bytes ≡ g.recv_bytes
  pub marks_are : marks ≡ replicate sends false
  pub takes_are : takes ≡ replicate recvs false
  pub backs_are : backs ≡ replicate recvs false
  pub buffers_are : buffers ≡ replicate (depth * recvs) (replicate bytes 0)

-- and so is one whose lists and buffers are made from these numbers
pub made_first : (g t : Shape) (sends recvs depth bytes : ℕ) (marks takes backs : List Bool) (buffers : List (List ℕ))
    → IsMadeOf g t sends recvs depth bytes marks takes backs buffers
    → made_as t marks takes backs buffers ≡ first_kept g (replicate (g.depth * g.recv_parts) (replicate g.recv_bytes 0))
made_first g t sends recvs depth bytes marks takes backs buffers m =
    made_is g t marks takes backs buffers m.shape (m.marks_are ∙ ap (λ n. replicate n false) m.sends_are)
    (m.takes_are ∙ ap (λ n. replicate n false) m.recvs_are) (m.backs_are ∙ ap (λ n. replicate n false) m.recvs_are)
    ∙ ap (first_kept g) (m.buffers_are ∙ λ i. replicate (m.depth_is i * m.recvs_are i) (replicate (m.bytes_are i) 0))
