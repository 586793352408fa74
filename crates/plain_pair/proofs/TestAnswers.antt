-- The tests of both sides: their answers by what is kept, and what a side that becomes inactive leaves. What is marked,
-- taken and given back is the same by both, so the least that is left out is too.
use Rattle.std.proofs.Common.{◌≡◌, ℕ, ◌+◌, ◌*◌, ◌/◌, ◌%◌, ◌<◌, ◌≤◌, ◌==◌, nat_lt, Bool, true, false, ◌&&◌, not, Some, None, List, length, refl, ap, sym, ◌∙◌, arith, inl, inr, if◌then◌else◌}
use Rattle.std.specs.FinSet as parts
use Rattle.std.specs.Option.{option_map_or}
use Rattle.std.proofs.lemmas.Bool.{cases_Bool, lt-ltb, le-ltb, ne_eqb, and_left, and_right, not-false, false≢true}
use Rattle.std.proofs.lemmas.Nat.{div-mul-add}
use Rattle.std.proofs.Math.Nat.{div-lt_iff_lt-mul}
use Rattle.part_geometry.specs.declared.answers.RecvTest.{RecvTest}
use Rattle.part_geometry.specs.declared.answers.RecvTest.TheVariants as recv
use Rattle.part_geometry.specs.Shape.{send_total}
use Rattle.plain_pair.specs.declared.answers.PlainSendTest.{PlainSendTest}
use Rattle.plain_pair.specs.declared.answers.PlainSendTest.TheVariants as send
use Rattle.plain_pair.specs.Record.{Record, round_of, is_marked, pieces_out}
use Rattle.plain_pair.specs.Moves.{least_without, test_send_answer, after_test_send, test_recv_answer, after_test_recv}
use Rattle.plain_pair.specs.Kept.{Kept, has, kept_mark, was_taken, kept_out}
use Rattle.plain_pair.specs.Sound.{IsSound}
use Rattle.plain_pair.specs.StandsFor.{StandsFor, Follows}
use Rattle.plain_pair.proofs.Agree.{marks_now}
use Rattle.plain_pair.proofs.Overs.{find-same, find-nothing}
use Rattle.plain_pair.proofs.Marks.{kept_mark-here}
use Rattle.plain_pair.proofs.Starts.{kept_mark-within, place_below}

-- where none is left out, each is among them
each_among : (n : ℕ) (among : ℕ → Bool) → least_without n among ≡ None → (x : ℕ) → x < n → among x ≡ true
each_among n among none x inside = not-false (among x) (find-nothing (λ x. not (among x)) n 0 none x (omega arith) (omega arith))

-- the test of the send, by what is kept
abbrev pub kept_test_send : Kept → PlainSendTest
kept_test_send k =
    if not k.sending then send.Idle else
    option_map_or send.Unmarked (least_without (length k.marked) (has k.marked))
    (if nat_lt k.sent (k.released + k.shape.depth) then send.Done else send.Unreleased k.released)

-- the test of the send answers by each record what it answers by what is kept
pub test_send_is : (k : Kept) (missing : List ℕ) (r : Record) → IsSound k missing → StandsFor k r → test_send_answer k.shape r ≡ kept_test_send k
test_send_is k missing r s st =
    elim (cases_Bool k.sending) [
      | inr idle ↦ rw (← st.sending, idle) refl
      | inl active ↦
          let same : least_without k.shape.send_parts (is_marked (round_of r k.sent)) ≡ least_without (length k.marked) (has k.marked) =
          ap (λ n. least_without n (is_marked (round_of r k.sent))) (sym s.sizes.marked_size)
          ∙ find-same (λ x. not (is_marked (round_of r k.sent) x)) (λ x. not (has k.marked x)) (length k.marked) 0
          (λ x low high. ap not (sym (marks_now k missing r s st (s.rounds.begun active) x (let e = s.sizes.marked_size in omega arith)))) in
          rw (← st.sending, active, ← st.sent, ← st.released)
          (ap (λ o. option_map_or send.Unmarked o (if nat_lt k.sent (k.released + k.shape.depth) then send.Done else send.Unreleased k.released)) same)
    ]

-- where it tells an unmarked partition, it answers as each record says, and changes nothing
pub follows_unmarked : (k : Kept) (missing : List ℕ) (p : ℕ) → IsSound k missing → kept_test_send k ≡ send.Unmarked p
    → Follows k k (send.Unmarked p) (λ r. test_send_answer k.shape r) (λ r. after_test_send k.shape r)
follows_unmarked k missing p s is r st =
    let answer = test_send_is k missing r s st ∙ is in
    (sym answer, rw answer st)

-- so it does where it tells the released round
pub follows_unreleased : (k : Kept) (missing : List ℕ) (n : ℕ) → IsSound k missing → kept_test_send k ≡ send.Unreleased n
    → Follows k k (send.Unreleased n) (λ r. test_send_answer k.shape r) (λ r. after_test_send k.shape r)
follows_unreleased k missing n s is r st =
    let answer = test_send_is k missing r s st ∙ is in
    (sym answer, rw answer st)

-- what is kept once the sender is inactive
abbrev pub sent_kept : Kept → Kept
sent_kept k = record k { sending = false }

-- what is kept once the sender is inactive stands for the record in which it is
stands_sent : (k : Kept) (r : Record) → StandsFor k r → StandsFor (sent_kept k) (record r { sending = false })
unfolding kept_out pieces_out
stands_sent k r st = record {
  sent = st.sent;
  received = st.received;
  released = st.released;
  sending = refl;
  receiving = st.receiving;
  taken = st.taken;
  back = st.back;
  out = st.out;
  marks = st.marks;
  bytes = st.bytes;
}

-- where it is done, it answers as each record says, and leaves the record with the sender inactive
pub follows_sent : (k : Kept) (missing : List ℕ) → IsSound k missing → kept_test_send k ≡ send.Done
    → Follows k (sent_kept k) send.Done (λ r. test_send_answer k.shape r) (λ r. after_test_send k.shape r)
follows_sent k missing s is r st =
    let answer = test_send_is k missing r s st ∙ is in
    (sym answer, rw answer (stands_sent k r st))

-- where all is marked and the next round has room, what is kept once the sender is inactive is sound
pub sound_sent : (k : Kept) (missing : List ℕ) → IsSound k missing → least_without (length k.marked) (has k.marked) ≡ None → k.sent < k.released + k.shape.depth
    → IsSound (sent_kept k) missing
sound_sent k missing s none room = record {
  shape = s.shape;
  sizes = record {
    marked_size = s.sizes.marked_size;
    taken_size = s.sizes.taken_size;
    back_size = s.sizes.back_size;
    missing_size = s.sizes.missing_size;
    buffers_size = s.sizes.buffers_size;
    full = s.sizes.full;
  };
  rounds = record {
    sent = s.rounds.sent;
    received = s.rounds.received;
    released = s.rounds.released;
    begun = λ e. absurd (false≢true e);
    ahead = s.rounds.ahead;
    idle_ahead = λ e. room;
    idle = s.rounds.idle;
    busy = s.rounds.busy;
  };
  counts = s.counts;
  whole = λ e some p inside. each_among (length k.marked) (has k.marked) none p (let e = s.sizes.marked_size in omega arith);
  done = s.done;
  arrived = s.arrived;
  returned = s.returned;
}

-- the test of the receive, by what is kept
abbrev pub kept_test_recv : Kept → RecvTest
kept_test_recv k =
    if not k.receiving then recv.Idle else
    option_map_or recv.Untaken (least_without (length k.taken) (has k.taken))
    (option_map_or recv.Out (least_without (length k.back) (has k.back)) recv.Done)

-- two tests that agree on the partitions leave out the same one first
least_same : (n m : ℕ) (a b : ℕ → Bool) → m ≡ n → ((x : ℕ) → x < n → b x ≡ a x) → least_without n a ≡ least_without m b
least_same n m a b size same =
    find-same (λ x. not (a x)) (λ x. not (b x)) n 0 (λ x low high. ap not (sym (same x (omega arith)))) ∙ ap (λ n. least_without n b) (sym size)

-- the test of the receive answers by each record what it answers by what is kept
pub test_recv_is : (k : Kept) (missing : List ℕ) (r : Record) → IsSound k missing → StandsFor k r → test_recv_answer k.shape r ≡ kept_test_recv k
test_recv_is k missing r s st =
    let taken = least_same k.shape.recv_parts (length k.taken) (parts.contains r.taken) (has k.taken) s.sizes.taken_size st.taken in
    let back = least_same k.shape.recv_parts (length k.back) (parts.contains r.back) (has k.back) s.sizes.back_size st.back in
    elim (cases_Bool k.receiving) [
      | inr idle ↦ rw (← st.receiving, idle) refl
      | inl active ↦ rw (← st.receiving, active)
          (ap (λ o. option_map_or recv.Untaken o (option_map_or recv.Out (least_without k.shape.recv_parts (parts.contains r.back)) recv.Done)) taken
          ∙ ap (λ o. option_map_or recv.Untaken (least_without (length k.taken) (has k.taken)) (option_map_or recv.Out o recv.Done)) back)
    ]

-- where it tells a partition that isn't taken, it answers as each record says, and changes nothing
pub follows_untaken : (k : Kept) (missing : List ℕ) (q : ℕ) → IsSound k missing → kept_test_recv k ≡ recv.Untaken q
    → Follows k k (recv.Untaken q) (λ r. test_recv_answer k.shape r) (λ r. after_test_recv k.shape r)
follows_untaken k missing q s is r st =
    let answer = test_recv_is k missing r s st ∙ is in
    (sym answer, rw answer st)

-- so it does where it tells one that isn't given back
pub follows_out : (k : Kept) (missing : List ℕ) (q : ℕ) → IsSound k missing → kept_test_recv k ≡ recv.Out q
    → Follows k k (recv.Out q) (λ r. test_recv_answer k.shape r) (λ r. after_test_recv k.shape r)
follows_out k missing q s is r st =
    let answer = test_recv_is k missing r s st ∙ is in
    (sym answer, rw answer st)

-- what is kept once the receiver is inactive, and its round released
abbrev pub received_kept : Kept → Kept
received_kept k = record k { released = k.received; receiving = false }

-- what is kept once the round is released stands for the record in which it is
stands_received : (k : Kept) (missing : List ℕ) (r : Record) → IsSound k missing → k.receiving ≡ true → StandsFor k r
    → StandsFor (received_kept k) (record r { released = r.received; receiving = false })
unfolding kept_out pieces_out
stands_received k missing r s active st =
    let received = s.rounds.busy active in let received_is = st.received in let released_is = st.released in
    record {
      sent = st.sent;
      received = st.received;
      released = st.received;
      sending = st.sending;
      receiving = refl;
      taken = st.taken;
      back = st.back;
      out = st.out;
      marks = λ round p later upto inside. st.marks round p (omega arith) upto inside;
      bytes = λ round x later upto inside is free.
          let other : was_taken k round x ≡ false = and_left _ _ (and_left (round == k.received) k.receiving (ne_eqb round k.received (λ e. omega arith))) in
          st.bytes round x (omega arith) upto inside is other;
    }

-- where it is done, it answers as each record says, and leaves the record with the round released
pub follows_received : (k : Kept) (missing : List ℕ) → IsSound k missing → k.receiving ≡ true → kept_test_recv k ≡ recv.Done
    → Follows k (received_kept k) recv.Done (λ r. test_recv_answer k.shape r) (λ r. after_test_recv k.shape r)
follows_received k missing s active is r st =
    let answer = test_recv_is k missing r s st ∙ is in
    (sym answer, rw answer (stands_received k missing r s active st))

-- where all were taken, each send partition was marked in the receiver's round
all_marked : (k : Kept) (missing : List ℕ) → IsSound k missing → k.receiving ≡ true → least_without (length k.taken) (has k.taken) ≡ None
    → (p : ℕ) → p < k.shape.send_parts → kept_mark k k.received p ≡ true
all_marked k missing s active none p inside =
    let g = k.shape in
    let v = s.shape in
    let x = p * g.send_bytes + 0 in
    let within : x < send_total g = place_below p 0 g.send_parts g.send_bytes inside (omega (arith, v.send_bytes.0)) in
    let part : x / g.recv_bytes < g.recv_parts = (div-lt_iff_lt-mul {k = g.recv_bytes} {x = x} {y = g.recv_parts} (let h = v.recv_bytes.0 in omega arith)).1 (let e = v.same in omega arith) in
    let taken = each_among (length k.taken) (has k.taken) none (x / g.recv_bytes) (let e = s.sizes.taken_size in omega arith) in
    ap (kept_mark k k.received) (sym (div-mul-add p g.send_bytes 0 (omega (arith, v.send_bytes.0)))) ∙ s.arrived active (x / g.recv_bytes) x part taken within refl

-- where all is taken and given back, what is kept once the round is released is sound
pub sound_received : (k : Kept) (missing : List ℕ) → IsSound k missing → k.receiving ≡ true → least_without (length k.taken) (has k.taken) ≡ None
    → least_without (length k.back) (has k.back) ≡ None → IsSound (received_kept k) missing
sound_received k missing s active none none_out =
    let g = k.shape in
    let received = s.rounds.busy active in
    let ahead = s.rounds.ahead in
    let marked = all_marked k missing s active none in
    let upto : k.received ≤ k.sent = kept_mark-within k k.received 0 (marked 0 (omega (arith, s.shape.send_parts.0))) in
    record {
      shape = s.shape;
      sizes = record {
        marked_size = s.sizes.marked_size;
        taken_size = s.sizes.taken_size;
        back_size = s.sizes.back_size;
        missing_size = s.sizes.missing_size;
        buffers_size = s.sizes.buffers_size;
        full = λ place q low high away. s.sizes.full place q low high
            (and_right (k.receiving && (place == k.received % g.depth)) _ (and_right (has k.taken q) _
            (ap not (each_among (length k.back) (has k.back) none_out q (let e = s.sizes.back_size in omega arith)))));
      };
      rounds = record {
        sent = s.rounds.sent;
        received = s.rounds.received;
        released = upto;
        begun = s.rounds.begun;
        ahead = omega arith;
        idle_ahead = λ e. (let h = s.rounds.idle_ahead e in omega arith);
        idle = λ e. refl;
        busy = λ e. absurd (false≢true e);
      };
      counts = s.counts;
      whole = s.whole;
      done = λ e some p inside. sym (kept_mark-here k p) ∙ ap (λ n. kept_mark k n p) (sym e) ∙ marked p inside;
      arrived = λ e. absurd (false≢true e);
      returned = s.returned;
    }

-- where a partition is unmarked, the test of the send tells the least
pub at_unmarked : (k : Kept) (p : ℕ) → k.sending ≡ true → Some p ≡ least_without (length k.marked) (has k.marked) → kept_test_send k ≡ send.Unmarked p
at_unmarked k p active found = rw (active, ← found) refl

-- where none is and the next round has no room, it tells the released round
pub at_unreleased : (k : Kept) → k.sending ≡ true → None ≡ least_without (length k.marked) (has k.marked) → k.released + k.shape.depth ≤ k.sent
    → kept_test_send k ≡ send.Unreleased k.released
at_unreleased k active none full = rw (active, ← none, le-ltb k.sent (k.released + k.shape.depth) full) refl

-- where the next round has room, it is done
pub at_sent : (k : Kept) → k.sending ≡ true → None ≡ least_without (length k.marked) (has k.marked) → k.sent < k.released + k.shape.depth
    → kept_test_send k ≡ send.Done
at_sent k active none room = rw (active, ← none, lt-ltb k.sent (k.released + k.shape.depth) room) refl

-- where a partition isn't taken, the test of the receive tells the least
pub at_untaken : (k : Kept) (q : ℕ) → k.receiving ≡ true → Some q ≡ least_without (length k.taken) (has k.taken) → kept_test_recv k ≡ recv.Untaken q
at_untaken k q active found = rw (active, ← found) refl

-- where all are taken and one isn't given back, it tells the least
pub at_out : (k : Kept) (q : ℕ) → k.receiving ≡ true → None ≡ least_without (length k.taken) (has k.taken) → Some q ≡ least_without (length k.back) (has k.back)
    → kept_test_recv k ≡ recv.Out q
at_out k q active none found = rw (active, ← none, ← found) refl

-- where all are given back, it is done
pub at_received : (k : Kept) → k.receiving ≡ true → None ≡ least_without (length k.taken) (has k.taken) → None ≡ least_without (length k.back) (has k.back)
    → kept_test_recv k ≡ recv.Done
at_received k active none none_out = rw (active, ← none, ← none_out) refl
