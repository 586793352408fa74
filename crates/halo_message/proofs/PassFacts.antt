-- A round of a pair, call by call: each call is accepted, and what a take gives is the receive partition's part of the
-- message.
use Rattle.std.proofs.Common.{◌≡◌, ◌∙◌, refl, sym, ap, subst, ℕ, ◌+◌, ◌-◌, ◌*◌, ◌/◌, ◌%◌, ◌<◌, ◌≤◌, ◌==◌, nat_lt, Bool, true, false, ◌&&◌, not, Option, Some, None, Result, Ok, Err, List, [], ◌∷◌, ◌++◌, length, length-append, length-set, take, drop, get_or, set, arith, inl, inr}
use Rattle.std.specs.Prelude.{◌⊎◌, ◌||◌, is_some, slice_index, unwrap_or}
use Rattle.std.specs.FinMap as rounds
use Rattle.std.specs.FinSet as parts
use Rattle.std.specs.Cmp.{nat_cmp_total}
use Rattle.std.specs.Ordering.{nat_cmp}
use Rattle.std.proofs.lemmas.Bool.{cases_eq, cases_lt, eq-eqb, ne_eqb, lt-ltb, le-ltb}
use Rattle.std.proofs.lemmas.List.{ext_get_or, get_or-drop, get_or-set_same, get_or-take, get_or_at, length-drop, length-take-le}
use Rattle.std.proofs.lemmas.List.FromFn.{get_or-map-range_with_len, length-map-range_with_len}
use Rattle.std.proofs.lemmas.Nat.{div-add-mod', div_below, mod_below, mul-le}
use Rattle.part_geometry.specs.declared.TheConstants.{LAST_ROUND}
use Rattle.part_geometry.specs.Shape.{IsShape, Shape, send_total}
use Rattle.part_geometry.specs.Pieces.{first_part, is_over, need_count, needed, pieces}
use Rattle.plain_pair.specs.Record.{Record, Round, byte_at, bytes_of, is_marked, is_out, missing_piece, no_marks, round_of, send_round}
use Rattle.plain_pair.specs.Moves.{after_pready, after_start_send, after_start_recv, after_take, after_test_recv, after_test_send, gave_back, least_without, marked, started_send, started_recv, take_answer, taken_of, took}
use Rattle.plain_pair.proofs.Counts.{list_all-range}
use Rattle.plain_pair.proofs.Marks.{get_marked, is_marked-insert, ties}
use Rattle.plain_pair.proofs.Overs.{find-none}
use Rattle.plain_pair.proofs.Rounds.{needed_below}
use Rattle.plain_pair.specs.Taken.{Taken}
use Rattle.plain_pair.specs.declared.answers.PlainTake.{PlainTake}
use Rattle.std.proofs.Common.{ℤ}
use Rattle.std.specs.Prelude.{min}
use Rattle.std.proofs.lemmas.List.{drop-take, take-append-drop, take-take}
use Rattle.std.proofs.lemmas.Slice.{take-put_mid}
use borrow.Rule.Slice.PartMut.{put_mid}
use Rattle.halo_message.specs.Message.{Message, elements}
use Rattle.halo_message.specs.Elements.{part_start}
use Rattle.halo_message.proofs.ElementFacts.{times-part}
use Rattle.std.specs.Prelude.{IfOk}
use Rattle.std.specs.declared.alloc.AllocError.{AllocError}
use Rattle.plain_pair.specs.Kept.{Kept}
use Rattle.plain_pair.specs.Record.{first_record}
use Rattle.plain_pair.specs.StandsFor.{StandsFor}
use Rattle.halo_message.specs.Passing.{RestsAt, IsMarking, IsTaking, Rests, received_part, sent_part}

-- ---- starting the send

-- the start is accepted
pub start-is : (r : Record) (k : ℕ) → Rests k r → k + 1 ≤ LAST_ROUND → after_start_send r ≡ started_send r
start-is r k s early =
    let idle = s.sending in
    let sent = s.sent in
    let more : (send_round r == LAST_ROUND) ≡ false = ne_eqb (send_round r) LAST_ROUND (λ e. omega arith) in
    rw (idle, more) refl

-- the round that was started has no mark
last-round : (r : Record) → round_of (started_send r) (send_round r + 1) ≡ no_marks
last-round r = let e : send_round r + 1 - 1 ≡ length r.rounds = omega arith in ap (λ n. get_or (r.rounds ++ no_marks ∷ []) n no_marks) e ∙ get_or_at r.rounds no_marks [] no_marks (length r.rounds) refl

-- after it the sender is in the next round, and nothing is marked
pub marking-first : (g : Shape) (r : Record) (k round : ℕ) (message : List ℕ) → Rests k r → k + 1 ≡ round → round ≤ LAST_ROUND → IsMarking g round message 0 (after_start_send r)
marking-first g r k round message s next early =
    let sent = s.sent in let received = s.received in let released = s.released in
    let here : round ≡ send_round r + 1 = omega arith in
    let empty : round_of (started_send r) round ≡ no_marks = ap (round_of (started_send r)) here ∙ last-round r in
    subst (IsMarking g round message 0) (sym (start-is r k s (omega arith)))
    (record {
      sent = length-more r.rounds ∙ sym here;
      received = omega arith;
      released = omega arith;
      sending = refl;
      receiving = s.receiving;
      marked = λ p less. absurd (omega arith);
      free = λ p more. ap (λ (m : Round). is_marked m p) empty ∙ none p;
    })
  where
    length-more : (xs : List Round) → length (xs ++ no_marks ∷ []) ≡ length xs + 1
    length-more xs = length-append xs (no_marks ∷ [])

    none : (p : ℕ) → is_marked no_marks p ≡ false
    none p = ap is_some (rounds.get-empty nat_cmp p)

-- ---- a mark

-- a mark of a partition that has none is accepted
pub mark-is : (g : Shape) (k n : ℕ) (message bytes : List ℕ) (r : Record) → IsMarking g k message n r → n < g.send_parts → length bytes ≡ g.send_bytes
    → after_pready g r k n bytes ≡ marked r n bytes
mark-is g k n message bytes r s less long =
    let part : nat_lt n g.send_parts ≡ true = lt-ltb n g.send_parts less in
    let size : (length bytes == g.send_bytes) ≡ true = eq-eqb (length bytes) g.send_bytes long in
    let active = s.sending in
    let here : (k == send_round r) ≡ true = eq-eqb k (send_round r) (sym s.sent) in
    let free = s.free n (omega arith) in
    rw (part, size, active, here, free) refl

-- the round has the mark then
round-after : (r : Record) (k n : ℕ) (bytes : List ℕ) → send_round r ≡ k → 1 ≤ k → round_of (marked r n bytes) k ≡ rounds.insert (round_of r k) n bytes
round-after r k n bytes sent some =
    let place : send_round r - 1 ≡ k - 1 = omega arith in
    ap (λ j. get_or (set r.rounds j (rounds.insert (round_of r (send_round r)) n bytes)) (k - 1) no_marks) place
    ∙ get_or-set_same r.rounds (k - 1) (rounds.insert (round_of r (send_round r)) n bytes) no_marks (omega arith)
    ∙ ap (λ j. rounds.insert (round_of r j) n bytes) sent

-- one more partition is marked with its part
pub marking-next : (g : Shape) (k n : ℕ) (message bytes : List ℕ) (r : Record) → IsMarking g k message n r → n < g.send_parts → length bytes ≡ g.send_bytes
    → bytes ≡ sent_part g message n → IsMarking g k message (n + 1) (after_pready g r k n bytes)
marking-next g k n message bytes r s less long is =
    let sent = s.sent in let received = s.received in
    let now = round-after r k n bytes sent (omega arith) in
    subst (IsMarking g k message (n + 1)) (sym (mark-is g k n message bytes r s less long))
    (record {
      sent = length-set r.rounds (send_round r - 1) (rounds.insert (round_of r (send_round r)) n bytes) ∙ sent;
      received = s.received;
      released = s.released;
      sending = s.sending;
      receiving = s.receiving;
      marked = λ p low. ap (λ (m : Round). rounds.get m p) now ∙ get_marked (round_of r k) n p bytes
          ∙ elim (cases_eq p n) [
            | inl same ↦ rw (eq-eqb p n same) (ap (λ (b : List ℕ). Some b) (is ∙ ap (sent_part g message) (sym same)))
            | inr other ↦ rw (ne_eqb p n other) (s.marked p (omega arith))
          ];
      free = λ p high. ap (λ (m : Round). is_marked m p) now ∙ is_marked-insert (round_of r k) n p bytes
          ∙ rw (ne_eqb p n (λ e. omega arith)) (s.free p (omega arith));
    })

-- the same for a pair of that geometry
pub marking-at : (g shape : Shape) (k n : ℕ) (message bytes : List ℕ) (r : Record) → shape ≡ g → IsMarking g k message n r → n < g.send_parts → length bytes ≡ g.send_bytes
    → bytes ≡ sent_part g message n → IsMarking g k message (n + 1) (after_pready shape r k n bytes)
marking-at g shape k n message bytes r same s less long is =
    subst (λ h. IsMarking g k message (n + 1) (after_pready h r k n bytes)) (sym same) (marking-next g k n message bytes r s less long is)

-- the part as the code cuts it
pub part-same : (g : Shape) (message : List ℕ) (p size : ℕ) → size ≡ g.send_bytes → take (p * size + size - p * size) (drop (p * size) message) ≡ sent_part g message p
part-same g message p size is = ap (λ n. take (p * n + n - p * n) (drop (p * n) message)) is

-- a part has as many bytes as a send partition
pub part-long : (g : Shape) (message : List ℕ) (p : ℕ) → length message ≡ send_total g → p < g.send_parts → length (sent_part g message p) ≡ g.send_bytes
part-long g message p whole less =
    let m = mul-le (p + 1) g.send_bytes g.send_parts g.send_bytes (omega arith) (omega arith) in
    let rest = length-drop (p * g.send_bytes) message in
    length-take-le (p * g.send_bytes + g.send_bytes - p * g.send_bytes) (drop (p * g.send_bytes) message) (omega arith) ∙ omega arith

-- ---- starting the receive

-- the start is accepted
pub recv-is : (g : Shape) (r : Record) (k n : ℕ) (message : List ℕ) → IsMarking g k message n r → k ≤ LAST_ROUND → after_start_recv r ≡ started_recv r
recv-is g r k n message s early =
    let idle = s.receiving in
    let received = s.received in
    let more : (r.received == LAST_ROUND) ≡ false = ne_eqb r.received LAST_ROUND (λ e. omega arith) in
    rw (idle, more) refl

-- after it both sides are in the round, and nothing is taken
pub taking-first : (g : Shape) (r : Record) (k : ℕ) (message : List ℕ) → IsMarking g k message g.send_parts r → k ≤ LAST_ROUND → IsTaking g k message 0 (after_start_recv r)
taking-first g r k message s early =
    subst (IsTaking g k message 0) (sym (recv-is g r k g.send_parts message s early))
    (record {
      sent = s.sent;
      received = s.received;
      released = s.released;
      sending = s.sending;
      receiving = refl;
      marked = s.marked;
      taken = λ q. parts.contains-empty nat_cmp q ∙ sym (le-ltb q 0 (omega arith));
      back = λ q. parts.contains-empty nat_cmp q ∙ sym (le-ltb q 0 (omega arith));
    })

-- ---- a take

-- every partition is marked, so no piece is missing
all-out : (g : Shape) (v : IsShape g) (round : Round) (i : ℕ) → ((p : ℕ) → p < g.send_parts → is_marked round p ≡ true) → i < pieces g → is_out g round i ≡ true
unfolding is_out needed
all-out g v round i all inside =
    list_all-range (is_marked round) (first_part g i) (need_count g i) (λ p low high. all p (needed_below g v i p inside high low))

-- nor does one over a receive partition lack a mark
pub none-missing : (g : Shape) (v : IsShape g) (round : Round) (q : ℕ) → ((p : ℕ) → p < g.send_parts → is_marked round p ≡ true) → missing_piece g round q ≡ None
unfolding missing_piece
none-missing g v round q all =
    find-none (λ i. is_over g q i && not (is_out g round i)) (pieces g) 0
    (λ i low high. let out = all-out g v round i all (omega arith) in rw out (and-false (is_over g q i)))
  where
    and-false : (b : Bool) → (b && false) ≡ false
    and-false true = refl
    and-false false = refl

-- while partitions are taken, every one is marked
marked-all : (g : Shape) (k n : ℕ) (message : List ℕ) (r : Record) → IsTaking g k message n r → (p : ℕ) → p < g.send_parts → is_marked (round_of r k) p ≡ true
marked-all g k n message r s p less = ap is_some (s.marked p less)

-- the next partition is taken, and not refused
pub take-ok : (g : Shape) (v : IsShape g) (k n : ℕ) (message : List ℕ) (r : Record) → IsTaking g k message n r → n < g.recv_parts → take_answer g r n ≡ Ok (taken_of g r n)
take-ok g v k n message r s less =
    let active = s.receiving in
    let part : nat_lt n g.recv_parts ≡ true = lt-ltb n g.recv_parts less in
    let free : parts.contains r.taken n ≡ false = s.taken n ∙ le-ltb n n (omega arith) in
    let there : missing_piece g (round_of r r.received) n ≡ None =
    none-missing g v (round_of r r.received) n (λ p l. ap (λ j. is_marked (round_of r j) p) s.received ∙ marked-all g k n message r s p l) in
    rw (active, part, free, there) refl

-- what the history is after it
pub took-is : (g : Shape) (v : IsShape g) (k n : ℕ) (message : List ℕ) (r : Record) → IsTaking g k message n r → n < g.recv_parts → after_take g r n ≡ took r n
took-is g v k n message r s less = rw (take-ok g v k n message r s less) refl

-- the sets with one partition more
more-below : (s : parts.FinSet nat_cmp) (n q : ℕ) → ((x : ℕ) → parts.contains s x ≡ nat_lt x n) → parts.contains (parts.insert s n) q ≡ nat_lt q (n + 1)
more-below s n q is =
    parts.contains-insert nat_cmp_total s n q ∙ ap (λ b. b || parts.contains s q) (ties q n) ∙ ap (λ b. (q == n) || b) (is q) ∙ by-place (cases_lt q n)
  where
    by-place : ((q < n) ⊎ (n ≤ q)) → ((q == n) || nat_lt q n) ≡ nat_lt q (n + 1)
    by-place (inl below) = rw (lt-ltb q n below, lt-ltb q (n + 1) (omega arith)) (or-true (q == n))
      where
        or-true : (b : Bool) → (b || true) ≡ true
        or-true true = refl
        or-true false = refl
    by-place (inr above) = elim (cases_eq q n) [
      | inl same ↦ rw (eq-eqb q n same, lt-ltb q (n + 1) (omega arith)) refl
      | inr other ↦ rw (ne_eqb q n other, le-ltb q n above, le-ltb q (n + 1) (omega arith)) refl
    ]

-- one more partition is taken and given back
pub taking-next : (g : Shape) (k n : ℕ) (message : List ℕ) (r : Record) → IsTaking g k message n r → IsTaking g k message (n + 1) (gave_back (took r n) n)
taking-next g k n message r s = record {
  sent = s.sent;
  received = s.received;
  released = s.released;
  sending = s.sending;
  receiving = s.receiving;
  marked = s.marked;
  taken = λ q. more-below r.taken n q s.taken;
  back = λ q. more-below r.back n q s.back;
}

-- the bytes of a take
pub taken-bytes : (g : Shape) (v : IsShape g) (k n : ℕ) (message : List ℕ) (r : Record) → IsTaking g k message n r → n < g.recv_parts → length message ≡ send_total g
    → bytes_of g (round_of r r.received) n ≡ received_part g message n
unfolding bytes_of byte_at
taken-bytes g v k n message r s less whole =
    let size = g.recv_bytes in
    let all : length message ≡ g.recv_parts * size = whole ∙ v.same in
    let room = mul-le (n + 1) size g.recv_parts size (omega arith) (omega arith) in
    let cut : n * size + size - n * size ≡ size = omega arith in
    let rest = length-drop (n * size) message in
    ext_get_or 0 (bytes_of g (round_of r r.received) n) (received_part g message n)
    (length-map-range_with_len (λ x. byte_at g (round_of r r.received) (n * size + x)) 0 size
    ∙ sym (length-take-le (n * size + size - n * size) (drop (n * size) message) (omega arith) ∙ cut))
    (λ x h.
    let low : x < size = subst (λ m. x < m) (length-map-range_with_len (λ y. byte_at g (round_of r r.received) (n * size + y)) 0 size) h in
    let place = n * size + x in
    let inside : place < g.send_parts * g.send_bytes = omega arith in
    let sb = v.send_bytes in
    let p = place / g.send_bytes in
    let j = place % g.send_bytes in
    let split = div-add-mod' place g.send_bytes in
    let small = mod_below place g.send_bytes (omega arith) in
    let part : p < g.send_parts = div_below place g.send_bytes g.send_parts (omega arith) inside in
    get_or-map-range_with_len (λ y. byte_at g (round_of r r.received) (n * size + y)) 0 size x x 0 low (omega arith)
    ∙ ap (λ m. slice_index (unwrap_or (rounds.get (round_of r m) p) []) j) s.received
    ∙ ap (λ (o : Option (List ℕ)). slice_index (unwrap_or o []) j) (s.marked p part)
    ∙ get_or-take (p * g.send_bytes + g.send_bytes - p * g.send_bytes) (drop (p * g.send_bytes) message) j 0 (omega arith)
    ∙ get_or-drop (p * g.send_bytes) message j 0
    ∙ ap (λ m. get_or message m 0) split
    ∙ sym (get_or-take (n * size + size - n * size) (drop (n * size) message) x 0 (omega arith) ∙ get_or-drop (n * size) message x 0))

-- ---- the tests at the end

-- once all are, both tests end the round, and the pair rests after it
pub rests-after : (g : Shape) (v : IsShape g) (k : ℕ) (message : List ℕ) (r : Record) → IsTaking g k message g.recv_parts r
    → Rests k (after_test_send g (after_test_recv g r))
rests-after g v k message r s =
    let taken : least_without g.recv_parts (parts.contains r.taken) ≡ None =
    find-none (λ x. not (parts.contains r.taken x)) g.recv_parts 0 (λ x low high. ap not (s.taken x ∙ lt-ltb x g.recv_parts (omega arith))) in
    let back : least_without g.recv_parts (parts.contains r.back) ≡ None =
    find-none (λ x. not (parts.contains r.back x)) g.recv_parts 0 (λ x low high. ap not (s.back x ∙ lt-ltb x g.recv_parts (omega arith))) in
    let marked : least_without g.send_parts (is_marked (round_of r (send_round r))) ≡ None =
    find-none (λ x. not (is_marked (round_of r (send_round r)) x)) g.send_parts 0
    (λ x low high. ap not (ap (λ j. is_marked (round_of r j) x) s.sent ∙ marked-all g k g.recv_parts message r s x (omega arith))) in
    let receiving = s.receiving in let sending = s.sending in
    let sent = s.sent in let received = s.received in let depth = v.depth in
    let first : after_test_recv g r ≡ record r { released = r.received; receiving = false } = rw (receiving, taken, back) refl in
    let room : nat_lt (send_round r) (r.received + g.depth) ≡ true = lt-ltb (send_round r) (r.received + g.depth) (omega arith) in
    let last : after_test_send g (record r { released = r.received; receiving = false }) ≡ record r { released = r.received; receiving = false; sending = false } = rw (sending, marked, room) refl in
    subst (Rests k) (sym (ap (after_test_send g) first ∙ last))
    (record { sent = s.sent; received = s.received; released = s.received; sending = refl; receiving = refl })

-- ---- the values

-- the first partition begins with the first value
pub start-first : (m : Message) → elements m / m.recv_parts * m.recv_parts ≡ elements m → 0 < m.recv_parts → part_start m 0 ≡ 0
start-first m whole some =
    let z = times-part 0 (elements m) (elements m / m.recv_parts) m.recv_parts some whole in
    ap (λ x. min x m.values) z ∙ omega arith

-- behind the last partition there is no value
pub start-last : (m : Message) → elements m / m.recv_parts * m.recv_parts ≡ elements m → 0 < m.recv_parts → m.values ≤ elements m → part_start m m.recv_parts ≡ m.values
start-last m whole some enough =
    let z = times-part m.recv_parts (elements m) (elements m / m.recv_parts) m.recv_parts some whole in
    let t : m.recv_parts * (elements m / m.recv_parts) ≡ elements m / m.recv_parts * m.recv_parts = omega arith in
    ap (λ x. min x m.values) z ∙ omega arith

-- the first a values, and those from there up to e, are the first e values
take-both : (xs : List ℤ) (a e : ℕ) → a ≤ e → take a xs ++ take (e - a) (drop a xs) ≡ take e xs
take-both xs a e order =
    let sum : e ≡ a + (e - a) = omega arith in
    ap (λ n. n ++ take (e - a) (drop a xs)) (sym (take-take a e xs order))
    ∙ ap (λ ys. take a (take e xs) ++ ys) (sym (drop-take a (e - a) xs) ∙ ap (λ n. drop a (take n xs)) (sym sum))
    ∙ take-append-drop a (take e xs)

-- a partition's values are written behind those before it
pub values-next : (sent out new : List ℤ) (a e k : ℕ) → a ≤ e → e ≤ length sent → length out ≡ length sent → new ≡ take (e - a) (drop a sent) → take a out ≡ take a sent
    → take e (put_mid a k out new) ≡ take e sent
values-next sent out new a e k order room same is before =
    let rest = length-drop a sent in
    let long : length new ≡ e - a = ap length is ∙ length-take-le (e - a) (drop a sent) (omega arith) in
    take-put_mid a k out new e (omega arith) (omega arith)
    ∙ ap (λ ys. ys ++ new) before ∙ ap (λ ys. take a sent ++ ys) is ∙ take-both sent a e order

-- two answers that are one have one arrival
pub arrival-is : (a b : Taken) → ◌≡◌ {A = Result Taken PlainTake} (Ok a) (Ok b) → a ≡ b
arrival-is a b e = cc

-- an arrival is no refusal
pub not-refused : (a : Taken) (cause : PlainTake) → ◌≡◌ {A = Result Taken PlainTake} (Ok a) (Err cause) → ⊥
not-refused a cause e = cc

-- the same for a pair of that geometry
pub rests-at : (g one two : Shape) (v : IsShape g) (k : ℕ) (message : List ℕ) (r : Record) → one ≡ g → two ≡ g → IsTaking g k message g.recv_parts r
    → Rests k (after_test_send two (after_test_recv one r))
rests-at g one two v k message r e f s =
    subst (λ h. Rests k (after_test_send h (after_test_recv one r))) (sym f)
    (subst (λ h. Rests k (after_test_send g (after_test_recv h r))) (sym e) (rests-after g v k message r s))

-- ---- a new pair

-- a new pair rests before its first round
pub rests-first : (g : Shape) (pair : Kept) → pair.shape ≡ g → StandsFor pair first_record → RestsAt g 0 pair
rests-first g pair same stands = record {
  shape = same;
  history = first_record;
  stands = stands;
  holds = record { sent = refl; received = refl; released = refl; sending = refl; receiving = refl };
}

-- so does one in an answer
pub first-ok : (g : Shape) (result : Result Kept AllocError) → IfOk result (λ pair. pair.shape ≡ g) → IfOk result (λ pair. StandsFor pair first_record)
    → IfOk result (RestsAt g 0)
first-ok g (Ok pair) same stands = rests-first g pair same stands
first-ok g (Err e) same stands = tt
