-- What was taken was marked. Each mark of a record that calls come to has a partition's length, by induction over the
-- calls; and where no piece over a receive partition is missing, the send partition of each of its places was marked.
use Rattle.std.proofs.Common.{◌≡◌, ◌⊎◌, ℕ, zero, suc, ◌+◌, ◌-◌, ◌*◌, ◌/◌, ◌%◌, ◌<◌, ◌≤◌, ◌==◌, nat_lt, Bool, true, false, cond, ◌&&◌, not, is_some, unwrap_or, Some, None, Option, Ok, Err, Result, List, [], ◌∷◌, ◌++◌, length, get_or, set, fold, refl, ap, sym, subst, ◌∙◌, arith, inl, inr}
use Rattle.std.specs.FinMap as rounds
use Rattle.std.specs.Ordering.{nat_cmp}
use Rattle.std.specs.FinSet as parts
use Rattle.std.specs.Option.{option_map_or}
use Rattle.std.proofs.Math.Nat.{div-eq_of_lt-le}
use Rattle.std.proofs.lemmas.Bool.{cases_Bool, eqb-true, ltb-true, not-false}
use Rattle.std.proofs.lemmas.List.FromFn.{length-map-range_with_len, get_or-map-range_with_len}
use Rattle.std.proofs.lemmas.Nat.{div-mul-add}
use Rattle.part_geometry.specs.declared.answers.Marked.{Marked}
use Rattle.part_geometry.specs.declared.answers.RecvTest.{RecvTest}
use Rattle.part_geometry.specs.declared.answers.RecvTest.TheVariants as recv
use Rattle.part_geometry.specs.Shape.{Shape, IsShape, send_total}
use Rattle.part_geometry.specs.Cells.{start, send_of, recv_of}
use Rattle.part_geometry.specs.Pieces.{pieces, piece_of, first_part, need_count, needed, is_over}
use Rattle.part_geometry.proofs.Bounds.{end-start}
use Rattle.part_geometry.proofs.Overs.{cell-over}
use Rattle.part_geometry.proofs.Parts.{send_end-le, recv_end-le}
use Rattle.part_geometry.proofs.PieceFacts.{piece_of-holds, Touches-range, need_count-pos}
use Rattle.plain_pair.specs.declared.answers.PlainRefusal.{PlainRefusal}
use Rattle.plain_pair.specs.declared.answers.PlainRefusal.TheVariants.{BadPartition, BadLength}
use Rattle.plain_pair.specs.declared.answers.PlainSendTest.{PlainSendTest}
use Rattle.plain_pair.specs.declared.answers.PlainSendTest.TheVariants as send
use Rattle.plain_pair.specs.declared.answers.PlainTake.{PlainTake}
use Rattle.plain_pair.specs.declared.answers.PlainTake.TheVariants as take
use Rattle.plain_pair.specs.Taken.{Taken}
use Rattle.plain_pair.specs.Record.{Record, Round, first_record, no_marks, send_round, round_of, is_marked, is_out, missing_piece, byte_at, bytes_of}
use Rattle.plain_pair.specs.Moves.{on_ok, start_send_answer, start_recv_answer, started_send, started_recv, marked, pready_answer, taken_of, take_answer, took, test_send_answer, sent_done, test_recv_answer, received_done}
use Rattle.plain_pair.specs.Many.{Progress, no_progress, counted, mark_one_more, progress_unless, entries, whole_range, whole_length, range_parts}
use Rattle.plain_pair.specs.Reached.{Call, StartSend, StartRecv, Pready, PreadyRange, PreadyList, Take, GiveBack, TestSend, TestRecv, after_call, after_calls, TakesAreMarked}
use Rattle.plain_pair.proofs.Counts.{list_all-each}
use Rattle.plain_pair.proofs.Marks.{get_marked}
use Rattle.plain_pair.proofs.Overs.{find-nothing, cell_of_place}
use Rattle.plain_pair.proofs.Starts.{place_below}

-- each mark of a list of rounds has a partition's length
abbrev AreWhole : Shape → List Round → Type 0
AreWhole g rs = (n p : ℕ) (bytes : List ℕ) → rounds.get (get_or rs n no_marks) p ≡ Some bytes → length bytes ≡ g.send_bytes

-- an empty round more changes no round that was there
get_or-one_more : (rs : List Round) (n : ℕ) → get_or (rs ++ no_marks ∷ []) n no_marks ≡ get_or rs n no_marks
get_or-one_more [] zero = refl
get_or-one_more [] (suc n) = refl
get_or-one_more (r ∷ rs) zero = refl
get_or-one_more (r ∷ rs) (suc n) = get_or-one_more rs n

-- what stands at a place after one was set is the new one or the one before
get_or-set : (rs : List Round) (i n : ℕ) (r : Round) → (get_or (set rs i r) n no_marks ≡ r) ⊎ (get_or (set rs i r) n no_marks ≡ get_or rs n no_marks)
get_or-set [] i n r = inr refl
get_or-set (x ∷ rs) zero zero r = inl refl
get_or-set (x ∷ rs) zero (suc n) r = inr refl
get_or-set (x ∷ rs) (suc i) zero r = inr refl
get_or-set (x ∷ rs) (suc i) (suc n) r = get_or-set rs i n r

-- of two optional lists the chosen one
chosen : (b : Bool) (xs bytes : List ℕ) (o : Option (List ℕ)) (P : List ℕ → Type 0) → cond b (Some xs) o ≡ Some bytes → P xs → (o ≡ Some bytes → P bytes) → P bytes
chosen true xs bytes o P is new old = let same : xs ≡ bytes = cc in subst P same new
chosen false xs bytes o P is new old = old is

-- a mark of a partition's length leaves each mark with a partition's length
whole_marked : (g : Shape) (r : Record) (p : ℕ) (bytes : List ℕ) → length bytes ≡ g.send_bytes → AreWhole g r.rounds → AreWhole g (marked r p bytes).rounds
whole_marked g r p bytes size whole n q found is =
    elim (get_or-set r.rounds (send_round r - 1) n (rounds.insert (round_of r (send_round r)) p bytes)) [
      | inr same ↦ whole n q found (ap (λ z. rounds.get z q) (sym same) ∙ is)
      | inl new ↦
          chosen (q == p) bytes found (rounds.get (round_of r (send_round r)) q) (λ b. length b ≡ g.send_bytes)
          (sym (get_marked (round_of r (send_round r)) p q bytes) ∙ ap (λ z. rounds.get z q) (sym new) ∙ is) size
          (λ old. whole (send_round r - 1) q found old)
    ]

-- an accepted mark has a partition's length
accepted_size : (g : Shape) (r : Record) (k p : ℕ) (bytes : List ℕ) (m : Marked) → pready_answer g r k p bytes ≡ Ok m → length bytes ≡ g.send_bytes
accepted_size g r k p bytes m is =
    elim (cases_Bool (length bytes == g.send_bytes)) [
      | inl same ↦ eqb-true _ _ same
      | inr other ↦ elim (cases_Bool (nat_lt p g.send_parts)) [
        | inr outside ↦ let e : ◌≡◌ {A = Result Marked PlainRefusal} (Err BadPartition) (Ok m) = sym (rw outside refl) ∙ is in cc
        | inl inside ↦ let e : ◌≡◌ {A = Result Marked PlainRefusal} (Err BadLength) (Ok m) = sym (rw (inside, other) refl) ∙ is in cc
      ]
    ]

-- so does a move that is made only where its answer accepts it
whole_if : {A E : Type 0} (g : Shape) (answer : Result A E) (next r : Record) → AreWhole g r.rounds → ((a : A) → answer ≡ Ok a → AreWhole g next.rounds) → AreWhole g (on_ok answer next r).rounds
whole_if g (Ok a) next r whole then_whole = then_whole a refl
whole_if g (Err e) next r whole then_whole = whole

-- so does one mark of a call of several, accepted or refused
whole_counted : (g : Shape) (done : Progress) (next : Record) (answer : Result Marked PlainRefusal) → AreWhole g done.after.rounds
    → ((m : Marked) → answer ≡ Ok m → AreWhole g next.rounds) → AreWhole g (counted done next answer).after.rounds
whole_counted g done next (Ok m) whole then_whole = then_whole m refl
whole_counted g done next (Err cause) whole then_whole = whole

-- so does one entry more, which does nothing behind a refusal
whole_more : (g : Shape) (k : ℕ) (done : Progress) (e : ℕ × List ℕ) → AreWhole g done.after.rounds → AreWhole g (mark_one_more g k done e).after.rounds
whole_more g k done e whole =
    elim (cases_Bool (is_some done.refused)) [
      | inl refused ↦ rw refused whole
      | inr going ↦
          rw going (whole_counted g done (marked done.after e.0 e.1) (pready_answer g done.after k e.0 e.1) whole
          (λ m is. whole_marked g done.after e.0 e.1 (accepted_size g done.after k e.0 e.1 m is) whole))
    ]

-- so do all entries of a call
whole_progress : (g : Shape) (k : ℕ) (es : List (ℕ × List ℕ)) (done : Progress) → AreWhole g done.after.rounds → AreWhole g (fold (mark_one_more g k) done es).after.rounds
whole_progress g k [] done whole = whole
whole_progress g k (e ∷ es) done whole = whole_progress g k es (mark_one_more g k done e) (whole_more g k done e whole)

-- also where the call may be refused as a whole
whole_unless : (g : Shape) (o : Option PlainRefusal) (r : Record) (k : ℕ) (es : List (ℕ × List ℕ)) → AreWhole g r.rounds → AreWhole g (progress_unless o g r k es).after.rounds
whole_unless g (Some cause) r k es whole = whole
whole_unless g None r k es whole = whole_progress g k es (no_progress r) whole

-- so does a test of the send
whole_sent : (g : Shape) (answer : PlainSendTest) (r : Record) → AreWhole g r.rounds → AreWhole g (sent_done answer r).rounds
whole_sent g send.Idle r whole = whole
whole_sent g (send.Unmarked p) r whole = whole
whole_sent g (send.Unreleased k) r whole = whole
whole_sent g send.Done r whole = whole

-- and a test of the receive
whole_received : (g : Shape) (answer : RecvTest) (r : Record) → AreWhole g r.rounds → AreWhole g (received_done answer r).rounds
whole_received g recv.Idle r whole = whole
whole_received g (recv.Untaken q) r whole = whole
whole_received g (recv.Out q) r whole = whole
whole_received g recv.Done r whole = whole

-- each call leaves each mark with a partition's length
whole_call : (g : Shape) (r : Record) (call : Call) → AreWhole g r.rounds → AreWhole g (after_call g r call).rounds
whole_call g r StartSend whole =
    whole_if g (start_send_answer r) (started_send r) r whole (λ k is n p bytes found. whole n p bytes (ap (λ z. rounds.get z p) (sym (get_or-one_more r.rounds n)) ∙ found))
whole_call g r StartRecv whole = whole_if g (start_recv_answer r) (started_recv r) r whole (λ k is. whole)
whole_call g r (Pready k p bytes) whole =
    whole_if g (pready_answer g r k p bytes) (marked r p bytes) r whole (λ m is. whole_marked g r p bytes (accepted_size g r k p bytes m is) whole)
whole_call g r (PreadyRange k low high bytes) whole =
    whole_unless g (whole_range g low high (range_parts low high) bytes) r k (entries g (range_parts low high) bytes) whole
whole_call g r (PreadyList k parts bytes) whole = whole_unless g (whole_length g parts bytes) r k (entries g parts bytes) whole
whole_call g r (Take q) whole = whole_if g (take_answer g r q) (took r q) r whole (λ taken is. whole)
whole_call g r (GiveBack q) whole = whole
whole_call g r TestSend whole = whole_sent g (test_send_answer g r) r whole
whole_call g r TestRecv whole = whole_received g (test_recv_answer g r) r whole

-- and so do any calls, one after another
whole_calls : (g : Shape) (calls : List Call) (r : Record) → AreWhole g r.rounds → AreWhole g (fold (after_call g) r calls).rounds
whole_calls g [] r whole = whole
whole_calls g (call ∷ calls) r whole = whole_calls g calls (after_call g r call) (whole_call g r call whole)

-- the first record has no marks
first_whole : (g : Shape) → AreWhole g first_record.rounds
first_whole g n p bytes is = let e : ◌≡◌ {A = Option (List ℕ)} None (Some bytes) = sym (rounds.get-empty nat_cmp p) ∙ is in cc

-- where no piece over receive partition q is missing, the send partition of each of its places was marked
place_is_marked : (g : Shape) (v : IsShape g) (round : Round) (q x : ℕ) → missing_piece g round q ≡ None → x < send_total g → x / g.recv_bytes ≡ q
    → is_marked round (x / g.send_bytes) ≡ true
unfolding missing_piece is_out needed send_of recv_of
place_is_marked g v round q x none inside there =
    let c = cell_of_place g v x inside in
    let e = end-start g c.0 in
    let rl = recv_end-le g v c.0 c.1 in
    let sl = send_end-le g v c.0 c.1 in
    let rp : 0 < g.recv_bytes = omega (arith, v.recv_bytes.0) in
    let sp : 0 < g.send_bytes = omega (arith, v.send_bytes.0) in
    let low = c.2 in let high = c.3 in
    let rs : start g c.0 / g.recv_bytes * g.recv_bytes ≤ start g c.0 = omega arith in
    let ss : start g c.0 / g.send_bytes * g.send_bytes ≤ start g c.0 = omega arith in
    let recv : x / g.recv_bytes ≡ start g c.0 / g.recv_bytes = div-eq_of_lt-le g.recv_bytes (omega arith) (omega arith) in
    let send : x / g.send_bytes ≡ start g c.0 / g.send_bytes = div-eq_of_lt-le g.send_bytes (omega arith) (omega arith) in
    let h = piece_of-holds g c.0 c.1 in
    let i = piece_of g c.0 in
    let over = cell-over g v q i c.0 h.inside h.low h.high (sym recv ∙ there) in
    let found = find-nothing (λ j. is_over g q j && not (is_out g round j)) (pieces g) 0 none i (omega arith) (let z = h.inside in omega arith) in
    let out : is_out g round i ≡ true = not-false (is_out g round i) (sym (ap (λ b. b && not (is_out g round i)) over) ∙ found) in
    let t = (Touches-range g v i (start g c.0 / g.send_bytes) h.inside).0 (c.0, h.low, h.high, refl) in
    let pos = need_count-pos g v i h.inside in
    ap (is_marked round) send
    ∙ list_all-each (is_marked round) (first_part g i) (need_count g i) out (start g c.0 / g.send_bytes) t.0 (let z = t.1 in omega arith)

-- what an accepted take knows
record IsTaken (g : Shape) (r : Record) (q : ℕ) (taken : Taken) : Type 0 where
  inside : q < g.recv_parts
  none : missing_piece g (round_of r r.received) q ≡ None
  is : taken ≡ taken_of g r q

-- where a take gives something by its last test, no piece is missing, and it is what the record gives
taken_unless : (g : Shape) (r : Record) (q : ℕ) (taken : Taken) (o : Option ℕ)
    → option_map_or {U = Result Taken PlainTake} (λ i. Err (take.NotYet i)) o (Ok (taken_of g r q)) ≡ Ok taken → (o ≡ None) × (taken ≡ taken_of g r q)
taken_unless g r q taken (Some i) is = cc
taken_unless g r q taken None is = (refl, (let e : Ok (taken_of g r q) ≡ Ok taken = is in cc))

-- an accepted take is of a receive partition over which no piece is missing
is_taken : (g : Shape) (r : Record) (q : ℕ) (taken : Taken) → take_answer g r q ≡ Ok taken → IsTaken g r q taken
is_taken g r q taken is =
    elim (cases_Bool r.receiving) [
      | inr idle ↦ let e : ◌≡◌ {A = Result Taken PlainTake} (Err take.Idle) (Ok taken) = sym (rw idle refl) ∙ is in cc
      | inl busy ↦ elim (cases_Bool (nat_lt q g.recv_parts)) [
        | inr outside ↦ let e : ◌≡◌ {A = Result Taken PlainTake} (Err take.BadPartition) (Ok taken) = sym (rw (busy, outside) refl) ∙ is in cc
        | inl inside ↦ elim (cases_Bool (parts.contains r.taken q)) [
          | inl gone ↦ let e : ◌≡◌ {A = Result Taken PlainTake} (Err (take.AlreadyTaken r.received)) (Ok taken) = sym (rw (busy, inside, gone) refl) ∙ is in cc
          | inr free ↦
              let h = taken_unless g r q taken (missing_piece g (round_of r r.received) q) (sym (rw (busy, inside, free) refl) ∙ is) in
              record { inside = ltb-true _ _ inside; none = h.0; is = h.1 }
        ]
      ]
    ]

some_of : (o : Option (List ℕ)) → is_some o ≡ true → (bytes : List ℕ) × (o ≡ Some bytes)
some_of (Some bytes) is = (bytes, refl)
some_of None is = cc

-- whatever calls were made, a take gives bytes that were each marked in its round, at their place of the message
pub takes_are_marked : TakesAreMarked
unfolding bytes_of byte_at
takes_are_marked g calls q taken v is =
    let r = after_calls g calls in
    let round = round_of r r.received in
    let h = is_taken g r q taken is in
    let bytes_are : taken.bytes ≡ bytes_of g round q = ap (λ (t : Taken). t.bytes) h.is in
    let whole = whole_calls g calls first_record (first_whole g) in
    record {
      size = ap length bytes_are ∙ length-map-range_with_len (λ x. byte_at g round (q * g.recv_bytes + x)) 0 g.recv_bytes;
      marked = λ x low.
          let place = q * g.recv_bytes + x in
          let within : place < send_total g = (let p = place_below q x g.recv_parts g.recv_bytes h.inside low in let e = v.same in omega arith) in
          let there : place / g.recv_bytes ≡ q = div-mul-add q g.recv_bytes x low in
          let some = some_of (rounds.get round (place / g.send_bytes)) (place_is_marked g v round q place h.none within there) in
          record {
            bytes = some.0;
            mark = some.1;
            size = whole (r.received - 1) (place / g.send_bytes) some.0 some.1;
            is = ap (λ bs. get_or bs x 0) bytes_are ∙ get_or-map-range_with_len (λ y. byte_at g round (q * g.recv_bytes + y)) 0 g.recv_bytes x x 0 low (omega arith)
                ∙ ap (λ o. get_or (unwrap_or o []) (place % g.send_bytes) 0) some.1;
          };
    }
