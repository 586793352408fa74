-- A take: what is kept stays sound, stands for the record with the take, and the bytes are those of the round. Each
-- place of a partition that has arrived was marked, so its buffer has the bytes of the record; the other buffers stay.
use Rattle.std.proofs.Common.{◌≡◌, ◌≢◌, ℕ, ◌+◌, ◌*◌, ◌/◌, ◌%◌, ◌<◌, ◌≤◌, ◌==◌, nat_lt, Bool, true, false, cond, ◌&&◌, ◌||◌, not, Some, None, Option, Ok, Err, Result, List, [], length, get_or, set, refl, ap, sym, ◌∙◌, arith, inl, inr}
use Rattle.std.specs.FinSet as parts
use Rattle.std.specs.Cmp.{nat_cmp_total}
use Rattle.std.specs.Option.{option_map_or}
use Rattle.std.proofs.lemmas.Bool.{ltb-true, cases_eq, cases_Bool, eq-eqb, ne_eqb, and_parts, and_from, and_left, and_right, false≢true}
use Rattle.std.proofs.lemmas.List.{length-set, get_or-set_other, ext_get_or}
use Rattle.std.proofs.lemmas.List.FromFn.{length-map-range_with_len, get_or-map-range_with_len}
use Rattle.std.proofs.lemmas.Nat.{mod_below, div-mul-add, mod-mul-add}
use Rattle.std.proofs.Math.Nat.{div-lt_iff_lt-mul}
use Rattle.part_geometry.specs.Shape.{send_total}
use Rattle.plain_pair.specs.declared.answers.PlainTake.{PlainTake}
use Rattle.plain_pair.specs.declared.answers.PlainTake.TheVariants as take
use Rattle.plain_pair.specs.Taken.{Taken}
use Rattle.plain_pair.specs.Record.{Record, round_of, pieces_out, byte_at, bytes_of}
use Rattle.plain_pair.specs.Moves.{taken_of, took, take_answer, after_take}
use Rattle.plain_pair.specs.Kept.{Kept, has, kept_byte, was_taken, kept_out, buffer_place}
use Rattle.plain_pair.specs.Sound.{IsSound, HasRounds, is_away}
use Rattle.plain_pair.specs.Looking.{CanTake, IsOut, Takes, kept_missing, take_refusal}
use Rattle.plain_pair.specs.StandsFor.{StandsFor, Follows}
use Rattle.plain_pair.proofs.Touching.{has-set, has-set_other, has-set_same}
use Rattle.plain_pair.proofs.Places.{one_turn}
use Rattle.plain_pair.proofs.Starts.{kept_mark-within, place_below}
use Rattle.plain_pair.proofs.Marks.{ties}
use Rattle.plain_pair.proofs.Looks.{place_marked, missing_now}

-- the place of the buffer that a take gives away
abbrev pub place_of : Kept → ℕ → ℕ
place_of k q = buffer_place k.shape k.received q

-- what is kept after a take
abbrev pub taken_kept : Kept → ℕ → Kept
taken_kept k q = record k { taken = set k.taken q true; buffers = set k.buffers (place_of k q) [] }

-- a take changes no round
same_rounds : (k : Kept) (q : ℕ) → HasRounds k → HasRounds (taken_kept k q)
same_rounds k q r = record {
  sent = r.sent;
  received = r.received;
  released = r.released;
  begun = r.begun;
  ahead = r.ahead;
  idle_ahead = r.idle_ahead;
  idle = r.idle;
  busy = r.busy;
}

-- what isn't given back of a partition that isn't taken
not_back : (k : Kept) (missing : List ℕ) (q : ℕ) → IsSound k missing → CanTake k q → has k.back q ≡ false
not_back k missing q s m =
    elim (cases_Bool (has k.back q)) [
      | inr no_one ↦ no_one
      | inl back ↦ absurd (false≢true (sym m.free ∙ s.returned q m.inside back))
    ]

-- two places of buffers are one only where both the place and the partition are
pub one_place : (a b q x n : ℕ) → q < n → x < n → a * n + x ≡ b * n + q → (a ≡ b) × (x ≡ q)
one_place a b q x n low high same =
    let e : (a * n + x) / n ≡ (b * n + q) / n = ap (λ z. z / n) same in
    let f : (a * n + x) % n ≡ (b * n + q) % n = ap (λ z. z % n) same in
    (sym (div-mul-add a n x high) ∙ e ∙ div-mul-add b n q low, sym (mod-mul-add a n x high) ∙ f ∙ mod-mul-add b n q low)

-- which buffers are away after the take
away_after : (k : Kept) (q place x : ℕ) → q < length k.taken → is_away (taken_kept k q) place x ≡ false → (x ≢ q → is_away k place x ≡ false)
away_after k q place x there here other =
    ap (λ b. (k.receiving && (place == k.received % k.shape.depth)) && (b && not (has k.back x))) (sym (has-set_other k.taken q x other)) ∙ here

-- after a take each buffer that is there is full
full_after : (k : Kept) (missing : List ℕ) (q : ℕ) → IsSound k missing → CanTake k q → (place x : ℕ) → place < k.shape.depth → x < k.shape.recv_parts
    → is_away (taken_kept k q) place x ≡ false → length (get_or (set k.buffers (place_of k q) []) (place * k.shape.recv_parts + x) []) ≡ k.shape.recv_bytes
full_after k missing q s m place x low high here =
    let g = k.shape in
    let there : q < length k.taken = (let e = s.sizes.taken_size in let i = m.inside in omega arith) in
    elim (cases_eq (place * g.recv_parts + x) (place_of k q)) [
      | inl same ↦
          let e = one_place place (k.received % g.depth) q x g.recv_parts m.inside high same in
          let away : is_away (taken_kept k q) place x ≡ true = and_from _ _ (and_from k.receiving (place == k.received % g.depth) m.active (eq-eqb _ _ e.0))
          (and_from (has (set k.taken q true) x) (not (has k.back x)) (ap (has (set k.taken q true)) e.1 ∙ has-set_same k.taken q there) (ap (λ y. not (has k.back y)) e.1 ∙ ap not (not_back k missing q s m))) in
          absurd (false≢true (sym here ∙ away))
      | inr other ↦
          ap length (get_or-set_other k.buffers (place_of k q) (place * g.recv_parts + x) [] [] other)
          ∙ s.sizes.full place x low high (elim (cases_eq x q) [
            | inr apart ↦ away_after k q place x there here apart
            | inl one ↦
                let elsewhere : place ≢ k.received % g.depth = λ e. other (ap (λ n. n * g.recv_parts + x) e ∙ ap (λ y. k.received % g.depth * g.recv_parts + y) one) in
                and_left (k.receiving && (place == k.received % g.depth)) (has k.taken x && not (has k.back x)) (and_right k.receiving (place == k.received % g.depth) (ne_eqb _ _ elsewhere))
          ])
    ]

-- what is kept after a take of a partition that has arrived is sound
pub sound_take : (k : Kept) (missing : List ℕ) (q : ℕ) → IsSound k missing → CanTake k q → kept_missing k q ≡ None → IsSound (taken_kept k q) missing
sound_take k missing q s m none =
    let g = k.shape in
    let there : q < length k.taken = (let e = s.sizes.taken_size in let i = m.inside in omega arith) in
    record {
      shape = s.shape;
      sizes = record {
        marked_size = s.sizes.marked_size;
        taken_size = length-set k.taken q true ∙ s.sizes.taken_size;
        back_size = s.sizes.back_size;
        missing_size = s.sizes.missing_size;
        buffers_size = length-set k.buffers (place_of k q) [] ∙ s.sizes.buffers_size;
        full = full_after k missing q s m;
      };
      rounds = same_rounds k q s.rounds;
      counts = s.counts;
      whole = s.whole;
      done = s.done;
      arrived = λ busy part x inside taken place here.
          elim (cases_eq part q) [
            | inl one ↦ place_marked k missing q x s none place (here ∙ one)
            | inr other ↦ s.arrived busy part x inside (sym (has-set_other k.taken q part other) ∙ taken) place here
          ];
      returned = λ part inside back.
          elim (cases_eq part q) [
            | inl one ↦ ap (has (set k.taken q true)) one ∙ has-set_same k.taken q there
            | inr other ↦ has-set_other k.taken q part other ∙ s.returned part inside back
          ];
    }

-- where a place of a round in flight wasn't taken after the take, it wasn't before
free_before : (k : Kept) (q round x : ℕ) → q < length k.taken → was_taken (taken_kept k q) round x ≡ false → was_taken k round x ≡ false
free_before k q round x there free =
    elim (cases_Bool (was_taken k round x)) [
      | inr fine ↦ fine
      | inl taken ↦
          let h = and_parts ((round == k.received) && k.receiving) (has k.taken (x / k.shape.recv_bytes)) taken in
          let now : has (set k.taken q true) (x / k.shape.recv_bytes) ≡ true = has-set k.taken q (x / k.shape.recv_bytes) there ∙ chosen (x / k.shape.recv_bytes == q) _ h.1 in
          absurd (false≢true (sym free ∙ and_from ((round == k.received) && k.receiving) (has (set k.taken q true) (x / k.shape.recv_bytes)) h.0 now))
    ]
  where
    chosen : (b c : Bool) → c ≡ true → cond b true c ≡ true
    chosen true c e = refl
    chosen false c e = e

-- a place of a round in flight that isn't taken lies in a buffer that stays
byte_stays : (k : Kept) (missing : List ℕ) (q round x : ℕ) → IsSound k missing → CanTake k q → k.released < round → round ≤ k.sent → x < send_total k.shape
    → was_taken (taken_kept k q) round x ≡ false → kept_byte (taken_kept k q) round x ≡ kept_byte k round x
byte_stays k missing q round x s m later upto inside free =
    let g = k.shape in
    let there : q < length k.taken = (let e = s.sizes.taken_size in let i = m.inside in omega arith) in
    let pos : 0 < g.depth = omega (arith, s.shape.depth.0) in
    let ahead = s.rounds.ahead in
    let received = s.rounds.busy m.active in
    let part : x / g.recv_bytes < g.recv_parts = (div-lt_iff_lt-mul {k = g.recv_bytes} {x = x} {y = g.recv_parts} (let h = s.shape.recv_bytes.0 in omega arith)).1 (let e = s.shape.same in omega arith) in
    let apart : buffer_place g round (x / g.recv_bytes) ≢ place_of k q = λ same.
    let e = one_place (round % g.depth) (k.received % g.depth) q (x / g.recv_bytes) g.recv_parts m.inside part same in
    let one : round ≡ k.received = one_turn k.released round k.received g.depth pos later (omega arith) (omega arith) (omega arith) e.0 in
    let taken : was_taken (taken_kept k q) round x ≡ true = and_from ((round == k.received) && k.receiving) (has (set k.taken q true) (x / g.recv_bytes))
    (and_from (round == k.received) k.receiving (eq-eqb _ _ one) m.active) (ap (has (set k.taken q true)) e.1 ∙ has-set_same k.taken q there) in
    false≢true (sym free ∙ taken) in
    ap (λ buffer. get_or buffer (x % g.recv_bytes) 0) (get_or-set_other k.buffers (place_of k q) (buffer_place g round (x / g.recv_bytes)) [] [] apart)

-- and stands for the record with the take
pub stands_take : (k : Kept) (missing : List ℕ) (r : Record) (q : ℕ) → IsSound k missing → CanTake k q → StandsFor k r → StandsFor (taken_kept k q) (took r q)
unfolding kept_out pieces_out
stands_take k missing r q s m st =
    let there : q < length k.taken = (let e = s.sizes.taken_size in let i = m.inside in omega arith) in
    let released_is = st.released in let sent_is = st.sent in
    record {
      sent = st.sent;
      received = st.received;
      released = st.released;
      sending = st.sending;
      receiving = st.receiving;
      taken = λ part inside. has-set k.taken q part there ∙ chosen (part == q) (has k.taken part) (parts.contains r.taken part) (st.taken part inside)
          ∙ ap (λ b. b || parts.contains r.taken part) (sym (ties part q)) ∙ sym (parts.contains-insert nat_cmp_total r.taken q part);
      back = st.back;
      out = st.out;
      marks = st.marks;
      bytes = λ round x later upto inside is free.
          byte_stays k missing q round x s m (omega arith) (omega arith) inside free ∙ st.bytes round x later upto inside is (free_before k q round x there free);
    }
  where
    chosen : (b c d : Bool) → c ≡ d → cond b true c ≡ (b || d)
    chosen true c d e = refl
    chosen false c d e = e

-- the bytes of a receive partition that has arrived
pub taken_bytes : (k : Kept) (missing : List ℕ) (r : Record) (q : ℕ) → IsSound k missing → CanTake k q → kept_missing k q ≡ None → StandsFor k r
    → get_or k.buffers (place_of k q) [] ≡ bytes_of k.shape (round_of r r.received) q
unfolding bytes_of
taken_bytes k missing r q s m none st =
    let g = k.shape in
    let pos : 0 < g.depth = omega (arith, s.shape.depth.0) in
    let place : k.received % g.depth < g.depth = mod_below k.received g.depth pos in
    let here : length (get_or k.buffers (place_of k q) []) ≡ g.recv_bytes = s.sizes.full (k.received % g.depth) q place m.inside
    (and_right _ _ (and_left (has k.taken q) (not (has k.back q)) m.free)) in
    let received = s.rounds.busy m.active in
    let received_is = st.received in let released_is = st.released in let sent_is = st.sent in
    let size = length-map-range_with_len (λ x. byte_at g (round_of r r.received) (q * g.recv_bytes + x)) 0 g.recv_bytes in
    ext_get_or 0 (get_or k.buffers (place_of k q) []) (bytes_of g (round_of r r.received) q) (here ∙ sym size) (λ i below.
    let low : i < g.recv_bytes = omega arith in
    let x = q * g.recv_bytes + i in
    let within : x < send_total g = (let p = place_below q i g.recv_parts g.recv_bytes m.inside low in let e = s.shape.same in omega arith) in
    let over : x / g.recv_bytes ≡ q = div-mul-add q g.recv_bytes i low in
    let offset : x % g.recv_bytes ≡ i = mod-mul-add q g.recv_bytes i low in
    let marked = place_marked k missing q x s none within over in
    let upto = kept_mark-within k k.received (x / g.send_bytes) marked in
    let sender : x / g.send_bytes < g.send_parts = (div-lt_iff_lt-mul {k = g.send_bytes} {x = x} {y = g.send_parts} (let h = s.shape.send_bytes.0 in omega arith)).1 within in
    let is = sym (st.marks k.received (x / g.send_bytes) (omega arith) (omega arith) sender) ∙ marked in
    let free : was_taken k k.received x ≡ false = and_right _ _ (ap (has k.taken) over ∙ m.free) in
    let byte = st.bytes k.received x (omega arith) (omega arith) within is free in
    ap (λ n. get_or (get_or k.buffers (place_of k q) []) n 0) (sym offset)
    ∙ ap (λ p. get_or (get_or k.buffers (buffer_place g k.received p) []) (x % g.recv_bytes) 0) (sym over)
    ∙ byte
    ∙ ap (λ n. byte_at g (round_of r n) x) received_is
    ∙ sym (get_or-map-range_with_len (λ x. byte_at g (round_of r r.received) (q * g.recv_bytes + x)) 0 g.recv_bytes i i 0 low (omega arith)))

-- such a take gives the bytes that each record says, and leaves the record with the take
pub takes : (k : Kept) (missing : List ℕ) (q : ℕ) → IsSound k missing → CanTake k q → kept_missing k q ≡ None
    → Takes k (taken_kept k q) q record { round = k.received; partition = q; bytes = get_or k.buffers (place_of k q) [] }
takes k missing q s m none r st =
    let bytes = taken_bytes k missing r q s m none st in (
      ap (λ n. record { round = n; partition = q; bytes = get_or k.buffers (place_of k q) [] }) st.received
          ∙ ap (λ b. record { round = r.received; partition = q; bytes = b }) bytes,
      stands_take k missing r q s m st,
    )

-- what was taken may be given back
pub is_out : (k : Kept) (missing : List ℕ) (q : ℕ) → IsSound k missing → CanTake k q
    → IsOut (taken_kept k q) record { round = k.received; partition = q; bytes = get_or k.buffers (place_of k q) [] }
is_out k missing q s m =
    let g = k.shape in
    let there : q < length k.taken = (let e = s.sizes.taken_size in let i = m.inside in omega arith) in
    let place : k.received % g.depth < g.depth = mod_below k.received g.depth (omega (arith, s.shape.depth.0)) in
    record {
      active = m.active;
      round = refl;
      inside = m.inside;
      size = s.sizes.full (k.received % g.depth) q place m.inside (and_right _ _ (and_left (has k.taken q) (not (has k.back q)) m.free));
      was_taken = has-set_same k.taken q there;
      away = not_back k missing q s m;
    }

-- what a take answers, by its refusal
abbrev pub take_by : Result (Unit {0}) PlainTake → Taken → Result Taken PlainTake
take_by (Ok u) taken = Ok taken
take_by (Err e) taken = Err e

-- a take answers the least piece that is missing, or where none is what it gives
by_missing : (o : Option ℕ) (taken : Taken)
    → option_map_or {U = Result Taken PlainTake} (λ i. Err (take.NotYet i)) o (Ok taken) ≡ take_by (option_map_or {U = Result (Unit {0}) PlainTake} (λ i. Err (take.NotYet i)) o (Ok tt)) taken
by_missing (Some i) taken = refl
by_missing None taken = refl

-- a take answers by each record the first cause against it by what is kept, or where there is none what it gives
pub take_is : (k : Kept) (missing : List ℕ) (r : Record) (q : ℕ) → IsSound k missing → StandsFor k r
    → take_answer k.shape r q ≡ take_by (take_refusal k q) (taken_of k.shape r q)
unfolding kept_missing
take_is k missing r q s st =
    elim (cases_Bool k.receiving) [
      | inr idle ↦ rw (← st.receiving, idle) refl
      | inl busy ↦ elim (cases_Bool (nat_lt q k.shape.recv_parts)) [
        | inr outside ↦ rw (← st.receiving, busy, outside) refl
        | inl inside ↦
            let same = st.taken q (ltb-true _ _ inside) in
            elim (cases_Bool (has k.taken q)) [
              | inl taken ↦ rw (← st.receiving, busy, inside, ← same, taken, st.received) refl
              | inr free ↦ rw (← st.receiving, busy, inside, ← same, free, ← missing_now k missing r s st busy q) (by_missing (kept_missing k q) (taken_of k.shape r q))
            ]
      ]
    ]

-- a refused take answers as each record says, and changes nothing
pub follows_refused_take : (k : Kept) (missing : List ℕ) (q : ℕ) (e : PlainTake) → IsSound k missing → Err e ≡ take_refusal k q
    → Follows {A = Result Taken PlainTake} k k (Err e) (λ r. take_answer k.shape r q) (λ r. after_take k.shape r q)
follows_refused_take k missing q e s refused r st =
    let answer : take_answer k.shape r q ≡ Err e = take_is k missing r q s st ∙ ap (λ o. take_by o (taken_of k.shape r q)) (sym refused) in
    let next : after_take k.shape r q ≡ r = rw answer refl in
    (sym answer, rw next st)

-- a take that is made answers as each record says, and leaves the record with the take
pub follows_taken : (k new : Kept) (missing : List ℕ) (q : ℕ) (taken : Taken) (u : Unit {0}) → IsSound k missing → Ok u ≡ take_refusal k q → Takes k new q taken
    → Follows {A = Result Taken PlainTake} k new (Ok taken) (λ r. take_answer k.shape r q) (λ r. after_take k.shape r q)
follows_taken k new missing q taken u s free takes r st =
    let h = takes r st in
    let answer : take_answer k.shape r q ≡ Ok (taken_of k.shape r q) = take_is k missing r q s st ∙ ap (λ o. take_by o (taken_of k.shape r q)) (sym free) in
    let next : after_take k.shape r q ≡ took r q = rw answer refl in
    (ap (λ t. Ok t) h.0 ∙ sym answer, rw next h.1)
