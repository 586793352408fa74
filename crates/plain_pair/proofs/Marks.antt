-- A mark: what is kept stays sound, stands for the record with the mark, and the pieces that went out are counted. The
-- places of the partition get its bytes; each piece that it touches lacks one partition less, and goes out where that
-- was the last one.
use Rattle.std.proofs.Common.{◌≡◌, ◌≢◌, ◌⊎◌, ℕ, ◌+◌, ◌-◌, ◌*◌, ◌/◌, ◌%◌, ◌<◌, ◌≤◌, ◌==◌, nat_lt, Bool, true, false, cond, ◌&&◌, not, Some, Option, is_some, unwrap_or, List, [], length, get_or, set, count_by, refl, ap, sym, ◌∙◌, arith, inl, inr}
use Rattle.std.specs.FinMap as rounds
use Rattle.std.specs.Ordering.{nat_cmp, eq_by_cmp}
use Rattle.std.specs.Cmp.{nat_cmp_total}
use Rattle.std.specs.List.{range_with_len}
use Rattle.std.proofs.lemmas.Bool.{cases_lt, cases_eq, cases_Bool, eq-eqb, ne_eqb, lt-ltb, le-ltb, or_left, or_right, or_cases, and_parts, false≢true, eqb-true, cond-true, cond-false, and_from}
use Rattle.std.proofs.lemmas.List.{length-set, get_or-set_same, get_or-set_other}
use Rattle.std.proofs.lemmas.List.Sums.{sum_by-set}
use Rattle.std.proofs.Math.Nat.{div-eq_of_lt-le, div-lt_iff_lt-mul, le-div_iff_mul-le}
use Rattle.std.proofs.lemmas.Nat.{mul-le, mod_below}
use Rattle.part_geometry.specs.Shape.{Shape, send_total}
use Rattle.part_geometry.specs.Pieces.{pieces, first_part, need_count, needed}
use Rattle.plain_pair.specs.Record.{Record, Round, no_marks, send_round, round_of, is_marked, is_out, round_out, pieces_out, byte_at}
use Rattle.plain_pair.specs.Moves.{marked}
use Rattle.plain_pair.specs.Kept.{Kept, has, is_whole, kept_mark, kept_byte, kept_out}
use Rattle.plain_pair.specs.Sound.{IsSound, HasRounds, unmarked, is_away}
use Rattle.plain_pair.specs.Marking.{CanMark, Marks}
use Rattle.plain_pair.specs.StandsFor.{StandsFor}
use Rattle.plain_pair.specs.Tables.{ArePiecesOf}
use Rattle.plain_pair.specs.Stored.{Stores, HasRoom}
use Rattle.plain_pair.specs.Lessens.{Lessens}
use Rattle.plain_pair.proofs.Counts.{count-same, count-none}
use Rattle.plain_pair.proofs.Lessening.{count-split}
use Rattle.plain_pair.proofs.Outs.{whole-missing}
use Rattle.plain_pair.proofs.Rounds.{needed_below}
use Rattle.plain_pair.proofs.Touching.{has-set, unmarked-touched, unmarked-apart}
use Rattle.plain_pair.proofs.Agree.{list_all-same, marks_now, out_now}
use Rattle.plain_pair.proofs.Places.{one_turn, places_apart}
use Rattle.plain_pair.proofs.Starts.{kept_mark-before}

-- the place of the first buffer of the sender's round
abbrev pub base_of : Kept → ℕ
base_of k = k.sent % k.shape.depth * k.shape.recv_parts

-- what is kept after a mark
abbrev pub marked_kept : Kept → ℕ → List (List ℕ) → Kept
marked_kept k p buffers = record k { marked = set k.marked p true; buffers = buffers }

-- what the work of a mark leaves
pub record IsMarked (k : Kept) (p : ℕ) (bytes missing missing' : List ℕ) (buffers : List (List ℕ)) (first end : ℕ) : Type 0 where
  pub size : length bytes ≡ k.shape.send_bytes
  pub touched : ArePiecesOf k.shape p first end
  pub lessens : Lessens missing missing' first end
  pub stores : Stores k.shape (base_of k) (p * k.shape.send_bytes) ((p + 1) * k.shape.send_bytes) bytes k.buffers buffers

-- the sender's round isn't released while a partition is unmarked
pub unreleased : (k : Kept) (missing : List ℕ) (p : ℕ) → IsSound k missing → CanMark k p → k.released < k.sent
unreleased k missing p s m =
    let low = s.rounds.released in let some = s.rounds.begun m.active in
    elim (cases_lt k.released k.sent) [
      | inl ok ↦ ok
      | inr no_more ↦ absurd (false≢true (sym m.free ∙ s.done (omega arith) some p m.inside))
    ]

-- a mark that was kept is kept
mark_stays : (k : Kept) (p round x : ℕ) (buffers : List (List ℕ)) → p < length k.marked → kept_mark k round x ≡ true → kept_mark (marked_kept k p buffers) round x ≡ true
mark_stays k p round x buffers inside is =
    elim (or_cases (nat_lt round k.sent) ((round == k.sent) && has k.marked x) is) [
      | inl before ↦ or_left _ _ before
      | inr here ↦
          let h = and_parts (round == k.sent) (has k.marked x) here in
          let there : has (set k.marked p true) x ≡ true = has-set k.marked p x inside ∙ cond_true (x == p) (has k.marked x) h.1 in
          or_right _ _ (and_from (round == k.sent) (has (set k.marked p true) x) h.0 there)
    ]
  where
    cond_true : (b c : Bool) → c ≡ true → cond b true c ≡ true
    cond_true true c e = refl
    cond_true false c e = e

-- a mark changes no round
same_rounds : (k : Kept) (p : ℕ) (buffers : List (List ℕ)) → HasRounds k → HasRounds (marked_kept k p buffers)
same_rounds k p buffers r = record {
  sent = r.sent;
  received = r.received;
  released = r.released;
  begun = r.begun;
  ahead = r.ahead;
  idle_ahead = r.idle_ahead;
  idle = r.idle;
  busy = r.busy;
}

-- in the sender's round, what is kept is what is marked
pub kept_mark-here : (k : Kept) (x : ℕ) → kept_mark k k.sent x ≡ has k.marked x
kept_mark-here k x = rw (le-ltb k.sent k.sent (omega arith), eq-eqb k.sent k.sent refl) refl

-- what is kept after a mark is sound
pub sound_mark : (k : Kept) (missing missing' : List ℕ) (p : ℕ) (bytes : List ℕ) (buffers : List (List ℕ)) (first end : ℕ) → IsSound k missing → CanMark k p
    → IsMarked k p bytes missing missing' buffers first end → IsSound (marked_kept k p buffers) missing'
sound_mark k missing missing' p bytes buffers first end s m w =
    let g = k.shape in
    let there : p < length k.marked = (let e = s.sizes.marked_size in let i = m.inside in omega arith) in
    let before = unreleased k missing p s m in
    record {
      shape = s.shape;
      sizes = record {
        marked_size = length-set k.marked p true ∙ s.sizes.marked_size;
        taken_size = s.sizes.taken_size;
        back_size = s.sizes.back_size;
        missing_size = w.lessens.size ∙ s.sizes.missing_size;
        buffers_size = w.stores.size ∙ s.sizes.buffers_size;
        full = λ place q low high here. w.stores.sizes (place * g.recv_parts + q) ∙ s.sizes.full place q low high here;
      };
      rounds = same_rounds k p buffers s.rounds;
      counts = λ i inside.
          let t = w.touched in
          elim (cases_lt i first) [
            | inl below ↦ w.lessens.outside i (inl below) ∙ s.counts i inside ∙ sym (unmarked-apart g k.marked p i (t.apart i inside (inl below)))
            | inr low ↦ elim (cases_lt i end) [
              | inr above ↦ w.lessens.outside i (inr above) ∙ s.counts i inside ∙ sym (unmarked-apart g k.marked p i (t.apart i inside (inr above)))
              | inl high ↦
                  let r = t.touch i low high in
                  let less = unmarked-touched g k.marked p i there m.free r.0 r.1 in
                  let was = s.counts i inside in
                  w.lessens.inside i low high ∙ ap (λ n. n - 1) was ∙ (let z : unmarked g k.marked i - 1 ≡ unmarked g (set k.marked p true) i = omega arith in z)
            ]
          ];
      whole = λ idle. absurd (false≢true (sym idle ∙ m.active));
      done = λ e. absurd (omega arith);
      arrived = λ busy q x inside taken place here. mark_stays k p k.received (x / g.send_bytes) buffers there (s.arrived busy q x inside taken place here);
      returned = s.returned;
    }

-- the buffers that a mark writes to have room
pub room_now : (k : Kept) (missing : List ℕ) (p : ℕ) → IsSound k missing → CanMark k p
    → HasRoom k.shape (base_of k) (p * k.shape.send_bytes) ((p + 1) * k.shape.send_bytes) k.buffers
room_now k missing p s m x low high =
    let g = k.shape in
    let v = s.shape in
    let before = unreleased k missing p s m in
    let pos : 0 < g.depth = omega (arith, v.depth.0) in
    let place : k.sent % g.depth < g.depth = mod_below k.sent g.depth pos in
    let end_le : (p + 1) * g.send_bytes ≤ send_total g = mul-le (p + 1) g.send_bytes g.send_parts g.send_bytes (let h = m.inside in omega arith) (omega arith) in
    let inside : x < send_total g = omega arith in
    let part : x / g.recv_bytes < g.recv_parts = (div-lt_iff_lt-mul {k = g.recv_bytes} {x = x} {y = g.recv_parts} (let h = v.recv_bytes.0 in omega arith)).1 (let e = v.same in omega arith) in
    s.sizes.full (k.sent % g.depth) (x / g.recv_bytes) place part (elim (cases_Bool (is_away k (k.sent % g.depth) (x / g.recv_bytes))) [
      | inr no_one ↦ no_one
      | inl away ↦
          let h = and_parts (k.receiving && (k.sent % g.depth == k.received % g.depth)) (has k.taken (x / g.recv_bytes) && not (has k.back (x / g.recv_bytes))) away in
          let a = and_parts k.receiving (k.sent % g.depth == k.received % g.depth) h.0 in
          let t = and_parts (has k.taken (x / g.recv_bytes)) (not (has k.back (x / g.recv_bytes))) h.1 in
          let received = s.rounds.busy a.0 in
          let ahead = s.rounds.ahead in
          let same : k.sent ≡ k.received = one_turn k.released k.sent k.received g.depth pos before ahead (omega arith) (omega arith) (eqb-true (k.sent % g.depth) (k.received % g.depth) a.1) in
          let old = s.arrived a.0 (x / g.recv_bytes) x part t.0 inside refl in
          let here : x / g.send_bytes ≡ p = div-eq_of_lt-le g.send_bytes low high in
          let is : has k.marked p ≡ true = ap (has k.marked) (sym here) ∙ sym (kept_mark-here k (x / g.send_bytes)) ∙ ap (λ round. kept_mark k round (x / g.send_bytes)) same ∙ old in
          absurd (false≢true (sym m.free ∙ is))
    ])

-- keys that tie are equal
pub ties : (x p : ℕ) → eq_by_cmp nat_cmp x p ≡ (x == p)
ties x p =
    elim (cases_eq x p) [
      | inl same ↦ rw (le-ltb x p (omega arith), eq-eqb x p same) refl
      | inr other ↦ elim (cases_lt x p) [
        | inl less ↦ rw (lt-ltb x p less, ne_eqb x p other) refl
        | inr more ↦ rw (le-ltb x p more, ne_eqb x p other) refl
      ]
    ]

-- a round with a mark more has its bytes for its partition, and for each other what it had
pub get_marked : (round : Round) (p x : ℕ) (bytes : List ℕ) → rounds.get (rounds.insert round p bytes) x ≡ cond (x == p) (Some bytes) (rounds.get round x)
get_marked round p x bytes = rounds.get-insert nat_cmp_total round p bytes x ∙ ap (λ b. cond b (Some bytes) (rounds.get round x)) (ties x p)

cond_some : (b : Bool) (bytes : List ℕ) (o : Option (List ℕ)) → is_some (cond b (Some bytes) o) ≡ cond b true (is_some o)
cond_some true bytes o = refl
cond_some false bytes o = refl

-- its partition is marked in it, and the others are where they were
pub is_marked-insert : (round : Round) (p x : ℕ) (bytes : List ℕ) → is_marked (rounds.insert round p bytes) x ≡ cond (x == p) true (is_marked round x)
is_marked-insert round p x bytes = ap is_some (get_marked round p x bytes) ∙ cond_some (x == p) bytes (rounds.get round x)

-- in the record after a mark the sender's round has the mark
pub round_of-marked_last : (r : Record) (p : ℕ) (bytes : List ℕ) (k : ℕ) → 0 < k → k ≡ send_round r → round_of (marked r p bytes) k ≡ rounds.insert (round_of r k) p bytes
round_of-marked_last r p bytes k pos is =
    let e : k - 1 ≡ send_round r - 1 = omega arith in
    ap (λ n. get_or (marked r p bytes).rounds n no_marks) e
    ∙ get_or-set_same r.rounds (send_round r - 1) (rounds.insert (round_of r (send_round r)) p bytes) no_marks (omega arith)
    ∙ ap (λ n. rounds.insert (round_of r n) p bytes) (sym is)

-- and the rounds before are as they were
pub round_of-marked_before : (r : Record) (p : ℕ) (bytes : List ℕ) (k : ℕ) → 0 < k → k < send_round r → round_of (marked r p bytes) k ≡ round_of r k
round_of-marked_before r p bytes k pos before =
    get_or-set_other r.rounds (send_round r - 1) (k - 1) (rounds.insert (round_of r (send_round r)) p bytes) no_marks (λ e. omega arith)

-- a mark starts no round
pub send_round-marked : (r : Record) (p : ℕ) (bytes : List ℕ) → send_round (marked r p bytes) ≡ send_round r
send_round-marked r p bytes = length-set r.rounds (send_round r - 1) _

-- two counts over a range in three parts: they agree on the first and the last, and in the middle only one counts, what
-- a third test passes
whole_three : (p q z : ℕ → Bool) (first m rest : ℕ) → ((i : ℕ) → i < first → p i ≡ q i) → ((i : ℕ) → first ≤ i → i < first + m → (p i ≡ z i) × (q i ≡ false))
    → ((i : ℕ) → first + m ≤ i → i < first + m + rest → p i ≡ q i)
    → count_by p (range_with_len 0 (first + (m + rest))) ≡ count_by q (range_with_len 0 (first + (m + rest))) + count_by z (range_with_len first m)
whole_three p q z first m rest before here behind =
    let sp = count-split p first 0 (m + rest) in let sq = count-split q first 0 (m + rest) in
    let e : 0 + first ≡ first = omega arith in
    let sp2 = rw e at sp in let sq2 = rw e at sq in
    let mp = count-split p m first rest in let mq = count-split q m first rest in
    let a = count-same p q 0 first (λ i low high. before i (omega arith)) in
    let b = count-same p z first m (λ i low high. (here i low high).0) in
    let n = count-none q first m (λ i low high. (here i low high).1) in
    let d = count-same p q (first + m) rest (λ i low high. behind i low high) in
    omega arith

-- after a mark those pieces more are whole of which one partition was missing, among those that its partition touches
pub whole_after : (k : Kept) (missing : List ℕ) (p first end : ℕ) → IsSound k missing → CanMark k p → ArePiecesOf k.shape p first end
    → count_by (is_whole k.shape (set k.marked p true)) (range_with_len 0 (pieces k.shape))
    ≡ count_by (is_whole k.shape k.marked) (range_with_len 0 (pieces k.shape)) + count_by (λ i. get_or missing i 0 == 1) (range_with_len first (end - first))
whole_after k missing p first end s m t =
    let g = k.shape in
    let there : p < length k.marked = (let e = s.sizes.marked_size in let i = m.inside in omega arith) in
    let some = t.some in let within = t.inside in
    let e : pieces g ≡ first + ((end - first) + (pieces g - end)) = omega arith in
    let same : (i : ℕ) → i < pieces g → (i < first) ⊎ (end ≤ i) → is_whole g (set k.marked p true) i ≡ is_whole g k.marked i = λ i inside out.
    sym (whole-missing g (set k.marked p true) i) ∙ ap (λ n. n == 0) (unmarked-apart g k.marked p i (t.apart i inside out)) ∙ whole-missing g k.marked i in
    rw e (whole_three (is_whole g (set k.marked p true)) (is_whole g k.marked) (λ i. get_or missing i 0 == 1) first (end - first) (pieces g - end)
    (λ i below. same i (omega arith) (inl below))
    (λ i low high.
    let r = t.touch i low (omega arith) in
    let less = unmarked-touched g k.marked p i there m.free r.0 r.1 in
    let was = s.counts i (omega arith) in
    let now : (unmarked g (set k.marked p true) i == 0) ≡ (get_or missing i 0 == 1) = one_less (unmarked g (set k.marked p true) i) (get_or missing i 0) (omega arith) in (
      sym (whole-missing g (set k.marked p true) i) ∙ now,
      sym (whole-missing g k.marked i) ∙ ne_eqb (unmarked g k.marked i) 0 (λ z. omega arith),
    ))
    (λ i low high. same i (omega arith) (inr (omega arith))))
  where
    one_less : (a b : ℕ) → a + 1 ≡ b → (a == 0) ≡ (b == 1)
    one_less a b is =
        elim (cases_eq a 0) [
          | inl none ↦ eq-eqb a 0 none ∙ sym (eq-eqb b 1 (omega arith))
          | inr some ↦ ne_eqb a 0 some ∙ sym (ne_eqb b 1 (λ e. some (omega arith)))
        ]

-- some of each piece that the partition touches is missing
pub some_missing : (k : Kept) (missing : List ℕ) (p first end : ℕ) → IsSound k missing → CanMark k p → ArePiecesOf k.shape p first end
    → (i : ℕ) → first ≤ i → i < end → 1 ≤ get_or missing i 0
some_missing k missing p first end s m t i low high =
    let there : p < length k.marked = (let e = s.sizes.marked_size in let j = m.inside in omega arith) in
    let r = t.touch i low high in
    let less = unmarked-touched k.shape k.marked p i there m.free r.0 r.1 in
    let within = t.inside in
    let was = s.counts i (omega arith) in omega arith

-- how many pieces the mark sends out
abbrev pub sent_by : List ℕ → ℕ → ℕ → ℕ
sent_by missing first end = count_by (λ i. get_or missing i 0 == 1) (range_with_len first (end - first))

-- the pieces out are those of the rounds before and the whole ones of the round, for any marks of it
out_kept : (k : Kept) (marks : List Bool) (buffers : List (List ℕ)) → 0 < k.sent
    → kept_out (record k { marked = marks; buffers = buffers }) ≡ (k.sent - 1) * pieces k.shape + count_by (is_whole k.shape marks) (range_with_len 0 (pieces k.shape))
unfolding kept_out
out_kept k marks buffers some = cond-false (k.sent == 0) _ _ (ne_eqb k.sent 0 (λ e. omega arith))

-- by what is kept, a mark sends out as many pieces as that
pub kept_out-marked : (k : Kept) (missing : List ℕ) (p : ℕ) (buffers : List (List ℕ)) (first end : ℕ) → IsSound k missing → CanMark k p → ArePiecesOf k.shape p first end
    → kept_out (marked_kept k p buffers) ≡ kept_out k + sent_by missing first end
kept_out-marked k missing p buffers first end s m t =
    let some = s.rounds.begun m.active in
    let new = out_kept k (set k.marked p true) buffers some in
    let old = out_kept k k.marked k.buffers some in
    let count = whole_after k missing p first end s m t in
    omega arith

-- the round that the record has, with the mark, agrees with what is kept
out_marked_now : (k : Kept) (missing : List ℕ) (r : Record) (p : ℕ) (bytes : List ℕ) → IsSound k missing → CanMark k p → StandsFor k r → (i : ℕ) → i < pieces k.shape
    → is_out k.shape (rounds.insert (round_of r k.sent) p bytes) i ≡ is_whole k.shape (set k.marked p true) i
unfolding is_whole is_out needed
out_marked_now k missing r p bytes s m st i inside =
    let there : p < length k.marked = (let e = s.sizes.marked_size in let j = m.inside in omega arith) in
    list_all-same (is_marked (rounds.insert (round_of r k.sent) p bytes)) (has (set k.marked p true)) (first_part k.shape i) (need_count k.shape i)
    (λ x low high. is_marked-insert (round_of r k.sent) p x bytes
    ∙ ap (cond (x == p) true) (sym (marks_now k missing r s st (s.rounds.begun m.active) x (needed_below k.shape s.shape i x inside high low)))
    ∙ sym (has-set k.marked p x there))

-- and by the record too
pub pieces_out-marked : (k : Kept) (missing : List ℕ) (r : Record) (p : ℕ) (bytes : List ℕ) (first end : ℕ) → IsSound k missing → CanMark k p → StandsFor k r
    → ArePiecesOf k.shape p first end → pieces_out k.shape (marked r p bytes) ≡ pieces_out k.shape r + sent_by missing first end
unfolding pieces_out round_out
pieces_out-marked k missing r p bytes first end s m st t =
    let g = k.shape in
    let some = s.rounds.begun m.active in
    let sent_is = st.sent in
    let last : round_of r (send_round r) ≡ round_of r k.sent = ap (round_of r) (sym sent_is) in
    let old = count-same (is_out g (round_of r k.sent)) (is_whole g k.marked) 0 (pieces g) (λ i low high. sym (out_now k missing r s st some i (omega arith))) in
    let new = count-same (is_out g (rounds.insert (round_of r k.sent) p bytes)) (is_whole g (set k.marked p true)) 0 (pieces g) (λ i low high. out_marked_now k missing r p bytes s m st i (omega arith)) in
    let sum : pieces_out g (marked r p bytes) + round_out g (round_of r (send_round r)) ≡ pieces_out g r + round_out g (rounds.insert (round_of r (send_round r)) p bytes) =
    sum_by-set (round_out g) r.rounds (send_round r - 1) (rounds.insert (round_of r (send_round r)) p bytes) no_marks (omega arith) in
    let before : round_out g (round_of r (send_round r)) ≡ count_by (is_whole g k.marked) (range_with_len 0 (pieces g)) = ap (round_out g) last ∙ old in
    let after : round_out g (rounds.insert (round_of r (send_round r)) p bytes) ≡ count_by (is_whole g (set k.marked p true)) (range_with_len 0 (pieces g)) =
    ap (λ z. round_out g (rounds.insert z p bytes)) last ∙ new in
    let count = whole_after k missing p first end s m t in
    omega arith

-- the byte that the record has after the mark
byte_at-marked : (g : Shape) (round : Round) (p x : ℕ) (bytes : List ℕ)
    → byte_at g (rounds.insert round p bytes) x ≡ cond (x / g.send_bytes == p) (get_or bytes (x % g.send_bytes) 0) (byte_at g round x)
unfolding byte_at
byte_at-marked g round p x bytes =
    ap (λ o. get_or (unwrap_or o []) (x % g.send_bytes) 0) (get_marked round p (x / g.send_bytes) bytes)
    ∙ chosen (x / g.send_bytes == p) bytes (rounds.get round (x / g.send_bytes)) (x % g.send_bytes)
  where
    chosen : (b : Bool) (bytes : List ℕ) (o : Option (List ℕ)) (i : ℕ) → get_or (unwrap_or (cond b (Some bytes) o) []) i 0 ≡ cond b (get_or bytes i 0) (get_or (unwrap_or o []) i 0)
    chosen true bytes o i = refl
    chosen false bytes o i = refl

-- the byte that is kept after the mark: the mark's, at its places of the sender's round, and else as before
kept_byte-marked : (k : Kept) (missing missing' : List ℕ) (p : ℕ) (bytes : List ℕ) (buffers : List (List ℕ)) (first end : ℕ) → IsSound k missing → CanMark k p
    → IsMarked k p bytes missing missing' buffers first end → (x : ℕ) → x < send_total k.shape
    → kept_byte (marked_kept k p buffers) k.sent x ≡ cond (x / k.shape.send_bytes == p) (get_or bytes (x % k.shape.send_bytes) 0) (kept_byte k k.sent x)
kept_byte-marked k missing missing' p bytes buffers first end s m w x inside =
    let g = k.shape in
    let pos : 0 < g.send_bytes = omega (arith, s.shape.send_bytes.0) in
    elim (cases_eq (x / g.send_bytes) p) [
      | inl here ↦
          let at : x / g.send_bytes * g.send_bytes ≡ p * g.send_bytes = ap (λ n. n * g.send_bytes) here in
          let next : (p + 1) * g.send_bytes ≡ p * g.send_bytes + g.send_bytes = omega arith in
          let offset : x - p * g.send_bytes ≡ x % g.send_bytes = omega arith in
          w.stores.here x (omega arith) (omega arith) ∙ ap (λ i. get_or bytes i 0) offset ∙ sym (cond-true (x / g.send_bytes == p) _ _ (eq-eqb _ p here))
      | inr other ↦
          let out : (x < p * g.send_bytes) ⊎ ((p + 1) * g.send_bytes ≤ x) = elim (cases_lt (x / g.send_bytes) p) [
            | inl less ↦ inl ((div-lt_iff_lt-mul {k = g.send_bytes} {x = x} {y = p} pos).0 less)
            | inr more ↦ inr ((le-div_iff_mul-le {k = g.send_bytes} {x = p + 1} {y = x} pos).0 (omega arith))
          ] in
          w.stores.elsewhere x inside out ∙ sym (cond-false (x / g.send_bytes == p) _ _ (ne_eqb _ p other))
    ]

-- a place of an earlier round in flight keeps its byte
kept_byte-other : (k : Kept) (missing missing' : List ℕ) (p : ℕ) (bytes : List ℕ) (buffers : List (List ℕ)) (first end : ℕ) → IsSound k missing → CanMark k p
    → IsMarked k p bytes missing missing' buffers first end → (round x : ℕ) → k.released < round → round < k.sent → x < send_total k.shape
    → kept_byte (marked_kept k p buffers) round x ≡ kept_byte k round x
kept_byte-other k missing missing' p bytes buffers first end s m w round x later before inside =
    let g = k.shape in
    let pos : 0 < g.depth = omega (arith, s.shape.depth.0) in
    let ahead = s.rounds.ahead in
    let part : x / g.recv_bytes < g.recv_parts = (div-lt_iff_lt-mul {k = g.recv_bytes} {x = x} {y = g.recv_parts} (let h = s.shape.recv_bytes.0 in omega arith)).1 (let e = s.shape.same in omega arith) in
    let apart : k.sent % g.depth ≢ round % g.depth = λ e. (let z = one_turn k.released k.sent round g.depth pos (omega arith) ahead later (omega arith) e in omega arith) in
    ap (λ buffer. get_or buffer (x % g.recv_bytes) 0)
    (w.stores.apart (round % g.depth * g.recv_parts + x / g.recv_bytes) (places_apart (k.sent % g.depth) (round % g.depth) (x / g.recv_bytes) g.recv_parts apart part))

-- what is kept after a mark stands for the record with the mark
pub stands_mark : (k : Kept) (missing missing' : List ℕ) (r : Record) (p : ℕ) (bytes : List ℕ) (buffers : List (List ℕ)) (first end : ℕ) → IsSound k missing → CanMark k p
    → IsMarked k p bytes missing missing' buffers first end → StandsFor k r → StandsFor (marked_kept k p buffers) (marked r p bytes)
stands_mark k missing missing' r p bytes buffers first end s m w st =
    let g = k.shape in
    let there : p < length k.marked = (let e = s.sizes.marked_size in let j = m.inside in omega arith) in
    let sent_is = st.sent in
    let released_is = st.released in
    let size = send_round-marked r p bytes in
    record {
      sent = st.sent ∙ sym size;
      received = st.received;
      released = st.released;
      sending = st.sending;
      receiving = st.receiving;
      taken = st.taken;
      back = st.back;
      out = kept_out-marked k missing p buffers first end s m w.touched ∙ ap (λ n. n + sent_by missing first end) st.out ∙ sym (pieces_out-marked k missing r p bytes first end s m st w.touched);
      marks = λ round x later upto inside.
          elim (cases_lt round k.sent) [
            | inl before ↦
                let was = st.marks round x later (omega arith) inside in
                kept_mark-before (marked_kept k p buffers) round x before ∙ sym (kept_mark-before k round x before) ∙ was
                ∙ ap (λ z. is_marked z x) (sym (round_of-marked_before r p bytes round (omega arith) (omega arith)))
            | inr now ↦
                let here : round ≡ k.sent = omega arith in
                let last = round_of-marked_last r p bytes round (omega arith) (omega arith) in
                ap (λ n. kept_mark (marked_kept k p buffers) n x) here ∙ kept_mark-here (marked_kept k p buffers) x ∙ has-set k.marked p x there
                ∙ ap (cond (x == p) true) (marks_now k missing r s st (omega arith) x inside ∙ ap (λ n. is_marked (round_of r n) x) (sym here))
                ∙ sym (is_marked-insert (round_of r round) p x bytes) ∙ ap (λ z. is_marked z x) (sym last)
          ];
      bytes = λ round x later upto inside is free.
          elim (cases_lt round k.sent) [
            | inl before ↦
                let e = round_of-marked_before r p bytes round (omega arith) (omega arith) in
                kept_byte-other k missing missing' p bytes buffers first end s m w round x (omega arith) before inside
                ∙ st.bytes round x later (omega arith) inside (ap (λ z. is_marked z (x / g.send_bytes)) (sym e) ∙ is) free ∙ ap (λ z. byte_at g z x) (sym e)
            | inr now ↦
                let here : round ≡ k.sent = omega arith in
                let last = round_of-marked_last r p bytes round (omega arith) (omega arith) in
                ap (λ n. kept_byte (marked_kept k p buffers) n x) here ∙ kept_byte-marked k missing missing' p bytes buffers first end s m w x inside
                ∙ both (x / g.send_bytes == p) _ _ _ (λ other.
                let old : is_marked (round_of r round) (x / g.send_bytes) ≡ true =
                sym (ap (λ b. cond b true (is_marked (round_of r round) (x / g.send_bytes))) other) ∙ sym (is_marked-insert (round_of r round) p (x / g.send_bytes) bytes) ∙ ap (λ z. is_marked z (x / g.send_bytes)) (sym last) ∙ is in
                ap (λ n. kept_byte k n x) (sym here) ∙ st.bytes round x later (omega arith) inside old free)
                ∙ sym (byte_at-marked g (round_of r round) p x bytes) ∙ ap (λ z. byte_at g z x) (sym last)
          ];
    }
  where
    both : (b : Bool) (x y z : ℕ) → (b ≡ false → y ≡ z) → cond b x y ≡ cond b x z
    both true x y z e = refl
    both false x y z e = e refl

-- the mark as it is answered
pub marks : (k : Kept) (missing missing' : List ℕ) (p : ℕ) (bytes : List ℕ) (buffers : List (List ℕ)) (first end sent : ℕ) → IsSound k missing → CanMark k p
    → IsMarked k p bytes missing missing' buffers first end → sent ≡ sent_by missing first end → Marks k (marked_kept k p buffers) p bytes sent
marks k missing missing' p bytes buffers first end sent s m w is r st =
    let count = pieces_out-marked k missing r p bytes first end s m st w.touched in
    (omega arith, stands_mark k missing missing' r p bytes buffers first end s m w st)
