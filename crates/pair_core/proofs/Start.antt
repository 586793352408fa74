-- The first state is sound: round 0 counts as sent, taken, given back and released, and the masks have the bits for it.
use Rattle.std.proofs.Common.{◌≡◌, ◌≢◌, inl, inr, ℕ, ◌+◌, ◌-◌, ◌*◌, ◌/◌, ◌%◌, ◌^◌, ◌<◌, ◌≤◌, min, Bool, true, false, [], refl, ap, ◌∙◌, arith}
use Rattle.std.specs.Prelude.{nat_lt, if◌then◌else◌}
use Rattle.std.proofs.lemmas.Bool.{cases_eq, cases_lt, lt-ltb, le-ltb}
use Rattle.std.proofs.lemmas.Nat.{pow_below}
use Rattle.std.proofs.lemmas.Nat.Bits.{bit_at_ones, bit_at_ones_above, bit_at-zero}
use Rattle.gate_word.specs.Words.{word_of, round_in, Has}
use Rattle.gate_word.proofs.Packing.{made}
use Rattle.part_geometry.specs.Shape.{Shape, IsShape}
use Rattle.part_geometry.specs.Pieces.{pieces, need, need_count, piece_of, first_part}
use Rattle.pair_core.specs.Words.{bit}
use Rattle.pair_core.specs.Names.{Name, Claim, Release, Take, Return, Piece, Fits}
use Rattle.pair_core.specs.Core.{IsMarker, IsWatcher}
use Rattle.pair_core.specs.Reading.{IsFull}
use Rattle.pair_core.specs.Moves.{first_state, first_word, part_mask}
use Rattle.pair_core.specs.Sound.{Sound, Counts, IsUsed}
use Rattle.pair_core.specs.declared.view.Life.{Life}
use Rattle.pair_core.specs.declared.view.Life.TheVariants.{Live, Blank}
use Rattle.pair_core.proofs.Words.{has_bit, has_shut, has_open, later_refl}
use Rattle.pair_core.proofs.Cut.{some_claims, some_takes, some_pieces, touch_range, cell_piece}
use Rattle.part_geometry.proofs.PieceFacts.{need_count-le}

-- a mask of up to 32 bits
small_mask : (n : ℕ) → n ≤ 32 → 2 ^ n - 1 < 2 ^ 32
small_mask n h = elim (cases_lt n 32) [
  | inl less ↦ let p = pow_below n 32 less in omega arith
  | inr not_less ↦ let e : 2 ^ n ≡ 2 ^ 32 = ap (λ (z : ℕ). 2 ^ z) (let z : n ≡ 32 = omega arith in z) in omega arith
]

masked : (s : Bool) (n : ℕ) → n ≤ 32 → Has (word_of 0 s (2 ^ n - 1)) 0 s (2 ^ n - 1)
masked s n h = made 0 s (2 ^ n - 1) (small_mask n h)

mask_bit : (s : Bool) (n j : ℕ) → n ≤ 32 → j < n → bit (word_of 0 s (2 ^ n - 1)) j ≡ 1
mask_bit s n j h low = has_bit _ 0 (2 ^ n - 1) s (masked s n h) j (omega arith) ∙ bit_at_ones n j low

mask_none : (s : Bool) (n j : ℕ) → n ≤ 32 → n ≤ j → j < 32 → bit (word_of 0 s (2 ^ n - 1)) j ≡ 0
mask_none s n j h high small = has_bit _ 0 (2 ^ n - 1) s (masked s n h) j small ∙ bit_at_ones_above n j high

-- the mask of a word of 32 partitions has its partitions
few : (parts c : ℕ) → min 32 (parts - 32 * c) ≤ 32
few parts c = omega arith

-- a partition of the pair has its bit in the mask of its word
pub part_there : (s : Bool) (parts p : ℕ) → p < parts → bit (word_of 0 s (part_mask parts (p / 32))) (p % 32) ≡ 1
part_there s parts p h = mask_bit s (min 32 (parts - 32 * (p / 32))) (p % 32) (few parts (p / 32)) (omega arith)

part_absent : (s : Bool) (parts c j : ℕ) → ¬ (32 * c + j < parts) → j < 32 → bit (word_of 0 s (part_mask parts c)) j ≡ 0
part_absent s parts c j h small = mask_none s (min 32 (parts - 32 * c)) j (few parts c) (omega arith) small

-- a word of a mask is of round 0
pub part_round : (s : Bool) (parts c : ℕ) → round_in (word_of 0 s (part_mask parts c)) ≡ 0
part_round s parts c = (masked s (min 32 (parts - 32 * c)) (few parts c)).round

part_shut : (parts c : ℕ) → bit (word_of 0 true (part_mask parts c)) 32 ≡ 1
part_shut parts c = has_shut _ 0 _ (masked true (min 32 (parts - 32 * c)) (few parts c))

part_open : (parts c : ℕ) → bit (word_of 0 false (part_mask parts c)) 32 ≡ 0
part_open parts c = has_open _ 0 _ (masked false (min 32 (parts - 32 * c)) (few parts c))

-- the first word of a piece is full in round 0
pub piece_full : (g : Shape) → IsShape g → (d i : ℕ) → i < pieces g → IsFull g (first_word g (Piece d i)) 0 i
unfolding need
piece_full g v d i inside = let le = need_count-le g v i inside in record {
  round = (masked false (need_count g i) le).round;
  all = λ p t. let r = touch_range g v i p inside t in let a = r.low in let b = r.high in mask_bit false (need_count g i) (p - first_part g i) le (omega arith);
}

piece_clean : (g : Shape) → IsShape g → (d i j : ℕ) → i < pieces g → ¬ (j < need_count g i) → j < 33 → bit (first_word g (Piece d i)) j ≡ 0
unfolding need
piece_clean g v d i j inside no_part small = let le = need_count-le g v i inside in elim (cases_lt j 32) [
  | inl low ↦ mask_none false (need_count g i) j le (omega arith) low
  | inr high ↦ let e : j ≡ 32 = omega arith in ap (bit (word_of 0 false (2 ^ need_count g i - 1))) e ∙ has_open _ 0 _ (masked false (need_count g i) le)
]

-- the release word
pub zero_word : Has (word_of 0 false 0) 0 false 0
zero_word = made 0 false 0 (omega arith)

zero_clean : (j : ℕ) → j < 33 → bit (word_of 0 false 0) j ≡ 0
zero_clean j small = elim (cases_lt j 32) [
  | inl low ↦ has_bit _ 0 0 false zero_word j low ∙ bit_at-zero j
  | inr high ↦ let e : j ≡ 32 = omega arith in ap (bit (word_of 0 false 0)) e ∙ has_open _ 0 0 zero_word
]

recv_clean : (g : Shape) (t j : ℕ) → j < 33 → ¬ ((j < 32) × (32 * t + j < g.recv_parts)) → bit (word_of 0 false (part_mask g.recv_parts t)) j ≡ 0
recv_clean g t j small unused = elim (cases_lt j 32) [
  | inl low ↦ part_absent false g.recv_parts t j (λ h. unused (low, h)) low
  | inr high ↦ let e : j ≡ 32 = omega arith in ap (bit (word_of 0 false (part_mask g.recv_parts t))) e ∙ part_open g.recv_parts t
]

claim_low : (g : Shape) (c j : ℕ) → j < 33 → ¬ IsUsed g (Claim c) j → j < 32
claim_low g c j small unused = elim (cases_eq j 32) [ inl e ↦ absurd (unused (inl e)) | inr other ↦ omega arith ]

-- no unused bit is set
clean : (g : Shape) → IsShape g → (x : Name) (j : ℕ) → Fits g x → j < 33 → ¬ IsUsed g x j → bit (first_word g x) j ≡ 0
clean g v (Claim c) j fits small unused = let low = claim_low g c j small unused in part_absent true g.send_parts c j (λ h. unused (inr (low, h))) low
clean g v Release j fits small unused = zero_clean j small
clean g v (Take t) j fits small unused = recv_clean g t j small unused
clean g v (Return t) j fits small unused = recv_clean g t j small unused
clean g v (Piece d i) j fits small unused = piece_clean g v d i j fits.1 unused small

-- no seat is out
none_out : (IsSort : ℕ → Type 0) (life : ℕ → Life) → ((n : ℕ) → IsSort n → life n ≢ Live) → Counts IsSort life 0
none_out IsSort life no_seat = record {
  seats = [];
  number = refl;
  all = λ n sort live. absurd (no_seat n sort live);
  only = λ n h. absurd (omega arith);
}

low_seat : (n : ℕ) → n < 2 → (if nat_lt n 2 then Live else Blank) ≡ Live
low_seat n h = rw (lt-ltb n 2 h) refl

high_seat : (n : ℕ) → 2 ≤ n → (if nat_lt n 2 then Live else Blank) ≢ Live
high_seat n h e = let f : (if nat_lt n 2 then Live else Blank) ≡ Blank = rw (le-ltb n 2 h) refl in absurd (cc)

-- so each group holds, with no seat out and no mark
pub starts_sound : {A : Type 0} (g : Shape) → IsShape g → Sound g (first_state {A = A} g)
starts_sound {A} g v =
    let words = some_claims g v in let words' = some_takes g v in let some = some_pieces g v in
    let release : round_in (word_of 0 false 0) ≡ 0 = zero_word.round in
    record {
      who = λ k p. 0;
      progress = record {
        some = some;
        pieces_most = omega arith;
        opened = omega arith;
        shut = omega arith;
        opens_last = λ _. refl;
        shuts_last = λ _. refl;
        begun = λ _. refl;
        behind = omega arith;
        ahead = omega arith;
        some_return = words';
        returns = omega arith;
        takes = omega arith;
        takes_last = λ _. refl;
        ends_last = λ _. refl;
        ends_once = omega arith;
        current = omega arith;
      };
      gates = record {
        is_shut = λ c h. (part_round true g.send_parts c, part_shut g.send_parts c);
        is_open = λ c l h. absurd (omega arith);
        is_past = λ c l h. absurd (omega arith);
        all_ended = λ p h _. part_there true g.send_parts p h;
        all_past = λ p h _. part_there true g.send_parts p h;
      };
      pieces = record {
        other = λ d i h l _. piece_full g v d i l;
        waiting = λ i h l. absurd (omega arith);
        current = λ i h. (piece_full g v (0 % g.depth) i h).round;
        ended = λ i p h _ t. (piece_full g v (0 % g.depth) i h).all p t;
        claimed = λ i p h e. absurd (omega arith);
      };
      receiving = record {
        return_now = λ t _. part_round false g.recv_parts t;
        return_past = λ t l h. absurd (omega arith);
        take_now = λ t _. part_round false g.recv_parts t;
        take_past = λ t l h. absurd (omega arith);
        all_returned = λ q h _. part_there false g.recv_parts q h;
        all_taken = λ q h _. part_there false g.recv_parts q h;
        none_returned = λ q h l. absurd (omega arith);
        none_taken = λ q h l. absurd (omega arith);
        within = λ q h _. let a = part_there false g.recv_parts q h in omega arith;
        done = λ q h _. (part_there false g.recv_parts q h, part_there false g.recv_parts q h);
      };
      arrived = λ q i h l act. let z = act.1 in absurd (omega arith);
      claims = record {
        each = λ n x e. absurd (cc);
        all = λ p i h l t o. let z = o.0.0 in absurd (omega arith);
      };
      slots = record {
        lent = λ c h o. let z = o.0.0 in absurd (omega arith);
        held = λ c h o. let z = o.0.1 in absurd (omega arith);
        home = λ d c _ _ _ _. (0, refl);
        tied = λ d c k h l at _. let e = (piece_full g v d (piece_of g c) (cell_piece g c l)).round in let f : 0 ≡ k = cc in omega arith;
      };
      marks = record {
        own = λ n k p h. absurd (omega arith);
        all = λ k p some h less. let a = part_round true g.send_parts (p / 32) in let b = part_there true g.send_parts p h in absurd (omega arith);
      };
      takes = record {
        own = λ k q h. absurd (omega arith);
        all = λ k q some h less. let a = part_round false g.recv_parts (q / 32) in let b = part_there false g.recv_parts q h in absurd (omega arith);
        out = λ k q i p h. absurd (omega arith);
      };
      unused = clean g v;
      seen = record { present = λ n x _ _. later_refl (first_word g x); first = λ n x _. later_refl (first_word g x) };
      opened = λ c unshut l. absurd (omega arith);
      news = λ n _. record { seen = λ x _. refl; looks = λ x _. refl; pending = refl; marks = refl };
      owns = record { takes = λ t _. refl; returns = λ t _. refl };
      lives = record {
        send = low_seat 0 (omega arith);
        recv = low_seat 1 (omega arith);
        markers_out = none_out IsMarker (λ n. if nat_lt n 2 then Live else Blank) (λ n sort. high_seat n sort.0);
        watchers_out = none_out IsWatcher (λ n. if nat_lt n 2 then Live else Blank) (λ n sort. high_seat n sort.0);
      };
    }
