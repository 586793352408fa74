-- A claim that is tried again after each loss: each word found has a bit more beside the partition's, so there are 32 tries at most.
use Rattle.std.proofs.Common.{◌≡◌, ◌≢◌, ◌⊎◌, ℕ, zero, suc, ◌+◌, ◌/◌, ◌%◌, ◌<◌, ◌≤◌, ◌==◌, List, Err, length, refl, sym, ap, ◌∙◌, subst, arith, inl, inr, length-set}
use native.Mathlib.Decide.{ℕ_discrete}
use Rattle.std.specs.Prelude.{slice_set}
use Rattle.std.proofs.lemmas.Bool.{cases_eq, cases_lt}
use Rattle.std.proofs.lemmas.List.{get_or-set_same, set-get_or, set-set}
use Rattle.std.proofs.lemmas.Nat.Bits.{same_from_bits_below}
use Rattle.gate_word.specs.Words.{word_of, round_in, shut_in, bits_in}
use Rattle.gate_word.specs.Order.{IsLater}
use Rattle.gate_word.proofs.Packing.{read, bits-small}
use Rattle.pair_core.specs.Words.{bit}
use Rattle.pair_core.specs.Names.{Name, Claim, Fits, claim_words, number, pick}
use Rattle.pair_core.proofs.Facts.{bit_lt, later_bit, number_lt}
use Rattle.pair_rule.specs.Marking.{HasWon}
use Rattle.pair_rule.specs.Seats.{MarkHeld}
use Rattle.pair_rule.specs.Views.{seen, looks, saw}
use Rattle.pair_rule.specs.declared.view.View.{View}
use Rattle.part_send.specs.Ends.{IsWide}
use Rattle.part_send.specs.Looking.{saw_often, HasSeen}
use Rattle.part_send.specs.Marking.{IsRight, Lets, Refuses, Claims, HasClaimed}
use Rattle.part_send.specs.declared.answers.ReadyRefusal.{ReadyRefusal}
use Rattle.part_send.specs.declared.answers.ReadyRefusal.TheVariants.{BadPartition, BadLength, NotActive, AlreadyMarked, BadRange}
use Rattle.part_send.proofs.Masks.{word_bit}

-- bit n of a word, but 0 where n is q
abbrev but : ℕ → ℕ → ℕ → ℕ
but w q n = pick (ℕ_discrete n q) 0 (bit w n)

-- how many of a word's bits below n are set, but for bit q
unfoldable pub others : ℕ → ℕ → ℕ → ℕ
others w q zero = 0
others w q (suc n) = but w q n + others w q n

but_cases : (w q n : ℕ) → ((n ≡ q) × (but w q n ≡ 0)) ⊎ ((n ≢ q) × (but w q n ≡ bit w n))
but_cases w q n = go (ℕ_discrete n q)
  where
    go : (c : Dec (n ≡ q)) → ((n ≡ q) × (pick c 0 (bit w n) ≡ 0)) ⊎ ((n ≢ q) × (pick c 0 (bit w n) ≡ bit w n))
    go (yes e) = inl (e, refl)
    go (no o) = inr (o, refl)

others_most : (w q n : ℕ) → others w q n ≤ n
unfolding others
others_most w q zero = omega arith
others_most w q (suc n) = let rest = others_most w q n in let small = bit_lt w n in elim (but_cases w q n) [
  | inl h ↦ let z = h.1 in omega arith
  | inr h ↦ let z = h.1 in omega arith
]

-- one fewer, where q is below n
pub others_few : (w q n : ℕ) → q < n → others w q n + 1 ≤ n
unfolding others
others_few w q zero low = absurd (omega arith)
others_few w q (suc n) low = let small = bit_lt w n in elim (but_cases w q n) [
  | inl h ↦ let z = h.1 in let rest = others_most w q n in omega arith
  | inr h ↦ let z = h.1 in let o = h.0 in let rest = others_few w q n (omega arith) in omega arith
]

-- where each bit of a stands in b, b has as many at least; and where it has no more, the same ones
others_rise : (a b q n : ℕ) → ((j : ℕ) → j < n → bit a j ≤ bit b j) → others a q n ≤ others b q n
unfolding others
others_rise a b q zero each = omega arith
others_rise a b q (suc n) each = let rest = others_rise a b q n (λ j low. each j (omega arith)) in let here = each n (omega arith) in elim (but_cases a q n) [
  | inl h ↦ let z = h.1 in omega arith
  | inr h ↦ let z = h.1 in elim (but_cases b q n) [
    | inl k ↦ absurd (h.0 k.0)
    | inr k ↦ let y = k.1 in omega arith
  ]
]

others_same : (a b q n : ℕ) → ((j : ℕ) → j < n → bit a j ≤ bit b j) → others b q n ≤ others a q n → (j : ℕ) → j < n → j ≢ q → bit a j ≡ bit b j
unfolding others
others_same a b q zero each more j low other = absurd (omega arith)
others_same a b q (suc n) each more j low other =
    let rest = others_rise a b q n (λ i under. each i (omega arith)) in let here = each n (omega arith) in
    elim (but_cases a q n) [
      | inl h ↦ let z = h.1 in elim (but_cases b q n) [
        | inl k ↦ let y = k.1 in let e = h.0 in others_same a b q n (λ i under. each i (omega arith)) (omega arith) j (let o : j ≢ n = λ f. other (f ∙ e) in omega arith) other
        | inr k ↦ absurd (k.0 h.0)
      ]
      | inr h ↦ let z = h.1 in elim (but_cases b q n) [
        | inl k ↦ absurd (h.0 k.0)
        | inr k ↦
            let y = k.1 in
            elim (cases_eq j n) [
              | inl e ↦ let now : bit a n ≡ bit b n = omega arith in ap (bit a) e ∙ (now ∙ sym (ap (bit b) e))
              | inr o ↦ others_same a b q n (λ i under. each i (omega arith)) (omega arith) j (omega arith) other
            ]
      ]
    ]

-- a word is its round and its bits
shut_bit : (w : ℕ) → shut_in w ≡ (bit w 32 == 1)
unfolding shut_in bit
shut_bit w = refl

same_word : (a b : ℕ) → round_in a ≡ round_in b → ((j : ℕ) → j < 33 → bit a j ≡ bit b j) → a ≡ b
same_word a b round bits =
    let low : bits_in a ≡ bits_in b = same_from_bits_below 32 (bits_in a) (bits_in b) (bits-small a) (bits-small b)
    (λ j under. sym (word_bit a j under) ∙ (bits j (omega arith) ∙ word_bit b j under)) in
    let shut : shut_in a ≡ shut_in b = shut_bit a ∙ (ap (λ (z : ℕ). z == 1) (bits 32 (omega arith)) ∙ sym (shut_bit b)) in
    sym (read a) ∙ ((λ i. word_of (round i) (shut i) (low i)) ∙ read b)

-- a word found after a loss, which lets the partition be claimed too, has a bit more
pub one_more : (a b k p : ℕ) → Lets a k p → Lets b k p → IsLater a b → b ≢ a → others a (p % 32) 32 + 1 ≤ others b (p % 32) 32
one_more a b k p was now later other =
    let rounds : round_in a ≡ round_in b = was.0 ∙ sym now.0 in
    let each = later_bit a b later rounds in
    elim (cases_lt (others a (p % 32) 32) (others b (p % 32) 32)) [
      | inl less ↦ omega arith
      | inr more ↦
          let same = others_same a b (p % 32) 32 (λ j low. each j (omega arith)) (omega arith) in
          let all : (j : ℕ) → j < 33 → bit a j ≡ bit b j = λ j low. elim (cases_eq j (p % 32)) [
            | inl e ↦ ap (bit a) e ∙ (was.2 ∙ sym (ap (bit b) e ∙ now.2))
            | inr o ↦ elim (cases_eq j 32) [
              | inl e ↦ ap (bit a) e ∙ (was.1 ∙ sym (ap (bit b) e ∙ now.1))
              | inr u ↦ same j (omega arith) o
            ]
          ] in
          absurd (other (sym (same_word a b rounds all)))
    ]

-- many looks at one word
module _ (d : View) (wide : IsWide d) (x : Name) (fits : Fits d.geometry x) where
  seen_room : number d.geometry x < length d.seen
  seen_room = subst (λ (z : ℕ). number d.geometry x < z) (sym wide.words) (number_lt d.geometry x fits)

  looks_room : number d.geometry x < length d.looks
  looks_room = subst (λ (z : ℕ). number d.geometry x < z) (sym wide.counts) (number_lt d.geometry x fits)

  -- the word is seen as the last of them found it
  pub often_seen : (n w : ℕ) → seen (saw_often n x w d) x ≡ w
  often_seen n w = get_or-set_same d.seen (number d.geometry x) w 0 seen_room

  -- with n looks more
  pub often_looks : (n w : ℕ) → looks (saw_often n x w d) x ≡ looks d x + n
  often_looks n w = get_or-set_same d.looks (number d.geometry x) (looks d x + n) 0 looks_room

  -- one after n looks makes n + 1, of which the last one's word is seen
  pub saw_next : (n v w : ℕ) → saw x w (saw_often n x v d) ≡ saw_often (n + 1) x w d
  saw_next n v w =
      let words = set-set d.seen (number d.geometry x) v w in
      let counts = set-set d.looks (number d.geometry x) (looks d x + n) (looks (saw_often n x v d) x + 1) in
      let many : looks (saw_often n x v d) x + 1 ≡ looks d x + (n + 1) = (let e = often_looks n v in omega arith) in
      (λ i. record d { seen = words i; looks = (counts ∙ ap (slice_set d.looks (number d.geometry x)) many) i })

  -- where there is one at least, the last one's word is found
  pub often_found : (n w : ℕ) → 1 ≤ n → IsLater (seen d x) w → HasSeen d (saw_often n x w d) x w
  often_found n w some later = record { looked = (let e = often_looks n w in omega arith); shown = often_seen n w; later = later }

-- a seat with n looks whose exchange is lost then has one more
pub lost_often : (s : MarkHeld) → IsWide s.view → (x : Name) → Fits s.view.geometry x → (n m v w : ℕ) (a b : MarkHeld) → a ≡ record s { view = saw_often n x v s.view }
    → b ≡ record a { view = saw x w a.view } → m ≡ n + 1 → b ≡ record s { view = saw_often m x w s.view }
lost_often s wide x fits n m v w a b at lost many =
    lost ∙ (ap (λ (z : MarkHeld). record z { view = saw x w z.view }) at
    ∙ ap (λ (d : View). record s { view = d }) (saw_next s.view wide x fits n v w ∙ ap (λ (z : ℕ). saw_often z x w s.view) (sym many)))

-- no look, where the word is the one that was seen, leaves the view as it is
pub saw_none : (d : View) (x : Name) (n w : ℕ) → n ≡ 0 → w ≡ seen d x → saw_often n x w d ≡ d
saw_none d x n w none is =
    let count : looks d x + n ≡ looks d x = omega arith in
    let words : slice_set d.seen (number d.geometry x) w ≡ d.seen = ap (slice_set d.seen (number d.geometry x)) is ∙ set-get_or d.seen (number d.geometry x) 0 in
    let counts : slice_set d.looks (number d.geometry x) (looks d x + n) ≡ d.looks = ap (slice_set d.looks (number d.geometry x)) count ∙ set-get_or d.looks (number d.geometry x) 0 in
    (λ i. record d { seen = words i; looks = counts i })

-- they leave a word and a count for each word of the pair
pub often_wide : (n : ℕ) (x : Name) (w : ℕ) (d : View) → IsWide d → IsWide (saw_often n x w d)
often_wide n x w d wide = record {
  words = length-set d.seen (number d.geometry x) w ∙ wide.words;
  counts = length-set d.looks (number d.geometry x) (looks d x + n) ∙ wide.counts;
}

-- a word that lets a partition be claimed doesn't refuse it
lets_or_refuses : (w k p : ℕ) (cause : ReadyRefusal) → Lets w k p → Refuses w k p cause → ⊥
lets_or_refuses w k p (NotActive shown) lets why = elim why.1 [
  | inl other ↦ other lets.0
  | inr shut ↦ absurd (let clear = lets.1 in omega arith)
]
lets_or_refuses w k p (AlreadyMarked shown) lets why = absurd (let free = lets.2 in let has = why.3 in omega arith)
lets_or_refuses w k p BadPartition lets why = why
lets_or_refuses w k p BadLength lets why = why
lets_or_refuses w k p BadRange lets why = why

-- so a claim that is refused by the word seen last has looked, where it looks unless the word lets it be claimed
pub refused_often : (s : MarkHeld) → IsWide s.view → (n k p w : ℕ) (bs : List ℕ) (a : MarkHeld) (cause : ReadyRefusal) → IsRight s.view.geometry p bs
    → a ≡ record s { view = saw_often n (Claim (p / 32)) w s.view } → IsLater (seen s.view (Claim (p / 32))) w → (n ≡ 0 → Lets w k p) → Refuses w k p cause → Claims s a k p bs n (Err cause)
refused_often s wide n k p w bs a cause right at later lets why =
    let there : p / 32 < claim_words s.view.geometry = (let low = right.0 in omega arith) in
    let some : 1 ≤ n = elim (cases_eq n 0) [
      | inl none ↦ absurd (lets_or_refuses w k p cause (lets none) why)
      | inr more ↦ omega arith
    ] in
    let view : a.view ≡ saw_often n (Claim (p / 32)) w s.view = ap (λ (z : MarkHeld). z.view) at in (
      at ∙ ap (λ (d : View). record s { view = d }) (sym view),
      record {
        right = right;
        shown = w;
        view = view;
        seen = subst (λ (d : View). HasSeen s.view d (Claim (p / 32)) w) (sym view) (often_found s.view wide (Claim (p / 32)) there n w some later);
        why = why;
      },
    )

-- a claim that is won after looks
pub won_often : (s a b : MarkHeld) (k p w n m : ℕ) (bs : List ℕ) → a ≡ record s { view = saw_often n (Claim (p / 32)) w s.view } → HasWon w p bs a b → Lets w k p
    → IsLater (seen s.view (Claim (p / 32))) w → m ≡ n + 1 → HasClaimed s b k p bs m
won_often s a b k p w n m bs at won lets later many =
    record { shown = w; lost = n; steps = many; lets = lets; later = later; won = subst (λ (z : MarkHeld). HasWon w p bs z b) at won }
