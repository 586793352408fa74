-- The test of a full piece word: the list of what a piece touches is a range, and a list's test is that of each number.
use Rattle.std.proofs.Common.{◌≡◌, ◌≢◌, inl, inr, ℕ, zero, suc, ◌+◌, ◌<◌, ◌≤◌, Bool, true, false, true≢false, ◌==◌, ◌&&◌, refl, sym, ap, ◌∙◌, arith}
use Rattle.std.specs.List.{range_with_len, list_all}
use Rattle.std.proofs.lemmas.Bool.{cases_eq, eq-eqb, eqb-true}
use Rattle.gate_word.specs.Words.{round_in}
use Rattle.part_geometry.specs.Shape.{Shape, IsShape}
use Rattle.part_geometry.specs.Pieces.{pieces, first_part, need_count, needed, Touches}
use Rattle.pair_core.specs.Reading.{laid, IsFull, is_full}
use Rattle.pair_core.proofs.Cut.{touch_range, range_touch}

-- two that are so are both so
pub and_both : (a b : Bool) → a ≡ true → b ≡ true → (a && b) ≡ true
and_both a b x y = rw (x, y) refl

-- where both are so the first is
pub and_first : (a b : Bool) → (a && b) ≡ true → a ≡ true
and_first true b h = refl
and_first false b h = h

-- and the second is
pub and_second : (a b : Bool) → (a && b) ≡ true → b ≡ true
and_second true b h = h
and_second false b h = absurd (true≢false (sym h))

-- a list's test passes where each number of its range does
pub all_range : (p : ℕ → Bool) (a n : ℕ) → ((x : ℕ) → a ≤ x → x < a + n → p x ≡ true) → list_all p (range_with_len a n) ≡ true
all_range p a zero each = refl
all_range p a (suc n) each = and_both (p a) (list_all p (range_with_len (a + 1) n)) (each a (omega arith) (omega arith))
    (all_range p (a + 1) n (λ x low high. each x (omega arith) (omega arith)))

-- and where it passes, each number of the range does
pub range_all : (p : ℕ → Bool) (a n : ℕ) → list_all p (range_with_len a n) ≡ true → (x : ℕ) → a ≤ x → x < a + n → p x ≡ true
range_all p a zero h x low high = absurd (omega arith)
range_all p a (suc n) h x low high = elim (cases_eq x a) [
  | inl e ↦ ap p e ∙ and_first (p a) (list_all p (range_with_len (a + 1) n)) h
  | inr other ↦ range_all p (a + 1) n (and_second (p a) (list_all p (range_with_len (a + 1) n)) h) x (omega arith) (omega arith)
]

-- a full word passes the test
pub full_passes : (g : Shape) → IsShape g → (w k i : ℕ) → i < pieces g → IsFull g w k i → is_full g w k i ≡ true
unfolding needed
full_passes g v w k i inside h = and_both (round_in w == k) (list_all (λ p. laid g w i p == 1) (needed g i)) (eq-eqb (round_in w) k h.round)
    (all_range (λ p. laid g w i p == 1) (first_part g i) (need_count g i)
    (λ p low high. eq-eqb (laid g w i p) 1 (h.all p (range_touch g v i p inside low high))))

-- what passes it is full
pub passes_full : (g : Shape) → IsShape g → (w k i : ℕ) → i < pieces g → is_full g w k i ≡ true → IsFull g w k i
unfolding needed
passes_full g v w k i inside h = record {
  round = eqb-true (round_in w) k (and_first (round_in w == k) (list_all (λ p. laid g w i p == 1) (needed g i)) h);
  all = λ p t. let r = touch_range g v i p inside t in
      eqb-true (laid g w i p) 1 (range_all (λ q. laid g w i q == 1) (first_part g i) (need_count g i)
      (and_second (round_in w == k) (list_all (λ q. laid g w i q == 1) (needed g i)) h) p r.low r.high);
}

-- a word that lacks a partition isn't full
pub lacks_full : (g : Shape) → IsShape g → (w k i p : ℕ) → i < pieces g → Touches g i p → laid g w i p ≢ 1 → is_full g w k i ≡ false
lacks_full g v w k i p inside t lacks = go (is_full g w k i) refl
  where
    go : (b : Bool) → is_full g w k i ≡ b → is_full g w k i ≡ false
    go true e = absurd (lacks ((passes_full g v w k i inside e).all p t))
    go false e = e
