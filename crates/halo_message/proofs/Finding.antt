-- The first number of a range that passes a test, and multiples: a number that is a multiple of another stands at no place
-- between two neighbouring multiples of it.
use Rattle.std.proofs.Common.{◌≡◌, ◌∙◌, refl, sym, ap, subst, ℕ, zero, suc, ◌+◌, ◌*◌, ◌/◌, ◌%◌, ◌<◌, ◌≤◌, Bool, true, false, Option, Some, None, arith, inl, inr}
use Rattle.std.specs.Prelude.{◌⊎◌, find, is_some, max}
use Rattle.std.specs.Int.{div_ceil}
use Rattle.std.specs.List.{range_with_len}
use Rattle.std.proofs.lemmas.Bool.{cases_Bool, cases_lt, false≢true}
use Rattle.std.proofs.lemmas.Bool.Decides.{nat_tests}
use Rattle.std.proofs.lemmas.Nat.{mul-le, div-add-mod', mod_below}
use Rattle.halo_message.specs.Message.{is_shared}

-- no number of the range passes
pub find-none : (p : ℕ → Bool) (n a : ℕ) → ((x : ℕ) → a ≤ x → x < a + n → p x ≡ false) → find p (range_with_len a n) ≡ None
find-none p zero a none = refl
find-none p (suc n) a none = rw (none a (omega arith) (omega arith)) (find-none p n (a + 1) (λ x g l. none x (omega arith) (omega arith)))

-- x passes, and no number before it
pub find-some : (p : ℕ → Bool) (n a x : ℕ) → a ≤ x → x < a + n → p x ≡ true → ((y : ℕ) → a ≤ y → y < x → p y ≡ false) → find p (range_with_len a n) ≡ Some x
find-some p zero a x g l here none = absurd (omega arith)
find-some p (suc n) a x g l here none =
    elim (cases_lt a x) [
      | inl less ↦ rw (none a (omega arith) less) (find-some p n (a + 1) x (omega arith) (omega arith) here (λ y gy ly. none y (omega arith) ly))
      | inr more ↦ let same : a ≡ x = omega arith in rw same (rw here refl)
    ]

-- what is found passes, and lies in the range
pub record IsFound (p : ℕ → Bool) (n a x : ℕ) : Type 0 where
  pub from : a ≤ x
  pub below : x < a + n
  pub passes : p x ≡ true

-- what `find` gives is found
pub found : (p : ℕ → Bool) (n a x : ℕ) → find p (range_with_len a n) ≡ Some x → IsFound p n a x
found p zero a x is = absurd cc
found p (suc n) a x is =
    elim (cases_Bool (p a)) [
      | inl passes ↦ let here : ◌≡◌ {A = Option ℕ} (Some a) (Some x) = rw passes at is in
          let same : a ≡ x = cc in
          record { from = omega arith; below = omega arith; passes = subst (λ y. p y ≡ true) same passes }
      | inr fails ↦ let later = found p n (a + 1) x (rw fails at is) in
          record { from = (let f = later.from in omega arith); below = (let b = later.below in omega arith); passes = later.passes }
    ]

-- where a number of the range passes, one is found
pub some-found : (p : ℕ → Bool) (n a x : ℕ) → a ≤ x → x < a + n → p x ≡ true → is_some (find p (range_with_len a n)) ≡ true
some-found p zero a x g l here = absurd (omega arith)
some-found p (suc n) a x g l here =
    elim (cases_Bool (p a)) [
      | inl passes ↦ rw passes refl
      | inr fails ↦ rw fails (elim (cases_lt a x) [
        | inl less ↦ some-found p n (a + 1) x (omega arith) (omega arith) here
        | inr more ↦ let same : a ≡ x = omega arith in absurd (false≢true (sym fails ∙ ap p same ∙ here))
      ])
    ]

-- no multiple of s lies between two neighbouring ones
pub between-multiples : (s k m : ℕ) → 0 < s → k * s < m → m < k * s + s → m % s ≡ 0 → ⊥
between-multiples s k m some more less even =
    let whole = div-add-mod' m s in
    elim (cases_lt k (m / s)) [
      | inl above ↦ let n = mul-le (k + 1) s (m / s) s (omega arith) (omega arith) in omega (arith, n, whole)
      | inr below ↦ let n = mul-le (m / s) s k s below (omega arith) in omega (arith, n, whole)
    ]

-- one of both numbers doesn't divide n
pub shared-not : (a b s n : ℕ) → (s ≡ a) ⊎ (s ≡ b) → (n % s ≡ 0 → ⊥) → is_shared a b n ≡ false
shared-not a b s n which odd =
    elim which [
      | inl same ↦ let odd' : n % a ≡ 0 → ⊥ = λ e. odd (ap (λ d. n % d) same ∙ e) in grind (arith, nat_tests)
      | inr same ↦ let odd' : n % b ≡ 0 → ⊥ = λ e. odd (ap (λ d. n % d) same ∙ e) in grind (arith, nat_tests)
    ]

-- how far a walk over the multiples of s has come: it stands at one of them, and no shared multiple was passed
pub record Walked (a b from s n : ℕ) : Type 0 where
  pub step : (s ≡ a) ⊎ (s ≡ b)
  pub some : (1 ≤ s) × (s ≤ 1024)
  pub times : ℕ
  pub place : n ≡ times * s
  pub reached : (from ≤ n) × (n < from + 9216)
  pub none : (m : ℕ) → from ≤ m → m < n → is_shared a b m ≡ false

-- the walk begins at the first multiple of s from the first number on, before which no multiple of s stands
pub walk-first : (a b from s n k : ℕ) → (s ≡ a) ⊎ (s ≡ b) → 1 ≤ s → s ≤ 1024 → n ≡ k * s → from ≤ n → n < from + s → Walked a b from s n
walk-first a b from s n k which some few place enough near = record {
  step = which;
  some = (some, few);
  times = k;
  place = place;
  reached = (enough, omega arith);
  none = λ m g l. shared-not a b s m which (λ even. elim (cases_lt 0 k) [
    | inl more ↦
        let whole = div-add-mod' m s in
        elim (cases_lt (m / s) k) [
          | inl below ↦ let n' = mul-le (m / s + 1) s k s (omega arith) (omega arith) in omega (arith, whole, n')
          | inr above ↦ let n' = mul-le k s (m / s) s above (omega arith) in omega (arith, whole, n')
        ]
    | inr none ↦ let zero' : k ≡ 0 = omega arith in let z : n ≡ 0 = place ∙ ap (λ j. j * s) zero' ∙ (omega arith) in omega arith
  ]);
}

-- the next multiple of s: between it and this one no number is shared
pub walk-next : (a b from s n : ℕ) → Walked a b from s n → n < from + 8192 → is_shared a b n ≡ false → Walked a b from s (n + s)
walk-next a b from s n w less here =
    let some = w.some in let place = w.place in let reached = w.reached in
    record {
      step = w.step;
      some = w.some;
      times = w.times + 1;
      place = omega arith;
      reached = (omega arith, omega arith);
      none = λ m g l. elim (cases_lt m n) [
        | inl before ↦ w.none m g before
        | inr after ↦ elim (cases_lt n m) [
          | inl past ↦ shared-not a b s m w.step (between-multiples s w.times m (omega arith) (omega arith) (omega arith))
          | inr at ↦ let same : n ≡ m = omega arith in subst (λ x. is_shared a b x ≡ false) same here
        ]
      ];
    }

-- the greater of both numbers is one of them
pub one-of-both : (a b s : ℕ) → s ≡ max a b → (s ≡ a) ⊎ (s ≡ b)
one-of-both a b s is =
    elim (cases_lt a b) [
      | inl less ↦ inr (omega arith)
      | inr more ↦ inl (omega arith)
    ]

-- the quotient that is rounded up gives the next multiple
pub rounded-up : (n s q : ℕ) → 1 ≤ s → q ≡ div_ceil n s → (n ≤ q * s) × (q * s < n + s)
rounded-up n s q some is =
    let whole = div-add-mod' n s in
    let small = mod_below n s some in
    elim (cases_lt 0 (n % s)) [
      | inl more ↦ let up : q ≡ n / s + 1 = omega arith in
          let e : q * s ≡ n / s * s + s = ap (λ x. x * s) up ∙ omega arith in (omega arith, omega arith)
      | inr none ↦ let down : q ≡ n / s = omega arith in
          let e : q * s ≡ n / s * s = ap (λ x. x * s) down in (omega arith, omega arith)
    ]
