-- Numbers in a row, one more at the end.
use Rattle.std.proofs.Common.{◌≡◌, ℕ, zero, suc, ◌+◌, ◌-◌, ◌<◌, ◌≤◌, Bool, true, false, cond, List, [], ◌∷◌, ◌++◌, refl, sym, ap, ◌∙◌, arith, add-zero, add-one}
use Rattle.std.specs.Prelude.{fold, filter, count_by, if◌then◌else◌}
use Rattle.std.specs.List.{range_with_len}
use Rattle.std.proofs.lemmas.List.{append-nil}
use Rattle.std.proofs.lemmas.List.Elements.{filter-append}
use Rattle.std.proofs.lemmas.List.Sums.{fold-append}

range_suc : (a n : ℕ) → range_with_len a (suc n) ≡ range_with_len a n ++ (a + n) ∷ []
range_suc a zero = ap (λ (z : ℕ). z ∷ []) (sym (add-zero a))
range_suc a (suc n) =
    let e : a + 1 + n ≡ a + suc n = omega arith in
    ap (λ (z : List ℕ). a ∷ z) (range_suc (a + 1) n ∙ ap (λ (m : ℕ). range_with_len (a + 1) n ++ m ∷ []) e)

-- a range of one number more has it at its end
pub range_more : (a n : ℕ) → range_with_len a (n + 1) ≡ range_with_len a n ++ (a + n) ∷ []
range_more a n = ap (range_with_len a) (add-one n) ∙ range_suc a n

-- a fold over one number more makes one step more
pub fold_more : {X : Type 0} (f : X → ℕ → X) (d : X) (n : ℕ) → fold f d (range_with_len 0 (n + 1)) ≡ f (fold f d (range_with_len 0 n)) n
fold_more f d n =
    let e : 0 + n ≡ n = omega arith in
    ap (fold f d) (range_more 0 n) ∙ (fold-append f d (range_with_len 0 n) ((0 + n) ∷ []) ∙ ap (f (fold f d (range_with_len 0 n))) e)

-- a range in two parts
pub range_both : (a n m : ℕ) → range_with_len a (n + m) ≡ range_with_len a n ++ range_with_len (a + n) m
range_both a zero m = let z : 0 + m ≡ m = omega arith in let s : a ≡ a + 0 = omega arith in ap (range_with_len a) z ∙ ap (λ (b : ℕ). range_with_len b m) s
range_both a (suc n) m =
    let z : suc n + m ≡ suc (n + m) = omega arith in let s : a + 1 + n ≡ a + suc n = omega arith in
    ap (range_with_len a) z ∙ ap (λ (l : List ℕ). a ∷ l) (range_both (a + 1) n m ∙ ap (λ (b : ℕ). range_with_len (a + 1) n ++ range_with_len b m) s)

-- what a test keeps of a range where it fails everywhere, and where it holds everywhere
none_kept : (f : ℕ → Bool) (a n : ℕ) → ((i : ℕ) → a ≤ i → i < a + n → f i ≡ false) → filter f (range_with_len a n) ≡ []
none_kept f a zero each = refl
none_kept f a (suc n) each = rw (each a (omega arith) (omega arith)) (none_kept f (a + 1) n (λ i low high. each i (omega arith) (omega arith)))

all_kept : (f : ℕ → Bool) (a n : ℕ) → ((i : ℕ) → a ≤ i → i < a + n → f i ≡ true) → filter f (range_with_len a n) ≡ range_with_len a n
all_kept f a zero each = refl
all_kept f a (suc n) each =
    rw (each a (omega arith) (omega arith)) (ap (λ (l : List ℕ). a ∷ l) (all_kept f (a + 1) n (λ i low high. each i (omega arith) (omega arith))))

-- a test that holds from `low` on for m numbers keeps them
pub middle_kept : (f : ℕ → Bool) (n low m : ℕ) → low + m ≤ n → ((i : ℕ) → i < low → f i ≡ false) → ((i : ℕ) → low ≤ i → i < low + m → f i ≡ true)
    → ((i : ℕ) → low + m ≤ i → i < n → f i ≡ false) → filter f (range_with_len 0 n) ≡ range_with_len low m
middle_kept f n low m few before here behind =
    let whole : n ≡ low + (m + (n - (low + m))) = omega arith in
    let zero' : 0 + low ≡ low = omega arith in
    let rest : ℕ = n - (low + m) in
    let cut : range_with_len 0 n ≡ range_with_len 0 low ++ (range_with_len low m ++ range_with_len (low + m) rest) =
    ap (range_with_len 0) whole ∙ (range_both 0 low (m + rest)
    ∙ (ap (λ (b : ℕ). range_with_len 0 low ++ range_with_len b (m + rest)) zero' ∙ ap (λ (l : List ℕ). range_with_len 0 low ++ l) (range_both low m rest))) in
    ap (filter f) cut ∙ (filter-append f (range_with_len 0 low) (range_with_len low m ++ range_with_len (low + m) rest)
    ∙ (ap (λ (l : List ℕ). l ++ filter f (range_with_len low m ++ range_with_len (low + m) rest)) (none_kept f 0 low (λ i a b. before i (omega arith)))
    ∙ (filter-append f (range_with_len low m) (range_with_len (low + m) rest)
    ∙ ((λ i. all_kept f low m here i ++ none_kept f (low + m) rest (λ j a b. behind j a (omega arith)) i) ∙ append-nil (range_with_len low m)))))

-- a count over a range goes by what the test says there
same_fold : (f h : ℕ → Bool) (m a n : ℕ) → ((i : ℕ) → a ≤ i → i < a + n → f i ≡ h i)
    → fold (λ (k x : ℕ). k + cond (f x) 1 0) m (range_with_len a n) ≡ fold (λ (k x : ℕ). k + cond (h x) 1 0) m (range_with_len a n)
same_fold f h m a zero each = refl
same_fold f h m a (suc n) each =
    ap (λ (b : Bool). fold (λ (k x : ℕ). k + cond (f x) 1 0) (m + cond b 1 0) (range_with_len (a + 1) n)) (each a (omega arith) (omega arith))
    ∙ same_fold f h (m + cond (h a) 1 0) (a + 1) n (λ i low high. each i (omega arith) (omega arith))

-- two tests that say the same on a range count the same there
pub same_count : (f h : ℕ → Bool) (a n : ℕ) → ((i : ℕ) → a ≤ i → i < a + n → f i ≡ h i) → count_by f (range_with_len a n) ≡ count_by h (range_with_len a n)
same_count f h a n each = same_fold f h 0 a n each

-- one number more counts where it passes
pub count_more : (f : ℕ → Bool) (a n : ℕ) (b : Bool) → f (a + n) ≡ b → count_by f (range_with_len a (n + 1)) ≡ count_by f (range_with_len a n) + (if b then 1 else 0)
count_more f a n b is =
    ap (count_by f) (range_more a n)
    ∙ (fold-append (λ (k x : ℕ). k + cond (f x) 1 0) 0 (range_with_len a n) ((a + n) ∷ [])
    ∙ ap (λ (z : Bool). count_by f (range_with_len a n) + cond z 1 0) is)
