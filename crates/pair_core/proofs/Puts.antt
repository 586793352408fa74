-- Functions with one value changed, and the words of which one was changed: what is read is the new value or an old
-- one.
use Rattle.std.proofs.Common.{◌≡◌, ◌≢◌, ℕ, refl, sym, subst}
use mathlib.Core.Logic.{dite}
use native.Mathlib.Decide.{ℕ_discrete}
use Rattle.pair_core.specs.Names.{Name, Claim, Release, Take, Return, Piece, pick, put, put_pair, put_word}

-- the value that was changed is the new one
pub put_here : {X : Type 0} (f : ℕ → X) (n : ℕ) (x : X) → put f n x n ≡ x
unfolding put
put_here {X} f n x = go (ℕ_discrete n n)
  where
    go : (d : Dec (n ≡ n)) → pick d x (f n) ≡ x
    go (yes _) = refl
    go (no o) = absurd (o refl)

-- any other is the old one
pub put_else : {X : Type 0} (f : ℕ → X) (n : ℕ) (x : X) (m : ℕ) → m ≢ n → put f n x m ≡ f m
unfolding put
put_else {X} f n x m other = go (ℕ_discrete m n)
  where
    go : (d : Dec (m ≡ n)) → pick d x (f m) ≡ f m
    go (yes e) = absurd (other e)
    go (no _) = refl

-- what holds of the new value and of the old ones elsewhere holds of all
pub put_cases : {X : Type 0} (f : ℕ → X) (n : ℕ) (x : X) (P : ℕ → X → Type 0) → P n x → ((m : ℕ) → m ≢ n → P m (f m)) → (m : ℕ) → P m (put f n x m)
put_cases {X} f n x P here rest m = dite (ℕ_discrete m n)
    (λ e. subst (λ (k : ℕ). P k (put f n x k)) (sym e) (subst (P n) (sym (put_here f n x)) here))
    (λ o. subst (P m) (sym (put_else f n x m o)) (rest m o))

-- the same of functions of two numbers
pub put_pair_cases : {X : Type 0} (f : ℕ → ℕ → X) (d i : ℕ) (x : X) (P : ℕ → ℕ → X → Type 0) → P d i x → ((e j : ℕ) → ¬ ((e ≡ d) × (j ≡ i)) → P e j (f e j))
    → (e j : ℕ) → P e j (put_pair f d i x e j)
unfolding put_pair
put_pair_cases {X} f d i x P here rest e j = put_cases f d (put (f d) i x) (λ m h. P m j (h j))
    (put_cases (f d) i x (λ n v. P d n v) here (λ n other. rest d n (λ both. other both.1)) j)
    (λ m other. rest m j (λ both. other both.0)) e

-- there too the value that was changed is the new one
pub put_pair_here : {X : Type 0} (f : ℕ → ℕ → X) (d i : ℕ) (x : X) → put_pair f d i x d i ≡ x
put_pair_here {X} f d i x = put_pair_cases f d i x (λ e j v. (e ≡ d) → (j ≡ i) → v ≡ x) (λ _ _. refl) (λ e j other a b. absurd (other (a, b))) d i refl refl

-- and any other is the old one
pub put_pair_else : {X : Type 0} (f : ℕ → ℕ → X) (d i : ℕ) (x : X) (e j : ℕ) → ¬ ((e ≡ d) × (j ≡ i)) → put_pair f d i x e j ≡ f e j
put_pair_else {X} f d i x e j other = put_pair_cases f d i x (λ m n v. ¬ ((m ≡ d) × (n ≡ i)) → v ≡ f m n) (λ o. absurd (o (refl, refl))) (λ m n _ _. refl) e j other

-- the same of two functions at once that are changed at one number
pub put_cases_both : {X : Type 0} (f h : ℕ → X) (n : ℕ) (v w : X) (P : ℕ → X → X → Type 0) → P n v w → ((m : ℕ) → P m (f m) (h m)) → (m : ℕ) → P m (put f n v m) (put h n w m)
put_cases_both {X} f h n v w P here rest m = dite (ℕ_discrete m n)
    (λ e. subst (λ (k : ℕ). P k (put f n v k) (put h n w k)) (sym e) (subst (λ z. P n z (put h n w n)) (sym (put_here f n v)) (subst (P n v) (sym (put_here h n w)) here)))
    (λ o. subst (λ z. P m z (put h n w m)) (sym (put_else f n v m o)) (subst (P m (f m)) (sym (put_else h n w m o)) (rest m)))

-- and of two functions of two numbers
pub put_pair_cases_both : {X : Type 0} (f h : ℕ → ℕ → X) (d i : ℕ) (v w : X) (P : ℕ → ℕ → X → X → Type 0) → P d i v w → ((e j : ℕ) → P e j (f e j) (h e j))
    → (e j : ℕ) → P e j (put_pair f d i v e j) (put_pair h d i w e j)
put_pair_cases_both {X} f h d i v w P here rest e j = put_pair_cases f d i v (λ m n z. P m n z (put_pair h d i w m n))
    (subst (P d i v) (sym (put_pair_here h d i w)) here)
    (λ m n other. subst (P m n (f m n)) (sym (put_pair_else h d i w m n other)) (rest m n)) e j

-- a property of names and values, of the new value and of the old ones
pub any_word : {X : Type 0} (x y : Name) (w : X) (f : Name → X) (P : Name → X → Type 0) → P x w → ((z : Name) → P z (f z)) → P y (put_word x w f y)
any_word {X} (Claim c) (Claim b) w f P here rest = put_cases (λ n. f (Claim n)) c w (λ n v. P (Claim n) v) here (λ n _. rest (Claim n)) b
any_word {X} (Claim c) Release w f P here rest = rest Release
any_word {X} (Claim c) (Take b) w f P here rest = rest (Take b)
any_word {X} (Claim c) (Return b) w f P here rest = rest (Return b)
any_word {X} (Claim c) (Piece e j) w f P here rest = rest (Piece e j)
any_word {X} Release (Claim b) w f P here rest = rest (Claim b)
any_word {X} Release Release w f P here rest = here
any_word {X} Release (Take b) w f P here rest = rest (Take b)
any_word {X} Release (Return b) w f P here rest = rest (Return b)
any_word {X} Release (Piece e j) w f P here rest = rest (Piece e j)
any_word {X} (Take c) (Claim b) w f P here rest = rest (Claim b)
any_word {X} (Take c) Release w f P here rest = rest Release
any_word {X} (Take c) (Take b) w f P here rest = put_cases (λ n. f (Take n)) c w (λ n v. P (Take n) v) here (λ n _. rest (Take n)) b
any_word {X} (Take c) (Return b) w f P here rest = rest (Return b)
any_word {X} (Take c) (Piece e j) w f P here rest = rest (Piece e j)
any_word {X} (Return c) (Claim b) w f P here rest = rest (Claim b)
any_word {X} (Return c) Release w f P here rest = rest Release
any_word {X} (Return c) (Take b) w f P here rest = rest (Take b)
any_word {X} (Return c) (Return b) w f P here rest = put_cases (λ n. f (Return n)) c w (λ n v. P (Return n) v) here (λ n _. rest (Return n)) b
any_word {X} (Return c) (Piece e j) w f P here rest = rest (Piece e j)
any_word {X} (Piece d i) (Claim b) w f P here rest = rest (Claim b)
any_word {X} (Piece d i) Release w f P here rest = rest Release
any_word {X} (Piece d i) (Take b) w f P here rest = rest (Take b)
any_word {X} (Piece d i) (Return b) w f P here rest = rest (Return b)
any_word {X} (Piece d i) (Piece e j) w f P here rest = put_pair_cases (λ m n. f (Piece m n)) d i w (λ m n v. P (Piece m n) v) here (λ m n _. rest (Piece m n)) e j

-- the same of two functions changed at one name
pub both_words : {X : Type 0} (x y : Name) (v w : X) (f h : Name → X) (P : Name → X → X → Type 0) → P x v w → ((z : Name) → P z (f z) (h z)) → P y (put_word x v f y) (put_word x w h y)
both_words {X} (Claim c) (Claim b) v w f h P here rest = put_cases_both (λ n. f (Claim n)) (λ n. h (Claim n)) c v w (λ n. P (Claim n)) here (λ n. rest (Claim n)) b
both_words {X} (Claim c) Release v w f h P here rest = rest Release
both_words {X} (Claim c) (Take b) v w f h P here rest = rest (Take b)
both_words {X} (Claim c) (Return b) v w f h P here rest = rest (Return b)
both_words {X} (Claim c) (Piece e j) v w f h P here rest = rest (Piece e j)
both_words {X} Release (Claim b) v w f h P here rest = rest (Claim b)
both_words {X} Release Release v w f h P here rest = here
both_words {X} Release (Take b) v w f h P here rest = rest (Take b)
both_words {X} Release (Return b) v w f h P here rest = rest (Return b)
both_words {X} Release (Piece e j) v w f h P here rest = rest (Piece e j)
both_words {X} (Take c) (Claim b) v w f h P here rest = rest (Claim b)
both_words {X} (Take c) Release v w f h P here rest = rest Release
both_words {X} (Take c) (Take b) v w f h P here rest = put_cases_both (λ n. f (Take n)) (λ n. h (Take n)) c v w (λ n. P (Take n)) here (λ n. rest (Take n)) b
both_words {X} (Take c) (Return b) v w f h P here rest = rest (Return b)
both_words {X} (Take c) (Piece e j) v w f h P here rest = rest (Piece e j)
both_words {X} (Return c) (Claim b) v w f h P here rest = rest (Claim b)
both_words {X} (Return c) Release v w f h P here rest = rest Release
both_words {X} (Return c) (Take b) v w f h P here rest = rest (Take b)
both_words {X} (Return c) (Return b) v w f h P here rest = put_cases_both (λ n. f (Return n)) (λ n. h (Return n)) c v w (λ n. P (Return n)) here (λ n. rest (Return n)) b
both_words {X} (Return c) (Piece e j) v w f h P here rest = rest (Piece e j)
both_words {X} (Piece d i) (Claim b) v w f h P here rest = rest (Claim b)
both_words {X} (Piece d i) Release v w f h P here rest = rest Release
both_words {X} (Piece d i) (Take b) v w f h P here rest = rest (Take b)
both_words {X} (Piece d i) (Return b) v w f h P here rest = rest (Return b)
both_words {X} (Piece d i) (Piece e j) v w f h P here rest = put_pair_cases_both (λ m n. f (Piece m n)) (λ m n. h (Piece m n)) d i v w (λ m n. P (Piece m n)) here (λ m n. rest (Piece m n)) e j

-- at one place: the new value there, or the old one
pub put_at : {X : Type 0} (f : ℕ → X) (n : ℕ) (x : X) (P : X → Type 0) (m : ℕ) → (m ≡ n → P x) → (m ≢ n → P (f m)) → P (put f n x m)
put_at {X} f n x P m here rest = dite (ℕ_discrete m n)
    (λ e. subst (λ (k : ℕ). P (put f n x k)) (sym e) (subst P (sym (put_here f n x)) (here e)))
    (λ o. subst P (sym (put_else f n x m o)) (rest o))

-- the same of functions of two numbers
pub put_pair_at : {X : Type 0} (f : ℕ → ℕ → X) (d i : ℕ) (x : X) (P : X → Type 0) (e j : ℕ) → (e ≡ d → j ≡ i → P x) → (¬ ((e ≡ d) × (j ≡ i)) → P (f e j)) → P (put_pair f d i x e j)
put_pair_at {X} f d i x P e j here rest = dite (ℕ_discrete e d)
    (λ a. dite (ℕ_discrete j i)
    (λ b. subst (λ (m : ℕ). P (put_pair f d i x m j)) (sym a) (subst (λ (n : ℕ). P (put_pair f d i x d n)) (sym b) (subst P (sym (put_pair_here f d i x)) (here a b))))
    (λ o. subst P (sym (put_pair_else f d i x e j (λ both. o both.1))) (rest (λ both. o both.1))))
    (λ o. subst P (sym (put_pair_else f d i x e j (λ both. o both.0))) (rest (λ both. o both.0)))
