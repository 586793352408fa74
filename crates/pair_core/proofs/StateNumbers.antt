-- The numbers of words: each is below the count, and no two words that fit have one number. The kinds of words stand
-- one behind the other, and the piece words as a table of places and pieces.
use Rattle.std.proofs.Common.{◌≡◌, ◌≢◌, inl, inr, ℕ, ◌+◌, ◌-◌, ◌*◌, ◌/◌, ◌%◌, ◌<◌, ◌≤◌, false, List, length, get_or, refl, sym, ap, ◌∙◌, subst, arith}
use Rattle.std.specs.Prelude.{slice_set}
use Rattle.std.proofs.Math.Nat.{mul-le-mul_right}
use Rattle.std.proofs.lemmas.Nat.{div-mul-add, mod-mul-add}
use Rattle.std.proofs.lemmas.Bool.{cases_lt}
use Rattle.gate_word.specs.Words.{word_of}
use Rattle.pair_core.specs.Moves.{first_word}
use Rattle.std.proofs.lemmas.List.{get_or-set_same, get_or-set_other}
use mathlib.Core.Logic.{dite}
use native.Mathlib.Decide.{ℕ_discrete}
use Rattle.part_geometry.specs.Shape.{Shape}
use Rattle.part_geometry.specs.Pieces.{pieces, need}
use Rattle.pair_core.specs.Names.{Name, Claim, Release, Take, Return, Piece, claim_words, take_words, Fits, number, put_word}
use Rattle.pair_core.specs.State.{word_count}
use Rattle.pair_core.proofs.Puts.{put_here, put_else, put_pair_here, put_pair_else}

-- a row of numbers within a table of rows
pub row_lt : (d i depth n : ℕ) → d < depth → i < n → d * n + i < depth * n
row_lt d i depth n low inside = let h = mul-le-mul_right {m = d + 1} {n = depth} n (omega arith) in omega (arith, h)

-- numbers that are the same are in one row
pub row_one : (d i e j n : ℕ) → i < n → j < n → d * n + i ≡ e * n + j → d ≡ e
row_one d i e j n a b same = sym (div-mul-add d n i a) ∙ (ap (λ (z : ℕ). z / n) same ∙ div-mul-add e n j b)

-- and at one place of it
pub cell_one : (d i e j n : ℕ) → i < n → j < n → d * n + i ≡ e * n + j → i ≡ j
cell_one d i e j n a b same =
    let rows = row_one d i e j n a b same in
    let moved : e * n + i ≡ e * n + j = subst (λ (z : ℕ). z * n + i ≡ e * n + j) rows same in omega arith

-- the number of a word that fits is below the count
pub number_lt : (g : Shape) (x : Name) → Fits g x → number g x < word_count g
number_lt g (Claim c) fits = omega arith
number_lt g Release fits = omega arith
number_lt g (Take t) fits = omega arith
number_lt g (Return t) fits = omega arith
number_lt g (Piece d i) fits = let h = row_lt d i g.depth (pieces g) fits.0 fits.1 in omega (arith, h)

-- words that fit and have one number are one
pub number_one : (g : Shape) (x y : Name) → Fits g x → Fits g y → number g x ≡ number g y → x ≡ y
number_one g (Claim c) (Claim b) p q same = ap Claim same
number_one g (Claim c) Release p q same = absurd (omega arith)
number_one g (Claim c) (Take b) p q same = absurd (omega arith)
number_one g (Claim c) (Return b) p q same = absurd (omega arith)
number_one g (Claim c) (Piece e j) p q same = absurd (omega arith)
number_one g Release (Claim b) p q same = absurd (omega arith)
number_one g Release Release p q same = refl
number_one g Release (Take b) p q same = absurd (omega arith)
number_one g Release (Return b) p q same = absurd (omega arith)
number_one g Release (Piece e j) p q same = absurd (omega arith)
number_one g (Take c) (Claim b) p q same = absurd (omega arith)
number_one g (Take c) Release p q same = absurd (omega arith)
number_one g (Take c) (Take b) p q same = ap Take (let e : c ≡ b = omega arith in e)
number_one g (Take c) (Return b) p q same = absurd (omega arith)
number_one g (Take c) (Piece e j) p q same = absurd (omega arith)
number_one g (Return c) (Claim b) p q same = absurd (omega arith)
number_one g (Return c) Release p q same = absurd (omega arith)
number_one g (Return c) (Take b) p q same = absurd (omega arith)
number_one g (Return c) (Return b) p q same = ap Return (let e : c ≡ b = omega arith in e)
number_one g (Return c) (Piece e j) p q same = absurd (omega arith)
number_one g (Piece d i) (Claim b) p q same = absurd (omega arith)
number_one g (Piece d i) Release p q same = absurd (omega arith)
number_one g (Piece d i) (Take b) p q same = absurd (omega arith)
number_one g (Piece d i) (Return b) p q same = absurd (omega arith)
number_one g (Piece d i) (Piece e j) p q same =
    let rows : d * pieces g + i ≡ e * pieces g + j = omega arith in
    let a = row_one d i e j (pieces g) p.1 q.1 rows in let b = cell_one d i e j (pieces g) p.1 q.1 rows in
    ap (λ z. Piece z i) a ∙ ap (Piece e) b

-- the word that was changed, and any other
pub word_here : {X : Type 0} (x : Name) (w : X) (f : Name → X) → put_word x w f x ≡ w
word_here {X} (Claim c) w f = put_here (λ n. f (Claim n)) c w
word_here {X} Release w f = refl
word_here {X} (Take c) w f = put_here (λ n. f (Take n)) c w
word_here {X} (Return c) w f = put_here (λ n. f (Return n)) c w
word_here {X} (Piece d i) w f = put_pair_here (λ m n. f (Piece m n)) d i w

-- this is any other
pub word_else : {X : Type 0} (x y : Name) (w : X) (f : Name → X) → y ≢ x → put_word x w f y ≡ f y
word_else {X} (Claim c) (Claim b) w f other = put_else (λ n. f (Claim n)) c w b (λ e. other (ap Claim e))
word_else {X} (Take c) (Take b) w f other = put_else (λ n. f (Take n)) c w b (λ e. other (ap Take e))
word_else {X} (Return c) (Return b) w f other = put_else (λ n. f (Return n)) c w b (λ e. other (ap Return e))
word_else {X} (Piece d i) (Piece e j) w f other = put_pair_else (λ m n. f (Piece m n)) d i w e j (λ both. other (ap (λ z. Piece z j) both.0 ∙ ap (Piece d) both.1))
word_else {X} Release Release w f other = absurd (other refl)
word_else {X} (Claim c) y w f other = refl
word_else {X} Release y w f other = refl
word_else {X} (Take c) y w f other = refl
word_else {X} (Return c) y w f other = refl
word_else {X} (Piece d i) y w f other = refl

-- a list with the value at a word's number changed has the words with that word changed
pub lists_put : (g : Shape) (list : List ℕ) (x : Name) (index w : ℕ) (f : Name → ℕ) (v : ℕ) (T : ℕ → ℕ)
    → ((y : Name) → Fits g y → get_or list (number g y) 0 ≡ T (f y)) → Fits g x → number g x ≡ index → index < length list → w ≡ T v
    → (y : Name) → Fits g y → get_or (slice_set list index w) (number g y) 0 ≡ T (put_word x v f y)
lists_put g list x index w f v T before fits at inside is y there = dite (ℕ_discrete (number g y) index)
    (λ e. let same : y ≡ x = number_one g y x there fits (e ∙ sym at) in
    ap (λ (z : ℕ). get_or (slice_set list index w) z 0) e ∙ (get_or-set_same list index w 0 inside ∙ (is ∙ ap T (sym (ap (put_word x v f) same ∙ word_here x v f)))))
    (λ other. let apart : y ≢ x = (λ e. other (ap (number g) e ∙ at)) in
    get_or-set_other list index (number g y) w 0 other ∙ (before y there ∙ ap T (sym (word_else x y v f apart))))

-- a number behind the first piece word is that of a piece word
pub piece_there : (g : Shape) (word first : ℕ) → 1 ≤ pieces g → first ≡ claim_words g + 1 + 2 * take_words g → first ≤ word → word - first < g.depth * pieces g
    → (d : ℕ) × (i : ℕ) × Fits g (Piece d i) × (word ≡ number g (Piece d i)) × (word < word_count g)
piece_there g word first some is low high =
    let n = pieces g in let e = word - first in
    let row : n * (e / n) + e % n ≡ e = omega arith in
    let inside : e % n < n = omega arith in
    let place : e / n < g.depth = (elim (cases_lt (e / n) g.depth) [
      | inl less ↦ less
      | inr more ↦ let h = mul-le-mul_right {m = g.depth} {n = e / n} n more in absurd (omega (arith, h))
    ]) in
    (e / n, e % n, (place, inside), omega arith, omega arith)

-- the words before the first step, where the number is that of a piece word
pub first_piece : (g : Shape) (n w i : ℕ) → claim_words g + 1 + 2 * take_words g ≤ n → i ≡ (n - claim_words g - 1 - 2 * take_words g) % pieces g → w ≡ word_of 0 false (need g i)
    → (x : Name) → Fits g x → number g x ≡ n → w ≡ first_word g x
first_piece g n w i low at is (Claim c) fits here = absurd (omega arith)
first_piece g n w i low at is Release fits here = absurd (omega arith)
first_piece g n w i low at is (Take t) fits here = absurd (omega arith)
first_piece g n w i low at is (Return t) fits here = absurd (omega arith)
first_piece g n w i low at is (Piece d j) fits here =
    let e : n - claim_words g - 1 - 2 * take_words g ≡ d * pieces g + j = omega arith in
    is ∙ ap (λ (z : ℕ). word_of 0 false (need g z)) (at ∙ (ap (λ (z : ℕ). z % pieces g) e ∙ mod-mul-add d (pieces g) j fits.1))
