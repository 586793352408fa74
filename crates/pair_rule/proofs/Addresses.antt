-- The addresses of words: each is below the size of the table, and no two words that fit have one address. The rows
-- stand one behind the other, and those of the places as a table whose rows have the free words too.
use Rattle.std.proofs.Common.{◌≡◌, ℕ, ◌+◌, ◌*◌, ◌<◌, List, length, get_or, set, refl, sym, ap, ◌∙◌, arith}
use Rattle.std.proofs.lemmas.List.{get_or-set_same, get_or-set_other}
use mathlib.Core.Logic.{dite}
use native.Mathlib.Decide.{ℕ_discrete}
use Rattle.part_geometry.specs.Shape.{Shape}
use Rattle.part_geometry.specs.Pieces.{pieces}
use Rattle.pair_core.specs.Names.{Name, Claim, Release, Take, Return, Piece, Fits, put_word}
use Rattle.pair_core.proofs.Facts.{word_here, word_else, row_lt, row_one, cell_one}
use Rattle.pair_rule.specs.Addresses.{address, table_size, HasWords}
use Rattle.pair_rule.specs.declared.TheConstants.{FREE_WORDS}

-- the address of a word that fits is one of the table
pub address_lt : (g : Shape) (x : Name) → Fits g x → address g x < table_size g
address_lt g (Claim c) fits = omega arith
address_lt g Release fits = omega arith
address_lt g (Take t) fits = omega arith
address_lt g (Return t) fits = omega arith
address_lt g (Piece d i) fits = let h = row_lt d i g.depth (pieces g + FREE_WORDS) fits.0 (let low = fits.1 in omega arith) in omega (arith, h)

-- no two words that fit have one address
address_one : (g : Shape) (x y : Name) → Fits g x → Fits g y → address g x ≡ address g y → x ≡ y
address_one g (Claim c) (Claim b) p q same = ap Claim (let e : c ≡ b = omega arith in e)
address_one g (Claim c) Release p q same = absurd (omega arith)
address_one g (Claim c) (Take b) p q same = absurd (omega arith)
address_one g (Claim c) (Return b) p q same = absurd (omega arith)
address_one g (Claim c) (Piece e j) p q same = absurd (omega arith)
address_one g Release (Claim b) p q same = absurd (omega arith)
address_one g Release Release p q same = refl
address_one g Release (Take b) p q same = absurd (omega arith)
address_one g Release (Return b) p q same = absurd (omega arith)
address_one g Release (Piece e j) p q same = absurd (omega arith)
address_one g (Take c) (Claim b) p q same = absurd (omega arith)
address_one g (Take c) Release p q same = absurd (omega arith)
address_one g (Take c) (Take b) p q same = ap Take (let e : c ≡ b = omega arith in e)
address_one g (Take c) (Return b) p q same = absurd (omega arith)
address_one g (Take c) (Piece e j) p q same = absurd (omega arith)
address_one g (Return c) (Claim b) p q same = absurd (omega arith)
address_one g (Return c) Release p q same = absurd (omega arith)
address_one g (Return c) (Take b) p q same = absurd (omega arith)
address_one g (Return c) (Return b) p q same = ap Return (let e : c ≡ b = omega arith in e)
address_one g (Return c) (Piece e j) p q same = absurd (omega arith)
address_one g (Piece d i) (Claim b) p q same = absurd (omega arith)
address_one g (Piece d i) Release p q same = absurd (omega arith)
address_one g (Piece d i) (Take b) p q same = absurd (omega arith)
address_one g (Piece d i) (Return b) p q same = absurd (omega arith)
address_one g (Piece d i) (Piece e j) p q same =
    let n : ℕ = pieces g + FREE_WORDS in
    let rows : d * n + i ≡ e * n + j = omega arith in
    let low : i < n = let z = p.1 in omega arith in let low' : j < n = let z = q.1 in omega arith in
    ap (λ z. Piece z i) (row_one d i e j n low low' rows) ∙ ap (Piece e) (cell_one d i e j n low low' rows)

-- a list with the value at a word's address changed has the words with that word changed
pub has_put : (g : Shape) (list : List ℕ) (x : Name) (w : ℕ) (f : Name → ℕ) → HasWords g list f → Fits g x → address g x < length list
    → HasWords g (set list (address g x) w) (put_word x w f)
has_put g list x w f before fits inside y there = dite (ℕ_discrete (address g y) (address g x))
    (λ e. let same : y ≡ x = address_one g y x there fits e in
    ap (λ (z : ℕ). get_or (set list (address g x) w) z 0) e ∙ (get_or-set_same list (address g x) w 0 inside ∙ sym (ap (put_word x w f) same ∙ word_here x w f)))
    (λ other. get_or-set_other list (address g x) (address g y) w 0 other ∙ (before y there ∙ sym (word_else x y w f (λ e. other (ap (address g) e)))))
