-- The words before the first step stand in order, each at its number in a view, and at its address in the table.
use Rattle.std.proofs.Common.{◌≡◌, ℕ, ◌+◌, ◌-◌, ◌*◌, ◌%◌, ◌<◌, length, get_or, true, false, refl, ap, ◌∙◌, arith}
use Rattle.std.proofs.lemmas.Bool.{le-ltb, lt-ltb}
use Rattle.std.proofs.lemmas.List.FromFn.{length-map-range_with_len, get_or-map-range_with_len}
use Rattle.std.proofs.lemmas.Nat.{mod-mul-add}
use Rattle.gate_word.specs.Words.{word_of}
use Rattle.part_geometry.specs.Shape.{Shape, IsShape}
use Rattle.part_geometry.specs.Pieces.{pieces, need}
use Rattle.pair_core.specs.Names.{Name, Claim, Release, Take, Return, Piece, Fits, number, claim_words, take_words}
use Rattle.pair_core.specs.Moves.{first_word, part_mask}
use Rattle.pair_core.specs.State.{word_count}
use Rattle.pair_core.proofs.Facts.{number_lt}
use Rattle.pair_rule.specs.Addresses.{address, table_size, HasWords}
use Rattle.pair_rule.specs.First.{first_at, first_words, first_in_table, first_table}
use Rattle.pair_rule.specs.declared.TheConstants.{FREE_WORDS}
use Rattle.pair_rule.proofs.Addresses.{address_lt}

first_at-is : (g : Shape) (x : Name) → Fits g x → first_at g (number g x) ≡ first_word g x
first_at-is g (Claim c) fits = rw (lt-ltb c (claim_words g) fits) refl
first_at-is g Release fits = rw (le-ltb (claim_words g) (claim_words g) (omega arith), lt-ltb (claim_words g) (claim_words g + 1) (omega arith)) refl
first_at-is g (Take t) fits =
    let n : ℕ = claim_words g + 1 + t in let e : n - (claim_words g + 1) ≡ t = omega arith in
    rw (le-ltb n (claim_words g) (omega arith), le-ltb n (claim_words g + 1) (omega arith), lt-ltb n (claim_words g + 1 + take_words g) (omega arith))
    (ap (λ (z : ℕ). word_of 0 false (part_mask g.recv_parts z)) e)
first_at-is g (Return t) fits =
    let n : ℕ = claim_words g + 1 + take_words g + t in let e : n - (claim_words g + 1 + take_words g) ≡ t = omega arith in
    rw (le-ltb n (claim_words g) (omega arith), le-ltb n (claim_words g + 1) (omega arith), le-ltb n (claim_words g + 1 + take_words g) (omega arith), lt-ltb n (claim_words g + 1 + 2 * take_words g) (omega arith))
    (ap (λ (z : ℕ). word_of 0 false (part_mask g.recv_parts z)) e)
first_at-is g (Piece d i) fits =
    let n : ℕ = claim_words g + 1 + 2 * take_words g + (d * pieces g + i) in let e : n - (claim_words g + 1 + 2 * take_words g) ≡ d * pieces g + i = omega arith in
    rw (le-ltb n (claim_words g) (omega arith), le-ltb n (claim_words g + 1) (omega arith), le-ltb n (claim_words g + 1 + take_words g) (omega arith), le-ltb n (claim_words g + 1 + 2 * take_words g) (omega arith))
    (ap (λ (z : ℕ). word_of 0 false (need g (z % pieces g))) e ∙ ap (λ (z : ℕ). word_of 0 false (need g z)) (mod-mul-add d (pieces g) i fits.1))

pub first_words-length : (g : Shape) → length (first_words g) ≡ word_count g
unfolding first_words
first_words-length g = length-map-range_with_len (first_at g) 0 (word_count g)

pub first_words-at : (g : Shape) (x : Name) → IsShape g → Fits g x → get_or (first_words g) (number g x) 0 ≡ first_word g x
unfolding first_words
first_words-at g x v fits = get_or-map-range_with_len (first_at g) 0 (word_count g) (number g x) (number g x) 0 (number_lt g x fits) (let e : 0 + number g x ≡ number g x = omega arith in e) ∙ first_at-is g x fits

in_table-is : (g : Shape) (x : Name) → Fits g x → first_in_table g (address g x) ≡ first_word g x
in_table-is g (Claim c) fits =
    let e : FREE_WORDS + c - FREE_WORDS ≡ c = omega arith in
    rw (lt-ltb (FREE_WORDS + c) (FREE_WORDS + claim_words g) (omega arith)) (ap (λ (z : ℕ). word_of 0 true (part_mask g.send_parts z)) e)
in_table-is g Release fits =
    let n : ℕ = 2 * FREE_WORDS + claim_words g in
    rw (le-ltb n (FREE_WORDS + claim_words g) (omega arith), lt-ltb n (2 * FREE_WORDS + claim_words g + 1) (omega arith)) refl
in_table-is g (Take t) fits =
    let n : ℕ = 3 * FREE_WORDS + claim_words g + 1 + t in let e : n - (3 * FREE_WORDS + claim_words g + 1) ≡ t = omega arith in
    rw (le-ltb n (FREE_WORDS + claim_words g) (omega arith), le-ltb n (2 * FREE_WORDS + claim_words g + 1) (omega arith), lt-ltb n (3 * FREE_WORDS + claim_words g + 1 + take_words g) (omega arith))
    (ap (λ (z : ℕ). word_of 0 false (part_mask g.recv_parts z)) e)
in_table-is g (Return t) fits =
    let n : ℕ = 4 * FREE_WORDS + claim_words g + 1 + take_words g + t in let e : n - (4 * FREE_WORDS + claim_words g + 1 + take_words g) ≡ t = omega arith in
    rw (le-ltb n (FREE_WORDS + claim_words g) (omega arith), le-ltb n (2 * FREE_WORDS + claim_words g + 1) (omega arith), le-ltb n (3 * FREE_WORDS + claim_words g + 1 + take_words g) (omega arith), lt-ltb n (4 * FREE_WORDS + claim_words g + 1 + 2 * take_words g) (omega arith))
    (ap (λ (z : ℕ). word_of 0 false (part_mask g.recv_parts z)) e)
in_table-is g (Piece d i) fits =
    let row : ℕ = pieces g + FREE_WORDS in
    let n : ℕ = 5 * FREE_WORDS + claim_words g + 1 + 2 * take_words g + (d * row + i) in
    let behind : n - (4 * FREE_WORDS + claim_words g + 1 + 2 * take_words g) ≡ d * row + (FREE_WORDS + i) = omega arith in
    let within : FREE_WORDS + i < row = let low = fits.1 in omega arith in
    let e : (n - (4 * FREE_WORDS + claim_words g + 1 + 2 * take_words g)) % row ≡ FREE_WORDS + i = ap (λ (z : ℕ). z % row) behind ∙ mod-mul-add d row (FREE_WORDS + i) within in
    let same : FREE_WORDS + i - FREE_WORDS ≡ i = omega arith in
    rw (le-ltb n (FREE_WORDS + claim_words g) (omega arith), le-ltb n (2 * FREE_WORDS + claim_words g + 1) (omega arith), le-ltb n (3 * FREE_WORDS + claim_words g + 1 + take_words g) (omega arith), le-ltb n (4 * FREE_WORDS + claim_words g + 1 + 2 * take_words g) (omega arith))
    (ap (λ (z : ℕ). word_of 0 false (need g (z - FREE_WORDS))) e ∙ ap (λ (z : ℕ). word_of 0 false (need g z)) same)

pub first_table-length : (g : Shape) → length (first_table g) ≡ table_size g
unfolding first_table
first_table-length g = length-map-range_with_len (first_in_table g) 0 (table_size g)

pub first_table-has : (g : Shape) → HasWords g (first_table g) (first_word g)
unfolding first_table
first_table-has g x fits = get_or-map-range_with_len (first_in_table g) 0 (table_size g) (address g x) (address g x) 0 (address_lt g x fits) (let e : 0 + address g x ≡ address g x = omega arith in e) ∙ in_table-is g x fits
