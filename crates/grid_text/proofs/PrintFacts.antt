-- One more number of a row, one more row, and one more cell: what the first i make, with the part of the next behind
-- it, is what the first i + 1 make.
use Rattle.std.proofs.Common.{◌≡◌, ℕ, zero, suc, ◌+◌, ◌*◌, ◌^◌, ◌<◌, ◌≤◌, false, ℤ, pos, ◌+ℤ◌, ◌*ℤ◌, unsigned_abs, to_z, of_z, List, [], ◌∷◌, ◌++◌, length, map, take, get_or, fold, refl, sym, ap, ◌∙◌, arith, append_assoc}
use mir.Syntax.{w128}
use Rattle.std.proofs.Math.Nat.{mul-le-mul_left}
use Rattle.std.specs.Prelude.{◌==◌, codes}
use Rattle.std.specs.Fmt.{decimal, signed_decimal}
use Rattle.std.specs.List.{enumerate_from, flat_map, join_with_byte, range_with_len}
use Rattle.std.proofs.lemmas.Bool.Decides.{nat_tests}
use Rattle.std.proofs.lemmas.Int.{ints, unsigned_abs-mul, to_z-of_z, fits_signed_from_abs}
use Rattle.std.proofs.lemmas.List.{append-nil, map-append, take_more, length-map, length-take-le}
use Rattle.std.proofs.lemmas.List.Concat.{flat_map-append}
use Rattle.std.proofs.lemmas.List.Sums.{fold_push}
use Rattle.grid_text.specs.Printing.{check_sum, comma_before, greatest, head_text, least, tail_text, total, weighted}
use Rattle.grid_text.proofs.ListFacts.{enumerate_from-append}

joined-push : (xs : List (List ℕ)) (y : List ℕ) → join_with_byte 44 (xs ++ y ∷ []) ≡ join_with_byte 44 xs ++ (comma_before (length xs) ++ y)
joined-push [] y = refl
joined-push (x ∷ []) y = refl
joined-push (x ∷ z ∷ xs) y =
    let t : (suc (suc (length xs)) == 0) ≡ false = grind (arith, nat_tests) in
    let u : (suc (length xs) == 0) ≡ false = grind (arith, nat_tests) in
    let more : join_with_byte 44 ((z ∷ xs) ++ y ∷ []) ≡ join_with_byte 44 (z ∷ xs) ++ (44 ∷ y) = rw u at (joined-push (z ∷ xs) y) in
    rw t (ap (λ (rest : List ℕ). x ++ (44 ∷ rest)) more ∙ sym (append_assoc x (44 ∷ join_with_byte 44 (z ∷ xs)) (44 ∷ y)))

-- one more number of a row
pub row-more : (values : List ℤ) (i : ℕ) → i < length values
    → join_with_byte 44 (map signed_decimal (take (i + 1) values))
    ≡ join_with_byte 44 (map signed_decimal (take i values)) ++ (comma_before i ++ signed_decimal (get_or values i (pos 0)))
row-more values i h =
    let len : length (map signed_decimal (take i values)) ≡ i = length-map (take i values) signed_decimal ∙ length-take-le i values (omega arith) in
    rw (take_more values i (pos 0) h, map-append signed_decimal (take i values) (get_or values i (pos 0) ∷ []))
    (rw len at (joined-push (map signed_decimal (take i values)) (signed_decimal (get_or values i (pos 0)))))

-- the comma and the next number, written behind the first i numbers, make the text of the first i + 1
pub text-more : (old now with_comma new : List ℕ) (values : List ℤ) (i : ℕ) → i < length values
    → now ≡ old ++ join_with_byte 44 (map signed_decimal (take i values)) → with_comma ≡ now ++ comma_before i
    → new ≡ with_comma ++ signed_decimal (get_or values i (pos 0))
    → new ≡ old ++ join_with_byte 44 (map signed_decimal (take (i + 1) values))
text-more old now with_comma new values i h a b c =
    c ∙ (ap (λ (front : List ℕ). front ++ signed_decimal (get_or values i (pos 0))) (b ∙ ap (λ (front : List ℕ). front ++ comma_before i) a)
    ∙ (append_assoc (old ++ join_with_byte 44 (map signed_decimal (take i values))) (comma_before i) (signed_decimal (get_or values i (pos 0)))
    ∙ (append_assoc old (join_with_byte 44 (map signed_decimal (take i values))) (comma_before i ++ signed_decimal (get_or values i (pos 0)))
    ∙ ap (λ (back : List ℕ). old ++ back) (sym (row-more values i h)))))

-- the n + 1 numbers from a on are the first n of them, and then a + n
pub range-more : (a n : ℕ) → range_with_len a (n + 1) ≡ range_with_len a n ++ (a + n) ∷ []
range-more a zero = let e : a + 0 ≡ a = omega arith in rw e refl
range-more a (suc n) =
    let e : suc n + 1 ≡ suc (n + 1) = omega arith in
    let f : a + suc n ≡ a + 1 + n = omega arith in
    rw (e, f) (ap (λ (rest : List ℕ). a ∷ rest) (range-more (a + 1) n))

-- one more row
pub rows-more : (piece : ℕ → List ℕ) (n : ℕ) → flat_map piece (range_with_len 0 (n + 1)) ≡ flat_map piece (range_with_len 0 n) ++ piece n
rows-more piece n =
    let e : 0 + n ≡ n = omega arith in
    ap (flat_map piece) (range-more 0 n) ∙ (flat_map-append piece (range_with_len 0 n) ((0 + n) ∷ []) ∙ rw e (ap (λ (back : List ℕ). flat_map piece (range_with_len 0 n) ++ back) (append-nil (piece n))))

-- one more value of a fold
pub fold-more : (f : ℤ → ℤ → ℤ) (start : ℤ) (values : List ℤ) (i : ℕ) → i < length values
    → fold f start (take (i + 1) values) ≡ f (fold f start (take i values)) (get_or values i (pos 0))
fold-more f start values i h = rw (take_more values i (pos 0) h) (fold_push f start (take i values) (get_or values i (pos 0)))

-- one more cell of the check sum
pub check-more : (values : List ℤ) (i : ℕ) → i < length values
    → check_sum (take (i + 1) values) ≡ check_sum (take i values) +ℤ weighted i (get_or values i (pos 0))
check-more values i h =
    let len : 0 + length (take i values) ≡ i = (let e = length-take-le i values (omega arith) in omega arith) in
    rw (take_more values i (pos 0) h, enumerate_from-append 0 (take i values) (get_or values i (pos 0) ∷ []), len)
    (fold_push (λ (sum : ℤ) (p : ℕ × ℤ). sum +ℤ weighted p.0 p.1) (pos 0) (enumerate_from 0 (take i values)) (i, get_or values i (pos 0)))

-- a number below 2^127 in size comes back from its 128 bits
pub wide : (z : ℤ) → unsigned_abs z < 2 ^ 127 → to_z w128 (of_z w128 z) ≡ z
wide z h = to_z-of_z w128 z (fits_signed_from_abs w128 z h)

-- a value at most 1,000 times is at most as many times 10^12 in size
pub weighted-small : (place : ℕ) (value : ℤ) → place < 1001 → unsigned_abs value ≤ 1000000000000 → unsigned_abs (pos place *ℤ value) ≤ place * 1000000000000
weighted-small place value p v = rw (unsigned_abs-mul (pos place) value) (omega (arith, mul-le-mul_left place v))

-- one more summand, as the code adds it
pub sum-more : (s x : ℤ) (n : ℕ) → unsigned_abs s ≤ n * 1000000000000000 → unsigned_abs x ≤ 1000000000000000 → n < 1000000
    → (unsigned_abs (s +ℤ x) ≤ (n + 1) * 1000000000000000) × (unsigned_abs (s +ℤ x) < 2 ^ 127)
sum-more s x n a b c = (omega (arith, ints), omega (arith, ints))

-- the sum with one more summand
pub sum-exact : (s x : ℤ) (n : ℕ) → unsigned_abs s ≤ n * 1000000000000000 → unsigned_abs x ≤ 1000000000000000 → n < 1000000
    → to_z w128 (of_z w128 (s +ℤ to_z w128 (of_z w128 x))) ≡ s +ℤ x
sum-exact s x n a b c =
    let h = sum-more s x n a b c in
    rw (wide x (omega arith), wide (s +ℤ x) h.1) refl

-- words and numbers, one behind the other
three-joined : (old v a w b x d : List ℕ) → ((old ++ (v ++ a)) ++ (w ++ b)) ++ (x ++ d) ≡ old ++ (v ++ a ++ w ++ b ++ x ++ d)
three-joined old v a w b x d = simp append_assoc

-- the three parts of the first line, as the code writes them one behind the other, make it
pub head-joined : (old s t u : List ℕ) (x y z : ℤ) (rows cols steps : ℕ) → x ≡ pos rows → y ≡ pos cols → z ≡ pos steps
    → s ≡ old ++ (codes "grid " ++ signed_decimal x) → t ≡ s ++ (codes " " ++ signed_decimal y) → u ≡ t ++ (codes " steps " ++ signed_decimal z)
    → u ≡ old ++ head_text rows cols steps
unfolding head_text
head-joined old s t u x y z rows cols steps a b c e f g =
    rw (g, f, e, a, b, c) (three-joined old (codes "grid ") (decimal rows) (codes " ") (decimal cols) (codes " steps ") (decimal steps))

five-joined : (old v a w b x d y e z : List ℕ) → ((((old ++ (v ++ a)) ++ (w ++ b)) ++ (x ++ d)) ++ (y ++ e)) ++ z ≡ old ++ (v ++ a ++ w ++ b ++ x ++ d ++ y ++ e ++ z)
five-joined old v a w b x d y e z = simp append_assoc

-- the four lines behind the first and the last LF, as the code writes them one behind the other, make the rest
pub tail-joined : (old s t u v w : List ℕ) (a b c d : ℤ) (values : List ℤ) → a ≡ total values → b ≡ least values → c ≡ greatest values → d ≡ check_sum values
    → s ≡ old ++ (codes "\nsum " ++ signed_decimal a) → t ≡ s ++ (codes "\nmin " ++ signed_decimal b) → u ≡ t ++ (codes "\nmax " ++ signed_decimal c)
    → v ≡ u ++ (codes "\ncheck " ++ signed_decimal d) → w ≡ v ++ codes "\n" → w ≡ old ++ tail_text values
unfolding tail_text
tail-joined old s t u v w a b c d values e f g h i j k l m =
    rw (m, l, k, j, i, e, f, g, h)
    (five-joined old (codes "\nsum ") (signed_decimal (total values)) (codes "\nmin ") (signed_decimal (least values)) (codes "\nmax ") (signed_decimal (greatest values)) (codes "\ncheck ") (signed_decimal (check_sum values)) (codes "\n"))
