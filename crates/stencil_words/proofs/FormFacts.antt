-- What `clap` reads of the words of the two forms: by cases on the first two bytes of a word, and on the first `=`
-- behind them.
use Rattle.std.proofs.Common.{◌≡◌, ◌∙◌, ℕ, Bool, true, false, not, ◌&&◌, [], ◌∷◌, length, Option, Some, None, refl, ap, ◌≤◌, ◌+◌, ◌⊎◌, inl, inr, suc, arith}
use Rattle.std.specs.Prelude.{bytes_eq, ◌==◌, nat_lt}
use Rattle.std.specs.List.{after_first, before_first, position_or_len}
use Rattle.std.proofs.lemmas.Bool.Decides.{nat_tests}
use Rattle.std.proofs.lemmas.List.{take_all}
use Rattle.stencil_words.specs.Options.{◌>>=◌, Pair, Text, divided, has_equals, is_empty, is_equals, is_value, joined, name_part, paired, undashed, when}
use Rattle.clap.specs.Lexer.{has_byte, long_of, short_of}

-- a word `--NAME=VALUE`
pub record IsJoined (word : Text) (p : Pair) : Type 0 where
  -- `clap` reads it as a long name with the value
  pub long : long_of word ≡ Some (p.0, Some p.1)
  -- it isn't `--` alone
  pub dashes : bytes_eq word (45 ∷ 45 ∷ []) ≡ false

-- a word `--NAME`, with a value behind it
pub record IsPaired (word next : Text) (p : Pair) : Type 0 where
  -- `clap` reads it as a long name without a value
  pub long : long_of word ≡ Some (p.0, None)
  -- it isn't `--` alone
  pub dashes : bytes_eq word (45 ∷ 45 ∷ []) ≡ false
  -- the next word is the value
  pub value : p.1 ≡ next
  -- which `clap` doesn't read as a long name
  pub no_long : long_of next ≡ None
  -- nor as short ones
  pub no_short : short_of next ≡ None
  -- and which isn't `--` alone
  pub no_dashes : bytes_eq next (45 ∷ 45 ∷ []) ≡ false

word-is : (word t : Text) → name_part word ≡ Some t → word ≡ 45 ∷ 45 ∷ t
word-is [] t e = cc e
word-is (a ∷ []) t e = by (a == 45) e
  where
    by : (b : Bool) → (when b [] >>= undashed) ≡ Some t → a ∷ [] ≡ 45 ∷ 45 ∷ t
    by true e = cc e
    by false e = cc e
word-is (a ∷ b ∷ rest) t e = by (a == 45) refl (b == 45) refl e
  where
    by : (x : Bool) → (a == 45) ≡ x → (y : Bool) → (b == 45) ≡ y → (when x (b ∷ rest) >>= undashed) ≡ Some t → a ∷ b ∷ rest ≡ 45 ∷ 45 ∷ t
    by true f true g h =
        let first : a ≡ 45 = grind (arith, nat_tests) in
        let second : b ≡ 45 = grind (arith, nat_tests) in
        let tail : Some rest ≡ Some t = rw g at h in
        cc
    by true f false g h = let none : None ≡ Some t = rw g at h in cc none
    by false f y g h = cc h

first-byte : (n : ℕ) → true ≡ nat_lt 0 (suc n)
first-byte n = grind (arith, nat_tests)

later-byte : (a n : ℕ) → nat_lt a n ≡ nat_lt (1 + a) (suc n)
later-byte a n = grind (arith, nat_tests)

has-byte : (t : Text) → has_byte 61 t ≡ has_equals t
has-byte [] = refl
has-byte (x ∷ xs) = by (x == 61) refl (has-byte xs)
  where
    by : (b : Bool) → (x == 61) ≡ b → has_byte 61 xs ≡ has_equals xs → has_byte 61 (x ∷ xs) ≡ has_equals (x ∷ xs)
    by true e more = rw e (first-byte (length xs))
    by false e more = rw e (more ∙ later-byte (position_or_len is_equals xs) (length xs))

no-first : (t : Text) → has_equals t ≡ false → before_first is_equals t ≡ t
no-first t e =
    let past : length t ≤ position_or_len is_equals t = grind (arith, nat_tests) in
    take_all (position_or_len is_equals t) t past

joined-text : (word t : Text) (p : Pair) → word ≡ 45 ∷ 45 ∷ t → divided t ≡ Some p → IsJoined word p
joined-text word [] p w e = cc e
joined-text word (x ∷ xs) p w e = by (has_equals (x ∷ xs)) refl (is_empty (after_first is_equals (x ∷ xs))) e
  where
    by : (b : Bool) → has_equals (x ∷ xs) ≡ b → (c : Bool)
        → when (b && not c) (before_first is_equals (x ∷ xs), after_first is_equals (x ∷ xs)) ≡ Some p → IsJoined word p
    by false f c g = cc g
    by true f true g = cc g
    by true f false g =
        let same : (before_first is_equals (x ∷ xs), after_first is_equals (x ∷ xs)) ≡ p = cc in
        record { long = rw (w, has-byte (x ∷ xs), f, ← same) refl; dashes = rw w refl }

-- a word that is `--NAME=VALUE` here is so for `clap`
pub joined-is : (word : Text) (p : Pair) → joined word ≡ Some p → IsJoined word p
unfolding joined
joined-is word p e = by (name_part word) refl e
  where
    by : (o : Option Text) → name_part word ≡ o → (o >>= divided) ≡ Some p → IsJoined word p
    by None f g = cc g
    by (Some t) f g = joined-text word t p (word-is word t f) g

-- either `--` alone, or a name and a value
paired-text : (word next t : Text) (p : Pair) → word ≡ 45 ∷ 45 ∷ t → when (not (has_equals t) && is_value next) (t, next) ≡ Some p
    → ((word ≡ 45 ∷ 45 ∷ []) × (p.0 ≡ [])) ⊎ IsPaired word next p
paired-text word [] t p w e = by (has_equals t) e
  where
    by : (b : Bool) → when (not b && false) (t, []) ≡ Some p → ((word ≡ 45 ∷ 45 ∷ []) × (p.0 ≡ [])) ⊎ IsPaired word [] p
    by true g = cc g
    by false g = cc g
paired-text word (y ∷ ys) [] p w e = by (y == 45) e
  where
    by : (b : Bool) → when (not b) ([], y ∷ ys) ≡ Some p → ((word ≡ 45 ∷ 45 ∷ []) × (p.0 ≡ [])) ⊎ IsPaired word (y ∷ ys) p
    by true g = cc g
    by false g = let same : ([], y ∷ ys) ≡ p = cc in inl (w, rw (← same) refl)
paired-text word (y ∷ ys) (x ∷ xs) p w e = by (has_equals (x ∷ xs)) refl (y == 45) refl e
  where
    by : (b : Bool) → has_equals (x ∷ xs) ≡ b → (c : Bool) → (y == 45) ≡ c → when (not b && not c) (x ∷ xs, y ∷ ys) ≡ Some p
        → ((word ≡ 45 ∷ 45 ∷ []) × (p.0 ≡ [])) ⊎ IsPaired word (y ∷ ys) p
    by true f c g h = cc h
    by false f true g h = cc h
    by false f false g h =
        let same : (x ∷ xs, y ∷ ys) ≡ p = cc in
        inr record {
          long = rw (w, has-byte (x ∷ xs), f, ← same) (ap (λ (t : Text). Some (t, None)) (no-first (x ∷ xs) f));
          dashes = rw w refl;
          value = rw (← same) refl;
          no_long = rw g refl;
          no_short = rw g refl;
          no_dashes = rw g refl;
        }

-- two words that are `--NAME VALUE` here are so for `clap`, or the first is `--` alone and the name empty
pub paired-is : (word next : Text) (p : Pair) → paired word next ≡ Some p → ((word ≡ 45 ∷ 45 ∷ []) × (p.0 ≡ [])) ⊎ IsPaired word next p
unfolding paired
paired-is word next p e = by (name_part word) refl e
  where
    by : (o : Option Text) → name_part word ≡ o → (o >>= λ t. when (not (has_equals t) && is_value next) (t, next)) ≡ Some p
        → ((word ≡ 45 ∷ 45 ∷ []) × (p.0 ≡ [])) ⊎ IsPaired word next p
    by None f g = cc g
    by (Some t) f g = paired-text word next t p (word-is word t f) g
