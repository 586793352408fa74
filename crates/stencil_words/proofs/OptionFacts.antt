-- What the parts of a word say of it: whether it is an option, and with it whether the words from it on are options.
use Rattle.std.proofs.Common.{◌≡◌, ◌≢◌, ℕ, ◌<◌, Bool, true, false, List, [], ◌∷◌, length, Option, Some, None, refl, sym, ap, arith}
use Rattle.std.specs.Prelude.{MatchOption, is_some, option_copied, ◌==◌, not, ◌&&◌}
use Rattle.std.specs.Prelude.{String}
use Rattle.std.specs.declared.alloc.Global.{Global}
use Rattle.std.specs.Borrow.{Bor}
use Rattle.std.specs.List.{after_first, position_or_len}
use Rattle.std.proofs.lemmas.Bool.Decides.{nat_tests}
use Rattle.stencil_words.specs.Options.{Pair, Text, before, divided, has_equals, is_empty, is_equals, joined, options_of, or_else, paired, texts, undashed, when}

-- a word with and without a `-` at its front
pub undashed-is : (word : Text) (r : Option (Bor Text)) → MatchOption r ((rest : Text) → word ≢ 45 ∷ rest) (λ x. word ≡ 45 ∷ x.now)
    → option_copied r ≡ undashed word
undashed-is [] None h = refl
undashed-is [] (Some x) h = cc h
undashed-is (b ∷ rest) None h = by (b == 45) refl
  where
    by : (t : Bool) → (b == 45) ≡ t → None ≡ when t rest
    by true e = let same : b ≡ 45 = grind (arith, nat_tests) in absurd (h rest (ap (λ (n : ℕ). n ∷ rest) same))
    by false e = refl
undashed-is (b ∷ rest) (Some x) h =
    let same : b ≡ 45 = cc in
    let more : rest ≡ x.now = cc in
    let t : (b == 45) ≡ true = grind (arith, nat_tests) in
    rw (t, more) refl

-- a text without a `=`, and one with it
divided-is : (text : Text) (b c : Bool) → has_equals text ≡ b → is_empty (after_first is_equals text) ≡ c → is_some (divided text) ≡ (b && not c)
divided-is text true true e f = rw (e, f) refl
divided-is text true false e f = rw (e, f) refl
divided-is text false c e f = rw e refl

-- a text without a `=` isn't divided
pub divided-none : (text : Text) → position_or_len is_equals text ≡ length text → false ≡ is_some (divided text)
divided-none text h =
    let t : has_equals text ≡ false = grind (arith, nat_tests) in
    sym (divided-is text false (is_empty (after_first is_equals text)) t refl)

-- a text with a `=` is divided where something stands behind the first one
pub divided-some : (text value : Text) → position_or_len is_equals text < length text → value ≡ after_first is_equals text
    → not (length value == 0) ≡ is_some (divided text)
divided-some text value h a =
    let t : has_equals text ≡ true = grind (arith, nat_tests) in
    sym (divided-is text true (length value == 0) t (rw (← a) refl))

-- whether words are options, by the option at their front
some-before : (p : Pair) (o : Option (List Pair)) → is_some (before p o) ≡ is_some o
some-before p None = refl
some-before p (Some rest) = refl

-- words with `--NAME=VALUE` at their front are options where the words behind it are
pub behind-joined : (word : Text) (after : List Text) → is_some (joined word) ≡ true → is_some (options_of (word ∷ after)) ≡ is_some (options_of after)
unfolding options_of
behind-joined word [] e = by (joined word) e
  where
    by : (o : Option Pair) → is_some o ≡ true → is_some (or_else o (Some []) None) ≡ true
    by None e = cc e
    by (Some p) e = refl
behind-joined word (next ∷ rest) e = by (joined word) e
  where
    by : (o : Option Pair) → is_some o ≡ true
        → is_some (or_else o (options_of (next ∷ rest)) (or_else (paired word next) (options_of rest) None)) ≡ is_some (options_of (next ∷ rest))
    by None e = cc e
    by (Some p) e = some-before p (options_of (next ∷ rest))

-- one word alone that isn't `--NAME=VALUE` isn't an option
pub behind-alone : (word : Text) → is_some (joined word) ≡ false → is_some (options_of (word ∷ [])) ≡ false
unfolding options_of
behind-alone word e = by (joined word) e
  where
    by : (o : Option Pair) → is_some o ≡ false → is_some (or_else o (Some []) None) ≡ false
    by None e = refl
    by (Some p) e = cc e

-- words whose first isn't `--NAME=VALUE` are options where the first two are one and the words behind them are
pub behind-other : (word next : Text) (rest : List Text) → is_some (joined word) ≡ false
    → is_some (options_of (word ∷ next ∷ rest)) ≡ (is_some (paired word next) && is_some (options_of rest))
unfolding options_of
behind-other word next rest e = by (joined word) e (paired word next)
  where
    by : (o : Option Pair) → is_some o ≡ false → (o2 : Option Pair)
        → is_some (or_else o (options_of (next ∷ rest)) (or_else o2 (options_of rest) None)) ≡ (is_some o2 && is_some (options_of rest))
    by None e None = refl
    by None e (Some p) = some-before p (options_of rest)
    by (Some p) e o2 = cc e

-- no words have no texts
pub texts-none : (words : List (String Global)) → length words ≡ 0 → texts words ≡ []
texts-none [] e = refl
texts-none (w ∷ ws) e = absurd (omega arith)

-- no word is left
pub all-done : (rest : List (String Global)) (all : Bool) → length rest ≡ 0 → is_some (options_of (texts rest)) ≡ all → true ≡ all
unfolding options_of
all-done [] all e h = h
all-done (w ∷ ws) all e h = absurd (omega arith)
