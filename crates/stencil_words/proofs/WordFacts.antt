-- What a reading says, and the limits that it keeps.
use Rattle.std.proofs.Common.{◌≡◌, ℕ, ◌*◌, ◌≤◌, Bool, true, false, ℤ, pos, unsigned_abs, List, [], ◌∷◌, length, Option, Some, None, Ok, Err, refl, sym, ap, ◌∙◌, subst, true≢false, arith}
use Rattle.std.specs.Prelude.{IfSome, IsSome, String, bytes_eq, codes, drop, is_some, string_bytes, option_and_then, option_map, nat_le, not, ◌&&◌, ◌==◌, if◌then◌else◌}
use Rattle.std.specs.declared.alloc.Global.{Global}
use Rattle.std.specs.List.{slice_split}
use Rattle.std.proofs.lemmas.Bool.Decides.{nat_tests}
use Rattle.std.proofs.lemmas.Int.{ints}
use Rattle.part_geometry.specs.declared.TheConstants.{MAX_DEPTH, MAX_GRAIN, MAX_PARTS, MAX_RANKS}
use Rattle.cell_lanes.specs.Change.{IsChange}
use Rattle.halo_message.specs.Message.{shares_few}
use Rattle.stencil_def.specs.Limits.{IsValue, IsWithin}
use Rattle.stencil_def.specs.declared.limits.TheConstants.{MAX_DIV}
use Rattle.stencil_def.specs.declared.rule.Around.TheVariants as around
use Rattle.text_words.specs.Numbers.{unsigned_of}
use Rattle.grid_text.specs.Numbers.{signed_of, within}
use Rattle.grid_text.specs.declared.number.NumberFault.TheVariants as fault
use Rattle.stencil_words.specs.declared.words.TheConstants.{MAX_STEPS}
use Rattle.stencil_words.specs.declared.words.PlanWords.{PlanWords}
use Rattle.stencil_words.specs.declared.words.Size.{Size}
use Rattle.stencil_words.specs.declared.words.Source.{Source}
use Rattle.stencil_words.specs.declared.words.TileWords.{TileWords}
use Rattle.stencil_words.specs.Limits.{IsPlanRead, IsRead, IsSize, IsSource, IsTileRead}
use Rattle.stencil_words.specs.Options.{◌>>=◌, Pair, Text, Values, are_apart, are_sound, options_of, texts, value, when}
use Rattle.stencil_words.specs.Words.{around_of, grid_source, is_between, made_source, change_in, if_given, number_given, number_in, one_source, or_default, plan_words, reading_of, reading_of_options, reading_of_values, signed_in, size_in, size_of, size_of_parts, source_of, stencil_reading, tiles_given, tiles_in, tiles_of, tiles_of_parts, value_of_result, with_source}

-- words of another command, of no options, and of options
pub no-words : (words : List (String Global)) → length words ≡ 0 → None ≡ stencil_reading (texts words)
unfolding stencil_reading
no-words [] e = refl
no-words (w ∷ ws) e = absurd (omega arith)

-- words with another command at their front have no reading
pub other-words : (words rest : List (String Global)) (command : String Global) → words ≡ command ∷ rest
    → bytes_eq (string_bytes command) (codes "stencil") ≡ false → None ≡ stencil_reading (texts words)
unfolding stencil_reading
other-words words rest command e t = rw (e, t) refl

-- words behind the command that aren't options have no reading
pub bad-words : (words rest : List (String Global)) (command : String Global) → words ≡ command ∷ rest
    → false ≡ is_some (options_of (texts rest)) → None ≡ stencil_reading (texts words)
unfolding stencil_reading reading_of
bad-words words rest command e h = rw e (by (bytes_eq (string_bytes command) (codes "stencil")) (options_of (texts rest)) h)
  where
    by : (b : Bool) (o : Option (List Pair)) → false ≡ is_some o → None ≡ (if b then option_and_then reading_of_options o else None)
    by true None h = refl
    by true (Some options) h = cc h
    by false o h = refl

unsound-options : (options : List Pair) → are_sound options ≡ false → None ≡ reading_of_options options
unfolding reading_of_options
unsound-options options e = rw e refl

-- words whose options, if they are options, aren't sound have no reading
pub unsound-words : (words rest : List (String Global)) (command : String Global) → words ≡ command ∷ rest
    → ((options : List Pair) → options_of (drop 1 (texts words)) ≡ Some options → are_sound options ≡ false) → None ≡ stencil_reading (texts words)
unfolding stencil_reading reading_of
unsound-words words rest command e h = rw e (by (bytes_eq (string_bytes command) (codes "stencil")) (options_of (texts rest)) refl (rw e at h))
  where
    by : (b : Bool) (o : Option (List Pair)) → options_of (texts rest) ≡ o
        → ((options : List Pair) → options_of (texts rest) ≡ Some options → are_sound options ≡ false)
        → None ≡ (if b then option_and_then reading_of_options o else None)
    by true None f h = refl
    by true (Some options) f h = unsound-options options (h options f)
    by false o f h = refl

sound-options : (options : List Pair) (given : Values) → are_sound options ≡ true → ((name : Text) → given name ≡ value options name)
    → reading_of_values given ≡ reading_of_options options
unfolding reading_of_options
sound-options options given e h = rw e (λ i. reading_of_values (λ name. h name i))

-- words of the command that are sound options have the reading of the values that were found
pub good-words : (words rest : List (String Global)) (command : String Global) (given : Values) → words ≡ command ∷ rest
    → bytes_eq (string_bytes command) (codes "stencil") ≡ true → true ≡ is_some (options_of (texts rest))
    → ((options : List Pair) → options_of (drop 1 (texts words)) ≡ Some options
    → (are_sound options ≡ true) × ((name : Text) → given name ≡ value options name))
    → reading_of_values given ≡ stencil_reading (texts words)
unfolding stencil_reading reading_of
good-words words rest command given e t some h = rw (e, t) (by (options_of (texts rest)) refl some (rw e at h))
  where
    by : (o : Option (List Pair)) → options_of (texts rest) ≡ o → true ≡ is_some o
        → ((options : List Pair) → options_of (texts rest) ≡ Some options
        → (are_sound options ≡ true) × ((name : Text) → given name ≡ value options name))
        → reading_of_values given ≡ option_and_then reading_of_options o
    by None f some h = cc some
    by (Some options) f some h = let found = h options f in sound-options options given found.0 found.1

-- a step of a reading
bind-some : {A B : Type 0} (o : Option A) (f : A → Option B) (P : B → Type 0) → ((x : A) → o ≡ Some x → IfSome (f x) P) → IfSome (o >>= f) P
bind-some None f P h = tt
bind-some (Some x) f P h = h x refl

when-some : {A : Type 0} (test : Bool) (x y : A) → when test x ≡ Some y → (test ≡ true) × (x ≡ y)
when-some true x y e = (refl, cc)
when-some false x y e = cc e

between : (low high n : ℕ) → is_between low high n ≡ true → (low ≤ n) × (n ≤ high)
between low high n t = (grind (arith, nat_tests), grind (arith, nat_tests))

number-range : (low high n : ℕ) (text : Text) → number_in low high text ≡ Some n → (low ≤ n) × (n ≤ high)
unfolding number_in
number-range low high n text e = by (unsigned_of text) e
  where
    by : (o : Option ℕ) → (o >>= λ m. when (is_between low high m) m) ≡ Some n → (low ≤ n) × (n ≤ high)
    by None e = cc e
    by (Some m) e =
        let p = when-some (is_between low high m) m n e in
        let r = between low high m p.0 in
        rw (← p.1) r

default-range : (low high default n : ℕ) (given : Option Text) → low ≤ default → default ≤ high
    → or_default (number_in low high) default given ≡ Some n → (low ≤ n) × (n ≤ high)
default-range low high default n None a b e = let same : default ≡ n = cc in rw (← same) (a, b)
default-range low high default n (Some text) a b e = number-range low high n text e

within-limit : (limit : ℕ) (z : ℤ) (o : Option ℤ) → value_of_result (within limit o) ≡ Some z → unsigned_abs z ≤ limit
within-limit limit z None e = cc e
within-limit limit z (Some y) e = by (nat_le (unsigned_abs y) limit) refl e
  where
    by : (b : Bool) → nat_le (unsigned_abs y) limit ≡ b → value_of_result (if b then Ok y else Err fault.OutOfRange) ≡ Some z → unsigned_abs z ≤ limit
    by true t e =
        let same : y ≡ z = cc in
        let low : unsigned_abs y ≤ limit = grind (arith, nat_tests) in
        rw (← same) low
    by false t e = cc e

edge-limit : (z : ℤ) (given : Option Text) → or_default (signed_in 1000000000000) (pos 0) given ≡ Some z → IsValue z
unfolding signed_in
edge-limit z None e = let same : pos 0 ≡ z = cc in rw (← same) (omega arith)
edge-limit z (Some text) e = within-limit 1000000000000 z (signed_of text) e

change-limits : (z : ℤ) (text : Text) → change_in text ≡ Some z → IsChange z
unfolding change_in
change-limits z text e = by (number_in 0 2000000000000 text) refl e
  where
    by : (o : Option ℕ) → number_in 0 2000000000000 text ≡ o → option_map pos o ≡ Some z → IsChange z
    by None f h = cc h
    by (Some n) f h =
        let range = number-range 0 2000000000000 n text f in
        let same : pos n ≡ z = cc in
        subst IsChange same (omega (arith, ints), omega (arith, ints))

until-limits : (until : Option ℤ) (given : Option Text) → if_given change_in given ≡ Some until → IfSome until IsChange
until-limits until None e = let same : None ≡ until = cc in rw (← same) tt
until-limits until (Some text) e = by (change_in text) refl e
  where
    by : (o : Option ℤ) → change_in text ≡ o → option_map Some o ≡ Some until → IfSome until IsChange
    by None f h = cc h
    by (Some z) f h = let same : Some z ≡ until = cc in subst (λ u. IfSome u IsChange) same (change-limits z text f)

size-limits : (seed rows cols : Text) → IfSome (size_in seed rows cols) IsSize
unfolding size_in
size-limits seed rows cols =
    bind-some (number_in 0 2147483647 seed) _ IsSize (λ s es.
    bind-some (number_in 1 4096 rows) _ IsSize (λ r er.
    bind-some (number_in 1 4096 cols) _ IsSize (λ c ec.
    small s r c (number-range 0 2147483647 s seed es) (number-range 1 4096 r rows er) (number-range 1 4096 c cols ec) (nat_le (r * c) 1000000) refl)))
  where
    small : (s r c : ℕ) → (0 ≤ s) × (s ≤ 2147483647) → (1 ≤ r) × (r ≤ 4096) → (1 ≤ c) × (c ≤ 4096) → (b : Bool) → nat_le (r * c) 1000000 ≡ b
        → IfSome (when {A = Size} b record { seed = s; rows = r; cols = c }) IsSize
    small s r c hs hr hc true t =
        let cells : r * c ≤ 1000000 = grind (arith, nat_tests) in
        record { seed_limit = omega arith; rows_limits = hr; cols_limits = hc; cells_limit = cells }
    small s r c hs hr hc false t = tt

parts-limits : (parts : List Text) → IfSome (size_of_parts parts) IsSize
parts-limits [] = tt
parts-limits (a ∷ []) = tt
parts-limits (a ∷ b ∷ []) = tt
parts-limits (a ∷ b ∷ c ∷ []) = size-limits a b c
parts-limits (a ∷ b ∷ c ∷ d ∷ more) = tt

at-some : {A : Type 0} (o : Option A) (P : A → Type 0) (x : A) → IfSome o P → o ≡ Some x → P x
at-some None P x h e = cc e
at-some (Some y) P x h e = let same : y ≡ x = cc in rw (← same) h

made-limits : (make : Text) (weights : Option Text) → IfSome (made_source make weights) IsSource
unfolding made_source
made-limits make weights =
    bind-some (size_of make) _ IsSource (λ size e. at-some (size_of make) IsSize size (parts-limits (slice_split (λ byte. byte == 44) make)) e)

grid-limits : (grid : Text) (weights : Option Text) → IfSome (grid_source grid weights) IsSource
unfolding grid_source
grid-limits grid None = tt
grid-limits grid (Some weights) = tt

one-limits : (grid make weights : Option Text) → IfSome (one_source grid make weights) IsSource
one-limits (Some grid) make weights = grid-limits grid weights
one-limits None (Some make) weights = made-limits make weights
one-limits None None weights = tt

plan-limits : (given : Values) → IfSome (plan_words given) IsPlanRead
unfolding plan_words
plan-limits given =
    bind-some (number_given given (codes "ranks") 1 MAX_RANKS 1) _ IsPlanRead (λ ranks er.
    bind-some (number_given given (codes "send-parts") 1 MAX_PARTS 1) _ IsPlanRead (λ send es.
    bind-some (number_given given (codes "recv-parts") 1 MAX_PARTS 1) _ IsPlanRead (λ recv ev.
    bind-some (number_given given (codes "grain") 1 MAX_GRAIN 1) _ IsPlanRead (λ grain eg.
    bind-some (number_given given (codes "depth") 1 MAX_DEPTH 1) _ IsPlanRead (λ depth ed.
    few ranks send recv grain depth
    (default-range 1 MAX_RANKS 1 ranks (given (codes "ranks")) (omega arith) (omega arith) er)
    (default-range 1 MAX_PARTS 1 send (given (codes "send-parts")) (omega arith) (omega arith) es)
    (default-range 1 MAX_PARTS 1 recv (given (codes "recv-parts")) (omega arith) (omega arith) ev)
    (default-range 1 MAX_GRAIN 1 grain (given (codes "grain")) (omega arith) (omega arith) eg)
    (default-range 1 MAX_DEPTH 1 depth (given (codes "depth")) (omega arith) (omega arith) ed)
    (shares_few send recv) refl)))))
  where
    few : (ranks send recv grain depth : ℕ) → IsWithin 1 MAX_RANKS ranks → IsWithin 1 MAX_PARTS send → IsWithin 1 MAX_PARTS recv → IsWithin 1 MAX_GRAIN grain
        → IsWithin 1 MAX_DEPTH depth → (b : Bool) → shares_few send recv ≡ b
        → IfSome (when {A = PlanWords} b record { ranks = ranks; send_parts = send; recv_parts = recv; grain = grain; depth = depth }) IsPlanRead
    few ranks send recv grain depth hr hs hv hg hd true t = record {
      ranks_limits = hr;
      send_parts_limits = hs;
      recv_parts_limits = hv;
      multiple_limit = t;
      grain_limits = hg;
      depth_limits = hd;
    }
    few ranks send recv grain depth hr hs hv hg hd false t = tt

tiles-limits : (rows cols : Text) → IfSome (tiles_in rows cols) IsTileRead
unfolding tiles_in
tiles-limits rows cols =
    bind-some (number_in 1 MAX_RANKS rows) _ IsTileRead (λ a ea.
    bind-some (number_in 1 MAX_RANKS cols) _ IsTileRead (λ b eb.
    few a b (number-range 1 MAX_RANKS a rows ea) (number-range 1 MAX_RANKS b cols eb) (nat_le (a * b) MAX_RANKS) refl))
  where
    few : (a b : ℕ) → IsWithin 1 MAX_RANKS a → IsWithin 1 MAX_RANKS b → (t : Bool) → nat_le (a * b) MAX_RANKS ≡ t
        → IfSome (when {A = TileWords} t record { rows = a; cols = b }) IsTileRead
    few a b ha hb true t =
        let tiles : a * b ≤ MAX_RANKS = grind (arith, nat_tests) in
        record { rows_limits = ha; cols_limits = hb; tiles_limit = tiles }
    few a b ha hb false t = tt

tile-parts-limits : (parts : List Text) → IfSome (tiles_of_parts parts) IsTileRead
tile-parts-limits [] = tt
tile-parts-limits (a ∷ []) = tt
tile-parts-limits (a ∷ b ∷ []) = tiles-limits a b
tile-parts-limits (a ∷ b ∷ c ∷ more) = tt

given-limits : (tiles : Option TileWords) (given : Option Text) → if_given tiles_of given ≡ Some tiles → IfSome tiles IsTileRead
given-limits tiles None e = let same : None ≡ tiles = cc in rw (← same) tt
given-limits tiles (Some text) e = by (tiles_of text) refl e
  where
    by : (o : Option TileWords) → tiles_of text ≡ o → option_map Some o ≡ Some tiles → IfSome tiles IsTileRead
    by None f h = cc h
    by (Some t) f h =
        let same : Some t ≡ tiles = cc in
        let limits = at-some (tiles_of text) IsTileRead t (tile-parts-limits (slice_split (λ byte. byte == 44) text)) f in
        subst (λ u. IfSome u IsTileRead) same limits

-- what isn't given has no value
not-given : {A : Type 0} (read : Text → Option A) (x : Option A) (given : Option Text) → is_some given ≡ false → if_given read given ≡ Some x → x ≡ None
not-given read x None none e = cc
not-given read x (Some text) none e = cc none

-- tiles come from their option
is-given : {A : Type 0} (read : Text → Option A) (x : Option A) (given : Option Text) → IsSome x → if_given read given ≡ Some x → is_some given ≡ true
is-given read x None some e = let same : None ≡ x = cc in absurd (true≢false (sym some ∙ ap is_some (sym same)))
is-given read x (Some text) some e = refl

-- of two options that exclude each other one is given
other-not : (a b c d : Bool) → (not a && (not (b && c) && (not (b && d) && true))) ≡ true → b ≡ true → d ≡ false
other-not a b c false t e = refl
other-not true b c true t e = cc t
other-not false false c true t e = cc e
other-not false true true true t e = cc t
other-not false true false true t e = cc t

with-limits : (given : Values) (source : Source) (tiles : Option TileWords) → IsSource source → are_apart given ≡ true
    → tiles_given given ≡ Some tiles → IfSome (with_source given source tiles) IsRead
unfolding with_source
with-limits given source tiles h apart et =
    bind-some (number_given given (codes "steps") 0 MAX_STEPS 1) _ IsRead (λ steps es.
    bind-some (plan_words given) _ IsRead (λ plan ep.
    bind-some (number_given given (codes "div") 1 MAX_DIV 1) _ IsRead (λ div ed.
    bind-some (or_default (signed_in 1000000000000) (pos 0) (given (codes "edge"))) _ IsRead (λ edge ee.
    bind-some (or_default around_of around.Fixed (given (codes "around"))) _ IsRead (λ side ea.
    bind-some (if_given change_in (given (codes "until"))) _ IsRead (λ until eu.
    record {
      source_limits = h;
      steps_limit = (default-range 0 MAX_STEPS 1 steps (given (codes "steps")) (omega arith) (omega arith) es).1;
      plan_limits = at-some (plan_words given) IsPlanRead plan (plan-limits given) ep;
      div_limits = default-range 1 MAX_DIV 1 div (given (codes "div")) (omega arith) (omega arith) ed;
      edge_limits = edge-limit edge (given (codes "edge")) ee;
      until_limits = until-limits until (given (codes "until")) eu;
      tiles_limits = given-limits tiles (given (codes "tiles")) et;
      tiles_alone = λ some. not-given change_in until (given (codes "until")) (other-not _ _ _ _ apart (is-given tiles_of tiles (given (codes "tiles")) some et)) eu;
    }))))))

-- the limits of a reading
pub values-limits : (given : Values) → IfSome (reading_of_values given) IsRead
unfolding reading_of_values source_of
values-limits given =
    bind-some (when (are_apart given) given) _ IsRead (λ apart w.
    bind-some (source_of apart) _ IsRead (λ source e.
    bind-some (tiles_given apart) _ IsRead (λ tiles f.
    let two = when-some (are_apart given) given apart w in
    with-limits apart source tiles
    (at-some (source_of apart) IsSource source (one-limits (apart (codes "grid")) (apart (codes "make")) (apart (codes "weights"))) e)
    (ap are_apart (sym two.1) ∙ two.0) f)))

-- what is the opposite of true is false
pub is-false : (b : Bool) → true ≡ not b → b ≡ false
is-false true e = cc e
is-false false e = refl

-- what is the opposite of false is true
pub is-true : (b : Bool) → false ≡ not b → b ≡ true
is-true true e = refl
is-true false e = cc e
