-- The options as `clap` knows them, and the rows that it makes of them.
use Rattle.std.proofs.Common.{◌≡◌, ◌∙◌, ℕ, Bool, true, false, not, ◌||◌, cond, true≢false, List, [], ◌∷◌, ◌++◌, map, Option, Some, None, refl, sym, ap, codes, append-nil}
use Rattle.std.specs.Prelude.{bytes_eq, find, option_and_then, option_map, slice_get}
use Rattle.std.specs.List.{list_any}
use Rattle.std.proofs.lemmas.Bool.Decides.{Decides-like, same_from_decides}
use Rattle.std.proofs.lemmas.List.{map-append}
use Rattle.std.proofs.lemmas.Slice.Eq.{bytes_eq-Decides}
use Rattle.stencil_words.specs.Options.{Pair, Text, has, value, when}
use Rattle.stencil_words.specs.Command.{option_rule}
use Rattle.clap.specs.Faults.{use_fault}
use Rattle.clap.specs.Kinds.{Kinds}
use Rattle.clap.specs.Simple.{Shape, filled, new_shape}
use Rattle.clap.specs.Walk.{first_of, Row, Rule, arg_by_id, arg_by_index, arg_by_long, at_row, has_row, more_values, reading_by, used, with_values}
use Rattle.clap.specs.declared.parser.matches.ValueSource.TheVariants.{CommandLine}

-- the argument of a name, once the command is built
abbrev pub known : Text → Rule
known name = filled (option_rule name)

abbrev pub shape : List Text → Shape
shape ns = record (new_shape (codes "stencil")) {
  rules = map known ns;
  disable_help_flag = true;
  disable_help_subcommand = true;
  is_built = true;
}

-- ---- names

-- texts that compare as equal are equal
pub same-text : (x y : Text) → bytes_eq x y ≡ true → x ≡ y
same-text x y = (bytes_eq-Decides x y).0

-- a text compares as equal to itself
pub self-text : (x : Text) → bytes_eq x x ≡ true
self-text x = (bytes_eq-Decides x x).1 refl

-- a comparison of texts says the same in either order
pub swap-text : (x y : Text) → bytes_eq x y ≡ bytes_eq y x
swap-text x y = same_from_decides _ _ (bytes_eq-Decides x y) (Decides-like (bytes_eq y x) sym sym (bytes_eq-Decides y x))

abbrev pub is_among : List Text → Text → Bool
is_among ns n = list_any (λ x. bytes_eq x n) ns

-- the argument of a long name is found where the name is among the names
pub long-found : (ns : List Text) (n : Text) → arg_by_long (map known ns) n ≡ when (is_among ns n) (known n)
long-found [] n = refl
long-found (x ∷ ns) n = by (bytes_eq x n) refl (long-found ns n)
  where
    by : (b : Bool) → bytes_eq x n ≡ b → arg_by_long (map known ns) n ≡ when (is_among ns n) (known n)
        → arg_by_long (map known (x ∷ ns)) n ≡ when (is_among (x ∷ ns) n) (known n)
    by true e more = rw e (ap (λ (y : Text). Some (known y)) (same-text x n e))
    by false e more = rw e more

-- the argument of an id is found where the id is among the names
pub id-found : (ns : List Text) (n : Text) → arg_by_id (map known ns) n ≡ when (is_among ns n) (known n)
id-found [] n = refl
id-found (x ∷ ns) n = by (bytes_eq x n) refl (id-found ns n)
  where
    by : (b : Bool) → bytes_eq x n ≡ b → arg_by_id (map known ns) n ≡ when (is_among ns n) (known n)
        → arg_by_id (map known (x ∷ ns)) n ≡ when (is_among (x ∷ ns) n) (known n)
    by true e more = rw e (ap (λ (y : Text). Some (known y)) (same-text x n e))
    by false e more = rw e more

-- no argument is found by a place, since none takes a word by its place
pub index-none : (ns : List Text) (i : ℕ) → arg_by_index (map known ns) i ≡ None
index-none [] i = refl
index-none (x ∷ ns) i = index-none ns i

-- ---- rows

abbrev pub row : Pair → Row
row p = record { id = p.0; values = p.1 ∷ []; count = None; source = Some CommandLine; reading = reading_by (known p.0) }

abbrev pub rows : List Pair → List Row
rows = map row

row-none : (done : List Pair) (n : Text) (change : Row → List Row) (missing : List Row) → has n done ≡ false
    → at_row n change missing (rows done) ≡ rows done ++ missing
row-none [] n change missing e = refl
row-none (p ∷ done) n change missing e = by (bytes_eq p.0 n) refl e (row-none done n change missing)
  where
    by : (b : Bool) → bytes_eq p.0 n ≡ b → has n (p ∷ done) ≡ false → (has n done ≡ false → at_row n change missing (rows done) ≡ rows done ++ missing)
        → at_row n change missing (rows (p ∷ done)) ≡ rows (p ∷ done) ++ missing
    by true t e more = absurd (true≢false (rw t at e))
    by false t e more = rw t (ap (λ rs. row p ∷ rs) (more (rw t at e)))

has-row : (done : List Pair) (n : Text) → has_row n (rows done) ≡ has n done
has-row [] n = refl
has-row (p ∷ done) n = ap (λ b. bytes_eq p.0 n || b) (has-row done n)

-- ---- one use of an option

abbrev pub is_nil : Kinds → Bool
is_nil [] = true
is_nil (k ∷ ks) = false

-- the options so far with one more, where it may be given
abbrev pub add : List Pair → Pair → Option (List Pair)
add done p = when (not (has p.0 done)) (done ++ p ∷ [])

abbrev pub after_use : List Row → Text → Text → Option (List Row)
after_use rs n v = when (is_nil (use_fault false (known n) (v ∷ []) rs)) (used (known n) (v ∷ []) rs)

-- one use of an option puts its row behind those of the options so far where none has its name, and else is refused
pub use-once : (done : List Pair) (n v : Text) → after_use (rows done) n v ≡ option_map rows (add done (n, v))
use-once done n v = by (has n done) refl
  where
    by : (b : Bool) → has n done ≡ b → after_use (rows done) n v ≡ option_map rows (add done (n, v))
    by true t = rw (has-row done n, t) refl
    by false t =
        rw (has-row done n, t)
        (ap Some (ap (with_values n (reading_by (known n)) CommandLine (v ∷ [])) (row-none done n (λ _. []) [] t ∙ append-nil (rows done))
        ∙ row-none done n (more_values CommandLine (v ∷ [])) (row (n, v) ∷ []) t ∙ sym (map-append row done ((n, v) ∷ []))))

-- the rows of options give their values
pub row-value : (options : List Pair) (n : Text) → first_of n (rows options) ≡ value options n
row-value [] n = refl
row-value (p ∷ rest) n = by (bytes_eq p.0 n) (row-value rest n)
  where
    by : (b : Bool) → first_of n (rows rest) ≡ value rest n
        → option_and_then (λ (r : Row). slice_get r.values 0) (cond b (Some (row p)) (find (λ r. bytes_eq r.id n) (rows rest)))
        ≡ option_map (λ (q : Pair). q.1) (cond b (Some p) (find (λ q. bytes_eq q.0 n) rest))
    by true h = refl
    by false h = h
