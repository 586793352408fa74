-- Which row, or column, of a grid stands in the halo of a part. Where parts meet, a part's halo is its neighbour's rows,
-- also round the edge of the grid; where a part has no neighbour, nothing of the grid lies there, or there is one part.
use Rattle.std.proofs.Common.{◌≡◌, ◌∙◌, refl, sym, ap, subst, ℕ, ◌+◌, ◌-◌, ◌*◌, ◌/◌, ◌%◌, ◌<◌, ◌≤◌, ◌==◌, ℤ, pos, negsuc, ◌-ℤ◌, true, false, Option, Some, None, IfSome, arith, inl, inr}
use Rattle.std.specs.Prelude.{nat_le, nat_lt}
use Rattle.std.proofs.lemmas.Bool.{cases_eq, le-ltb, lt-ltb}
use Rattle.std.proofs.lemmas.Bool.Decides.{nat_tests}
use Rattle.std.proofs.lemmas.Int.{ints}
use Rattle.std.proofs.lemmas.Nat.{div_below, div-mul-add}
use Rattle.std.proofs.Math.Nat.{mod-eq_of_lt, add-mod_left}
use Rattle.stencil_def.specs.Plane.{Plane, cell}
use Rattle.stencil_def.specs.declared.rule.Around.{Around}
use Rattle.stencil_def.specs.declared.rule.Around.TheVariants.{Fixed, Wrap}
use Rattle.stencil_def.specs.declared.rule.Rule.{Rule}
use Rattle.stencil_def.specs.Step.{cell_or, place, read}
use Rattle.cell_lanes.proofs.RowFacts.{place-inside}
use Rattle.cell_lanes.proofs.WindowFacts.{below-or}
use Rattle.grid_tiles.specs.Plan.{cut_at}
use Rattle.grid_tiles.specs.Edges.{next, nexts}
use Rattle.grid_tiles.proofs.Planning.{cut-inside}

-- ---- the reading of a grid

-- a place inside is itself
pub place-own : (around : Around) (n k : ℕ) → k < n → place around n (pos k) ≡ Some k
place-own Fixed n k less = let t : nat_lt k n ≡ true = lt-ltb k n less in rw t refl
place-own Wrap n k less = ap (λ (m : ℕ). Some m) (mod-eq_of_lt less)

-- inside the grid it's the cell
pub read-inside : (g : Plane) (rule : Rule) (row col : ℕ) → row < g.rows → col < g.cols → read g rule (pos row) (pos col) ≡ cell g row col
unfolding read
read-inside g rule row col l m =
    ap (λ o. cell_or g rule.edge o (place rule.around g.cols (pos col))) (place-own rule.around g.rows row l)
    ∙ ap (cell_or g rule.edge (Some row)) (place-own rule.around g.cols col m)

-- what stands in one place reads the same
pub read-same : (g : Plane) (rule : Rule) (a b c d : ℤ) → place rule.around g.rows a ≡ place rule.around g.rows b → place rule.around g.cols c ≡ place rule.around g.cols d
    → read g rule a c ≡ read g rule b d
unfolding read
read-same g rule a b c d rows cols = λ i. cell_or g rule.edge (rows i) (cols i)

-- outside the grid it's the edge
pub read-no-row : (g : Plane) (rule : Rule) (a c : ℤ) → place rule.around g.rows a ≡ None → read g rule a c ≡ rule.edge
unfolding read
read-no-row g rule a c none = ap (λ o. cell_or g rule.edge o (place rule.around g.cols c)) none

pub read-no-col : (g : Plane) (rule : Rule) (a c : ℤ) → place rule.around g.cols c ≡ None → read g rule a c ≡ rule.edge
unfolding read
read-no-col g rule a c none = ap (λ o. cell_or g rule.edge (place rule.around g.rows a) o) none ∙ no-col (place rule.around g.rows a)
  where
    no-col : (o : Option ℕ) → cell_or g rule.edge o None ≡ rule.edge
    no-col (Some row) = refl
    no-col None = refl

-- ---- neighbours

-- the first part begins at 0, and behind the last is the end
pub cut-zero : (n parts : ℕ) → 0 < parts → cut_at n parts 0 ≡ 0
cut-zero n parts some = let less = div_below (0 * n) parts 1 some (omega arith) in omega arith

pub cut-last : (n parts : ℕ) → 0 < parts → cut_at n parts parts ≡ n
cut-last n parts some = let e : parts * n ≡ n * parts + 0 = omega arith in ap (λ m. m / parts) e ∙ div-mul-add n parts 0 some

-- the next one, before the last and at the last
pub next-more : (n i : ℕ) → (i + 1 ≡ n → ⊥) → next n i ≡ i + 1
next-more n i apart = let t : (i + 1 == n) ≡ false = grind (arith, nat_tests) in rw t refl

pub next-last : (n i : ℕ) → i + 1 ≡ n → next n i ≡ 0
next-last n i same = let t : (i + 1 == n) ≡ true = grind (arith, nat_tests) in rw t refl

-- with `Wrap` all places have a next one where there are two at least
pub wrap-two : (n : ℕ) → 2 ≤ n → nexts Wrap n ≡ n
wrap-two n two = let t : nat_le 2 n ≡ true = grind (arith, nat_tests) in rw t refl

pub wrap-one : (n : ℕ) → n < 2 → nexts Wrap n ≡ 0
wrap-one n one = let t : nat_le 2 n ≡ false = grind (arith, nat_tests) in rw t refl

-- where the grid goes round, a place and the one that is a whole grid behind it are one
wrap-round : (n h m : ℕ) → 0 < n → h ≤ n → place Wrap n (pos m -ℤ pos h) ≡ place Wrap n (pos (n + m) -ℤ pos h)
wrap-round n h m some few = below-or m h
    (λ less.
    let a : (pos m -ℤ pos h) ≡ negsuc (h - m - 1) = omega (arith, ints) in
    let b : (pos (n + m) -ℤ pos h) ≡ pos (n + m - h) = omega (arith, ints) in
    let c : (h - m - 1) % n ≡ h - m - 1 = small (h - m - 1) n (omega arith) in
    let d : (n + m - h) % n ≡ n + m - h = small (n + m - h) n (omega arith) in
    let e : n - 1 - (h - m - 1) % n ≡ (n + m - h) % n = omega (arith, c, d) in
    ap (place Wrap n) a ∙ ap (λ (k : ℕ). Some k) e ∙ ap (place Wrap n) (sym b))
    (λ more.
    let a : (pos m -ℤ pos h) ≡ pos (m - h) = omega (arith, ints) in
    let b : (pos (n + m) -ℤ pos h) ≡ pos (n + (m - h)) = omega (arith, ints) in
    ap (place Wrap n) a ∙ ap (λ (k : ℕ). Some k) (sym (add-mod_left n (m - h))) ∙ ap (place Wrap n) (sym b))
  where
    small : (m n : ℕ) → m < n → m % n ≡ m
    small m n less = mod-eq_of_lt less

-- where part i has a next one, that one begins where part i ends, also round the grid
pub seam : (around : Around) (n parts h i m : ℕ) → 0 < n → i < parts → i < nexts around parts → (2 ≤ parts → h ≤ n)
    → place around n (pos (cut_at n parts (next parts i) + m) -ℤ pos h) ≡ place around n (pos (cut_at n parts (i + 1) + m) -ℤ pos h)
seam around n parts h i m some inside has few = elim (cases_eq (i + 1) parts) [
  | inl last ↦
      let a : cut_at n parts (next parts i) ≡ 0 = ap (cut_at n parts) (next-last parts i last) ∙ cut-zero n parts (omega arith) in
      let b : cut_at n parts (i + 1) ≡ n = ap (cut_at n parts) last ∙ cut-last n parts (omega arith) in
      ap (λ k. place around n (pos (k + m) -ℤ pos h)) a
      ∙ round around has last
      ∙ ap (λ k. place around n (pos (k + m) -ℤ pos h)) (sym b)
  | inr more ↦ ap (λ j. place around n (pos (cut_at n parts j + m) -ℤ pos h)) (next-more parts i more)
]
  where
    round : (a : Around) → i < nexts a parts → i + 1 ≡ parts → place a n (pos (0 + m) -ℤ pos h) ≡ place a n (pos (n + m) -ℤ pos h)
    round Fixed l last = absurd (omega arith)
    round Wrap l last =
        let none : 0 + m ≡ m = omega arith in
        let two : 2 ≤ parts = below-or parts 2 (λ one. let z = wrap-one parts one in absurd (omega arith)) (λ h. h) in
        ap (λ k. place Wrap n (pos k -ℤ pos h)) none ∙ wrap-round n h m some (few two)

-- ---- parts that have no neighbour

-- nothing stands there and something does not both hold
clash : {P : Type 0} (o : Option ℕ) (r : ℕ) → o ≡ None → o ≡ Some r → P
clash o r none some = absurd (apart r (sym none ∙ some))
  where
    apart : (r : ℕ) → ◌≡◌ {A = Option ℕ} None (Some r) → ⊥
    apart r e = cc

-- outside, where the grid does not go round, nothing stands
fixed-before : (n h k : ℕ) → k < h → place Fixed n (pos k -ℤ pos h) ≡ None
fixed-before n h k less = let e : (pos k -ℤ pos h) ≡ negsuc (h - k - 1) = omega (arith, ints) in ap (place Fixed n) e

fixed-behind : (n k : ℕ) → place Fixed n (pos (n + k)) ≡ None
fixed-behind n k = let t : nat_lt (n + k) n ≡ false = le-ltb (n + k) n (omega arith) in rw t refl

-- where there is one part, it has all
whole : (around : Around) (n parts i c : ℕ) (z : ℤ) → 0 < n → parts ≡ 1 → i < parts → place around n z ≡ Some c → (c < cut_at n parts (i + 1) - cut_at n parts i) × (cut_at n parts i ≡ 0)
whole around n parts i c z some one less at =
    let inside : c < n = subst (λ o. IfSome o (λ i. i < n)) at (place-inside around n z some) in
    let first : i ≡ 0 = omega arith in
    let a : cut_at n parts i ≡ 0 = ap (cut_at n parts) first ∙ cut-zero n parts (omega arith) in
    let last : i + 1 ≡ parts = omega arith in
    let b : cut_at n parts (i + 1) ≡ n = ap (cut_at n parts) last ∙ cut-last n parts (omega arith) in
    (omega arith, a)

-- before the first part, where it is no other's next one
pub open-before : (around : Around) (n parts h i k c : ℕ) → 0 < n → i < parts → i ≡ 0 → nexts around parts < parts → k < h
    → place around n (pos (cut_at n parts i + (0 + k)) -ℤ pos h) ≡ Some c → (c < cut_at n parts (i + 1) - cut_at n parts i) × (cut_at n parts i ≡ 0)
open-before Fixed n parts h i k c some inside first last less at =
    let a : cut_at n parts i ≡ 0 = ap (cut_at n parts) first ∙ cut-zero n parts (omega arith) in
    let e : cut_at n parts i + (0 + k) ≡ k = omega arith in
    clash (place Fixed n (pos (cut_at n parts i + (0 + k)) -ℤ pos h)) c (ap (λ m. place Fixed n (pos m -ℤ pos h)) e ∙ fixed-before n h k less) at
open-before Wrap n parts h i k c some inside first last less at =
    below-or parts 2
    (λ few. whole Wrap n parts i c (pos (cut_at n parts i + (0 + k)) -ℤ pos h) some (omega arith) inside at)
    (λ two. let all = wrap-two parts two in absurd (omega arith))

-- behind a part that has no next one
pub open-behind : (around : Around) (n parts h i k c : ℕ) → 0 < n → i < parts → nexts around parts ≤ i
    → place around n (pos (cut_at n parts i + (h + (cut_at n parts (i + 1) - cut_at n parts i) + k)) -ℤ pos h) ≡ Some c
    → (c < cut_at n parts (i + 1) - cut_at n parts i) × (cut_at n parts i ≡ 0)
open-behind Fixed n parts h i k c some inside last at =
    let end : i + 1 ≡ parts = omega arith in
    let b : cut_at n parts (i + 1) ≡ n = ap (cut_at n parts) end ∙ cut-last n parts (omega arith) in
    let low = cut-inside n parts i (omega arith) (omega arith) in
    let e : cut_at n parts i + (h + (cut_at n parts (i + 1) - cut_at n parts i) + k) ≡ h + (n + k) = omega arith in
    let z : (pos (h + (n + k)) -ℤ pos h) ≡ pos (n + k) = ahead h (n + k) in
    clash (place Fixed n (pos (cut_at n parts i + (h + (cut_at n parts (i + 1) - cut_at n parts i) + k)) -ℤ pos h)) c
    (ap (λ m. place Fixed n (pos m -ℤ pos h)) e ∙ ap (place Fixed n) z ∙ fixed-behind n k) at
  where
    ahead : (h m : ℕ) → (pos (h + m) -ℤ pos h) ≡ pos m
    ahead h m = omega (arith, ints)
open-behind Wrap n parts h i k c some inside last at =
    below-or parts 2
    (λ few. whole Wrap n parts i c (pos (cut_at n parts i + (h + (cut_at n parts (i + 1) - cut_at n parts i) + k)) -ℤ pos h) some (omega arith) inside at)
    (λ two. let all = wrap-two parts two in absurd (omega arith))
