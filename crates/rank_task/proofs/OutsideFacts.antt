-- The halo rows that no edge brings, and all rows together. Outside the grid, where rows don't go round, lies the edge; with
-- one rank, the block has all rows of the grid, so what lies there is one of its own rows.
use Rattle.std.proofs.Common.{◌≡◌, ◌∙◌, refl, sym, ap, subst, ℕ, ◌+◌, ◌-◌, ◌*◌, ◌<◌, ◌≤◌, ℤ, pos, negsuc, ◌-ℤ◌, true, false, ◌&&◌, Option, Some, None, IfSome, List, length, get_or, set, arith, inl, inr}
use Rattle.std.specs.Prelude.{◌⊎◌, nat_le, nat_lt, slice_get}
use Rattle.std.proofs.lemmas.Bool.{cases_Bool, cases_eq, cases_lt, le-ltb}
use Rattle.std.proofs.lemmas.Bool.Decides.{nat_tests}
use Rattle.std.proofs.lemmas.Int.{ints}
use Rattle.stencil_def.specs.Plane.{Plane, cell}
use Rattle.stencil_def.specs.declared.rule.Around.{Around}
use Rattle.stencil_def.specs.declared.rule.Around.TheVariants.{Fixed, Wrap}
use Rattle.stencil_def.specs.declared.rule.Rule.{Rule}
use Rattle.stencil_def.specs.Step.{place, read}
use Rattle.cell_lanes.specs.Block.{Part, HoldsMiddle, IsPart, SameRow, SameSize, at, height, own_cells, with_cells}
use Rattle.cell_lanes.proofs.RowFacts.{place-inside}
use Rattle.cell_lanes.proofs.WindowFacts.{below-or}
use Rattle.halo_plan.specs.Plan.{IsPlan, Plan, first_row}
use Rattle.halo_plan.specs.Edges.{edges, goes_round, is_wrap}
use Rattle.halo_plan.proofs.EdgeFacts.{down, edge-even, edge-odd, edges-many, up}
use Rattle.halo_plan.proofs.Planning.{block-some, row-inside}
use Rattle.rank_task.specs.Blocks.{AllRead, AreBrought, AreSized, IsOpenRead, Keeps, OwnRead, Reads, Suit, block_at, no_part, own_at, rows_of}
use Rattle.rank_task.proofs.RowFacts.{own-at, read-inside, read-none, read-some, row-room, with-apart, with-inside}
use Rattle.rank_task.proofs.HaloFacts.{any-default, behind-last, behind-next, first-last, first-zero, keeps-set, rows-hold}

-- ---- one row

-- a row that was given the edge, or an own row, has the grid's reading
pub outside-reads : (g : Plane) (rule : Rule) (top y : ℕ) (b new : Part) (rows : ℕ) (row : ℤ) (reach : ℕ) (out : List ℤ) → new ≡ with_cells y reach out b → reach ≡ b.reach → IsPart b → y < height b
    → length out ≡ b.cols → g.rows ≡ rows → g.cols ≡ b.cols → (pos (top + y) -ℤ pos b.reach) ≡ row
    → (place rule.around rows row ≡ None → (col : ℕ) → col < b.cols → get_or out col (pos 0) ≡ rule.edge)
    → ((r : ℕ) → place rule.around rows row ≡ Some r → out ≡ own_cells b r)
    → ((r col : ℕ) → place rule.around rows row ≡ Some r → col < b.cols → at b (b.reach + r) (b.reach + col) ≡ cell g r col)
    → HoldsMiddle g rule top y new
outside-reads g rule top y b new rows row reach out same far fine less long same-rows same-cols there edge own cells =
    subst (HoldsMiddle g rule top y) (sym same)
    (λ col lt.
    let value : (o : Option ℕ) → place rule.around rows row ≡ o → get_or out col (pos 0) ≡ read g rule row (pos col) = λ o. by-place col lt o in
    ap (λ h. at (with_cells y reach out b) y (h + col)) (sym far)
    ∙ with-inside b y reach col out (row-room b y reach fine less (omega arith)) (omega arith)
    ∙ value (place rule.around rows row) refl
    ∙ ap (λ z. read g rule z (pos col)) (sym there))
  where
    by-place : (col : ℕ) → col < b.cols → (o : Option ℕ) → place rule.around rows row ≡ o → get_or out col (pos 0) ≡ read g rule row (pos col)
    by-place col lt None e = edge e col lt ∙ sym (read-none g rule row (pos col) (ap (λ n. place rule.around n row) same-rows ∙ e))
    by-place col lt (Some r) e =
        ap (λ xs. get_or xs col (pos 0)) (own r e) ∙ own-at b r col lt ∙ cells r col e lt
        ∙ sym (read-some g rule row r col (ap (λ n. place rule.around n row) same-rows ∙ e) (omega arith))

-- the other rows stay as they were
pub outside-rest : (b new : Part) (y reach z : ℕ) (out : List ℤ) → new ≡ with_cells y reach out b → reach ≡ b.reach → IsPart b → y < height b → length out ≡ b.cols
    → (z < y) ⊎ (y + 1 ≤ z) → SameRow z b new
outside-rest b new y reach z out same far fine less long apart =
    subst (SameRow z b) (sym same)
    (with-apart b y reach z out (row-room b y reach fine less (omega arith)) (omega arith)
    (λ e. elim apart [ inl low ↦ omega arith | inr high ↦ omega arith ]))

-- ---- which rows lie outside

-- no row of the grid stands before the first one or behind the last one, where it ends at its edges
pub fixed-before : (n h k : ℕ) → k < h → place Fixed n (pos k -ℤ pos h) ≡ None
fixed-before n h k less = let e : (pos k -ℤ pos h) ≡ negsuc (h - k - 1) = omega (arith, ints) in ap (place Fixed n) e

pub fixed-behind : (n k : ℕ) → place Fixed n (pos (n + k)) ≡ None
fixed-behind n k = let t : nat_lt (n + k) n ≡ false = le-ltb (n + k) n (omega arith) in rw t refl

-- a place holds a row or none
not-some : (o : Option ℕ) (r : ℕ) → o ≡ None → o ≡ Some r → ⊥
not-some o r none some = clash r (sym none ∙ some)
  where
    clash : (r : ℕ) → ◌≡◌ {A = Option ℕ} None (Some r) → ⊥
    clash r e = cc

-- what is not round is fixed
around-fixed : (a : Around) → is_wrap a ≡ false → a ≡ Fixed
around-fixed Fixed e = refl
around-fixed Wrap e = absurd cc

-- where rows don't go round and yet some row of the grid stands outside, there is one rank
pub one-rank : (p : Plan) (row : ℤ) (r : ℕ) → IsPlan p → goes_round p ≡ false → place Fixed p.rows row ≡ None → place p.around p.rows row ≡ Some r → (p.ranks ≡ 1) × (r < p.rows)
one-rank p row r v free none some =
    let ranks = v.ranks in let rows = v.rows in
    let inside : r < p.rows = subst (λ o. IfSome o (λ i. i < p.rows)) some (place-inside p.around p.rows row (omega arith)) in
    elim (cases_lt 1 p.ranks) [
      | inl two ↦
          let t : nat_le 2 p.ranks ≡ true = grind (arith, nat_tests) in
          let plain : is_wrap p.around ≡ false = ap (λ b. b && is_wrap p.around) (sym t) ∙ free in
          absurd (not-some (place p.around p.rows row) r (ap (λ a. place a p.rows row) (around-fixed p.around plain) ∙ none) some)
      | inr one ↦ (omega arith, inside)
    ]

-- its block has all rows
pub one-block : (p : Plan) (i : ℕ) → p.ranks ≡ 1 → i < p.ranks → (first_row p i ≡ 0) × (rows_of p i ≡ p.rows)
one-block p i one less =
    let some : 0 < p.ranks = omega arith in
    let here : i ≡ 0 = omega arith in
    let zero : first_row p i ≡ 0 = ap (first_row p) here ∙ first-zero p some in
    let next : i + 1 ≡ p.ranks = omega arith in
    let all : first_row p (i + 1) ≡ p.rows = ap (first_row p) next ∙ first-last p some in
    (zero, omega arith)

-- the last rank's rows end with the grid's
pub last-rows : (p : Plan) → IsPlan p → first_row p (p.ranks - 1) + rows_of p (p.ranks - 1) ≡ p.rows
last-rows p v =
    let ranks = v.ranks in
    let some : 0 < p.ranks = omega arith in
    let next : p.ranks - 1 + 1 ≡ p.ranks = omega arith in
    let all : first_row p (p.ranks - 1 + 1) ≡ p.rows = ap (first_row p) next ∙ first-last p some in
    let low = block-some p (p.ranks - 1) v in
    omega arith

-- counted from the halo's first row, own row r stands the halo's height further
pub ahead : (a h r : ℕ) → (pos (a + (h + r)) -ℤ pos h) ≡ pos (a + r)
ahead a h r = omega (arith, ints)

-- an own cell is the grid's
pub own-cell : (p : Plan) (g : Plane) (rule : Rule) (blocks : List Part) (i r col : ℕ) → IsPlan p → AreSized p blocks → Suit p g rule → OwnRead p g rule blocks → i < p.ranks → r < rows_of p i → col < p.cols
    → at (block_at blocks i) ((block_at blocks i).reach + r) ((block_at blocks i).reach + col) ≡ cell g (first_row p i + r) col
own-cell p g rule blocks i r col v s suit own less inside lt =
    let size = s.each i less in let h = size.reach in let w = size.cols in
    let b = block_at blocks i in
    let rows = suit.rows in let cols = suit.cols in
    let ranks = v.ranks in
    let end = row-inside (i + 1) p.rows p.ranks (omega arith) (omega arith) in
    let e : (pos (first_row p i + (p.reach + r)) -ℤ pos p.reach) ≡ pos (first_row p i + r) = ahead (first_row p i) p.reach r in
    ap (λ n. at b (n + r) (b.reach + col)) h
    ∙ own i r less inside col (omega arith)
    ∙ ap (λ n. read g rule (pos (first_row p i + (p.reach + r)) -ℤ pos n) (pos col)) h
    ∙ ap (λ z. read g rule z (pos col)) e
    ∙ read-inside g rule (first_row p i + r) col (omega arith) (omega arith)

-- a row was set that has the reading, and the others stay
pub outside-keeps : (p : Plan) (g : Plane) (rule : Rule) (blocks : List Part) (j y : ℕ) (b : Part) → j < length blocks → SameSize (block_at blocks j) b
    → ((z : ℕ) → (z < y) ⊎ (y + 1 ≤ z) → SameRow z (block_at blocks j) b) → HoldsMiddle g rule (first_row p j) y b → Keeps p g rule blocks (set blocks j b)
outside-keeps p g rule blocks j y b less size rest holds =
    keeps-set p g rule blocks j b less
    (rows-hold g rule (first_row p j) y 1 (block_at blocks j) b size rest
    (λ k l. let same : y ≡ y + k = omega arith in subst (λ n. HoldsMiddle g rule (first_row p j) n b) same holds))

-- ---- all rows

-- the edge that brings rank i + 1 the rows before its own
down-there : (p : Plan) (i : ℕ) → i + 1 < p.ranks → slice_get (edges p) (2 * i) ≡ Some (down p i (i + 1))
down-there p i less =
    let many = edges-many p in
    edge-even p (2 * i) i (omega arith) refl ∙ ap (λ j. Some (down p i j)) (behind-next p i (λ e. omega arith))

-- the edge that brings rank i the rows behind its own
up-there : (p : Plan) (i : ℕ) → i + 1 < p.ranks → slice_get (edges p) (2 * i + 1) ≡ Some (up p i (i + 1))
up-there p i less =
    let many = edges-many p in
    edge-odd p (2 * i + 1) i (omega arith) refl ∙ ap (λ j. Some (up p i j)) (behind-next p i (λ e. omega arith))

-- where rows go round there are two edges for each rank
round-many : (p : Plan) → goes_round p ≡ true → length (edges p) ≡ 2 * (p.ranks - 1 + 1)
round-many p round = edges-many p ∙ rw round refl

-- and round the grid: the rows before those of the first rank, and behind those of the last
down-first : (p : Plan) (i : ℕ) → goes_round p ≡ true → i + 1 ≡ p.ranks → slice_get (edges p) (2 * i) ≡ Some (down p i 0)
down-first p i round last =
    let many = round-many p round in
    edge-even p (2 * i) i (omega arith) refl ∙ ap (λ j. Some (down p i j)) (behind-last p i last)

up-last : (p : Plan) (i : ℕ) → goes_round p ≡ true → i + 1 ≡ p.ranks → slice_get (edges p) (2 * i + 1) ≡ Some (up p i 0)
up-last p i round last =
    let many = round-many p round in
    edge-odd p (2 * i + 1) i (omega arith) refl ∙ ap (λ j. Some (up p i j)) (behind-last p i last)

-- the rows that the edges brought, the own rows, and those that no edge brings
pub all-read : (p : Plan) (g : Plane) (rule : Rule) (old new : List Part) → IsPlan p → OwnRead p g rule old → AreBrought p g rule old (length (edges p)) → Keeps p g rule old new
    → (goes_round p ≡ false → (k : ℕ) → k < p.reach → IsOpenRead p g rule new k) → AllRead p g rule new
all-read p g rule old new v own brought keeps outer i y inside less =
    below-or y p.reach
    (λ low. before low)
    (λ h. below-or y (p.reach + rows_of p i)
    (λ l. let place : p.reach + (y - p.reach) ≡ y = omega arith in
    subst (Reads p g rule new i) place (keeps i (p.reach + (y - p.reach)) (own i (y - p.reach) inside (omega arith))))
    (λ m. let place : p.reach + rows_of p i + (y - p.reach - rows_of p i) ≡ y = omega arith in
    subst (Reads p g rule new i) place (after (y - p.reach - rows_of p i) (omega arith))))
  where
    first : (k : ℕ) → k < p.reach → i ≡ 0 → Reads p g rule new i k
    first k less here = elim (cases_Bool (goes_round p)) [
      | inl round ↦
          let ranks = v.ranks in
          let last : p.ranks - 1 + 1 ≡ p.ranks = omega arith in
          let many = round-many p round in
          let b = brought (2 * (p.ranks - 1)) (down p (p.ranks - 1) 0) (omega arith) (down-first p (p.ranks - 1) round last) k less in
          let none : 0 + k ≡ k = omega arith in
          subst (λ j. Reads p g rule new j k) (sym here) (subst (Reads p g rule new 0) none (keeps 0 (0 + k) b))
      | inr plain ↦ subst (λ j. Reads p g rule new j k) (sym here) (outer plain k less).before
    ]

    before : y < p.reach → Reads p g rule new i y
    before low = elim (cases_eq i 0) [
      | inl here ↦ first y low here
      | inr later ↦
          let many = edges-many p in
          let next : i - 1 + 1 ≡ i = omega arith in
          let b = brought (2 * (i - 1)) (down p (i - 1) (i - 1 + 1)) (omega arith) (down-there p (i - 1) (omega arith)) y low in
          let none : 0 + y ≡ y = omega arith in
          subst (λ j. Reads p g rule new j y) next (subst (Reads p g rule new (i - 1 + 1)) none (keeps (i - 1 + 1) (0 + y) b))
    ]

    after : (k : ℕ) → k < p.reach → Reads p g rule new i (p.reach + rows_of p i + k)
    after k low = elim (cases_eq (i + 1) p.ranks) [
      | inl last ↦ elim (cases_Bool (goes_round p)) [
        | inl round ↦
            let many = round-many p round in
            let b = brought (2 * i + 1) (up p i 0) (omega arith) (up-last p i round last) k low in
            keeps i (p.reach + rows_of p i + k) b
        | inr plain ↦
            let same : p.ranks - 1 ≡ i = omega arith in
            subst (λ j. Reads p g rule new j (p.reach + rows_of p j + k)) same (outer plain k low).behind
      ]
      | inr more ↦
          let many = edges-many p in
          let b = brought (2 * i + 1) (up p i (i + 1)) (omega arith) (up-there p i (omega arith)) k low in
          keeps i (p.reach + rows_of p i + k) b
    ]

-- ---- as the code sets them

-- where a row of the grid stands outside, there is one rank, whose block has that row
pub open-own : (p : Plan) (rule : Rule) (blocks : List Part) (i r place-at rows : ℕ) (b : Part) → IsPlan p → AreSized p blocks → goes_round p ≡ false → rule.around ≡ p.around → rule.weights.reach ≡ p.reach
    → i < p.ranks → b ≡ block_at blocks i → rows ≡ p.rows → place Fixed p.rows (pos place-at -ℤ pos p.reach) ≡ None
    → place rule.around rows (pos place-at -ℤ pos rule.weights.reach) ≡ Some r → (p.ranks ≡ 1) × (r < b.rows)
open-own p rule blocks i r place-at rows b v s plain around reach less same many none some =
    let there : place p.around p.rows (pos place-at -ℤ pos p.reach) ≡ Some r = (λ j. place (sym around j) (sym many j) (pos place-at -ℤ pos (sym reach j))) ∙ some in
    let one = one-rank p (pos place-at -ℤ pos p.reach) r v plain none there in
    let alone = one.0 in let inside = one.1 in
    let whole = (one-block p i alone less).1 in
    let size = ap (λ (q : Part). q.rows) same ∙ (s.each i less).rows in
    (alone, omega arith)

-- so a row that was set as the code sets it has the reading
pub open-holds : (p : Plan) (g : Plane) (rule : Rule) (blocks : List Part) (i y place-at rows : ℕ) (b new : Part) → IsPlan p → AreSized p blocks → goes_round p ≡ false → Suit p g rule → OwnRead p g rule blocks
    → i < p.ranks → b ≡ block_at blocks i → rows ≡ p.rows → first_row p i + y ≡ place-at → place Fixed p.rows (pos place-at -ℤ pos p.reach) ≡ None
    → (g.rows ≡ rows → g.cols ≡ b.cols → (pos (first_row p i + y) -ℤ pos b.reach) ≡ (pos place-at -ℤ pos rule.weights.reach)
    → ((r col : ℕ) → place rule.around rows (pos place-at -ℤ pos rule.weights.reach) ≡ Some r → col < b.cols → own_at b r col ≡ cell g r col)
    → HoldsMiddle g rule (first_row p i) y new)
    → HoldsMiddle g rule (first_row p i) y new
open-holds p g rule blocks i y place-at rows b new v s plain suit own less same many stands none reads =
    let size = s.each i less in
    let wide = ap (λ (q : Part). q.cols) same ∙ size.cols in
    let high = ap (λ (q : Part). q.reach) same ∙ size.reach in
    let tall = ap (λ (q : Part). q.rows) same ∙ size.rows in
    reads (suit.rows ∙ sym many) (suit.cols ∙ sym wide) (λ j. pos (stands j) -ℤ pos ((high ∙ sym suit.reach) j))
    (λ r col some lt.
    let one = open-own p rule blocks i r place-at rows b v s plain suit.around suit.reach less same many none some in
    let inside = one.1 in
    let zero = (one-block p i one.0 less).0 in
    let first : first_row p i + r ≡ r = omega arith in
    ap (λ (q : Part). own_at q r col) same
    ∙ own-cell p g rule blocks i r col v s suit own less (omega arith) (omega arith)
    ∙ ap (λ n. cell g n col) first)

-- how many rows the last rank's block has
pub rows-last : (p : Plan) (blocks : List Part) (i rows : ℕ) (d : Part) → IsPlan p → AreSized p blocks → i ≡ p.ranks - 1 → rows ≡ (get_or blocks i d).rows → rows ≡ rows_of p (p.ranks - 1)
rows-last p blocks i rows d v s last is =
    let ranks = v.ranks in let count = s.count in
    is ∙ ap (λ (q : Part). q.rows) (any-default blocks i d no_part (omega arith)) ∙ (s.each i (omega arith)).rows ∙ ap (rows_of p) last
