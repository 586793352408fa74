-- What the edges of a plan bring: an edge's rows leave own rows of its sender and land in the halo of its receiver, and
-- there the grid is read at the rows that left, straight on or round the edge of the grid.
use Rattle.std.proofs.Common.{◌≡◌, ◌∙◌, refl, sym, ap, subst, ℕ, ◌+◌, ◌-◌, ◌*◌, ◌/◌, ◌%◌, ◌<◌, ◌≤◌, ◌==◌, ℤ, pos, negsuc, ◌-ℤ◌, true, false, Option, Some, List, length, length-set, get_or, set, arith, inl, inr, if◌then◌else◌}
use Rattle.std.specs.Prelude.{◌⊎◌, slice_get}
use Rattle.std.proofs.lemmas.Bool.{and_parts, cases_Bool, cases_eq}
use Rattle.std.specs.Prelude.{nat_le}
use Rattle.std.proofs.lemmas.Bool.Decides.{nat_tests}
use Rattle.std.proofs.lemmas.Int.{ints}
use Rattle.std.proofs.lemmas.List.{get_or-set_same, get_or-set_other}
use Rattle.std.proofs.lemmas.Nat.{div_below, div-mul-add, mod-mul-add}
use Rattle.std.proofs.lemmas.Option.{slice_get-get_or}
use Rattle.std.proofs.Math.Nat.{mod-eq_of_lt}
use Rattle.stencil_def.specs.Plane.{Plane}
use Rattle.stencil_def.specs.declared.rule.Around.{Around}
use Rattle.stencil_def.specs.declared.rule.Around.TheVariants.{Fixed, Wrap}
use Rattle.stencil_def.specs.declared.rule.Rule.{Rule}
use Rattle.stencil_def.specs.Step.{place, read}
use Rattle.cell_lanes.specs.Block.{Part, HoldsMiddle, IsPart, SameRow, SameSize, at}
use Rattle.cell_lanes.proofs.WindowFacts.{below-or}
use Rattle.halo_plan.specs.declared.TheConstants.{DOWN}
use Rattle.halo_plan.specs.declared.edge.Edge.{Edge}
use Rattle.plain_pair.specs.Kept.{Kept}
use Rattle.halo_plan.specs.Plan.{IsPlan, Plan, first_row, shape_of}
use Rattle.halo_plan.specs.Edges.{edges, goes_round, is_wrap}
use Rattle.halo_plan.proofs.EdgeFacts.{behind, down, edge-even, edge-odd, edge-two, edges-many, few-edges, up}
use Rattle.halo_plan.proofs.Planning.{block-enough}
use Rattle.rank_task.specs.Blocks.{AreBrought, ArePaired, AreSized, IsBrought, IsResting, IsSized, Keeps, OwnRead, Reads, Suit, block_at, landing, leaving, no_pair, no_part, pair_at, rows_of}
use Rattle.rank_task.proofs.RowFacts.{middle-same, read-place}

-- ---- lists of blocks

-- what stands at a place doesn't depend on what stands behind the last
pub any-default : {X : Type 0} (xs : List X) (i : ℕ) (d e : X) → i < length xs → get_or xs i d ≡ get_or xs i e
any-default xs i d e less = some-same (get_or xs i d) (get_or xs i e) (sym (slice_get-get_or xs i d less) ∙ slice_get-get_or xs i e less)
  where
    some-same : {Y : Type 0} (a b : Y) → ◌≡◌ {A = Option Y} (Some a) (Some b) → a ≡ b
    some-same a b same = cc

-- block j is the one that was put there, and the others stay
pub at-set : (blocks : List Part) (j : ℕ) (b : Part) → j < length blocks → block_at (set blocks j b) j ≡ b
at-set blocks j b less = get_or-set_same blocks j b no_part less

pub at-other : (blocks : List Part) (i j : ℕ) (b : Part) → (i ≡ j → ⊥) → block_at (set blocks j b) i ≡ block_at blocks i
at-other blocks i j b apart = get_or-set_other blocks j i b no_part apart

-- a block of the same size in the place of another
pub sized-set : (p : Plan) (blocks : List Part) (j : ℕ) (b : Part) → AreSized p blocks → j < p.ranks → SameSize (block_at blocks j) b → IsPart b → AreSized p (set blocks j b)
sized-set p blocks j b s less same fine =
    let count = s.count in
    let old = s.each j less in
    let is : IsSized p j b = record { rows = same.rows ∙ old.rows; cols = same.cols ∙ old.cols; reach = same.reach ∙ old.reach; limits = fine } in
    record {
      count = length-set blocks j b ∙ count;
      each = λ i l. elim (cases_eq i j) [
        | inl here ↦ subst (λ n. IsSized p n (block_at (set blocks j b) n)) (sym here) (subst (IsSized p j) (sym (at-set blocks j b (omega arith))) is)
        | inr apart ↦ subst (IsSized p i) (sym (at-other blocks i j b apart)) (s.each i l)
      ];
    }

-- a row of the new block that has the reading has it in the list
pub reads-set : (p : Plan) (g : Plane) (rule : Rule) (blocks : List Part) (j y : ℕ) (b : Part) → j < length blocks → HoldsMiddle g rule (first_row p j) y b
    → Reads p g rule (set blocks j b) j y
reads-set p g rule blocks j y b less holds = subst (HoldsMiddle g rule (first_row p j) y) (sym (at-set blocks j b less)) holds

-- where it keeps what it reads, so do all
pub keeps-set : (p : Plan) (g : Plane) (rule : Rule) (blocks : List Part) (j : ℕ) (b : Part) → j < length blocks
    → ((y : ℕ) → HoldsMiddle g rule (first_row p j) y (block_at blocks j) → HoldsMiddle g rule (first_row p j) y b) → Keeps p g rule blocks (set blocks j b)
keeps-set p g rule blocks j b less keep i y reads =
    elim (cases_eq i j) [
      | inl here ↦ subst (λ n. Reads p g rule (set blocks j b) n y) (sym here) (reads-set p g rule blocks j y b less (keep y (subst (λ n. Reads p g rule blocks n y) here reads)))
      | inr apart ↦ subst (HoldsMiddle g rule (first_row p i) y) (sym (at-other blocks i j b apart)) reads
    ]

-- n rows were given what the grid reads, and the others stay
pub rows-hold : (g : Plane) (rule : Rule) (top first n : ℕ) (old new : Part) → SameSize old new → ((y : ℕ) → (y < first) ⊎ (first + n ≤ y) → SameRow y old new)
    → ((k : ℕ) → k < n → HoldsMiddle g rule top (first + k) new) → (y : ℕ) → HoldsMiddle g rule top y old → HoldsMiddle g rule top y new
rows-hold g rule top first n old new size rest done y holds =
    below-or y first
    (λ l. middle-same g rule top y old new size (rest y (inl l)) holds)
    (λ h. below-or y (first + n)
    (λ l. let place : first + (y - first) ≡ y = omega arith in subst (λ m. HoldsMiddle g rule top m new) place (done (y - first) (omega arith)))
    (λ m. middle-same g rule top y old new size (rest y (inr m)) holds))

-- ---- the edges

-- the first rank's rows begin with the grid's, and the last rank's end with them
pub first-zero : (p : Plan) → 0 < p.ranks → first_row p 0 ≡ 0
first-zero p some = let less = div_below (0 * p.rows) p.ranks 1 some (omega arith) in omega arith

pub first-last : (p : Plan) → 0 < p.ranks → first_row p p.ranks ≡ p.rows
first-last p some = let e : p.ranks * p.rows ≡ p.rows * p.ranks + 0 = omega arith in ap (λ n. n / p.ranks) e ∙ div-mul-add p.rows p.ranks 0 some

-- where rows go round, what lies before the grid's rows are its last ones, and behind them its first ones
wrap-before : (n h k : ℕ) → k < h → h ≤ n → place Wrap n (pos k -ℤ pos h) ≡ place Wrap n (pos (n + k) -ℤ pos h)
wrap-before n h k less few =
    let a : (pos k -ℤ pos h) ≡ negsuc (h - k - 1) = omega (arith, ints) in
    let b : (pos (n + k) -ℤ pos h) ≡ pos (n + k - h) = omega (arith, ints) in
    let c : (h - k - 1) % n ≡ h - k - 1 = mod-small (h - k - 1) n (omega arith) in
    let d : (n + k - h) % n ≡ n + k - h = mod-small (n + k - h) n (omega arith) in
    let e : n - 1 - (h - k - 1) % n ≡ (n + k - h) % n = omega (arith, c, d) in
    ap (place Wrap n) a ∙ ap (λ (m : ℕ). Some m) e ∙ ap (place Wrap n) (sym b)
  where
    mod-small : (m n : ℕ) → m < n → m % n ≡ m
    mod-small m n less = mod-eq_of_lt less

-- and behind them its first ones
wrap-behind : (n k : ℕ) → k < n → place Wrap n (pos (n + k)) ≡ place Wrap n (pos k)
wrap-behind n k less =
    let e : n + k ≡ 1 * n + k = omega arith in
    let a = ap (λ m. m % n) e ∙ mod-mul-add 1 n k less in
    let b : k % n ≡ k = mod-eq_of_lt less in
    ap (λ (m : ℕ). Some m) (a ∙ sym b)

-- the two rows of an edge that stand in one place of the grid
abbrev pub land : Plan → Edge → ℕ → ℤ
land p x k = pos (first_row p x.to + (landing p x + k)) -ℤ pos p.reach

-- where it left
abbrev pub leave : Plan → Edge → ℕ → ℤ
leave p x k = pos (first_row p x.from + (p.reach + (leaving p x + k))) -ℤ pos p.reach

-- an edge's rows are own rows of its sender, and land where the grid reads the same
pub record Brings (p : Plan) (x : Edge) : Type 0 where
  pub from : x.from < p.ranks
  pub to : x.to < p.ranks
  pub apart : landing p x + p.reach ≤ rows_of p x.to + 2 * p.reach
  pub sent : leaving p x + p.reach ≤ rows_of p x.from
  pub same : (g : Plane) (rule : Rule) (k : ℕ) → Suit p g rule → k < p.reach → place rule.around g.rows (land p x k) ≡ place rule.around g.rows (leave p x k)

-- the place of a row, by the plan's numbers
by-plan : (p : Plan) (g : Plane) (rule : Rule) (a : Around) (z : ℤ) → Suit p g rule → p.around ≡ a → place rule.around g.rows z ≡ place a p.rows z
by-plan p g rule a z s is = ap (λ r. place r g.rows z) (s.around ∙ is) ∙ ap (λ n. place a n z) s.rows

-- an edge to the next rank: the last rows of rank i lie right before those of rank i + 1
down-next : (p : Plan) (i : ℕ) → IsPlan p → i + 1 < p.ranks → Brings p (down p i (i + 1))
down-next p i v less =
    let here = block-enough p i v (omega arith) in
    record {
      from = omega arith;
      to = less;
      apart = omega arith;
      sent = omega arith;
      same = λ g rule k s l. ap (λ n. place rule.around g.rows (pos n -ℤ pos p.reach))
          (straight (first_row p i) (first_row p (i + 1)) p.reach k here);
    }
  where
    straight : (a b h k : ℕ) → a + h ≤ b → b + (0 + k) ≡ a + (h + (b - a - h + k))
    straight a b h k fits = omega arith

-- and the first rows of rank i + 1 lie right behind those of rank i
up-next : (p : Plan) (i : ℕ) → IsPlan p → i + 1 < p.ranks → Brings p (up p i (i + 1))
up-next p i v less =
    let here = block-enough p i v (omega arith) in
    let there = block-enough p (i + 1) v (omega arith) in
    record {
      from = less;
      to = omega arith;
      apart = omega arith;
      sent = omega arith;
      same = λ g rule k s l. ap (λ n. place rule.around g.rows (pos n -ℤ pos p.reach))
          (straight (first_row p i) (first_row p (i + 1)) p.reach k here);
    }
  where
    straight : (a b h k : ℕ) → a + h ≤ b → a + (h + (b - a) + k) ≡ b + (h + (0 + k))
    straight a b h k fits = omega arith

-- round the edge: the last rank's rows before the first rank's
down-round : (p : Plan) (i : ℕ) → IsPlan p → i + 1 ≡ p.ranks → 2 ≤ p.ranks → p.around ≡ Wrap → Brings p (down p i 0)
down-round p i v last two wrap =
    let here = block-enough p i v two in
    let some : 0 < p.ranks = omega arith in
    let zero = first-zero p some in
    let end : first_row p (i + 1) ≡ p.rows = ap (first_row p) last ∙ first-last p some in
    record {
      from = omega arith;
      to = omega arith;
      apart = omega arith;
      sent = omega arith;
      same = λ g rule k s l.
          let a : first_row p 0 + (0 + k) ≡ k = omega arith in
          let b = straight (first_row p i) (first_row p (i + 1)) p.rows p.reach k here end in
          by-plan p g rule Wrap (pos (first_row p 0 + (0 + k)) -ℤ pos p.reach) s wrap
          ∙ ap (λ n. place Wrap p.rows (pos n -ℤ pos p.reach)) a
          ∙ wrap-before p.rows p.reach k l (omega arith)
          ∙ ap (λ n. place Wrap p.rows (pos n -ℤ pos p.reach)) b
          ∙ sym (by-plan p g rule Wrap (leave p (down p i 0) k) s wrap);
    }
  where
    straight : (a b n h k : ℕ) → a + h ≤ b → b ≡ n → n + k ≡ a + (h + (b - a - h + k))
    straight a b n h k fits is = omega arith

-- and the first rank's rows behind the last rank's
up-round : (p : Plan) (i : ℕ) → IsPlan p → i + 1 ≡ p.ranks → 2 ≤ p.ranks → p.around ≡ Wrap → Brings p (up p i 0)
up-round p i v last two wrap =
    let here = block-enough p i v two in
    let there = block-enough p 0 v two in
    let some : 0 < p.ranks = omega arith in
    let zero = first-zero p some in
    let end : first_row p (i + 1) ≡ p.rows = ap (first_row p) last ∙ first-last p some in
    record {
      from = omega arith;
      to = omega arith;
      apart = omega arith;
      sent = omega arith;
      same = λ g rule k s l.
          let a : land p (up p i 0) k ≡ pos (p.rows + k) = behind-is (first_row p i) (first_row p (i + 1)) p.rows p.reach k here end in
          let b : leave p (up p i 0) k ≡ pos k = first-is (first_row p 0) p.reach k zero in
          by-plan p g rule Wrap (land p (up p i 0) k) s wrap
          ∙ ap (place Wrap p.rows) a
          ∙ wrap-behind p.rows k (omega arith)
          ∙ ap (place Wrap p.rows) (sym b)
          ∙ sym (by-plan p g rule Wrap (leave p (up p i 0) k) s wrap);
    }
  where
    behind-is : (a b n h k : ℕ) → a + h ≤ b → b ≡ n → (pos (a + (h + (b - a) + k)) -ℤ pos h) ≡ pos (n + k)
    behind-is a b n h k fits is = let e : a + (h + (b - a) + k) ≡ h + (n + k) = omega arith in ap (λ m. pos m -ℤ pos h) e ∙ omega (arith, ints)

    first-is : (a h k : ℕ) → a ≡ 0 → (pos (a + (h + (0 + k))) -ℤ pos h) ≡ pos k
    first-is a h k none = let e : a + (h + (0 + k)) ≡ h + k = omega arith in ap (λ m. pos m -ℤ pos h) e ∙ omega (arith, ints)

-- rows go round where the plan says so
wrap-is : (a : Around) → is_wrap a ≡ true → a ≡ Wrap
wrap-is Fixed e = absurd cc
wrap-is Wrap e = refl

-- rows go round where the last rank has an edge to a rank behind it
round-wrap : (p : Plan) → goes_round p ≡ true → p.around ≡ Wrap
round-wrap p round = wrap-is p.around (and_parts (nat_le 2 p.ranks) (is_wrap p.around) round).1

-- an edge between the last rank and the rank behind it is there only where rows go round
last-round : (p : Plan) (e i : ℕ) → e < length (edges p) → 2 * i ≤ e → i + 1 ≡ p.ranks → goes_round p ≡ true
last-round p e i less above last =
    let many = edges-many p in
    elim (cases_Bool (goes_round p)) [
      | inl round ↦ round
      | inr plain ↦ let n : length (edges p) ≡ 2 * (p.ranks - 1 + 0) = many ∙ rw plain refl in absurd (omega arith)
    ]

-- the rank behind rank i: the next one, and behind the last one rank 0
pub behind-next : (p : Plan) (i : ℕ) → (i + 1 ≡ p.ranks → ⊥) → behind p i ≡ i + 1
behind-next p i apart = let t : (i + 1 == p.ranks) ≡ false = grind (arith, nat_tests) in rw t refl

pub behind-last : (p : Plan) (i : ℕ) → i + 1 ≡ p.ranks → behind p i ≡ 0
behind-last p i same = let t : (i + 1 == p.ranks) ≡ true = grind (arith, nat_tests) in rw t refl

-- the edge to the rank behind, be it the next one or the first
down-brings : (p : Plan) (e i : ℕ) → IsPlan p → e < length (edges p) → 2 * i ≤ e → i < p.ranks → Brings p (down p i (behind p i))
down-brings p e i v less above inside =
    elim (cases_eq (i + 1) p.ranks) [
      | inl same ↦ subst (λ j. Brings p (down p i j)) (sym (behind-last p i same)) (down-round p i v same (edge-two p e less) (round-wrap p (last-round p e i less above same)))
      | inr apart ↦ subst (λ j. Brings p (down p i j)) (sym (behind-next p i apart)) (down-next p i v (omega arith))
    ]

-- and the edge back
up-brings : (p : Plan) (e i : ℕ) → IsPlan p → e < length (edges p) → 2 * i ≤ e → i < p.ranks → Brings p (up p i (behind p i))
up-brings p e i v less above inside =
    elim (cases_eq (i + 1) p.ranks) [
      | inl same ↦ subst (λ j. Brings p (up p i j)) (sym (behind-last p i same)) (up-round p i v same (edge-two p e less) (round-wrap p (last-round p e i less above same)))
      | inr apart ↦ subst (λ j. Brings p (up p i j)) (sym (behind-next p i apart)) (up-next p i v (omega arith))
    ]

-- an edge that is there is one edge
pub edge-same : (x y : Edge) → ◌≡◌ {A = Option Edge} (Some x) (Some y) → x ≡ y
edge-same x y e = cc

-- each edge of a plan does
pub edge-brings : (p : Plan) (e : ℕ) (x : Edge) → IsPlan p → e < length (edges p) → slice_get (edges p) e ≡ Some x → Brings p x
edge-brings p e x v less is =
    let i = e / 2 in
    let few = few-edges p v in
    elim (cases_eq (e % 2) 0) [
      | inl even ↦ subst (Brings p) (edge-same (down p i (behind p i)) x (sym (edge-even p e i less (omega arith)) ∙ is)) (down-brings p e i v less (omega arith) (omega arith))
      | inr odd ↦ subst (Brings p) (edge-same (up p i (behind p i)) x (sym (edge-odd p e i less (omega arith)) ∙ is)) (up-brings p e i v less (omega arith) (omega arith))
    ]

-- ---- the rows of an edge

-- what passing the rows of an edge makes of the receiver's block
pub record EdgePassed (p : Plan) (x : Edge) (old : List Part) (b : Part) : Type 0 where
  pub moved : (k col : ℕ) → k < p.reach → col < p.cols
      → at b (landing p x + k) (p.reach + col) ≡ at (block_at old x.from) (p.reach + (leaving p x + k)) (p.reach + col)
  pub rest : (y : ℕ) → (y < landing p x) ⊎ (landing p x + p.reach ≤ y) → SameRow y (block_at old x.to) b
  pub size : SameSize (block_at old x.to) b
  pub limits : IsPart b

-- they have the grid's reading
pub passed-reads : (p : Plan) (g : Plane) (rule : Rule) (x : Edge) (old : List Part) (b : Part) → AreSized p old → Brings p x → EdgePassed p x old b → Suit p g rule → OwnRead p g rule old
    → (k : ℕ) → k < p.reach → HoldsMiddle g rule (first_row p x.to) (landing p x + k) b
passed-reads p g rule x old b s brings passed suit own k less col lt =
    let from = s.each x.from brings.from in
    let to = s.each x.to brings.to in
    let size = passed.size in
    let far : b.reach ≡ p.reach = size.reach ∙ to.reach in
    let wide : b.cols ≡ p.cols = size.cols ∙ to.cols in
    let sent = brings.sent in
    let row = leaving p x + k in
    let sender = block_at old x.from in
    let cols' = from.cols in
    ap (λ h. at b (landing p x + k) (h + col)) far
    ∙ passed.moved k col less (omega arith)
    ∙ ap (λ h. at sender (p.reach + row) (h + col)) (sym from.reach)
    ∙ own x.from row brings.from (omega arith) col (omega arith)
    ∙ ap (λ h. read g rule (pos (first_row p x.from + (p.reach + row)) -ℤ pos h) (pos col)) from.reach
    ∙ read-place g rule (leave p x k) (land p x k) (pos col) (sym (brings.same g rule k suit less))
    ∙ ap (λ h. read g rule (pos (first_row p x.to + (landing p x + k)) -ℤ pos h) (pos col)) (sym far)

-- what had the reading keeps it, since own rows and other halo rows stay
pub passed-keeps : (p : Plan) (g : Plane) (rule : Rule) (x : Edge) (old : List Part) (b : Part) → AreSized p old → Brings p x → EdgePassed p x old b → Suit p g rule → OwnRead p g rule old
    → Keeps p g rule old (set old x.to b)
passed-keeps p g rule x old b s brings passed suit own =
    let count = s.count in let to = brings.to in
    keeps-set p g rule old x.to b (omega arith)
    (rows-hold g rule (first_row p x.to) (landing p x) p.reach (block_at old x.to) b passed.size passed.rest
    (passed-reads p g rule x old b s brings passed suit own))

-- so the edge's rows are in the receiver's halo
pub passed-brought : (p : Plan) (g : Plane) (rule : Rule) (x : Edge) (old : List Part) (b : Part) → AreSized p old → Brings p x → EdgePassed p x old b → Suit p g rule → OwnRead p g rule old
    → IsBrought p g rule (set old x.to b) x
passed-brought p g rule x old b s brings passed suit own k less =
    let count = s.count in let to = brings.to in
    reads-set p g rule old x.to (landing p x + k) b (omega arith) (passed-reads p g rule x old b s brings passed suit own k less)

-- what is kept

-- own rows keep the reading, and so do the rows that edges brought
pub own-kept : (p : Plan) (g : Plane) (rule : Rule) (old new : List Part) → Keeps p g rule old new → OwnRead p g rule old → OwnRead p g rule new
own-kept p g rule old new keeps own i row l m = keeps i (p.reach + row) (own i row l m)

pub brought-kept : (p : Plan) (g : Plane) (rule : Rule) (old new : List Part) (n : ℕ) → Keeps p g rule old new → AreBrought p g rule old n → AreBrought p g rule new n
brought-kept p g rule old new n keeps brought e x l is k m = keeps x.to (landing p x + k) (brought e x l is k m)

-- ---- as the code reads them

-- the row from which on rows leave, and the row from which on they are put
pub leaving-is : (p : Plan) (x : Edge) (first rows reach : ℕ) → first ≡ (if x.tag == DOWN then rows - reach else 0) → rows ≡ rows_of p x.from → reach ≡ p.reach → first ≡ leaving p x
leaving-is p x first rows reach is many far = is ∙ (λ i. if x.tag == DOWN then many i - far i else 0)

pub landing-is : (p : Plan) (x : Edge) (first rows reach : ℕ) → first ≡ (if x.tag == DOWN then 0 else reach + rows) → rows ≡ rows_of p x.to → reach ≡ p.reach → first ≡ landing p x
landing-is p x first rows reach is many far = is ∙ (λ i. if x.tag == DOWN then 0 else far i + many i)

-- the receiver's block, as the code made it: rows were copied out of one block, and put into another
pub passed-from : (p : Plan) (x : Edge) (old : List Part) (sender receiver b : Part) (first place reach : ℕ) (carried : List ℤ) → AreSized p old → Brings p x
    → sender ≡ block_at old x.from → receiver ≡ block_at old x.to → reach ≡ p.reach → first ≡ leaving p x → place ≡ landing p x
    → ((k col : ℕ) → k < reach → col < sender.cols → get_or carried (k * sender.cols + col) (pos 0) ≡ at sender (sender.reach + (first + k)) (sender.reach + col))
    → ((k col : ℕ) → k < reach → col < receiver.cols → at b (place + k) (receiver.reach + col) ≡ get_or carried (k * receiver.cols + col) (pos 0))
    → ((y : ℕ) → (y < place) ⊎ (place + reach ≤ y) → SameRow y receiver b) → SameSize receiver b → IsPart b
    → EdgePassed p x old b
passed-from p x old sender receiver b first place reach carried s brings here there far from to copied put rest size fine =
    let one = s.each x.from brings.from in
    let two = s.each x.to brings.to in
    let wide : sender.cols ≡ p.cols = ap (λ (q : Part). q.cols) here ∙ one.cols in
    let wide' : receiver.cols ≡ p.cols = ap (λ (q : Part). q.cols) there ∙ two.cols in
    let high : sender.reach ≡ p.reach = ap (λ (q : Part). q.reach) here ∙ one.reach in
    let high' : receiver.reach ≡ p.reach = ap (λ (q : Part). q.reach) there ∙ two.reach in
    record {
      moved = λ k col less lt.
          (λ i. at b (sym to i + k) (sym high' i + col))
          ∙ put k col (omega arith) (omega arith)
          ∙ (λ i. get_or carried (k * (wide' ∙ sym wide) i + col) (pos 0))
          ∙ copied k col (omega arith) (omega arith)
          ∙ (λ i. at (here i) (high i + (from i + k)) (high i + col));
      rest = λ y out. subst (λ (q : Part). SameRow y q b) there
          (rest y (elim out [ inl low ↦ inl (omega arith) | inr above ↦ inr (omega arith) ]));
      size = subst (λ (q : Part). SameSize q b) there size;
      limits = fine;
    }

-- ---- the pairs of the edges

-- one more pair has passed its rows
pub paired-next : (p : Plan) (k n round : ℕ) (pairs : List Kept) (pair : Kept) → ArePaired p k n pairs → n < length (edges p) → k + 1 ≡ round → IsResting (shape_of p) round pair
    → ArePaired p k (n + 1) (set pairs n pair)
paired-next p k n round pairs pair s less next rests =
    let count = s.count in
    record {
      count = length-set pairs n pair ∙ count;
      passed = λ e l m. elim (cases_eq e n) [
        | inl here ↦ subst (λ (q : Kept). IsResting (shape_of p) (k + 1) q)
            (sym (ap (λ j. pair_at (set pairs n pair) j) here ∙ get_or-set_same pairs n pair no_pair (omega arith)))
            (subst (λ r. IsResting (shape_of p) r pair) (sym next) rests)
        | inr apart ↦ subst (λ (q : Kept). IsResting (shape_of p) (k + 1) q) (sym (get_or-set_other pairs n e pair no_pair apart)) (s.passed e (omega arith) m)
      ];
      rest = λ e l m. subst (λ (q : Kept). IsResting (shape_of p) k q) (sym (get_or-set_other pairs n e pair no_pair (λ same. omega arith))) (s.rest e (omega arith) m);
    }

-- all have
pub paired-all : (p : Plan) (k n round : ℕ) (pairs : List Kept) → ArePaired p k n pairs → length (edges p) ≤ n → k + 1 ≡ round → ArePaired p round 0 pairs
paired-all p k n round pairs s all next = record {
  count = s.count;
  passed = λ e l m. absurd (omega arith);
  rest = λ e l m. subst (λ r. IsResting (shape_of p) r (pair_at pairs e)) next (s.passed e (omega arith) m);
}
