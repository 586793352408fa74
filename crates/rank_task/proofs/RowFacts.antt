-- Rows of a block: what copying them out and putting them in does, by places. A row that is put changes no other row.
use Rattle.std.proofs.Common.{◌≡◌, ◌∙◌, refl, sym, ap, ℕ, ◌+◌, ◌-◌, ◌*◌, ◌<◌, ◌≤◌, ℤ, pos, ◌-ℤ◌, List, ◌++◌, length, take, drop, length-take-le, get_or, arith, inl, inr, w64}
use Rattle.std.specs.Prelude.{◌⊎◌, nat_lt, true, Some, None}
use Rattle.std.specs.List.{All}
use Rattle.std.proofs.lemmas.Bool.{lt-ltb}
use Rattle.std.proofs.lemmas.List.Elements.{All-weaker}
use Rattle.std.proofs.lemmas.Int.{fits_signed_from_abs}
use Rattle.std.proofs.lemmas.Nat.{mul-le}
use Rattle.std.proofs.lemmas.List.{get_or_append_left, get_or-take, get_or-append_right, get_or-drop}
use Rattle.std.proofs.Math.Nat.{mod-eq_of_lt}
use Rattle.stencil_def.specs.Limits.{IsValue}
use Rattle.stencil_def.specs.Plane.{Plane, cell}
use Rattle.stencil_def.specs.declared.rule.Around.{Around}
use Rattle.stencil_def.specs.declared.rule.Around.TheVariants.{Fixed, Wrap}
use Rattle.stencil_def.specs.declared.rule.Rule.{Rule}
use Rattle.stencil_def.specs.Step.{cell_or, place, read}
use Rattle.cell_lanes.specs.Block.{Part, HoldsMiddle, IsPart, SameRow, SameSize, at, height, own_cells, width, with_cells}
use Rattle.cell_lanes.proofs.BlockFacts.{put-before, put-inside}
use Rattle.cell_lanes.proofs.RowFacts.{part-at}
use Rattle.cell_lanes.proofs.WindowFacts.{below-or}
use Rattle.halo_message.specs.Elements.{IsWord}

-- a value of a grid is one of 64 bits
pub all-words : (xs : List ℤ) → All IsValue xs → All IsWord xs
all-words = All-weaker IsValue IsWord (λ x small. fits_signed_from_abs w64 x (omega arith))

-- an own row by places
pub own-at : (b : Part) (row col : ℕ) → col < b.cols → get_or (own_cells b row) col (pos 0) ≡ at b (b.reach + row) (b.reach + col)
own-at b row col less =
    let start = (b.reach + row) * width b + b.reach in
    let place : start + col ≡ (b.reach + row) * width b + (b.reach + col) = omega arith in
    get_or-take b.cols (drop start b.values) col (pos 0) less ∙ get_or-drop start b.values col (pos 0) ∙ ap (λ n. get_or b.values n (pos 0)) place

-- ---- rows copied out

-- the first n rows were copied
pub record RowsCopied (b : Part) (first n : ℕ) (out : List ℤ) : Type 0 where
  pub rows : (k col : ℕ) → k < n → col < b.cols → get_or out (k * b.cols + col) (pos 0) ≡ at b (b.reach + (first + k)) (b.reach + col)
  pub values : All IsValue out

-- one more row was copied
pub copy-next : (b : Part) (first k start n : ℕ) (out new : List ℤ) → RowsCopied b first k out → start ≡ k * b.cols → n ≡ b.cols → start + n ≤ length out
    → new ≡ own_cells b (first + k) → length new ≡ n → All IsValue (take start out ++ (new ++ drop n (drop start out)))
    → RowsCopied b first (k + 1) (take start out ++ (new ++ drop n (drop start out)))
copy-next b first k start n out new s place wide room is long fine = record {
  rows = λ r col less lt. below-or r k
      (λ l. let m = mul-le (r + 1) b.cols k b.cols (omega arith) (omega arith) in
      put-before start n out new (r * b.cols + col) room (omega (arith, m)) ∙ s.rows r col l lt)
      (λ h. let same : k ≡ r = omega arith in
      let there : start + col ≡ r * b.cols + col = ap (λ m. m + col) place ∙ ap (λ m. m * b.cols + col) same in
      ap (λ m. get_or (take start out ++ (new ++ drop n (drop start out))) m (pos 0)) (sym there)
      ∙ put-inside start n out new col room long (omega arith)
      ∙ ap (λ xs. get_or xs col (pos 0)) is ∙ own-at b (first + k) col lt
      ∙ ap (λ m. at b (b.reach + (first + m)) (b.reach + col)) same);
  values = fine;
}

-- ---- rows put in

-- a place among the cells that were put
pub with-inside : (b : Part) (y x col : ℕ) (cells : List ℤ) → y * width b + x ≤ length b.values → col < length cells
    → at (with_cells y x cells b) y (x + col) ≡ get_or cells col (pos 0)
with-inside b y x col cells room less =
    let start = y * width b + x in
    let place : y * width b + (x + col) ≡ start + col = omega arith in
    ap (λ n. get_or (take start b.values ++ (cells ++ drop (start + length cells) b.values)) n (pos 0)) place
    ∙ part-at b.values cells (drop (start + length cells) b.values) start col room less

-- a place before what was put, and a place behind it
with-before : (start i : ℕ) (xs new rest : List ℤ) → start ≤ length xs → i < start → get_or (take start xs ++ (new ++ rest)) i (pos 0) ≡ get_or xs i (pos 0)
with-before start i xs new rest room less =
    let size = length-take-le start xs room in
    get_or_append_left (take start xs) (new ++ rest) (pos 0) i (omega arith) ∙ get_or-take start xs i (pos 0) less

with-behind : (start k i : ℕ) (xs new : List ℤ) → start ≤ length xs → length new ≡ k → start + k ≤ i → get_or (take start xs ++ (new ++ drop (start + k) xs)) i (pos 0) ≡ get_or xs i (pos 0)
with-behind start k i xs new room long more =
    let size = length-take-le start xs room in
    let place : start + k + (i - start - k) ≡ i = omega arith in
    get_or-append_right (take start xs) (new ++ drop (start + k) xs) start i (pos 0) size (omega arith)
    ∙ get_or-append_right new (drop (start + k) xs) k (i - start) (pos 0) long (omega arith)
    ∙ get_or-drop (start + k) xs (i - start - k) (pos 0)
    ∙ ap (λ n. get_or xs n (pos 0)) place

-- cells that were put within a row leave the other rows
pub with-apart : (b : Part) (y x r : ℕ) (cells : List ℤ) → y * width b + x ≤ length b.values → x + length cells ≤ width b → (y ≡ r → ⊥)
    → SameRow r b (with_cells y x cells b)
with-apart b y x r cells room fits apart i less =
    let w = width b in
    below-or r y
    (λ l. let m = mul-le (r + 1) w y w (omega arith) (omega arith) in
    with-before (y * w + x) (r * w + i) b.values cells (drop (y * w + x + length cells) b.values) room (omega (arith, m)))
    (λ h. let m = mul-le (y + 1) w r w (omega arith) (omega arith) in
    with-behind (y * w + x) (length cells) (r * w + i) b.values cells room refl (omega (arith, m)))

-- a place of a row stands among the values
pub row-room : (b : Part) (y x : ℕ) → IsPart b → y < height b → x ≤ width b → y * width b + x ≤ length b.values
row-room b y x s less fits =
    let m = mul-le (y + 1) (width b) (height b) (width b) (omega arith) (omega arith) in
    let long = s.length in
    omega (arith, m)

-- the first n rows were put, from row `first` on
pub record RowsPut (old : Part) (first n : ℕ) (values : List ℤ) (b : Part) : Type 0 where
  pub rows : (k col : ℕ) → k < n → col < old.cols → at b (first + k) (old.reach + col) ≡ get_or values (k * old.cols + col) (pos 0)
  pub rest : (y : ℕ) → (y < first) ⊎ (first + n ≤ y) → SameRow y old b
  pub size : SameSize old b
  pub limits : IsPart b

-- no row was put yet, and one more was
pub put-first : (b : Part) (first : ℕ) (rows : List ℤ) → IsPart b → RowsPut b first 0 rows b
put-first b first rows s = record {
  rows = λ k col less lt. absurd (omega arith);
  rest = λ y out x less. refl;
  size = record { rows = refl; cols = refl; reach = refl };
  limits = s;
}

pub put-next : (old b new : Part) (first k start n reach : ℕ) (rows cells : List ℤ) → RowsPut old first k rows b
    → start ≡ k * old.cols → n ≡ old.cols → reach ≡ old.reach → cells ≡ take n (drop start rows) → length cells ≡ n → first + k < height old
    → new ≡ with_cells (first + k) reach cells b → IsPart new
    → RowsPut old first (k + 1) rows new
put-next old b new first k start n reach rows cells s place wide far is long less same fine =
    let y = first + k in
    let r' = s.size.rows in let c' = s.size.cols in let h' = s.size.reach in
    let w : width b ≡ width old = omega arith in
    let room = row-room b y reach s.limits (omega arith) (omega arith) in
    let fits : reach + length cells ≤ width b = omega arith in
    let here : (r : ℕ) → (y ≡ r → ⊥) → SameRow r old b → SameRow r old new = λ r apart before x lt.
    ap (λ (p : Part). at p r x) same ∙ with-apart b y reach r cells room fits apart x (omega arith) ∙ before x lt in
    record {
      rows = λ r col low lt. below-or r k
          (λ l.
          ap (λ (p : Part). at p (first + r) (old.reach + col)) same
          ∙ with-apart b y reach (first + r) cells room fits (λ e. omega arith) (old.reach + col) (omega arith)
          ∙ s.rows r col l lt)
          (λ h. let here : k ≡ r = omega arith in
          let there : start + col ≡ r * old.cols + col = ap (λ m. m + col) place ∙ ap (λ m. m * old.cols + col) here in
          ap (λ m. at new (first + m) (old.reach + col)) (sym here)
          ∙ ap (λ m. at new y (m + col)) (sym far)
          ∙ ap (λ (p : Part). at p y (reach + col)) same
          ∙ with-inside b y reach col cells room (omega arith)
          ∙ ap (λ xs. get_or xs col (pos 0)) is
          ∙ get_or-take n (drop start rows) col (pos 0) (omega arith) ∙ get_or-drop start rows col (pos 0)
          ∙ ap (λ m. get_or rows m (pos 0)) there);
      rest = λ r out. here r (λ e. elim out [ inl low ↦ omega arith | inr high ↦ omega arith ])
          (s.rest r (elim out [ inl low ↦ inl low | inr high ↦ inr (omega arith) ]));
      size = record {
        rows = ap (λ (p : Part). p.rows) same ∙ r';
        cols = ap (λ (p : Part). p.cols) same ∙ c';
        reach = ap (λ (p : Part). p.reach) same ∙ h';
      };
      limits = fine;
    }

-- ---- the reading of a grid

-- a row of the grid stands at its own place
place-own : (around : Around) (n k : ℕ) → k < n → place around n (pos k) ≡ Some k
place-own Fixed n k less = let t : nat_lt k n ≡ true = lt-ltb k n less in rw t refl
place-own Wrap n k less = ap (λ (m : ℕ). Some m) (mod-eq_of_lt less)

-- inside the grid it's the cell
pub read-inside : (g : Plane) (rule : Rule) (row col : ℕ) → row < g.rows → col < g.cols → read g rule (pos row) (pos col) ≡ cell g row col
unfolding read
read-inside g rule row col l m =
    ap (λ o. cell_or g rule.edge o (place rule.around g.cols (pos col))) (place-own rule.around g.rows row l)
    ∙ ap (cell_or g rule.edge (Some row)) (place-own rule.around g.cols col m)

-- rows that stand in one place read the same
pub read-place : (g : Plane) (rule : Rule) (a b col : ℤ) → place rule.around g.rows a ≡ place rule.around g.rows b → read g rule a col ≡ read g rule b col
unfolding read
read-place g rule a b col same = ap (λ o. cell_or g rule.edge o (place rule.around g.cols col)) same

-- outside the grid it's the edge
pub read-none : (g : Plane) (rule : Rule) (a col : ℤ) → place rule.around g.rows a ≡ None → read g rule a col ≡ rule.edge
unfolding read
read-none g rule a col none = ap (λ o. cell_or g rule.edge o (place rule.around g.cols col)) none

-- and where some row stands there, that row's cell
pub read-some : (g : Plane) (rule : Rule) (a : ℤ) (r col : ℕ) → place rule.around g.rows a ≡ Some r → col < g.cols → read g rule a (pos col) ≡ cell g r col
unfolding read
read-some g rule a r col some m =
    ap (λ o. cell_or g rule.edge o (place rule.around g.cols (pos col))) some
    ∙ ap (cell_or g rule.edge (Some r)) (place-own rule.around g.cols col m)

-- a row that is the same reads the same
pub middle-same : (g : Plane) (rule : Rule) (top y : ℕ) (old new : Part) → SameSize old new → SameRow y old new → HoldsMiddle g rule top y old → HoldsMiddle g rule top y new
middle-same g rule top y old new size same holds col less =
    let c' = size.cols in let h' = size.reach in
    ap (λ h. at new y (h + col)) h' ∙ same (old.reach + col) (omega arith) ∙ holds col (omega arith)
    ∙ ap (λ h. read g rule (pos (top + y) -ℤ pos h) (pos col)) (sym h')
