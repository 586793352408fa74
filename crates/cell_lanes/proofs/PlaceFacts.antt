-- The places of a part: what stands among cells that were put into a row, and what stays at any other place.
use Rattle.std.proofs.Common.{◌≡◌, ◌∙◌, refl, sym, ap, subst, ℕ, ◌+◌, ◌-◌, ◌*◌, ◌<◌, ◌≤◌, ℤ, pos, List, ◌++◌, length, take, drop, length-take-le, get_or, arith}
use Rattle.std.specs.List.{All}
use Rattle.std.proofs.lemmas.List.Elements.{All-drop, All-take}
use Rattle.std.proofs.lemmas.Nat.{mul-le}
use Rattle.std.proofs.lemmas.List.{get_or_append_left, get_or-take, get_or-append_right, get_or-drop}
use Rattle.stencil_def.specs.Limits.{IsValue}
use Rattle.cell_lanes.specs.Block.{Part, IsPart, at, cells_at, height, own_cells, width, with_cells}
use Rattle.cell_lanes.proofs.RowFacts.{part-at}
use Rattle.cell_lanes.proofs.WindowFacts.{below-or}

-- some values of a row by places
pub cells-at : (b : Part) (y x len i : ℕ) → i < len → get_or (cells_at b y x len) i (pos 0) ≡ at b y (x + i)
cells-at b y x len i less =
    let start = y * width b + x in
    let place : start + i ≡ y * width b + (x + i) = omega arith in
    get_or-take len (drop start b.values) i (pos 0) less ∙ get_or-drop start b.values i (pos 0) ∙ ap (λ n. get_or b.values n (pos 0)) place

-- an own row by places
pub own-at : (b : Part) (row col : ℕ) → col < b.cols → get_or (own_cells b row) col (pos 0) ≡ at b (b.reach + row) (b.reach + col)
own-at b row col less = cells-at b (b.reach + row) b.reach b.cols col less

-- a place of a row stands among the values
pub row-room : (b : Part) (y x : ℕ) → IsPart b → y < height b → x ≤ width b → y * width b + x ≤ length b.values
row-room b y x s less fits =
    let m = mul-le (y + 1) (width b) (height b) (width b) (omega arith) (omega arith) in
    let long = s.length in
    omega (arith, m)

-- a place among the cells that were put
pub with-inside : (b : Part) (y x col : ℕ) (cells : List ℤ) → y * width b + x ≤ length b.values → col < length cells
    → at (with_cells y x cells b) y (x + col) ≡ get_or cells col (pos 0)
with-inside b y x col cells room less =
    let start = y * width b + x in
    let place : y * width b + (x + col) ≡ start + col = omega arith in
    ap (λ n. get_or (take start b.values ++ (cells ++ drop (start + length cells) b.values)) n (pos 0)) place
    ∙ part-at b.values cells (drop (start + length cells) b.values) start col room less

with-before : (start i : ℕ) (xs new rest : List ℤ) → start ≤ length xs → i < start → get_or (take start xs ++ (new ++ rest)) i (pos 0) ≡ get_or xs i (pos 0)
with-before start i xs new rest room less =
    let size = length-take-le start xs room in
    get_or_append_left (take start xs) (new ++ rest) (pos 0) i (omega arith) ∙ get_or-take start xs i (pos 0) less

with-behind : (start k i : ℕ) (xs new : List ℤ) → start ≤ length xs → length new ≡ k → start + k ≤ i → get_or (take start xs ++ (new ++ drop (start + k) xs)) i (pos 0) ≡ get_or xs i (pos 0)
with-behind start k i xs new room long more =
    let size = length-take-le start xs room in
    let place : start + k + (i - start - k) ≡ i = omega arith in
    get_or-append_right (take start xs) (new ++ drop (start + k) xs) start i (pos 0) size (omega arith)
    ∙ get_or-append_right new (drop (start + k) xs) k (i - start) (pos 0) long (omega arith)
    ∙ get_or-drop (start + k) xs (i - start - k) (pos 0)
    ∙ ap (λ n. get_or xs n (pos 0)) place

-- cells that were put within a row leave any place that isn't theirs
pub with-other : (b : Part) (y x r i : ℕ) (cells : List ℤ) → y * width b + x ≤ length b.values → x + length cells ≤ width b → i < width b
    → (y ≡ r → x ≤ i → i < x + length cells → ⊥) → at (with_cells y x cells b) r i ≡ at b r i
with-other b y x r i cells room fits less apart =
    let w = width b in let n = length cells in
    below-or r y
    (λ l. let m = mul-le (r + 1) w y w (omega arith) (omega arith) in with-before (y * w + x) (r * w + i) b.values cells (drop (y * w + x + n) b.values) room (omega (arith, m)))
    (λ h. below-or y r
    (λ l. let m = mul-le (y + 1) w r w (omega arith) (omega arith) in with-behind (y * w + x) n (r * w + i) b.values cells room refl (omega (arith, m)))
    (λ h'. let same : y ≡ r = omega arith in let row : y * w ≡ r * w = ap (λ k. k * w) same in
    below-or i x
    (λ l. with-before (y * w + x) (r * w + i) b.values cells (drop (y * w + x + n) b.values) room (omega arith))
    (λ a. below-or i (x + n)
    (λ l. absurd (apart same a l))
    (λ k. with-behind (y * w + x) n (r * w + i) b.values cells room refl (omega arith)))))

-- some values of a row, as the code cuts them
pub cut-room : (b : Part) (y x len : ℕ) → IsPart b → y < height b → x + len ≤ width b → y * width b + x + len ≤ length b.values
cut-room b y x len s less fits = let h = row-room b y (x + len) s less fits in omega (arith, h)

pub cut-limits : (values xs : List ℤ) (start k : ℕ) → xs ≡ values → All IsValue values → All IsValue (take k (drop start xs))
cut-limits values xs start k same fine = All-take IsValue k (drop start xs) (All-drop IsValue start xs (subst (All IsValue) (sym same) fine))

-- a whole row stands among the values
pub row-fits : (rows cols w y to size : ℕ) → y < to → to ≤ rows → w ≡ cols → size ≡ rows * cols → y * w + w ≤ size
row-fits rows cols w y to size less end wide long =
    let m = mul-le (y + 1) w rows cols (omega arith) (omega arith) in omega (arith, m, long)
