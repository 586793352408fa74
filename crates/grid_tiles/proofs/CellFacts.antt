-- Cells of a block: what copying a rectangle out, putting one in, and setting a column or a row does, by places.
use Rattle.std.proofs.Common.{◌≡◌, ◌∙◌, refl, sym, ap, ℕ, ◌+◌, ◌*◌, ◌<◌, ◌≤◌, ℤ, pos, List, [], ◌∷◌, ◌++◌, length, take, drop, get_or, Option, Some, None, arith}
use Rattle.std.specs.List.{All}
use Rattle.std.proofs.lemmas.List.{get_or-take, get_or-drop}
use Rattle.std.proofs.lemmas.Nat.{mul-le}
use Rattle.stencil_def.specs.Limits.{IsValue}
use Rattle.stencil_def.specs.declared.rule.Rule.{Rule}
use Rattle.cell_lanes.specs.Block.{Part, IsPart, at, cells_at, height, width, with_cells}
use Rattle.cell_lanes.proofs.BlockFacts.{put-before, put-inside}
use Rattle.cell_lanes.proofs.PlaceFacts.{cells-at, row-room, with-inside, with-other}
use Rattle.cell_lanes.proofs.WindowFacts.{below-or}
use Rattle.grid_tiles.specs.Blocks.{IsColumnSet, IsPut, IsRowSet}

-- ---- a rectangle copied out

-- its first n rows were copied
pub record CellsCopied (b : Part) (y x cols n : ℕ) (out : List ℤ) : Type 0 where
  pub cells : (k j : ℕ) → k < n → j < cols → get_or out (k * cols + j) (pos 0) ≡ at b (y + k) (x + j)
  pub values : All IsValue out

-- one more row
pub copy-next : (b : Part) (y x cols k start n : ℕ) (out new : List ℤ) → CellsCopied b y x cols k out → start ≡ k * cols → n ≡ cols → start + n ≤ length out
    → new ≡ cells_at b (y + k) x cols → length new ≡ n → All IsValue (take start out ++ (new ++ drop n (drop start out)))
    → CellsCopied b y x cols (k + 1) (take start out ++ (new ++ drop n (drop start out)))
copy-next b y x cols k start n out new s place wide room is long fine = record {
  cells = λ r j less lt. below-or r k
      (λ l. let m = mul-le (r + 1) cols k cols (omega arith) (omega arith) in
      put-before start n out new (r * cols + j) room (omega (arith, m)) ∙ s.cells r j l lt)
      (λ h. let same : k ≡ r = omega arith in
      let there : start + j ≡ r * cols + j = ap (λ m. m + j) place ∙ ap (λ m. m * cols + j) same in
      ap (λ m. get_or (take start out ++ (new ++ drop n (drop start out))) m (pos 0)) (sym there)
      ∙ put-inside start n out new j room long (omega arith)
      ∙ ap (λ xs. get_or xs j (pos 0)) is ∙ cells-at b (y + k) x cols j lt
      ∙ ap (λ m. at b (y + m) (x + j)) same);
  values = fine;
}

-- ---- a rectangle put in

-- before the first row
pub put-none : (b : Part) (y x cols : ℕ) (values : List ℤ) → IsPart b → IsPut y x 0 cols values b b
put-none b y x cols values s = record {
  cells = λ k j less lt. absurd (omega arith);
  rest = λ r i less apart. refl;
  size = record { rows = refl; cols = refl; reach = refl };
  limits = s;
}

-- one more row
pub put-next : (y x k cols start n : ℕ) (values cells : List ℤ) (old b new : Part) → IsPut y x k cols values old b → start ≡ k * cols → n ≡ cols → cells ≡ take n (drop start values)
    → length cells ≡ n → y + k < height old → x + cols ≤ width old → new ≡ with_cells (y + k) x cells b → IsPart new
    → IsPut y x (k + 1) cols values old new
put-next y x k cols start n values cells old b new s place wide is long low fits same fine =
    let r' = s.size.rows in let c' = s.size.cols in let h' = s.size.reach in
    let room = row-room b (y + k) x s.limits (omega arith) (omega arith) in
    let inside : x + length cells ≤ width b = omega arith in
    let other : (r i : ℕ) → i < width old → (y + k ≡ r → x ≤ i → i < x + cols → ⊥) → at new r i ≡ at b r i = λ r i less apart.
    ap (λ (p : Part). at p r i) same ∙ with-other b (y + k) x r i cells room inside (omega arith) (λ e low high. apart e low (omega arith)) in
    record {
      cells = λ r j less lt. below-or r k
          (λ l. other (y + r) (x + j) (omega arith) (λ e low high. omega arith) ∙ s.cells r j l lt)
          (λ h. let here : k ≡ r = omega arith in
          let there : start + j ≡ r * cols + j = ap (λ m. m + j) place ∙ ap (λ m. m * cols + j) here in
          ap (λ m. at new (y + m) (x + j)) (sym here)
          ∙ ap (λ (p : Part). at p (y + k) (x + j)) same
          ∙ with-inside b (y + k) x j cells room (omega arith)
          ∙ ap (λ xs. get_or xs j (pos 0)) is
          ∙ get_or-take n (drop start values) j (pos 0) (omega arith) ∙ get_or-drop start values j (pos 0)
          ∙ ap (λ m. get_or values m (pos 0)) there);
      rest = λ r i less apart.
          other r i less (λ e low high. apart (omega arith) (omega arith) low high)
          ∙ s.rest r i less (λ a d low high. apart a (omega arith) low high);
      size = record {
        rows = ap (λ (p : Part). p.rows) same ∙ r';
        cols = ap (λ (p : Part). p.cols) same ∙ c';
        reach = ap (λ (p : Part). p.reach) same ∙ h';
      };
      limits = fine;
    }

-- ---- a column

-- before the first own row
pub column-none : (rule : Rule) (source : Option ℕ) (x : ℕ) (b : Part) → IsPart b → IsColumnSet rule source x 0 b b
column-none rule source x b s = record {
  edge = λ e row less. absurd (omega arith);
  own = λ col e row less. absurd (omega arith);
  rest = λ r i less apart. refl;
  size = record { rows = refl; cols = refl; reach = refl };
  limits = s;
}

-- one more own row
pub column-next : (rule : Rule) (source : Option ℕ) (x n reach : ℕ) (value : ℤ) (old b new : Part) → IsColumnSet rule source x n old b → x < width old → n < old.rows
    → (source ≡ None → value ≡ rule.edge) → ((col : ℕ) → source ≡ Some col → value ≡ at b (b.reach + n) (b.reach + col))
    → ((col : ℕ) → source ≡ Some col → col < old.cols) → reach ≡ old.reach → new ≡ with_cells (reach + n) x (value ∷ []) b → IsPart new
    → IsColumnSet rule source x (n + 1) old new
column-next rule source x n reach value old b new s fits low none some inside far same fine =
    let r' = s.size.rows in let c' = s.size.cols in let h' = s.size.reach in
    let room = row-room b (reach + n) x s.limits (omega arith) (omega arith) in
    let other : (r i : ℕ) → i < width old → (reach + n ≡ r → x ≡ i → ⊥) → at new r i ≡ at b r i = λ r i less apart.
    ap (λ (p : Part). at p r i) same ∙ with-other b (reach + n) x r i (value ∷ []) room (omega arith) (omega arith) (λ e a d. apart e (omega arith)) in
    let here : (row : ℕ) → n ≡ row → at new (old.reach + row) x ≡ value = λ row e.
    let y : old.reach + row ≡ reach + n = omega arith in let z : x ≡ x + 0 = omega arith in
    (λ i. at (same i) (y i) (z i)) ∙ with-inside b (reach + n) x 0 (value ∷ []) room (omega arith) in
    record {
      edge = λ e row less. below-or row n
          (λ l. other (old.reach + row) x (omega arith) (λ a d. omega arith) ∙ s.edge e row l)
          (λ h. here row (omega arith) ∙ none e);
      own = λ col e row less.
          let in' = inside col e in
          below-or row n
          (λ l. other (old.reach + row) x (omega arith) (λ a d. omega arith) ∙ s.own col e row l)
          (λ h. let is : n ≡ row = omega arith in
          here row is ∙ some col e ∙ (λ i. at b (h' i + is i) (h' i + col))
          ∙ s.rest (old.reach + row) (old.reach + col) (omega arith) (λ a d f. omega arith));
      rest = λ r i less apart.
          other r i less (λ a d. apart (sym d) (omega arith) (omega arith))
          ∙ s.rest r i less (λ a d f. apart a d (omega arith));
      size = record {
        rows = ap (λ (p : Part). p.rows) same ∙ r';
        cols = ap (λ (p : Part). p.cols) same ∙ c';
        reach = ap (λ (p : Part). p.reach) same ∙ h';
      };
      limits = fine;
    }

-- ---- a row

-- a row that was made beside the block, and put
pub row-set : (rule : Rule) (source : Option ℕ) (y : ℕ) (out : List ℤ) (b new : Part) → IsPart b → y < height b → length out ≡ width b
    → (source ≡ None → (x : ℕ) → x < width b → get_or out x (pos 0) ≡ rule.edge)
    → ((row : ℕ) → source ≡ Some row → (x : ℕ) → x < width b → get_or out x (pos 0) ≡ at b (b.reach + row) x)
    → new ≡ with_cells y 0 out b → IsPart new → IsRowSet rule source y b new
row-set rule source y out b new s low long none some same fine =
    let room = row-room b y 0 s low (omega arith) in
    let here : (x : ℕ) → x < width b → at new y x ≡ get_or out x (pos 0) = λ x less.
    let z : x ≡ 0 + x = omega arith in
    (λ i. at (same i) y (z i)) ∙ with-inside b y 0 x out room (omega arith) in
    record {
      edge = λ e x less. here x less ∙ none e x less;
      own = λ row e x less. here x less ∙ some row e x less;
      rest = λ r i less apart. ap (λ (p : Part). at p r i) same ∙ with-other b y 0 r i out room (omega arith) less (λ e a d. apart (sym e));
      size = record { rows = ap (λ (p : Part). p.rows) same; cols = ap (λ (p : Part). p.cols) same; reach = ap (λ (p : Part). p.reach) same };
      limits = fine;
    }
