-- The places of the halo that no edge brings: a column, or a row, that was set has the grid's reading, and all places
-- together have it.
use Rattle.std.proofs.Common.{◌≡◌, ◌∙◌, refl, sym, ap, subst, ℕ, ◌+◌, ◌-◌, ◌*◌, ◌/◌, ◌%◌, ◌<◌, ◌≤◌, pos, ◌-ℤ◌, Option, Some, None, arith, inl, inr}
use Rattle.std.specs.Prelude.{◌==◌, Bool, true, false, nat_lt}
use Rattle.std.proofs.lemmas.Bool.{and_parts, cases_eq, eqb-true, false≢true, leb-true, ltb-true}
use Rattle.std.proofs.lemmas.Int.{ints}
use Rattle.stencil_def.specs.Plane.{Plane}
use Rattle.stencil_def.specs.declared.rule.Around.{Around}
use Rattle.stencil_def.specs.declared.rule.Rule.{Rule}
use Rattle.stencil_def.specs.Step.{place, read}
use Rattle.cell_lanes.specs.Block.{Part, IsPart, SameSize, at}
use Rattle.cell_lanes.proofs.WindowFacts.{below-or}
use Rattle.grid_tiles.specs.Plan.{IsPlan, Plan, tiles}
use Rattle.grid_tiles.specs.Edges.{nexts}
use Rattle.grid_tiles.specs.Blocks.{AreEndsSet, AreSidesSet, ColumnsSet, HasRead, Holding, IsColumnSet, IsRowSet, IsSized, OpenColumnsSet, OpenRowsSet, OwnColumns, OwnHeld, OwnRows, RowsSet, SidesHeld, Suit, down, left, opens_down, opens_left, opens_right, opens_up, right, tall, top, wide}
use Rattle.grid_tiles.proofs.SeamFacts.{open-before, open-behind, place-own, read-no-col, read-no-row, read-same}
use Rattle.grid_tiles.proofs.Planning.{tile-at}

-- a block of the same size
pub sized-same : (p : Plan) (t : ℕ) (old new : Part) → IsSized p t old → SameSize old new → IsPart new → IsSized p t new
sized-same p t old new s same fine = record { rows = same.rows ∙ s.rows; cols = same.cols ∙ s.cols; reach = same.reach ∙ s.reach; limits = fine }

-- the place where an own column of a tile stands that begins with the grid
own-place : (a h c : ℕ) → a ≡ 0 → (pos (a + (h + c)) -ℤ pos h) ≡ pos c
own-place a h c none = let e : a + (h + c) ≡ h + c = omega arith in ap (λ m. pos m -ℤ pos h) e ∙ omega (arith, ints)

-- what stands in the grid at a column, or a row, of a tile, as the code finds it
pub found : (around : Around) (size n first at x reach h : ℕ) → size ≡ n → first ≡ at → reach ≡ h → place around size (pos (first + x) -ℤ pos reach) ≡ place around n (pos (at + x) -ℤ pos h)
found around size n first at x reach h many from far = λ i. place around (many i) (pos (from i + x) -ℤ pos (far i))

-- ---- one column

-- a column that was set has the reading
pub column-held : (p : Plan) (g : Plane) (rule : Rule) (t x n : ℕ) (source : Option ℕ) (old new : Part) → IsSized p t old → Suit p g rule → OwnHeld p g rule t old
    → IsColumnSet rule source x n old new → n ≡ old.rows → source ≡ place rule.around g.cols (right p t x)
    → ((c : ℕ) → source ≡ Some c → (c < wide p t) × (left p t ≡ 0)) → wide p t ≤ p.cols → (row : ℕ) → row < tall p t
    → HasRead p g rule t new (p.shape.reach + row) x
column-held p g rule t x n source old new s suit own set many is inside few row less =
    let high = s.reach in let rows = s.rows in let cols = suit.cols in
    (λ i. at new (sym high i + row) x) ∙ by-source source refl
  where
    by-source : (o : Option ℕ) → source ≡ o → at new (old.reach + row) x ≡ read g rule (down p t (p.shape.reach + row)) (right p t x)
    by-source None e =
        let rows = s.rows in
        set.edge e row (omega arith) ∙ sym (read-no-col g rule (down p t (p.shape.reach + row)) (right p t x) (sym is ∙ e))
    by-source (Some c) e =
        let rows = s.rows in let cols = suit.cols in let high = s.reach in
        let in' = inside c e in let low = in'.0 in let none = in'.1 in
        let there : place rule.around g.cols (right p t (p.shape.reach + c)) ≡ place rule.around g.cols (right p t x) =
        ap (place rule.around g.cols) (own-place (left p t) p.shape.reach c none) ∙ place-own rule.around g.cols c (omega arith) ∙ sym e ∙ is in
        set.own c e row (omega arith)
        ∙ (λ i. at old (high i + row) (high i + c))
        ∙ own row c less low
        ∙ read-same g rule (down p t (p.shape.reach + row)) (down p t (p.shape.reach + row)) (right p t (p.shape.reach + c)) (right p t x) refl there

-- and what had it before keeps it
pub column-keeps : (p : Plan) (g : Plane) (rule : Rule) (t x n : ℕ) (source : Option ℕ) (old new : Part) → IsSized p t old → IsColumnSet rule source x n old new → n ≡ old.rows
    → ((row : ℕ) → row < tall p t → HasRead p g rule t new (p.shape.reach + row) x) → Holding p g rule t old new
column-keeps p g rule t x n source old new s set many held y i less was =
    let high = s.reach in let rows = s.rows in let cols = s.cols in
    elim (cases_eq i x) [
      | inl same ↦ below-or y p.shape.reach
          (λ l. set.rest y i (omega arith) (λ e low up. omega arith) ∙ was)
          (λ h. below-or y (p.shape.reach + tall p t)
          (λ l. let place : p.shape.reach + (y - p.shape.reach) ≡ y = omega arith in
          subst (λ k. HasRead p g rule t new y k) (sym same) (subst (λ m. HasRead p g rule t new m x) place (held (y - p.shape.reach) (omega arith))))
          (λ m. set.rest y i (omega arith) (λ e low up. omega arith) ∙ was))
      | inr apart ↦ set.rest y i (omega arith) (λ e low up. apart e) ∙ was
    ]

-- what holds of own cells stays
pub own-kept : (p : Plan) (g : Plane) (rule : Rule) (t : ℕ) (old new : Part) → OwnHeld p g rule t old → Holding p g rule t old new → OwnHeld p g rule t new
own-kept p g rule t old new own keep row col less lt = keep (p.shape.reach + row) (p.shape.reach + col) (omega arith) (own row col less lt)

-- before the first column
pub columns-none : (p : Plan) (rule : Rule) (t from : ℕ) (b : Part) → IsSized p t b → ColumnsSet p rule t from 0 b b
columns-none p rule t from b s = record {
  size = s;
  keeps = λ g suit own y x less was. was;
  set = λ g suit own row k less low. absurd (omega arith);
}

-- one more column
pub columns-next : (p : Plan) (rule : Rule) (t from k x n : ℕ) (source : Option ℕ) (old b new : Part) → ColumnsSet p rule t from k old b → OwnColumns p rule t from → k < p.shape.reach
    → from ≤ p.shape.reach + wide p t → x ≡ from + k → IsColumnSet rule source x n b new → n ≡ b.rows → source ≡ place rule.around p.cols (right p t (from + k)) → wide p t ≤ p.cols
    → ColumnsSet p rule t from (k + 1) old new
columns-next p rule t from k x n source old b new s own low room here set many is few =
    let held : (g : Plane) → Suit p g rule → OwnHeld p g rule t old → (row : ℕ) → row < tall p t → HasRead p g rule t new (p.shape.reach + row) x = λ g suit all row less.
    column-held p g rule t x n source b new s.size suit (own-kept p g rule t old b all (s.keeps g suit all)) set many
    (is ∙ (λ i. place rule.around (sym suit.cols i) (right p t (sym here i)))) (λ c e. own k c low (sym is ∙ e)) few row less in
    let keep : (g : Plane) → Suit p g rule → OwnHeld p g rule t old → Holding p g rule t b new = λ g suit all. column-keeps p g rule t x n source b new s.size set many (held g suit all) in
    record {
      size = sized-same p t b new s.size set.size set.limits;
      keeps = λ g suit all y i less was. keep g suit all y i less (s.keeps g suit all y i less was);
      set = λ g suit all row j less lt. below-or j k
          (λ l. keep g suit all (p.shape.reach + row) (from + j) (omega arith) (s.set g suit all row j less l))
          (λ h. let same : x ≡ from + j = omega arith in subst (λ m. HasRead p g rule t new (p.shape.reach + row) m) same (held g suit all row less));
    }

-- ---- one row

-- a row that was set has the reading
pub row-held : (p : Plan) (g : Plane) (rule : Rule) (t y : ℕ) (source : Option ℕ) (old new : Part) → IsSized p t old → Suit p g rule → SidesHeld p g rule t old
    → IsRowSet rule source y old new → source ≡ place rule.around g.rows (down p t y)
    → ((r : ℕ) → source ≡ Some r → (r < tall p t) × (top p t ≡ 0)) → tall p t ≤ p.rows → (x : ℕ) → x < wide p t + 2 * p.shape.reach
    → HasRead p g rule t new y x
row-held p g rule t y source old new s suit sides set is inside few x less = by-source source refl
  where
    by-source : (o : Option ℕ) → source ≡ o → at new y x ≡ read g rule (down p t y) (right p t x)
    by-source None e =
        let cols = s.cols in let high = s.reach in
        set.edge e x (omega arith) ∙ sym (read-no-row g rule (down p t y) (right p t x) (sym is ∙ e))
    by-source (Some r) e =
        let rows = suit.rows in let cols = s.cols in let high = s.reach in
        let in' = inside r e in let low = in'.0 in let none = in'.1 in
        let there : place rule.around g.rows (down p t (p.shape.reach + r)) ≡ place rule.around g.rows (down p t y) =
        ap (place rule.around g.rows) (own-place (top p t) p.shape.reach r none) ∙ place-own rule.around g.rows r (omega arith) ∙ sym e ∙ is in
        set.own r e x (omega arith)
        ∙ (λ i. at old (high i + r) x)
        ∙ sides r x low less
        ∙ read-same g rule (down p t (p.shape.reach + r)) (down p t y) (right p t x) (right p t x) there refl

-- and what had it before keeps it
pub row-keeps : (p : Plan) (g : Plane) (rule : Rule) (t y : ℕ) (source : Option ℕ) (old new : Part) → IsSized p t old → IsRowSet rule source y old new
    → ((x : ℕ) → x < wide p t + 2 * p.shape.reach → HasRead p g rule t new y x) → Holding p g rule t old new
row-keeps p g rule t y source old new s set held r i less was =
    let high = s.reach in let cols = s.cols in
    elim (cases_eq r y) [
      | inl same ↦ subst (λ m. HasRead p g rule t new m i) (sym same) (held i less)
      | inr apart ↦ set.rest r i (omega arith) apart ∙ was
    ]

-- what holds of own rows stays
pub sides-kept : (p : Plan) (g : Plane) (rule : Rule) (t : ℕ) (old new : Part) → SidesHeld p g rule t old → Holding p g rule t old new → SidesHeld p g rule t new
sides-kept p g rule t old new sides keep row x less lt = keep (p.shape.reach + row) x lt (sides row x less lt)

-- before the first row
pub rows-none : (p : Plan) (rule : Rule) (t from : ℕ) (b : Part) → IsSized p t b → RowsSet p rule t from 0 b b
rows-none p rule t from b s = record {
  size = s;
  keeps = λ g suit sides y x less was. was;
  set = λ g suit sides k x low less. absurd (omega arith);
}

-- one more row
pub rows-next : (p : Plan) (rule : Rule) (t from k y : ℕ) (source : Option ℕ) (old b new : Part) → RowsSet p rule t from k old b → OwnRows p rule t from → k < p.shape.reach
    → y ≡ from + k → IsRowSet rule source y b new → source ≡ place rule.around p.rows (down p t (from + k)) → tall p t ≤ p.rows
    → RowsSet p rule t from (k + 1) old new
rows-next p rule t from k y source old b new s own low here set is few =
    let held : (g : Plane) → Suit p g rule → SidesHeld p g rule t old → (x : ℕ) → x < wide p t + 2 * p.shape.reach → HasRead p g rule t new y x = λ g suit all x less.
    row-held p g rule t y source b new s.size suit (sides-kept p g rule t old b all (s.keeps g suit all)) set
    (is ∙ (λ i. place rule.around (sym suit.rows i) (down p t (sym here i)))) (λ r e. own k r low (sym is ∙ e)) few x less in
    let keep : (g : Plane) → Suit p g rule → SidesHeld p g rule t old → Holding p g rule t b new = λ g suit all. row-keeps p g rule t y source b new s.size set (held g suit all) in
    record {
      size = sized-same p t b new s.size set.size set.limits;
      keeps = λ g suit all r i less was. keep g suit all r i less (s.keeps g suit all r i less was);
      set = λ g suit all j x lt less. below-or j k
          (λ l. keep g suit all (from + j) x less (s.set g suit all j x l less))
          (λ h. let same : y ≡ from + j = omega arith in subst (λ m. HasRead p g rule t new m x) same (held g suit all x less));
    }

-- ---- which are open

-- before the columns of a tile that opens to the left lies no column that another tile has
pub open-left : (p : Plan) (rule : Rule) (t : ℕ) → IsPlan p → t < tiles p → rule.around ≡ p.shape.around → opens_left p t ≡ true → OwnColumns p rule t 0
open-left p rule t v less around open' k c low at =
    let parts = and_parts (t % p.tile_cols == 0) (nat_lt (nexts p.shape.around p.tile_cols) p.tile_cols) open' in
    let first = eqb-true (t % p.tile_cols) 0 parts.0 in let few = ltb-true (nexts p.shape.around p.tile_cols) p.tile_cols parts.1 in
    let side = v.cols in let some = v.tile_cols in
    open-before p.shape.around p.cols p.tile_cols p.shape.reach (t % p.tile_cols) k c (omega arith) (tile-at p t v less).1 first few low
    (ap (λ a. place a p.cols (right p t (0 + k))) (sym around) ∙ at)

-- and so behind them
pub open-right : (p : Plan) (rule : Rule) (t from : ℕ) → IsPlan p → t < tiles p → rule.around ≡ p.shape.around → from ≡ p.shape.reach + wide p t → opens_right p t ≡ true → OwnColumns p rule t from
open-right p rule t from v less around is open' k c low at =
    let few = leb-true (nexts p.shape.around p.tile_cols) (t % p.tile_cols) open' in
    let side = v.cols in let some = v.tile_cols in
    open-behind p.shape.around p.cols p.tile_cols p.shape.reach (t % p.tile_cols) k c (omega arith) (tile-at p t v less).1 few
    (ap (λ a. place a p.cols (right p t (p.shape.reach + wide p t + k))) (sym around) ∙ ap (λ n. place rule.around p.cols (right p t (n + k))) (sym is) ∙ at)

-- and so above its rows
pub open-up : (p : Plan) (rule : Rule) (t : ℕ) → IsPlan p → t < tiles p → rule.around ≡ p.shape.around → opens_up p t ≡ true → OwnRows p rule t 0
open-up p rule t v less around open' k c low at =
    let parts = and_parts (t / p.tile_cols == 0) (nat_lt (nexts p.shape.around p.tile_rows) p.tile_rows) open' in
    let first = eqb-true (t / p.tile_cols) 0 parts.0 in let few = ltb-true (nexts p.shape.around p.tile_rows) p.tile_rows parts.1 in
    let side = v.rows in let some = v.tile_rows in
    open-before p.shape.around p.rows p.tile_rows p.shape.reach (t / p.tile_cols) k c (omega arith) (tile-at p t v less).0 first few low
    (ap (λ a. place a p.rows (down p t (0 + k))) (sym around) ∙ at)

-- and below them
pub open-down : (p : Plan) (rule : Rule) (t from : ℕ) → IsPlan p → t < tiles p → rule.around ≡ p.shape.around → from ≡ p.shape.reach + tall p t → opens_down p t ≡ true → OwnRows p rule t from
open-down p rule t from v less around is open' k c low at =
    let few = leb-true (nexts p.shape.around p.tile_rows) (t / p.tile_cols) open' in
    let side = v.rows in let some = v.tile_rows in
    open-behind p.shape.around p.rows p.tile_rows p.shape.reach (t / p.tile_cols) k c (omega arith) (tile-at p t v less).0 few
    (ap (λ a. place a p.rows (down p t (p.shape.reach + tall p t + k))) (sym around) ∙ ap (λ n. place rule.around p.rows (down p t (n + k))) (sym is) ∙ at)

-- ---- a tile's columns and rows together

-- where they are open they were set
pub columns-if : (p : Plan) (rule : Rule) (t from : ℕ) (is_open : Bool) (old new : Part) → ColumnsSet p rule t from p.shape.reach old new → OpenColumnsSet p rule t is_open from old new
columns-if p rule t from is_open old new s = record { size = s.size; keeps = s.keeps; set = λ e. s.set }

-- and else nothing was
pub columns-not : (p : Plan) (rule : Rule) (t from : ℕ) (is_open : Bool) (b : Part) → is_open ≡ false → IsSized p t b → OpenColumnsSet p rule t is_open from b b
columns-not p rule t from is_open b shut s = record {
  size = s;
  keeps = λ g suit own y x less was. was;
  set = λ e. absurd (false≢true (sym shut ∙ e));
}

-- both sides
pub sides-set : (p : Plan) (rule : Rule) (t from : ℕ) (left' right' : Bool) (old b new : Part) → OpenColumnsSet p rule t left' 0 old b → OpenColumnsSet p rule t right' from b new
    → left' ≡ opens_left p t → right' ≡ opens_right p t → from ≡ p.shape.reach + wide p t → AreSidesSet p rule t old new
sides-set p rule t from left' right' old b new one two is is' there =
    let own : (g : Plane) → Suit p g rule → OwnHeld p g rule t old → OwnHeld p g rule t b = λ g suit all. own-kept p g rule t old b all (one.keeps g suit all) in
    record {
      size = two.size;
      keeps = λ g suit all y x less was. two.keeps g suit (own g suit all) y x less (one.keeps g suit all y x less was);
      before = λ e g suit all row k less low. two.keeps g suit (own g suit all) (p.shape.reach + row) (0 + k) (omega arith) (one.set (is ∙ e) g suit all row k less low);
      behind = λ e g suit all row k less low. subst (λ n. HasRead p g rule t new (p.shape.reach + row) (n + k)) there (two.set (is' ∙ e) g suit (own g suit all) row k less low);
    }

-- the same with rows
pub rows-if : (p : Plan) (rule : Rule) (t from : ℕ) (is_open : Bool) (old new : Part) → RowsSet p rule t from p.shape.reach old new → OpenRowsSet p rule t is_open from old new
rows-if p rule t from is_open old new s = record { size = s.size; keeps = s.keeps; set = λ e. s.set }

-- and else nothing was
pub rows-not : (p : Plan) (rule : Rule) (t from : ℕ) (is_open : Bool) (b : Part) → is_open ≡ false → IsSized p t b → OpenRowsSet p rule t is_open from b b
rows-not p rule t from is_open b shut s = record {
  size = s;
  keeps = λ g suit sides y x less was. was;
  set = λ e. absurd (false≢true (sym shut ∙ e));
}

-- above and below
pub ends-set : (p : Plan) (rule : Rule) (t from : ℕ) (up' down' : Bool) (old b new : Part) → OpenRowsSet p rule t up' 0 old b → OpenRowsSet p rule t down' from b new
    → up' ≡ opens_up p t → down' ≡ opens_down p t → from ≡ p.shape.reach + tall p t → AreEndsSet p rule t old new
ends-set p rule t from up' down' old b new one two is is' there =
    let sides : (g : Plane) → Suit p g rule → SidesHeld p g rule t old → SidesHeld p g rule t b = λ g suit all. sides-kept p g rule t old b all (one.keeps g suit all) in
    record {
      size = two.size;
      keeps = λ g suit all y x less was. two.keeps g suit (sides g suit all) y x less (one.keeps g suit all y x less was);
      above = λ e g suit all k x low less. two.keeps g suit (sides g suit all) (0 + k) x less (one.set (is ∙ e) g suit all k x low less);
      below = λ e g suit all k x low less. subst (λ n. HasRead p g rule t new (n + k) x) there (two.set (is' ∙ e) g suit (sides g suit all) k x low less);
    }
