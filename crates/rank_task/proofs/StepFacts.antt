-- A step of a block whose rows have the grid's reading, and of all blocks.
use Rattle.std.proofs.Common.{◌≡◌, ◌∙◌, sym, ap, subst, ℕ, ◌+◌, ◌<◌, pos, ◌-ℤ◌, List, length, set, arith, inl, inr}
use Rattle.std.proofs.lemmas.Bool.{cases_eq}
use Rattle.stencil_def.specs.Plane.{Plane, cell}
use Rattle.stencil_def.specs.declared.rule.Rule.{Rule}
use Rattle.stencil_def.specs.Step.{fold_plane, next_plane, read}
use Rattle.stencil_def.proofs.StepFacts.{fold-more, fold-none}
use Rattle.stencil_def.proofs.FoldFacts.{fold-cols, fold-rows}
use Rattle.cell_lanes.specs.Block.{Part, Holds, HoldsOwn, HoldsRow, IsInside, SameSize, at, height}
use Rattle.halo_plan.specs.Plan.{IsPlan, Plan, first_row}
use Rattle.halo_plan.proofs.Planning.{block-some, row-inside}
use Rattle.rank_task.specs.Blocks.{AreSized, IsSized, OwnRead, HoldGrid, Suit, block_at}
use Rattle.rank_task.proofs.RowFacts.{read-inside}
use Rattle.rank_task.proofs.HaloFacts.{at-other, at-set}
use Rattle.rank_task.proofs.OutsideFacts.{ahead}

-- where all rows have the reading, the block has it
pub holds-all : (g : Plane) (rule : Rule) (top : ℕ) (old new : Part) → SameSize old new → ((y : ℕ) → y < height old → HoldsRow g rule top y new) → Holds g rule top 0 new
holds-all g rule top old new size rows y x less lt =
    let r = size.rows in let h = size.reach in
    let none : 0 + x ≡ x = omega arith in
    rows y (omega arith) x lt ∙ ap (λ n. read g rule (pos (top + y) -ℤ pos new.reach) (pos n -ℤ pos new.reach)) (sym none)

-- the block of a rank lies inside the grid
pub block-inside : (p : Plan) (g : Plane) (rule : Rule) (i : ℕ) (b : Part) → IsPlan p → Suit p g rule → i < p.ranks → IsSized p i b → IsInside g (first_row p i) 0 b
block-inside p g rule i b v suit less s =
    let rows = suit.rows in let cols = suit.cols in let many = s.rows in let wide = s.cols in
    let ranks = v.ranks in
    let end = row-inside (i + 1) p.rows p.ranks (omega arith) (omega arith) in
    let some = block-some p i v in
    record { rows_fit = omega arith; cols_fit = omega arith }

-- own cells of the grid have its reading
pub own-read : (p : Plan) (g : Plane) (rule : Rule) (blocks : List Part) → IsPlan p → AreSized p blocks → Suit p g rule → HoldGrid p g blocks → OwnRead p g rule blocks
own-read p g rule blocks v s suit holds i row less inside col lt =
    let size = s.each i less in let h = size.reach in let w = size.cols in let many = size.rows in
    let b = block_at blocks i in
    let rows = suit.rows in let cols = suit.cols in
    let ranks = v.ranks in
    let end = row-inside (i + 1) p.rows p.ranks (omega arith) (omega arith) in
    let none : 0 + col ≡ col = omega arith in
    ap (λ n. at b (n + row) (b.reach + col)) (sym h)
    ∙ holds i less row col (omega arith) lt
    ∙ ap (λ n. cell g (first_row p i + row) n) none
    ∙ sym (read-inside g rule (first_row p i + row) col (omega arith) (omega arith))
    ∙ ap (λ z. read g rule z (pos col)) (sym (ahead (first_row p i) p.reach row))
    ∙ ap (λ n. read g rule (pos (first_row p i + (p.reach + row)) -ℤ pos n) (pos col)) (sym h)

-- another block of the size lies inside the grid too
pub inside-same : (g : Plane) (top : ℕ) (old new : Part) → SameSize old new → IsInside g top 0 old → IsInside g top 0 new
inside-same g top old new size inside =
    let r = size.rows in let w = size.cols in let a = inside.rows_fit in let b = inside.cols_fit in
    record { rows_fit = omega arith; cols_fit = omega arith }

-- one more block has made the step
pub next-one : (p : Plan) (g : Plane) (i : ℕ) (blocks : List Part) (b : Part) → i < length blocks → ((j : ℕ) → j < i → HoldsOwn g (first_row p j) 0 (block_at blocks j))
    → HoldsOwn g (first_row p i) 0 b → (j : ℕ) → j < i + 1 → HoldsOwn g (first_row p j) 0 (block_at (set blocks i b) j)
next-one p g i blocks b less done new j low = elim (cases_eq j i) [
  | inl here ↦ subst (λ n. HoldsOwn g (first_row p n) 0 (block_at (set blocks i b) n)) (sym here) (subst (HoldsOwn g (first_row p i) 0) (sym (at-set blocks i b less)) new)
  | inr apart ↦ subst (HoldsOwn g (first_row p j) 0) (sym (at-other blocks j i b apart)) (done j (omega arith))
]

-- the grid after a step has the same size
pub suit-next : (p : Plan) (g : Plane) (rule : Rule) (n : ℕ) → Suit p g rule → Suit p (fold_plane g rule n) rule
suit-next p g rule n s = record { rows = fold-rows g rule n ∙ s.rows; cols = fold-cols g rule n ∙ s.cols; reach = s.reach; around = s.around }

-- the grid after one step
pub fold-one : (g : Plane) (rule : Rule) → fold_plane g rule 1 ≡ next_plane g rule
fold-one g rule = fold-more g rule 0 ∙ ap (λ h. next_plane h rule) (fold-none g rule)
