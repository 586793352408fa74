-- The greatest change of the whole grid: that of the rows of the first ranks, and of one rank more. The ranks' rows lie
-- one after another, so the change of two parts of the rows, one below the other, is the greater of both.
use Rattle.std.proofs.Common.{◌≡◌, ◌∙◌, sym, ap, ℕ, ◌+◌, ℤ, pos, to_z, of_z, w64, arith}
use Rattle.std.specs.Ordering.{int_cmp, ord_max}
use Rattle.stencil_def.specs.Plane.{Plane}
use Rattle.stencil_def.specs.declared.rule.Rule.{Rule}
use Rattle.cell_lanes.specs.Change.{IsChange, change, change_within}
use Rattle.cell_lanes.proofs.ChangeFacts.{change-append, greater-joined, rows-none}
use Rattle.halo_plan.specs.Plan.{IsPlan, Plan, first_row}
use Rattle.halo_plan.proofs.Planning.{block-some}
use Rattle.rank_task.specs.Blocks.{Suit, rows_of}
use Rattle.rank_task.proofs.HaloFacts.{first-last, first-zero}

-- before the first rank there are no rows
pub ranks-none : (p : Plan) (old new : Plane) → IsPlan p → pos 0 ≡ pos (change_within old new 0 (first_row p 0) 0 p.cols)
ranks-none p old new v =
    let ranks = v.ranks in
    rows-none old new 0 0 p.cols ∙ ap (λ n. pos (change_within old new 0 n 0 p.cols)) (sym (first-zero p (omega arith)))

-- one rank more, as code keeps it
pub ranks-more : (p : Plan) (old new : Plane) (i : ℕ) (most step result : ℤ) → IsPlan p → IsChange most → IsChange step
    → most ≡ pos (change_within old new 0 (first_row p i) 0 p.cols) → step ≡ pos (change_within old new (first_row p i) (rows_of p i) 0 p.cols)
    → result ≡ ord_max int_cmp most (to_z w64 (of_z w64 step))
    → to_z w64 (of_z w64 result) ≡ pos (change_within old new 0 (first_row p (i + 1)) 0 p.cols)
ranks-more p old new i most step result v few small is own greater =
    let some = block-some p i v in
    let sum : first_row p i + rows_of p i ≡ first_row p (i + 1) = omega arith in
    let here : first_row p i ≡ 0 + first_row p i = omega arith in
    greater-joined (change_within old new 0 (first_row p i) 0 p.cols) (change_within old new (0 + first_row p i) (rows_of p i) 0 p.cols) most step result few small is
    (own ∙ ap (λ n. pos (change_within old new n (rows_of p i) 0 p.cols)) here) greater
    ∙ ap (λ (m : ℕ). pos m) (sym (change-append old new 0 (first_row p i) (rows_of p i) 0 p.cols))
    ∙ ap (λ n. pos (change_within old new 0 n 0 p.cols)) sum

-- all ranks have all rows
pub ranks-all : (p : Plan) (g new : Plane) (rule : Rule) (i : ℕ) → IsPlan p → Suit p g rule → i ≡ p.ranks → pos (change_within g new 0 (first_row p i) 0 p.cols) ≡ pos (change g new)
ranks-all p g new rule i v suit all =
    let ranks = v.ranks in
    let end : first_row p i ≡ g.rows = ap (first_row p) all ∙ first-last p (omega arith) ∙ sym suit.rows in
    λ j. pos (change_within g new 0 (end j) 0 (sym suit.cols j))
