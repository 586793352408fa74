-- Steps of all ranks, one at a time: one step after n is n + 1 steps, and its change is that of step n + 1.
use Rattle.std.proofs.Common.{◌≡◌, ◌∙◌, sym, ap, ℕ, ◌+◌, ℤ, pos, arith}
use Rattle.stencil_def.specs.Step.{fold_plane, next_plane}
use Rattle.stencil_def.proofs.StepFacts.{fold-more}
use Rattle.cell_lanes.specs.Change.{change}
use Rattle.rank_task.specs.Ranks.{Ranks, ranks_after}
use Rattle.rank_task.proofs.StepFacts.{fold-one}

pub ranks-more : (r s t : Ranks) (n : ℕ) → s ≡ ranks_after r n → t ≡ ranks_after s 1 → t ≡ ranks_after r (n + 1)
ranks-more r s t n before after =
    let g = fold_plane r.grid r.rule n in
    let count : r.steps + n + 1 ≡ r.steps + (n + 1) = omega arith in
    let grid : fold_plane g r.rule 1 ≡ fold_plane r.grid r.rule (n + 1) = fold-one g r.rule ∙ sym (fold-more r.grid r.rule n) in
    after ∙ ap (λ q. ranks_after q 1) before ∙ (λ i. record { plan = r.plan; rule = r.rule; steps = count i; grid = grid i })

pub change-is : (r s t : Ranks) (n : ℕ) (z : ℤ) → s ≡ ranks_after r n → t ≡ ranks_after s 1 → z ≡ pos (change s.grid t.grid)
    → z ≡ pos (change (fold_plane r.grid r.rule n) (next_plane (fold_plane r.grid r.rule n) r.rule))
change-is r s t n z before after is =
    let next : t.grid ≡ next_plane (fold_plane r.grid r.rule n) r.rule =
    ap (λ (q : Ranks). q.grid) (after ∙ ap (λ q. ranks_after q 1) before) ∙ fold-one (fold_plane r.grid r.rule n) r.rule in
    is ∙ (λ i. pos (change (before i).grid (next i)))
