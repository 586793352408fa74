-- Words that are the same but for their plan have one outcome: both begin with the same grid and weights, and then have
-- the same rule, where neither plan is refused.
use Rattle.std.proofs.Common.{◌≡◌, ℕ, zero, suc, ◌+◌, ◌-◌, ◌*◌, ◌/◌, ◌%◌, ℤ, pos, ◌<ℤ◌, ◌≤ℤ◌, Bool, true, false, ◌||◌, inl, inr, List, map, Option, Some, None, Result, Ok, Err, refl, sym, ap, ◌∙◌, subst}
use Rattle.std.specs.Prelude.{if◌then◌else◌, int_div, ◌-ℤ◌, ◌*ℤ◌}
use Rattle.std.specs.List.{range_with_len}
use Rattle.stencil_def.specs.Plane.{Plane}
use Rattle.stencil_def.specs.Square.{Square, side, weight}
use Rattle.stencil_def.specs.Step.{cell_or, clamped, fold_plane, new_cell, next_plane, place, read, sum_below}
use Rattle.stencil_def.specs.declared.rule.Around.{Around}
use Rattle.stencil_def.specs.declared.rule.Rule.{Rule}
use Rattle.cell_lanes.specs.Change.{change, step_change}
use Rattle.cell_lanes.proofs.StopFacts.{stop-one}
use Rattle.halo_plan.specs.Plan.{Plan}
use Rattle.halo_plan.specs.Making.{needs_more}
use Rattle.grid_tiles.specs.Plan as grid_tiles
use Rattle.grid_tiles.specs.Making as tile_making
use Rattle.grid_tiles.specs.declared.plan.TileFault.TheVariants as tile_fault
use Rattle.stencil_words.specs.declared.words.StencilWords.{StencilWords}
use Rattle.stencil_words.specs.declared.words.TileWords.{TileWords}
use Rattle.stencil_top.specs.Outcome.{EndsWith, IsLastStep, IsRuleOf, IsStencilOutput, Outcome, answered, ◌>>=◌, inputs_of, or_bad_tiles, planned, printed, rank_plan, shared_by, tile_plan}
use Rattle.stencil_top.specs.Plans.{IsPlanRefused, PlansLeaveOutcomes}
use Rattle.stencil_top.specs.declared.note.Note.{Note}
use Rattle.stencil_top.specs.declared.note.Note.TheVariants.{TooManyRanks}
use Rattle.stencil_top.specs.declared.reading.Inputs.{Inputs}
use Rattle.stencil_top.specs.declared.stencil.Sharing.TheVariants.{Ranks, Tiles}

-- rules with the same numbers
record IsSameRule (r s : Rule) : Type 0 where
  weights_same : r.weights ≡ s.weights
  div_same : r.div ≡ s.div
  edge_same : r.edge ≡ s.edge
  around_same : r.around ≡ s.around

-- they give one new cell, one next grid and one grid after any number of steps
one_cell : (g : Plane) (r s : Rule) → IsSameRule r s → (row col : ℕ) → new_cell g r row col ≡ new_cell g s row col
unfolding new_cell read
one_cell g r s e row col = λ i. cell_by (e.weights_same i) (e.div_same i) (e.edge_same i) (e.around_same i)
  where
    read_by : Square → ℤ → Around → ℕ → ℕ → ℤ
    read_by weights edge around a b =
        cell_or g edge (place around g.rows (pos (row + a) -ℤ pos weights.reach)) (place around g.cols (pos (col + b) -ℤ pos weights.reach))

    cell_by : Square → ℤ → ℤ → Around → ℤ
    cell_by weights div edge around =
        clamped (int_div (sum_below (side weights) (λ a. sum_below (side weights) (λ b. weight weights a b *ℤ read_by weights edge around a b))) div)

one_next : (g : Plane) (r s : Rule) → IsSameRule r s → next_plane g r ≡ next_plane g s
unfolding next_plane
one_next g r s e = λ i. record {
  rows = g.rows;
  cols = g.cols;
  values = map (λ k. one_cell g r s e (k / g.cols) (k % g.cols) i) (range_with_len 0 (g.rows * g.cols));
}

one_fold : (g : Plane) (r s : Rule) → IsSameRule r s → (n : ℕ) → fold_plane g r n ≡ fold_plane g s n
unfolding fold_plane
one_fold g r s e zero = refl
one_fold g r s e (suc n) = ap (λ (p : Plane). next_plane p r) (one_fold g r s e n) ∙ one_next (fold_plane g s n) r s e

-- the words and the weights give one rule
one_rule : (w : StencilWords) (weights : Square) (r s : Rule) → IsRuleOf w weights r → IsRuleOf w weights s → IsSameRule r s
one_rule w weights r s a b = record {
  weights_same = a.weights_are ∙ sym b.weights_are;
  div_same = a.div_is ∙ sym b.div_is;
  edge_same = a.edge_is ∙ sym b.edge_is;
  around_same = a.around_is ∙ sym b.around_is;
}

-- a run has one last step
last_by : (g : Plane) (r s : Rule) (steps : ℕ) (until : Option ℤ) (n : ℕ) → IsSameRule r s → IsLastStep g r steps until n → IsLastStep g s steps until n
last_by g r s steps None n e last = last
last_by g r s steps (Some until) n e last = record {
  most = last.most;
  before = λ k some less. subst (λ m. until <ℤ pos m) (one_change k) (last.before k some less);
  early = λ less. let early = last.early less in (early.0, subst (λ m. pos m ≤ℤ until) (one_change n) early.1);
}
  where
    one_change : (k : ℕ) → step_change g r k ≡ step_change g s k
    one_change k = λ i. change (one_fold g r s e (k - 1) i) (one_fold g r s e k i)

one_last : (g : Plane) (rule : Rule) (steps : ℕ) (until : Option ℤ) (n m : ℕ) → IsLastStep g rule steps until n → IsLastStep g rule steps until m → n ≡ m
one_last g rule steps None n m a b = a ∙ sym b
one_last g rule steps (Some until) n m a b = stop-one g rule steps until n m a b

-- and so one output
one_output : (w : StencilWords) (inputs : Inputs) (x y : List ℕ) → IsStencilOutput w inputs x → IsStencilOutput w inputs y → x ≡ y
one_output w inputs x y a b =
    let g = inputs.grid in
    let rule = one_rule w inputs.weights a.rule b.rule a.rule_is b.rule_is in
    let last = one_last g b.rule w.steps w.until a.last b.last (last_by g a.rule b.rule w.steps w.until a.last rule a.last_is) b.last_is in
    a.output_is
    ∙ ap (λ (p : Plane). printed w.source a.last p) (one_fold g a.rule b.rule rule a.last)
    ∙ ap (λ (n : ℕ). printed w.source n (fold_plane g b.rule n)) last
    ∙ sym b.output_is

-- the output doesn't speak of the plan
other_plan : (w : StencilWords) (plan : _) (tiles : _) (inputs : Inputs) (x : List ℕ) → IsStencilOutput (record w { plan = plan; tiles = tiles }) inputs x
    → IsStencilOutput w inputs x
other_plan w plan tiles inputs x a = record {
  rule = a.rule;
  rule_is = record {
    weights_are = a.rule_is.weights_are;
    div_is = a.rule_is.div_is;
    edge_is = a.rule_is.edge_is;
    around_is = a.rule_is.around_is;
  };
  last = a.last;
  last_is = a.last_is;
  output_is = a.output_is;
}

-- what was begun with, once the plan isn't refused
unrefused : (w : StencilWords) (inputs : Inputs) (tiles : Option TileWords) (end : Outcome)
    → EndsWith (shared_by w inputs tiles >>= (λ sharing. Ok inputs)) (IsStencilOutput w) end → ¬ IsPlanRefused end → EndsWith (Ok inputs) (IsStencilOutput w) end
unrefused w inputs None end ends not_refused = by (needs_more p.rows p.ranks p.reach) ends
  where
    p : Plan
    p = rank_plan w inputs

    by : (b : Bool)
        → EndsWith (((if b then Err (TooManyRanks p.ranks p.rows) else Ok p) >>= (λ plan. Ok (Ranks plan))) >>= (λ sharing. Ok inputs)) (IsStencilOutput w) end
        → EndsWith (Ok inputs) (IsStencilOutput w) end
    by true e = absurd (not_refused (inl (p.ranks, p.rows, e)))
    by false e = e
unrefused w inputs (Some tiles) end ends not_refused =
    by (tile_making.needs_more p.rows p.tile_rows p.shape.reach || tile_making.needs_more p.cols p.tile_cols p.shape.reach) ends
  where
    p : grid_tiles.Plan
    p = tile_plan w inputs tiles

    by : (b : Bool)
        → EndsWith ((or_bad_tiles (if b then Err (tile_fault.TooManyTiles p.tile_rows p.tile_cols p.rows p.cols) else Ok p)
        >>= (λ plan. Ok (Tiles plan))) >>= (λ sharing. Ok inputs)) (IsStencilOutput w) end → EndsWith (Ok inputs) (IsStencilOutput w) end
    by true e = absurd (not_refused (inr (p.tile_rows, p.tile_cols, p.rows, p.cols, e)))
    by false e = e

one_outcome : (w : StencilWords) (plan : _) (tiles : _) (r : Result Inputs Note) (end end' : Outcome)
    → EndsWith (r >>= planned w) (IsStencilOutput w) end
    → EndsWith (r >>= planned (record w { plan = plan; tiles = tiles })) (IsStencilOutput (record w { plan = plan; tiles = tiles })) end'
    → ¬ IsPlanRefused end → ¬ IsPlanRefused end' → end ≡ end'
one_outcome w plan tiles (Err cause) end end' a b fits fits' = a ∙ sym b
one_outcome w plan tiles (Ok inputs) end end' a b fits fits' =
    let x = unrefused w inputs w.tiles end a fits in
    let y = unrefused (record w { plan = plan; tiles = tiles }) inputs tiles end' b fits' in
    x.2 ∙ ap answered (one_output w inputs x.0 y.0 x.1 (other_plan w plan tiles inputs y.0 y.1)) ∙ sym y.2

pub plans_leave_outcomes : PlansLeaveOutcomes
plans_leave_outcomes w v files end end' same a b fits fits' =
    one_outcome w v.plan v.tiles (inputs_of w.source files) end end' a
    (subst (λ (u : StencilWords). EndsWith (inputs_of u.source files >>= planned u) (IsStencilOutput u) end') (sym same) b) fits fits'
