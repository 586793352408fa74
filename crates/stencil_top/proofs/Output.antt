-- The output of a stencil, by the steps to it.
use Rattle.std.proofs.Common.{◌≡◌, ℕ, Result, Ok, Err, Vec, IfOk, sym, ap, ◌∙◌, subst}
use Rattle.std.specs.Prelude.{is_some}
use Rattle.std.specs.declared.alloc.Global.{Global}
use Rattle.stencil_def.specs.Plane.{Plane}
use Rattle.stencil_def.specs.Step.{fold_plane}
use Rattle.stencil_def.specs.declared.rule.Rule.{Rule}
use Rattle.cell_lanes.specs.declared.run.Stopped.{Stopped}
use Rattle.grid_tiles.specs.Plan as grid_tiles
use Rattle.stencil_words.specs.Limits.{IsRead}
use Rattle.stencil_words.specs.declared.words.StencilWords.{StencilWords}
use Rattle.stencil_top.specs.Outcome.{IsLastStep, IsRuleOf, IsStencilOutput, printed}
use Rattle.stencil_top.specs.Steps.{IsShared}
use Rattle.stencil_top.specs.declared.reading.Inputs.{Inputs}
use Rattle.stencil_top.specs.declared.stencil.Sharing.{Sharing}
use Rattle.stencil_top.specs.declared.stencil.Sharing.TheVariants.{Tiles}

pub is_output : {E : Type 0} (w : StencilWords) (inputs : Inputs) (rule : Rule) (n : ℕ) (grid : Plane) (result : Result (Vec ℕ Global) E) → IsRuleOf w inputs.weights rule
    → IsLastStep inputs.grid rule w.steps w.until n → grid ≡ fold_plane inputs.grid rule n → IfOk result (λ text. text.items ≡ printed w.source n grid)
    → IfOk result (λ text. IsStencilOutput w inputs text.items)
is_output w inputs rule n grid (Ok text) is_rule is_last is_grid is = record {
  rule = rule;
  rule_is = is_rule;
  last = n;
  last_is = is_last;
  output_is = is ∙ ap (λ (p : Plane). printed w.source n p) is_grid;
}
is_output w inputs rule n grid (Err e) is_rule is_last is_grid is = tt

-- tiles make all steps
pub tiles_last : {E : Type 0} (w : StencilWords) (inputs : Inputs) (rule : Rule) (sharing : Sharing) (plan : grid_tiles.Plan) (result : Result Stopped E)
    → IsRead w → IsShared w inputs sharing → sharing ≡ Tiles plan → IfOk result (λ stopped. stopped.steps ≡ w.steps)
    → IfOk result (λ stopped. IsLastStep inputs.grid rule w.steps w.until stopped.steps)
tiles_last w inputs rule sharing plan (Ok stopped) read shared is all =
    let tiles = subst (λ s. IsShared w inputs s) is shared in
    let none = read.tiles_alone (ap is_some tiles.1) in
    subst (λ until. IsLastStep inputs.grid rule w.steps until stopped.steps) (sym none) all
tiles_last w inputs rule sharing plan (Err e) read shared is all = tt
