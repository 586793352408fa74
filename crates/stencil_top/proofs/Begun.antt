-- The output of a stencil, by what it begins with and its plan: what was read goes on to the plan, and the first that is
-- refused is the answer.
use Rattle.std.proofs.Common.{◌≡◌, ℕ, Bool, true, false, ◌||◌, Option, Some, None, Result, Ok, Err, Vec, refl, sym, ap, ◌∙◌, subst}
use Rattle.std.specs.Prelude.{if◌then◌else◌}
use Rattle.std.specs.declared.alloc.Global.{Global}
use Rattle.halo_plan.specs.Plan.{Plan}
use Rattle.halo_plan.specs.Making.{needs_more}
use Rattle.grid_tiles.specs.Plan as grid_tiles
use Rattle.grid_tiles.specs.Making as tile_making
use Rattle.grid_tiles.specs.declared.plan.TileFault.TheVariants as tile_fault
use Rattle.stencil_words.specs.declared.words.StencilWords.{StencilWords}
use Rattle.stencil_words.specs.declared.words.TileWords.{TileWords}
use Rattle.stencil_top.specs.Words.{Stencil, source_file}
use Rattle.stencil_top.specs.Outcome.{EndsWith, IsStencilOutput, answered, ◌>>=◌, begun, inputs_of, or_bad_tiles, planned, rank_plan, shared_by, sharing_of, tile_plan}
use Rattle.stencil_top.specs.Run.{Files, Needs}
use Rattle.stencil_top.specs.Steps.{Comes, Finds, Gives}
use Rattle.stencil_top.specs.declared.note.Note.{Note}
use Rattle.stencil_top.specs.declared.note.Note.TheVariants.{Usage, TooLong, BadScript, BadList, BadText, TooManyRanks, TooManyTiles, CannotRead, CannotWrite, OutOfMemory}
use Rattle.stencil_top.specs.declared.reading.Inputs.{Inputs}
use Rattle.stencil_top.specs.declared.stencil.Sharing.{Sharing}
use Rattle.stencil_top.specs.declared.stencil.Sharing.TheVariants.{Ranks, Tiles}
use Rattle.stencil_top.proofs.Ends.{none_given}

-- what didn't come doesn't come with a further step
comes_on : {A B : Type 0} (needs : Needs) (files : Files) (before now : ℕ) (wanted : Result A Note) (next : A → Result B Note) (cause : Note)
    → Comes needs files before now wanted (Err cause) → Comes needs files before now (wanted >>= next) (Err cause)
comes_on needs files before now wanted next Usage c = absurd c
comes_on needs files before now wanted next (TooLong w) c = ap (λ (r : Result _ Note). r >>= next) c
comes_on needs files before now wanted next (BadScript fault) c = ap (λ (r : Result _ Note). r >>= next) c
comes_on needs files before now wanted next (BadList fault) c = ap (λ (r : Result _ Note). r >>= next) c
comes_on needs files before now wanted next (BadText w fault) c = ap (λ (r : Result _ Note). r >>= next) c
comes_on needs files before now wanted next (TooManyRanks n m) c = ap (λ (r : Result _ Note). r >>= next) c
comes_on needs files before now wanted next (TooManyTiles a b n m) c = ap (λ (r : Result _ Note). r >>= next) c
comes_on needs files before now wanted next (CannotRead w) c = (c.0, λ calm. ap (λ (r : Result _ Note). r >>= next) (c.1 calm))
comes_on needs files before now wanted next CannotWrite c = absurd c
comes_on needs files before now wanted next OutOfMemory c = tt

-- a stencil whose texts weren't read, or were refused
pub stencil_fails : (w : StencilWords) (files : Files) (before now : ℕ) (cause : Note)
    → Finds (source_file w.source) files before now (inputs_of w.source) (Err cause) → Gives (Some (Stencil w)) files before now (Err cause)
stencil_fails w files before now cause f =
    none_given (Some (Stencil w)) files before now (begun w) (IsStencilOutput w) (λ t e ends. ends) cause record {
      texts = f.texts;
      found = f.found;
      comes = comes_on (source_file w.source) files before now (inputs_of w.source f.texts) (planned w) cause f.comes;
    }

-- a refusal of a plan is no fault of the words or of a file
refusal : (w : StencilWords) (inputs : Inputs) (tiles : Option TileWords) (needs : Needs) (files : Files) (before now : ℕ) (wanted : Result Inputs Note) (cause : Note)
    → shared_by w inputs tiles ≡ Err cause → wanted ≡ Err cause → Comes needs files before now wanted (Err cause)
refusal w inputs None needs files before now wanted cause e is = by (needs_more p.rows p.ranks p.reach) e
  where
    p : Plan
    p = rank_plan w inputs

    by : (b : Bool) → ((if b then Err (TooManyRanks p.ranks p.rows) else Ok p) >>= (λ plan. Ok (Ranks plan))) ≡ Err cause
        → Comes needs files before now wanted (Err cause)
    by true e =
        let same : TooManyRanks p.ranks p.rows ≡ cause = cc in
        subst (λ c. wanted ≡ Err c → Comes needs files before now wanted (Err c)) same (λ f. f) is
    by false e = cc e
refusal w inputs (Some tiles) needs files before now wanted cause e is =
    by (tile_making.needs_more p.rows p.tile_rows p.shape.reach || tile_making.needs_more p.cols p.tile_cols p.shape.reach) e
  where
    p : grid_tiles.Plan
    p = tile_plan w inputs tiles

    by : (b : Bool)
        → (or_bad_tiles (if b then Err (tile_fault.TooManyTiles p.tile_rows p.tile_cols p.rows p.cols) else Ok p) >>= (λ plan. Ok (Tiles plan))) ≡ Err cause
        → Comes needs files before now wanted (Err cause)
    by true e =
        let same : TooManyTiles p.tile_rows p.tile_cols p.rows p.cols ≡ cause = cc in
        subst (λ c. wanted ≡ Err c → Comes needs files before now wanted (Err c)) same (λ f. f) is
    by false e = cc e

-- a stencil whose plan is refused
pub plan_fails : (w : StencilWords) (files : Files) (before now : ℕ) (inputs : Inputs) (cause : Note)
    → Finds (source_file w.source) files before now (inputs_of w.source) (Ok inputs) → sharing_of w inputs ≡ Err cause
    → Gives (Some (Stencil w)) files before now (Err cause)
plan_fails w files before now inputs cause f e =
    none_given (Some (Stencil w)) files before now (begun w) (IsStencilOutput w) (λ t e ends. ends) cause record {
      texts = f.texts;
      found = f.found;
      comes = refusal w inputs w.tiles (source_file w.source) files before now (begun w f.texts) cause e
          (ap (λ (r : Result Inputs Note). r >>= planned w) f.comes ∙ ap (λ (r : Result Sharing Note). r >>= (λ sharing. Ok inputs)) e);
    }

-- a stencil that was computed
pub stencil_given : (w : StencilWords) (files : Files) (before now : ℕ) (inputs : Inputs) (sharing : Sharing) (output : Vec ℕ Global)
    → Finds (source_file w.source) files before now (inputs_of w.source) (Ok inputs) → sharing_of w inputs ≡ Ok sharing
    → IsStencilOutput w inputs output.items → Gives (Some (Stencil w)) files before now (Ok output)
stencil_given w files before now inputs sharing output f e is = record {
  texts = f.texts;
  end = answered output.items;
  found = f.found;
  ends = subst (λ (r : Result Inputs Note). EndsWith r (IsStencilOutput w) (answered output.items))
      (sym (ap (λ (r : Result Inputs Note). r >>= planned w) f.comes ∙ ap (λ (r : Result Sharing Note). r >>= (λ sharing. Ok inputs)) e))
      (output.items, is, refl);
  says = refl;
}
