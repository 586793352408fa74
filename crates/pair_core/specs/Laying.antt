-- A claim that pends, and the piece that has it next.
use Rattle.std.specs.Prelude.{◌≡◌, ℕ, ◌%◌, Bool, true, false, ◌∷◌, Option, Some, None}
use Rattle.part_geometry.specs.Shape.{Shape}
use Rattle.pair_core.specs.Names.{Piece, number}
use Rattle.pair_core.specs.Moves.{MayLay}
use Rattle.pair_core.specs.Steps.{left_of}
use Rattle.pair_core.specs.declared.view.Pending.{Pending}
use Rattle.pair_core.specs.declared.lay.Lay.{Lay}

-- a claim when piece i has it too: none is left, where that was its last piece
abbrev pub laid_on : Bool → ℕ → Option Pending → Option Pending
laid_on true i x = None
laid_on false i None = None
laid_on false i (Some x) = Some (record x { laid = i ∷ x.laid })

-- what is laid of the claim x where its partition is laid into the piece of a word
pub record IsLay (g : Shape) (x : Pending) (partition word : ℕ) (l : Lay) : Type 0 where
  pub round : l.round ≡ x.round
  pub may : MayLay g x partition l.piece
  pub on : word ≡ number g (Piece (x.round % g.depth) l.piece)
  pub left : left_of g l.piece x ≡ laid_on l.last l.piece (Some x)
