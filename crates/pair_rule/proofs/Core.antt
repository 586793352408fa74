-- What the core proves of its states, as this crate uses it.
use Rattle.std.proofs.Common.{ℕ, ◌<◌, List}
use Rattle.gate_word.specs.Order.{IsLater}
use Rattle.part_geometry.specs.Shape.{Shape, IsShape}
use Rattle.part_geometry.specs.Pieces.{pieces, Touches}
use Rattle.pair_core.specs.Names.{Name, Fits}
use Rattle.pair_core.specs.Core.{Core}
use Rattle.pair_core.specs.Moves.{Move, IsAllowed, after, first_state}
use Rattle.pair_core.specs.Sound.{Sound}
use Rattle.pair_core.specs.Facts.{StateFacts}
use Rattle.pair_core.proofs.Facts.{facts, keeps, starts_sound, touch_part}

pub record CoreLaws (g : Shape) : Type 0 where
  pub first : Sound g (first_state {A = List ℕ} g)
  pub kept : (s : Core (List ℕ)) (m : Move (List ℕ)) → Sound g s → IsAllowed g s m → Sound g (after g s m)
  pub grows : (s : Core (List ℕ)) (m : Move (List ℕ)) (x : Name) → Sound g s → IsAllowed g s m → Fits g x → IsLater (s.word x) ((after g s m).word x)
  pub facts : StateFacts (List ℕ) g
  pub touched : (i p : ℕ) → i < pieces g → Touches g i p → p < g.send_parts

pub laws : (g : Shape) → IsShape g → CoreLaws g
laws g v = record {
  first = starts_sound g v;
  kept = keeps g v;
  grows = let f : StateFacts (List ℕ) g = facts g v in f.words_grow;
  facts = facts g v;
  touched = touch_part g v;
}
