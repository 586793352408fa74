-- The lanes of a seat, and the places that their slots have in the seat's list: it has the slots of the lanes that are
-- out, in the order of the lanes.
use Rattle.std.specs.Prelude.{◌≡◌, ℕ, zero, suc, ◌+◌, ◌<◌, Bool, true, if◌then◌else◌}
use Rattle.std.specs.Prelude.{List, [], ◌∷◌, take}
use mathlib.Core.Option.{some}
use lib.ListN.{get_elem?}
use Rattle.slot_rows.specs.declared.lane.Lane.{Lane}

-- how many slots of a lane are in the list
abbrev pub width : Lane → ℕ
width l = if l.out then l.count else 0

abbrev pub wide : List Lane → ℕ
wide [] = 0
wide (l ∷ ls) = width l + wide ls

-- the place in the list where the slots of the lane q start, or would start
abbrev pub place : List Lane → ℕ → ℕ
place ls q = wide (take q ls)

-- the lane q with these flags, taken and out, and the others as they are
abbrev pub flagged : Bool → Bool → ℕ → List Lane → List Lane
flagged t o q [] = []
flagged t o zero (l ∷ ls) = record l { taken = t; out = o } ∷ ls
flagged t o (suc q) (l ∷ ls) = l ∷ flagged t o q ls

-- there is a lane q, and it has these flags
pub record HasFlags (t o : Bool) (q : ℕ) (ls : List Lane) : Type 0 where
  pub lane : Lane
  pub at : get_elem? ls q ≡ some lane
  pub taken : lane.taken ≡ t
  pub out : lane.out ≡ o

-- the lane q is out, and has a slot numbered c in it, from 0
pub record HasSlot (q c : ℕ) (ls : List Lane) : Type 0 where
  pub lane : Lane
  pub at : get_elem? ls q ≡ some lane
  pub out : lane.out ≡ true
  pub inside : c < lane.count
