-- The slots of one key, on both sides.
use Rattle.std.specs.Prelude.{ℕ, Bool, if◌then◌else◌, List, [], ◌∷◌, ◌++◌}
use Rattle.part_geometry.specs.declared.answers.Side.{Side}
use Rattle.part_geometry.specs.declared.answers.Side.TheVariants.{SendSide, RecvSide}

pub record Slots : Type 0 where
  pub sends : List ℕ
  pub recvs : List ℕ

abbrev pub no_slots : Slots
no_slots = record { sends = []; recvs = [] }

abbrev pub side_slots : Side → Slots → List ℕ
side_slots SendSide k = k.sends
side_slots RecvSide k = k.recvs

-- one slot more on a side
abbrev pub with_slot : Side → ℕ → Slots → Slots
with_slot SendSide n k = record k { sends = k.sends ++ n ∷ [] }
with_slot RecvSide n k = record k { recvs = k.recvs ++ n ∷ [] }

-- one more where a test holds
abbrev pub appended : Bool → ℕ → List ℕ → List ℕ
appended here slot slots = if here then slots ++ slot ∷ [] else slots
