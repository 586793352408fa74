-- What a script has made so far.
use Rattle.std.specs.Prelude.{◌≡◌, ℕ, Bool, true, false, bytes_eq, List, [], length, Option, Some, None}
use Rattle.std.specs.List.{position_from}
use Rattle.init_match.specs.World.{WorldState}
use Rattle.part_geometry.specs.declared.answers.Side.{Side}
use Rattle.part_geometry.specs.Shape.{Shape}
use Rattle.script_pair.specs.Desk.{Desk}
use Rattle.script_text.specs.Script.{World}

-- a request: its name, its side, and the number of its pair once it is matched. Its slot is its place among the
-- requests
pub record Known : Type 0 where
  pub name : List ℕ
  pub side : Side
  pub pair : Option ℕ

-- a pair: the names of its sender and its receiver, its geometry, and what was done with it
pub record Pair : Type 0 where
  pub send : List ℕ
  pub recv : List ℕ
  pub shape : Shape
  pub desk : Desk

-- the accepted initialisations, their requests in the same order, and the pairs in the order in which they were
-- completed
pub record State : Type 0 where
  pub world : WorldState
  pub requests : List Known
  pub pairs : List Pair

-- before the first call
abbrev pub first_state : World → State
first_state w = record {
  world = record { ranks = w.ranks; grain = w.grain; depth = w.depth; calls = [] };
  requests = [];
  pairs = [];
}

-- the slot of a name, if a request has it
abbrev pub slot_of : List Known → List ℕ → Option ℕ
slot_of requests name = position_from (λ r. bytes_eq r.name name) 0 requests

-- a request that isn't in a pair
abbrev pub is_alone : Option ℕ → Bool
is_alone None = true
is_alone (Some n) = false

abbrev pub is_waiting : Known → Bool
is_waiting r = is_alone r.pair

-- each accepted initialisation has its request
abbrev pub HasSlots : State → Type 0
HasSlots st = length st.requests ≡ length st.world.calls
