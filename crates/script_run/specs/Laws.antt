-- How the pairs and the requests of a script go with the matching of its initialisations (`init_match`).
use Rattle.std.specs.Prelude.{◌≡◌, ◌⊎◌, ◌↔◌, ℕ, List, [], Some, map, fold, slice_get, slice_index_or}
use Rattle.part_geometry.specs.Shape.{Shape}
use Rattle.init_match.specs.declared.answers.Matched.{Matched}
use Rattle.init_match.specs.World.{WorldState, matched_pairs}
use Rattle.script_text.specs.declared.call.Call.{Call}
use Rattle.script_text.specs.Script.{World}
use Rattle.script_run.specs.Run.{after_call}
use Rattle.script_run.specs.State.{Known, Pair, State, first_state}

-- what a pair is, besides what was done with it: the names of its two requests, and its geometry
pub record Face : Type 0 where
  pub send : List ℕ
  pub recv : List ℕ
  pub shape : Shape

abbrev pub face : Pair → Face
face p = record { send = p.send; recv = p.recv; shape = p.shape }

-- the same of a pair of the world, where the requests have these names in the order of their slots
abbrev pub matched_face : List (List ℕ) → Matched → Face
matched_face names m = record {
  send = slice_index_or names m.send_slot [];
  recv = slice_index_or names m.recv_slot [];
  shape = m.geometry;
}

abbrev pub names_of : List Known → List (List ℕ)
names_of requests = map (λ r. r.name) requests

-- a slot is one of the two of the world's n-th pair
abbrev pub IsIn : WorldState → ℕ → ℕ → Type 0
IsIn w slot n = (m : Matched) × (slice_get (matched_pairs w) n ≡ Some m) × ((m.send_slot ≡ slot) ⊎ (m.recv_slot ≡ slot))

-- the pairs are those of the world, in its order; and a request is in the n-th pair exactly where its slot is
pub record IsMatched (st : State) : Type 0 where
  pub pairs : map face st.pairs ≡ map (matched_face (names_of st.requests)) (matched_pairs st.world)
  pub requests : (slot n : ℕ) (r : Known) → slice_get st.requests slot ≡ Some r
      → (r.pair ≡ Some n) ↔ IsIn st.world slot n

-- so it is after any calls of a script
abbrev pub PairsAreMatched : Type 0
PairsAreMatched = (world : World) (calls : List Call) → IsMatched (fold after_call (first_state world) calls)
