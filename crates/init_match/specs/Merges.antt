-- The ranks' call lists and their merges: which pairs are made doesn't depend on the order in which ranks come.
use Rattle.std.specs.Prelude.{◌≡◌, ℕ, Some, IsOk, List, [], ◌∷◌, map, slice_get, slice_index_or, slice_set, ⊤}
use Rattle.part_geometry.specs.declared.answers.Side.{Side}
use Rattle.part_geometry.specs.declared.answers.Side.TheVariants.{SendSide, RecvSide}
use Rattle.init_match.specs.declared.keys.Key.{Key}
use Rattle.init_match.specs.declared.keys.Call.{Call}
use Rattle.init_match.specs.Matching.{Pair, ArePaired}
use Rattle.init_match.specs.World.{WorldState, init_answer, after_init}

-- a call with a name, by which it is known in each merge
pub record Named : Type 0 where
  pub name : ℕ
  pub call : Call

-- the rank that makes a call of a side and a key
abbrev pub owner : Side → Key → ℕ
owner SendSide key = key.from
owner RecvSide key = key.to

-- each rank's list has only sends from that rank and receives to that rank
abbrev pub AreOwn : List (List Named) → Type 0
AreOwn lists =
    (rank n : ℕ) (c : Named) → slice_get (slice_index_or lists rank []) n ≡ Some c
    → owner c.call.side c.call.key ≡ rank

-- a merge takes the first call of some rank's list, and goes on with what is left, until nothing is
abbrev pub IsMerge : List (List Named) → List Named → Type 0
IsMerge lists [] = (rank : ℕ) → slice_index_or lists rank [] ≡ []
IsMerge lists (c ∷ calls) =
    (rank : ℕ) × (rest : List Named) × (slice_get lists rank ≡ Some (c ∷ rest))
    × IsMerge (slice_set lists rank rest) calls

-- each call is accepted in its turn
abbrev pub AreAccepted : WorldState → List Call → Type 0
AreAccepted w [] = ⊤
AreAccepted w (c ∷ calls) = IsOk (init_answer w c) × AreAccepted (after_init w c (init_answer w c)) calls

-- two of the calls are the send and the receive of a pair
pub record AreMatched (calls : List Named) (a b : Named) : Type 0 where
  pub pair : Pair
  pub paired : ArePaired (map (λ c. c.call) calls) pair
  pub send : slice_get calls pair.send.0 ≡ Some a
  pub recv : slice_get calls pair.recv.0 ≡ Some b

-- where one merge is accepted, each merge is, and the same calls are paired
pub record MergesAgree (w : WorldState) (calls others : List Named) : Type 0 where
  pub accepted : AreAccepted w (map (λ c. c.call) others)
  pub matched : (a b : Named) → AreMatched calls a b → AreMatched others a b

abbrev pub DoMergesAgree : Type 0
DoMergesAgree =
    (w : WorldState) (lists : List (List Named)) (calls others : List Named)
    → w.calls ≡ [] → AreOwn lists → IsMerge lists calls → IsMerge lists others
    → AreAccepted w (map (λ c. c.call) calls) → MergesAgree w calls others
