-- Matching: the k-th accepted send of a key and the k-th accepted receive of that key are a pair, each counted among
-- the accepted calls. By what calls match is after MPI 4.0, 4.2.1; in which order is this project's own.
use Rattle.std.specs.Prelude.{◌≡◌, ◌⊎◌, ◌↔◌, ℕ, ◌<◌, Option, Some, List, [], ◌∷◌, ◌++◌, length, max, take, slice_get, option_map, option_and_then, option_to_list}
use Rattle.part_geometry.specs.declared.answers.Side.{Side}
use Rattle.part_geometry.specs.declared.answers.Side.TheVariants.{SendSide, RecvSide}
use Rattle.init_match.specs.declared.keys.Key.{Key}
use Rattle.init_match.specs.declared.keys.Call.{Call}
use Rattle.init_match.specs.Calls.{facing, of_key}

-- a send and a receive, each with its slot
pub record Pair : Type 0 where
  pub send : ℕ × Call
  pub recv : ℕ × Call

-- the k-th send of a key and the k-th receive of that key
pub record ArePaired (calls : List Call) (p : Pair) : Type 0 where
  pub key : Key
  pub turn : ℕ
  pub send : slice_get (of_key SendSide key calls) turn ≡ Some p.send
  pub recv : slice_get (of_key RecvSide key calls) turn ≡ Some p.recv

-- how many calls of its own side and key a call finds when it is made
abbrev pub turn_of : List Call → Call → ℕ
turn_of before c = length (of_key c.side c.key before)

-- the call that it is paired with then, if that one is there already
abbrev pub partner_before : List Call → Call → Option (ℕ × Call)
partner_before before c = slice_get (of_key (facing c.side) c.key before) (turn_of before c)

-- a call of a side, and its partner
abbrev pub pair_with : Side → ℕ × Call → ℕ × Call → Pair
pair_with SendSide own other = record { send = own; recv = other }
pair_with RecvSide own other = record { send = other; recv = own }

-- the pair that a call completes
abbrev pub completed_by : List Call → Call → Option Pair
completed_by before c = option_map (pair_with c.side (length before, c)) (partner_before before c)

-- the pairs in the order in which they are completed, which is that of their later calls
abbrev pub pairs_after : List Call → List Call → List Pair
pairs_after before [] = []
pairs_after before (c ∷ rest) = option_to_list (completed_by before c) ++ pairs_after (before ++ c ∷ []) rest

unfoldable pub pairs_of : List Call → List Pair
pairs_of calls = pairs_after [] calls

-- the other slot of the pair that a slot is in
unfoldable pub partner_of : List Call → ℕ → Option ℕ
partner_of calls slot =
    option_map (λ p. p.0) (
    option_and_then (λ c. slice_get (of_key (facing c.side) c.key calls) (turn_of (take slot calls) c))
    (slice_get calls slot))

-- the slot of the later call of a pair
abbrev pub later_slot : Pair → ℕ
later_slot p = max p.send.0 p.recv.0

-- these are all pairs of the calls, in the order of their later calls
pub record ArePairsOf (calls : List Call) (pairs : List Pair) : Type 0 where
  pub all : (p : Pair) → ArePaired calls p → (n : ℕ) × (slice_get pairs n ≡ Some p)
  pub only : (n : ℕ) (p : Pair) → slice_get pairs n ≡ Some p → ArePaired calls p
  pub ordered : (m n : ℕ) (p q : Pair) → m < n → slice_get pairs m ≡ Some p → slice_get pairs n ≡ Some q
      → later_slot p < later_slot q

-- the list of pairs is that
abbrev pub AreThePairs : Type 0
AreThePairs = (calls : List Call) → ArePairsOf calls (pairs_of calls)

-- two slots are those of a pair
pub record ArePartners (calls : List Call) (slot other : ℕ) : Type 0 where
  pub pair : Pair
  pub paired : ArePaired calls pair
  pub slots : ((pair.send.0 ≡ slot) × (pair.recv.0 ≡ other)) ⊎ ((pair.recv.0 ≡ slot) × (pair.send.0 ≡ other))

-- the partner of a slot is the other slot of the pair that it is in
abbrev pub IsThePartner : Type 0
IsThePartner =
    (calls : List Call) (slot other : ℕ) → (partner_of calls slot ≡ Some other) ↔ ArePartners calls slot other
