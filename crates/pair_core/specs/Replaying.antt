-- What a step and a list of steps make of a state.
use Rattle.std.specs.Prelude.{◌≡◌, ℕ, zero, suc, List, [], ◌∷◌, ◌++◌, length, slice_get, Some}
use Rattle.part_geometry.specs.Shape.{Shape}
use Rattle.pair_core.specs.Core.{Core}
use Rattle.pair_core.specs.Moves.{Move, IsAllowed, after, first_state}
use Rattle.pair_core.specs.History.{Entry, Happened, entries}
use Rattle.pair_core.specs.State.{Plain}
use Rattle.pair_core.specs.Shows.{Shows, geometry_of}
use Rattle.pair_core.specs.Events.{Reads}
use Rattle.pair_core.specs.declared.event.Event.{Event}
use Rattle.pair_core.specs.declared.outcome.Step.{Step}
use Rattle.pair_core.specs.declared.outcome.Step.TheVariants.{Next, NotAllowed}
use Rattle.pair_core.specs.declared.outcome.Replay.{Replay}
use Rattle.pair_core.specs.declared.outcome.Replay.TheVariants.{Ran, Stopped}

-- no move that an event is, is allowed
abbrev pub IsRefused : Shape → Core Plain → Event → Type 0
IsRefused g s e = (m : Move Plain) → Reads g s e m → ¬ IsAllowed g s m

-- The step of an event from the core s: the event is a move that is allowed, and the next state shows the core after
-- it; or it is refused.
abbrev pub Steps : Shape → Event → Core Plain → Step → Type 0
Steps g e s (Next t) =
    (geometry_of t ≡ g) × ((m : Move Plain) × Reads g s e m × IsAllowed g s m × Shows t (after g s m))
Steps g e s NotAllowed = IsRefused g s e

-- The first n of some events are the moves ms, each an allowed move of the core before it; they lead from the first
-- state to the core s and the history h. The newest move stands first.
abbrev pub Replayed : Shape → List Event → ℕ → List (Move Plain) → Core Plain → List Entry → Type 0
Replayed g events zero [] s h = (s ≡ first_state g) × (h ≡ [])
Replayed g events zero (m ∷ ms) s h = ⊥
Replayed g events (suc n) [] s h = ⊥
Replayed g events (suc n) (m ∷ ms) s h =
    (e : Event) × (t : Core Plain) × (before : List Entry) × (slice_get events n ≡ Some e)
    × Replayed g events n ms t before
    × Reads g t e m × IsAllowed g t m × (s ≡ after g t m) × (h ≡ entries g t m ++ before)

-- the first n of some events can be made one after the other, and this holds of the core that they lead to
abbrev pub LeadsTo : Shape → List Event → ℕ → (Core Plain → Type 0) → Type 0
LeadsTo g events n Holds =
    (ms : List (Move Plain)) × (s : Core Plain) × (h : List Entry) × Replayed g events n ms s h × Happened g ms s h
    × Holds s

-- What a replay of some events gives: the state that all of them lead to; or the place of the first that isn't allowed.
abbrev pub Replays : Shape → List Event → Replay → Type 0
Replays g events (Ran t) = (geometry_of t ≡ g) × LeadsTo g events (length events) (Shows t)
Replays g events (Stopped at) =
    LeadsTo g events at (λ s. (e : Event) × (slice_get events at ≡ Some e) × IsRefused g s e)

-- An event is one move at most that is allowed, and so some events lead to one core and one history at most: a replay
-- that ran all of them couldn't have stopped.
abbrev pub IsOneMove : Shape → Type 0
IsOneMove g =
    (s : Core Plain) (e : Event) (m n : Move Plain) → Reads g s e m → IsAllowed g s m → Reads g s e n → IsAllowed g s n
    → m ≡ n

abbrev pub LeadToOne : Shape → Type 0
LeadToOne g = (events : List Event) (n : ℕ) (ms ns : List (Move Plain)) (s t : Core Plain) (h k : List Entry)
    → Replayed g events n ms s h → Replayed g events n ns t k → (ms ≡ ns) × (s ≡ t) × (h ≡ k)
