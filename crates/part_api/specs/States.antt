-- The states of a request: what it answers in each, and which state follows.
use Rattle.std.specs.Prelude.{◌≡◌, ℕ, ◌+◌, ◌≤◌, ◌==◌, Bool, true, false, if◌then◌else◌, Result, Ok, Err, ⊤}
use Rattle.part_geometry.specs.declared.TheConstants.{LAST_ROUND}
use Rattle.part_geometry.specs.declared.answers.RecvTest.{RecvTest}
use Rattle.part_geometry.specs.declared.answers.RecvTest.TheVariants as recv
use Rattle.part_geometry.specs.declared.answers.StartFault.{StartFault}
use Rattle.part_geometry.specs.declared.answers.StartFault.TheVariants as start
use Rattle.plain_pair.specs.declared.answers.PlainSendTest.{PlainSendTest}
use Rattle.plain_pair.specs.declared.answers.PlainSendTest.TheVariants as send
use Rattle.plain_pair.specs.Sides.{SideState}
use Rattle.part_api.specs.declared.faults.FreeFault.{FreeFault}
use Rattle.part_api.specs.declared.faults.FreeFault.TheVariants as free
use Rattle.part_api.specs.declared.faults.Freed.{Freed}
use Rattle.part_api.specs.declared.faults.ReqFault.{ReqFault}
use Rattle.part_api.specs.declared.faults.ReqFault.TheVariants as fault
use Rattle.part_api.specs.declared.request.ReqState.{ReqState}
use Rattle.part_api.specs.declared.request.ReqState.TheVariants as state

-- matched and not freed
abbrev pub is_in_use : ReqState → Bool
is_in_use state.Unmatched = false
is_in_use state.Freed = false
is_in_use _ = true

-- not freed, and in no round
abbrev pub is_idle : ReqState → Bool
is_idle (state.Started k) = false
is_idle state.Freed = false
is_idle _ = true

-- a request that is in use says of its side of the pair whether it is active, and in which round it is
abbrev pub Agrees : ReqState → SideState → Type 0
Agrees state.Unmatched side = ⊤
Agrees state.Inactive side = (side.active ≡ false) × (side.round ≡ 0)
Agrees (state.Started k) side = (side.active ≡ true) × (side.round ≡ k) × (1 ≤ k)
Agrees (state.Complete k) side = (side.active ≡ false) × (side.round ≡ k) × (1 ≤ k)
Agrees state.Freed side = ⊤

-- what a request refuses by itself
abbrev pub refusal : ReqState → Result (Unit {0}) ReqFault
refusal state.Freed = Err fault.Freed
refusal state.Unmatched = Err fault.Unmatched
refusal _ = Ok tt

-- the round after round k
abbrev pub next_round : ℕ → Result ℕ ReqFault
next_round k = if k == LAST_ROUND then Err fault.RoundsSpent else Ok (k + 1)

-- what a start answers
abbrev pub start_by_state : ReqState → Result ℕ ReqFault
start_by_state state.Freed = Err fault.Freed
start_by_state state.Unmatched = Err fault.Unmatched
start_by_state state.Inactive = next_round 0
start_by_state (state.Started k) = Err (fault.AlreadyActive k)
start_by_state (state.Complete k) = next_round k

-- the answer of the pair's start, as the request tells it
abbrev pub start_told : Result ℕ StartFault → Result ℕ ReqFault
start_told (Ok k) = Ok k
start_told (Err (start.AlreadyActive k)) = Err (fault.AlreadyActive k)
start_told (Err start.RoundsSpent) = Err fault.RoundsSpent

-- a start that is accepted makes the request active
abbrev pub state_started : Result ℕ ReqFault → ReqState → ReqState
state_started (Ok k) s = state.Started k
state_started (Err _) s = s

-- a test that answers `Done` completes it
abbrev pub completed : ReqState → ReqState
completed (state.Started k) = state.Complete k
completed s = s

abbrev pub state_sent : Result PlainSendTest Freed → ReqState → ReqState
state_sent (Ok send.Done) s = completed s
state_sent _ s = s

abbrev pub state_received : Result RecvTest Freed → ReqState → ReqState
state_received (Ok recv.Done) s = completed s
state_received _ s = s

-- a request is freed unless it is freed already, isn't matched or is active
abbrev pub free_answer : ReqState → Result (Unit {0}) FreeFault
free_answer state.Freed = Err free.Freed
free_answer state.Unmatched = Err free.Unmatched
free_answer (state.Started k) = Err (free.Active k)
free_answer _ = Ok tt

abbrev pub state_freed : Result (Unit {0}) FreeFault → ReqState → ReqState
state_freed (Ok u) s = state.Freed
state_freed (Err _) s = s
