-- What the script knows of a matched pair: its record, and the states of its two requests.
use Rattle.std.specs.Prelude.{ℕ, Bool, true, false, ◌&&◌, not, nat_lt}
use Rattle.std.specs.FinSet as parts
use Rattle.part_geometry.specs.Shape.{Shape}
use Rattle.part_api.specs.declared.request.ReqState.{ReqState}
use Rattle.part_api.specs.declared.request.ReqState.TheVariants as state
use Rattle.part_geometry.specs.declared.answers.Side.{Side}
use Rattle.part_geometry.specs.declared.answers.Side.TheVariants.{SendSide, RecvSide}
use Rattle.plain_pair.specs.Record.{Record, first_record}

pub record Desk : Type 0 where
  pub record_ : Record
  pub send : ReqState
  pub recv : ReqState

-- before any call
abbrev pub first_desk : Desk
first_desk = record { record_ = first_record; send = state.Inactive; recv = state.Inactive }

-- the request of a side
abbrev pub state_of : Side → Desk → ReqState
state_of SendSide d = d.send
state_of RecvSide d = d.recv

abbrev pub with_state : Side → Desk → ReqState → Desk
with_state SendSide d s = record d { send = s }
with_state RecvSide d s = record d { recv = s }

abbrev pub is_freed : ReqState → Bool
is_freed state.Freed = true
is_freed _ = false

-- an arrival of partition q is kept: it was taken in the receiver's round, and isn't given back
abbrev pub is_kept : Shape → Record → ℕ → Bool
is_kept g r q = nat_lt q g.recv_parts && (r.receiving && parts.contains r.taken q && not (parts.contains r.back q))
