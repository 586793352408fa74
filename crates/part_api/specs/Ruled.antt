-- The sides of a running pair as its ends know them, and what a start or a test of an end through a request does.
use Rattle.std.specs.Prelude.{◌≡◌, ℕ, true, Result, Ok, Err, IfOk}
use Rattle.plain_pair.specs.Sides.{SideState}
use Rattle.pair_rule.specs.Seats.{Held}
use Rattle.pair_rule.specs.declared.view.View.{View}
use Rattle.part_send.specs.Ends as sender
use Rattle.part_send.specs.declared.answers.SendTest.{SendTest}
use Rattle.part_send.specs.declared.answers.SendTest.TheVariants as send
use Rattle.part_recv.specs.Receiving as receiver
use Rattle.part_api.specs.declared.faults.Freed.{Freed}
use Rattle.part_api.specs.declared.faults.ReqFault.{ReqFault}
use Rattle.part_api.specs.declared.request.ReqState.{ReqState}
use Rattle.part_api.specs.States.{completed, start_told}

-- whether a side is active, and in which round it is or was last
abbrev pub send_side : View → SideState
send_side d = record { active = sender.is_active d; round = d.send.round }

abbrev pub recv_side : View → SideState
recv_side d = record { active = receiver.is_active d; round = d.recv.round }

-- the send end was started, with this answer told by the request
pub record SendStarts (old new : Held) (answer : Result ℕ ReqFault) : Type 0 where
  pub told : answer ≡ start_told (sender.start_answer old.view)
  pub end : new ≡ record old { view = sender.after_start old.view (sender.start_answer old.view) }
  pub markers : new.view.send.markers ≡ old.view.send.markers

-- the receive end was started, with this answer told by the request
pub record RecvStarts (old new : receiver.End) (answer : Result ℕ ReqFault) : Type 0 where
  pub told : answer ≡ start_told (receiver.start_answer old.view)
  pub end : new ≡ receiver.after_start old
  pub active : IfOk answer (λ k. (new.view.recv.round ≡ k) × receiver.IsSide true new.view)

-- a test of a send that was answered `Done` completes the request
abbrev pub state_tested : Result SendTest Freed → ReqState → ReqState
state_tested (Ok send.Done) s = completed s
state_tested _ s = s
