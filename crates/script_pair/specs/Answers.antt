-- What an action on a request of a matched pair answers, and what is known after it.
use Rattle.std.specs.Prelude.{ℕ, Bool, true, false, if◌then◌else◌, codes, List, Result, Ok}
use Rattle.part_geometry.specs.declared.answers.StartFault.{StartFault}
use Rattle.part_geometry.specs.Shape.{Shape}
use Rattle.part_geometry.specs.declared.answers.Side.{Side}
use Rattle.part_geometry.specs.declared.answers.Side.TheVariants.{SendSide, RecvSide}
use Rattle.part_api.specs.States.{start_told, state_started, state_sent, state_received, free_answer, state_freed}
use Rattle.plain_pair.specs.Record.{Record}
use Rattle.plain_pair.specs.Moves.{start_send_answer, after_start_send, start_recv_answer, after_start_recv, pready_answer, after_pready, parrived_answer, take_answer, after_take, gave_back, test_send_answer, after_test_send, test_recv_answer, after_test_recv}
use Rattle.plain_pair.specs.Many.{pready_range_answer, after_pready_range, pready_list_answer, after_pready_list}
use Rattle.script_text.specs.declared.call.Action.{Action}
use Rattle.script_text.specs.declared.call.Action.TheVariants.{Start, Ready, ReadyRange, ReadyList, Arrived, Take, Back, Test, Free}
use Rattle.script_pair.specs.Desk.{Desk, state_of, with_state, is_freed, is_kept}
use Rattle.script_pair.specs.Texts.{start_text, ready_text, marks_text, arrived_text, take_text, back_text, send_test_text, recv_test_text, free_text}

-- marks are made on the send side; looks, takes and returns on the receive side
abbrev pub is_of_send : Action → Bool
is_of_send (Ready round partition bytes) = true
is_of_send (ReadyRange round low high bytes) = true
is_of_send (ReadyList round listed bytes) = true
is_of_send _ = false

abbrev pub is_of_recv : Action → Bool
is_of_recv (Arrived q) = true
is_of_recv (Take q) = true
is_of_recv (Back q) = true
is_of_recv _ = false

-- the action is of the other side
abbrev pub is_wrong_side : Side → Action → Bool
is_wrong_side SendSide a = is_of_recv a
is_wrong_side RecvSide a = is_of_send a

-- the record after an action
abbrev pub with_record : Desk → Record → Desk
with_record d r = record d { record_ = r }

-- a start of a side
abbrev pub start_of : Side → Record → Result ℕ StartFault
start_of SendSide r = start_send_answer r
start_of RecvSide r = start_recv_answer r

abbrev pub after_start : Side → Record → Record
after_start SendSide r = after_start_send r
after_start RecvSide r = after_start_recv r

abbrev pub started : Side → Desk → Desk
started s d =
    with_state s (with_record d (after_start s d.record_))
    (state_started (start_told (start_of s d.record_)) (state_of s d))

-- a test of the send, and of the receive
abbrev pub tested_send : Shape → Desk → Desk
tested_send g d = record {
  record_ = after_test_send g d.record_;
  send = state_sent (Ok (test_send_answer g d.record_)) d.send;
  recv = d.recv;
}

abbrev pub tested_recv : Shape → Desk → Desk
tested_recv g d = record {
  record_ = after_test_recv g d.record_;
  send = d.send;
  recv = state_received (Ok (test_recv_answer g d.record_)) d.recv;
}

abbrev pub test_text : Shape → Side → Desk → List ℕ
test_text g SendSide d = send_test_text (test_send_answer g d.record_)
test_text g RecvSide d = recv_test_text (test_recv_answer g d.record_)

abbrev pub tested : Shape → Side → Desk → Desk
tested g SendSide d = tested_send g d
tested g RecvSide d = tested_recv g d

-- a return of what is kept
abbrev pub after_back : Shape → Record → ℕ → Record
after_back g r q = if is_kept g r q then gave_back r q else r

-- a request that isn't active is given up
abbrev pub freed : Side → Desk → Desk
freed s d = with_state s d (state_freed (free_answer (state_of s d)) (state_of s d))

-- what an action answers on a request of its side that isn't freed
abbrev pub own_answer : Shape → Side → Desk → Action → List ℕ
own_answer g s d Start = start_text (start_told (start_of s d.record_))
own_answer g s d (Ready round partition bytes) = ready_text (pready_answer g d.record_ round partition bytes)
own_answer g s d (ReadyRange round low high bytes) = marks_text (pready_range_answer g d.record_ round low high bytes)
own_answer g s d (ReadyList round listed bytes) = marks_text (pready_list_answer g d.record_ round listed bytes)
own_answer g s d (Arrived q) = arrived_text (parrived_answer g d.record_ q)
own_answer g s d (Take q) = take_text (take_answer g d.record_ q)
own_answer g s d (Back q) = back_text (is_kept g d.record_ q)
own_answer g s d Test = test_text g s d
own_answer g s d Free = free_text (free_answer (state_of s d))

abbrev pub after_own : Shape → Side → Desk → Action → Desk
after_own g s d Start = started s d
after_own g s d (Ready round partition bytes) = with_record d (after_pready g d.record_ round partition bytes)
after_own g s d (ReadyRange round low high bytes) = with_record d (after_pready_range g d.record_ round low high bytes)
after_own g s d (ReadyList round listed bytes) = with_record d (after_pready_list g d.record_ round listed bytes)
after_own g s d (Arrived q) = d
after_own g s d (Take q) = with_record d (after_take g d.record_ q)
after_own g s d (Back q) = with_record d (after_back g d.record_ q)
after_own g s d Test = tested g s d
after_own g s d Free = freed s d

-- a freed request refuses all, and then an action of the other side is refused
abbrev pub refused : Side → Desk → Action → Bool
refused s d a = if is_freed (state_of s d) then true else is_wrong_side s a

abbrev pub answer : Shape → Side → Desk → Action → List ℕ
answer g s d a =
    if is_freed (state_of s d) then codes "refused Freed"
    else if is_wrong_side s a then codes "refused WrongSide"
    else own_answer g s d a

abbrev pub after : Shape → Side → Desk → Action → Desk
after g s d a = if refused s d a then d else after_own g s d a
