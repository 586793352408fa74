-- The two sides of a pair, each by itself: what a start and a test do to it (MPI 4.0, 4.2.2).
use Rattle.std.specs.Prelude.{◌≡◌, ℕ, Bool, true, false, Result, Ok, Err}
use Rattle.part_geometry.specs.declared.answers.RecvTest.{RecvTest}
use Rattle.part_geometry.specs.declared.answers.RecvTest.TheVariants as recv
use Rattle.part_geometry.specs.declared.answers.StartFault.{StartFault}
use Rattle.plain_pair.specs.declared.answers.PlainSendTest.{PlainSendTest}
use Rattle.plain_pair.specs.declared.answers.PlainSendTest.TheVariants as send
use Rattle.plain_pair.specs.Kept.{Kept}

-- whether a side is active, and its round, 0 before the first
pub record SideState : Type 0 where
  pub active : Bool
  pub round : ℕ

abbrev pub send_side : Kept → SideState
send_side kept = record { active = kept.sending; round = kept.sent }

abbrev pub recv_side : Kept → SideState
recv_side kept = record { active = kept.receiving; round = kept.received }

-- a start that is accepted makes the side active in the new round
abbrev pub side_started : Result ℕ StartFault → SideState → SideState
side_started (Ok k) side = record { active = true; round = k }
side_started (Err _) side = side

-- a test makes the side inactive where it answers `Done`
abbrev pub side_sent : PlainSendTest → SideState → SideState
side_sent send.Done side = record side { active = false }
side_sent _ side = side

abbrev pub side_received : RecvTest → SideState → SideState
side_received recv.Done side = record side { active = false }
side_received _ side = side

-- both sides are active as before, in the same rounds
pub record SameSides (old new : Kept) : Type 0 where
  pub send : send_side new ≡ send_side old
  pub recv : recv_side new ≡ recv_side old
