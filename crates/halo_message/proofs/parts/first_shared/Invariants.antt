use Rattle.std.proofs.Common.{◌-◌, ◌+◌}
use Rattle.halo_message.proofs.Finding.{Walked}
use Rattle.halo_message.proofs.parts.first_shared.Given as goal

-- no shared multiple lies between the first number and where the walk stands
abbrev pub invariant-loop-n : goal.invariant-loop-n
invariant-loop-n l = Walked l.send_parts l.recv_parts l.from l.step l.n

abbrev pub decreases-loop-n : goal.decreases-loop-n
decreases-loop-n l = l.from + 8192 - l.n
