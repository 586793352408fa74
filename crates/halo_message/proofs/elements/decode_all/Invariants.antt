use Rattle.std.proofs.Common.{◌≡◌, take}
use Rattle.halo_message.specs.Elements.{decoded}
use Rattle.halo_message.proofs.elements.decode_all.Given as goal

abbrev pub invariant-loop-i : goal.invariant-loop-i
invariant-loop-i l = take l.i l.out ≡ decoded l.i l.bytes
