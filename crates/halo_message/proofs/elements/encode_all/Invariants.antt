use Rattle.std.proofs.Common.{◌≡◌, ◌*◌, take}
use Rattle.std.specs.List.{flat_map}
use Rattle.halo_message.specs.Elements.{element}
use Rattle.halo_message.proofs.elements.encode_all.Given as goal

abbrev pub invariant-loop-i : goal.invariant-loop-i
invariant-loop-i l = take (l.i * 8) l.out ≡ flat_map element (take l.i l.values)
