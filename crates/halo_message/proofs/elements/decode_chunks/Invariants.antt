use Rattle.std.proofs.Common.{◌≡◌, ◌≤◌, ◌-◌, length, take}
use Rattle.halo_message.specs.Elements.{decoded}
use Rattle.halo_message.proofs.elements.decode_chunks.Given as goal

-- the first elements are read
abbrev pub invariant-loop-done : goal.invariant-loop-done
invariant-loop-done g l = record {
  inside : l.done ≤ length l.fn.out;
  values : take l.done l.out ≡ decoded l.done l.arrival.bytes;
}

abbrev pub decreases-loop-done : goal.decreases-loop-done
decreases-loop-done g l = length l.out - l.done
