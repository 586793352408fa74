use Rattle.std.proofs.Common.{◌≡◌, replicate}
use Rattle.plain_pair.proofs.buffer.zero_buffers.Given as goal

abbrev pub invariant-loop-i : goal.invariant-loop-i
invariant-loop-i l = l.buffers.items ≡ replicate l._i (replicate l.len 0)
