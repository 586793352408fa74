use Rattle.std.proofs.Common.{◌≡◌, map}
use Rattle.std.specs.List.{range_with_len}
use Rattle.pair_rule.specs.First.{first_in_slot}
use Rattle.pair_rule.proofs.first.first_bufs.Given as goal

abbrev pub invariant-loop-n : goal.invariant-loop-n
invariant-loop-n l = l.bufs.items ≡ map (first_in_slot l.fn.tables) (range_with_len 0 l.n)
