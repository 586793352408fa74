use Rattle.std.proofs.Common.{◌≡◌, map}
use Rattle.std.specs.List.{range_with_len}
use Rattle.pair_rule.specs.Parts.{first_shelf}
use Rattle.pair_rule.proofs.take.lay_shelves.Given as goal

abbrev pub invariant-loop-q : goal.invariant-loop-q
invariant-loop-q l = record {
  items : l.shelves.items ≡ map (first_shelf l.tables) (range_with_len 0 l.q);
}
