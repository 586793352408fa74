use Rattle.std.proofs.Common.{◌≡◌, ◌≤◌, ◌-◌}
use Rattle.pair_rule.specs.Parts.{untaken}
use Rattle.pair_rule.proofs.recv.renew.Given as goal

abbrev pub invariant-loop-at : goal.invariant-loop-at
invariant-loop-at l = record {
  lanes : l.lanes ≡ untaken l.from (l.at - l.from) l.fn.lanes;
  from : l.from ≤ l.at;
  most : l.at - l.from ≤ 32;
}
