use Rattle.std.proofs.Common.{◌≡◌, ◌+◌, ◌-◌, ◌/◌, ◌%◌, ◌≤◌}
use Rattle.gate_word.specs.Order.{IsLater}
use Rattle.pair_core.specs.Names.{Claim}
use Rattle.pair_rule.specs.Views.{seen}
use Rattle.part_send.specs.Looking.{saw_often}
use Rattle.part_send.specs.Marking.{Lets}
use Rattle.part_send.proofs.Winning.{others}
use Rattle.part_send.proofs.claim.claim.Given as goal

abbrev pub invariant-loop : goal.invariant-loop
invariant-loop g l = record {
  number : l.told.number ≡ l.partition / 32;
  seat : l.seat ≡ record l.fn.seat { view = saw_often (l.steps - l.fn.steps) (Claim (l.partition / 32)) l.told.word l.fn.seat.view };
  later : IsLater (seen l.fn.seat.view (Claim (l.partition / 32))) l.told.word;
  least : l.fn.steps + l.counter ≤ l.steps;
  most : l.steps ≤ l.fn.steps + 1 + l.counter;
  lets : l.steps ≡ l.fn.steps → Lets l.told.word l.round l.partition;
  few : Lets l.told.word l.round l.partition → l.counter ≤ others l.told.word (l.partition % 32) 32;
}
