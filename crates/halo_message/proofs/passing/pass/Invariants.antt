use Rattle.std.proofs.Common.{◌≡◌, take}
use Rattle.halo_message.specs.Message.{shape_of}
use Rattle.halo_message.specs.Elements.{encoded, part_start}
use Rattle.halo_message.specs.Passing.{IsTaking, Stands}
use Rattle.halo_message.proofs.passing.pass.Given as goal

-- the first receive partitions were taken and given back, and their values are there
abbrev pub invariant-loop-q : goal.invariant-loop-q
invariant-loop-q l = record {
  pair : Stands (shape_of l.message) l.pair (IsTaking (shape_of l.message) l.round (encoded l.message l.values) l.q);
  values : take (part_start l.message l.q) l.out ≡ take (part_start l.message l.q) l.values;
}
