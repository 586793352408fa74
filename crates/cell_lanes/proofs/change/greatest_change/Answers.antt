use Rattle.std.proofs.Common.{sym, ap, pos, ℕ, to_z, w64, arith}
use Rattle.std.proofs.lemmas.Int.{ints}
use Rattle.cell_lanes.proofs.ChangeFacts.{greatest-none, change-next, gap}
use Rattle.cell_lanes.proofs.change.greatest_change.Goals as goal

pub loop-x-init : goal.loop-x-init
loop-x-init c = record {
  most = ap (λ (m : ℕ). pos m) (sym (greatest-none (gap c.args.old.now c.args.new.now)));
  limits = (omega (arith, ints), omega (arith, ints));
}

pub loop-x-preserved : goal.loop-x-preserved
loop-x-preserved c =
    let both = change-next c.args.old.now c.args.new.now c.loop-x.x (to_z w64 c.loop-x.most-bits) c.abs.result c.max-most.result c.requires.old c.requires.new c.loop-x.invariant.most c.loop-x.invariant.limits
    c.abs.ensures.value c.max-most.ensures in
    record { most = both.0; limits = both.1 }
