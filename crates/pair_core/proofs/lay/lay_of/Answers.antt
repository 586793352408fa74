use Rattle.std.proofs.Common.{◌∙◌, ℕ, ap, sym, arith}
use Rattle.pair_core.specs.Names.{Piece, number}
use Rattle.pair_core.proofs.lay.lay_of.Goals as goal

pub returns-then-not-lacks-clause-none : goal.returns-then-not-lacks-clause-none
returns-then-not-lacks-clause-none c = grind arith

pub returns-clause-some : goal.returns-clause-some
returns-clause-some c = grind arith

pub returns-then-pending-partition-clause-none : goal.returns-then-pending-partition-clause-none
returns-then-pending-partition-clause-none c = grind arith

pub returns-in_default-clause-none : goal.returns-in_default-clause-none
returns-in_default-clause-none c = λ i on may.
    c.in_default.ensures.none i may.piece (on ∙ sym (ap (λ (z : ℕ). number c.args.tables.now (Piece z i)) c.place-place.ensures.value))
