use Rattle.std.proofs.Common.{sym, subst, arith}
use Rattle.gate_word.specs.Words.{Has}
use Rattle.gate_word.proofs.Packing.{made, made_or}
use Rattle.gate_word.proofs.word.pack.Goals as goal

pub returns-clause-value : goal.returns-clause-value
returns-clause-value c =
    rw (c.from.ensures, c.from-3.ensures)
    (made_or c.args.round c.args.shut c.from-2.result c.args.bits c.requires.round c.from-2.ensures (omega (arith, c.ranges.bits.fits)))

pub returns-clause-parts : goal.returns-clause-parts
returns-clause-parts c =
    subst (λ w. Has w c.args.round c.args.shut c.args.bits) (sym (returns-clause-value c))
    (made c.args.round c.args.shut c.args.bits (omega (arith, c.ranges.bits.fits)))
