use Rattle.std.proofs.Common.{rules}
use Rattle.gate_word.specs.Words.{bits_in}
use Rattle.gate_word.proofs.word.bits_of.Goals as goal

pub returns : goal.returns
unfolding bits_in
returns c = search rules
