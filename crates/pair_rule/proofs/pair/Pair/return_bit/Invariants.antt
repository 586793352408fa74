use Rattle.pair_rule.proofs.pair.Pair.return_bit.Given as goal

abbrev pub ghosts-return_bit_as : goal.ghosts-return_bit_as
ghosts-return_bit_as g a = record { one = a.q; two = 0 }
