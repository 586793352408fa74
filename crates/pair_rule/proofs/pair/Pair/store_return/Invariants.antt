use Rattle.pair_rule.proofs.pair.Pair.store_return.Given as goal

abbrev pub ghosts-store_return_as : goal.ghosts-store_return_as
ghosts-store_return_as g a = record { one = a.round; two = a.word }
