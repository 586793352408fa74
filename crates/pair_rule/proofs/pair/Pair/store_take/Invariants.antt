use Rattle.pair_rule.proofs.pair.Pair.store_take.Given as goal

abbrev pub ghosts-store_take_as : goal.ghosts-store_take_as
ghosts-store_take_as g a = record { one = a.word; two = 0 }
