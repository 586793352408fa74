use Rattle.pair_rule.proofs.pair.Pair.shut_claim.Given as goal

abbrev pub ghosts-shut_claim_as : goal.ghosts-shut_claim_as
ghosts-shut_claim_as g a = record { one = a.word; two = 0 }
