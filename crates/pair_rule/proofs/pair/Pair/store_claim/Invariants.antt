use Rattle.pair_rule.proofs.pair.Pair.store_claim.Given as goal

abbrev pub ghosts-store_claim_as : goal.ghosts-store_claim_as
ghosts-store_claim_as g a = record { one = a.word; two = 0 }
