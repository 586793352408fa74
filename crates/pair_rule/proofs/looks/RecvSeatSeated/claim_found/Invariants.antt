use Rattle.pair_rule.proofs.looks.RecvSeatSeated.claim_found.Given as goal

abbrev pub ghosts-load_claim_as : goal.ghosts-load_claim_as
ghosts-load_claim_as g a = record { one = a.word; two = 0 }
