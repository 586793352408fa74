use Rattle.pair_rule.proofs.pair.Pair.try_claim.Given as goal

abbrev pub ghosts-try_claim_as : goal.ghosts-try_claim_as
ghosts-try_claim_as g a = record { partition = a.partition; bytes = a.bytes.now }
