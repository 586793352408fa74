use Rattle.pair_rule.proofs.pair.Pair.join_watcher.Given as goal

abbrev pub ghosts-load_claim_as : goal.ghosts-load_claim_as
ghosts-load_claim_as g a = record { one = 0; two = 0 }
