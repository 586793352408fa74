use Rattle.pair_rule.proofs.pair.Pair.store_piece.Given as goal

abbrev pub ghosts-store_piece_as : goal.ghosts-store_piece_as
ghosts-store_piece_as g a = record { one = a.round; two = a.piece }
