use Rattle.pair_rule.proofs.pair.Pair.mark_piece.Given as goal

abbrev pub ghosts-mark_piece_as : goal.ghosts-mark_piece_as
ghosts-mark_piece_as g a = record { one = a.partition; two = a.piece }
