use Rattle.pair_rule.proofs.looks.SendSeatSeated.piece_found.Given as goal

abbrev pub ghosts-load_piece_as : goal.ghosts-load_piece_as
ghosts-load_piece_as g a = record { one = a.place; two = a.piece }
