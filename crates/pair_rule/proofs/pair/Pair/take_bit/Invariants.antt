use Rattle.pair_rule.proofs.pair.Pair.take_bit.Given as goal

abbrev pub ghosts-take_bit_as : goal.ghosts-take_bit_as
ghosts-take_bit_as g a = record { part = a.q; may = g.C.Content.may a.self.now.key.tag }
