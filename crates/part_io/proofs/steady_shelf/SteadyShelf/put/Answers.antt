-- The key has the bytes of the name, so that name, and no other, has the copy.
use Rattle.std.proofs.Common.{arith}
use Rattle.std.proofs.lemmas.Map.Text.{text_keys}
use Rattle.part_io.proofs.steady_shelf.SteadyShelf.put.Goals as goal

pub returns-clause-ok : goal.returns-clause-ok
returns-clause-ok c = record {
  there = grind (arith, text_keys);
  others = λ other differs. grind (arith, text_keys);
}
