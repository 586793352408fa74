use Rattle.std.proofs.Common.{◌≡◌, ◌<◌, length, get_or}
use Rattle.pair_core.specs.Names.{Name, Fits, number}
use Rattle.pair_core.specs.Moves.{first_word}
use Rattle.pair_core.proofs.first.first_words.Given as goal

abbrev pub invariant-loop-n : goal.invariant-loop-n
invariant-loop-n l = (length l.words.items ≡ l.n) × ((x : Name) → Fits l.fn.tables x → number l.fn.tables x < l.n → get_or l.words.items (number l.fn.tables x) 0 ≡ first_word l.fn.tables x)
