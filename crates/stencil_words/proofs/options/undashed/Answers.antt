use Rattle.std.proofs.Common.{lit<}
use Rattle.std.proofs.lemmas.Str.Pattern.{strip_prefix_char}
use Rattle.stencil_words.proofs.OptionFacts.{undashed-is}
use Rattle.stencil_words.proofs.options.undashed.Goals as goal

pub returns : goal.returns
returns c = undashed-is c.args.word.now _ (strip_prefix_char 45 c.args.word.now _ c.strip_prefix.ensures.cases (lit< tt))
