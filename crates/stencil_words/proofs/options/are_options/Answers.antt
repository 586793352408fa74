use Rattle.std.specs.Prelude.{is_some}
use Rattle.stencil_words.specs.Options.{options_of, texts}
use Rattle.stencil_words.proofs.OptionFacts.{all-done}
use Rattle.stencil_words.proofs.options.are_options.Goals as goal

pub returns : goal.returns
returns c = all-done c.loop-word.rest.now (is_some (options_of (texts c.args.words.now))) c.in_default.ensures.cases c.loop-word.invariant
