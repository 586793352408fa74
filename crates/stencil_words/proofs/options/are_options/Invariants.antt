use Rattle.std.proofs.Common.{◌≡◌, length}
use Rattle.std.specs.Prelude.{is_some}
use Rattle.stencil_words.specs.Options.{options_of, texts}
use Rattle.stencil_words.proofs.options.are_options.Given as goal

abbrev pub invariant-loop-word : goal.invariant-loop-word
invariant-loop-word l = is_some (options_of (texts l.rest)) ≡ is_some (options_of (texts l.words))

abbrev pub decreases-loop-word : goal.decreases-loop-word
decreases-loop-word l = length l.rest
