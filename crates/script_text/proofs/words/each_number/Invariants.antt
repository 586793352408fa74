use Rattle.std.proofs.Common.{◌≡◌, ◌++◌, drop, option_map}
use Rattle.text_words.specs.Lines.{texts}
use Rattle.script_text.specs.Words.{each_number}
use Rattle.script_text.proofs.words.each_number.Given as goal

abbrev pub invariant-loop-word : goal.invariant-loop-word
invariant-loop-word l =
    option_map (λ more. l.numbers.items ++ more) (each_number (texts (drop l.word-index l.words))) ≡ each_number (texts l.words)
