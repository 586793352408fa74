use Rattle.std.proofs.Common.{◌≡◌, ◌+◌, drop}
use Rattle.text_words.specs.Lines.{texts, sentences_from}
use Rattle.script_text.specs.Script.{contents_of}
use Rattle.script_text.specs.Reading.{whole_of}
use Rattle.script_text.proofs.script.read_lines.Given as goal

abbrev pub invariant-loop-i : goal.invariant-loop-i
invariant-loop-i l =
    whole_of l.body (sentences_from (l.i + 1) (texts (drop l.i l.lines))) ≡ contents_of (sentences_from 1 (texts l.lines))
