use Rattle.std.proofs.Common.{◌≡◌, ◌+◌, drop}
use Rattle.text_words.specs.Lines.{texts, sentences_from}
use Rattle.event_check.specs.Lists.{listing_in}
use Rattle.event_check.specs.Reading.{whole_of}
use Rattle.event_check.proofs.list.read_lines.Given as goal

abbrev pub invariant-loop-i : goal.invariant-loop-i
invariant-loop-i l =
    whole_of l.list (sentences_from (l.i + 1) (texts (drop l.i l.lines))) ≡ listing_in (sentences_from 1 (texts l.lines))
