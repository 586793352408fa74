use Rattle.std.proofs.Common.{arith, tests}
use Rattle.script_text.proofs.Arguments.{range_none}
use Rattle.script_text.proofs.reading.range.Goals as goal
use Rattle.script_text.proofs.reading.range.Goals.{in_default-via-then-words-lt5, in_default-via-else-words-lt5+else-words-lt6}

pub returns-in_default : goal.returns-in_default
returns-in_default c =
    elim c.in_default.branch [
      | in_default-via-then-words-lt5 w ↦ range_none c.args.words.now (omega (arith, tests))
      | in_default-via-else-words-lt5+else-words-lt6 w ↦ range_none c.args.words.now (grind (arith, tests))
    ]
