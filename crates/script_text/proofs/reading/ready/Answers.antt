use Rattle.std.proofs.Common.{arith, tests}
use Rattle.script_text.proofs.Arguments.{ready_none}
use Rattle.script_text.proofs.reading.ready.Goals as goal
use Rattle.script_text.proofs.reading.ready.Goals.{in_default-via-then-words-lt4, in_default-via-else-words-lt4+else-words-lt5}

pub returns-in_default : goal.returns-in_default
returns-in_default c =
    elim c.in_default.branch [
      | in_default-via-then-words-lt4 w ↦ ready_none c.args.words.now (omega (arith, tests))
      | in_default-via-else-words-lt4+else-words-lt5 w ↦ ready_none c.args.words.now (grind (arith, tests))
    ]
