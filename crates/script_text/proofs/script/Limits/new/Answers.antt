use Rattle.std.proofs.Common.{[], rules, arith, tests}
use Rattle.script_text.proofs.Arguments.{three, world_none}
use Rattle.script_text.proofs.script.Limits.new.Goals as goal
use Rattle.script_text.proofs.script.Limits.new.Goals.{in_default-via-then-words-lt3, in_default-via-else-words-lt3+else-words-lt4}

pub returns-in_default : goal.returns-in_default
returns-in_default c =
    elim c.in_default.branch [
      | in_default-via-then-words-lt3 w ↦ world_none c.args.words.now (omega (arith, tests))
      | in_default-via-else-words-lt3+else-words-lt4 w ↦ world_none c.args.words.now (grind (arith, tests))
    ]

pub returns-in_err-ranks : goal.returns-in_err-ranks
returns-in_err-ranks c = rw (three c.args.words.now record { ref_ptr = (0, 0); now = [] } c.in-len3.len_at_least c.in-len3.len_below) (search rules)

pub returns-in_err-grain : goal.returns-in_err-grain
returns-in_err-grain c = rw (three c.args.words.now record { ref_ptr = (0, 0); now = [] } c.in-len3.len_at_least c.in-len3.len_below) (search rules)

pub returns-in_err-depth : goal.returns-in_err-depth
returns-in_err-depth c = rw (three c.args.words.now record { ref_ptr = (0, 0); now = [] } c.in-len3.len_at_least c.in-len3.len_below) (search rules)

pub returns : goal.returns
returns c =
    rw (three c.args.words.now record { ref_ptr = (0, 0); now = [] } c.in-len3.len_at_least c.in-len3.len_below, ← c.in_ok-ranks.ensures, ← c.in_ok-grain.ensures, ← c.in_ok-depth.ensures)
    c.within.ensures
