use Rattle.std.proofs.Common.{sym, ap, ◌∙◌}
use Rattle.stencil_top.specs.Note.{script_message}
use Rattle.stencil_top.proofs.note.script_line.Goals as goal

pub returns-in-NoWorld-clause-words : goal.returns-in-NoWorld-clause-words
returns-in-NoWorld-clause-words c = c.line_fault.ensures.words ∙ sym (ap script_message c.in-NoWorld.is)

pub returns-in-BadWorld-clause-words : goal.returns-in-BadWorld-clause-words
returns-in-BadWorld-clause-words c = c.line_fault-in-BadWorld.ensures.words ∙ sym (ap script_message c.in-BadWorld.is)

pub returns-in-AfterEnd-clause-words : goal.returns-in-AfterEnd-clause-words
returns-in-AfterEnd-clause-words c = c.line_fault-in-AfterEnd.ensures.words ∙ sym (ap script_message c.in-AfterEnd.is)

pub returns-in-BadLine-clause-words : goal.returns-in-BadLine-clause-words
returns-in-BadLine-clause-words c = c.line_fault-in-BadLine.ensures.words ∙ sym (ap script_message c.in-BadLine.is)
