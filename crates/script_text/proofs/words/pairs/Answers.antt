use Rattle.std.proofs.Common.{inl, inr, sym, ap, ◌∙◌}
use Rattle.script_text.proofs.Pairs.{ok_of, pairs-decode}
use Rattle.script_text.proofs.words.pairs.Goals as goal

pub returns-in-Ok : goal.returns-in-Ok
returns-in-Ok c = sym (pairs-decode c.args.word.now ∙ ap ok_of c.in-Ok.ensures.ok)

pub returns-in_default : goal.returns-in_default
returns-in_default c = elim c.in-Err.ensures.err [
  | inl memory ↦ absurd (c.in_default.not-OutOfMemory memory)
  | inr refused ↦ sym (pairs-decode c.args.word.now ∙ ap ok_of refused)
]
