use Rattle.std.proofs.Common.{◌≡◌, ◌∙◌, sym, string_bytes, append_assoc}
use Rattle.std.proofs.lemmas.Result.{IfOk-weaker}
use Rattle.script_pair.specs.Texts.{marks_text}
use Rattle.script_pair.proofs.texts.marks.Goals as goal

pub returns-in-Ok : goal.returns-in-Ok
returns-in-Ok c = IfOk-weaker c.format.result _ (λ text. string_bytes text ≡ marks_text c.args.answer) (λ text is. is ∙ sym (rw c.in-Ok.is (simp append_assoc))) c.format.ensures.ok
