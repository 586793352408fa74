use Rattle.std.proofs.Common.{◌≡◌, ◌∙◌, sym, string_bytes, append_assoc}
use Rattle.std.proofs.lemmas.Result.{IfOk-weaker}
use Rattle.script_pair.specs.Texts.{closed_text}
use Rattle.script_pair.proofs.texts.closed.Goals as goal

pub returns : goal.returns
returns c = IfOk-weaker c.format.result _ (λ text. string_bytes text ≡ closed_text c.args.closed) (λ text is. is ∙ sym (simp append_assoc)) c.format.ensures.ok
