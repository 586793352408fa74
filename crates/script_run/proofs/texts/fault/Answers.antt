use Rattle.std.proofs.Common.{◌≡◌, Err, ◌∙◌, sym, string_bytes, append_assoc}
use Rattle.std.proofs.lemmas.Result.{IfOk-weaker}
use Rattle.script_run.specs.Texts.{init_text}
use Rattle.script_run.proofs.texts.fault.Goals as goal

pub returns-in-SizeMismatch : goal.returns-in-SizeMismatch
returns-in-SizeMismatch c =
    IfOk-weaker c.format.result _ (λ text. string_bytes text ≡ init_text (Err c.args.fault)) (λ text is. is ∙ sym (rw c.in-SizeMismatch.is (simp append_assoc))) c.format.ensures.ok
