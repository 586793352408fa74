use Rattle.std.proofs.lemmas.Result.{IfErr-weaker}
use Rattle.script_text.proofs.Faults.{answer_says}
use Rattle.script_text.proofs.script.parse_script.Goals as goal

pub returns-clause-line : goal.returns-clause-line
returns-clause-line c = IfErr-weaker c.read_text.result _ _ (answer_says c.args.bytes.now) c.read_text.ensures.fault
