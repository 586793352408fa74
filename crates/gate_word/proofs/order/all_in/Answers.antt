use Rattle.std.proofs.lemmas.Bool.{eqb-true, eq-eqb}
use Rattle.gate_word.proofs.BitSets.{and-in, in-and}
use Rattle.gate_word.proofs.order.all_in.Goals as goal

pub returns : goal.returns
returns c = (λ e. and-in _ _ (eqb-true _ _ e), λ are. eq-eqb _ _ (in-and _ _ are))
