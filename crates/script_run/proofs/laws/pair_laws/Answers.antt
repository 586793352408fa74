use Rattle.script_run.proofs.Matching.{pairs_are_matched}
use Rattle.script_run.proofs.laws.pair_laws.Goals as goal

pub returns : goal.returns
returns c = record { pairs = pairs_are_matched }
