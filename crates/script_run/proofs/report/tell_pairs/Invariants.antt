use Rattle.std.proofs.Common.{◌≡◌, ◌++◌, length}
use Rattle.std.specs.List.{AllZip, flat_map}
use Rattle.std.specs.Vec.Iter.{into_iter_items, into_iter_len}
use Rattle.script_run.specs.Pairs.{StandsPair}
use Rattle.script_run.specs.Run.{pair_line}
use Rattle.script_run.proofs.Reports.{Left}
use Rattle.script_run.proofs.report.tell_pairs.Given as goal

abbrev pub invariant-loop-pair : goal.invariant-loop-pair
invariant-loop-pair l = record {
  left : (ps : _) → AllZip StandsPair l.fn.pairs.items ps → Left (into_iter_items l.pair-iterator) l.text.items (l.initial.text.items ++ flat_map pair_line ps);
  long : into_iter_len l.pair-iterator ≡ length (into_iter_items l.pair-iterator);
}
