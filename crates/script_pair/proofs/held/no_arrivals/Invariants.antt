use Rattle.std.proofs.Common.{◌≡◌, length, None}
use Rattle.std.specs.List.{All}
use Rattle.script_pair.proofs.held.no_arrivals.Given as goal

abbrev pub invariant-loop-i : goal.invariant-loop-i
invariant-loop-i l = record {
  len : length l.kept.items ≡ l._i;
  none : All (λ slot. slot ≡ None) l.kept.items;
}
