use Rattle.std.proofs.Common.{◌≡◌, ◌*◌, ◌≤◌, take, pos, ◌+ℤ◌, fold, unsigned_abs}
use Rattle.grid_text.proofs.summary.total.Given as goal

abbrev pub invariant-loop-value : goal.invariant-loop-value
invariant-loop-value l = record {
  sum : l.sum ≡ fold ◌+ℤ◌ (pos 0) (take l.value-index l.values);
  limits : unsigned_abs l.sum ≤ l.value-index * 1000000000000;
}
