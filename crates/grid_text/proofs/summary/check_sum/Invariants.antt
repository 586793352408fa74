use Rattle.std.proofs.Common.{◌≡◌, ◌*◌, ◌≤◌, take, unsigned_abs}
use Rattle.grid_text.specs.Printing.{check_sum}
use Rattle.grid_text.proofs.summary.check_sum.Given as goal

abbrev pub invariant-loop-place : goal.invariant-loop-place
invariant-loop-place l = record {
  sum : l.sum ≡ check_sum (take l.place l.values);
  limits : unsigned_abs l.sum ≤ l.place * 1000000000000000;
}
