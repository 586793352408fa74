use Rattle.std.proofs.Common.{◌≡◌, ◌≢◌, ◌<◌, ℕ, Some}
use Rattle.std.specs.Prelude.{slice_get}
use Rattle.pair_core.specs.declared.seat.Seat.{Seat}
use Rattle.pair_core.proofs.state.CoreState.find.Given as goal

abbrev pub invariant-loop-at : goal.invariant-loop-at
invariant-loop-at l = (k : ℕ) (v : Seat) → k < l.at → slice_get l.fn.self.seats.items k ≡ Some v → v.seat ≢ l.seat
