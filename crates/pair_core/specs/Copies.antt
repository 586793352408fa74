-- Seats that are copies of others.
use Rattle.std.specs.Prelude.{◌≡◌, ℕ, List, length, slice_get, Some}
use Rattle.pair_core.specs.declared.seat.Seat.{Seat}

-- w knows and did what v did
pub record IsCopy (v w : Seat) : Type 0 where
  pub seat : w.seat ≡ v.seat
  pub seen : w.seen.items ≡ v.seen.items
  pub looks : w.looks.items ≡ v.looks.items
  pub pending : w.pending ≡ v.pending
  pub marks : w.marks ≡ v.marks

-- and so does each of a list
pub record AreCopies (seats copies : List Seat) : Type 0 where
  pub size : length copies ≡ length seats
  pub each : (at : ℕ) (v w : Seat) → slice_get seats at ≡ Some v → slice_get copies at ≡ Some w → IsCopy v w
