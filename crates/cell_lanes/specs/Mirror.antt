-- Weights that are the same on both sides of the middle row and of the middle column: for private functions.
use Rattle.std.specs.Prelude.{◌≡◌, ℕ, ◌+◌, ◌*◌, ◌-◌, ◌<◌, ◌≤◌, nat_lt, if◌then◌else◌, ℤ, pos, ◌+ℤ◌, ◌*ℤ◌, Bool, true}
use Rattle.std.specs.Prelude.{List, length, slice_index_or}
use Rattle.std.specs.List.{All}
use Rattle.stencil_def.specs.Limits.{IsWeight}
use Rattle.stencil_def.specs.Square.{Square, side, weight}
use Rattle.stencil_def.specs.Step.{sum_below}
use Rattle.cell_lanes.specs.Window.{met}

-- f at a place and at the place on the other side of the middle, which the middle itself doesn't have
unfoldable pub both : ℕ → (ℕ → ℤ) → ℕ → ℤ
both middle f a = if nat_lt a middle then f a +ℤ f (2 * middle - a) else f a

-- each weight is in range
abbrev pub HasLimits : Square → Type 0
HasLimits w = (a b : ℕ) → a < side w → b < side w → IsWeight (weight w a b)

-- equal weights stand in the same distance from the middle row and the middle column
abbrev pub IsMirrored : Square → Type 0
IsMirrored w = (a b : ℕ) → a ≤ w.reach → b ≤ w.reach →
    (weight w a (2 * w.reach - b) ≡ weight w a b)
    × ((weight w (2 * w.reach - a) b ≡ weight w a b)
    × (weight w (2 * w.reach - a) (2 * w.reach - b) ≡ weight w a b))

-- the values that column b of row a and the column across the middle meet
abbrev pub row_alike : List ℤ → ℕ → ℕ → ℕ → ℕ → ℕ → ℤ
row_alike window width reach x a b = both reach (λ column. met window width x a column) b

-- the values that row a and column b and those across the middle meet
abbrev pub alike : List ℤ → ℕ → ℕ → ℕ → ℕ → ℕ → ℤ
alike window width reach x a b = both reach (λ row. row_alike window width reach x row b) a

-- the sum over row a of the weights up to the middle, each times the values that meet equal weights
abbrev pub alike_row_sum : Square → List ℤ → ℕ → ℕ → ℕ → ℤ
alike_row_sum w window width x a = sum_below (w.reach + 1) (λ b. weight w a b *ℤ alike window width w.reach x a b)

-- weights, each in two lanes, and whether they are known to be mirrored
pub record AreReady (w : Square) (lanes : List ℤ) (is_mirrored : Bool) : Type 0 where
  pub near : w.reach ≤ 2
  pub lanes_length : length lanes ≡ 50
  pub limits : All IsWeight lanes
  pub both_lanes : (k i : ℕ) → k < side w * side w → i < 2 →
      slice_index_or lanes (2 * k + i) (pos 0) ≡ slice_index_or w.values k (pos 0)
  pub mirrored : is_mirrored ≡ true → IsMirrored w
