-- Counts of what is missing, after a mark.
use Rattle.std.specs.Prelude.{◌≡◌, ◌⊎◌, ℕ, ◌-◌, ◌<◌, ◌≤◌, List, length, slice_index}

-- one less at each place from `first` up to and without `end`
pub record Lessens (old new : List ℕ) (first end : ℕ) : Type 0 where
  pub size : length new ≡ length old
  pub inside : (i : ℕ) → first ≤ i → i < end → slice_index new i ≡ slice_index old i - 1
  pub outside : (i : ℕ) → (i < first) ⊎ (end ≤ i) → slice_index new i ≡ slice_index old i
