-- The state of a pair. Words go by name, and views by part: each part is a function of the seat's number.
-- Seat 0 is the send side, seat 1 the receive side, an even number from 2 on a marker, an odd one from 3 on a watcher.
use Rattle.std.specs.Prelude.{◌≡◌, ℕ, ◌+◌, ◌%◌, ◌≤◌, Bool, ◌==◌, ◌&&◌, ◌||◌, false, if◌then◌else◌, List}
use Rattle.std.specs.Prelude.{[], ◌∷◌, Option}
use Rattle.pair_core.specs.Names.{Name}
use Rattle.pair_core.specs.declared.view.Mark.{Mark}
use Rattle.pair_core.specs.declared.view.Pending.{Pending}
use Rattle.pair_core.specs.declared.view.SendSide.{SendSide}
use Rattle.pair_core.specs.declared.view.RecvSide.{RecvSide}
use Rattle.pair_core.specs.declared.view.Life.{Life}

-- a buffer of a cell is in its slot, with the round that it was filled for, or out to a seat
pub data Slot : Type 0 where
  Home : ℕ → Slot
  Out : ℕ → Slot

abbrev pub IsMarker : ℕ → Type 0
IsMarker n = (2 ≤ n) × (n % 2 ≡ 0)

abbrev pub IsWatcher : ℕ → Type 0
IsWatcher n = (2 ≤ n) × (n % 2 ≡ 1)

-- the words; the slot of each place and cell; the two sides; and of each seat whether it has a view, the word that
-- it has last seen of each, how often it has stepped on it, its pending claim and its marks, the newest first. The
-- receive side alone takes.
pub record Core (A : Type 0) : Type 0 where
  pub word : Name → ℕ
  pub slot : ℕ → ℕ → Slot
  pub send : SendSide
  pub recv : RecvSide
  pub life : ℕ → Life
  pub seen : ℕ → Name → ℕ
  pub looks : ℕ → Name → ℕ
  pub pending : ℕ → Option Pending
  pub marks : ℕ → List (Mark A)
  pub takes : List (Mark A)

-- how often a list has a partition in a round
abbrev pub is_mark : {A : Type 0} → ℕ → ℕ → Mark A → Bool
is_mark k p m = (m.round == k) && (m.partition == p)

abbrev pub times : {A : Type 0} → ℕ → ℕ → List (Mark A) → ℕ
times k p [] = 0
times k p (m ∷ ms) = (if is_mark k p m then 1 else 0) + times k p ms

-- whether a list has a number
abbrev pub has : List ℕ → ℕ → Bool
has [] n = false
has (x ∷ xs) n = (x == n) || has xs n
