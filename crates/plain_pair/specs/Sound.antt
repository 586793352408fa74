-- What holds of a pair between calls.
use Rattle.std.specs.Prelude.{◌≡◌, ℕ, ◌+◌, ◌*◌, ◌/◌, ◌%◌, ◌<◌, ◌≤◌, Bool, true, false, ◌&&◌, ◌==◌, not, List, [], length, count_by, slice_index, slice_index_or}
use Rattle.part_geometry.specs.declared.TheConstants.{LAST_ROUND}
use Rattle.part_geometry.specs.Shape.{Shape, IsShape, send_total}
use Rattle.part_geometry.specs.Pieces.{pieces, needed}
use Rattle.plain_pair.specs.Kept.{Kept, has, kept_mark}

-- how many send partitions of a piece aren't marked
unfoldable pub unmarked : Shape → List Bool → ℕ → ℕ
unmarked g marks i = count_by (λ p. not (has marks p)) (needed g i)

-- whether the buffer of receive partition q at a place was taken and isn't given back
abbrev pub is_away : Kept → ℕ → ℕ → Bool
is_away kept place q =
    (kept.receiving && (place == kept.received % kept.shape.depth)) && (has kept.taken q && not (has kept.back q))

-- the sizes of what is kept
pub record HasSizes (kept : Kept) (missing : List ℕ) : Type 0 where
  pub marked_size : length kept.marked ≡ kept.shape.send_parts
  pub taken_size : length kept.taken ≡ kept.shape.recv_parts
  pub back_size : length kept.back ≡ kept.shape.recv_parts
  pub missing_size : length missing ≡ pieces kept.shape
  pub buffers_size : length kept.buffers ≡ kept.shape.depth * kept.shape.recv_parts
  pub full : (place q : ℕ) → place < kept.shape.depth → q < kept.shape.recv_parts → is_away kept place q ≡ false
      → length (slice_index_or kept.buffers (place * kept.shape.recv_parts + q) []) ≡ kept.shape.recv_bytes

-- the rounds of the sender are ahead of the released one by at most the depth, and those of the receiver by one
pub record HasRounds (kept : Kept) : Type 0 where
  pub sent : kept.sent ≤ LAST_ROUND
  pub received : kept.received ≤ LAST_ROUND
  pub released : kept.released ≤ kept.sent
  pub begun : kept.sending ≡ true → 0 < kept.sent
  pub ahead : kept.sent ≤ kept.released + kept.shape.depth
  pub idle_ahead : kept.sending ≡ false → kept.sent < kept.released + kept.shape.depth
  pub idle : kept.receiving ≡ false → kept.received ≡ kept.released
  pub busy : kept.receiving ≡ true → kept.received ≡ kept.released + 1

-- `missing` counts what is unmarked; the round of an inactive sender, or a released one, is whole; what was taken
-- had arrived, and what is given back was taken
pub record IsSound (kept : Kept) (missing : List ℕ) : Type 0 where
  pub shape : IsShape kept.shape
  pub sizes : HasSizes kept missing
  pub rounds : HasRounds kept
  pub counts : (i : ℕ) → i < pieces kept.shape → slice_index missing i ≡ unmarked kept.shape kept.marked i
  pub whole : kept.sending ≡ false → 0 < kept.sent → (p : ℕ) → p < kept.shape.send_parts → has kept.marked p ≡ true
  pub done : kept.released ≡ kept.sent → 0 < kept.sent → (p : ℕ) → p < kept.shape.send_parts → has kept.marked p ≡ true
  pub arrived : kept.receiving ≡ true → (q x : ℕ) → q < kept.shape.recv_parts → has kept.taken q ≡ true
      → x < send_total kept.shape → x / kept.shape.recv_bytes ≡ q
      → kept_mark kept kept.received (x / kept.shape.send_bytes) ≡ true
  pub returned : (q : ℕ) → q < kept.shape.recv_parts → has kept.back q ≡ true → has kept.taken q ≡ true
