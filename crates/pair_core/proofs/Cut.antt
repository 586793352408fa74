-- What the proofs use of a geometry: which cells, pieces and partitions go with one another, by the rows of
-- part_geometry.
use Rattle.std.proofs.Common.{◌≢◌, ℕ, ◌+◌, ◌-◌, ◌/◌, ◌<◌, ◌≤◌, refl, subst, arith}
use Rattle.part_geometry.specs.Shape.{Shape, IsShape}
use Rattle.part_geometry.specs.Cells.{cells, send_of, recv_of}
use Rattle.part_geometry.specs.Pieces.{pieces, piece_of, first_part, need_count, Touches, TouchesRecv}
use Rattle.part_geometry.proofs.Parts.{send-below, recv-below}
use Rattle.part_geometry.proofs.Rows.{row-all, send-row, recv-row}
use Rattle.pair_core.specs.Names.{claim_words, take_words}
use Rattle.part_geometry.proofs.PieceFacts.{piece-ordered, piece_of-holds, need_count-pos, need_count-le, Touches-range}

-- the send partition of a cell is one of the pair
pub cell_send : (g : Shape) → IsShape g → (c : ℕ) → c < cells g → send_of g c < g.send_parts
cell_send g v c inside = send-below g v c inside

-- and so is its receive partition
pub cell_recv : (g : Shape) → IsShape g → (c : ℕ) → c < cells g → recv_of g c < g.recv_parts
cell_recv g v c inside = recv-below g v c inside

-- and its piece
pub cell_piece : (g : Shape) → (c : ℕ) → c < cells g → piece_of g c < pieces g
cell_piece g c inside = (piece_of-holds g c inside).inside

-- a cell's piece touches the cell's partitions
pub cell_touches : (g : Shape) → (c : ℕ) → c < cells g → Touches g (piece_of g c) (send_of g c)
cell_touches g c inside = let h = piece_of-holds g c inside in (c, h.low, h.high, refl)

-- this is the receive partition
pub cell_touches_recv : (g : Shape) → (c : ℕ) → c < cells g → TouchesRecv g (piece_of g c) (recv_of g c)
cell_touches_recv g c inside = let h = piece_of-holds g c inside in (c, h.low, h.high, refl)

-- each partition is touched by a piece
pub send_touched : (g : Shape) → IsShape g → (p : ℕ) → p < g.send_parts → (i : ℕ) × (i < pieces g) × Touches g i p
send_touched g v p inside =
    let h = row-all (send_of g) (cells g) g.send_parts (send-row g v) p inside in
    (piece_of g h.0, cell_piece g h.0 h.1, subst (Touches g (piece_of g h.0)) h.2 (cell_touches g h.0 h.1))

-- and so is each receive partition
pub recv_touched : (g : Shape) → IsShape g → (q : ℕ) → q < g.recv_parts → (i : ℕ) × (i < pieces g) × TouchesRecv g i q
recv_touched g v q inside =
    let h = row-all (recv_of g) (cells g) g.recv_parts (recv-row g v) q inside in
    (piece_of g h.0, cell_piece g h.0 h.1, subst (TouchesRecv g (piece_of g h.0)) h.2 (cell_touches_recv g h.0 h.1))

-- the partitions that a piece touches stand in a row, 1 to 32 of them, from the first on
pub record Range (g : Shape) (i p : ℕ) : Type 0 where
  -- p isn't before the first of them
  pub low : first_part g i ≤ p
  -- nor behind the last
  pub high : p < first_part g i + need_count g i
  -- a piece touches 32 at most
  pub few : need_count g i ≤ 32

-- what a piece touches stands in its row
pub touch_range : (g : Shape) → IsShape g → (i p : ℕ) → i < pieces g → Touches g i p → Range g i p
touch_range g v i p inside t =
    let r = (Touches-range g v i p inside).0 t in let some = need_count-pos g v i inside in let low = r.0 in let high = r.1 in
    record { low = low; high = omega arith; few = need_count-le g v i inside }

-- and it touches all of its row
pub range_touch : (g : Shape) → IsShape g → (i p : ℕ) → i < pieces g → first_part g i ≤ p → p < first_part g i + need_count g i → Touches g i p
range_touch g v i p inside low high =
    let some = need_count-pos g v i inside in (Touches-range g v i p inside).1 low (omega arith)

-- what a piece touches is a partition of the pair
pub touch_part : (g : Shape) → IsShape g → (i p : ℕ) → i < pieces g → Touches g i p → p < g.send_parts
touch_part g v i p inside t =
    let o = piece-ordered g i inside in let last = o.1 in let high = t.2 in
    let b = send-below g v t.0 (omega arith) in let e = t.3 in omega arith

-- different partitions have different bits in the words of a piece, below 32
pub bit_small : (g : Shape) → IsShape g → (i p : ℕ) → i < pieces g → Touches g i p → p - first_part g i < 32
bit_small g v i p inside t = let r = touch_range g v i p inside t in let a = r.low in let b = r.high in let c = r.few in omega arith

-- this is that they differ
pub bits_apart : (g : Shape) → IsShape g → (i p q : ℕ) → i < pieces g → Touches g i p → Touches g i q → p ≢ q → p - first_part g i ≢ q - first_part g i
bits_apart g v i p q inside t u other e =
    let a = (touch_range g v i p inside t).low in let b = (touch_range g v i q inside u).low in other (omega arith)

-- there are claim, take and return words; the word of a partition is one of them
pub some_claims : (g : Shape) → IsShape g → 1 ≤ claim_words g
some_claims g v = let a = v.send_parts.0 in omega arith

-- there is a take word, and so a return word
pub some_takes : (g : Shape) → IsShape g → 1 ≤ take_words g
some_takes g v = let a = v.recv_parts.0 in omega arith

-- the word of a send partition is one of the claim words
pub claim_word : (g : Shape) → (p : ℕ) → p < g.send_parts → p / 32 < claim_words g
claim_word g p h = omega arith

-- the word of a receive partition is one of the take words
pub take_word : (g : Shape) → (q : ℕ) → q < g.recv_parts → q / 32 < take_words g
take_word g q h = omega arith

-- a pair has a piece
pub some_pieces : (g : Shape) → IsShape g → 1 ≤ pieces g
some_pieces g v = let h = send_touched g v 0 (let a = v.send_parts.0 in omega arith) in let i = h.1 in omega arith
