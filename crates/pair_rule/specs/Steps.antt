-- Which step a seat may make, by its own view, and what the step tells it. A step is the core's move of that name.
use Rattle.std.specs.Prelude.{◌≡◌, ◌⊎◌, ℕ, ◌+◌, ◌<◌, ◌≤◌, List, length, Option, Some, None}
use Rattle.gate_word.specs.Words.{round_in}
use Rattle.part_geometry.specs.declared.TheConstants.{LAST_ROUND}
use Rattle.part_geometry.specs.Shape.{Shape}
use Rattle.part_geometry.specs.Pieces.{pieces}
use Rattle.atomic_table.specs.Table.{Me, Step}
use Rattle.part_tables.specs.Bytes.{cut}
use Rattle.slot_rows.specs.Lists.{Every}
use Rattle.pair_rule.specs.Rule.{cell_length}
use Rattle.pair_core.specs.Names.{Release, Take, Return, claim_words, take_words}
use Rattle.pair_core.specs.Core.{IsMarker}
use Rattle.pair_core.specs.Reading.{part_bit}
use Rattle.pair_core.specs.Moves.{Move, StorePiece, StoreClaim, LoadClaim, LoadPiece, LoadRelease, ShutClaim}
use Rattle.pair_core.specs.Moves.{TryClaim, LayPiece, StoreReturn, StoreTake, TakePart, ReturnPart, StoreRelease}
use Rattle.pair_core.specs.Moves.{Split, Rise, Join, IsSendIdle, IsRecvIdle, IsRecvActive, MayShut, MayClaim, MayLay}
use Rattle.pair_core.specs.Moves.{AreSeen}
use Rattle.pair_core.specs.declared.view.Pending.{Pending}
use Rattle.pair_rule.specs.Buf.{Buf}
use Rattle.pair_rule.specs.Views.{seen}
use Rattle.pair_rule.specs.declared.view.View.{View}

-- The condition of each step, in terms of what the seat knows: it says that the core allows the step.
abbrev pub MayMake : View → Move (List ℕ) → Type 0
MayMake d (StorePiece k i) =
    (d.number ≡ 0) × (i < pieces d.geometry) × (k ≤ LAST_ROUND) × (k ≤ round_in (seen d Release) + d.geometry.depth)
    × (((i ≡ 0) × IsSendIdle d.geometry d.send × (k ≡ d.send.round + 1))
    ⊎ ((1 ≤ i) × (i ≡ d.send.pieces) × (k ≡ d.send.round)))
MayMake d (StoreClaim k c) =
    (d.number ≡ 0) × (c < claim_words d.geometry) × (k ≡ d.send.round) × (d.send.pieces ≡ pieces d.geometry)
    × (c ≡ d.send.opened)
MayMake d (LoadClaim n c) = (d.number ≡ n) × (c < claim_words d.geometry)
MayMake d (LoadPiece n e i) = (d.number ≡ n) × (e < d.geometry.depth) × (i < pieces d.geometry)
MayMake d LoadRelease = d.number ≡ 0
MayMake d (ShutClaim c) =
    (d.number ≡ 0) × (c < claim_words d.geometry) × (d.send.opened ≡ claim_words d.geometry) × (c ≡ d.send.shut)
    × (c ≡ 0 → MayShut d.geometry (seen d) d.send.round)
MayMake d (TryClaim n p b) = (d.number ≡ n) × IsMarker n × (p < d.geometry.send_parts) × (d.pending ≡ None)
    × MayClaim (seen d) p
MayMake d (LayPiece n p i) = (d.number ≡ n) × ((x : Pending) × (d.pending ≡ Some x) × MayLay d.geometry x p i)
MayMake d (StoreReturn k t) =
    (d.number ≡ 1) × (t < take_words d.geometry) × (k ≤ LAST_ROUND)
    × (((t ≡ 0) × IsRecvIdle d.recv × (k ≡ d.recv.round + 1)) ⊎ ((1 ≤ t) × (t ≡ d.recv.returns) × (k ≡ d.recv.round)))
MayMake d (StoreTake k t) =
    (d.number ≡ 1) × (t < take_words d.geometry) × (k ≡ d.recv.round) × (d.recv.returns ≡ take_words d.geometry)
    × (t ≡ d.recv.takes)
MayMake d (TakePart q b) =
    (d.number ≡ 1) × (q < d.geometry.recv_parts) × IsRecvActive d.geometry d.recv
    × (part_bit (λ t. seen d (Take t)) q ≡ 0)
    × AreSeen d.geometry (seen d) d.recv.round q
MayMake d (ReturnPart q) =
    (d.number ≡ 1) × (q < d.geometry.recv_parts) × IsRecvActive d.geometry d.recv
    × (part_bit (λ t. seen d (Take t)) q ≡ 1)
    × (part_bit (λ t. seen d (Return t)) q ≡ 0)
MayMake d (StoreRelease k) =
    (d.number ≡ 1) × (k ≡ d.recv.round) × IsRecvActive d.geometry d.recv
    × ((q : ℕ) → q < d.geometry.recv_parts → (part_bit (λ t. seen d (Take t)) q ≡ 1)
    × (part_bit (λ t. seen d (Return t)) q ≡ 1))
MayMake d (Split n) = ⊥
MayMake d (Rise n w more) = ⊥
MayMake d (Join n) = ⊥

-- a seat of the table: its view, and the slots that are out with it
abbrev pub Seat : Type 0
Seat = Me (Option Buf) View

-- a step that moves no slot: the view becomes as `view` says of the word found, and the seat is told something
abbrev pub goes : (ℕ → View → View) → (ℕ → View → Type 0) → Step (Option Buf) → Seat → ℕ → Seat → Type 0
goes view tells st me found me' = (me' ≡ (view found me.0, me.1)) × tells found me.0

-- buffers of a row of cells from c on: each is filled for round k, with its cell's part of the bytes b of its send
-- partition
abbrev pub AreCuts : Shape → ℕ → List ℕ → ℕ → List Buf → Type 0
AreCuts g k b c bufs = Every (λ i y. (y.round ≡ k) × (y.bytes ≡ cut g i b)) c bufs

-- each has its cell's length
abbrev pub AreLong : Shape → ℕ → List Buf → Type 0
AreLong g c bufs = Every (λ i y. length y.bytes ≡ cell_length g i) c bufs

-- and round k too
abbrev pub AreOf : Shape → ℕ → ℕ → List Buf → Type 0
AreOf g k c bufs = Every (λ i y. (y.round ≡ k) × (length y.bytes ≡ cell_length g i)) c bufs
