-- What a list of moves did, as a list of entries, and what holds of each such list.
use Rattle.std.specs.Prelude.{◌≡◌, ◌⊎◌, ℕ, ◌+◌, ◌-◌, ◌/◌, ◌%◌, ◌^◌, ◌<◌, ◌≤◌, Bool, ◌==◌}
use Rattle.std.specs.Prelude.{if◌then◌else◌, List, [], ◌∷◌, ◌++◌, bit_or, Option, Some, None}
use Rattle.part_geometry.specs.Shape.{Shape}
use Rattle.part_geometry.specs.Pieces.{pieces, first_part, Touches, TouchesRecv}
use Rattle.pair_core.specs.Names.{Claim, Piece, take_words}
use Rattle.pair_core.specs.Core.{Core}
use Rattle.pair_core.specs.Reading.{is_full}
use Rattle.pair_core.specs.Moves.{Move, StoreClaim, ShutClaim, TryClaim, LayPiece, StoreTake, TakePart, StoreRelease}
use Rattle.pair_core.specs.Moves.{IsAllowed, after, first_state}
use Rattle.pair_core.specs.declared.view.Pending.{Pending}

-- the entries: a round opens; a partition is marked in a round; it is laid into a piece; a piece goes out; the receiver
-- listens in a round; a receive partition is taken; a round is released; a round is shut
pub data Entry : Type 0 where
  Open : ℕ → Entry
  Mark : ℕ → ℕ → Entry
  Lay : ℕ → ℕ → ℕ → Entry
  Out : ℕ → ℕ → Entry
  Listen : ℕ → Entry
  Take : ℕ → ℕ → Entry
  Release : ℕ → Entry
  Shut : ℕ → Entry

-- an entry where something is so
abbrev pub where_so : Bool → Entry → List Entry
where_so so e = if so then e ∷ [] else []

-- a partition is laid into a piece; where that fills the piece's word, the piece goes out right after it
abbrev pub laid_entries : {A : Type 0} → Shape → ℕ → Option Pending → Core A → List Entry
laid_entries g i None s = []
laid_entries g i (Some x) s =
    where_so (is_full g (bit_or (s.word (Piece (x.round % g.depth) i)) (2 ^ (x.partition - first_part g i))) x.round i)
    (Out x.round i)
    ++ Lay x.round x.partition i ∷ []

-- what a move adds, the newest first
abbrev pub entries : {A : Type 0} → Shape → Core A → Move A → List Entry
entries g s (StoreClaim k c) = where_so (c == 0) (Open k)
entries g s (ShutClaim c) = where_so (c == 0) (Shut s.send.round)
entries g s (TryClaim n p a) = where_so (s.word (Claim (p / 32)) == s.seen n (Claim (p / 32))) (Mark s.send.round p)
entries g s (LayPiece n p i) = laid_entries g i (s.pending n) s
entries g s (StoreTake k t) = where_so (t + 1 == take_words g) (Listen k)
entries g s (TakePart q a) = Take s.recv.round q ∷ []
entries g s (StoreRelease k) = Release k ∷ []
entries g s m = []

-- the state s, and the history h so far, come of a list of moves from the first state; the newest stands first
abbrev pub Happened : {A : Type 0} → Shape → List (Move A) → Core A → List Entry → Type 0
Happened {A} g [] s h = (s ≡ first_state g) × (h ≡ [])
Happened {A} g (m ∷ ms) s h =
    (t : Core A) × (before : List Entry) × Happened g ms t before × IsAllowed g t m × (s ≡ after g t m)
    × (h ≡ entries g t m ++ before)

-- an entry stands in a history
abbrev pub Has : List Entry → Entry → Type 0
Has [] e = ⊥
Has (x ∷ xs) e = (x ≡ e) ⊎ Has xs e

-- Each entry as it comes to the history before it.
--
-- A round is opened after the one before it was shut, and after the release of the round `depth` before it.
abbrev pub Follows : Shape → List Entry → Entry → Type 0
Follows g h (Open k) =
    (1 ≤ k) × ¬ Has h (Open k) × (2 ≤ k → Has h (Open (k - 1)) × Has h (Shut (k - 1)))
    × (g.depth < k → Has h (Release (k - g.depth)))
-- A mark stands between its round's opening and shutting, once.
Follows g h (Mark k p) = (p < g.send_parts) × ¬ Has h (Mark k p) × Has h (Open k) × ¬ Has h (Shut k)
-- A partition is laid into a piece that it touches, once, after its mark.
Follows g h (Lay k p i) = (i < pieces g) × Touches g i p × ¬ Has h (Lay k p i) × Has h (Mark k p)
-- A piece goes out once, right after the last of its partitions was laid; no later round's piece went out before.
Follows g h (Out k i) =
    (i < pieces g) × ¬ Has h (Out k i) × (((p : ℕ) × (before : List Entry) × (h ≡ Lay k p i ∷ before)))
    × ((p : ℕ) → Touches g i p → Has h (Lay k p i)) × ((j n : ℕ) → Has h (Out j n) → j ≤ k)
-- The receiver listens in its rounds in order, after the release of the one before.
Follows g h (Listen k) = (1 ≤ k) × ¬ Has h (Listen k) × (2 ≤ k → Has h (Listen (k - 1)) × Has h (Release (k - 1)))
-- A partition is taken once, after its round's listening and after each piece over it went out; no later round's
-- partition was taken before.
Follows g h (Take k q) =
    (q < g.recv_parts) × ¬ Has h (Take k q) × Has h (Listen k)
    × ((i : ℕ) → i < pieces g → TouchesRecv g i q → Has h (Out k i))
    × ((j n : ℕ) → Has h (Take j n) → j ≤ k)
-- A round is released once, after each of its partitions was taken.
Follows g h (Release k) =
    (1 ≤ k) × ¬ Has h (Release k) × ((q : ℕ) → q < g.recv_parts → Has h (Take k q)) × (2 ≤ k → Has h (Release (k - 1)))
-- A round is shut once, in order, after each of its pieces went out.
Follows g h (Shut k) =
    (1 ≤ k) × ¬ Has h (Shut k) × Has h (Open k) × ((i : ℕ) → i < pieces g → Has h (Out k i))
    × (2 ≤ k → Has h (Shut (k - 1)))

-- each entry of a history follows what came before it
abbrev pub IsInOrder : Shape → List Entry → Type 0
IsInOrder g [] = Unit {0}
IsInOrder g (e ∷ h) = Follows g h e × IsInOrder g h
