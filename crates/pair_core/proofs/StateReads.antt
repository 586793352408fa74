-- An event of a kind is a move of that kind: what is to be shown of the moves that it may be is shown of that sort
-- alone.
use Rattle.std.proofs.Common.{◌≡◌, ◌≢◌, ◌≤◌, ◌∙◌, sym, ℕ, arith}
use Rattle.part_geometry.specs.Shape.{Shape}
use Rattle.pair_core.specs.Core.{Core}
use Rattle.pair_core.specs.Moves.{Move, StorePiece, StoreClaim, LoadClaim, LoadPiece, LoadRelease, ShutClaim, TryClaim, LayPiece, StoreReturn, StoreTake, TakePart, ReturnPart, StoreRelease, Split, Rise, Join}
use Rattle.pair_core.specs.Events.{Reads}
use Rattle.pair_core.specs.State.{Plain}
use Rattle.pair_core.specs.declared.event.Event.{Event}

-- the number of a kind, and 0 for a move that changes views alone
abbrev kind_of : Move Plain → ℕ
kind_of (StorePiece k i) = 1
kind_of (StoreClaim k c) = 2
kind_of (LoadClaim n c) = 3
kind_of (LoadPiece n d i) = 4
kind_of LoadRelease = 5
kind_of (ShutClaim c) = 6
kind_of (TryClaim n p a) = 7
kind_of (LayPiece n p i) = 8
kind_of (StoreReturn k t) = 9
kind_of (StoreTake k t) = 10
kind_of (TakePart q a) = 11
kind_of (ReturnPart q) = 12
kind_of (StoreRelease k) = 13
kind_of (Split n) = 0
kind_of (Rise n w more) = 0
kind_of (Join n) = 0

kind_is : (g : Shape) (s : Core Plain) (e : Event) (m : Move Plain) → Reads g s e m → e.kind ≡ kind_of m
kind_is g s e (StorePiece k i) r = r.0.kind_is
kind_is g s e (StoreClaim k c) r = r.0.kind_is
kind_is g s e (LoadClaim n c) r = r.kind_is
kind_is g s e (LoadPiece n d i) r = r.kind_is
kind_is g s e LoadRelease r = r.kind_is
kind_is g s e (ShutClaim c) r = r.kind_is
kind_is g s e (TryClaim n p a) r = r.0.kind_is
kind_is g s e (LayPiece n p i) r = r.2.kind_is
kind_is g s e (StoreReturn k t) r = r.0.kind_is
kind_is g s e (StoreTake k t) r = r.0.kind_is
kind_is g s e (TakePart q a) r = r.0.kind_is
kind_is g s e (ReturnPart q) r = r.0.kind_is
kind_is g s e (StoreRelease k) r = r.0.kind_is
kind_is g s e (Split n) r = absurd r
kind_is g s e (Rise n w more) r = absurd r
kind_is g s e (Join n) r = absurd r

kind_1 : (P : Move Plain → Type 0) → ((k i : ℕ) → P (StorePiece k i)) → (m : Move Plain) → kind_of m ≡ 1 → P m
kind_1 P here (StorePiece k i) e = here k i
kind_1 P here m e = absurd (omega arith)

-- an event of kind 1 is the store of a piece word
pub reads_1 : (g : Shape) (s : Core Plain) (e : Event) (P : Move Plain → Type 0) → e.kind ≡ 1 → ((k i : ℕ) → Reads g s e (StorePiece k i) → P (StorePiece k i)) → (m : Move Plain) → Reads g s e m → P m
reads_1 g s e P kind here m r = kind_1 (λ m. Reads g s e m → P m) here m (sym (kind_is g s e m r) ∙ kind) r

kind_2 : (P : Move Plain → Type 0) → ((k c : ℕ) → P (StoreClaim k c)) → (m : Move Plain) → kind_of m ≡ 2 → P m
kind_2 P here (StoreClaim k c) e = here k c
kind_2 P here m e = absurd (omega arith)

-- an event of kind 2 is the store of a claim word
pub reads_2 : (g : Shape) (s : Core Plain) (e : Event) (P : Move Plain → Type 0) → e.kind ≡ 2 → ((k c : ℕ) → Reads g s e (StoreClaim k c) → P (StoreClaim k c)) → (m : Move Plain) → Reads g s e m → P m
reads_2 g s e P kind here m r = kind_2 (λ m. Reads g s e m → P m) here m (sym (kind_is g s e m r) ∙ kind) r

kind_3 : (P : Move Plain → Type 0) → ((n c : ℕ) → P (LoadClaim n c)) → (m : Move Plain) → kind_of m ≡ 3 → P m
kind_3 P here (LoadClaim n c) e = here n c
kind_3 P here m e = absurd (omega arith)

-- an event of kind 3 is a load of a claim word
pub reads_3 : (g : Shape) (s : Core Plain) (e : Event) (P : Move Plain → Type 0) → e.kind ≡ 3 → ((n c : ℕ) → Reads g s e (LoadClaim n c) → P (LoadClaim n c)) → (m : Move Plain) → Reads g s e m → P m
reads_3 g s e P kind here m r = kind_3 (λ m. Reads g s e m → P m) here m (sym (kind_is g s e m r) ∙ kind) r

kind_4 : (P : Move Plain → Type 0) → ((n d i : ℕ) → P (LoadPiece n d i)) → (m : Move Plain) → kind_of m ≡ 4 → P m
kind_4 P here (LoadPiece n d i) e = here n d i
kind_4 P here m e = absurd (omega arith)

-- an event of kind 4 is a load of a piece word
pub reads_4 : (g : Shape) (s : Core Plain) (e : Event) (P : Move Plain → Type 0) → e.kind ≡ 4 → ((n d i : ℕ) → Reads g s e (LoadPiece n d i) → P (LoadPiece n d i)) → (m : Move Plain) → Reads g s e m → P m
reads_4 g s e P kind here m r = kind_4 (λ m. Reads g s e m → P m) here m (sym (kind_is g s e m r) ∙ kind) r

kind_5 : (P : Move Plain → Type 0) → (P LoadRelease) → (m : Move Plain) → kind_of m ≡ 5 → P m
kind_5 P here LoadRelease e = here
kind_5 P here m e = absurd (omega arith)

-- an event of kind 5 is the load of the release word
pub reads_5 : (g : Shape) (s : Core Plain) (e : Event) (P : Move Plain → Type 0) → e.kind ≡ 5 → (Reads g s e LoadRelease → P LoadRelease) → (m : Move Plain) → Reads g s e m → P m
reads_5 g s e P kind here m r = kind_5 (λ m. Reads g s e m → P m) here m (sym (kind_is g s e m r) ∙ kind) r

kind_6 : (P : Move Plain → Type 0) → ((c : ℕ) → P (ShutClaim c)) → (m : Move Plain) → kind_of m ≡ 6 → P m
kind_6 P here (ShutClaim c) e = here c
kind_6 P here m e = absurd (omega arith)

-- an event of kind 6 shuts a claim word
pub reads_6 : (g : Shape) (s : Core Plain) (e : Event) (P : Move Plain → Type 0) → e.kind ≡ 6 → ((c : ℕ) → Reads g s e (ShutClaim c) → P (ShutClaim c)) → (m : Move Plain) → Reads g s e m → P m
reads_6 g s e P kind here m r = kind_6 (λ m. Reads g s e m → P m) here m (sym (kind_is g s e m r) ∙ kind) r

kind_7 : (P : Move Plain → Type 0) → ((n p : ℕ) (a : Plain) → P (TryClaim n p a)) → (m : Move Plain) → kind_of m ≡ 7 → P m
kind_7 P here (TryClaim n p a) e = here n p a
kind_7 P here m e = absurd (omega arith)

-- an event of kind 7 tries to claim a partition
pub reads_7 : (g : Shape) (s : Core Plain) (e : Event) (P : Move Plain → Type 0) → e.kind ≡ 7 → ((n p : ℕ) (a : Plain) → Reads g s e (TryClaim n p a) → P (TryClaim n p a)) → (m : Move Plain) → Reads g s e m → P m
reads_7 g s e P kind here m r = kind_7 (λ m. Reads g s e m → P m) here m (sym (kind_is g s e m r) ∙ kind) r

kind_8 : (P : Move Plain → Type 0) → ((n p i : ℕ) → P (LayPiece n p i)) → (m : Move Plain) → kind_of m ≡ 8 → P m
kind_8 P here (LayPiece n p i) e = here n p i
kind_8 P here m e = absurd (omega arith)

-- an event of kind 8 lays a partition into a piece
pub reads_8 : (g : Shape) (s : Core Plain) (e : Event) (P : Move Plain → Type 0) → e.kind ≡ 8 → ((n p i : ℕ) → Reads g s e (LayPiece n p i) → P (LayPiece n p i)) → (m : Move Plain) → Reads g s e m → P m
reads_8 g s e P kind here m r = kind_8 (λ m. Reads g s e m → P m) here m (sym (kind_is g s e m r) ∙ kind) r

kind_9 : (P : Move Plain → Type 0) → ((k t : ℕ) → P (StoreReturn k t)) → (m : Move Plain) → kind_of m ≡ 9 → P m
kind_9 P here (StoreReturn k t) e = here k t
kind_9 P here m e = absurd (omega arith)

-- an event of kind 9 is the store of a return word
pub reads_9 : (g : Shape) (s : Core Plain) (e : Event) (P : Move Plain → Type 0) → e.kind ≡ 9 → ((k t : ℕ) → Reads g s e (StoreReturn k t) → P (StoreReturn k t)) → (m : Move Plain) → Reads g s e m → P m
reads_9 g s e P kind here m r = kind_9 (λ m. Reads g s e m → P m) here m (sym (kind_is g s e m r) ∙ kind) r

kind_10 : (P : Move Plain → Type 0) → ((k t : ℕ) → P (StoreTake k t)) → (m : Move Plain) → kind_of m ≡ 10 → P m
kind_10 P here (StoreTake k t) e = here k t
kind_10 P here m e = absurd (omega arith)

-- an event of kind 10 is the store of a take word
pub reads_10 : (g : Shape) (s : Core Plain) (e : Event) (P : Move Plain → Type 0) → e.kind ≡ 10 → ((k t : ℕ) → Reads g s e (StoreTake k t) → P (StoreTake k t)) → (m : Move Plain) → Reads g s e m → P m
reads_10 g s e P kind here m r = kind_10 (λ m. Reads g s e m → P m) here m (sym (kind_is g s e m r) ∙ kind) r

kind_11 : (P : Move Plain → Type 0) → ((q : ℕ) (a : Plain) → P (TakePart q a)) → (m : Move Plain) → kind_of m ≡ 11 → P m
kind_11 P here (TakePart q a) e = here q a
kind_11 P here m e = absurd (omega arith)

-- an event of kind 11 takes a partition
pub reads_11 : (g : Shape) (s : Core Plain) (e : Event) (P : Move Plain → Type 0) → e.kind ≡ 11 → ((q : ℕ) (a : Plain) → Reads g s e (TakePart q a) → P (TakePart q a)) → (m : Move Plain) → Reads g s e m → P m
reads_11 g s e P kind here m r = kind_11 (λ m. Reads g s e m → P m) here m (sym (kind_is g s e m r) ∙ kind) r

kind_12 : (P : Move Plain → Type 0) → ((q : ℕ) → P (ReturnPart q)) → (m : Move Plain) → kind_of m ≡ 12 → P m
kind_12 P here (ReturnPart q) e = here q
kind_12 P here m e = absurd (omega arith)

-- an event of kind 12 gives a partition back
pub reads_12 : (g : Shape) (s : Core Plain) (e : Event) (P : Move Plain → Type 0) → e.kind ≡ 12 → ((q : ℕ) → Reads g s e (ReturnPart q) → P (ReturnPart q)) → (m : Move Plain) → Reads g s e m → P m
reads_12 g s e P kind here m r = kind_12 (λ m. Reads g s e m → P m) here m (sym (kind_is g s e m r) ∙ kind) r

kind_13 : (P : Move Plain → Type 0) → ((k : ℕ) → P (StoreRelease k)) → (m : Move Plain) → kind_of m ≡ 13 → P m
kind_13 P here (StoreRelease k) e = here k
kind_13 P here m e = absurd (omega arith)

-- an event of kind 13 is the store of the release word
pub reads_13 : (g : Shape) (s : Core Plain) (e : Event) (P : Move Plain → Type 0) → e.kind ≡ 13 → ((k : ℕ) → Reads g s e (StoreRelease k) → P (StoreRelease k)) → (m : Move Plain) → Reads g s e m → P m
reads_13 g s e P kind here m r = kind_13 (λ m. Reads g s e m → P m) here m (sym (kind_is g s e m r) ∙ kind) r

-- any other event is no move
pub reads_none : (g : Shape) (s : Core Plain) (e : Event) → ((n : ℕ) → 1 ≤ n → n ≤ 13 → e.kind ≢ n) → (m : Move Plain) → Reads g s e m → ⊥
reads_none g s e none (StorePiece k i) r = none 1 (omega arith) (omega arith) (kind_is g s e (StorePiece k i) r)
reads_none g s e none (StoreClaim k c) r = none 2 (omega arith) (omega arith) (kind_is g s e (StoreClaim k c) r)
reads_none g s e none (LoadClaim n c) r = none 3 (omega arith) (omega arith) (kind_is g s e (LoadClaim n c) r)
reads_none g s e none (LoadPiece n d i) r = none 4 (omega arith) (omega arith) (kind_is g s e (LoadPiece n d i) r)
reads_none g s e none LoadRelease r = none 5 (omega arith) (omega arith) (kind_is g s e LoadRelease r)
reads_none g s e none (ShutClaim c) r = none 6 (omega arith) (omega arith) (kind_is g s e (ShutClaim c) r)
reads_none g s e none (TryClaim n p a) r = none 7 (omega arith) (omega arith) (kind_is g s e (TryClaim n p a) r)
reads_none g s e none (LayPiece n p i) r = none 8 (omega arith) (omega arith) (kind_is g s e (LayPiece n p i) r)
reads_none g s e none (StoreReturn k t) r = none 9 (omega arith) (omega arith) (kind_is g s e (StoreReturn k t) r)
reads_none g s e none (StoreTake k t) r = none 10 (omega arith) (omega arith) (kind_is g s e (StoreTake k t) r)
reads_none g s e none (TakePart q a) r = none 11 (omega arith) (omega arith) (kind_is g s e (TakePart q a) r)
reads_none g s e none (ReturnPart q) r = none 12 (omega arith) (omega arith) (kind_is g s e (ReturnPart q) r)
reads_none g s e none (StoreRelease k) r = none 13 (omega arith) (omega arith) (kind_is g s e (StoreRelease k) r)
reads_none g s e none (Split n) r = absurd r
reads_none g s e none (Rise n w more) r = absurd r
reads_none g s e none (Join n) r = absurd r
