-- Which moves a pair may make, and the state after each. A move is an atomic step, or changes views alone.
use Rattle.std.specs.Prelude.{◌≡◌, ◌≢◌, ◌⊎◌, ℕ, ◌+◌, ◌-◌, ◌/◌, ◌%◌, ◌<◌, ◌≤◌, ◌==◌, Bool, true, false, []}
use Rattle.std.specs.Prelude.{◌++◌, Option, Some, None, ◌*◌, ◌^◌, min, if◌then◌else◌, nat_lt}
use Rattle.gate_word.specs.Words.{round_in, word_of}
use Rattle.gate_word.specs.Order.{IsLater}
use Rattle.part_geometry.specs.declared.TheConstants.{LAST_ROUND}
use Rattle.part_geometry.specs.Shape.{Shape}
use Rattle.part_geometry.specs.Pieces.{pieces, need, Touches, TouchesRecv}
use Rattle.pair_core.specs.Words.{bit}
use Rattle.pair_core.specs.Names.{Name, Claim, Release, Take, Return, Piece, claim_words, take_words, Fits, put}
use Rattle.pair_core.specs.Core.{Core, Home, IsMarker, has}
use Rattle.pair_core.specs.Reading.{part_bit, IsFull}
use Rattle.pair_core.specs.Steps.{enters, loads, stores_piece, stores_claim, shuts_claim, tries_claim, lays_piece}
use Rattle.pair_core.specs.Steps.{stores_return, stores_take, takes_part, returns_part, releases, rises, marker_less}
use Rattle.pair_core.specs.Steps.{watcher_less}
use Rattle.pair_core.specs.declared.view.Pending.{Pending}
use Rattle.pair_core.specs.declared.view.SendSide.{SendSide}
use Rattle.pair_core.specs.declared.view.RecvSide.{RecvSide}
use Rattle.pair_core.specs.declared.view.Life.TheVariants.{Blank, Live, Spent}

-- The thirteen kinds of atomic step; n is the seat where any seat or marker may make it, k the round, p a send and q a
-- receive partition, i a piece, d a place, c a claim word and t a take or return word. Then the moves that change
-- views alone: a seat gets a view, sees more, or gives its view up to its side.
pub data Move (A : Type 0) : Type 0 where
  StorePiece : ℕ → ℕ → Move A
  StoreClaim : ℕ → ℕ → Move A
  LoadClaim : ℕ → ℕ → Move A
  LoadPiece : ℕ → ℕ → ℕ → Move A
  LoadRelease : Move A
  ShutClaim : ℕ → Move A
  TryClaim : ℕ → ℕ → A → Move A
  LayPiece : ℕ → ℕ → ℕ → Move A
  StoreReturn : ℕ → ℕ → Move A
  StoreTake : ℕ → ℕ → Move A
  TakePart : ℕ → A → Move A
  ReturnPart : ℕ → Move A
  StoreRelease : ℕ → Move A
  Split : ℕ → Move A
  Rise : ℕ → (Name → ℕ) → ℕ → Move A
  Join : ℕ → Move A

-- the send side is idle, active
abbrev pub IsSendIdle : Shape → SendSide → Type 0
IsSendIdle g d = d.shut ≡ claim_words g

abbrev pub IsSendActive : Shape → SendSide → Type 0
IsSendActive g d = (d.opened ≡ claim_words g) × (d.shut ≡ 0)

-- the receive side is idle, active
abbrev pub IsRecvIdle : RecvSide → Type 0
IsRecvIdle d = d.released ≡ 1

abbrev pub IsRecvActive : Shape → RecvSide → Type 0
IsRecvActive g d = (d.takes ≡ take_words g) × (d.released ≡ 0)

-- the words that a seat has seen let it shut round k: all partitions are claimed and all pieces full in it, and the
-- next round has room
pub record MayShut (g : Shape) (seen : Name → ℕ) (k : ℕ) : Type 0 where
  pub claimed : (p : ℕ) → p < g.send_parts
      → (round_in (seen (Claim (p / 32))) ≡ k) × (part_bit (λ c. seen (Claim c)) p ≡ 1)
  pub full : (i : ℕ) → i < pieces g → IsFull g (seen (Piece (k % g.depth) i)) k i
  pub room : k < round_in (seen Release) + g.depth

-- the words that a seat has seen let it claim partition p: its claim word is open and lacks it
abbrev pub MayClaim : (Name → ℕ) → ℕ → Type 0
MayClaim seen p = (bit (seen (Claim (p / 32))) 32 ≡ 0) × (part_bit (λ c. seen (Claim c)) p ≡ 0)

-- the claim of partition p pends, and piece i touches it and doesn't have it so far
pub record MayLay (g : Shape) (x : Pending) (p i : ℕ) : Type 0 where
  pub partition : x.partition ≡ p
  pub piece : i < pieces g
  pub touches : Touches g i p
  pub missing : has x.laid i ≡ false

-- all pieces over receive partition q are seen full in round k
abbrev pub AreSeen : Shape → (Name → ℕ) → ℕ → ℕ → Type 0
AreSeen g seen k q = (i : ℕ) → i < pieces g → TouchesRecv g i q → IsFull g (seen (Piece (k % g.depth) i)) k i

module _ {A : Type 0} where
  -- the seat's event may come: a seat whose view was joined makes none
  abbrev pub MayStep : ℕ → Core A → Type 0
  MayStep n s = s.life n ≢ Spent

  abbrev pub IsAllowed : Shape → Core A → Move A → Type 0
  IsAllowed g s (StorePiece k i) =
      (i < pieces g) × (k ≤ LAST_ROUND) × (k ≤ round_in (s.seen 0 Release) + g.depth)
      × (((i ≡ 0) × IsSendIdle g s.send × (k ≡ s.send.round + 1))
      ⊎ ((1 ≤ i) × (i ≡ s.send.pieces) × (k ≡ s.send.round)))
  IsAllowed g s (StoreClaim k c) =
      (c < claim_words g) × (k ≡ s.send.round) × (s.send.pieces ≡ pieces g) × (c ≡ s.send.opened)
  IsAllowed g s (LoadClaim n c) = MayStep n s × (c < claim_words g)
  IsAllowed g s (LoadPiece n d i) = MayStep n s × (d < g.depth) × (i < pieces g)
  IsAllowed g s LoadRelease = Unit {0}
  IsAllowed g s (ShutClaim c) =
      (c < claim_words g) × (s.send.opened ≡ claim_words g) × (c ≡ s.send.shut)
      × (c ≡ 0 → MayShut g (s.seen 0) s.send.round)
  -- a seat without a view has seen no claim word open
  IsAllowed g s (TryClaim n p a) =
      IsMarker n × (s.life n ≡ Live) × (p < g.send_parts) × (s.pending n ≡ None) × MayClaim (s.seen n) p
  IsAllowed g s (LayPiece n p i) = (x : Pending) × (s.pending n ≡ Some x) × MayLay g x p i
  IsAllowed g s (StoreReturn k t) =
      (t < take_words g) × (k ≤ LAST_ROUND)
      × (((t ≡ 0) × IsRecvIdle s.recv × (k ≡ s.recv.round + 1)) ⊎ ((1 ≤ t) × (t ≡ s.recv.returns) × (k ≡ s.recv.round)))
  IsAllowed g s (StoreTake k t) =
      (t < take_words g) × (k ≡ s.recv.round) × (s.recv.returns ≡ take_words g) × (t ≡ s.recv.takes)
  IsAllowed g s (TakePart q a) =
      (q < g.recv_parts) × IsRecvActive g s.recv × (part_bit (λ t. s.word (Take t)) q ≡ 0)
      × AreSeen g (s.seen 1) s.recv.round q
  IsAllowed g s (ReturnPart q) =
      (q < g.recv_parts) × IsRecvActive g s.recv × (part_bit (λ t. s.word (Take t)) q ≡ 1)
      × (part_bit (λ t. s.word (Return t)) q ≡ 0)
  IsAllowed g s (StoreRelease k) =
      (k ≡ s.recv.round) × IsRecvActive g s.recv
      × ((q : ℕ) → q < g.recv_parts
      → (part_bit (λ t. s.word (Take t)) q ≡ 1) × (part_bit (λ t. s.word (Return t)) q ≡ 1))
  IsAllowed g s (Split n) = (2 ≤ n) × (s.life n ≡ Blank)
  -- what a seat is told was so; the move counts one look at most, and leaves names alone that the pair doesn't have
  IsAllowed g s (Rise n w more) =
      (s.life n ≡ Live) × ((x : Name) → Fits g x → IsLater (s.seen n x) (w x) × IsLater (w x) (s.word x))
      × (more ≤ 1) × ((x : Name) → ¬ Fits g x → w x ≡ s.seen n x)
  IsAllowed g s (Join n) = (2 ≤ n) × (s.life n ≡ Live) × (s.pending n ≡ None)

-- Round 0 counts as sent, taken, given back and released. These are the words before the first move, by name; a mask
-- has a bit for each partition of the word.
abbrev pub part_mask : ℕ → ℕ → ℕ
part_mask parts c = 2 ^ min 32 (parts - 32 * c) - 1

abbrev pub first_word : Shape → Name → ℕ
first_word g (Claim c) = word_of 0 true (part_mask g.send_parts c)
first_word g Release = word_of 0 false 0
first_word g (Take t) = word_of 0 false (part_mask g.recv_parts t)
first_word g (Return t) = word_of 0 false (part_mask g.recv_parts t)
first_word g (Piece d i) = word_of 0 false (need g i)

-- the state before the first move: the two sides have a view, and no other seat has one
abbrev pub first_state : {A : Type 0} → Shape → Core A
first_state g = record {
  word = first_word g;
  slot = λ d c. Home 0;
  send = record { round = 0; pieces = pieces g; opened = claim_words g; shut = claim_words g; markers = 0 };
  recv = record { round = 0; returns = take_words g; takes = take_words g; released = 1; watchers = 0 };
  life = λ n. if nat_lt n 2 then Live else Blank;
  seen = λ n. first_word g;
  looks = λ n x. 0;
  pending = λ n. None;
  marks = λ n. [];
  takes = [];
}

module _ {A : Type 0} where
  -- the view of n is given up; the seat is blank from then on, and makes no event
  abbrev pub gave_up : Shape → ℕ → Core A → Core A
  gave_up g n s =
      record s { life = put s.life n Spent; seen = put s.seen n (first_word g); looks = put s.looks n (λ x. 0) }

  -- the marks of a marker go to the send side; a watcher has none
  abbrev pub joined : Bool → Shape → ℕ → Core A → Core A
  joined true g n s =
      record (gave_up g n s) { marks = put (put s.marks 0 (s.marks n ++ s.marks 0)) n []; send = marker_less s.send }
  joined false g n s = record (gave_up g n s) { recv = watcher_less s.recv }

  abbrev pub joins : Shape → ℕ → Core A → Core A
  joins g n s = joined (n % 2 == 0) g n s

  abbrev pub lays : Shape → ℕ → ℕ → Option Pending → Core A → Core A
  lays g n i (Some x) s = lays_piece g n i x s
  lays g n i None s = s

  -- the state after a move
  abbrev pub after : Shape → Core A → Move A → Core A
  after g s (StorePiece k i) = stores_piece g k i s
  after g s (StoreClaim k c) = stores_claim c s
  after g s (LoadClaim n c) = loads n (Claim c) (enters n s)
  after g s (LoadPiece n d i) = loads n (Piece d i) (enters n s)
  after g s LoadRelease = loads 0 Release s
  after g s (ShutClaim c) = shuts_claim c s
  after g s (TryClaim n p a) = tries_claim g n p a s
  after g s (LayPiece n p i) = lays g n i (s.pending n) s
  after g s (StoreReturn k t) = stores_return k t s
  after g s (StoreTake k t) = stores_take t s
  after g s (TakePart q a) = takes_part g q a s
  after g s (ReturnPart q) = returns_part g q s
  after g s (StoreRelease k) = releases s
  after g s (Split n) = enters n s
  after g s (Rise n w more) = rises n w more s
  after g s (Join n) = joins g n s
