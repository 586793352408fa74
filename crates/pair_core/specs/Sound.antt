-- When a state is sound. Each group takes what it reads, so a step leaves each group as it is whose functions it
-- leaves. A claim, take or return word has 32 partitions: partition p is the bit p mod 32 of the word p / 32.
use Rattle.std.specs.Prelude.{◌≡◌, ◌≢◌, ◌⊎◌, ◌↔◌, ℕ, ◌+◌, ◌-◌, ◌*◌, ◌/◌, ◌%◌, ◌<◌, ◌≤◌, true, false, ◌==◌}
use Rattle.std.specs.Prelude.{if◌then◌else◌, List, [], ◌∷◌, length, Option, Some, None}
use Rattle.gate_word.specs.Words.{round_in}
use Rattle.gate_word.specs.Order.{IsLater}
use Rattle.part_geometry.specs.Shape.{Shape}
use Rattle.part_geometry.specs.Cells.{cells, send_of, recv_of}
use Rattle.part_geometry.specs.Pieces.{pieces, piece_of, need_count, Touches, TouchesRecv}
use Rattle.pair_core.specs.Words.{bit}
use Rattle.pair_core.specs.Names.{Name, Claim, Release, Take, Return, Piece, claim_words, take_words, Fits}
use Rattle.pair_core.specs.Core.{Core, Slot, Home, Out, IsMarker, IsWatcher, has, times}
use Rattle.pair_core.specs.Reading.{part_bit, next_round, laid, IsFull, last_round}
use Rattle.pair_core.specs.Moves.{IsRecvActive, first_word}
use Rattle.pair_core.specs.declared.view.Mark.{Mark}
use Rattle.pair_core.specs.declared.view.Pending.{Pending}
use Rattle.pair_core.specs.declared.view.SendSide.{SendSide}
use Rattle.pair_core.specs.declared.view.RecvSide.{RecvSide}
use Rattle.pair_core.specs.declared.view.Life.{Life}
use Rattle.pair_core.specs.declared.view.Life.TheVariants.{Blank, Live, Spent}

-- how far both sides are: each opens its words in order, and the sender is at most `depth` rounds ahead of the release
pub record Progress (g : Shape) (released : ℕ) (send : SendSide) (recv : RecvSide) : Type 0 where
  pub some : 1 ≤ send.pieces
  pub pieces_most : send.pieces ≤ pieces g
  pub opened : send.opened ≤ claim_words g
  pub shut : send.shut ≤ claim_words g
  pub opens_last : 1 ≤ send.opened → send.pieces ≡ pieces g
  pub shuts_last : 1 ≤ send.shut → send.opened ≡ claim_words g
  pub begun : send.round ≡ 0 → send.shut ≡ claim_words g
  pub behind : released ≤ send.round
  pub ahead : send.round ≤ released + g.depth
  pub some_return : 1 ≤ recv.returns
  pub returns : recv.returns ≤ take_words g
  pub takes : recv.takes ≤ take_words g
  pub takes_last : 1 ≤ recv.takes → recv.returns ≡ take_words g
  pub ends_last : 1 ≤ recv.released → recv.takes ≡ take_words g
  pub ends_once : recv.released ≤ 1
  pub current : recv.round + recv.released ≡ released + 1

-- The claim words. A word that is shut in this round, or not yet opened in it, has each of its partitions.
pub record Gates (g : Shape) (claim : ℕ → ℕ) (send : SendSide) : Type 0 where
  pub is_shut : (c : ℕ) → c < send.shut → (round_in (claim c) ≡ send.round) × (bit (claim c) 32 ≡ 1)
  pub is_open : (c : ℕ) → send.shut ≤ c → c < send.opened → (round_in (claim c) ≡ send.round) × (bit (claim c) 32 ≡ 0)
  pub is_past : (c : ℕ) → send.opened ≤ c → c < claim_words g
      → (round_in (claim c) + 1 ≡ send.round) × (bit (claim c) 32 ≡ 1)
  pub all_ended : (p : ℕ) → p < g.send_parts → 1 ≤ send.shut → part_bit claim p ≡ 1
  pub all_past : (p : ℕ) → p < g.send_parts → send.opened ≤ p / 32 → part_bit claim p ≡ 1

-- The piece words. A piece is full in the last round of its place, but for the round that the sender is in and hasn't
-- ended: there it has only partitions that are claimed in it.
pub record Pieces (g : Shape) (claim : ℕ → ℕ) (piece : ℕ → ℕ → ℕ) (send : SendSide) : Type 0 where
  pub other : (d i : ℕ) → d < g.depth → i < pieces g → d ≢ send.round % g.depth
      → IsFull g (piece d i) (last_round g.depth send.round d) i
  pub waiting : (i : ℕ) → send.pieces ≤ i → i < pieces g
      → IsFull g (piece (send.round % g.depth) i) (send.round - g.depth) i
  pub current : (i : ℕ) → i < send.pieces → round_in (piece (send.round % g.depth) i) ≡ send.round
  pub ended : (i p : ℕ) → i < pieces g → 1 ≤ send.shut → Touches g i p → laid g (piece (send.round % g.depth) i) i p ≡ 1
  pub claimed : (i p : ℕ) → i < send.pieces → send.shut ≡ 0 → Touches g i p
      → laid g (piece (send.round % g.depth) i) i p ≡ 1
      → (p / 32 < send.opened) × (part_bit claim p ≡ 1)

-- The take and return words. A word that isn't stored for this round yet has each of its partitions; what is given back
-- was taken; and where the round is released all is.
pub record Receiving (g : Shape) (take ret : ℕ → ℕ) (recv : RecvSide) : Type 0 where
  pub return_now : (t : ℕ) → t < recv.returns → round_in (ret t) ≡ recv.round
  pub return_past : (t : ℕ) → recv.returns ≤ t → t < take_words g → round_in (ret t) + 1 ≡ recv.round
  pub take_now : (t : ℕ) → t < recv.takes → round_in (take t) ≡ recv.round
  pub take_past : (t : ℕ) → recv.takes ≤ t → t < take_words g → round_in (take t) + 1 ≡ recv.round
  pub all_returned : (q : ℕ) → q < g.recv_parts → recv.returns ≤ q / 32 → part_bit ret q ≡ 1
  pub all_taken : (q : ℕ) → q < g.recv_parts → recv.takes ≤ q / 32 → part_bit take q ≡ 1
  pub none_returned : (q : ℕ) → q < g.recv_parts → recv.takes < take_words g → q / 32 < recv.returns
      → part_bit ret q ≡ 0
  pub none_taken : (q : ℕ) → q < g.recv_parts → recv.takes < take_words g → q / 32 < recv.takes → part_bit take q ≡ 0
  pub within : (q : ℕ) → q < g.recv_parts → recv.takes ≡ take_words g → part_bit ret q ≤ part_bit take q
  pub done : (q : ℕ) → q < g.recv_parts → recv.released ≡ 1 → (part_bit take q ≡ 1) × (part_bit ret q ≡ 1)

-- what is taken in the receiver's round was full in it, and is
abbrev pub Arrived : Shape → (ℕ → ℕ) → (ℕ → ℕ → ℕ) → RecvSide → Type 0
Arrived g take piece recv =
    (q i : ℕ) → q < g.recv_parts → i < pieces g → IsRecvActive g recv → part_bit take q ≡ 1 → TouchesRecv g i q
    → IsFull g (piece (recv.round % g.depth) i) recv.round i

-- the sender's round is open for partition p, and p is claimed in it
abbrev pub IsClaimed : (ℕ → ℕ) → SendSide → ℕ → Type 0
IsClaimed claim send p = (send.shut ≡ 0) × (p / 32 < send.opened) × (part_bit claim p ≡ 1)

-- and piece i doesn't have it yet
abbrev pub IsOwed : Shape → (ℕ → ℕ) → (ℕ → ℕ → ℕ) → SendSide → ℕ → ℕ → Type 0
IsOwed g claim piece send p i = IsClaimed claim send p × (laid g (piece (send.round % g.depth) i) i p ≡ 0)

-- A claim that pends is of the sender's round. The pieces laid are those that have the partition, and one at least
-- hasn't. `who` is the seat that has the mark of a round and a partition.
pub record IsPending (g : Shape) (claim : ℕ → ℕ) (piece : ℕ → ℕ → ℕ) (send : SendSide) (life : ℕ → Life)
    (who : ℕ → ℕ → ℕ) (n : ℕ) (x : Pending) : Type 0 where
  pub round : x.round ≡ send.round
  pub partition : x.partition < g.send_parts
  pub claimed : IsClaimed claim send x.partition
  pub marker : IsMarker n
  pub live : life n ≡ Live
  pub seat : who x.round x.partition ≡ n
  pub laid : (i : ℕ) → i < pieces g → Touches g i x.partition
      → (has x.laid i ≡ true) ↔ (laid g (piece (send.round % g.depth) i) i x.partition ≡ 1)
  pub some : (i : ℕ) × (i < pieces g) × Touches g i x.partition × (has x.laid i ≡ false)

-- exactly the claims that a piece is owed pend
pub record Claims (g : Shape) (claim : ℕ → ℕ) (piece : ℕ → ℕ → ℕ) (send : SendSide) (life : ℕ → Life)
    (pending : ℕ → Option Pending) (who : ℕ → ℕ → ℕ) : Type 0 where
  pub each : (n : ℕ) (x : Pending) → pending n ≡ Some x → IsPending g claim piece send life who n x
  pub all : (p i : ℕ) → p < g.send_parts → i < pieces g → Touches g i p → IsOwed g claim piece send p i
      → (x : Pending) × (pending (who send.round p) ≡ Some x) × (x.partition ≡ p)

-- a slot at the sender's place is lent to the claim of its cell's partition until the cell's piece has it
abbrev pub IsLent : Shape → (ℕ → ℕ) → (ℕ → ℕ → ℕ) → SendSide → ℕ → Type 0
IsLent g claim piece send c = IsOwed g claim piece send (send_of g c) (piece_of g c)

-- a slot at the receiver's place is held by it from its partition's take to its return
abbrev pub IsHeld : Shape → (ℕ → ℕ) → (ℕ → ℕ) → RecvSide → ℕ → Type 0
IsHeld g take ret recv c = IsRecvActive g recv × (part_bit take (recv_of g c) ≡ 1) × (part_bit ret (recv_of g c) ≡ 0)

-- a buffer of cell c that is home has the round of its piece's word: the word has its send partition, and it wasn't
-- given back in that round
pub record HasRound (g : Shape) (ret : ℕ → ℕ) (word c : ℕ) : Type 0 where
  pub laid : laid g word (piece_of g c) (send_of g c) ≡ 1
  pub kept : next_round ret (recv_of g c) ≤ round_in word

-- where the slots are, and which round a buffer has that is home
pub record Slots (g : Shape) (claim take ret : ℕ → ℕ) (piece : ℕ → ℕ → ℕ) (send : SendSide) (recv : RecvSide)
    (slot : ℕ → ℕ → Slot) (who : ℕ → ℕ → ℕ) : Type 0 where
  pub lent : (c : ℕ) → c < cells g → IsLent g claim piece send c
      → slot (send.round % g.depth) c ≡ Out (who send.round (send_of g c))
  pub held : (c : ℕ) → c < cells g → IsHeld g take ret recv c → slot (recv.round % g.depth) c ≡ Out 1
  pub home : (d c : ℕ) → d < g.depth → c < cells g → ¬ ((d ≡ send.round % g.depth) × IsLent g claim piece send c)
      → ¬ ((d ≡ recv.round % g.depth) × IsHeld g take ret recv c) → (k : ℕ) × (slot d c ≡ Home k)
  pub tied : (d c k : ℕ) → d < g.depth → c < cells g → slot d c ≡ Home k → HasRound g ret (piece d (piece_of g c)) c
      → k ≡ round_in (piece d (piece_of g c))

-- Marks. A partition is marked in each round before the first in which it isn't claimed, by one seat and once.
pub record Marks {A : Type 0} (g : Shape) (claim : ℕ → ℕ) (life : ℕ → Life) (marks : ℕ → List (Mark A))
    (who : ℕ → ℕ → ℕ) : Type 0 where
  pub own : (n k p : ℕ) → 1 ≤ times k p (marks n)
      → (who k p ≡ n) × (1 ≤ k) × (p < g.send_parts) × (k < next_round claim p)
      × ((n ≡ 0) ⊎ (IsMarker n × (life n ≡ Live)))
  pub all : (k p : ℕ) → 1 ≤ k → p < g.send_parts → k < next_round claim p → times k p (marks (who k p)) ≡ 1

-- takes, in the same way; and each piece over what was taken has all of its partitions in that round, or went on
pub record Takes {A : Type 0} (g : Shape) (take : ℕ → ℕ) (piece : ℕ → ℕ → ℕ) (takes : List (Mark A)) : Type 0 where
  pub own : (k q : ℕ) → 1 ≤ times k q takes → (1 ≤ k) × (q < g.recv_parts) × (k < next_round take q)
  pub all : (k q : ℕ) → 1 ≤ k → q < g.recv_parts → k < next_round take q → times k q takes ≡ 1
  pub out : (k q i p : ℕ) → 1 ≤ times k q takes → i < pieces g → TouchesRecv g i q → Touches g i p
      → k < round_in (piece (k % g.depth) i) + laid g (piece (k % g.depth) i) i p

-- a bit that stands for something: whether a claim word is shut, or a partition
abbrev pub IsUsed : Shape → Name → ℕ → Type 0
IsUsed g (Claim c) j = (j ≡ 32) ⊎ ((j < 32) × (32 * c + j < g.send_parts))
IsUsed g Release j = ⊥
IsUsed g (Take t) j = (j < 32) × (32 * t + j < g.recv_parts)
IsUsed g (Return t) j = (j < 32) × (32 * t + j < g.recv_parts)
IsUsed g (Piece d i) j = j < need_count g i

-- no other bit is set
abbrev pub Unused : Shape → (Name → ℕ) → Type 0
Unused g word = (x : Name) (j : ℕ) → Fits g x → j < 33 → ¬ IsUsed g x j → bit (word x) j ≡ 0

-- no seat has seen what isn't so, and each has seen the first words at least
pub record Seen (g : Shape) (word : Name → ℕ) (life : ℕ → Life) (seen : ℕ → Name → ℕ) : Type 0 where
  pub present : (n : ℕ) (x : Name) → life n ≢ Spent → Fits g x → IsLater (seen n x) (word x)
  pub first : (n : ℕ) (x : Name) → Fits g x → IsLater (first_word g x) (seen n x)

-- while no claim word is shut, the send side has seen in its round each claim word that it opened
abbrev pub SeesOpened : SendSide → (Name → ℕ) → Type 0
SeesOpened send seen = (c : ℕ) → send.shut ≡ 0 → c < send.opened → round_in (seen (Claim c)) ≡ send.round

-- a view in which nothing was done: its seat has seen the first words
pub record IsNew {A : Type 0} (g : Shape) (saw looked : Name → ℕ) (claim : Option Pending) (marked : List (Mark A))
    : Type 0 where
  pub seen : (x : Name) → Fits g x → saw x ≡ first_word g x
  pub looks : (x : Name) → Fits g x → looked x ≡ 0
  pub pending : claim ≡ None
  pub marks : marked ≡ []

-- a seat that has no view so far has such a one when it gets one
abbrev pub News : {A : Type 0} → Shape → (ℕ → Life) → (ℕ → Name → ℕ) → (ℕ → Name → ℕ) → (ℕ → Option Pending)
    → (ℕ → List (Mark A)) → Type 0
News g life seen looks pending marks = (n : ℕ) → life n ≡ Blank → IsNew g (seen n) (looks n) (pending n) (marks n)

-- the receive side alone writes take and return words, and has seen them as they are
pub record Owns (g : Shape) (take ret : ℕ → ℕ) (seen : Name → ℕ) : Type 0 where
  pub takes : (t : ℕ) → t < take_words g → seen (Take t) ≡ take t
  pub returns : (t : ℕ) → t < take_words g → seen (Return t) ≡ ret t

-- how often a list has a number
abbrev pub occurrences : ℕ → List ℕ → ℕ
occurrences n [] = 0
occurrences n (m ∷ ms) = (if m == n then 1 else 0) + occurrences n ms

-- so many seats of a sort have a view: a list has each of them once, and no other number
pub record Counts (IsSort : ℕ → Type 0) (life : ℕ → Life) (count : ℕ) : Type 0 where
  pub seats : List ℕ
  pub number : length seats ≡ count
  pub all : (n : ℕ) → IsSort n → life n ≡ Live → occurrences n seats ≡ 1
  pub only : (n : ℕ) → 1 ≤ occurrences n seats → IsSort n × (life n ≡ Live)

pub record Lives (life : ℕ → Life) (markers watchers : ℕ) : Type 0 where
  pub send : life 0 ≡ Live
  pub recv : life 1 ≡ Live
  pub markers_out : Counts IsMarker life markers
  pub watchers_out : Counts IsWatcher life watchers

pub record Sound {A : Type 0} (g : Shape) (s : Core A) : Type 0 where
  pub who : ℕ → ℕ → ℕ
  pub progress : Progress g (round_in (s.word Release)) s.send s.recv
  pub gates : Gates g (λ c. s.word (Claim c)) s.send
  pub pieces : Pieces g (λ c. s.word (Claim c)) (λ d i. s.word (Piece d i)) s.send
  pub receiving : Receiving g (λ t. s.word (Take t)) (λ t. s.word (Return t)) s.recv
  pub arrived : Arrived g (λ t. s.word (Take t)) (λ d i. s.word (Piece d i)) s.recv
  pub claims : Claims g (λ c. s.word (Claim c)) (λ d i. s.word (Piece d i)) s.send s.life s.pending who
  pub slots : Slots g (λ c. s.word (Claim c)) (λ t. s.word (Take t)) (λ t. s.word (Return t))
      (λ d i. s.word (Piece d i)) s.send s.recv s.slot who
  pub marks : Marks g (λ c. s.word (Claim c)) s.life s.marks who
  pub takes : Takes g (λ t. s.word (Take t)) (λ d i. s.word (Piece d i)) s.takes
  pub unused : Unused g s.word
  pub seen : Seen g s.word s.life s.seen
  pub opened : SeesOpened s.send (s.seen 0)
  pub news : News g s.life s.seen s.looks s.pending s.marks
  pub owns : Owns g (λ t. s.word (Take t)) (λ t. s.word (Return t)) (s.seen 1)
  pub lives : Lives s.life s.send.markers s.recv.watchers
