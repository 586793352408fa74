-- What a layer above may rest on in a sound state, a sentence a fact: each is of one state, or of one move from it.
use Rattle.std.specs.Prelude.{◌≡◌, ◌≢◌, ◌⊎◌, ℕ, ◌/◌, ◌%◌, ◌<◌, ◌≤◌, Some, None, false}
use Rattle.gate_word.specs.Words.{round_in}
use Rattle.gate_word.specs.Order.{IsLater}
use Rattle.part_geometry.specs.Shape.{Shape}
use Rattle.part_geometry.specs.Cells.{cells, send_of, recv_of}
use Rattle.part_geometry.specs.Pieces.{pieces, piece_of, Touches}
use Rattle.pair_core.specs.Words.{bit}
use Rattle.pair_core.specs.Names.{Name, Claim, Return, Piece, claim_words, Fits}
use Rattle.pair_core.specs.Core.{Core, Home, Out, IsMarker, has, times}
use Rattle.pair_core.specs.Reading.{part_bit, next_round, IsFull}
use Rattle.pair_core.specs.Steps.{enters}
use Rattle.pair_core.specs.Moves.{Move, LayPiece, TakePart, ReturnPart, IsSendActive, IsSendIdle, MayClaim, IsAllowed}
use Rattle.pair_core.specs.Moves.{after}
use Rattle.pair_core.specs.Sound.{HasRound, Sound}
use Rattle.pair_core.specs.declared.view.Pending.{Pending}
use Rattle.pair_core.specs.declared.view.Life.TheVariants.{Live, Spent}

module _ {A : Type 0} where
  -- the word of cell c's piece at place d, and the return words
  abbrev pub piece_word : Shape → Core A → ℕ → ℕ → ℕ
  piece_word g s d c = s.word (Piece d (piece_of g c))

  abbrev pub returns : Core A → ℕ → ℕ
  returns s t = s.word (Return t)

  -- the buffer of cell c that is home at place d has the round of its piece's word
  abbrev pub IsKept : Shape → Core A → ℕ → ℕ → Type 0
  IsKept g s d c = HasRound g (returns s) (piece_word g s d c) c

  -- a move is the lay that brings the buffer of cell c home at place d
  abbrev pub BringsHome : Shape → Core A → Move A → ℕ → ℕ → Type 0
  BringsHome g s m d c = (n : ℕ) × (m ≡ LayPiece n (send_of g c) (piece_of g c)) × (d ≡ s.send.round % g.depth)

pub record StateFacts (A : Type 0) (g : Shape) : Type 0 where
  -- after a move each word is the one before it, or later
  pub words_grow : (s : Core A) (m : Move A) (x : Name) → Sound g s → IsAllowed g s m → Fits g x
      → IsLater (s.word x) ((after g s m).word x)
  -- An open claim word is of the sender's round, and was opened and not yet shut in it; while it lacks a partition, no
  -- claim word is shut.
  pub open_is_active : (s : Core A) (c : ℕ) → Sound g s → c < claim_words g → bit (s.word (Claim c)) 32 ≡ 0
      → (round_in (s.word (Claim c)) ≡ s.send.round) × (1 ≤ s.send.round) × (s.send.shut ≤ c) × (c < s.send.opened)
  pub may_claim_active : (s : Core A) (p : ℕ) → Sound g s → p < g.send_parts → MayClaim s.word p
      → (round_in (s.word (Claim (p / 32))) ≡ s.send.round) × (1 ≤ s.send.round) × (s.send.shut ≡ 0)
      × (p / 32 < s.send.opened)
  -- Of a partition that may be claimed the slots are home, no seat has a mark of this round, and no receive partition
  -- under it was taken in it; and no buffer of it that is home has this round.
  pub claim_home : (s : Core A) (p c : ℕ) → Sound g s → p < g.send_parts → MayClaim s.word p → c < cells g
      → send_of g c ≡ p
      → (k : ℕ) × (s.slot (s.send.round % g.depth) c ≡ Home k)
  pub claim_unmarked : (s : Core A) (p n : ℕ) → Sound g s → p < g.send_parts → MayClaim s.word p
      → times s.send.round p (s.marks n) ≡ 0
  pub claim_untaken : (s : Core A) (p c : ℕ) → Sound g s → p < g.send_parts → MayClaim s.word p → c < cells g
      → send_of g c ≡ p
      → times s.send.round (recv_of g c) s.takes ≡ 0
  pub claim_unkept : (s : Core A) (p d c : ℕ) → Sound g s → p < g.send_parts → MayClaim s.word p → d < g.depth
      → c < cells g → send_of g c ≡ p
      → IsKept g s d c → round_in (piece_word g s d c) ≢ s.send.round
  -- A claim that pends is of the sender's round, and its marker's view has the mark; the slots of the cells whose piece
  -- doesn't have it are out to the marker.
  pub pending_is : (s : Core A) (n : ℕ) (x : Pending) → Sound g s → s.pending n ≡ Some x
      → (x.round ≡ s.send.round) × (1 ≤ x.round) × (x.partition < g.send_parts) × IsMarker n × (s.life n ≡ Live)
      × (times x.round x.partition (s.marks n) ≡ 1)
  pub pending_out : (s : Core A) (n c : ℕ) (x : Pending) → Sound g s → s.pending n ≡ Some x → c < cells g
      → send_of g c ≡ x.partition → has x.laid (piece_of g c) ≡ false
      → s.slot (s.send.round % g.depth) c ≡ Out n
  -- Of a partition that may be taken each slot is home with the receiver's round, each cell is marked in it, and no
  -- buffer was given back in it; of one that may be given back each slot is out to the receive side.
  pub take_home : (s : Core A) (q c : ℕ) (a : A) → Sound g s → IsAllowed g s (TakePart q a) → c < cells g
      → recv_of g c ≡ q
      → (s.slot (s.recv.round % g.depth) c ≡ Home s.recv.round) × IsKept g s (s.recv.round % g.depth) c
      × (round_in (piece_word g s (s.recv.round % g.depth) c) ≡ s.recv.round)
  pub take_marked : (s : Core A) (q c : ℕ) (a : A) → Sound g s → IsAllowed g s (TakePart q a) → c < cells g
      → recv_of g c ≡ q
      → (n : ℕ) × (times s.recv.round (send_of g c) (s.marks n) ≡ 1)
  pub return_out : (s : Core A) (q c : ℕ) → Sound g s → IsAllowed g s (ReturnPart q) → c < cells g → recv_of g c ≡ q
      → s.slot (s.recv.round % g.depth) c ≡ Out 1
  -- A buffer that is home has a round after a move where it had it before, or where the move is the lay that brings it
  -- home; what is given back has none.
  pub kept_before : (s : Core A) (m : Move A) (d c : ℕ) → Sound g s → IsAllowed g s m → d < g.depth → c < cells g
      → IsKept g (after g s m) d c
      → BringsHome g s m d c
      ⊎ (IsKept g s d c × (round_in (piece_word g (after g s m) d c) ≡ round_in (piece_word g s d c)))
  pub return_unkept : (s : Core A) (q c : ℕ) → Sound g s → IsAllowed g s (ReturnPart q) → c < cells g → recv_of g c ≡ q
      → ¬ IsKept g (after g s (ReturnPart q)) (s.recv.round % g.depth) c
  -- what a seat has seen full in the receiver's round is full, until the round is released
  pub stays_full : (s : Core A) (n i : ℕ) → Sound g s → s.recv.released ≡ 0 → s.life n ≢ Spent → i < pieces g
      → IsFull g (s.seen n (Piece (s.recv.round % g.depth) i)) s.recv.round i
      → IsFull g (s.word (Piece (s.recv.round % g.depth) i)) s.recv.round i
  -- While no marker is out: where all that a piece touches is claimed, the piece is full; what the send side has seen
  -- claimed in its round it has the mark of.
  pub none_pend : (s : Core A) (n : ℕ) → Sound g s → s.send.markers ≡ 0 → s.pending n ≡ None
  pub all_laid : (s : Core A) (i : ℕ) → Sound g s → s.send.markers ≡ 0 → IsSendActive g s.send → i < pieces g
      → ((p : ℕ) → Touches g i p → part_bit (λ c. s.word (Claim c)) p ≡ 1)
      → IsFull g (s.word (Piece (s.send.round % g.depth) i)) s.send.round i
  pub seen_marked : (s : Core A) (p : ℕ) → Sound g s → s.send.markers ≡ 0 → IsSendActive g s.send → p < g.send_parts
      → part_bit (λ c. s.seen 0 (Claim c)) p ≡ 1
      → times s.send.round p (s.marks 0) ≡ 1
  pub seen_open : (s : Core A) (c : ℕ) → Sound g s → IsSendActive g s.send → c < claim_words g
      → (round_in (s.seen 0 (Claim c)) ≡ s.send.round) × (bit (s.seen 0 (Claim c)) 32 ≡ 0)
  -- what a seat has seen claimed in a round, or shut in it, or of a later round, was marked in that round
  pub claimed_marked : (s : Core A) (n k p : ℕ) → Sound g s → s.life n ≢ Spent → 1 ≤ k → p < g.send_parts
      → (k < next_round (λ c. s.seen n (Claim c)) p)
      ⊎ ((round_in (s.seen n (Claim (p / 32))) ≡ k) × (bit (s.seen n (Claim (p / 32))) 32 ≡ 1))
      → (m : ℕ) × (times k p (s.marks m) ≡ 1)
  -- Where both sides are idle and no marker is out, the send side has each mark of each of its rounds, and the receive
  -- side each take of each of its rounds, once, and no others; the receiver's round isn't above the sender's.
  pub all_marked : (s : Core A) (k p : ℕ) → Sound g s → s.send.markers ≡ 0 → IsSendIdle g s.send → 1 ≤ k
      → k ≤ s.send.round → p < g.send_parts → times k p (s.marks 0) ≡ 1
  pub only_marked : (s : Core A) (n k p : ℕ) → Sound g s → 1 ≤ times k p (s.marks n)
      → (1 ≤ k) × (k ≤ s.send.round) × (p < g.send_parts)
  pub all_taken : (s : Core A) (k q : ℕ) → Sound g s → s.recv.released ≡ 1 → 1 ≤ k → k ≤ s.recv.round → q < g.recv_parts
      → times k q s.takes ≡ 1
  pub only_taken : (s : Core A) (k q : ℕ) → Sound g s → 1 ≤ times k q s.takes
      → (1 ≤ k) × (k ≤ s.recv.round) × (q < g.recv_parts)
  pub received_sent : (s : Core A) → Sound g s → s.recv.released ≡ 1 → s.recv.round ≤ s.send.round
  -- a mark of a round and a partition stands in one view, once
  pub one_view : (s : Core A) (n m k p : ℕ) → Sound g s → 1 ≤ times k p (s.marks n) → 1 ≤ times k p (s.marks m) → n ≡ m
  pub marked_once : (s : Core A) (n k p : ℕ) → Sound g s → times k p (s.marks n) ≤ 1
  -- what a seat that has a view enters is nothing new
  pub enters_live : (s : Core A) (n : ℕ) → s.life n ≡ Live → enters n s ≡ s
