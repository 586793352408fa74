-- What marks and takes are there, by what a seat has seen of the claim words and by how far the sides are: a
-- partition's next round says in which rounds it was marked, and what was seen is no later than the word.
use Rattle.std.proofs.Common.{◌≡◌, ◌≢◌, ◌⊎◌, inl, inr, ⊎_elim, ℕ, ◌+◌, ◌-◌, ◌/◌, ◌%◌, ◌<◌, ◌≤◌, Some, None, sym, ap, ◌∙◌, arith}
use Rattle.std.proofs.lemmas.Bool.{cases_lt, cases_eq}
use Rattle.gate_word.specs.Words.{round_in}
use Rattle.part_geometry.specs.Shape.{Shape, IsShape}
use Rattle.part_geometry.specs.Pieces.{pieces, first_part, Touches}
use Rattle.pair_core.specs.Words.{bit}
use Rattle.pair_core.specs.Names.{Claim, Take, Piece, claim_words}
use Rattle.pair_core.specs.Core.{Core, times}
use Rattle.pair_core.specs.Reading.{part_bit, next_round, laid, IsFull}
use Rattle.pair_core.specs.Moves.{MayClaim, IsSendActive}
use Rattle.pair_core.specs.Sound.{Sound}
use Rattle.pair_core.specs.Steps.{enters, entered}
use Rattle.pair_core.specs.declared.view.Life.{Life}
use Rattle.pair_core.specs.declared.view.Life.TheVariants.{Live, Spent}
use Rattle.pair_core.proofs.Words.{bit_lt, later_round, later_bit}
use Rattle.pair_core.proofs.Cut.{some_claims, claim_word, take_word, touch_part}
use Rattle.pair_core.proofs.SendFacts.{live_unspent}
use Rattle.pair_core.proofs.Claims.{open_word, claim_free}
use Rattle.pair_core.proofs.ReceiveMarks.{all_home, none_pend}

module _ {A : Type 0} where
  -- a sender that hasn't shut its round is in one
  round_some : (g : Shape) → IsShape g → (s : Core A) → Sound g s → s.send.shut < claim_words g → 1 ≤ s.send.round
  round_some g v s r unshut = elim (cases_eq s.send.round 0) [
    | inl e ↦ let begun = r.progress.begun e in absurd (omega arith)
    | inr other ↦ omega arith
  ]

  -- an open claim word is of the sender's round, opened in it and not shut
  pub open_is_active : (g : Shape) → IsShape g → (s : Core A) (c : ℕ) → Sound g s → c < claim_words g → bit (s.word (Claim c)) 32 ≡ 0
      → (round_in (s.word (Claim c)) ≡ s.send.round) × (1 ≤ s.send.round) × (s.send.shut ≤ c) × (c < s.send.opened)
  open_is_active g v s c r inside unshut =
      let o = open_word g s c r inside unshut in let least = o.unshut in
      (o.round, round_some g v s r (omega arith), o.unshut, o.opened)

  -- where a partition may be claimed no claim word is shut, and its own is opened in the sender's round
  pub may_claim_active : (g : Shape) → IsShape g → (s : Core A) (p : ℕ) → Sound g s → p < g.send_parts → MayClaim s.word p
      → (round_in (s.word (Claim (p / 32))) ≡ s.send.round) × (1 ≤ s.send.round) × (s.send.shut ≡ 0) × (p / 32 < s.send.opened)
  may_claim_active g v s p r inside may = let free = claim_free g v s p r inside may in (free.now, free.round, free.shut, free.opened)

  -- no claim word is past the sender's round
  claim_next : (g : Shape) (s : Core A) (p : ℕ) → Sound g s → p < g.send_parts → next_round (λ c. s.word (Claim c)) p ≤ s.send.round + 1
  claim_next g s p r inside = let word = claim_word g p inside in let small = bit_lt (s.word (Claim (p / 32))) (p % 32) in elim (cases_lt (p / 32) s.send.opened) [
    | inl low ↦ elim (cases_lt (p / 32) s.send.shut) [
      | inl ended ↦ let e = (r.gates.is_shut (p / 32) ended).0 in omega arith
      | inr not_ended ↦ let e = (r.gates.is_open (p / 32) (omega arith) low).0 in omega arith
    ]
    | inr late ↦ let e = (r.gates.is_past (p / 32) (omega arith) word).0 in omega arith
  ]

  -- each mark is of a partition of the pair, in a round from 1 to the sender's
  pub only_marked : (g : Shape) (s : Core A) (n k p : ℕ) → Sound g s → 1 ≤ times k p (s.marks n) → (1 ≤ k) × (k ≤ s.send.round) × (p < g.send_parts)
  only_marked g s n k p r some = let o = r.marks.own n k p some in let below = o.3 in let most = claim_next g s p r o.2 in (o.1, omega arith, o.2)

  -- a claim word that is shut has each of its partitions
  shut_has : (g : Shape) (s : Core A) (p : ℕ) → Sound g s → p < g.send_parts → bit (s.word (Claim (p / 32))) 32 ≡ 1 → part_bit (λ c. s.word (Claim c)) p ≡ 1
  shut_has g s p r inside shut = elim (cases_lt (p / 32) s.send.opened) [
    | inl low ↦ elim (cases_lt (p / 32) s.send.shut) [
      | inl ended ↦ r.gates.all_ended p inside (omega arith)
      | inr not_ended ↦ let e = (r.gates.is_open (p / 32) (omega arith) low).1 in absurd (omega arith)
    ]
    | inr late ↦ r.gates.all_past p inside (omega arith)
  ]

  -- what a seat has seen of a partition's claim word is no later than the word
  seen_next : (g : Shape) (s : Core A) (n p : ℕ) → Sound g s → s.life n ≢ Spent → p < g.send_parts
      → next_round (λ c. s.seen n (Claim c)) p ≤ next_round (λ c. s.word (Claim c)) p
  seen_next g s n p r live inside =
      let a : ℕ = s.seen n (Claim (p / 32)) in let b : ℕ = s.word (Claim (p / 32)) in
      let later = r.seen.present n (Claim (p / 32)) live (claim_word g p inside) in
      let low = later_round a b later in let small = bit_lt a (p % 32) in
      elim (cases_eq (round_in a) (round_in b)) [
        | inl same ↦ let more = later_bit a b later same (p % 32) (omega arith) in omega arith
        | inr other ↦ omega arith
      ]

  -- a seat that has seen the word shut in a round, or of a later one, knows that the partition was marked in it
  seen_shut : (g : Shape) (s : Core A) (n k p : ℕ) → Sound g s → s.life n ≢ Spent → p < g.send_parts → round_in (s.seen n (Claim (p / 32))) ≡ k → bit (s.seen n (Claim (p / 32))) 32 ≡ 1
      → k < next_round (λ c. s.word (Claim c)) p
  seen_shut g s n k p r live inside round shut =
      let a : ℕ = s.seen n (Claim (p / 32)) in let b : ℕ = s.word (Claim (p / 32)) in
      let later = r.seen.present n (Claim (p / 32)) live (claim_word g p inside) in
      let low = later_round a b later in
      elim (cases_eq (round_in a) (round_in b)) [
        | inl same ↦
            let more = later_bit a b later same 32 (omega arith) in let small = bit_lt b 32 in
            let has = shut_has g s p r inside (omega arith) in omega arith
        | inr other ↦ omega arith
      ]

  -- what a seat has seen claimed in a round, or its word shut in it, has its mark of that round in a view
  pub claimed_marked : (g : Shape) (s : Core A) (n k p : ℕ) → Sound g s → s.life n ≢ Spent → 1 ≤ k → p < g.send_parts
      → (k < next_round (λ c. s.seen n (Claim c)) p) ⊎ ((round_in (s.seen n (Claim (p / 32))) ≡ k) × (bit (s.seen n (Claim (p / 32))) 32 ≡ 1))
      → (m : ℕ) × (times k p (s.marks m) ≡ 1)
  claimed_marked g s n k p r live some inside saw =
      let early : k < next_round (λ c. s.word (Claim c)) p = ⊎_elim
      (λ (z : k < next_round (λ c. s.seen n (Claim c)) p). let more = seen_next g s n p r live inside in omega arith)
      (λ (z : (round_in (s.seen n (Claim (p / 32))) ≡ k) × (bit (s.seen n (Claim (p / 32))) 32 ≡ 1)). seen_shut g s n k p r live inside z.0 z.1) saw in
      (r.who k p, r.marks.all k p some inside early)

  -- while the round is active the send side has seen each claim word open in it
  pub seen_open : (g : Shape) (s : Core A) (c : ℕ) → Sound g s → IsSendActive g s.send → c < claim_words g
      → (round_in (s.seen 0 (Claim c)) ≡ s.send.round) × (bit (s.seen 0 (Claim c)) 32 ≡ 0)
  seen_open g s c r active inside =
      let opened = active.0 in let unshut = active.1 in
      let round = r.opened c unshut (omega arith) in
      let word = r.gates.is_open c (omega arith) (omega arith) in let none = word.1 in
      let more = later_bit (s.seen 0 (Claim c)) (s.word (Claim c)) (r.seen.present 0 (Claim c) (live_unspent (s.life 0) r.lives.send) inside) (round ∙ sym word.0) 32 (omega arith) in
      (round, omega arith)

  -- while no marker is out, what the send side has seen claimed in its round it has the mark of
  pub seen_marked : (g : Shape) → IsShape g → (s : Core A) (p : ℕ) → Sound g s → s.send.markers ≡ 0 → IsSendActive g s.send → p < g.send_parts → part_bit (λ c. s.seen 0 (Claim c)) p ≡ 1
      → times s.send.round p (s.marks 0) ≡ 1
  seen_marked g v s p r none active inside saw =
      let words = some_claims g v in let unshut = active.1 in
      let round = (seen_open g s (p / 32) r active (claim_word g p inside)).0 in
      let more = seen_next g s 0 p r (live_unspent (s.life 0) r.lives.send) inside in
      all_home g s r none s.send.round p (round_some g v s r (omega arith)) inside (omega arith)

  -- where no claim pends, a piece has each partition that is claimed
  pub all_laid : (g : Shape) → IsShape g → (s : Core A) (i : ℕ) → Sound g s → s.send.markers ≡ 0 → IsSendActive g s.send → i < pieces g
      → ((p : ℕ) → Touches g i p → part_bit (λ c. s.word (Claim c)) p ≡ 1) → IsFull g (s.word (Piece (s.send.round % g.depth) i)) s.send.round i
  all_laid g v s i r none active inside all =
      let words = some_claims g v in let opened = active.0 in
      let stored : s.send.pieces ≡ pieces g = r.progress.opens_last (omega arith) in
      record {
        round = r.pieces.current i (omega arith);
        all = λ p t.
            let part = touch_part g v i p inside t in let word = claim_word g p part in
            let w : ℕ = s.word (Piece (s.send.round % g.depth) i) in
            elim (cases_eq (laid g w i p) 0) [
              | inl zero' ↦
                  let x = r.claims.all p i part inside t ((active.1, omega arith, all p t), zero') in
                  let free : s.pending (r.who s.send.round p) ≡ None = none_pend g s r none (r.who s.send.round p) in
                  let have : s.pending (r.who s.send.round p) ≡ Some x.0 = x.1 in absurd (cc)
              | inr other ↦ has_one w (p - first_part g i) other
            ];
      }
    where
      has_one : (w j : ℕ) → bit w j ≢ 0 → bit w j ≡ 1
      has_one w j other = let small = bit_lt w j in omega arith

  -- takes
  take_next : (g : Shape) (s : Core A) (q : ℕ) → Sound g s → q < g.recv_parts → next_round (λ t. s.word (Take t)) q ≤ s.recv.round + 1
  take_next g s q r inside = let word = take_word g q inside in let small = bit_lt (s.word (Take (q / 32))) (q % 32) in elim (cases_lt (q / 32) s.recv.takes) [
    | inl low ↦ let e = r.receiving.take_now (q / 32) low in omega arith
    | inr late ↦ let e = r.receiving.take_past (q / 32) (omega arith) word in omega arith
  ]

  -- each take is of a partition of the pair, in a round from 1 to the receiver's
  pub only_taken : (g : Shape) (s : Core A) (k q : ℕ) → Sound g s → 1 ≤ times k q s.takes → (1 ≤ k) × (k ≤ s.recv.round) × (q < g.recv_parts)
  only_taken g s k q r some = let o = r.takes.own k q some in let below = o.2 in let most = take_next g s q r o.1 in (o.0, omega arith, o.1)

  -- once its round is released, the receive side has the take of each partition in each round up to it
  pub all_taken : (g : Shape) (s : Core A) (k q : ℕ) → Sound g s → s.recv.released ≡ 1 → 1 ≤ k → k ≤ s.recv.round → q < g.recv_parts → times k q s.takes ≡ 1
  all_taken g s k q r released low high inside =
      let all = r.progress.ends_last (omega arith) in let word = take_word g q inside in
      let now = r.receiving.take_now (q / 32) (omega arith) in let has = (r.receiving.done q inside released).0 in
      r.takes.all k q low inside (omega arith)

  -- once it is released, the receiver's round isn't above the sender's
  pub received_sent : (g : Shape) (s : Core A) → Sound g s → s.recv.released ≡ 1 → s.recv.round ≤ s.send.round
  received_sent g s r released = let behind = r.progress.behind in let current = r.progress.current in omega arith

  -- to enter changes nothing for a seat that has a view
  pub enters_live : (s : Core A) (n : ℕ) → s.life n ≡ Live → enters n s ≡ s
  enters_live s n live = ap (λ (l : Life). entered l n s) live
