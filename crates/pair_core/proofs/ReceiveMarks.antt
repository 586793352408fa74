-- Whose marks are whose, which are there, and what the receive side may conclude of them: soundness names for each
-- round and partition the one seat that has its mark, and counts the seats that are out.
use Rattle.std.proofs.Common.{◌≡◌, ◌≢◌, inl, inr, ⊎_elim, ℕ, ◌+◌, ◌/◌, ◌%◌, ◌<◌, ◌≤◌, List, [], ◌∷◌, length, Option, Some, None, refl, sym, ap, ◌∙◌, arith}
use Rattle.std.proofs.lemmas.Bool.{cases_lt, cases_eq}
use Rattle.gate_word.specs.Words.{round_in}
use Rattle.part_geometry.specs.Shape.{Shape, IsShape}
use Rattle.part_geometry.specs.Pieces.{pieces, Touches, TouchesRecv}
use Rattle.pair_core.specs.Words.{bit}
use Rattle.pair_core.specs.Names.{Claim, Release, Take, Return, Piece}
use Rattle.pair_core.specs.Core.{Core, IsMarker, times}
use Rattle.pair_core.specs.Reading.{part_bit, next_round, laid, IsFull}
use Rattle.pair_core.specs.Moves.{IsSendIdle, AreSeen}
use Rattle.pair_core.specs.Sound.{Gates, occurrences, Sound}
use Rattle.pair_core.specs.declared.view.Mark.{Mark}
use Rattle.pair_core.specs.declared.view.Pending.{Pending}
use Rattle.pair_core.specs.declared.view.SendSide.{SendSide}
use Rattle.pair_core.specs.declared.view.Life.TheVariants.{Live}
use Rattle.pair_core.proofs.Rounds.{place_lt}
use Rattle.pair_core.proofs.Cut.{claim_word, take_word, touch_part, some_claims}
use Rattle.pair_core.proofs.ReceiveFacts.{piece_le, in_round, seen_full}
use Rattle.pair_core.proofs.ReceiveTakes.{times_new}

-- a partition is marked in each round before the sender's, at least
pub claim_past : (g : Shape) (claim : ℕ → ℕ) (send : SendSide) → Gates g claim send → (p : ℕ) → p < g.send_parts → send.round ≤ next_round claim p
claim_past g claim send h p inside = let word = claim_word g p inside in elim (cases_lt (p / 32) send.opened) [
  | inl low ↦ elim (cases_lt (p / 32) send.shut) [
    | inl ended ↦ let e = (h.is_shut (p / 32) ended).0 in omega arith
    | inr not_ended ↦ let e = (h.is_open (p / 32) (omega arith) low).0 in omega arith
  ]
  | inr late ↦ let e = (h.is_past (p / 32) (omega arith) word).0 in let b = h.all_past p inside (omega arith) in omega arith
]

-- an empty list has no number
none_listed : (n : ℕ) (l : List ℕ) → length l ≡ 0 → occurrences n l ≡ 0
none_listed n [] e = refl
none_listed n (m ∷ ms) e = absurd (omega arith)

module _ {A : Type 0} where
  -- a round and a partition have one mark, in one seat's view
  pub one_seat : (g : Shape) (s : Core A) → Sound g s → (n m k p : ℕ) → 1 ≤ times k p (s.marks n) → 1 ≤ times k p (s.marks m) → n ≡ m
  one_seat g s r n m k p a b = sym (r.marks.own n k p a).0 ∙ (r.marks.own m k p b).0

  -- no list has a mark twice
  pub mark_once : (g : Shape) (s : Core A) → Sound g s → (n k p : ℕ) → times k p (s.marks n) ≤ 1
  mark_once g s r n k p = elim (cases_lt 0 (times k p (s.marks n))) [
    | inl some ↦ let o = r.marks.own n k p some in let e = r.marks.all k p o.1 o.2 o.3 in
        let at : times k p (s.marks n) ≡ 1 = ap (λ (z : ℕ). times k p (s.marks z)) (sym o.0) ∙ e in omega arith
    | inr none ↦ omega arith
  ]

  -- and none of the takes is there twice
  pub take_once : (g : Shape) (s : Core A) → Sound g s → (k q : ℕ) → times k q s.takes ≤ 1
  take_once g s r k q = elim (cases_lt 0 (times k q s.takes)) [
    | inl some ↦ let o = r.takes.own k q some in let e = r.takes.all k q o.0 o.1 o.2 in omega arith
    | inr none ↦ omega arith
  ]

  -- only the send side and markers that are out have marks
  pub no_marks : (g : Shape) (s : Core A) → Sound g s → (n : ℕ) → n ≢ 0 → ¬ (IsMarker n × (s.life n ≡ Live)) → s.marks n ≡ []
  no_marks g s r n other out = go (s.marks n) refl
    where
      go : (l : List (Mark A)) → s.marks n ≡ l → l ≡ []
      go [] e = refl
      go (m ∷ ms) e =
          let first : times m.round m.partition (m ∷ ms) ≡ 1 + times m.round m.partition ms = times_new m.round m.partition m.with ms in
          let at : times m.round m.partition (s.marks n) ≡ 1 + times m.round m.partition ms = ap (times m.round m.partition) e ∙ first in
          absurd (⊎_elim (λ (z : n ≡ 0). other z) (λ (z : IsMarker n × (s.life n ≡ Live)). out z) (r.marks.own n m.round m.partition (omega arith)).4)

  -- only markers that are out have a pending claim
  pub no_pending : (g : Shape) (s : Core A) → Sound g s → (n : ℕ) → ¬ (IsMarker n × (s.life n ≡ Live)) → s.pending n ≡ None
  no_pending g s r n out = go (s.pending n) refl
    where
      go : (x : Option Pending) → s.pending n ≡ x → x ≡ None
      go None e = refl
      go (Some x) e = let is = r.claims.each n x e in absurd (out (is.marker, is.live))

  -- where none is counted as out none is
  pub none_out : (g : Shape) (s : Core A) → Sound g s → s.send.markers ≡ 0 → (n : ℕ) → IsMarker n → s.life n ≢ Live
  none_out g s r none n is alive =
      let h = r.lives.markers_out in let one = h.all n is alive in let e = h.number in let zero' = none_listed n h.seats (omega arith) in omega arith

  -- where no marker is out the send side has each mark, and no claim pends
  pub all_home : (g : Shape) (s : Core A) → Sound g s → s.send.markers ≡ 0 → (k p : ℕ) → 1 ≤ k → p < g.send_parts → k < next_round (λ c. s.word (Claim c)) p → times k p (s.marks 0) ≡ 1
  all_home g s r none k p low inside early =
      let e = r.marks.all k p low inside early in
      let at = (r.marks.own (r.who k p) k p (omega arith)).4 in
      let zero' : r.who k p ≡ 0 = ⊎_elim (λ (z : r.who k p ≡ 0). z) (λ (z : IsMarker (r.who k p) × (s.life (r.who k p) ≡ Live)). absurd (none_out g s r none (r.who k p) z.0 z.1)) at in
      ap (λ (z : ℕ). times k p (s.marks z)) (sym zero') ∙ e

  -- then no seat but the send side has a mark
  pub none_elsewhere : (g : Shape) (s : Core A) → Sound g s → s.send.markers ≡ 0 → (n : ℕ) → n ≢ 0 → s.marks n ≡ []
  none_elsewhere g s r none n other = no_marks g s r n other (λ z. none_out g s r none n z.0 z.1)

  -- and no claim pends
  pub none_pend : (g : Shape) (s : Core A) → Sound g s → s.send.markers ≡ 0 → (n : ℕ) → s.pending n ≡ None
  none_pend g s r none n = no_pending g s r n (λ z. none_out g s r none n z.0 z.1)

  -- where the send side is idle the send side's marks are then all partitions of all rounds up to its own, each once
  pub idle_marks : (g : Shape) → IsShape g → (s : Core A) → Sound g s → s.send.markers ≡ 0 → IsSendIdle g s.send → (k p : ℕ) → 1 ≤ k → k ≤ s.send.round → p < g.send_parts → times k p (s.marks 0) ≡ 1
  idle_marks g v s r none idle k p low high inside =
      let some = some_claims g v in let word = claim_word g p inside in
      let round = (r.gates.is_shut (p / 32) (omega arith)).0 in let has = r.gates.all_ended p inside (omega arith) in
      all_home g s r none k p low inside (omega arith)

  -- each partition that a full piece of a round touches is marked in that round
  pub full_claimed : (g : Shape) → IsShape g → (s : Core A) → Sound g s → (k i p : ℕ) → 1 ≤ k → i < pieces g → IsFull g (s.word (Piece (k % g.depth) i)) k i → Touches g i p
      → k < next_round (λ c. s.word (Claim c)) p
  full_claimed g v s r k i p some inside full touch =
      let claim : ℕ → ℕ = λ c. s.word (Claim c) in let piece : ℕ → ℕ → ℕ = λ d j. s.word (Piece d j) in
      let deep = v.depth in let one : 1 ≤ g.depth = deep.0 in let place = place_lt g.depth k one deep.1 in
      let part = touch_part g v i p inside touch in let word = claim_word g p part in
      let least = claim_past g claim s.send r.gates p part in
      let round = full.round in
      elim (cases_eq (k % g.depth) (s.send.round % g.depth)) [
        | inl e ↦
            let round' : round_in (s.word (Piece (s.send.round % g.depth) i)) ≡ k = ap (λ (z : ℕ). round_in (s.word (Piece z i))) (sym e) ∙ round in
            let has : laid g (s.word (Piece (s.send.round % g.depth) i)) i p ≡ 1 = ap (λ (z : ℕ). laid g (s.word (Piece z i)) i p) (sym e) ∙ full.all p touch in
            elim (cases_lt i s.send.pieces) [
              | inl now ↦
                  let same = r.pieces.current i now in
                  elim (cases_lt 0 s.send.shut) [
                    | inl ended ↦
                        let opened = r.progress.shuts_last ended in let set = r.gates.all_ended p part ended in
                        elim (cases_lt (p / 32) s.send.shut) [
                          | inl low ↦ let f = (r.gates.is_shut (p / 32) low).0 in omega arith
                          | inr not_low ↦ let f = (r.gates.is_open (p / 32) (omega arith) (omega arith)).0 in omega arith
                        ]
                    | inr not_ended ↦
                        let claimed = r.pieces.claimed i p now (omega arith) touch has in let below = claimed.0 in let set = claimed.1 in
                        let f = (r.gates.is_open (p / 32) (omega arith) below).0 in omega arith
                  ]
              | inr late ↦ let f = (r.pieces.waiting i (omega arith) inside).round in omega arith
            ]
        | inr other ↦
            let most = piece_le g claim piece s.send r.pieces (k % g.depth) i place inside in
            elim (cases_eq k s.send.round) [
              | inl e ↦ absurd (other (ap (λ (z : ℕ). z % g.depth) e))
              | inr o ↦ omega arith
            ]
      ]

  -- so each send partition under a partition that the receive side may take has its mark of the round, in one view
  pub take_marked : (g : Shape) → IsShape g → (s : Core A) → Sound g s → s.recv.released ≡ 0 → (q i p : ℕ) → AreSeen g (s.seen 1) s.recv.round q → i < pieces g → TouchesRecv g i q → Touches g i p
      → (n : ℕ) × (times s.recv.round p (s.marks n) ≡ 1)
  take_marked g v s r open' q i p seen inside over touch =
      let some = (in_round g (round_in (s.word Release)) s.send s.recv r.progress open').some in
      let full = seen_full g v s r open' q seen i inside over in
      (r.who s.recv.round p, r.marks.all s.recv.round p some (touch_part g v i p inside touch) (full_claimed g v s r s.recv.round i p some inside full touch))

  -- what the receive side has seen of its own words is so
  pub seen_taken : (g : Shape) (s : Core A) → Sound g s → (q : ℕ) → q < g.recv_parts → part_bit (λ t. s.seen 1 (Take t)) q ≡ part_bit (λ t. s.word (Take t)) q
  seen_taken g s r q inside = ap (λ (z : ℕ). bit z (q % 32)) (r.owns.takes (q / 32) (take_word g q inside))

  -- the same of the return words
  pub seen_returned : (g : Shape) (s : Core A) → Sound g s → (q : ℕ) → q < g.recv_parts → part_bit (λ t. s.seen 1 (Return t)) q ≡ part_bit (λ t. s.word (Return t)) q
  seen_returned g s r q inside = ap (λ (z : ℕ). bit z (q % 32)) (r.owns.returns (q / 32) (take_word g q inside))
