-- What a sound state says of the send side in each of its modes. What a store of a piece word finds is the same for the
-- first piece of a round and for each further one.
use Rattle.std.proofs.Common.{◌≡◌, ◌≢◌, inl, inr, ℕ, zero, suc, ◌+◌, ◌-◌, ◌/◌, ◌%◌, ◌<◌, ◌≤◌, refl, sym, ap, ◌∙◌, subst, arith}
use Rattle.std.proofs.lemmas.Bool.{cases_eq, cases_lt}
use Rattle.gate_word.specs.Words.{round_in}
use Rattle.part_geometry.specs.Shape.{Shape, IsShape}
use Rattle.part_geometry.specs.Pieces.{pieces, first_part, Touches}
use Rattle.pair_core.specs.Words.{bit}
use Rattle.pair_core.specs.Names.{Claim, Release, Piece, claim_words}
use Rattle.pair_core.specs.Core.{Core}
use Rattle.pair_core.specs.Reading.{part_bit, laid, IsFull, last_round}
use Rattle.pair_core.specs.Moves.{IsSendIdle, MayShut}
use Rattle.pair_core.specs.Sound.{Sound, Progress, Gates, Pieces, IsClaimed}
use Rattle.pair_core.specs.declared.view.Life.{Life}
use Rattle.pair_core.specs.declared.view.Life.TheVariants.{Live, Spent}
use Rattle.pair_core.specs.declared.view.SendSide.{SendSide}
use Rattle.pair_core.specs.declared.view.RecvSide.{RecvSide}
use Rattle.pair_core.proofs.Words.{bit_lt, later_round, later_bit}
use Rattle.pair_core.proofs.Rounds.{place_lt, last_here, last_step, last_le, last_oldest}
use Rattle.pair_core.proofs.Cut.{some_claims, bit_small, claim_word}

-- a seat that has a view didn't give it up
pub live_unspent : (x : Life) → x ≡ Live → x ≢ Spent
live_unspent x e f = absurd (cc)

-- a seat that has a view has seen no later round of the release than there is
pub seen_release : {A : Type 0} (g : Shape) (s : Core A) (n : ℕ) → Sound g s → s.life n ≢ Spent → round_in (s.seen n Release) ≤ round_in (s.word Release)
seen_release {A} g s n r live = later_round (s.seen n Release) (s.word Release) (r.seen.present n Release live tt)

-- the round's last piece word at the sender's own place
pub last_now : (depth k : ℕ) → last_round depth k (k % depth) ≡ k
last_now depth zero = refl
last_now depth (suc k) = last_here depth k

-- where the round is ended, each piece is full in the last round of its place
pub ended_full : (g : Shape) (claim : ℕ → ℕ) (piece : ℕ → ℕ → ℕ) (send : SendSide) → 1 ≤ send.shut → send.pieces ≡ pieces g → Pieces g claim piece send
    → (d i : ℕ) → d < g.depth → i < pieces g → IsFull g (piece d i) (last_round g.depth send.round d) i
ended_full g claim piece send over whole r d i place inside = elim (cases_eq d (send.round % g.depth)) [
  | inl e ↦ subst (λ (z : ℕ). IsFull g (piece z i) (last_round g.depth send.round z) i) (sym e) (record {
    round = r.current i (omega arith) ∙ sym (last_now g.depth send.round);
    all = λ p t. r.ended i p inside over t;
  })
  | inr other ↦ r.other d i place inside other
]

-- no piece word has a later round than the sender's
pub round_le : (g : Shape) (claim : ℕ → ℕ) (piece : ℕ → ℕ → ℕ) (send : SendSide) → Pieces g claim piece send
    → (d i : ℕ) → d < g.depth → i < pieces g → round_in (piece d i) ≤ send.round
round_le g claim piece send r d i place inside = elim (cases_eq d (send.round % g.depth)) [
  | inl e ↦ subst (λ (z : ℕ). round_in (piece z i) ≤ send.round) (sym e) (elim (cases_lt i send.pieces) [
    | inl stored ↦ let h = r.current i stored in omega arith
    | inr not_stored ↦ let h = (r.waiting i (omega arith) inside).round in omega arith
  ])
  | inr other ↦ let h = (r.other d i place inside other).round in let l = last_le g.depth send.round d in omega arith
]

-- What the piece word that is stored next, piece i of round k, finds.
pub record IsNext (g : Shape) (claim : ℕ → ℕ) (piece : ℕ → ℕ → ℕ) (send : SendSide) (released k i : ℕ) : Type 0 where
  -- the round is from 1 on
  pub some : 1 ≤ k
  -- it is at most `depth` above the released one
  pub room : k ≤ released + g.depth
  -- and not below it
  pub behind : released ≤ k
  -- no partition counts as claimed in the sender's round
  pub unclaimed : (p : ℕ) → ¬ IsClaimed claim send p
  -- the piece's word has the round `depth` before, or 0
  pub older : round_in (piece (k % g.depth) i) ≡ k - g.depth
  -- each claim word has the round before, and is shut
  pub past : (c : ℕ) → c < claim_words g → (round_in (claim c) + 1 ≡ k) × (bit (claim c) 32 ≡ 1)
  -- and has each of its partitions
  pub all : (p : ℕ) → p < g.send_parts → part_bit claim p ≡ 1
  -- at the other places each piece is full in its last round
  pub other : (d j : ℕ) → d < g.depth → j < pieces g → d ≢ k % g.depth → IsFull g (piece d j) (last_round g.depth k d) j
  -- the pieces behind this one are full in the round `depth` before, or 0
  pub waiting : (j : ℕ) → i + 1 ≤ j → j < pieces g → IsFull g (piece (k % g.depth) j) (k - g.depth) j
  -- the pieces before it are stored for the round
  pub current : (j : ℕ) → j < i → round_in (piece (k % g.depth) j) ≡ k
  -- and have no partition so far
  pub empty : (j p : ℕ) → j < i → Touches g j p → laid g (piece (k % g.depth) j) j p ≡ 0

-- the first piece of the next round
pub next_first : (g : Shape) → IsShape g → (claim : ℕ → ℕ) (piece : ℕ → ℕ → ℕ) (send : SendSide) (recv : RecvSide) (released seen k : ℕ)
    → Progress g released send recv → Gates g claim send → Pieces g claim piece send → IsSendIdle g send → k ≡ send.round + 1 → seen ≤ released → k ≤ seen + g.depth → 0 < pieces g
    → IsNext g claim piece send released k 0
next_first g v claim piece send recv released seen k pr ga pi idle is saw room some =
    let words = some_claims g v in let d1 = v.depth.0 in let d4 = v.depth.1 in
    let over : 1 ≤ send.shut = omega arith in
    let opened : send.opened ≡ claim_words g = pr.shuts_last over in
    let whole : send.pieces ≡ pieces g = pr.opens_last (omega arith) in
    let full = ended_full g claim piece send over whole pi in
    let e : k ≡ suc send.round = omega arith in
    let place : k % g.depth < g.depth = place_lt g.depth k d1 d4 in
    let oldest : (j : ℕ) → j < pieces g → IsFull g (piece (k % g.depth) j) (k - g.depth) j = λ j h.
    subst (λ (z : ℕ). IsFull g (piece (z % g.depth) j) (z - g.depth) j) (sym e)
    (subst (λ (z : ℕ). IsFull g (piece (suc send.round % g.depth) j) z j) (last_oldest g.depth send.round d1 d4)
    (full (suc send.round % g.depth) j (place_lt g.depth (suc send.round) d1 d4) h)) in
    record {
      some = omega arith;
      room = omega arith;
      behind = let b = pr.behind in omega arith;
      unclaimed = λ p c. let z = c.0 in omega arith;
      older = (oldest 0 some).round;
      past = λ c h. let x = ga.is_shut c (omega arith) in let a = x.0 in (omega arith, x.1);
      all = λ p h. ga.all_ended p h over;
      other = λ d j h l n. subst (λ (z : ℕ). IsFull g (piece d j) (last_round g.depth z d) j) (sym e)
          (subst (λ (z : ℕ). IsFull g (piece d j) z j) (sym (last_step g.depth send.round d (λ f. n (f ∙ ap (λ (z : ℕ). z % g.depth) (sym e))))) (full d j h l));
      waiting = λ j _ h. oldest j h;
      current = λ j h. absurd (omega arith);
      empty = λ j p h. absurd (omega arith);
    }

-- a further piece of the same round
pub next_more : (g : Shape) → IsShape g → (claim : ℕ → ℕ) (piece : ℕ → ℕ → ℕ) (send : SendSide) (recv : RecvSide) (released i : ℕ)
    → Progress g released send recv → Gates g claim send → Pieces g claim piece send → i < pieces g → i ≡ send.pieces
    → IsNext g claim piece send released send.round i
next_more g v claim piece send recv released i pr ga pi inside is =
    let words = some_claims g v in
    let none : send.opened ≡ 0 = elim (cases_lt 0 send.opened) [ inl h ↦ let x = pr.opens_last h in absurd (omega arith) | inr h ↦ omega arith ] in
    let unshut : send.shut ≡ 0 = elim (cases_lt 0 send.shut) [ inl h ↦ let x = pr.shuts_last h in absurd (omega arith) | inr h ↦ omega arith ] in
    let some : 1 ≤ send.round = elim (cases_lt 0 send.round) [ inl h ↦ h | inr h ↦ let x = pr.begun (omega arith) in absurd (omega arith) ] in
    record {
      some = some;
      room = pr.ahead;
      behind = pr.behind;
      unclaimed = λ p c. let z = c.1 in omega arith;
      older = (pi.waiting i (omega arith) inside).round;
      past = λ c h. ga.is_past c (omega arith) h;
      all = λ p h. ga.all_past p h (omega arith);
      other = pi.other;
      waiting = λ j h l. pi.waiting j (omega arith) l;
      current = λ j h. pi.current j (omega arith);
      empty = λ j p h t. let small = bit_lt (piece (send.round % g.depth) j) (p - first_part g j) in
          elim (cases_eq (laid g (piece (send.round % g.depth) j) j p) 1) [
            | inl one ↦ let x = (pi.claimed j p (omega arith) unshut t one).0 in absurd (omega arith)
            | inr other ↦ omega arith
          ];
    }

-- what the send side has seen lets it shut: all is claimed and full
pub may_shut : {A : Type 0} (g : Shape) → IsShape g → (s : Core A) → Sound g s → s.send.opened ≡ claim_words g → s.send.shut ≡ 0 → MayShut g (s.seen 0) s.send.round
    → ((p : ℕ) → p < g.send_parts → part_bit (λ c. s.word (Claim c)) p ≡ 1)
    × ((i p : ℕ) → i < pieces g → Touches g i p → laid g (s.word (Piece (s.send.round % g.depth) i)) i p ≡ 1)
may_shut {A} g v s r opened unshut may =
    let live = live_unspent (s.life 0) r.lives.send in let words = some_claims g v in
    let whole : s.send.pieces ≡ pieces g = r.progress.opens_last (omega arith) in (
      (λ p h.
          let c : ℕ = p / 32 in let saw = may.claimed p h in
          let now = (r.gates.is_open c (omega arith) (omega arith)).0 in
          let l = r.seen.present 0 (Claim c) live (claim_word g p h) in
          let b = later_bit (s.seen 0 (Claim c)) (s.word (Claim c)) l (saw.0 ∙ sym now) (p % 32) (omega arith) in
          let one = saw.1 in let small = bit_lt (s.word (Claim c)) (p % 32) in omega arith),
      (λ i p h t.
          let d : ℕ = s.send.round % g.depth in let saw = may.full i h in
          let now = r.pieces.current i (omega arith) in
          let l = r.seen.present 0 (Piece d i) live (place_lt g.depth s.send.round v.depth.0 v.depth.1, h) in
          let j = bit_small g v i p h t in
          let b = later_bit (s.seen 0 (Piece d i)) (s.word (Piece d i)) l (saw.round ∙ sym now) (p - first_part g i) (omega arith) in
          let one = saw.all p t in let small = bit_lt (s.word (Piece d i)) (p - first_part g i) in omega arith),
    )
