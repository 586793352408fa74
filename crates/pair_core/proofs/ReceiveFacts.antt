-- Words of 32 partitions each of which one was changed, and what the receive side knows of pieces: what it has seen
-- full stays full, since words only grow and the sender stores no later round there before the release.
use Rattle.std.proofs.Common.{◌≡◌, ◌≢◌, inl, inr, ℕ, ◌+◌, ◌-◌, ◌/◌, ◌%◌, ◌^◌, ◌<◌, ◌≤◌, Bool, ◌==◌, refl, sym, ap, ◌∙◌, subst, arith, bit_or}
use Rattle.std.specs.Prelude.{if◌then◌else◌}
use Rattle.std.proofs.lemmas.Bool.{cases_lt, cases_eq, eq-eqb, ne_eqb, and_from, and_left, and_right}
use Rattle.gate_word.specs.Words.{round_in}
use Rattle.gate_word.specs.Order.{IsLater}
use Rattle.part_geometry.specs.Shape.{Shape, IsShape}
use Rattle.part_geometry.specs.Cells.{cells, send_of, recv_of}
use Rattle.part_geometry.specs.Pieces.{pieces, piece_of, first_part, TouchesRecv}
use Rattle.pair_core.specs.Words.{bit, next}
use Rattle.pair_core.specs.Names.{Claim, Release, Piece, put}
use Rattle.pair_core.specs.Core.{Core, Slot}
use Rattle.pair_core.specs.Reading.{part_bit, next_round, laid, IsFull, last_round}
use Rattle.pair_core.specs.Moves.{AreSeen}
use Rattle.pair_core.specs.Sound.{Progress, Pieces, IsLent, Sound}
use Rattle.pair_core.specs.Steps.{put_slots}
use Rattle.pair_core.specs.declared.view.SendSide.{SendSide}
use Rattle.pair_core.specs.declared.view.RecvSide.{RecvSide}
use Rattle.pair_core.specs.declared.view.Life.TheVariants.{Spent}
use Rattle.pair_core.proofs.Words.{bit_lt, bit_or_here, bit_or_else, round_or, later_round, later_bit}
use Rattle.pair_core.proofs.Puts.{put_cases}
use Rattle.pair_core.proofs.Rounds.{place_lt, places_apart, last_le, last_recent}
use Rattle.pair_core.proofs.Cut.{bit_small, cell_piece, cell_touches, cell_touches_recv}

-- the bit of a partition after one word was changed
pub part_cases : (f : ℕ → ℕ) (t w q : ℕ) (P : ℕ → Type 0) → (q / 32 ≡ t → P (bit w (q % 32))) → (q / 32 ≢ t → P (part_bit f q)) → P (part_bit (put f t w) q)
part_cases f t w q P here rest = put_cases f t w (λ m z. q / 32 ≡ m → P (bit z (q % 32)))
    here (λ m other e. subst (λ (z : ℕ). P (bit (f z) (q % 32))) e (rest (λ same. other (sym e ∙ same)))) (q / 32) refl

-- the next round of each partition is what it was, where it is so in the word that was changed
pub next_same : (f : ℕ → ℕ) (t w q : ℕ) → (q / 32 ≡ t → next w (q % 32) ≡ next (f t) (q % 32)) → next_round (put f t w) q ≡ next_round f q
next_same f t w q here = put_cases f t w (λ m z. q / 32 ≡ m → next z (q % 32) ≡ next (f m) (q % 32)) here (λ m _ _. refl) (q / 32) refl

-- the words after the bit of partition p was added
abbrev pub with_part : (ℕ → ℕ) → ℕ → ℕ → ℕ
with_part f p = put f (p / 32) (bit_or (f (p / 32)) (2 ^ (p % 32)))

-- each word has the round that it had
pub with_round : (f : ℕ → ℕ) (p t : ℕ) → round_in (with_part f p t) ≡ round_in (f t)
with_round f p t = put_cases f (p / 32) (bit_or (f (p / 32)) (2 ^ (p % 32))) (λ m z. round_in z ≡ round_in (f m)) (round_or (f (p / 32)) (p % 32) (omega arith)) (λ m _. refl) t

-- p has its bit
pub with_here : (f : ℕ → ℕ) (p : ℕ) → part_bit (with_part f p) p ≡ 1
with_here f p = part_cases f (p / 32) (bit_or (f (p / 32)) (2 ^ (p % 32))) p (λ z. z ≡ 1) (λ _. bit_or_here (f (p / 32)) (p % 32)) (λ other. absurd (other refl))

-- any other partition's bit is as it was
pub with_else : (f : ℕ → ℕ) (p q : ℕ) → q ≢ p → part_bit (with_part f p) q ≡ part_bit f q
with_else f p q other = part_cases f (p / 32) (bit_or (f (p / 32)) (2 ^ (p % 32))) q (λ z. z ≡ part_bit f q)
    (λ e. bit_or_else (f (p / 32)) (p % 32) (q % 32) (λ same. other (omega arith)) ∙ ap (λ (z : ℕ). bit (f z) (q % 32)) (sym e)) (λ _. refl)

-- and none is lost
pub with_more : (f : ℕ → ℕ) (p q : ℕ) → part_bit f q ≤ part_bit (with_part f p) q
with_more f p q = elim (cases_eq q p) [
  | inl e ↦ let small = bit_lt (f (q / 32)) (q % 32) in let h : part_bit (with_part f p) q ≡ 1 = ap (part_bit (with_part f p)) e ∙ with_here f p in omega arith
  | inr other ↦ let h = with_else f p q other in omega arith
]

-- no piece word has a round above the sender's
pub piece_le : (g : Shape) (claim : ℕ → ℕ) (piece : ℕ → ℕ → ℕ) (send : SendSide) → Pieces g claim piece send → (d i : ℕ) → d < g.depth → i < pieces g → round_in (piece d i) ≤ send.round
piece_le g claim piece send h d i low inside = elim (cases_eq d (send.round % g.depth)) [
  | inl e ↦ subst (λ (z : ℕ). round_in (piece z i) ≤ send.round) (sym e) (elim (cases_lt i send.pieces) [
    | inl now ↦ let r = h.current i now in omega arith
    | inr late ↦ let r = (h.waiting i (omega arith) inside).round in omega arith
  ])
  | inr other ↦ let r = (h.other d i low inside other).round in let l = last_le g.depth send.round d in omega arith
]

-- a piece word at the place of a round, not below it, is of that round where the next round of the place isn't open
pub piece_round : (g : Shape) → IsShape g → (claim : ℕ → ℕ) (piece : ℕ → ℕ → ℕ) (send : SendSide) → Pieces g claim piece send → (k i : ℕ) → 1 ≤ k → i < pieces g
    → send.round < k + g.depth → k ≤ round_in (piece (k % g.depth) i) → round_in (piece (k % g.depth) i) ≡ k
piece_round g v claim piece send h k i some inside near low =
    let deep = v.depth in let one : 1 ≤ g.depth = deep.0 in let four : g.depth ≤ 4 = deep.1 in
    let place = place_lt g.depth k one four in
    let most = piece_le g claim piece send h (k % g.depth) i place inside in
    elim (cases_eq (k % g.depth) (send.round % g.depth)) [
      | inl e ↦ elim (cases_lt k send.round) [
        | inl less ↦ absurd (places_apart g.depth k send.round one four less near e)
        | inr not_less ↦ omega arith
      ]
      | inr other ↦
          let r = (h.other (k % g.depth) i place inside other).round in
          let back : ℕ = send.round - k in
          let l : last_round g.depth (k + back) (k % g.depth) ≡ k = last_recent g.depth k back one four some (omega arith) in
          let same : k + back ≡ send.round = omega arith in
          r ∙ (ap (λ (z : ℕ). last_round g.depth z (k % g.depth)) (sym same) ∙ l)
    ]

-- an active receive side is in the round after the release, and the sender hasn't opened the next round of its place
pub record InRound (g : Shape) (send : SendSide) (recv : RecvSide) : Type 0 where
  -- the round is from 1 on
  pub some : 1 ≤ recv.round
  -- the sender is less than `depth` rounds ahead
  pub near : send.round < recv.round + g.depth

-- a receive side that hasn't released its round is so
pub in_round : (g : Shape) (released : ℕ) (send : SendSide) (recv : RecvSide) → Progress g released send recv → recv.released ≡ 0 → InRound g send recv
in_round g released send recv p open' = let a = p.current in let b = p.ahead in record { some = omega arith; near = omega arith }

module _ {A : Type 0} where
  -- what was seen full in the receiver's round is full in it now
  pub stays_full : (g : Shape) → IsShape g → (s : Core A) → Sound g s → s.recv.released ≡ 0 → (n i : ℕ) → s.life n ≢ Spent → i < pieces g
      → IsFull g (s.seen n (Piece (s.recv.round % g.depth) i)) s.recv.round i → IsFull g (s.word (Piece (s.recv.round % g.depth) i)) s.recv.round i
  stays_full g v s r active n i live inside full =
      let k : ℕ = s.recv.round in let d : ℕ = k % g.depth in
      let place = place_lt g.depth k v.depth.0 v.depth.1 in
      let o = in_round g (round_in (s.word Release)) s.send s.recv r.progress active in
      let later : IsLater (s.seen n (Piece d i)) (s.word (Piece d i)) = r.seen.present n (Piece d i) live (place, inside) in
      let low = later_round (s.seen n (Piece d i)) (s.word (Piece d i)) later in
      let seen_round = full.round in
      let same : round_in (s.word (Piece d i)) ≡ k = piece_round g v (λ c. s.word (Claim c)) (λ e j. s.word (Piece e j)) s.send r.pieces k i o.some inside o.near (omega arith) in
      record {
        round = same;
        all = λ p t.
            let more = later_bit (s.seen n (Piece d i)) (s.word (Piece d i)) later (seen_round ∙ sym same) (p - first_part g i) (let l = bit_small g v i p inside t in omega arith) in
            let has = full.all p t in let small = bit_lt (s.word (Piece d i)) (p - first_part g i) in omega arith;
      }

  -- what the receive side has seen of the pieces over a partition holds of their words
  pub seen_full : (g : Shape) → IsShape g → (s : Core A) → Sound g s → s.recv.released ≡ 0 → (q : ℕ) → AreSeen g (s.seen 1) s.recv.round q
      → (i : ℕ) → i < pieces g → TouchesRecv g i q → IsFull g (s.word (Piece (s.recv.round % g.depth) i)) s.recv.round i
  seen_full g v s r active q seen i inside t = stays_full g v s r active 1 i (rw r.lives.recv (λ e. cc)) inside (seen i inside t)

-- the slot of a cell after those of a receive partition at a place became x
pub recv_slots : (g : Shape) (slot : ℕ → ℕ → Slot) (place q : ℕ) (x : Slot) (d c : ℕ) (P : Slot → Type 0) → (d ≡ place → recv_of g c ≡ q → P x)
    → (¬ ((d ≡ place) × (recv_of g c ≡ q)) → P (slot d c)) → P (put_slots slot place (λ b. recv_of g b == q) x d c)
recv_slots g slot place q x d c P here rest =
    let branch : Bool → Type 0 = λ b. P (if b then x else slot d c) in
    elim (cases_eq d place) [
      | inl e ↦ elim (cases_eq (recv_of g c) q) [
        | inl f ↦ subst branch (sym (and_from (d == place) (recv_of g c == q) (eq-eqb d place e) (eq-eqb (recv_of g c) q f))) (here e f)
        | inr o ↦ subst branch (sym (and_right (d == place) (recv_of g c == q) (ne_eqb (recv_of g c) q o))) (rest (λ both. o both.1))
      ]
      | inr o ↦ subst branch (sym (and_left (d == place) (recv_of g c == q) (ne_eqb d place o))) (rest (λ both. o both.0))
    ]

-- where the pieces over a receive partition are full in the receiver's round, no slot of it is lent
abbrev pub AreFull : Shape → (ℕ → ℕ → ℕ) → RecvSide → ℕ → Type 0
AreFull g piece recv q = (i : ℕ) → i < pieces g → TouchesRecv g i q → IsFull g (piece (recv.round % g.depth) i) recv.round i

-- the piece of each of its cells is full then
pub cell_full : (g : Shape) (piece : ℕ → ℕ → ℕ) (recv : RecvSide) (q c : ℕ) → AreFull g piece recv q → c < cells g → recv_of g c ≡ q
    → IsFull g (piece (recv.round % g.depth) (piece_of g c)) recv.round (piece_of g c)
cell_full g piece recv q c full inside e = full (piece_of g c) (cell_piece g c inside) (subst (TouchesRecv g (piece_of g c)) e (cell_touches_recv g c inside))

-- so no claim is owed it, and its slot isn't lent
pub not_lent : (g : Shape) (claim : ℕ → ℕ) (piece : ℕ → ℕ → ℕ) (send : SendSide) (recv : RecvSide) (q c : ℕ) → AreFull g piece recv q → c < cells g
    → send.round % g.depth ≡ recv.round % g.depth → recv_of g c ≡ q → ¬ IsLent g claim piece send c
not_lent g claim piece send recv q c full inside e f lent =
    let i : ℕ = piece_of g c in let p : ℕ = send_of g c in
    let has : laid g (piece (recv.round % g.depth) i) i p ≡ 1 = (cell_full g piece recv q c full inside f).all p (cell_touches g c inside) in
    let lacks : laid g (piece (send.round % g.depth) i) i p ≡ 0 = lent.1 in
    let same : laid g (piece (send.round % g.depth) i) i p ≡ 1 = ap (λ (z : ℕ). laid g (piece z i) i p) e ∙ has in omega arith
