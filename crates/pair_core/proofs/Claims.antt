-- A marker's try to claim keeps soundness, and what is so where a partition may be claimed. A try that wins goes group
-- by group, by the lemmas of ClaimGroups and ClaimMarks; one that loses is a load.
use Rattle.std.proofs.Common.{◌≡◌, ◌≢◌, inl, inr, ℕ, ◌/◌, ◌%◌, ◌^◌, ◌<◌, ◌≤◌, Bool, ◌==◌, Some, None, sym, ap, ◌∙◌, subst, arith, bit_or}
use Rattle.std.specs.Prelude.{if◌then◌else◌}
use Rattle.std.proofs.lemmas.Bool.{cases_lt, cases_eq, cases_Bool, eqb-true}
use Rattle.gate_word.specs.Words.{round_in}
use Rattle.part_geometry.specs.Shape.{Shape, IsShape}
use Rattle.part_geometry.specs.Cells.{cells, send_of, recv_of}
use Rattle.part_geometry.specs.Pieces.{pieces, piece_of, Touches, TouchesRecv}
use Rattle.pair_core.specs.Words.{bit}
use Rattle.pair_core.specs.Names.{claim_words, Claim, Release, Take, Return, Piece, put, put_pair, put_word}
use Rattle.pair_core.specs.Core.{Core, Home, IsMarker, times}
use Rattle.pair_core.specs.Reading.{part_bit, next_round}
use Rattle.pair_core.specs.Steps.{claims, loads}
use Rattle.pair_core.specs.Moves.{TryClaim, MayClaim, IsAllowed, after}
use Rattle.pair_core.specs.Sound.{Sound}
use Rattle.pair_core.specs.declared.view.Pending.{Pending}
use Rattle.pair_core.specs.declared.view.Life.TheVariants.{Live}
use Rattle.pair_core.proofs.Words.{later_or}
use Rattle.pair_core.proofs.Rounds.{place_lt}
use Rattle.pair_core.proofs.Cut.{cell_piece, cell_touches, cell_touches_recv}
use Rattle.pair_core.proofs.Frames.{sees, opened_else, news_claim, live_not_blank, owns_else, unused_or}
use Rattle.pair_core.proofs.Loads.{loads_keeps}
use Rattle.pair_core.proofs.ClaimGroups.{Gains, gains, IsFree, free_of, free_unheld, gates_gain, pieces_gain, claims_gain, slots_gain}
use Rattle.pair_core.proofs.ClaimMarks.{marks_gain}

-- the receive side, seat 1, is no marker
pub marker_not_one : (n : ℕ) → IsMarker n → n ≢ 1
marker_not_one n sort e = let low = sort.0 in omega arith

module _ {A : Type 0} where
  -- an open claim word that lacks p shows that the sender's round is open for p and that no piece has it
  pub claim_free : (g : Shape) → IsShape g → (s : Core A) (p : ℕ) → Sound g s → p < g.send_parts → MayClaim s.word p
      → IsFree g (λ c. s.word (Claim c)) (λ d i. s.word (Piece d i)) s.send p
  claim_free g v s p r inside may =
      free_of g v (λ c. s.word (Claim c)) (λ d i. s.word (Piece d i)) (round_in (s.word Release)) s.send s.recv p r.progress r.gates r.pieces inside may.0 may.1

  -- an open claim word is of the sender's round, which is stored in all piece words
  pub record IsOpen (g : Shape) (s : Core A) (c : ℕ) : Type 0 where
    -- the word isn't among those shut in the round
    pub unshut : s.send.shut ≤ c
    -- it is among those opened in it
    pub opened : c < s.send.opened
    -- it has the sender's round
    pub round : round_in (s.word (Claim c)) ≡ s.send.round
    -- and all piece words are stored for that round
    pub stored : s.send.pieces ≡ pieces g

  -- a claim word whose bit 32 isn't set is such a one
  pub open_word : (g : Shape) (s : Core A) (c : ℕ) → Sound g s → c < claim_words g → bit (s.word (Claim c)) 32 ≡ 0 → IsOpen g s c
  open_word g s c r inside unshut =
      let opened : c < s.send.opened = elim (cases_lt c s.send.opened) [
        | inl less ↦ less
        | inr more ↦ let e = (r.gates.is_past c more inside).1 in absurd (omega arith)
      ] in
      let after_shut : s.send.shut ≤ c = elim (cases_lt c s.send.shut) [
        | inl less ↦ let e = (r.gates.is_shut c less).1 in absurd (omega arith)
        | inr more ↦ more
      ] in
      record { unshut = after_shut; opened = opened; round = (r.gates.is_open c after_shut opened).0; stored = r.progress.opens_last (omega arith) }

  -- the claim that wins
  pub claims_keeps : (g : Shape) → IsShape g → (s : Core A) (n p : ℕ) (a : A) → Sound g s → IsMarker n → s.life n ≡ Live → p < g.send_parts → s.pending n ≡ None → MayClaim s.word p
      → Sound g (claims g n p a s)
  claims_keeps g v s n p a r sort live inside none may =
      let f : ℕ → ℕ = λ c. s.word (Claim c) in
      let w : ℕ = bit_or (f (p / 32)) (2 ^ (p % 32)) in
      let h : ℕ → ℕ = put f (p / 32) w in
      let take : ℕ → ℕ = λ t. s.word (Take t) in
      let ret : ℕ → ℕ = λ t. s.word (Return t) in
      let piece : ℕ → ℕ → ℕ = λ d i. s.word (Piece d i) in
      let gain : Gains f h p = gains f p in
      let free = claim_free g v s p r inside may in
      record {
        who = put_pair r.who s.send.round p n;
        progress = r.progress;
        gates = gates_gain g f h p s.send gain r.gates;
        pieces = pieces_gain g f h piece p s.send gain r.pieces;
        receiving = r.receiving;
        arrived = r.arrived;
        claims = claims_gain g v f h piece s.send s.life s.pending r.who n p gain free sort live none r.claims;
        slots = slots_gain g v f h take ret piece s.send s.recv s.slot r.who n p gain free r.arrived r.slots;
        marks = marks_gain g f h s.life s.marks r.who s.send.round n p a gain inside free.lacks free.now free.round sort live r.marks;
        takes = r.takes;
        unused = unused_or g s.word (Claim (p / 32)) (p % 32) r.unused (λ _. inr (omega arith, omega arith));
        seen = sees g s.word s.life s.seen n (Claim (p / 32)) w r.lives.send r.seen (λ _. later_or (f (p / 32)) (p % 32) (omega arith));
        opened = opened_else s.send s.seen n _ (λ e. let low = sort.0 in omega arith) r.opened;
        news = news_claim g s.life s.seen s.looks s.pending s.marks n _ _ _ _ (live_not_blank (s.life n) live) r.news;
        owns = owns_else g take ret s.seen n (put_word (Claim (p / 32)) w (s.seen n)) (marker_not_one n sort) r.owns;
        lives = r.lives;
      }

  -- where the claim word is the one that the marker has seen, it is open and lacks p
  pub seen_may : (s : Core A) (n p : ℕ) → s.word (Claim (p / 32)) ≡ s.seen n (Claim (p / 32)) → MayClaim (s.seen n) p → MayClaim s.word p
  seen_may s n p e may = (ap (λ (z : ℕ). bit z 32) e ∙ may.0, ap (λ (z : ℕ). bit z (p % 32)) e ∙ may.1)

  -- won or lost, the try keeps soundness
  pub tries_claim_keeps : (g : Shape) → IsShape g → (s : Core A) (n p : ℕ) (a : A) → Sound g s → IsAllowed g s (TryClaim n p a) → Sound g (after g s (TryClaim n p a))
  tries_claim_keeps g v s n p a r ok = elim (cases_Bool (s.word (Claim (p / 32)) == s.seen n (Claim (p / 32)))) [
    | inl wins ↦ subst (λ (b : Bool). Sound g (if b then claims g n p a s else loads n (Claim (p / 32)) s)) (sym wins)
        (claims_keeps g v s n p a r ok.0 ok.1 ok.2 ok.3 (seen_may s n p (eqb-true (s.word (Claim (p / 32))) (s.seen n (Claim (p / 32))) wins) ok.4))
    | inr fails ↦ subst (λ (b : Bool). Sound g (if b then claims g n p a s else loads n (Claim (p / 32)) s)) (sym fails) (loads_keeps g s n (Claim (p / 32)) (live_not_blank (s.life n) ok.1) r)
  ]

  -- the slots of the cells of a partition that may be claimed are home
  pub claim_home : (g : Shape) → IsShape g → (s : Core A) (p c : ℕ) → Sound g s → p < g.send_parts → MayClaim s.word p → c < cells g → send_of g c ≡ p
      → (k : ℕ) × (s.slot (s.send.round % g.depth) c ≡ Home k)
  claim_home g v s p c r inside may within cell =
      let free = claim_free g v s p r inside may in
      r.slots.home (s.send.round % g.depth) c (place_lt g.depth s.send.round v.depth.0 v.depth.1) within
      (λ both.
      let one : part_bit (λ b. s.word (Claim b)) p ≡ 1 = subst (λ (z : ℕ). part_bit (λ b. s.word (Claim b)) z ≡ 1) cell both.1.0.2 in
      let zero = may.1 in omega arith)
      (λ both. free_unheld g v (λ b. s.word (Claim b)) (λ t. s.word (Take t)) (λ t. s.word (Return t)) (λ d i. s.word (Piece d i)) s.send s.recv p c free r.arrived within cell
      (sym both.0) both.1)

  -- no seat has a mark of it in the sender's round
  pub claim_unmarked : (g : Shape) → IsShape g → (s : Core A) (p m : ℕ) → Sound g s → p < g.send_parts → MayClaim s.word p → times s.send.round p (s.marks m) ≡ 0
  claim_unmarked g v s p m r inside may =
      let free = claim_free g v s p r inside may in
      elim (cases_eq (times s.send.round p (s.marks m)) 0) [
        | inl e ↦ e
        | inr other ↦
            let below : s.send.round < next_round (λ c. s.word (Claim c)) p = (r.marks.own m s.send.round p (omega arith)).3 in
            let now = free.now in let lacks = free.lacks in absurd (omega arith)
      ]

  -- no receive partition that shares a piece with it is taken in the sender's round
  pub claim_untaken : (g : Shape) → IsShape g → (s : Core A) (p q i : ℕ) → Sound g s → p < g.send_parts → MayClaim s.word p → i < pieces g → Touches g i p → TouchesRecv g i q
      → times s.send.round q s.takes ≡ 0
  claim_untaken g v s p q i r inside may low t u =
      let free = claim_free g v s p r inside may in
      elim (cases_eq (times s.send.round q s.takes) 0) [
        | inl e ↦ e
        | inr other ↦
            let out = r.takes.out s.send.round q i p (omega arith) low u t in
            let all = free.all in let now = r.pieces.current i (omega arith) in
            let lacks = free.unlaid i low t in absurd (omega arith)
      ]

  -- so no receive partition with which it shares a cell
  pub claim_untaken_cell : (g : Shape) → IsShape g → (s : Core A) (p c : ℕ) → Sound g s → p < g.send_parts → MayClaim s.word p → c < cells g → send_of g c ≡ p
      → times s.send.round (recv_of g c) s.takes ≡ 0
  claim_untaken_cell g v s p c r inside may within cell =
      claim_untaken g v s p (recv_of g c) (piece_of g c) r inside may (cell_piece g c within) (subst (Touches g (piece_of g c)) cell (cell_touches g c within)) (cell_touches_recv g c within)

  -- no claim of it pends
  pub claim_unpended : (g : Shape) (s : Core A) (p m : ℕ) (x : Pending) → Sound g s → MayClaim s.word p → s.pending m ≡ Some x → x.partition ≢ p
  claim_unpended g s p m x r may at e =
      let one : part_bit (λ c. s.word (Claim c)) p ≡ 1 = subst (λ (z : ℕ). part_bit (λ c. s.word (Claim c)) z ≡ 1) e (r.claims.each m x at).claimed.2 in
      let zero = may.1 in omega arith
