-- Laying a partition into a piece keeps soundness, and what is so where a claim pends. The step goes group by group, by
-- the lemmas of LayGroups.
use Rattle.std.proofs.Common.{◌≡◌, inl, inr, ℕ, ◌-◌, ◌/◌, ◌%◌, ◌^◌, ◌<◌, ◌≤◌, false, ◌==◌, ◌&&◌, Option, Some, sym, ap, ◌∙◌, subst, arith, bit_or}
use Rattle.std.proofs.lemmas.Bool.{cases_eq}
use Rattle.gate_word.specs.Words.{round_in}
use Rattle.part_geometry.specs.Shape.{Shape, IsShape}
use Rattle.part_geometry.specs.Cells.{cells, send_of}
use Rattle.part_geometry.specs.Pieces.{pieces, piece_of, first_part, Touches}
use Rattle.pair_core.specs.Words.{bit}
use Rattle.pair_core.specs.Names.{Claim, Take, Return, Piece, put, put_pair, put_word}
use Rattle.pair_core.specs.Core.{Core, Home, Out, IsMarker, has, times}
use Rattle.pair_core.specs.Reading.{part_bit, laid}
use Rattle.pair_core.specs.Steps.{wrote, put_slots, left_of, lays_piece}
use Rattle.pair_core.specs.Moves.{LayPiece, IsAllowed, lays, after}
use Rattle.pair_core.specs.Sound.{IsClaimed, Sound}
use Rattle.pair_core.specs.declared.view.Pending.{Pending}
use Rattle.pair_core.specs.declared.view.Life.TheVariants.{Live}
use Rattle.pair_core.proofs.Words.{later_or}
use Rattle.pair_core.proofs.Cut.{touch_range, bit_small, cell_piece, cell_touches, some_claims}
use Rattle.pair_core.proofs.Frames.{sees, opened_else, news_lay, live_not_blank, owns_else, unused_or}
use Rattle.pair_core.proofs.Claims.{marker_not_one}
use Rattle.pair_core.proofs.LayGroups.{Fills, fills, laying_of, pieces_fill, arrived_fill, takes_fill, claims_fill, slots_fill}

module _ {A : Type 0} where
  -- the claim x that pends in the seat n is of the sender's round, whose word is open and has its partition
  pub record Pends (g : Shape) (s : Core A) (n : ℕ) (x : Pending) : Type 0 where
    -- the claim is of the sender's round
    pub round : x.round ≡ s.send.round
    -- which is from 1 on
    pub some : 1 ≤ s.send.round
    -- its partition is one of the pair
    pub partition : x.partition < g.send_parts
    -- no claim word is shut in the round
    pub shut : s.send.shut ≡ 0
    -- the word of the partition is opened in it
    pub opened : x.partition / 32 < s.send.opened
    -- that word has the sender's round
    pub claim_round : round_in (s.word (Claim (x.partition / 32))) ≡ s.send.round
    -- it is open
    pub claim_open : bit (s.word (Claim (x.partition / 32))) 32 ≡ 0
    -- and has the partition
    pub claimed : part_bit (λ c. s.word (Claim c)) x.partition ≡ 1
    -- all piece words are stored for the round
    pub stored : s.send.pieces ≡ pieces g
    -- and each has it, at the round's place
    pub piece_round : (i : ℕ) → i < pieces g → round_in (s.word (Piece (s.send.round % g.depth) i)) ≡ s.send.round
    -- the seat is a marker's
    pub marker : IsMarker n
    -- which has its view
    pub live : s.life n ≡ Live
    -- and the mark, once
    pub marked : times x.round x.partition (s.marks n) ≡ 1

  -- each pending claim of a sound state is so
  pub pends_now : (g : Shape) → IsShape g → (s : Core A) (n : ℕ) (x : Pending) → Sound g s → s.pending n ≡ Some x → Pends g s n x
  pends_now g v s n x r at =
      let h = r.claims.each n x at in
      let shut = h.claimed.0 in let opened = h.claimed.1 in let claimed = h.claimed.2 in
      let word = r.gates.is_open (x.partition / 32) (omega arith) opened in
      let all = r.progress.opens_last (omega arith) in
      let some : 1 ≤ s.send.round = elim (cases_eq s.send.round 0) [
        | inl e ↦ let begun = r.progress.begun e in let words = some_claims g v in absurd (omega arith)
        | inr other ↦ omega arith
      ] in
      let round = h.round in let now = word.0 in
      record {
        round = h.round;
        some = some;
        partition = h.partition;
        shut = shut;
        opened = opened;
        claim_round = word.0;
        claim_open = word.1;
        claimed = claimed;
        stored = all;
        piece_round = λ i low. r.pieces.current i (omega arith);
        marker = h.marker;
        live = h.live;
        marked = ap (λ (z : ℕ). times x.round x.partition (s.marks z)) (sym h.seat) ∙ r.marks.all x.round x.partition (omega arith) h.partition (omega arith);
      }

  -- a piece that the claim hasn't laid lacks its partition
  pub unlaid_lacks : (g : Shape) (s : Core A) (n : ℕ) (x : Pending) (i : ℕ) → Sound g s → s.pending n ≡ Some x → i < pieces g → Touches g i x.partition → has x.laid i ≡ false
      → laid g (s.word (Piece (s.send.round % g.depth) i)) i x.partition ≡ 0
  unlaid_lacks g s n x i r at inside t missing =
      (laying_of g (λ c. s.word (Claim c)) (λ e j. s.word (Piece e j)) s.send s.life r.who n i x (r.claims.each n x at) inside t missing).unlaid

  -- and its slots there are out to the seat
  pub unlaid_out : (g : Shape) (s : Core A) (n : ℕ) (x : Pending) (c : ℕ) → Sound g s → s.pending n ≡ Some x → c < cells g → send_of g c ≡ x.partition → has x.laid (piece_of g c) ≡ false
      → s.slot (s.send.round % g.depth) c ≡ Out n
  unlaid_out g s n x c r at inside cell missing =
      let h = r.claims.each n x at in
      let d : ℕ = s.send.round % g.depth in
      let t : Touches g (piece_of g c) x.partition = subst (Touches g (piece_of g c)) cell (cell_touches g c inside) in
      let lacks = unlaid_lacks g s n x (piece_of g c) r at (cell_piece g c inside) t missing in
      let claimed : IsClaimed (λ b. s.word (Claim b)) s.send (send_of g c) = subst (IsClaimed (λ b. s.word (Claim b)) s.send) (sym cell) h.claimed in
      let owed : laid g (s.word (Piece d (piece_of g c))) (piece_of g c) (send_of g c) ≡ 0 =
      subst (λ (z : ℕ). laid g (s.word (Piece d (piece_of g c))) (piece_of g c) z ≡ 0) (sym cell) lacks in
      let seat : r.who s.send.round (send_of g c) ≡ n =
      ap (r.who s.send.round) cell ∙ (ap (λ (z : ℕ). r.who z x.partition) (sym h.round) ∙ h.seat) in
      r.slots.lent c inside (claimed, owed) ∙ ap (λ (z : ℕ). Out z) seat

  -- the state after the step, where the place, the round and the partition are named
  abbrev laid_core : Shape → ℕ → ℕ → ℕ → ℕ → ℕ → Option Pending → Core A → Core A
  laid_core g n i d k p o s = record (wrote n (Piece d i) (bit_or (s.word (Piece d i)) (2 ^ (p - first_part g i))) s) {
    slot = put_slots s.slot d (λ c. (send_of g c == p) && (piece_of g c == i)) (Home k);
    pending = put s.pending n o;
  }

  here_keeps : (g : Shape) → IsShape g → (s : Core A) (n i : ℕ) (x : Pending) → Sound g s → s.pending n ≡ Some x → i < pieces g → Touches g i x.partition → has x.laid i ≡ false
      → Sound g (laid_core g n i (s.send.round % g.depth) x.round x.partition (left_of g i x) s)
  here_keeps g v s n i x r at inside t missing =
      let d : ℕ = s.send.round % g.depth in
      let p : ℕ = x.partition in
      let b : ℕ = p - first_part g i in
      let f : ℕ → ℕ → ℕ = λ e j. s.word (Piece e j) in
      let w : ℕ = bit_or (f d i) (2 ^ b) in
      let h : ℕ → ℕ → ℕ = put_pair f d i w in
      let claim : ℕ → ℕ = λ c. s.word (Claim c) in
      let take : ℕ → ℕ = λ c. s.word (Take c) in
      let ret : ℕ → ℕ = λ c. s.word (Return c) in
      let fill : Fills g f h d i p = fills g v f d i p inside t in
      let pends = r.claims.each n x at in
      let lays = laying_of g claim f s.send s.life r.who n i x pends inside t missing in
      let opened = pends.claimed.1 in
      let all : s.send.pieces ≡ pieces g = r.progress.opens_last (omega arith) in
      let now : round_in (f d i) ≡ s.send.round = r.pieces.current i (omega arith) in
      let range = touch_range g v i p inside t in
      let low = range.low in let high = range.high in
      let small = bit_small g v i p inside t in
      record {
        who = r.who;
        progress = r.progress;
        gates = r.gates;
        pieces = pieces_fill g claim f h s.send i p fill all pends.claimed r.pieces;
        receiving = r.receiving;
        arrived = arrived_fill g take f h s.recv d i p fill r.arrived;
        claims = claims_fill g v claim f h s.send s.life s.pending r.who n i x fill lays at r.claims;
        slots = slots_fill g v claim take ret f h s.send s.recv s.slot r.who i p x.round fill inside lays.unlaid pends.round now r.arrived r.slots;
        marks = r.marks;
        takes = takes_fill g take f h s.takes d i p fill r.takes;
        unused = unused_or g s.word (Piece d i) b r.unused (λ _. omega arith);
        seen = sees g s.word s.life s.seen n (Piece d i) w r.lives.send r.seen (λ _. later_or (f d i) b (omega arith));
        opened = opened_else s.send s.seen n _ (λ e. let two = pends.marker.0 in omega arith) r.opened;
        news = news_lay g s.life s.seen s.looks s.pending s.marks n _ _ _ (live_not_blank (s.life n) pends.live) r.news;
        owns = owns_else g take ret s.seen n (put_word (Piece d i) w (s.seen n)) (marker_not_one n pends.marker) r.owns;
        lives = r.lives;
      }

  -- the same of the step as it is written, since the claim's round is the sender's
  pub laid_keeps : (g : Shape) → IsShape g → (s : Core A) (n i : ℕ) (x : Pending) → Sound g s → s.pending n ≡ Some x → i < pieces g → Touches g i x.partition → has x.laid i ≡ false
      → Sound g (lays_piece g n i x s)
  laid_keeps g v s n i x r at inside t missing =
      let round : x.round ≡ s.send.round = (r.claims.each n x at).round in
      subst (λ (k : ℕ). Sound g (laid_core g n i (k % g.depth) x.round x.partition (left_of g i x) s)) (sym round) (here_keeps g v s n i x r at inside t missing)

  -- and of the move
  pub lays_piece_keeps : (g : Shape) → IsShape g → (s : Core A) (n p i : ℕ) → Sound g s → IsAllowed g s (LayPiece n p i) → Sound g (after g s (LayPiece n p i))
  lays_piece_keeps g v s n p i r ok =
      let x = ok.0 in let may = ok.2 in
      subst (λ (o : Option Pending). Sound g (lays g n i o s)) (sym ok.1)
      (laid_keeps g v s n i x r ok.1 may.piece (subst (Touches g i) (sym may.partition) may.touches) may.missing)

  -- what the words and the slots say where a partition may be laid into a piece
  pub lay_lacks : (g : Shape) (s : Core A) (n p i : ℕ) → Sound g s → IsAllowed g s (LayPiece n p i) → laid g (s.word (Piece (s.send.round % g.depth) i)) i p ≡ 0
  lay_lacks g s n p i r ok =
      let x = ok.0 in let may = ok.2 in
      subst (λ (z : ℕ). laid g (s.word (Piece (s.send.round % g.depth) i)) i z ≡ 0) may.partition
      (unlaid_lacks g s n x i r ok.1 may.piece (subst (Touches g i) (sym may.partition) may.touches) may.missing)

  -- the slots that the partition has in the piece are out to the marker
  pub lay_out : (g : Shape) (s : Core A) (n p i c : ℕ) → Sound g s → IsAllowed g s (LayPiece n p i) → c < cells g → send_of g c ≡ p → piece_of g c ≡ i
      → s.slot (s.send.round % g.depth) c ≡ Out n
  lay_out g s n p i c r ok inside cell piece =
      let x = ok.0 in let may = ok.2 in
      unlaid_out g s n x c r ok.1 inside (cell ∙ sym may.partition) (ap (has x.laid) piece ∙ may.missing)
