-- Which buffers that are home have a round, and which of them a move changes: only the lay that brings a buffer home gives
-- it one.
use Rattle.std.proofs.Common.{◌≡◌, ◌≢◌, ◌⊎◌, inl, inr, ⊎_elim, ℕ, ◌-◌, ◌/◌, ◌%◌, ◌^◌, ◌<◌, ◌≤◌, Bool, true, false, ◌==◌, Option, refl, sym, ap, ◌∙◌, subst, arith, bit_or}
use Rattle.std.specs.Prelude.{if◌then◌else◌}
use Rattle.std.proofs.lemmas.Bool.{cases_eq}
use Rattle.gate_word.specs.Words.{round_in}
use Rattle.part_geometry.specs.Shape.{Shape, IsShape}
use Rattle.part_geometry.specs.Cells.{cells, send_of, recv_of}
use Rattle.part_geometry.specs.Pieces.{pieces, piece_of, first_part, Touches}
use Rattle.pair_core.specs.Words.{empty}
use Rattle.pair_core.specs.Names.{Name, Claim, Return, Piece, take_words, put_pair}
use Rattle.pair_core.specs.Core.{Core}
use Rattle.pair_core.specs.Reading.{part_bit, next_round, laid, last_round}
use Rattle.pair_core.specs.Steps.{counted, entered, enters, claims, loads, lays_piece}
use Rattle.pair_core.specs.Moves.{Move, StorePiece, StoreClaim, LoadClaim, LoadPiece, LoadRelease, ShutClaim, TryClaim, LayPiece, StoreReturn, StoreTake, TakePart, ReturnPart, StoreRelease, Split, Rise, Join, MayClaim, IsAllowed, after, lays, joined}
use Rattle.pair_core.specs.Sound.{HasRound, Sound}
use Rattle.pair_core.specs.Facts.{piece_word, returns, IsKept, BringsHome}
use Rattle.pair_core.specs.declared.view.Pending.{Pending}
use Rattle.pair_core.specs.declared.view.Life.{Life}
use Rattle.pair_core.specs.declared.view.Life.TheVariants.{Blank, Live, Spent}
use Rattle.pair_core.proofs.Words.{empty_bit}
use Rattle.pair_core.proofs.Puts.{put_pair_at}
use Rattle.pair_core.proofs.Rounds.{last_place}
use Rattle.pair_core.proofs.Cut.{cell_recv, cell_piece, cell_touches, bit_small}
use Rattle.pair_core.proofs.Claims.{claim_free}
use Rattle.pair_core.proofs.LayGroups.{Fills, fills, fills_was}
use Rattle.pair_core.proofs.ReceiveFacts.{with_part, with_round, with_here, with_more, cell_full}
use Rattle.pair_core.proofs.ReceiveOpens.{return_next}
use Rattle.pair_core.proofs.ReceiveEnds.{taken_full}

module _ {A : Type 0} where
  -- between two states the buffer of cell c at place d keeps the round that it has
  abbrev Stays : Shape → Core A → Core A → ℕ → ℕ → Type 0
  Stays g s t d c = IsKept g s d c × (round_in (piece_word g t d c) ≡ round_in (piece_word g s d c))

  -- it does where its piece's word is the same and its partition wasn't given back less
  stays_of : (g : Shape) (s t : Core A) (d c : ℕ) → piece_word g t d c ≡ piece_word g s d c → next_round (returns s) (recv_of g c) ≤ next_round (returns t) (recv_of g c)
      → IsKept g t d c → Stays g s t d c
  stays_of g s t d c same more has = let round = ap round_in same in let kept = has.kept in
      (record { laid = ap (λ (w : ℕ). laid g w (piece_of g c) (send_of g c)) (sym same) ∙ has.laid; kept = omega arith }, round)

  stays_words : (g : Shape) (s t : Core A) (d c : ℕ) → t.word ≡ s.word → IsKept g t d c → Stays g s t d c
  stays_words g s t d c same = stays_of g s t d c (ap (λ (f : Name → ℕ). f (Piece d (piece_of g c))) same)
      (let e : next_round (returns t) (recv_of g c) ≡ next_round (returns s) (recv_of g c) = ap (λ (f : Name → ℕ). next_round (λ j. f (Return j)) (recv_of g c)) same in omega arith)

  -- a seat's first event and a join change no word
  counted_words : (b : Bool) (n : ℕ) (s : Core A) → (counted b n s).word ≡ s.word
  counted_words true n s = refl
  counted_words false n s = refl

  entered_words : (l : Life) (n : ℕ) (s : Core A) → (entered l n s).word ≡ s.word
  entered_words Blank n s = counted_words (n % 2 == 0) n s
  entered_words Live n s = refl
  entered_words Spent n s = refl

  joined_words : (b : Bool) (g : Shape) (n : ℕ) (s : Core A) → (joined b g n s).word ≡ s.word
  joined_words true g n s = refl
  joined_words false g n s = refl

  stays_tried : (g : Shape) (s : Core A) (n p : ℕ) (a : A) (b : Bool) (d c : ℕ) → IsKept g (if b then claims g n p a s else loads n (Claim (p / 32)) s) d c
      → Stays g s (if b then claims g n p a s else loads n (Claim (p / 32)) s) d c
  stays_tried g s n p a true d c = stays_of g s (claims g n p a s) d c refl (omega arith)
  stays_tried g s n p a false d c = stays_of g s (loads n (Claim (p / 32)) s) d c refl (omega arith)

  -- a piece that is stored empty has no partition
  stays_stored : (g : Shape) → IsShape g → (s : Core A) (k i d c : ℕ) → c < cells g → IsKept g (after g s (StorePiece k i)) d c → Stays g s (after g s (StorePiece k i)) d c
  stays_stored g v s k i d c within =
      put_pair_at (λ m n. s.word (Piece m n)) (k % g.depth) i (empty k) (λ z. HasRound g (returns s) z c → IsKept g s d c × (round_in z ≡ round_in (piece_word g s d c))) d (piece_of g c)
      (λ _ _ has.
      let small = bit_small g v (piece_of g c) (send_of g c) (cell_piece g c within) (cell_touches g c within) in
      let none = empty_bit k (send_of g c - first_part g (piece_of g c)) (omega arith) in let one = has.laid in absurd (omega arith))
      (λ _ has. (has, refl))

  -- a lay adds the bit of one partition to one piece's word
  laid_or_stays : (g : Shape) → IsShape g → (s : Core A) (n p i : ℕ) (x : Pending) (d c : ℕ) → i < pieces g → Touches g i x.partition → x.partition ≡ p → x.round ≡ s.send.round → c < cells g
      → IsKept g (lays_piece g n i x s) d c → BringsHome g s (LayPiece n p i) d c ⊎ Stays g s (lays_piece g n i x s) d c
  laid_or_stays g v s n p i x d c inside t part round within has =
      let f : ℕ → ℕ → ℕ = λ e j. s.word (Piece e j) in let place : ℕ = x.round % g.depth in
      let h : ℕ → ℕ → ℕ = put_pair f place i (bit_or (f place i) (2 ^ (x.partition - first_part g i))) in
      let fill : Fills g f h place i x.partition = fills g v f place i x.partition inside t in
      let same = fill.round d (piece_of g c) in let kept = has.kept in
      ⊎_elim
      (λ (new : (d ≡ place) × (piece_of g c ≡ i) × (send_of g c ≡ x.partition)). inl (
        n,
        ap (λ (z : ℕ). LayPiece n z i) (sym (new.2 ∙ part)) ∙ ap (LayPiece n (send_of g c)) (sym new.1),
        new.0 ∙ ap (λ (z : ℕ). z % g.depth) round,
      ))
      (λ (old : laid g (f d (piece_of g c)) (piece_of g c) (send_of g c) ≡ 1). inr (record { laid = old; kept = omega arith }, same))
      (fills_was g f h place i x.partition fill d (piece_of g c) (send_of g c) (cell_piece g c within) (cell_touches g c within) has.laid)

  -- after any move: the lay brought the buffer home, or it had the round before
  pub kept_before : (g : Shape) → IsShape g → (s : Core A) (m : Move A) (d c : ℕ) → Sound g s → IsAllowed g s m → d < g.depth → c < cells g → IsKept g (after g s m) d c
      → BringsHome g s m d c ⊎ (IsKept g s d c × (round_in (piece_word g (after g s m) d c) ≡ round_in (piece_word g s d c)))
  kept_before g v s (StorePiece k i) d c r ok low within has = inr (stays_stored g v s k i d c within has)
  kept_before g v s (StoreClaim k j) d c r ok low within has = inr (stays_of g s (after g s (StoreClaim k j)) d c refl (omega arith) has)
  kept_before g v s (LoadClaim n j) d c r ok low within has = inr (stays_words g s (after g s (LoadClaim n j)) d c (entered_words (s.life n) n s) has)
  kept_before g v s (LoadPiece n e j) d c r ok low within has = inr (stays_words g s (after g s (LoadPiece n e j)) d c (entered_words (s.life n) n s) has)
  kept_before g v s LoadRelease d c r ok low within has = inr (has, refl)
  kept_before g v s (ShutClaim j) d c r ok low within has = inr (stays_of g s (after g s (ShutClaim j)) d c refl (omega arith) has)
  kept_before g v s (TryClaim n p a) d c r ok low within has = inr (stays_tried g s n p a (s.word (Claim (p / 32)) == s.seen n (Claim (p / 32))) d c has)
  kept_before g v s (LayPiece n p i) d c r ok low within has =
      let x = ok.0 in let may = ok.2 in
      subst (λ (o : Option Pending). IsKept g (lays g n i o s) d c → BringsHome g s (LayPiece n p i) d c ⊎ Stays g s (lays g n i o s) d c) (sym ok.1)
      (laid_or_stays g v s n p i x d c may.piece (subst (Touches g i) (sym may.partition) may.touches) may.partition (r.claims.each n x ok.1).round within) has
  kept_before g v s (StoreReturn k t) d c r ok low within has =
      inr (stays_of g s (after g s (StoreReturn k t)) d c refl (let e = return_next g s k t r ok (recv_of g c) (cell_recv g v c within) in omega arith) has)
  kept_before g v s (StoreTake k t) d c r ok low within has = inr (stays_of g s (after g s (StoreTake k t)) d c refl (omega arith) has)
  kept_before g v s (TakePart q a) d c r ok low within has = inr (stays_of g s (after g s (TakePart q a)) d c refl (omega arith) has)
  kept_before g v s (ReturnPart q) d c r ok low within has =
      inr (stays_of g s (after g s (ReturnPart q)) d c refl (let e = with_round (returns s) q (recv_of g c / 32) in let b = with_more (returns s) q (recv_of g c) in omega arith) has)
  kept_before g v s (StoreRelease k) d c r ok low within has = inr (stays_of g s (after g s (StoreRelease k)) d c refl (omega arith) has)
  kept_before g v s (Split n) d c r ok low within has = inr (stays_words g s (enters n s) d c (entered_words (s.life n) n s) has)
  kept_before g v s (Rise n w more) d c r ok low within has = inr (has, refl)
  kept_before g v s (Join n) d c r ok low within has = inr (stays_words g s (after g s (Join n)) d c (joined_words (n % 2 == 0) g n s) has)

  -- a buffer that is given back has no round
  pub return_unkept : (g : Shape) (s : Core A) (q c : ℕ) → Sound g s → IsAllowed g s (ReturnPart q) → c < cells g → recv_of g c ≡ q → ¬ IsKept g (after g s (ReturnPart q)) (s.recv.round % g.depth) c
  return_unkept g s q c r ok within is has =
      let active = ok.1 in let all : s.recv.takes ≡ take_words g = active.0 in
      let stored : s.recv.returns ≡ take_words g = r.progress.takes_last (omega arith) in
      let round = (cell_full g (λ d i. s.word (Piece d i)) s.recv q c (taken_full g s q r ok.0 active ok.2) within is).round in
      let one : part_bit (with_part (returns s) q) (recv_of g c) ≡ 1 = ap (part_bit (with_part (returns s) q)) is ∙ with_here (returns s) q in
      let now : round_in (with_part (returns s) q (recv_of g c / 32)) ≡ s.recv.round = with_round (returns s) q (recv_of g c / 32) ∙ r.receiving.return_now (recv_of g c / 32) (omega arith) in
      let kept = has.kept in omega arith

  -- no buffer of a partition that may be claimed has the sender's round
  pub claim_unkept : (g : Shape) → IsShape g → (s : Core A) (p d c : ℕ) → Sound g s → p < g.send_parts → MayClaim s.word p → d < g.depth → c < cells g → send_of g c ≡ p
      → IsKept g s d c → round_in (piece_word g s d c) ≢ s.send.round
  claim_unkept g v s p d c r inside may place within cell has round =
      let free = claim_free g v s p r inside may in
      let low = cell_piece g c within in let t : Touches g (piece_of g c) p = subst (Touches g (piece_of g c)) cell (cell_touches g c within) in
      elim (cases_eq d (s.send.round % g.depth)) [
        | inl here ↦
            let none : laid g (s.word (Piece (s.send.round % g.depth) (piece_of g c))) (piece_of g c) p ≡ 0 = free.unlaid (piece_of g c) low t in
            let one : laid g (s.word (Piece (s.send.round % g.depth) (piece_of g c))) (piece_of g c) p ≡ 1 =
            ap (λ (z : ℕ × ℕ). laid g (s.word (Piece z.0 (piece_of g c))) (piece_of g c) z.1) (λ j. (sym here j, sym cell j)) ∙ has.laid in
            omega arith
        | inr other ↦
            let full = (r.pieces.other d (piece_of g c) place low other).round in let some = free.round in
            let is = last_place g.depth s.send.round d (omega arith) in
            let at : last_round g.depth s.send.round d ≡ s.send.round = omega arith in
            other (sym (ap (λ (z : ℕ). z % g.depth) (sym at) ∙ is))
      ]
