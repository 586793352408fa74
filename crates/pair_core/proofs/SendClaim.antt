-- Storing and shutting a claim word keep soundness: the words are stored and shut in order, so each group is looked at
-- for those before the word, the word itself and those behind it.
use Rattle.std.proofs.Common.{◌≡◌, inl, inr, ℕ, ◌+◌, ◌/◌, ◌%◌, ◌^◌, ◌<◌, true≢false, List, Option, refl, sym, ap, ◌∙◌, arith, bit_or}
use Rattle.std.proofs.lemmas.Bool.{cases_lt}
use Rattle.gate_word.specs.Words.{round_in}
use Rattle.part_geometry.specs.Shape.{Shape, IsShape}
use Rattle.part_geometry.specs.Cells.{send_of}
use Rattle.part_geometry.specs.Pieces.{pieces, piece_of, Touches}
use Rattle.pair_core.specs.Words.{bit, empty}
use Rattle.pair_core.specs.Names.{Name, Claim, Release, Take, Return, Piece, claim_words, put, put_word}
use Rattle.pair_core.specs.Core.{Core, Slot}
use Rattle.pair_core.specs.Reading.{part_bit, next_round, laid}
use Rattle.pair_core.specs.Moves.{IsAllowed, StoreClaim, ShutClaim, after}
use Rattle.pair_core.specs.Sound.{Sound, Progress, Gates, Pieces, Claims, Slots, Marks, IsClaimed}
use Rattle.pair_core.specs.declared.view.Mark.{Mark}
use Rattle.pair_core.specs.declared.view.Pending.{Pending}
use Rattle.pair_core.specs.declared.view.Life.{Life}
use Rattle.pair_core.specs.declared.view.SendSide.{SendSide}
use Rattle.pair_core.specs.declared.view.RecvSide.{RecvSide}
use Rattle.pair_core.proofs.Words.{empty_round, empty_bit, later_newer, later_or, round_or, bit_or_here, bit_or_else}
use Rattle.pair_core.proofs.Puts.{put_here, put_at}
use Rattle.pair_core.proofs.Cut.{cell_piece, cell_touches}
use Rattle.pair_core.proofs.Frames.{sees, news_else, live_not_blank, owns_else, unused_empty, unused_or}
use Rattle.pair_core.proofs.SendFacts.{may_shut}

-- the same rounds were marked, where each partition's next round is the same
marks_same : {A : Type 0} (g : Shape) (claim claim' : ℕ → ℕ) (life : ℕ → Life) (marks : ℕ → List (Mark A)) (who : ℕ → ℕ → ℕ)
    → ((p : ℕ) → p < g.send_parts → next_round claim' p ≡ next_round claim p) → Marks g claim life marks who → Marks g claim' life marks who
marks_same {A} g claim claim' life marks who same h = record {
  own = λ n k p t. let o = h.own n k p t in let e = same p o.2 in let less = o.3 in (o.0, o.1, o.2, omega arith, o.4);
  all = λ k p some inside less. let e = same p inside in h.all k p some inside (omega arith);
}

-- Storing claim word c, which is the next one.
abbrev opened : ℕ → SendSide → SendSide
opened c send = record send { opened = c + 1 }

progress_opens : (g : Shape) (send : SendSide) (recv : RecvSide) (released c : ℕ) → c < claim_words g → send.pieces ≡ pieces g → send.shut ≡ 0 → Progress g released send recv
    → Progress g released (opened c send) recv
progress_opens g send recv released c inside whole unshut h = record {
  some = h.some;
  pieces_most = h.pieces_most;
  opened = omega arith;
  shut = h.shut;
  opens_last = λ _. whole;
  shuts_last = λ e. absurd (omega arith);
  begun = h.begun;
  behind = h.behind;
  ahead = h.ahead;
  some_return = h.some_return;
  returns = h.returns;
  takes = h.takes;
  takes_last = h.takes_last;
  ends_last = h.ends_last;
  ends_once = h.ends_once;
  current = h.current;
}

gates_opens : (g : Shape) (claim : ℕ → ℕ) (send : SendSide) (c w : ℕ) → c ≡ send.opened → send.shut ≡ 0 → round_in w ≡ send.round → bit w 32 ≡ 0 → Gates g claim send
    → Gates g (put claim c w) (opened c send)
gates_opens g claim send c w is unshut round bit32 h = record {
  is_shut = λ b l. absurd (omega arith);
  is_open = λ b low l. put_at claim c w (λ z. (round_in z ≡ send.round) × (bit z 32 ≡ 0)) b (λ _. (round, bit32)) (λ o. h.is_open b low (omega arith));
  is_past = λ b low l. put_at claim c w (λ z. (round_in z + 1 ≡ send.round) × (bit z 32 ≡ 1)) b (λ e. absurd (omega arith)) (λ o. h.is_past b (omega arith) l);
  all_ended = λ p _ l. absurd (omega arith);
  all_past = λ p inside low. put_at claim c w (λ z. bit z (p % 32) ≡ 1) (p / 32) (λ e. absurd (omega arith)) (λ o. h.all_past p inside (omega arith));
}

-- a partition is claimed as it was
claimed_opens : (claim : ℕ → ℕ) (send : SendSide) (c w p : ℕ) → c ≡ send.opened → IsClaimed claim send p → IsClaimed (put claim c w) (opened c send) p
claimed_opens claim send c w p is h =
    let less = h.1 in (h.0, omega arith, put_at claim c w (λ z. bit z (p % 32) ≡ 1) (p / 32) (λ e. absurd (omega arith)) (λ _. h.2))

opens_claimed : (claim : ℕ → ℕ) (send : SendSide) (c w p : ℕ) → c ≡ send.opened → bit w (p % 32) ≡ 0 → IsClaimed (put claim c w) (opened c send) p → IsClaimed claim send p
opens_claimed claim send c w p is clean h =
    let less = h.1 in
    put_at claim c w (λ z. bit z (p % 32) ≡ 1 → IsClaimed claim send p) (p / 32) (λ e one. absurd (omega arith)) (λ o one. (h.0, omega arith, one)) h.2

pieces_opens : (g : Shape) (claim : ℕ → ℕ) (piece : ℕ → ℕ → ℕ) (send : SendSide) (c w : ℕ) → c ≡ send.opened → Pieces g claim piece send → Pieces g (put claim c w) piece (opened c send)
pieces_opens g claim piece send c w is h = record {
  other = h.other;
  waiting = h.waiting;
  current = h.current;
  ended = h.ended;
  claimed = λ i p l unshut t one. let old = h.claimed i p l unshut t one in let new = claimed_opens claim send c w p is (unshut, old.0, old.1) in (new.1, new.2);
}

claims_opens : (g : Shape) (claim : ℕ → ℕ) (piece : ℕ → ℕ → ℕ) (send : SendSide) (life : ℕ → Life) (pending : ℕ → Option Pending) (who : ℕ → ℕ → ℕ) (c w : ℕ)
    → c ≡ send.opened → ((j : ℕ) → j < 33 → bit w j ≡ 0) → Claims g claim piece send life pending who → Claims g (put claim c w) piece (opened c send) life pending who
claims_opens g claim piece send life pending who c w is clean h = record {
  each = λ n x e. let old = h.each n x e in record {
    round = old.round;
    partition = old.partition;
    claimed = claimed_opens claim send c w x.partition is old.claimed;
    marker = old.marker;
    live = old.live;
    seat = old.seat;
    laid = old.laid;
    some = old.some;
  };
  all = λ p i a b t o. h.all p i a b t (opens_claimed claim send c w p is (clean (p % 32) (omega arith)) o.0, o.1);
}

slots_opens : (g : Shape) (claim take ret : ℕ → ℕ) (piece : ℕ → ℕ → ℕ) (send : SendSide) (recv : RecvSide) (slot : ℕ → ℕ → Slot) (who : ℕ → ℕ → ℕ) (c w : ℕ)
    → c ≡ send.opened → ((j : ℕ) → j < 33 → bit w j ≡ 0) → Slots g claim take ret piece send recv slot who → Slots g (put claim c w) take ret piece (opened c send) recv slot who
slots_opens g claim take ret piece send recv slot who c w is clean h = record {
  lent = λ b l o. h.lent b l (opens_claimed claim send c w (send_of g b) is (clean (send_of g b % 32) (omega arith)) o.0, o.1);
  held = h.held;
  home = λ d b x l no_loan held. h.home d b x l (λ both. no_loan (both.0, (claimed_opens claim send c w (send_of g b) is both.1.0, both.1.1))) held;
  tied = h.tied;
}

module _ {A : Type 0} where
  -- storing a claim word keeps soundness
  pub stores_claim_keeps : (g : Shape) → IsShape g → (s : Core A) (k c : ℕ) → Sound g s → IsAllowed g s (StoreClaim k c) → Sound g (after g s (StoreClaim k c))
  stores_claim_keeps g v s k c r a =
      let claim : ℕ → ℕ = λ n. s.word (Claim n) in let take : ℕ → ℕ = λ t. s.word (Take t) in let ret : ℕ → ℕ = λ t. s.word (Return t) in
      let piece : ℕ → ℕ → ℕ = λ d j. s.word (Piece d j) in let w : ℕ = empty s.send.round in
      let inside = a.0 in let is = a.3 in
      let unshut : s.send.shut ≡ 0 = elim (cases_lt 0 s.send.shut) [ inl h ↦ let x = r.progress.shuts_last h in absurd (omega arith) | inr h ↦ omega arith ] in
      let round : round_in w ≡ s.send.round = empty_round s.send.round in
      let clean : (j : ℕ) → j < 33 → bit w j ≡ 0 = empty_bit s.send.round in
      let past = r.gates.is_past c (omega arith) inside in let before = past.0 in
      record {
        who = r.who;
        progress = progress_opens g s.send s.recv (round_in (s.word Release)) c inside a.2 unshut r.progress;
        gates = gates_opens g claim s.send c w is unshut round (clean 32 (omega arith)) r.gates;
        pieces = pieces_opens g claim piece s.send c w is r.pieces;
        receiving = r.receiving;
        arrived = r.arrived;
        claims = claims_opens g claim piece s.send s.life s.pending r.who c w is clean r.claims;
        slots = slots_opens g claim take ret piece s.send s.recv s.slot r.who c w is clean r.slots;
        marks = marks_same g claim (put claim c w) s.life s.marks r.who
            (λ p l. put_at claim c w (λ z. round_in z + bit z (p % 32) ≡ next_round claim p) (p / 32)
            (λ e. let one = r.gates.all_past p l (omega arith) in let zero_bit = clean (p % 32) (omega arith) in
            let same : round_in (claim (p / 32)) ≡ round_in (claim c) = ap (λ z. round_in (claim z)) e in omega arith)
            (λ _. refl)) r.marks;
        takes = r.takes;
        unused = unused_empty g s.word (Claim c) s.send.round r.unused;
        seen = sees g s.word s.life s.seen 0 (Claim c) w r.lives.send r.seen (λ _. later_newer (claim c) w (omega arith));
        opened = λ b clear low. ap (λ (f : Name → ℕ). round_in (f (Claim b))) (put_here s.seen 0 (put_word (Claim c) w (s.seen 0)))
            ∙ put_at (λ n. s.seen 0 (Claim n)) c w (λ z. round_in z ≡ s.send.round) b (λ _. round) (λ o. r.opened b clear (omega arith));
        news = news_else g s.life s.seen s.looks s.pending s.marks 0 _ _ (live_not_blank (s.life 0) r.lives.send) r.news;
        owns = owns_else g take ret s.seen 0 _ (λ e. omega arith) r.owns;
        lives = r.lives;
      }

-- Shutting claim word c, which is the next one: its bits below 32 and its round stay.
abbrev shut : ℕ → SendSide → SendSide
shut c send = record send { shut = c + 1 }

progress_shuts : (g : Shape) (send : SendSide) (recv : RecvSide) (released c : ℕ) → c < claim_words g → send.opened ≡ claim_words g → c ≡ send.shut → Progress g released send recv
    → Progress g released (shut c send) recv
progress_shuts g send recv released c inside whole is h = record {
  some = h.some;
  pieces_most = h.pieces_most;
  opened = h.opened;
  shut = omega arith;
  opens_last = h.opens_last;
  shuts_last = λ _. whole;
  begun = λ e. let x = h.begun e in absurd (omega arith);
  behind = h.behind;
  ahead = h.ahead;
  some_return = h.some_return;
  returns = h.returns;
  takes = h.takes;
  takes_last = h.takes_last;
  ends_last = h.ends_last;
  ends_once = h.ends_once;
  current = h.current;
}

gates_shuts : (g : Shape) (claim : ℕ → ℕ) (send : SendSide) (c w : ℕ) → c ≡ send.shut → send.opened ≡ claim_words g → c < claim_words g
    → round_in w ≡ round_in (claim c) → bit w 32 ≡ 1 → ((p : ℕ) → p < g.send_parts → part_bit (put claim c w) p ≡ 1) → Gates g claim send → Gates g (put claim c w) (shut c send)
gates_shuts g claim send c w is whole inside round bit32 all h = record {
  is_shut = λ b l. put_at claim c w (λ z. (round_in z ≡ send.round) × (bit z 32 ≡ 1)) b
      (λ e. (round ∙ (h.is_open c (omega arith) (omega arith)).0, bit32)) (λ o. h.is_shut b (omega arith));
  is_open = λ b low l. put_at claim c w (λ z. (round_in z ≡ send.round) × (bit z 32 ≡ 0)) b (λ e. absurd (omega arith)) (λ o. h.is_open b (omega arith) l);
  is_past = λ b low l. absurd (omega arith);
  all_ended = λ p l _. all p l;
  all_past = λ p l low. all p l;
}

module _ {A : Type 0} where
  -- shutting a claim word keeps soundness
  pub shuts_claim_keeps : (g : Shape) → IsShape g → (s : Core A) (c : ℕ) → Sound g s → IsAllowed g s (ShutClaim c) → Sound g (after g s (ShutClaim c))
  shuts_claim_keeps g v s c r a =
      let claim : ℕ → ℕ = λ n. s.word (Claim n) in let take : ℕ → ℕ = λ t. s.word (Take t) in let ret : ℕ → ℕ = λ t. s.word (Return t) in
      let piece : ℕ → ℕ → ℕ = λ d j. s.word (Piece d j) in let w : ℕ = bit_or (claim c) (2 ^ 32) in
      let inside = a.0 in let whole = a.1 in let is = a.2 in
      let round : round_in w ≡ round_in (claim c) = round_or (claim c) 32 (omega arith) in
      let low_bits : (j : ℕ) → j < 32 → bit w j ≡ bit (claim c) j = λ j l. bit_or_else (claim c) 32 j (λ e. omega arith) in
      let same_bit : (p : ℕ) → part_bit (put claim c w) p ≡ part_bit claim p = λ p. put_at claim c w (λ z. bit z (p % 32) ≡ part_bit claim p) (p / 32)
      (λ e. low_bits (p % 32) (omega arith) ∙ ap (λ z. bit (claim z) (p % 32)) (sym e)) (λ _. refl) in
      let same_next : (p : ℕ) → next_round (put claim c w) p ≡ next_round claim p = λ p. put_at claim c w (λ z. round_in z + bit z (p % 32) ≡ next_round claim p) (p / 32)
      (λ e. let b = low_bits (p % 32) (omega arith) in let x : round_in (claim c) + bit (claim c) (p % 32) ≡ next_round claim p = ap (λ z. round_in (claim z) + bit (claim z) (p % 32)) (sym e) in omega arith)
      (λ _. refl) in
      let claimed : (p : ℕ) → p < g.send_parts → part_bit claim p ≡ 1 = λ p l. elim (cases_lt 0 s.send.shut) [
        | inl some ↦ r.gates.all_ended p l some
        | inr none ↦ (may_shut g v s r whole (omega arith) (a.3 (omega arith))).0 p l
      ] in
      let full : (i p : ℕ) → i < pieces g → Touches g i p → laid g (piece (s.send.round % g.depth) i) i p ≡ 1 = λ i p l t. elim (cases_lt 0 s.send.shut) [
        | inl some ↦ r.pieces.ended i p l some t
        | inr none ↦ (may_shut g v s r whole (omega arith) (a.3 (omega arith))).1 i p l t
      ] in
      record {
        who = r.who;
        progress = progress_shuts g s.send s.recv (round_in (s.word Release)) c inside whole is r.progress;
        gates = gates_shuts g claim s.send c w is whole inside round (bit_or_here (claim c) 32) (λ p l. same_bit p ∙ claimed p l) r.gates;
        pieces = record {
          other = r.pieces.other;
          waiting = r.pieces.waiting;
          current = r.pieces.current;
          ended = λ i p l _ t. full i p l t;
          claimed = λ i p l e. absurd (omega arith);
        };
        receiving = r.receiving;
        arrived = r.arrived;
        claims = record {
          each = λ n x e.
              let old = r.claims.each n x e in let i = old.some in
              let one = full i.0 x.partition i.1 i.2 in let other = (old.laid i.0 i.1 i.2).1 one in absurd (true≢false (sym other ∙ i.3));
          all = λ p i l m t o. let z = o.0.0 in absurd (omega arith);
        };
        slots = record {
          lent = λ b l o. let z = o.0.0 in absurd (omega arith);
          held = r.slots.held;
          home = λ d b x l _ held. r.slots.home d b x l
              (λ both. let none = both.1.1 in let one = full (piece_of g b) (send_of g b) (cell_piece g b l) (cell_touches g b l) in omega arith) held;
          tied = r.slots.tied;
        };
        marks = marks_same g claim (put claim c w) s.life s.marks r.who (λ p _. same_next p) r.marks;
        takes = r.takes;
        unused = unused_or g s.word (Claim c) 32 r.unused (λ _. inl refl);
        seen = sees g s.word s.life s.seen 0 (Claim c) w r.lives.send r.seen (λ _. later_or (claim c) 32 (omega arith));
        opened = λ b clear low. absurd (omega arith);
        news = news_else g s.life s.seen s.looks s.pending s.marks 0 _ _ (live_not_blank (s.life 0) r.lives.send) r.news;
        owns = owns_else g take ret s.seen 0 _ (λ e. omega arith) r.owns;
        lives = r.lives;
      }
