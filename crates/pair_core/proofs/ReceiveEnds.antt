-- Giving a partition back and releasing the round keep soundness. A buffer that comes home has no round any more, and a
-- release asks that none is held.
use Rattle.std.proofs.Common.{◌≡◌, inl, inr, ℕ, ◌/◌, ◌%◌, ◌^◌, ◌<◌, ◌≤◌, ◌==◌, refl, sym, ap, ◌∙◌, arith, bit_or}
use Rattle.std.proofs.lemmas.Bool.{cases_eq}
use Rattle.gate_word.specs.Words.{round_in}
use Rattle.part_geometry.specs.Shape.{Shape, IsShape}
use Rattle.part_geometry.specs.Cells.{cells, send_of, recv_of}
use Rattle.part_geometry.specs.Pieces.{piece_of}
use Rattle.pair_core.specs.Words.{empty}
use Rattle.pair_core.specs.Names.{Claim, Release, Take, Return, Piece, take_words, put_word}
use Rattle.pair_core.specs.Core.{Core, Slot, Home, Out}
use Rattle.pair_core.specs.Reading.{part_bit}
use Rattle.pair_core.specs.Steps.{put_slots}
use Rattle.pair_core.specs.Moves.{IsRecvActive, IsAllowed, after, ReturnPart, StoreRelease}
use Rattle.pair_core.specs.Sound.{Progress, Receiving, Slots, Sound}
use Rattle.pair_core.specs.declared.view.SendSide.{SendSide}
use Rattle.pair_core.specs.declared.view.RecvSide.{RecvSide}
use Rattle.pair_core.proofs.Words.{bit_lt, empty_round, later_or, later_newer}
use Rattle.pair_core.proofs.Rounds.{place_lt}
use Rattle.pair_core.proofs.Cut.{take_word, cell_recv, recv_touched}
use Rattle.pair_core.proofs.Frames.{sees, opened_else, news_else, live_not_blank, owns_here, unused_or, unused_empty}
use Rattle.pair_core.proofs.ReceiveFacts.{with_part, with_round, with_here, with_else, with_more, piece_le, recv_slots, AreFull, cell_full, not_lent}
use Rattle.pair_core.proofs.ReceiveOpens.{slots_none, owns_return}

receiving_back : (g : Shape) (take ret : ℕ → ℕ) (recv : RecvSide) (q : ℕ) → IsRecvActive g recv → recv.returns ≡ take_words g → part_bit take q ≡ 1
    → Receiving g take ret recv → Receiving g take (with_part ret q) recv
receiving_back g take ret recv q active stored taken r = let all : recv.takes ≡ take_words g = active.0 in let open' : recv.released ≡ 0 = active.1 in record {
  return_now = λ t low. with_round ret q t ∙ r.return_now t low;
  return_past = λ t low inside. absurd (omega arith);
  take_now = r.take_now;
  take_past = r.take_past;
  all_returned = λ p inside low. absurd (let h = take_word g p inside in omega arith);
  all_taken = r.all_taken;
  none_returned = λ p inside low. absurd (omega arith);
  none_taken = r.none_taken;
  within = λ p inside e. elim (cases_eq p q) [
    | inl f ↦ let has : part_bit take p ≡ 1 = ap (part_bit take) f ∙ taken in let small = bit_lt (with_part ret q (p / 32)) (p % 32) in omega arith
    | inr other ↦ let a = r.within p inside e in let b = with_else ret q p other in omega arith
  ];
  done = λ p inside e. absurd (omega arith);
}

slots_back : (g : Shape) (claim take ret : ℕ → ℕ) (piece : ℕ → ℕ → ℕ) (send : SendSide) (recv : RecvSide) (slot : ℕ → ℕ → Slot) (who : ℕ → ℕ → ℕ) (q : ℕ)
    → round_in (ret (q / 32)) ≡ recv.round → AreFull g piece recv q
    → Slots g claim take ret piece send recv slot who
    → Slots g claim take (with_part ret q) piece send recv (put_slots slot (recv.round % g.depth) (λ c. recv_of g c == q) (Home recv.round)) who
slots_back g claim take ret piece send recv slot who q now full h = let place : ℕ = recv.round % g.depth in let x : Slot = Home recv.round in record {
  lent = λ c inside l. recv_slots g slot place q x (send.round % g.depth) c (λ z. z ≡ Out (who send.round (send_of g c)))
      (λ e f. absurd (not_lent g claim piece send recv q c full inside e f l)) (λ _. h.lent c inside l);
  held = λ c inside held. recv_slots g slot place q x place c (λ z. z ≡ Out 1)
      (λ _ f. absurd (let none = held.2 in let one : part_bit (with_part ret q) (recv_of g c) ≡ 1 = ap (part_bit (with_part ret q)) f ∙ with_here ret q in omega arith))
      (λ other. h.held c inside (held.0, held.1, sym (with_else ret q (recv_of g c) (λ f. other (refl, f))) ∙ held.2));
  home = λ d c low inside l not_held. recv_slots g slot place q x d c (λ z. (k : ℕ) × (z ≡ Home k))
      (λ _ _. (recv.round, refl))
      (λ other. h.home d c low inside l (λ y. not_held (y.0, (y.1.0, y.1.1, with_else ret q (recv_of g c) (λ f. other (y.0, f)) ∙ y.1.2))));
  tied = λ d c k low inside at has. let le = has.kept in recv_slots g slot place q x d c (λ z. z ≡ Home k → k ≡ round_in (piece d (piece_of g c)))
      (λ e f _. absurd (
      let one : part_bit (with_part ret q) (recv_of g c) ≡ 1 = ap (part_bit (with_part ret q)) f ∙ with_here ret q in
      let word : round_in (with_part ret q (recv_of g c / 32)) ≡ recv.round = with_round ret q (recv_of g c / 32) ∙ (ap (λ (z : ℕ). round_in (ret (z / 32))) f ∙ now) in
      let round = (cell_full g piece recv q c full inside f).round in
      let round' : round_in (piece d (piece_of g c)) ≡ recv.round = ap (λ (z : ℕ). round_in (piece z (piece_of g c))) e ∙ round in omega arith))
      (λ other at'. h.tied d c k low inside at' record { laid = has.laid; kept = let a = with_round ret q (recv_of g c / 32) in let b = with_more ret q (recv_of g c) in omega arith }) at;
}

progress_release : (g : Shape) (released n : ℕ) (send : SendSide) (recv : RecvSide) → n ≡ recv.round → recv.released ≡ 0 → recv.takes ≡ take_words g → recv.round ≤ send.round
    → Progress g released send recv → Progress g n send (record recv { released = 1 })
progress_release g released n send recv now open' all low p = let current = p.current in let ahead = p.ahead in record {
  some = p.some;
  pieces_most = p.pieces_most;
  opened = p.opened;
  shut = p.shut;
  opens_last = p.opens_last;
  shuts_last = p.shuts_last;
  begun = p.begun;
  behind = omega arith;
  ahead = omega arith;
  some_return = p.some_return;
  returns = p.returns;
  takes = p.takes;
  takes_last = p.takes_last;
  ends_last = λ _. all;
  ends_once = omega arith;
  current = omega arith;
}

receiving_release : (g : Shape) (take ret : ℕ → ℕ) (recv : RecvSide) → ((q : ℕ) → q < g.recv_parts → (part_bit take q ≡ 1) × (part_bit ret q ≡ 1))
    → Receiving g take ret recv → Receiving g take ret (record recv { released = 1 })
receiving_release g take ret recv all r = record {
  return_now = r.return_now;
  return_past = r.return_past;
  take_now = r.take_now;
  take_past = r.take_past;
  all_returned = r.all_returned;
  all_taken = r.all_taken;
  none_returned = r.none_returned;
  none_taken = r.none_taken;
  within = r.within;
  done = λ q inside _. all q inside;
}

module _ {A : Type 0} where
  -- the pieces over a partition that is taken are full in the receiver's round
  pub taken_full : (g : Shape) (s : Core A) (q : ℕ) → Sound g s → q < g.recv_parts → IsRecvActive g s.recv → part_bit (λ t. s.word (Take t)) q ≡ 1 → AreFull g (λ d i. s.word (Piece d i)) s.recv q
  taken_full g s q r inside active taken i small over = r.arrived q i inside small active taken over

  -- the slots of a partition that is taken and not given back are out to the receive side
  pub return_out : (g : Shape) (s : Core A) (q : ℕ) → Sound g s → IsRecvActive g s.recv → part_bit (λ t. s.word (Take t)) q ≡ 1 → part_bit (λ t. s.word (Return t)) q ≡ 0
      → (c : ℕ) → c < cells g → recv_of g c ≡ q → s.slot (s.recv.round % g.depth) c ≡ Out 1
  return_out g s q r active taken kept c inside e =
      r.slots.held c inside (active, ap (part_bit (λ t. s.word (Take t))) e ∙ taken, ap (part_bit (λ t. s.word (Return t))) e ∙ kept)

  -- the receiver's round isn't above the sender's, where a partition is taken in it
  pub recv_behind : (g : Shape) → IsShape g → (s : Core A) (q : ℕ) → Sound g s → q < g.recv_parts → IsRecvActive g s.recv → part_bit (λ t. s.word (Take t)) q ≡ 1 → s.recv.round ≤ s.send.round
  recv_behind g v s q r inside active taken =
      let over = recv_touched g v q inside in let i : ℕ = over.0 in
      let full = (taken_full g s q r inside active taken i over.1 over.2).round in
      let low = piece_le g (λ c. s.word (Claim c)) (λ d j. s.word (Piece d j)) s.send r.pieces (s.recv.round % g.depth) i (place_lt g.depth s.recv.round v.depth.0 v.depth.1) over.1 in omega arith

  -- giving a partition back keeps soundness
  pub return_part_keeps : (g : Shape) → IsShape g → (s : Core A) (q : ℕ) → Sound g s → IsAllowed g s (ReturnPart q) → Sound g (after g s (ReturnPart q))
  return_part_keeps g v s q r allowed =
      let inside : q < g.recv_parts = allowed.0 in let active = allowed.1 in let taken = allowed.2 in
      let all : s.recv.takes ≡ take_words g = active.0 in let word = take_word g q inside in
      let stored : s.recv.returns ≡ take_words g = r.progress.takes_last (omega arith) in
      let t : ℕ = q / 32 in let w : ℕ = bit_or (s.word (Return t)) (2 ^ (q % 32)) in
      record {
        who = r.who;
        progress = r.progress;
        gates = r.gates;
        pieces = r.pieces;
        receiving = receiving_back g (λ j. s.word (Take j)) (λ j. s.word (Return j)) s.recv q active stored taken r.receiving;
        arrived = r.arrived;
        claims = r.claims;
        slots = slots_back g (λ c. s.word (Claim c)) (λ j. s.word (Take j)) (λ j. s.word (Return j)) (λ d i. s.word (Piece d i)) s.send s.recv s.slot r.who q
            (r.receiving.return_now t (omega arith)) (taken_full g s q r inside active taken) r.slots;
        marks = r.marks;
        takes = r.takes;
        unused = unused_or g s.word (Return t) (q % 32) r.unused (λ _. (omega arith, omega arith));
        seen = sees g s.word s.life s.seen 1 (Return t) w r.lives.send r.seen (λ _. later_or (s.word (Return t)) (q % 32) (omega arith));
        opened = opened_else s.send s.seen 1 _ (λ e. omega arith) r.opened;
        news = news_else g s.life s.seen s.looks s.pending s.marks 1 _ _ (live_not_blank (s.life 1) r.lives.recv) r.news;
        owns = owns_here g (λ j. s.word (Take j)) (λ j. put_word (Return t) w s.word (Return j)) s.seen (put_word (Return t) w (s.seen 1)) (owns_return g (s.seen 1) s.word t w r.owns);
        lives = r.lives;
      }

  -- releasing the round keeps soundness
  pub store_release_keeps : (g : Shape) → IsShape g → (s : Core A) (k : ℕ) → Sound g s → IsAllowed g s (StoreRelease k) → Sound g (after g s (StoreRelease k))
  store_release_keeps g v s k r allowed =
      let active = allowed.1 in let all : s.recv.takes ≡ take_words g = active.0 in let open' : s.recv.released ≡ 0 = active.1 in
      let back = allowed.2 in let n : ℕ = s.recv.round in let w : ℕ = empty n in let round = empty_round n in
      let behind = recv_behind g v s 0 r (let a = v.recv_parts.0 in omega arith) active (back 0 (let a = v.recv_parts.0 in omega arith)).0 in
      let current = r.progress.current in
      record {
        who = r.who;
        progress = progress_release g (round_in (s.word Release)) (round_in w) s.send s.recv round open' all behind r.progress;
        gates = r.gates;
        pieces = r.pieces;
        receiving = receiving_release g (λ j. s.word (Take j)) (λ j. s.word (Return j)) s.recv back r.receiving;
        arrived = λ q i _ _ act. absurd (let e = act.1 in omega arith);
        claims = r.claims;
        slots = slots_none g (λ c. s.word (Claim c)) (λ j. s.word (Take j)) (λ j. s.word (Return j)) (λ j. s.word (Take j)) (λ j. s.word (Return j))
            (λ d i. s.word (Piece d i)) s.send s.recv (record s.recv { released = 1 }) s.slot r.who
            (λ c inside held. let kept = held.2 in let one = (back (recv_of g c) (cell_recv g v c inside)).1 in omega arith)
            (λ c inside held. let e = held.0.1 in absurd (omega arith)) (λ c inside. refl) r.slots;
        marks = r.marks;
        takes = r.takes;
        unused = unused_empty g s.word Release n r.unused;
        seen = sees g s.word s.life s.seen 1 Release w r.lives.send r.seen (λ _. later_newer (s.word Release) w (omega arith));
        opened = opened_else s.send s.seen 1 _ (λ e. omega arith) r.opened;
        news = news_else g s.life s.seen s.looks s.pending s.marks 1 _ _ (live_not_blank (s.life 1) r.lives.recv) r.news;
        owns = owns_here g (λ j. s.word (Take j)) (λ j. s.word (Return j)) s.seen (put_word Release w (s.seen 1)) record { takes = r.owns.takes; returns = r.owns.returns };
        lives = r.lives;
      }
