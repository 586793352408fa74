-- A take keeps soundness: the pieces over the partition are full, so its slots are home with the receiver's round, and
-- they are held from then on.
use Rattle.std.proofs.Common.{◌≡◌, ◌⊎◌, inl, inr, ℕ, ◌+◌, ◌/◌, ◌%◌, ◌^◌, ◌<◌, ◌≤◌, Bool, false, ◌==◌, List, ◌∷◌, refl, sym, ap, ◌∙◌, subst, arith, bit_or}
use Rattle.std.specs.Prelude.{if◌then◌else◌}
use Rattle.std.proofs.lemmas.Bool.{cases_lt, cases_eq, eq-eqb, ne_eqb, and_from, and_left, and_right}
use Rattle.gate_word.specs.Words.{round_in}
use Rattle.part_geometry.specs.Shape.{Shape, IsShape}
use Rattle.part_geometry.specs.Cells.{cells, send_of, recv_of}
use Rattle.part_geometry.specs.Pieces.{piece_of, TouchesRecv}
use Rattle.pair_core.specs.Names.{Claim, Release, Take, Return, Piece, take_words, put_word}
use Rattle.pair_core.specs.Core.{Core, Slot, Home, Out, times, is_mark}
use Rattle.pair_core.specs.Reading.{part_bit, next_round, laid}
use Rattle.pair_core.specs.Steps.{mark, put_slots}
use Rattle.pair_core.specs.Moves.{IsRecvActive, IsAllowed, AreSeen, after, TakePart}
use Rattle.pair_core.specs.Sound.{Receiving, Arrived, HasRound, Slots, Takes, Sound}
use Rattle.pair_core.specs.declared.view.SendSide.{SendSide}
use Rattle.pair_core.specs.declared.view.RecvSide.{RecvSide}
use Rattle.pair_core.specs.declared.view.Mark.{Mark}
use Rattle.pair_core.proofs.Words.{bit_lt, later_or}
use Rattle.pair_core.proofs.Rounds.{place_lt}
use Rattle.pair_core.proofs.Cut.{take_word, cell_touches}
use Rattle.pair_core.proofs.Frames.{sees, opened_else, news_else, live_not_blank, owns_here, unused_or}
use Rattle.pair_core.proofs.ReceiveFacts.{with_part, with_round, with_here, with_else, with_more, in_round, seen_full, recv_slots, AreFull, cell_full, not_lent}
use Rattle.pair_core.proofs.ReceiveOpens.{owns_take}

module _ {A : Type 0} where
  -- how often a list has a partition in a round after a mark was put before it
  pub times_new : (k p : ℕ) (a : A) (ms : List (Mark A)) → times k p (mark k p a ∷ ms) ≡ 1 + times k p ms
  times_new k p a ms = ap (λ (b : Bool). (if b then 1 else 0) + times k p ms) (and_from (k == k) (p == p) (eq-eqb k k refl) (eq-eqb p p refl))

  -- for any other round or partition it is as often as before
  pub times_other : (k p j q : ℕ) (a : A) (ms : List (Mark A)) → ¬ ((k ≡ j) × (p ≡ q)) → times k p (mark j q a ∷ ms) ≡ times k p ms
  times_other k p j q a ms other =
      let add : Bool → ℕ = λ b. (if b then 1 else 0) + times k p ms in
      let none : is_mark k p (mark j q a) ≡ false = elim (cases_eq j k) [
        | inl e ↦ and_right (j == k) (q == p) (ne_eqb q p (λ f. other (sym e, sym f)))
        | inr o ↦ and_left (j == k) (q == p) (ne_eqb j k o)
      ] in ap add none ∙ omega arith

  -- a mark that is there is the new one, or was there
  pub times_cases : (k p j q : ℕ) (a : A) (ms : List (Mark A)) → 1 ≤ times k p (mark j q a ∷ ms) → ((k ≡ j) × (p ≡ q)) ⊎ (1 ≤ times k p ms)
  times_cases k p j q a ms some = elim (cases_eq k j) [
    | inl e ↦ elim (cases_eq p q) [
      | inl f ↦ inl (e, f)
      | inr o ↦ inr (let h = times_other k p j q a ms (λ both. o both.1) in omega arith)
    ]
    | inr o ↦ inr (let h = times_other k p j q a ms (λ both. o both.0) in omega arith)
  ]

  takes_more : (g : Shape) (take : ℕ → ℕ) (piece : ℕ → ℕ → ℕ) (takes : List (Mark A)) (recv : RecvSide) (q : ℕ) (a : A) → 1 ≤ recv.round → q < g.recv_parts
      → round_in (take (q / 32)) ≡ recv.round → part_bit take q ≡ 0 → AreFull g piece recv q
      → Takes g take piece takes → Takes g (with_part take q) piece (mark recv.round q a ∷ takes)
  takes_more g take piece takes recv q a some inside now lacks full h = let k : ℕ = recv.round in
      let next_here : next_round (with_part take q) q ≡ k + 1 = let e = with_round take q (q / 32) in let f = with_here take q in omega arith in
      record {
        own = λ j p more. elim (times_cases j p k q a takes more) [
          | inl new ↦
              let at : next_round (with_part take q) p ≡ k + 1 = ap (next_round (with_part take q)) new.1 ∙ next_here in
              let e = new.0 in let f = new.1 in (omega arith, omega arith, omega arith)
          | inr old ↦
              let o = h.own j p old in let low = o.2 in
              let e = with_round take q (p / 32) in let f = with_more take q p in (o.0, o.1, omega arith)
        ];
        all = λ j p low small early. elim (cases_eq p q) [
          | inl f ↦
              let at : next_round (with_part take q) p ≡ k + 1 = ap (next_round (with_part take q)) f ∙ next_here in
              let was : next_round take p ≡ k = ap (next_round take) f ∙ omega arith in
              elim (cases_eq j k) [
                | inl e ↦
                    let none : times j p takes ≡ 0 = elim (cases_lt 0 (times j p takes)) [ inl have ↦ let o = (h.own j p have).2 in absurd (omega arith) | inr not_have ↦ omega arith ] in
                    let one : times j p (mark j p a ∷ takes) ≡ 1 = times_new j p a takes ∙ omega arith in
                    subst (λ (z : ℕ). times j p (mark z q a ∷ takes) ≡ 1) e (subst (λ (z : ℕ). times j p (mark j z a ∷ takes) ≡ 1) f one)
                | inr other ↦ times_other j p k q a takes (λ both. other both.0) ∙ h.all j p low small (omega arith)
              ]
          | inr other ↦
              let e = with_round take q (p / 32) in let f = with_else take q p other in
              times_other j p k q a takes (λ both. other both.1) ∙ h.all j p low small (omega arith)
        ];
        out = λ j p i b more small over touch. elim (times_cases j p k q a takes more) [
          | inl new ↦
              let f = full i small (subst (TouchesRecv g i) new.1 over) in let round = f.round in let has = f.all b touch in
              subst (λ (z : ℕ). z < round_in (piece (z % g.depth) i) + laid g (piece (z % g.depth) i) i b) (sym new.0) (omega arith)
          | inr old ↦ h.out j p i b old small over touch
        ];
      }

receiving_takes : (g : Shape) (take ret : ℕ → ℕ) (recv : RecvSide) (q : ℕ) → IsRecvActive g recv → Receiving g take ret recv → Receiving g (with_part take q) ret recv
receiving_takes g take ret recv q active r = let all : recv.takes ≡ take_words g = active.0 in let open' : recv.released ≡ 0 = active.1 in record {
  return_now = r.return_now;
  return_past = r.return_past;
  take_now = λ t low. with_round take q t ∙ r.take_now t low;
  take_past = λ t low inside. absurd (omega arith);
  all_returned = r.all_returned;
  all_taken = λ p inside low. absurd (let h = take_word g p inside in omega arith);
  none_returned = r.none_returned;
  none_taken = λ p inside low. absurd (omega arith);
  within = λ p inside e. let a = r.within p inside e in let b = with_more take q p in omega arith;
  done = λ p inside e. absurd (omega arith);
}

arrived_takes : (g : Shape) (take : ℕ → ℕ) (piece : ℕ → ℕ → ℕ) (recv : RecvSide) (q : ℕ) → AreFull g piece recv q → Arrived g take piece recv → Arrived g (with_part take q) piece recv
arrived_takes g take piece recv q full h p i inside small active taken over = elim (cases_eq p q) [
  | inl e ↦ full i small (subst (TouchesRecv g i) e over)
  | inr other ↦ h p i inside small active (sym (with_else take q p other) ∙ taken) over
]

slots_takes : (g : Shape) (claim take ret : ℕ → ℕ) (piece : ℕ → ℕ → ℕ) (send : SendSide) (recv : RecvSide) (slot : ℕ → ℕ → Slot) (who : ℕ → ℕ → ℕ) (q : ℕ)
    → IsRecvActive g recv → part_bit ret q ≡ 0 → AreFull g piece recv q
    → Slots g claim take ret piece send recv slot who → Slots g claim (with_part take q) ret piece send recv (put_slots slot (recv.round % g.depth) (λ c. recv_of g c == q) (Out 1)) who
slots_takes g claim take ret piece send recv slot who q active kept full h = let place : ℕ = recv.round % g.depth in record {
  lent = λ c inside l. recv_slots g slot place q (Out 1) (send.round % g.depth) c (λ z. z ≡ Out (who send.round (send_of g c)))
      (λ e f. absurd (not_lent g claim piece send recv q c full inside e f l)) (λ _. h.lent c inside l);
  held = λ c inside x. recv_slots g slot place q (Out 1) place c (λ z. z ≡ Out 1) (λ _ _. refl)
      (λ other. h.held c inside (x.0, sym (with_else take q (recv_of g c) (λ f. other (refl, f))) ∙ x.1, x.2));
  home = λ d c low inside l not_held. recv_slots g slot place q (Out 1) d c (λ z. (k : ℕ) × (z ≡ Home k))
      (λ e f. absurd (not_held (e, (active, ap (part_bit (with_part take q)) f ∙ with_here take q, ap (part_bit ret) f ∙ kept))))
      (λ _. h.home d c low inside l (λ x. not_held (
        x.0,
        (
          x.1.0,
          (let one = x.1.1 in let more = with_more take q (recv_of g c) in
              let small = bit_lt (with_part take q (recv_of g c / 32)) (recv_of g c % 32) in omega arith),
          x.1.2,
        ),
      )));
  tied = λ d c k low inside at has. h.tied d c k low inside
      (recv_slots g slot place q (Out 1) d c (λ z. z ≡ Home k → slot d c ≡ Home k) (λ _ _ e. absurd (cc)) (λ _ e. e) at) has;
}

module _ {A : Type 0} where
  -- before a take the partition isn't given back in the round, and its pieces are full
  record Takeable (g : Shape) (s : Core A) (q : ℕ) : Type 0 where
    some : 1 ≤ s.recv.round
    now : round_in (s.word (Take (q / 32))) ≡ s.recv.round
    kept : part_bit (λ t. s.word (Return t)) q ≡ 0
    back : round_in (s.word (Return (q / 32))) ≡ s.recv.round
    full : AreFull g (λ d i. s.word (Piece d i)) s.recv q

  takeable : (g : Shape) → IsShape g → (s : Core A) (q : ℕ) → Sound g s → q < g.recv_parts → IsRecvActive g s.recv → part_bit (λ t. s.word (Take t)) q ≡ 0 → AreSeen g (s.seen 1) s.recv.round q
      → Takeable g s q
  takeable g v s q r inside active lacks seen =
      let all : s.recv.takes ≡ take_words g = active.0 in let word = take_word g q inside in
      let returns = r.progress.takes_last (omega arith) in
      record {
        some = (in_round g (round_in (s.word Release)) s.send s.recv r.progress active.1).some;
        now = r.receiving.take_now (q / 32) (omega arith);
        kept = let h = r.receiving.within q inside all in omega arith;
        back = r.receiving.return_now (q / 32) (omega arith);
        full = seen_full g v s r active.1 q seen;
      }

  -- each buffer of the partition that is taken has the receiver's round
  pub take_kept : (g : Shape) → IsShape g → (s : Core A) (q : ℕ) → Sound g s → q < g.recv_parts → IsRecvActive g s.recv → part_bit (λ t. s.word (Take t)) q ≡ 0 → AreSeen g (s.seen 1) s.recv.round q
      → (c : ℕ) → c < cells g → recv_of g c ≡ q
      → HasRound g (λ t. s.word (Return t)) (s.word (Piece (s.recv.round % g.depth) (piece_of g c))) c × (round_in (s.word (Piece (s.recv.round % g.depth) (piece_of g c))) ≡ s.recv.round)
  take_kept g v s q r inside active lacks seen c small e =
      let b = takeable g v s q r inside active lacks seen in
      let full = cell_full g (λ d i. s.word (Piece d i)) s.recv q c b.full small e in
      let next_is : next_round (λ t. s.word (Return t)) (recv_of g c) ≡ s.recv.round = ap (next_round (λ t. s.word (Return t))) e ∙ (let f = b.kept in let k = b.back in omega arith) in
      let round = full.round in
      (record { laid = full.all (send_of g c) (cell_touches g c small); kept = omega arith }, full.round)

  -- the slots of the partition that is taken are home with the receiver's round
  pub take_home : (g : Shape) → IsShape g → (s : Core A) (q : ℕ) → Sound g s → q < g.recv_parts → IsRecvActive g s.recv → part_bit (λ t. s.word (Take t)) q ≡ 0 → AreSeen g (s.seen 1) s.recv.round q
      → (c : ℕ) → c < cells g → recv_of g c ≡ q → s.slot (s.recv.round % g.depth) c ≡ Home s.recv.round
  take_home g v s q r inside active lacks seen c small e =
      let b = takeable g v s q r inside active lacks seen in let d : ℕ = s.recv.round % g.depth in
      let kept = take_kept g v s q r inside active lacks seen c small e in
      let lacks' : part_bit (λ t. s.word (Take t)) (recv_of g c) ≡ 0 = ap (part_bit (λ t. s.word (Take t))) e ∙ lacks in
      let h = r.slots.home d c (place_lt g.depth s.recv.round v.depth.0 v.depth.1) small
      (λ x. not_lent g (λ j. s.word (Claim j)) (λ d i. s.word (Piece d i)) s.send s.recv q c b.full small (sym x.0) e x.1)
      (λ x. let one = x.1.1 in omega arith) in
      let same = r.slots.tied d c h.0 (place_lt g.depth s.recv.round v.depth.0 v.depth.1) small h.1 kept.0 in
      h.1 ∙ ap (λ (z : ℕ). Home z) (same ∙ kept.1)

  -- the move keeps soundness
  pub take_part_keeps : (g : Shape) → IsShape g → (s : Core A) (q : ℕ) (a : A) → Sound g s → IsAllowed g s (TakePart q a) → Sound g (after g s (TakePart q a))
  take_part_keeps g v s q a r allowed =
      let inside : q < g.recv_parts = allowed.0 in let active = allowed.1 in let lacks = allowed.2 in
      let b = takeable g v s q r inside active lacks allowed.3 in
      let t : ℕ = q / 32 in let w : ℕ = bit_or (s.word (Take t)) (2 ^ (q % 32)) in
      record {
        who = r.who;
        progress = r.progress;
        gates = r.gates;
        pieces = r.pieces;
        receiving = receiving_takes g (λ j. s.word (Take j)) (λ j. s.word (Return j)) s.recv q active r.receiving;
        arrived = arrived_takes g (λ j. s.word (Take j)) (λ d i. s.word (Piece d i)) s.recv q b.full r.arrived;
        claims = r.claims;
        slots = slots_takes g (λ c. s.word (Claim c)) (λ j. s.word (Take j)) (λ j. s.word (Return j)) (λ d i. s.word (Piece d i)) s.send s.recv s.slot r.who q active b.kept b.full r.slots;
        marks = r.marks;
        takes = takes_more g (λ j. s.word (Take j)) (λ d i. s.word (Piece d i)) s.takes s.recv q a b.some inside b.now lacks b.full r.takes;
        unused = unused_or g s.word (Take t) (q % 32) r.unused (λ _. (omega arith, omega arith));
        seen = sees g s.word s.life s.seen 1 (Take t) w r.lives.send r.seen (λ _. later_or (s.word (Take t)) (q % 32) (omega arith));
        opened = opened_else s.send s.seen 1 _ (λ e. omega arith) r.opened;
        news = news_else g s.life s.seen s.looks s.pending s.marks 1 _ _ (live_not_blank (s.life 1) r.lives.recv) r.news;
        owns = owns_here g (λ j. put_word (Take t) w s.word (Take j)) (λ j. s.word (Return j)) s.seen (put_word (Take t) w (s.seen 1)) (owns_take g (s.seen 1) s.word t w r.owns);
        lives = r.lives;
      }
