-- What a claim and a lay add to the history: the bound of one partition, or of one partition in a piece, goes up by
-- one, and where a lay fills the word the piece's own too.
use Rattle.std.proofs.Common.{◌≡◌, ◌≢◌, inl, inr, ⊎_elim, ℕ, ◌+◌, ◌-◌, ◌/◌, ◌%◌, ◌^◌, ◌<◌, ◌≤◌, min, Bool, true, false, true≢false, ◌==◌, List, [], ◌∷◌, ◌++◌, Option, Some, refl, sym, ap, ◌∙◌, subst, arith, bit_or}
use Rattle.std.specs.Prelude.{if◌then◌else◌}
use Rattle.std.proofs.lemmas.Bool.{cases_eq, cases_lt, eqb-true}
use Rattle.gate_word.specs.Words.{round_in}
use Rattle.part_geometry.specs.Shape.{Shape, IsShape}
use Rattle.part_geometry.specs.Pieces.{pieces, first_part, Touches}
use Rattle.pair_core.specs.Words.{bit}
use Rattle.pair_core.specs.Names.{Claim, Release, Take, Piece, put, put_pair}
use Rattle.pair_core.specs.Core.{Core}
use Rattle.pair_core.specs.Reading.{next_round, laid, is_full}
use Rattle.pair_core.specs.Steps.{claims, loads, lays_piece}
use Rattle.pair_core.specs.Moves.{IsAllowed, TryClaim, LayPiece, after, lays, MayLay}
use Rattle.pair_core.specs.Sound.{Sound, IsPending, IsClaimed}
use Rattle.pair_core.specs.History as entry
use Rattle.pair_core.specs.History.{Entry, Has, Follows, IsInOrder, entries, where_so, laid_entries}
use Rattle.pair_core.specs.declared.view.Pending.{Pending}
use Rattle.pair_core.specs.declared.view.SendSide.{SendSide}
use Rattle.pair_core.specs.declared.view.RecvSide.{RecvSide}
use Rattle.pair_core.proofs.Words.{bit_lt, round_or, bit_or_here, bit_or_else}
use Rattle.pair_core.proofs.Puts.{put_at, put_pair_at, put_pair_here}
use Rattle.pair_core.proofs.Cut.{some_claims, claim_word, bits_apart, touch_part}
use Rattle.pair_core.proofs.Full.{passes_full, lacks_full}
use Rattle.pair_core.proofs.Told.{Upto, Within, Told, Tells, if_stored, lay_bound, out_bound, listen_bound, one_if, upto_skip, upto_add, upto_same, has_below, not_above, stored_is, one_true, one_false, one_most}
use Rattle.pair_core.proofs.HistorySend.{Adds}

-- one partition more is claimed in the sender's round
told_mark : (g : Shape) (claim claim' take : ℕ → ℕ) (piece : ℕ → ℕ → ℕ) (released : ℕ) (send : SendSide) (recv : RecvSide) (h : List Entry) (p : ℕ) → p < g.send_parts
    → 1 ≤ send.round → next_round claim p ≡ send.round → next_round claim' p ≡ send.round + 1 → ((q : ℕ) → q < g.send_parts → q ≢ p → next_round claim' q ≡ next_round claim q)
    → Told g claim take piece released send recv h → Told g claim' take piece released send recv (entry.Mark send.round p ∷ h)
told_mark g claim claim' take piece released send recv h p inside some old new same t =
    let e : entry.Entry = entry.Mark send.round p in record {
      opens = upto_skip h e entry.Open _ (λ k x. cc) t.opens;
      shuts = upto_skip h e entry.Shut _ (λ k x. cc) t.shuts;
      listens = upto_skip h e entry.Listen _ (λ k x. cc) t.listens;
      releases = upto_skip h e entry.Release _ (λ k x. cc) t.releases;
      marks = λ q l. elim (cases_eq q p) [
        | inl is ↦ subst (λ (z : ℕ). Upto (e ∷ h) (λ k. entry.Mark k z) (next_round claim' z)) (sym is)
            (upto_same (e ∷ h) (λ k. entry.Mark k p) (send.round + 1) _ (sym new)
            (upto_add h (λ k. entry.Mark k p) send.round some (λ k x. cc) (upto_same h (λ k. entry.Mark k p) _ send.round old (t.marks p inside))))
        | inr other ↦ upto_same (e ∷ h) (λ k. entry.Mark k q) _ _ (sym (same q l other))
            (upto_skip h e (λ k. entry.Mark k q) _ (λ k x. other (let z : p ≡ q = cc in sym z)) (t.marks q l))
      ];
      lays = λ i q l touch. upto_skip h e (λ k. entry.Lay k q i) _ (λ k x. cc) (t.lays i q l touch);
      outs = λ i l. upto_skip h e (λ k. entry.Out k i) _ (λ k x. cc) (t.outs i l);
      takes = λ q l. upto_skip h e (λ k. entry.Take k q) _ (λ k x. cc) (t.takes q l);
      within = record {
        marks = λ k q x. ⊎_elim (λ y. let z : p ≡ q = cc in omega arith) (t.within.marks k q) x;
        lays = λ k q i x. ⊎_elim (λ y. absurd (cc)) (t.within.lays k q i) x;
        outs = λ k i x. ⊎_elim (λ y. absurd (cc)) (t.within.outs k i) x;
        takes = λ k q x. ⊎_elim (λ y. absurd (cc)) (t.within.takes k q) x;
      };
    }

-- all of a history but the pieces that went out
record ButOuts (g : Shape) (claim take : ℕ → ℕ) (piece : ℕ → ℕ → ℕ) (released : ℕ) (send : SendSide) (recv : RecvSide) (h : List Entry) : Type 0 where
  -- the rounds that were opened: those before the sender's, and it once one of its claim words is open
  pub opens : Upto h entry.Open (send.round + min 1 send.opened)
  -- the rounds that were shut: those before the sender's, and it once one of its claim words is shut
  pub shuts : Upto h entry.Shut (send.round + min 1 send.shut)
  -- the rounds that were listened in: those before the receiver's, and it once all take words are stored
  pub listens : Upto h entry.Listen (listen_bound g recv)
  -- the rounds that were released: up to the one in the release word
  pub releases : Upto h entry.Release (released + 1)
  -- each partition was marked in the rounds before its next one
  pub marks : (p : ℕ) → p < g.send_parts → Upto h (λ k. entry.Mark k p) (next_round claim p)
  -- each partition was laid into each piece that it touches, in the rounds below the bound
  pub lays : (i p : ℕ) → i < pieces g → Touches g i p → Upto h (λ k. entry.Lay k p i) (lay_bound g piece send i p)
  -- each receive partition was taken in the rounds before its next one
  pub takes : (q : ℕ) → q < g.recv_parts → Upto h (λ k. entry.Take k q) (next_round take q)
  -- the numbers in the entries are those of the pair
  pub within : Within g h

with_outs : (g : Shape) (claim take : ℕ → ℕ) (piece : ℕ → ℕ → ℕ) (released : ℕ) (send : SendSide) (recv : RecvSide) (h : List Entry)
    → ButOuts g claim take piece released send recv h → ((i : ℕ) → i < pieces g → Upto h (λ k. entry.Out k i) (out_bound g piece send i)) → Told g claim take piece released send recv h
with_outs g claim take piece released send recv h t outs = record {
  opens = t.opens;
  shuts = t.shuts;
  listens = t.listens;
  releases = t.releases;
  marks = t.marks;
  lays = t.lays;
  outs = outs;
  takes = t.takes;
  within = t.within;
}

-- a partition is laid into a piece of the sender's round: its bit is set in the piece's word
but_lay : (g : Shape) (claim take : ℕ → ℕ) (piece : ℕ → ℕ → ℕ) (released : ℕ) (send : SendSide) (recv : RecvSide) (h : List Entry) (i p w : ℕ)
    → i < pieces g → Touches g i p → i < send.pieces → 1 ≤ send.round
    → laid g (piece (send.round % g.depth) i) i p ≡ 0 → laid g w i p ≡ 1
    → ((q : ℕ) → Touches g i q → q ≢ p → laid g w i q ≡ laid g (piece (send.round % g.depth) i) i q)
    → Told g claim take piece released send recv h → ButOuts g claim take (put_pair piece (send.round % g.depth) i w) released send recv (entry.Lay send.round p i ∷ h)
but_lay g claim take piece released send recv h i p w inside touch stored some lacks gains same t =
    let place : ℕ = send.round % g.depth in let e : Entry = entry.Lay send.round p i in
    let piece' : ℕ → ℕ → ℕ = put_pair piece place i w in
    let old : lay_bound g piece send i p ≡ send.round = stored_is i send.pieces send.round _ stored ∙ (omega arith) in
    let new : lay_bound g piece' send i p ≡ send.round + 1 = stored_is i send.pieces send.round _ stored
    ∙ (let z : laid g (piece' place i) i p ≡ 1 = subst (λ (z : ℕ). laid g z i p ≡ 1) (sym (put_pair_here piece place i w)) gains in omega arith) in
    let kept : (j q : ℕ) → Touches g j q → ¬ ((j ≡ i) × (q ≡ p)) → laid g (piece' place j) j q ≡ laid g (piece place j) j q = λ j q tq other.
    put_pair_at piece place i w (λ z. laid g z j q ≡ laid g (piece place j) j q) place j
    (λ _ is. subst (λ (z : ℕ). laid g w z q ≡ laid g (piece place z) z q) (sym is)
    (same q (subst (λ (z : ℕ). Touches g z q) is tq) (λ f. other (is, f))))
    (λ _. refl) in
    let bound : (j q : ℕ) → Touches g j q → ¬ ((j ≡ i) × (q ≡ p)) → lay_bound g piece send j q ≡ lay_bound g piece' send j q = λ j q tq other.
    ap (λ (z : ℕ). if_stored j send.pieces send.round z) (sym (kept j q tq other)) in
    record {
      opens = upto_skip h e entry.Open _ (λ k x. cc) t.opens;
      shuts = upto_skip h e entry.Shut _ (λ k x. cc) t.shuts;
      listens = upto_skip h e entry.Listen _ (λ k x. cc) t.listens;
      releases = upto_skip h e entry.Release _ (λ k x. cc) t.releases;
      marks = λ q l. upto_skip h e (λ k. entry.Mark k q) _ (λ k x. cc) (t.marks q l);
      lays = λ j q l tq. elim (cases_eq j i) [
        | inl is ↦ elim (cases_eq q p) [
          | inl it ↦ subst (λ (z : ℕ × ℕ). Upto (e ∷ h) (λ k. entry.Lay k z.1 z.0) (lay_bound g piece' send z.0 z.1)) (λ x. (sym is x, sym it x))
              (upto_same (e ∷ h) (λ k. entry.Lay k p i) (send.round + 1) _ (sym new)
              (upto_add h (λ k. entry.Lay k p i) send.round some (λ k x. cc) (upto_same h (λ k. entry.Lay k p i) _ send.round old (t.lays i p inside touch))))
          | inr not_it ↦ upto_same (e ∷ h) (λ k. entry.Lay k q j) _ _ (bound j q tq (λ b. not_it b.1))
              (upto_skip h e (λ k. entry.Lay k q j) _ (λ k x. not_it (let z : p ≡ q = cc in sym z)) (t.lays j q l tq))
        ]
        | inr not_is ↦ upto_same (e ∷ h) (λ k. entry.Lay k q j) _ _ (bound j q tq (λ b. not_is b.0))
            (upto_skip h e (λ k. entry.Lay k q j) _ (λ k x. not_is (let z : i ≡ j = cc in sym z)) (t.lays j q l tq))
      ];
      takes = λ q l. upto_skip h e (λ k. entry.Take k q) _ (λ k x. cc) (t.takes q l);
      within = record {
        marks = λ k q x. ⊎_elim (λ y. absurd (cc)) (t.within.marks k q) x;
        lays = λ k q j x. ⊎_elim
            (λ y. let a : i ≡ j = cc in let b : p ≡ q = cc in (subst (λ (z : ℕ). z < pieces g) a inside, subst (λ (z : ℕ × ℕ). Touches g z.0 z.1) (λ x. (a x, b x)) touch))
            (t.within.lays k q j) x;
        outs = λ k j x. ⊎_elim (λ y. absurd (cc)) (t.within.outs k j) x;
        takes = λ k q x. ⊎_elim (λ y. absurd (cc)) (t.within.takes k q) x;
      };
    }

but_out : (g : Shape) (claim take : ℕ → ℕ) (piece : ℕ → ℕ → ℕ) (released : ℕ) (send : SendSide) (recv : RecvSide) (h : List Entry) (k i : ℕ) → i < pieces g
    → ButOuts g claim take piece released send recv h → ButOuts g claim take piece released send recv (entry.Out k i ∷ h)
but_out g claim take piece released send recv h k i inside t = let e : Entry = entry.Out k i in record {
  opens = upto_skip h e entry.Open _ (λ k x. cc) t.opens;
  shuts = upto_skip h e entry.Shut _ (λ k x. cc) t.shuts;
  listens = upto_skip h e entry.Listen _ (λ k x. cc) t.listens;
  releases = upto_skip h e entry.Release _ (λ k x. cc) t.releases;
  marks = λ q l. upto_skip h e (λ k. entry.Mark k q) _ (λ k x. cc) (t.marks q l);
  lays = λ j q l tq. upto_skip h e (λ k. entry.Lay k q j) _ (λ k x. cc) (t.lays j q l tq);
  takes = λ q l. upto_skip h e (λ k. entry.Take k q) _ (λ k x. cc) (t.takes q l);
  within = record {
    marks = λ k q x. ⊎_elim (λ y. absurd (cc)) (t.within.marks k q) x;
    lays = λ k q j x. ⊎_elim (λ y. absurd (cc)) (t.within.lays k q j) x;
    outs = λ k j x. ⊎_elim (λ y. let a : i ≡ j = cc in omega arith) (t.within.outs k j) x;
    takes = λ k q x. ⊎_elim (λ y. absurd (cc)) (t.within.takes k q) x;
  };
}

-- where the bit fills the word the piece goes out
told_lay : (g : Shape) (claim take : ℕ → ℕ) (piece : ℕ → ℕ → ℕ) (released : ℕ) (send : SendSide) (recv : RecvSide) (h : List Entry) (i p w : ℕ)
    → i < pieces g → Touches g i p → i < send.pieces → 1 ≤ send.round
    → laid g (piece (send.round % g.depth) i) i p ≡ 0 → laid g w i p ≡ 1
    → ((q : ℕ) → Touches g i q → q ≢ p → laid g w i q ≡ laid g (piece (send.round % g.depth) i) i q)
    → is_full g (piece (send.round % g.depth) i) send.round i ≡ false
    → Told g claim take piece released send recv h
    → (full : Bool) → is_full g w send.round i ≡ full
    → Told g claim take (put_pair piece (send.round % g.depth) i w) released send recv (where_so full (entry.Out send.round i) ++ entry.Lay send.round p i ∷ h)
told_lay g claim take piece released send recv h i p w inside touch stored some lacks gains same empty t full is =
    let place : ℕ = send.round % g.depth in let e : Entry = entry.Lay send.round p i in let piece' : ℕ → ℕ → ℕ = put_pair piece place i w in
    let but = but_lay g claim take piece released send recv h i p w inside touch stored some lacks gains same t in
    let old : out_bound g piece send i ≡ send.round = stored_is i send.pieces send.round _ stored ∙ (let z = one_false (is_full g (piece place i) send.round i) empty in omega arith) in
    let now : is_full g (piece' place i) send.round i ≡ full = ap (λ (z : ℕ). is_full g z send.round i) (put_pair_here piece place i w) ∙ is in
    let bound : (j : ℕ) → j ≢ i → out_bound g piece send j ≡ out_bound g piece' send j = λ j other.
    put_pair_at piece place i w (λ z. out_bound g piece send j ≡ if_stored j send.pieces send.round (one_if (is_full g z send.round j))) place j (λ _ f. absurd (other f)) (λ _. refl) in
    go full now but old bound
  where
    go : (full : Bool) → is_full g (put_pair piece (send.round % g.depth) i w (send.round % g.depth) i) send.round i ≡ full
        → ButOuts g claim take (put_pair piece (send.round % g.depth) i w) released send recv (entry.Lay send.round p i ∷ h)
        → out_bound g piece send i ≡ send.round
        → ((j : ℕ) → j ≢ i → out_bound g piece send j ≡ out_bound g (put_pair piece (send.round % g.depth) i w) send j)
        → Told g claim take (put_pair piece (send.round % g.depth) i w) released send recv (where_so full (entry.Out send.round i) ++ entry.Lay send.round p i ∷ h)
    go true now but old bound =
        let piece' : ℕ → ℕ → ℕ = put_pair piece (send.round % g.depth) i w in let e : Entry = entry.Lay send.round p i in let o : Entry = entry.Out send.round i in
        let new : out_bound g piece' send i ≡ send.round + 1 = stored_is i send.pieces send.round _ stored ∙ (let z = one_true (is_full g (piece' (send.round % g.depth) i) send.round i) now in omega arith) in
        with_outs g claim take piece' released send recv (o ∷ e ∷ h) (but_out g claim take piece' released send recv (e ∷ h) send.round i inside but)
        (λ j l. elim (cases_eq j i) [
          | inl it ↦ subst (λ (z : ℕ). Upto (o ∷ e ∷ h) (λ k. entry.Out k z) (out_bound g piece' send z)) (sym it)
              (upto_same (o ∷ e ∷ h) (λ k. entry.Out k i) (send.round + 1) _ (sym new)
              (upto_add (e ∷ h) (λ k. entry.Out k i) send.round some (λ k x. cc)
              (upto_skip h e (λ k. entry.Out k i) send.round (λ k x. cc) (upto_same h (λ k. entry.Out k i) _ send.round old (t.outs i inside)))))
          | inr other ↦ upto_skip (e ∷ h) o (λ k. entry.Out k j) _ (λ k x. other (let z : i ≡ j = cc in sym z))
              (upto_skip h e (λ k. entry.Out k j) _ (λ k x. cc) (upto_same h (λ k. entry.Out k j) _ _ (bound j other) (t.outs j l)))
        ])
    go false now but old bound =
        let piece' : ℕ → ℕ → ℕ = put_pair piece (send.round % g.depth) i w in let e : Entry = entry.Lay send.round p i in
        let new : out_bound g piece' send i ≡ send.round = stored_is i send.pieces send.round _ stored ∙ (let z = one_false (is_full g (piece' (send.round % g.depth) i) send.round i) now in omega arith) in
        with_outs g claim take piece' released send recv (e ∷ h) but
        (λ j l. elim (cases_eq j i) [
          | inl it ↦ subst (λ (z : ℕ). Upto (e ∷ h) (λ k. entry.Out k z) (out_bound g piece' send z)) (sym it)
              (upto_skip h e (λ k. entry.Out k i) _ (λ k x. cc) (upto_same h (λ k. entry.Out k i) _ _ (old ∙ sym new) (t.outs i inside)))
          | inr other ↦ upto_skip h e (λ k. entry.Out k j) _ (λ k x. cc) (upto_same h (λ k. entry.Out k j) _ _ (bound j other) (t.outs j l))
        ])

module _ {A : Type 0} where
  -- a try that wins adds the mark, and one that loses nothing
  pub tries_claim_adds : (g : Shape) → IsShape g → (s : Core A) (n p : ℕ) (a : A) (h : List Entry) → Sound g s → IsAllowed g s (TryClaim n p a) → Tells g s h
      → Adds g (after g s (TryClaim n p a)) h (entries g s (TryClaim n p a))
  tries_claim_adds g v s n p a h r may t = go (s.word (Claim (p / 32)) == s.seen n (Claim (p / 32))) refl
    where
      go : (b : Bool) → (s.word (Claim (p / 32)) == s.seen n (Claim (p / 32))) ≡ b
          → Adds g (if b then claims g n p a s else loads n (Claim (p / 32)) s) h (where_so b (entry.Mark s.send.round p))
      go false e = record { tells = t; order = λ o. o }
      go true e =
          let claim : ℕ → ℕ = λ c. s.word (Claim c) in let take : ℕ → ℕ = λ x. s.word (Take x) in let piece : ℕ → ℕ → ℕ = λ d j. s.word (Piece d j) in let released : ℕ = round_in (s.word Release) in
          let c : ℕ = p / 32 in let w : ℕ = bit_or (claim c) (2 ^ (p % 32)) in
          let same_word : claim c ≡ s.seen n (Claim c) = eqb-true (claim c) (s.seen n (Claim c)) e in
          let inside = may.2 in let word_there = claim_word g p inside in
          let open_bit : bit (claim c) 32 ≡ 0 = ap (λ (z : ℕ). bit z 32) same_word ∙ may.4.0 in
          let lacks : bit (claim c) (p % 32) ≡ 0 = ap (λ (z : ℕ). bit z (p % 32)) same_word ∙ may.4.1 in
          let unshut : s.send.shut ≡ 0 = elim (cases_lt 0 s.send.shut) [ inl l ↦ let x = r.gates.all_ended p inside l in absurd (omega arith) | inr l ↦ omega arith ] in
          let opened : c < s.send.opened = elim (cases_lt c s.send.opened) [ inl l ↦ l | inr l ↦ let x = (r.gates.is_past c (omega arith) word_there).1 in absurd (omega arith) ] in
          let round = (r.gates.is_open c (omega arith) opened).0 in
          let words = some_claims g v in let most = r.progress.shut in
          let some : 1 ≤ s.send.round = elim (cases_lt 0 s.send.round) [ inl l ↦ l | inr l ↦ let x = r.progress.begun (omega arith) in absurd (omega arith) ] in
          let kept : round_in w ≡ round_in (claim c) = round_or (claim c) (p % 32) (omega arith) in
          let gains : bit w (p % 32) ≡ 1 = bit_or_here (claim c) (p % 32) in
          let next : next_round (put claim c w) p ≡ s.send.round + 1 = put_at claim c w (λ z. round_in z + bit z (p % 32) ≡ s.send.round + 1) c (λ _. omega arith) (λ o. absurd (o refl)) in
          record {
            tells = told_mark g claim (put claim c w) take piece released s.send s.recv h p inside some (omega arith) next
                (λ q l other. put_at claim c w (λ z. round_in z + bit z (q % 32) ≡ next_round claim q) (q / 32)
                (λ f. let b = bit_or_else (claim c) (p % 32) (q % 32) (λ x. other (omega arith)) in
                let x : round_in (claim c) + bit (claim c) (q % 32) ≡ next_round claim q = ap (λ z. round_in (claim z) + bit (claim z) (q % 32)) (sym f) in omega arith)
                (λ _. refl)) t;
            order = λ o. (
              (
                inside,
                not_above h (λ k. entry.Mark k p) _ s.send.round (t.marks p inside) (omega arith),
                has_below h entry.Open _ s.send.round t.opens some (omega arith),
                not_above h entry.Shut _ s.send.round t.shuts (omega arith),
              ),
              o,
            );
          }

  -- a lay of partition q in round r, where that is the sender's
  abbrev AddsLay : Shape → Core A → ℕ → List Entry → ℕ → ℕ → Bool → Type 0
  AddsLay g s i h r q full =
      Told g (λ c. s.word (Claim c)) (λ x. s.word (Take x)) (put_pair (λ d j. s.word (Piece d j)) (r % g.depth) i (bit_or (s.word (Piece (r % g.depth) i)) (2 ^ (q - first_part g i))))
      (round_in (s.word Release)) s.send s.recv ((where_so full (entry.Out r i) ++ entry.Lay r q i ∷ []) ++ h)
      × (IsInOrder g h → IsInOrder g ((where_so full (entry.Out r i) ++ entry.Lay r q i ∷ []) ++ h))

  -- what the claim that pends says of the words
  adds_lay : (g : Shape) → IsShape g → (s : Core A) (p i : ℕ) (h : List Entry) → Sound g s → Tells g s h → i < pieces g → Touches g i p
      → IsClaimed (λ c. s.word (Claim c)) s.send p → laid g (s.word (Piece (s.send.round % g.depth) i)) i p ≡ 0
      → (full : Bool) → is_full g (bit_or (s.word (Piece (s.send.round % g.depth) i)) (2 ^ (p - first_part g i))) s.send.round i ≡ full → AddsLay g s i h s.send.round p full
  adds_lay g v s p i h r t inside touch claimed lacks full is =
      let claim : ℕ → ℕ = λ c. s.word (Claim c) in let take : ℕ → ℕ = λ x. s.word (Take x) in let piece : ℕ → ℕ → ℕ = λ d j. s.word (Piece d j) in let released : ℕ = round_in (s.word Release) in
      let S : ℕ = s.send.round in let place : ℕ = S % g.depth in let old : ℕ = piece place i in let w : ℕ = bit_or old (2 ^ (p - first_part g i)) in
      let part = touch_part g v i p inside touch in
      let opened = claimed.1 in let unshut = claimed.0 in
      let whole = r.progress.opens_last (omega arith) in
      let words = some_claims g v in
      let some : 1 ≤ S = elim (cases_lt 0 S) [ inl l ↦ l | inr l ↦ let x = r.progress.begun (omega arith) in absurd (omega arith) ] in
      let gains : laid g w i p ≡ 1 = bit_or_here old (p - first_part g i) in
      let same : (q : ℕ) → Touches g i q → q ≢ p → laid g w i q ≡ laid g old i q = λ q tq other. bit_or_else old (p - first_part g i) (q - first_part g i) (bits_apart g v i q p inside tq touch other) in
      let empty = lacks_full g v old S i p inside touch (λ e. omega arith) in
      let round = (r.gates.is_open (p / 32) (omega arith) opened).0 in
      let told = told_lay g claim take piece released s.send s.recv h i p w inside touch (omega arith) some lacks gains same empty t full is in
      let follows_lay : Follows g h (entry.Lay S p i) = (
        inside,
        touch,
        not_above h (λ k. entry.Lay k p i) _ S (t.lays i p inside touch) (let b = stored_is i s.send.pieces S (laid g old i p) (omega arith) in omega arith),
        has_below h (λ k. entry.Mark k p) _ S (t.marks p part) some (let c = claimed.2 in omega arith),
      ) in
      let out : is_full g w S i ≡ true → Follows g (entry.Lay S p i ∷ h) (entry.Out S i) = λ f. (
        inside,
        (λ has. ⊎_elim (λ y. absurd (cc))
            (not_above h (λ k. entry.Out k i) _ S (t.outs i inside) (let b = stored_is i s.send.pieces S (one_if (is_full g old S i)) (omega arith) in let z = one_false (is_full g old S i) empty in omega arith)) has),
        (p, h, refl),
        (λ q tq. elim (cases_eq q p) [
          | inl e ↦ inl (ap (λ (z : ℕ). entry.Lay S z i) (sym e))
          | inr other ↦ inr (has_below h (λ k. entry.Lay k q i) _ S (t.lays i q inside tq) some
              (let a = (passes_full g v w S i inside f).all q tq in let b = same q tq other in let c = stored_is i s.send.pieces S (laid g old i q) (omega arith) in omega arith))
        ]),
        (λ j m has. ⊎_elim (λ y. absurd (cc))
            (λ y.
            let l = t.within.outs j m y in let b = ((t.outs m l j).0 y).1 in
            let c = stored_is m s.send.pieces S (one_if (is_full g (piece place m) S m)) (omega arith) in let z = one_most (is_full g (piece place m) S m) in omega arith)
            has),
      ) in
      go full is told follows_lay out
    where
      go : (full : Bool) → is_full g (bit_or (s.word (Piece (s.send.round % g.depth) i)) (2 ^ (p - first_part g i))) s.send.round i ≡ full
          → Told g (λ c. s.word (Claim c)) (λ x. s.word (Take x)) (put_pair (λ d j. s.word (Piece d j)) (s.send.round % g.depth) i (bit_or (s.word (Piece (s.send.round % g.depth) i)) (2 ^ (p - first_part g i))))
          (round_in (s.word Release)) s.send s.recv (where_so full (entry.Out s.send.round i) ++ entry.Lay s.send.round p i ∷ h)
          → Follows g h (entry.Lay s.send.round p i)
          → (is_full g (bit_or (s.word (Piece (s.send.round % g.depth) i)) (2 ^ (p - first_part g i))) s.send.round i ≡ true → Follows g (entry.Lay s.send.round p i ∷ h) (entry.Out s.send.round i))
          → AddsLay g s i h s.send.round p full
      go true f told lay out = (told, λ o. (out f, (lay, o)))
      go false f told lay out = (told, λ o. (lay, o))

  -- a lay adds its own entry, and where the word is full then that the piece goes out
  pub lays_piece_adds : (g : Shape) → IsShape g → (s : Core A) (n p i : ℕ) (h : List Entry) → Sound g s → IsAllowed g s (LayPiece n p i) → Tells g s h
      → Adds g (after g s (LayPiece n p i)) h (entries g s (LayPiece n p i))
  lays_piece_adds g v s n p i h r may t =
      let x : Pending = may.0 in
      subst (λ (o : Option Pending). Adds g (lays g n i o s) h (laid_entries g i o s)) (sym may.1) (pends x (r.claims.each n x may.1) may.2)
    where
      pends : (x : Pending) → IsPending g (λ c. s.word (Claim c)) (λ d j. s.word (Piece d j)) s.send s.life r.who n x → MayLay g x p i
          → Adds g (lays_piece g n i x s) h (laid_entries g i (Some x) s)
      pends x is lay =
          let piece : ℕ → ℕ → ℕ = λ d j. s.word (Piece d j) in
          let full : ℕ → ℕ → Bool = λ k q. is_full g (bit_or (piece (k % g.depth) i) (2 ^ (q - first_part g i))) k i in
          let touch : Touches g i x.partition = subst (Touches g i) (sym lay.partition) lay.touches in
          let small = bit_lt (piece (s.send.round % g.depth) i) (x.partition - first_part g i) in
          let lacks : laid g (piece (s.send.round % g.depth) i) i x.partition ≡ 0 = elim (cases_eq (laid g (piece (s.send.round % g.depth) i) i x.partition) 1) [
            | inl one ↦ absurd (true≢false (sym ((is.laid i lay.piece touch).1 one) ∙ lay.missing))
            | inr other ↦ omega arith
          ] in
          let made = subst (λ (z : ℕ). AddsLay g s i h z x.partition (full z x.partition)) (sym is.round)
          (adds_lay g v s x.partition i h r t lay.piece touch is.claimed lacks (full s.send.round x.partition) refl) in
          record { tells = made.0; order = made.1 }
