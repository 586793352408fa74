-- What the send side's steps add to the history: a bound is one more where an entry is added, and the entry follows
-- what the bounds say of the history before it.
use Rattle.std.proofs.Common.{◌≡◌, ◌≢◌, inl, inr, ⊎_elim, ℕ, ◌+◌, ◌-◌, ◌/◌, ◌%◌, ◌^◌, ◌<◌, ◌≤◌, min, Bool, ◌==◌, List, [], ◌∷◌, ◌++◌, refl, sym, ap, ◌∙◌, subst, arith, bit_or}
use Rattle.std.proofs.lemmas.Bool.{cases_eq, cases_lt, eq-eqb, ne_eqb}
use Rattle.gate_word.specs.Words.{round_in}
use Rattle.part_geometry.specs.Shape.{Shape, IsShape}
use Rattle.part_geometry.specs.Pieces.{pieces, first_part, Touches}
use Rattle.part_geometry.proofs.PieceFacts.{need_count-pos}
use Rattle.pair_core.specs.Words.{bit, empty}
use Rattle.pair_core.specs.Names.{Claim, Release, Take, Piece, put, put_pair}
use Rattle.pair_core.specs.Core.{Core}
use Rattle.pair_core.specs.Reading.{next_round, laid, IsFull, is_full}
use Rattle.pair_core.specs.Moves.{IsAllowed, StorePiece, StoreClaim, ShutClaim, after}
use Rattle.pair_core.specs.Sound.{Sound}
use Rattle.pair_core.specs.History as entry
use Rattle.pair_core.specs.History.{Entry, Has, Follows, IsInOrder, entries, where_so}
use Rattle.pair_core.specs.declared.view.SendSide.{SendSide}
use Rattle.pair_core.specs.declared.view.RecvSide.{RecvSide}
use Rattle.pair_core.proofs.Words.{empty_round, empty_bit, round_or, bit_or_else}
use Rattle.pair_core.proofs.Puts.{put_at, put_pair_at}
use Rattle.pair_core.proofs.Cut.{some_claims, bit_small, range_touch}
use Rattle.pair_core.proofs.Full.{full_passes, lacks_full}
use Rattle.pair_core.proofs.SendFacts.{live_unspent, seen_release, may_shut, IsNext, next_first, next_more}
use Rattle.pair_core.proofs.Told.{Told, Tells, lay_bound, out_bound, one_if, upto_skip, upto_add, upto_same, has_below, not_above, stored_is, waiting_is, one_true, one_false}

-- these entries are added: the next state tells them, and each follows what came before it
pub record Adds {A : Type 0} (g : Shape) (s : Core A) (h es : List Entry) : Type 0 where
  -- the state tells the history with them
  pub tells : Tells g s (es ++ h)
  -- and the entries are in order where the older ones are
  pub order : IsInOrder g h → IsInOrder g (es ++ h)

-- each piece touches a partition
pub some_part : (g : Shape) → IsShape g → (i : ℕ) → i < pieces g → Touches g i (first_part g i)
some_part g v i inside = let some = need_count-pos g v i inside in range_touch g v i (first_part g i) inside (omega arith) (omega arith)

-- Where each piece lacks what the sender's round stored of it, each bound is the round.
bound_empty : (g : Shape) → IsShape g → (piece : ℕ → ℕ → ℕ) (send : SendSide) → ((i p : ℕ) → i < pieces g → i < send.pieces → Touches g i p → laid g (piece (send.round % g.depth) i) i p ≡ 0)
    → ((i p : ℕ) → i < pieces g → Touches g i p → lay_bound g piece send i p ≡ send.round) × ((i : ℕ) → i < pieces g → out_bound g piece send i ≡ send.round)
bound_empty g v piece send none = (
  (λ i p inside t. elim (cases_lt i send.pieces) [
    | inl low ↦ stored_is i send.pieces send.round _ low ∙ (let z = none i p inside low t in omega arith)
    | inr high ↦ waiting_is i send.pieces send.round _ high
  ]),
  (λ i inside. elim (cases_lt i send.pieces) [
    | inl low ↦
        let t = some_part g v i inside in let z = none i (first_part g i) inside low t in
        let lacks = lacks_full g v (piece (send.round % g.depth) i) send.round i (first_part g i) inside t (λ e. omega arith) in
        stored_is i send.pieces send.round _ low ∙ (let y = one_false (is_full g (piece (send.round % g.depth) i) send.round i) lacks in omega arith)
    | inr high ↦ waiting_is i send.pieces send.round _ high
  ]),
)

-- Where each piece has all of its partitions, each bound is the round after.
bound_full : (g : Shape) → IsShape g → (piece : ℕ → ℕ → ℕ) (send : SendSide) → send.pieces ≡ pieces g
    → ((i : ℕ) → i < pieces g → IsFull g (piece (send.round % g.depth) i) send.round i)
    → ((i p : ℕ) → i < pieces g → Touches g i p → lay_bound g piece send i p ≡ send.round + 1) × ((i : ℕ) → i < pieces g → out_bound g piece send i ≡ send.round + 1)
bound_full g v piece send whole all = (
  (λ i p inside t. stored_is i send.pieces send.round _ (omega arith) ∙ (let z = (all i inside).all p t in omega arith)),
  (λ i inside.
      let f = full_passes g v (piece (send.round % g.depth) i) send.round i inside (all i inside) in
      stored_is i send.pieces send.round _ (omega arith) ∙ (let y = one_true (is_full g (piece (send.round % g.depth) i) send.round i) f in omega arith)),
)

-- a piece word that is stored adds nothing
told_piece : (g : Shape) → IsShape g → (claim take : ℕ → ℕ) (piece : ℕ → ℕ → ℕ) (released k i : ℕ) (send : SendSide) (recv : RecvSide) (h : List Entry)
    → i < pieces g → IsNext g claim piece send released k i
    → send.round + min 1 send.opened ≡ k → send.round + min 1 send.shut ≡ k
    → ((j p : ℕ) → j < pieces g → Touches g j p → lay_bound g piece send j p ≡ k) × ((j : ℕ) → j < pieces g → out_bound g piece send j ≡ k)
    → Told g claim take piece released send recv h
    → Told g claim take (put_pair piece (k % g.depth) i (empty k)) released record { round = k; pieces = i + 1; opened = 0; shut = 0; markers = send.markers } recv h
told_piece g v claim take piece released k i send recv h inside n opens shuts old t =
    let new = bound_empty g v (put_pair piece (k % g.depth) i (empty k)) record { round = k; pieces = i + 1; opened = 0; shut = 0; markers = send.markers }
    (λ j p a b touch. put_pair_at piece (k % g.depth) i (empty k) (λ z. laid g z j p ≡ 0) (k % g.depth) j
    (λ _ e. let small = bit_small g v j p a touch in empty_bit k (p - first_part g j) (omega arith))
    (λ o. let x : j ≢ i = (λ e. o (refl, e)) in n.empty j p (omega arith) touch)) in
    record {
      opens = upto_same h entry.Open _ _ (let z = opens in omega arith) t.opens;
      shuts = upto_same h entry.Shut _ _ (let z = shuts in omega arith) t.shuts;
      listens = t.listens;
      releases = t.releases;
      marks = t.marks;
      lays = λ j p a touch. upto_same h (λ m. entry.Lay m p j) _ _ (old.0 j p a touch ∙ sym (new.0 j p a touch)) (t.lays j p a touch);
      outs = λ j a. upto_same h (λ m. entry.Out m j) _ _ (old.1 j a ∙ sym (new.1 j a)) (t.outs j a);
      takes = t.takes;
      within = t.within;
    }

module _ {A : Type 0} where
  -- a store of a piece word adds nothing, whether it begins a round or not
  pub stores_piece_adds : (g : Shape) → IsShape g → (s : Core A) (k i : ℕ) (h : List Entry) → Sound g s → IsAllowed g s (StorePiece k i) → Tells g s h → Adds g (after g s (StorePiece k i)) h []
  stores_piece_adds g v s k i h r a t =
      let claim : ℕ → ℕ = λ c. s.word (Claim c) in let take : ℕ → ℕ = λ x. s.word (Take x) in let piece : ℕ → ℕ → ℕ = λ d j. s.word (Piece d j) in let released : ℕ = round_in (s.word Release) in
      let saw = seen_release g s 0 r (live_unspent (s.life 0) r.lives.send) in let words = some_claims g v in
      record {
        tells = ⊎_elim
            (λ first.
            let is = first.0 in let idle = first.1 in let next = first.2 in
            let opened = r.progress.shuts_last (omega arith) in let whole = r.progress.opens_last (omega arith) in
            let full = bound_full g v piece s.send whole
            (λ j l. record { round = r.pieces.current j (omega arith); all = λ p touch. r.pieces.ended j p l (omega arith) touch }) in
            subst (λ (z : ℕ). Tells g (after g s (StorePiece k z)) h) (sym is)
            (told_piece g v claim take piece released k 0 s.send s.recv h (let x = a.0 in omega arith)
            (next_first g v claim piece s.send s.recv released (round_in (s.seen 0 Release)) k r.progress r.gates r.pieces idle next saw a.2 (let x = a.0 in omega arith))
            (omega arith) (omega arith)
            ((λ j p l touch. full.0 j p l touch ∙ sym next), (λ j l. full.1 j l ∙ sym next)) t))
            (λ more.
            let is = more.1 in let same = more.2 in
            let n = next_more g v claim piece s.send s.recv released i r.progress r.gates r.pieces a.0 is in
            let none : s.send.opened ≡ 0 = elim (cases_lt 0 s.send.opened) [ inl l ↦ let x = r.progress.opens_last l in let y = a.0 in absurd (omega arith) | inr l ↦ omega arith ] in
            let unshut : s.send.shut ≡ 0 = elim (cases_lt 0 s.send.shut) [ inl l ↦ let x = r.progress.shuts_last l in absurd (omega arith) | inr l ↦ omega arith ] in
            subst (λ (z : ℕ). Tells g (after g s (StorePiece z i)) h) (sym same)
            (told_piece g v claim take piece released s.send.round i s.send s.recv h a.0 n (omega arith) (omega arith)
            (bound_empty g v piece s.send (λ j p l low touch. n.empty j p (omega arith) touch)) t))
            a.3;
        order = λ o. o;
      }

-- the claim words change, and each partition is claimed in the same rounds
told_claim : (g : Shape) (claim claim' take : ℕ → ℕ) (piece : ℕ → ℕ → ℕ) (released : ℕ) (send : SendSide) (recv : RecvSide) (h : List Entry)
    → ((p : ℕ) → p < g.send_parts → next_round claim' p ≡ next_round claim p) → Told g claim take piece released send recv h → Told g claim' take piece released send recv h
told_claim g claim claim' take piece released send recv h same t = record {
  opens = t.opens;
  shuts = t.shuts;
  listens = t.listens;
  releases = t.releases;
  marks = λ p l. upto_same h (λ k. entry.Mark k p) _ _ (sym (same p l)) (t.marks p l);
  lays = t.lays;
  outs = t.outs;
  takes = t.takes;
  within = t.within;
}

-- an entry of a round's opening or shutting is of no other sort
told_opens : (g : Shape) (claim take : ℕ → ℕ) (piece : ℕ → ℕ → ℕ) (released : ℕ) (send : SendSide) (recv : RecvSide) (h : List Entry)
    → 1 ≤ send.round → send.opened ≡ 0 → Told g claim take piece released send recv h → Told g claim take piece released (record send { opened = 1 }) recv (entry.Open send.round ∷ h)
told_opens g claim take piece released send recv h some none t =
    let e : entry.Entry = entry.Open send.round in record {
      opens = upto_same (e ∷ h) entry.Open (send.round + 1) _ (omega arith)
          (upto_add h entry.Open send.round some (λ k x. cc) (upto_same h entry.Open _ send.round (omega arith) t.opens));
      shuts = upto_skip h e entry.Shut _ (λ k x. cc) t.shuts;
      listens = upto_skip h e entry.Listen _ (λ k x. cc) t.listens;
      releases = upto_skip h e entry.Release _ (λ k x. cc) t.releases;
      marks = λ p l. upto_skip h e (λ k. entry.Mark k p) _ (λ k x. cc) (t.marks p l);
      lays = λ i p l touch. upto_skip h e (λ k. entry.Lay k p i) _ (λ k x. cc) (t.lays i p l touch);
      outs = λ i l. upto_skip h e (λ k. entry.Out k i) _ (λ k x. cc) (t.outs i l);
      takes = λ q l. upto_skip h e (λ k. entry.Take k q) _ (λ k x. cc) (t.takes q l);
      within = record {
        marks = λ k p x. ⊎_elim (λ y. absurd (cc)) (t.within.marks k p) x;
        lays = λ k p i x. ⊎_elim (λ y. absurd (cc)) (t.within.lays k p i) x;
        outs = λ k i x. ⊎_elim (λ y. absurd (cc)) (t.within.outs k i) x;
        takes = λ k q x. ⊎_elim (λ y. absurd (cc)) (t.within.takes k q) x;
      };
    }

told_shuts : (g : Shape) (claim take : ℕ → ℕ) (piece : ℕ → ℕ → ℕ) (released : ℕ) (send : SendSide) (recv : RecvSide) (h : List Entry)
    → 1 ≤ send.round → send.shut ≡ 0 → Told g claim take piece released send recv h → Told g claim take piece released (record send { shut = 1 }) recv (entry.Shut send.round ∷ h)
told_shuts g claim take piece released send recv h some none t =
    let e : entry.Entry = entry.Shut send.round in record {
      opens = upto_skip h e entry.Open _ (λ k x. cc) t.opens;
      shuts = upto_same (e ∷ h) entry.Shut (send.round + 1) _ (omega arith)
          (upto_add h entry.Shut send.round some (λ k x. cc) (upto_same h entry.Shut _ send.round (omega arith) t.shuts));
      listens = upto_skip h e entry.Listen _ (λ k x. cc) t.listens;
      releases = upto_skip h e entry.Release _ (λ k x. cc) t.releases;
      marks = λ p l. upto_skip h e (λ k. entry.Mark k p) _ (λ k x. cc) (t.marks p l);
      lays = λ i p l touch. upto_skip h e (λ k. entry.Lay k p i) _ (λ k x. cc) (t.lays i p l touch);
      outs = λ i l. upto_skip h e (λ k. entry.Out k i) _ (λ k x. cc) (t.outs i l);
      takes = λ q l. upto_skip h e (λ k. entry.Take k q) _ (λ k x. cc) (t.takes q l);
      within = record {
        marks = λ k p x. ⊎_elim (λ y. absurd (cc)) (t.within.marks k p) x;
        lays = λ k p i x. ⊎_elim (λ y. absurd (cc)) (t.within.lays k p i) x;
        outs = λ k i x. ⊎_elim (λ y. absurd (cc)) (t.within.outs k i) x;
        takes = λ k q x. ⊎_elim (λ y. absurd (cc)) (t.within.takes k q) x;
      };
    }

module _ {A : Type 0} where
  -- the entry of the first claim word, and none of another
  first_only : (g : Shape) (s : Core A) (h : List Entry) (c : ℕ) (e : Entry) → (c ≡ 0 → Adds g s h (e ∷ [])) → (c ≢ 0 → Adds g s h []) → Adds g s h (where_so (c == 0) e)
  first_only g s h c e first further = elim (cases_eq c 0) [
    | inl z ↦ subst (λ (b : Bool). Adds g s h (where_so b e)) (sym (eq-eqb c 0 z)) (first z)
    | inr n ↦ subst (λ (b : Bool). Adds g s h (where_so b e)) (sym (ne_eqb c 0 n)) (further n)
  ]

  -- the first claim word that is stored adds the opening, and any other nothing
  pub stores_claim_adds : (g : Shape) → IsShape g → (s : Core A) (k c : ℕ) (h : List Entry) → Sound g s → IsAllowed g s (StoreClaim k c) → Tells g s h
      → Adds g (after g s (StoreClaim k c)) h (entries g s (StoreClaim k c))
  stores_claim_adds g v s k c h r a t =
      let claim : ℕ → ℕ = λ n. s.word (Claim n) in let take : ℕ → ℕ = λ x. s.word (Take x) in let piece : ℕ → ℕ → ℕ = λ d j. s.word (Piece d j) in let released : ℕ = round_in (s.word Release) in
      let w : ℕ = empty s.send.round in
      let inside = a.0 in let is = a.3 in
      let unshut : s.send.shut ≡ 0 = elim (cases_lt 0 s.send.shut) [ inl l ↦ let x = r.progress.shuts_last l in absurd (omega arith) | inr l ↦ omega arith ] in
      let some : 1 ≤ s.send.round = elim (cases_lt 0 s.send.round) [ inl l ↦ l | inr l ↦ let x = r.progress.begun (omega arith) in absurd (omega arith) ] in
      let before = (r.gates.is_past c (omega arith) inside).0 in
      let round = empty_round s.send.round in
      let same : (p : ℕ) → p < g.send_parts → next_round (put claim c w) p ≡ next_round claim p = λ p l.
      put_at claim c w (λ z. round_in z + bit z (p % 32) ≡ next_round claim p) (p / 32)
      (λ e. let one = r.gates.all_past p l (omega arith) in let zero_bit = empty_bit s.send.round (p % 32) (omega arith) in
      let x : round_in (claim (p / 32)) ≡ round_in (claim c) = ap (λ z. round_in (claim z)) e in omega arith)
      (λ _. refl) in
      let now = told_claim g claim (put claim c w) take piece released s.send s.recv h same t in
      first_only g (after g s (StoreClaim k c)) h c (entry.Open k)
      (λ e. record {
        tells = subst (λ (z : ℕ × ℕ). Told g (put claim c w) take piece released (record s.send { opened = z.0 + 1 }) s.recv (entry.Open z.1 ∷ h)) (λ i. (sym e i, sym a.1 i))
            (told_opens g (put claim c w) take piece released s.send s.recv h some (omega arith) now);
        order = λ o. (
          subst (λ (z : ℕ). Follows g h (entry.Open z)) (sym a.1) (
            some,
            not_above h entry.Open _ s.send.round t.opens (omega arith),
            (λ two. (has_below h entry.Open _ (s.send.round - 1) t.opens (omega arith) (omega arith), has_below h entry.Shut _ (s.send.round - 1) t.shuts (omega arith) (omega arith))),
            (λ deep. has_below h entry.Release _ (s.send.round - g.depth) t.releases (omega arith) (let x = r.progress.ahead in omega arith)),
          ),
          o,
        );
      })
      (λ n. record {
        tells = record {
          opens = upto_same h entry.Open _ _ (omega arith) now.opens;
          shuts = now.shuts;
          listens = now.listens;
          releases = now.releases;
          marks = now.marks;
          lays = now.lays;
          outs = now.outs;
          takes = now.takes;
          within = now.within;
        };
        order = λ o. o;
      })

  -- the first claim word that is shut adds the shutting, and any other nothing
  pub shuts_claim_adds : (g : Shape) → IsShape g → (s : Core A) (c : ℕ) (h : List Entry) → Sound g s → IsAllowed g s (ShutClaim c) → Tells g s h
      → Adds g (after g s (ShutClaim c)) h (entries g s (ShutClaim c))
  shuts_claim_adds g v s c h r a t =
      let claim : ℕ → ℕ = λ n. s.word (Claim n) in let take : ℕ → ℕ = λ x. s.word (Take x) in let piece : ℕ → ℕ → ℕ = λ d j. s.word (Piece d j) in let released : ℕ = round_in (s.word Release) in
      let w : ℕ = bit_or (claim c) (2 ^ 32) in let words = some_claims g v in
      let inside = a.0 in let opened = a.1 in let is = a.2 in
      let whole = r.progress.opens_last (omega arith) in
      let some : 1 ≤ s.send.round = elim (cases_lt 0 s.send.round) [ inl l ↦ l | inr l ↦ let x = r.progress.begun (omega arith) in absurd (omega arith) ] in
      let round : round_in w ≡ round_in (claim c) = round_or (claim c) 32 (omega arith) in
      let same : (p : ℕ) → p < g.send_parts → next_round (put claim c w) p ≡ next_round claim p = λ p _.
      put_at claim c w (λ z. round_in z + bit z (p % 32) ≡ next_round claim p) (p / 32)
      (λ e. let b = bit_or_else (claim c) 32 (p % 32) (λ f. omega arith) in
      let x : round_in (claim c) + bit (claim c) (p % 32) ≡ next_round claim p = ap (λ z. round_in (claim z) + bit (claim z) (p % 32)) (sym e) in omega arith)
      (λ _. refl) in
      let now = told_claim g claim (put claim c w) take piece released s.send s.recv h same t in
      first_only g (after g s (ShutClaim c)) h c (entry.Shut s.send.round)
      (λ e.
      let unshut : s.send.shut ≡ 0 = omega arith in
      let full = (may_shut g v s r opened unshut (a.3 e)).1 in
      record {
        tells = subst (λ (z : ℕ). Told g (put claim c w) take piece released (record s.send { shut = z + 1 }) s.recv (entry.Shut s.send.round ∷ h)) (sym e)
            (told_shuts g (put claim c w) take piece released s.send s.recv h some unshut now);
        order = λ o. (
          (
            some,
            not_above h entry.Shut _ s.send.round t.shuts (omega arith),
            has_below h entry.Open _ s.send.round t.opens some (omega arith),
            (λ i l.
                let f = full_passes g v (piece (s.send.round % g.depth) i) s.send.round i l (record { round = r.pieces.current i (omega arith); all = λ p touch. full i p l touch }) in
                let b = stored_is i s.send.pieces s.send.round (one_if (is_full g (piece (s.send.round % g.depth) i) s.send.round i)) (omega arith) in
                let one = one_true (is_full g (piece (s.send.round % g.depth) i) s.send.round i) f in
                has_below h (λ m. entry.Out m i) _ s.send.round (t.outs i l) some (omega arith)),
            (λ two. has_below h entry.Shut _ (s.send.round - 1) t.shuts (omega arith) (omega arith)),
          ),
          o,
        );
      })
      (λ n. record {
        tells = record {
          opens = now.opens;
          shuts = upto_same h entry.Shut _ _ (omega arith) now.shuts;
          listens = now.listens;
          releases = now.releases;
          marks = now.marks;
          lays = now.lays;
          outs = now.outs;
          takes = now.takes;
          within = now.within;
        };
        order = λ o. o;
      })
