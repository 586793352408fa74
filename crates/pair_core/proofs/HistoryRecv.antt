-- What the receive side's steps add to the history: a bound is one more where an entry is added, and the entry follows
-- what the bounds say of the history before it.
use Rattle.std.proofs.Common.{◌≡◌, ◌≢◌, inl, inr, ⊎_elim, ℕ, ◌+◌, ◌-◌, ◌/◌, ◌%◌, ◌^◌, ◌<◌, ◌≤◌, Bool, true, List, [], ◌∷◌, refl, sym, ap, ◌∙◌, subst, arith, bit_or}
use Rattle.std.proofs.lemmas.Bool.{cases_eq, cases_lt, eq-eqb, ne_eqb}
use Rattle.gate_word.specs.Words.{round_in}
use Rattle.part_geometry.specs.Shape.{Shape, IsShape}
use Rattle.part_geometry.specs.Pieces.{pieces, first_part}
use Rattle.pair_core.specs.Words.{bit, empty}
use Rattle.pair_core.specs.Names.{Claim, Release, Take, Piece, take_words, put}
use Rattle.pair_core.specs.Core.{Core}
use Rattle.pair_core.specs.Reading.{next_round, IsFull, is_full}
use Rattle.pair_core.specs.Moves.{IsAllowed, StoreReturn, StoreTake, TakePart, StoreRelease, after}
use Rattle.pair_core.specs.Sound.{Sound}
use Rattle.pair_core.specs.History as entry
use Rattle.pair_core.specs.History.{Entry, Has, Follows, IsInOrder, entries, where_so}
use Rattle.pair_core.specs.declared.view.SendSide.{SendSide}
use Rattle.pair_core.specs.declared.view.RecvSide.{RecvSide}
use Rattle.pair_core.proofs.Words.{bit_lt, empty_round, empty_bit, round_or, bit_or_here, bit_or_else, later_round, later_bit}
use Rattle.pair_core.proofs.Puts.{put_at}
use Rattle.pair_core.proofs.Rounds.{place_lt, places_apart, last_place}
use Rattle.pair_core.proofs.Cut.{some_takes, take_word, bit_small}
use Rattle.pair_core.proofs.Full.{full_passes}
use Rattle.pair_core.proofs.SendFacts.{live_unspent, round_le}
use Rattle.pair_core.proofs.Told.{Upto, Told, Tells, listen_bound, out_bound, one_if, upto_skip, upto_add, upto_same, has_below, not_above, stored_is, waiting_is, one_true}
use Rattle.pair_core.proofs.HistorySend.{Adds}

-- a piece word that is beyond the released round by less than the depth stands at its round's place
round_place : {A : Type 0} (g : Shape) (s : Core A) (d i : ℕ) → Sound g s → d < g.depth → i < pieces g → round_in (s.word Release) < round_in (s.word (Piece d i)) → round_in (s.word (Piece d i)) % g.depth ≡ d
round_place {A} g s d i r place inside above = elim (cases_eq d (s.send.round % g.depth)) [
  | inl e ↦ elim (cases_lt i s.send.pieces) [
    | inl stored ↦ subst (λ (z : ℕ). round_in (s.word (Piece z i)) % g.depth ≡ z) (sym e) (ap (λ (z : ℕ). z % g.depth) (r.pieces.current i stored))
    | inr high ↦
        let h = (r.pieces.waiting i (omega arith) inside).round in let ahead = r.progress.ahead in
        let x : round_in (s.word (Piece d i)) ≡ s.send.round - g.depth = ap (λ (z : ℕ). round_in (s.word (Piece z i))) e ∙ h in absurd (omega arith)
  ]
  | inr other ↦
      let h = (r.pieces.other d i place inside other).round in
      ap (λ (z : ℕ). z % g.depth) h ∙ last_place g.depth s.send.round d (omega arith)
]

-- what the seat 1 has seen full in the receiver's round is full, and the sender has come that far
pub full_now : {A : Type 0} (g : Shape) → IsShape g → (s : Core A) (i : ℕ) → Sound g s → i < pieces g → IsFull g (s.seen 1 (Piece (s.recv.round % g.depth) i)) s.recv.round i
    → s.recv.released ≡ 0 → (s.recv.round ≤ s.send.round) × IsFull g (s.word (Piece (s.recv.round % g.depth) i)) s.recv.round i
full_now {A} g v s i r inside saw busy =
    let d : ℕ = s.recv.round % g.depth in let w : ℕ = s.word (Piece d i) in let o : ℕ = s.seen 1 (Piece d i) in
    let place = place_lt g.depth s.recv.round v.depth.0 v.depth.1 in
    let later = r.seen.present 1 (Piece d i) (live_unspent (s.life 1) r.lives.recv) (place, inside) in
    let up = later_round o w later in let round = saw.round in
    let most = round_le g (λ c. s.word (Claim c)) (λ e j. s.word (Piece e j)) s.send r.pieces d i place inside in
    let current = r.progress.current in let ahead = r.progress.ahead in
    let is : round_in w ≡ s.recv.round = elim (cases_eq (round_in w) s.recv.round) [
      | inl e ↦ e
      | inr other ↦
          let at = round_place g s d i r place inside (omega arith) in
          absurd (places_apart g.depth s.recv.round (round_in w) v.depth.0 v.depth.1 (omega arith) (omega arith) (sym at))
    ] in (
      omega arith,
      record {
        round = is;
        all = λ p t.
            let j = bit_small g v i p inside t in
            let b = later_bit o w later (round ∙ sym is) (p - first_part g i) (omega arith) in
            let one = saw.all p t in let small = bit_lt w (p - first_part g i) in omega arith;
      },
    )

-- a piece that is full in the receiver's round is out
out_now : {A : Type 0} (g : Shape) → IsShape g → (s : Core A) (i : ℕ) → Sound g s → i < pieces g → 1 ≤ s.recv.round → s.recv.round ≤ s.send.round
    → IsFull g (s.word (Piece (s.recv.round % g.depth) i)) s.recv.round i → s.recv.round < out_bound g (λ d j. s.word (Piece d j)) s.send i
out_now {A} g v s i r inside some near full =
    let piece : ℕ → ℕ → ℕ = λ d j. s.word (Piece d j) in let low = v.depth.0 in
    let test : ℕ → Bool = λ k. is_full g (piece (k % g.depth) i) k i in
    elim (cases_lt i s.send.pieces) [
      | inl stored ↦
          let bound = stored_is i s.send.pieces s.send.round (one_if (test s.send.round)) stored in
          elim (cases_eq s.recv.round s.send.round) [
            | inl e ↦ let one = one_true (test s.send.round) (subst (λ (z : ℕ). test z ≡ true) e (full_passes g v (piece (s.recv.round % g.depth) i) s.recv.round i inside full)) in omega arith
            | inr other ↦ omega arith
          ]
      | inr high ↦
          let bound = waiting_is i s.send.pieces s.send.round (one_if (test s.send.round)) high in
          elim (cases_eq s.recv.round s.send.round) [
            | inl e ↦
                let old = (r.pieces.waiting i (omega arith) inside).round in let now = full.round in
                let x : round_in (piece (s.recv.round % g.depth) i) ≡ round_in (piece (s.send.round % g.depth) i) = ap (λ (z : ℕ). round_in (piece (z % g.depth) i)) e in absurd (omega arith)
            | inr other ↦ omega arith
          ]
    ]

-- the next round is listened in
told_listen : (g : Shape) (claim take : ℕ → ℕ) (piece : ℕ → ℕ → ℕ) (released : ℕ) (send : SendSide) (recv : RecvSide) (h : List Entry) (t : ℕ)
    → 1 ≤ recv.round → recv.takes ≡ t → t + 1 ≡ take_words g → Told g claim take piece released send recv h
    → Told g claim take piece released send (record recv { takes = t + 1 }) (entry.Listen recv.round ∷ h)
told_listen g claim take piece released send recv h n some is last t =
    let e : entry.Entry = entry.Listen recv.round in record {
      opens = upto_skip h e entry.Open _ (λ k x. cc) t.opens;
      shuts = upto_skip h e entry.Shut _ (λ k x. cc) t.shuts;
      listens = upto_same (e ∷ h) entry.Listen (recv.round + 1) _ (omega arith)
          (upto_add h entry.Listen recv.round some (λ k x. cc) (upto_same h entry.Listen _ recv.round (omega arith) t.listens));
      releases = upto_skip h e entry.Release _ (λ k x. cc) t.releases;
      marks = λ p l. upto_skip h e (λ k. entry.Mark k p) _ (λ k x. cc) (t.marks p l);
      lays = λ i p l touch. upto_skip h e (λ k. entry.Lay k p i) _ (λ k x. cc) (t.lays i p l touch);
      outs = λ i l. upto_skip h e (λ k. entry.Out k i) _ (λ k x. cc) (t.outs i l);
      takes = λ q l. upto_skip h e (λ k. entry.Take k q) _ (λ k x. cc) (t.takes q l);
      within = record {
        marks = λ k p x. ⊎_elim (λ y. absurd (cc)) (t.within.marks k p) x;
        lays = λ k p i x. ⊎_elim (λ y. absurd (cc)) (t.within.lays k p i) x;
        outs = λ k i x. ⊎_elim (λ y. absurd (cc)) (t.within.outs k i) x;
        takes = λ k q x. ⊎_elim (λ y. absurd (cc)) (t.within.takes k q) x;
      };
    }

-- the take words change, and each partition is taken in the same rounds
told_take_words : (g : Shape) (claim take take' : ℕ → ℕ) (piece : ℕ → ℕ → ℕ) (released : ℕ) (send : SendSide) (recv : RecvSide) (h : List Entry)
    → ((q : ℕ) → q < g.recv_parts → next_round take' q ≡ next_round take q) → Told g claim take piece released send recv h → Told g claim take' piece released send recv h
told_take_words g claim take take' piece released send recv h same t = record {
  opens = t.opens;
  shuts = t.shuts;
  listens = t.listens;
  releases = t.releases;
  marks = t.marks;
  lays = t.lays;
  outs = t.outs;
  takes = λ q l. upto_same h (λ k. entry.Take k q) _ _ (sym (same q l)) (t.takes q l);
  within = t.within;
}

-- one partition more is taken in the receiver's round
told_take : (g : Shape) (claim take take' : ℕ → ℕ) (piece : ℕ → ℕ → ℕ) (released : ℕ) (send : SendSide) (recv : RecvSide) (h : List Entry) (q : ℕ) → q < g.recv_parts
    → 1 ≤ recv.round → next_round take q ≡ recv.round → next_round take' q ≡ recv.round + 1 → ((p : ℕ) → p < g.recv_parts → p ≢ q → next_round take' p ≡ next_round take p)
    → Told g claim take piece released send recv h → Told g claim take' piece released send recv (entry.Take recv.round q ∷ h)
told_take g claim take take' piece released send recv h q inside some old new same t =
    let e : entry.Entry = entry.Take recv.round q in record {
      opens = upto_skip h e entry.Open _ (λ k x. cc) t.opens;
      shuts = upto_skip h e entry.Shut _ (λ k x. cc) t.shuts;
      listens = upto_skip h e entry.Listen _ (λ k x. cc) t.listens;
      releases = upto_skip h e entry.Release _ (λ k x. cc) t.releases;
      marks = λ p l. upto_skip h e (λ k. entry.Mark k p) _ (λ k x. cc) (t.marks p l);
      lays = λ i p l touch. upto_skip h e (λ k. entry.Lay k p i) _ (λ k x. cc) (t.lays i p l touch);
      outs = λ i l. upto_skip h e (λ k. entry.Out k i) _ (λ k x. cc) (t.outs i l);
      takes = λ p l. elim (cases_eq p q) [
        | inl is ↦ subst (λ (z : ℕ). Upto (e ∷ h) (λ k. entry.Take k z) (next_round take' z)) (sym is)
            (upto_same (e ∷ h) (λ k. entry.Take k q) (recv.round + 1) _ (sym new)
            (upto_add h (λ k. entry.Take k q) recv.round some (λ k x. cc) (upto_same h (λ k. entry.Take k q) _ recv.round old (t.takes q inside))))
        | inr other ↦ upto_same (e ∷ h) (λ k. entry.Take k p) _ _ (sym (same p l other))
            (upto_skip h e (λ k. entry.Take k p) _ (λ k x. other (let z : q ≡ p = cc in sym z)) (t.takes p l))
      ];
      within = record {
        marks = λ k p x. ⊎_elim (λ y. absurd (cc)) (t.within.marks k p) x;
        lays = λ k p i x. ⊎_elim (λ y. absurd (cc)) (t.within.lays k p i) x;
        outs = λ k i x. ⊎_elim (λ y. absurd (cc)) (t.within.outs k i) x;
        takes = λ k p x. ⊎_elim (λ y. let z : q ≡ p = cc in omega arith) (t.within.takes k p) x;
      };
    }

-- the receiver's round is released
told_release : (g : Shape) (claim take : ℕ → ℕ) (piece : ℕ → ℕ → ℕ) (released now : ℕ) (send : SendSide) (recv : RecvSide) (h : List Entry)
    → recv.round ≡ released + 1 → now ≡ recv.round → Told g claim take piece released send recv h
    → Told g claim take piece now send (record recv { released = 1 }) (entry.Release recv.round ∷ h)
told_release g claim take piece released now send recv h next is t =
    let e : entry.Entry = entry.Release recv.round in record {
      opens = upto_skip h e entry.Open _ (λ k x. cc) t.opens;
      shuts = upto_skip h e entry.Shut _ (λ k x. cc) t.shuts;
      listens = upto_skip h e entry.Listen _ (λ k x. cc) t.listens;
      releases = upto_same (e ∷ h) entry.Release (recv.round + 1) _ (omega arith)
          (upto_add h entry.Release recv.round (omega arith) (λ k x. cc) (upto_same h entry.Release _ recv.round (omega arith) t.releases));
      marks = λ p l. upto_skip h e (λ k. entry.Mark k p) _ (λ k x. cc) (t.marks p l);
      lays = λ i p l touch. upto_skip h e (λ k. entry.Lay k p i) _ (λ k x. cc) (t.lays i p l touch);
      outs = λ i l. upto_skip h e (λ k. entry.Out k i) _ (λ k x. cc) (t.outs i l);
      takes = λ q l. upto_skip h e (λ k. entry.Take k q) _ (λ k x. cc) (t.takes q l);
      within = record {
        marks = λ k p x. ⊎_elim (λ y. absurd (cc)) (t.within.marks k p) x;
        lays = λ k p i x. ⊎_elim (λ y. absurd (cc)) (t.within.lays k p i) x;
        outs = λ k i x. ⊎_elim (λ y. absurd (cc)) (t.within.outs k i) x;
        takes = λ k q x. ⊎_elim (λ y. absurd (cc)) (t.within.takes k q) x;
      };
    }

module _ {A : Type 0} where
  -- a return word that is stored adds nothing
  pub stores_return_adds : (g : Shape) → IsShape g → (s : Core A) (k t : ℕ) (h : List Entry) → Sound g s → IsAllowed g s (StoreReturn k t) → Tells g s h → Adds g (after g s (StoreReturn k t)) h []
  stores_return_adds g v s k t h r a told =
      let words = some_takes g v in
      let same : listen_bound g s.recv ≡ k + (0 + 1 - take_words g) = ⊎_elim
      (λ (x : (t ≡ 0) × (s.recv.released ≡ 1) × (k ≡ s.recv.round + 1)). let all = r.progress.ends_last (let z = x.1 in omega arith) in let z = x.2 in omega arith)
      (λ (x : (1 ≤ t) × (t ≡ s.recv.returns) × (k ≡ s.recv.round)).
      let inside = a.0 in let is = x.1 in let z = x.2 in
      let none : s.recv.takes ≡ 0 = elim (cases_lt 0 s.recv.takes) [ inl l ↦ let y = r.progress.takes_last l in absurd (omega arith) | inr l ↦ omega arith ] in omega arith)
      a.2 in
      record {
        tells = record {
          opens = told.opens;
          shuts = told.shuts;
          listens = upto_same h entry.Listen _ _ same told.listens;
          releases = told.releases;
          marks = told.marks;
          lays = told.lays;
          outs = told.outs;
          takes = told.takes;
          within = told.within;
        };
        order = λ o. o;
      }

  -- the last take word that is stored adds the listening, and any other nothing
  pub stores_take_adds : (g : Shape) → IsShape g → (s : Core A) (k t : ℕ) (h : List Entry) → Sound g s → IsAllowed g s (StoreTake k t) → Tells g s h
      → Adds g (after g s (StoreTake k t)) h (entries g s (StoreTake k t))
  stores_take_adds g v s k t h r a told =
      let claim : ℕ → ℕ = λ n. s.word (Claim n) in let take : ℕ → ℕ = λ x. s.word (Take x) in let piece : ℕ → ℕ → ℕ = λ d j. s.word (Piece d j) in let released : ℕ = round_in (s.word Release) in
      let w : ℕ = empty s.recv.round in
      let inside = a.0 in let is = a.3 in
      let before = (r.receiving.take_past t (omega arith) inside) in
      let round = empty_round s.recv.round in
      let busy : s.recv.released ≡ 0 = elim (cases_lt 0 s.recv.released) [ inl l ↦ let x = r.progress.ends_last l in absurd (omega arith) | inr l ↦ omega arith ] in
      let current = r.progress.current in
      let same : (q : ℕ) → q < g.recv_parts → next_round (put take t w) q ≡ next_round take q = λ q l.
      put_at take t w (λ z. round_in z + bit z (q % 32) ≡ next_round take q) (q / 32)
      (λ e. let one = r.receiving.all_taken q l (omega arith) in let zero_bit = empty_bit s.recv.round (q % 32) (omega arith) in
      let x : round_in (take (q / 32)) ≡ round_in (take t) = ap (λ z. round_in (take z)) e in omega arith)
      (λ _. refl) in
      let now = told_take_words g claim take (put take t w) piece released s.send s.recv h same told in
      elim (cases_eq (t + 1) (take_words g)) [
        | inl last ↦ subst (λ (b : Bool). Adds g (after g s (StoreTake k t)) h (where_so b (entry.Listen k))) (sym (eq-eqb (t + 1) (take_words g) last)) (record {
          tells = subst (λ (z : ℕ). Told g claim (put take t w) piece released s.send (record s.recv { takes = t + 1 }) (entry.Listen z ∷ h)) (sym a.1)
              (told_listen g claim (put take t w) piece released s.send s.recv h t (omega arith) (sym is) last now);
          order = λ o. (
            subst (λ (z : ℕ). Follows g h (entry.Listen z)) (sym a.1) (
              omega arith,
              not_above h entry.Listen _ s.recv.round told.listens (omega arith),
              (λ two. (has_below h entry.Listen _ (s.recv.round - 1) told.listens (omega arith) (omega arith), has_below h entry.Release _ (s.recv.round - 1) told.releases (omega arith) (omega arith))),
            ),
            o,
          );
        })
        | inr more ↦ subst (λ (b : Bool). Adds g (after g s (StoreTake k t)) h (where_so b (entry.Listen k))) (sym (ne_eqb (t + 1) (take_words g) more)) (record {
          tells = record {
            opens = now.opens;
            shuts = now.shuts;
            listens = upto_same h entry.Listen _ _ (omega arith) now.listens;
            releases = now.releases;
            marks = now.marks;
            lays = now.lays;
            outs = now.outs;
            takes = now.takes;
            within = now.within;
          };
          order = λ o. o;
        })
      ]

  -- a take adds its entry: what was seen full went out before
  pub takes_part_adds : (g : Shape) → IsShape g → (s : Core A) (q : ℕ) (a : A) (h : List Entry) → Sound g s → IsAllowed g s (TakePart q a) → Tells g s h
      → Adds g (after g s (TakePart q a)) h (entries g s (TakePart q a))
  takes_part_adds g v s q a h r may told =
      let claim : ℕ → ℕ = λ n. s.word (Claim n) in let take : ℕ → ℕ = λ x. s.word (Take x) in let piece : ℕ → ℕ → ℕ = λ d j. s.word (Piece d j) in let released : ℕ = round_in (s.word Release) in
      let t : ℕ = q / 32 in let w : ℕ = bit_or (take t) (2 ^ (q % 32)) in
      let inside = may.0 in let active = may.1 in let all = active.0 in let busy = active.1 in let lacks = may.2 in
      let word = take_word g q inside in
      let round = r.receiving.take_now t (omega arith) in
      let current = r.progress.current in
      let kept : round_in w ≡ round_in (take t) = round_or (take t) (q % 32) (omega arith) in
      let gains : bit w (q % 32) ≡ 1 = bit_or_here (take t) (q % 32) in
      let next : next_round (put take t w) q ≡ s.recv.round + 1 = put_at take t w (λ z. round_in z + bit z (q % 32) ≡ s.recv.round + 1) t (λ _. omega arith) (λ o. absurd (o refl)) in
      record {
        tells = told_take g claim take (put take t w) piece released s.send s.recv h q inside (omega arith) (omega arith) next
            (λ p l other. put_at take t w (λ z. round_in z + bit z (p % 32) ≡ next_round take p) (p / 32)
            (λ f. let b = bit_or_else (take t) (q % 32) (p % 32) (λ x. other (omega arith)) in
            let x : round_in (take t) + bit (take t) (p % 32) ≡ next_round take p = ap (λ z. round_in (take z) + bit (take z) (p % 32)) (sym f) in omega arith)
            (λ _. refl)) told;
        order = λ o. (
          (
            inside,
            not_above h (λ k. entry.Take k q) _ s.recv.round (told.takes q inside) (omega arith),
            has_below h entry.Listen _ s.recv.round told.listens (omega arith) (omega arith),
            (λ i l touch.
                let f = full_now g v s i r l (may.3 i l touch) busy in let near = f.0 in
                has_below h (λ m. entry.Out m i) _ s.recv.round (told.outs i l) (omega arith) (out_now g v s i r l (omega arith) near f.1)),
            (λ j m has.
                let l = told.within.takes j m has in let b = ((told.takes m l j).0 has).1 in
                let now = r.receiving.take_now (m / 32) (let y = take_word g m l in omega arith) in let small = bit_lt (take (m / 32)) (m % 32) in omega arith),
          ),
          o,
        );
      }

  -- a release adds its entry: each partition was taken before
  pub stores_release_adds : (g : Shape) → IsShape g → (s : Core A) (k : ℕ) (h : List Entry) → Sound g s → IsAllowed g s (StoreRelease k) → Tells g s h
      → Adds g (after g s (StoreRelease k)) h (entries g s (StoreRelease k))
  stores_release_adds g v s k h r may told =
      let claim : ℕ → ℕ = λ n. s.word (Claim n) in let take : ℕ → ℕ = λ x. s.word (Take x) in let piece : ℕ → ℕ → ℕ = λ d j. s.word (Piece d j) in let released : ℕ = round_in (s.word Release) in
      let busy = may.1.1 in let all = may.1.0 in let current = r.progress.current in
      record {
        tells = subst (λ (z : ℕ). Told g claim take piece (round_in (empty s.recv.round)) s.send (record s.recv { released = 1 }) (entry.Release z ∷ h)) (sym may.0)
            (told_release g claim take piece released (round_in (empty s.recv.round)) s.send s.recv h (omega arith) (empty_round s.recv.round) told);
        order = λ o. (
          subst (λ (z : ℕ). Follows g h (entry.Release z)) (sym may.0) (
            omega arith,
            not_above h entry.Release _ s.recv.round told.releases (omega arith),
            (λ q l.
                let now = r.receiving.take_now (q / 32) (let y = take_word g q l in omega arith) in let one = (may.2 q l).0 in
                has_below h (λ m. entry.Take m q) _ s.recv.round (told.takes q l) (omega arith) (omega arith)),
            (λ two. has_below h entry.Release _ (s.recv.round - 1) told.releases (omega arith) (omega arith)),
          ),
          o,
        );
      }
