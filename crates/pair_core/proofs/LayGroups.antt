-- What is left of the groups when a partition is laid into a piece, whose word then has its bit. A group reads of the
-- piece words what `Fills` says; the claim owes one piece less, and the slots that its partition has there come home.
use Rattle.std.proofs.Common.{◌≡◌, ◌≢◌, ◌⊎◌, inl, inr, ⊎_elim, ℕ, ◌-◌, ◌/◌, ◌%◌, ◌^◌, ◌<◌, ◌≤◌, Bool, true, false, ◌==◌, ◌&&◌, List, ◌∷◌, Option, Some, refl, sym, ap, ◌∙◌, subst, arith, bit_or}
use Rattle.std.specs.Prelude.{◌↔◌}
use Rattle.std.proofs.lemmas.Bool.{cases_eq, cases_Bool, eqb-true, eq-eqb, and_parts, and_from, false≢true}
use Rattle.gate_word.specs.Words.{round_in}
use Rattle.part_geometry.specs.Shape.{Shape, IsShape}
use Rattle.part_geometry.specs.Cells.{cells, send_of, recv_of}
use Rattle.part_geometry.specs.Pieces.{pieces, piece_of, first_part, Touches}
use Rattle.pair_core.specs.Names.{put, put_pair}
use Rattle.pair_core.specs.Core.{Slot, Home, Out, has}
use Rattle.pair_core.specs.Reading.{part_bit, laid, IsFull, last_round}
use Rattle.pair_core.specs.Steps.{put_slots, left_of}
use Rattle.pair_core.specs.Sound.{Pieces, Arrived, IsClaimed, IsPending, Claims, IsHeld, HasRound, Slots, Takes}
use Rattle.pair_core.specs.declared.view.Mark.{Mark}
use Rattle.pair_core.specs.declared.view.Pending.{Pending}
use Rattle.pair_core.specs.declared.view.SendSide.{SendSide}
use Rattle.pair_core.specs.declared.view.RecvSide.{RecvSide}
use Rattle.pair_core.specs.declared.view.Life.{Life}
use Rattle.pair_core.proofs.Words.{bit_lt, bit_or_here, bit_or_else, bit_or_more, round_or}
use Rattle.pair_core.proofs.Puts.{put_here, put_else, put_cases, put_pair_here, put_pair_cases}
use Rattle.pair_core.proofs.Cut.{cell_recv, cell_piece, cell_touches, cell_touches_recv, bit_small, bits_apart}
use Rattle.pair_core.proofs.ClaimGroups.{slots_cases}
use Rattle.pair_core.proofs.LayLists.{has_here, has_else, on_from, goes_on}

-- the piece words h are the words f but for the bit of partition p in piece i at place d, which h has
pub record Fills (g : Shape) (f h : ℕ → ℕ → ℕ) (d i p : ℕ) : Type 0 where
  -- each word has the round that it had
  pub round : (e j : ℕ) → round_in (h e j) ≡ round_in (f e j)
  -- no piece has less than before
  pub more : (e j q : ℕ) → laid g (f e j) j q ≤ laid g (h e j) j q
  -- piece i at place d has p
  pub here : laid g (h d i) i p ≡ 1
  -- and any other piece or partition is as it was
  pub rest : (e j q : ℕ) → j < pieces g → Touches g j q → ¬ ((e ≡ d) × (j ≡ i) × (q ≡ p)) → laid g (h e j) j q ≡ laid g (f e j) j q

-- the or of p's bit to the word makes such words
pub fills : (g : Shape) → IsShape g → (f : ℕ → ℕ → ℕ) (d i p : ℕ) → i < pieces g → Touches g i p → Fills g f (put_pair f d i (bit_or (f d i) (2 ^ (p - first_part g i)))) d i p
fills g v f d i p inside t =
    let b : ℕ = p - first_part g i in
    let w : ℕ = bit_or (f d i) (2 ^ b) in
    let small = bit_small g v i p inside t in
    record {
      round = λ e j. put_pair_cases f d i w (λ m n z. round_in z ≡ round_in (f m n)) (round_or (f d i) b (omega arith)) (λ _ _ _. refl) e j;
      more = λ e j q. put_pair_cases f d i w (λ m n z. laid g (f m n) n q ≤ laid g z n q) (bit_or_more (f d i) b (q - first_part g i)) (λ _ _ _. omega arith) e j;
      here = ap (λ (z : ℕ). laid g z i p) (put_pair_here f d i w) ∙ bit_or_here (f d i) b;
      rest = λ e j q low u other. put_pair_cases f d i w (λ m n z. (e ≡ m) → (j ≡ n) → laid g z n q ≡ laid g (f m n) n q)
          (λ place same. bit_or_else (f d i) b (q - first_part g i)
          (λ bits. bits_apart g v i q p inside (subst (λ (z : ℕ). Touches g z q) same u) t (λ parts. other (place, same, parts)) bits))
          (λ _ _ _ _ _. refl) e j refl refl;
    }

-- what a piece had it has
pub fills_one : (g : Shape) (f h : ℕ → ℕ → ℕ) (d i p : ℕ) → Fills g f h d i p → (e j q : ℕ) → laid g (f e j) j q ≡ 1 → laid g (h e j) j q ≡ 1
fills_one g f h d i p a e j q one = let m = a.more e j q in let small = bit_lt (h e j) (q - first_part g j) in omega arith

-- a piece that was full is full
pub fills_full : (g : Shape) (f h : ℕ → ℕ → ℕ) (d i p : ℕ) → Fills g f h d i p → (e j k : ℕ) → IsFull g (f e j) k j → IsFull g (h e j) k j
fills_full g f h d i p a e j k full = record { round = a.round e j ∙ full.round; all = λ q t. fills_one g f h d i p a e j q (full.all q t) }

-- in the words h a bit is that of p in piece i, or was there before
pub fills_was : (g : Shape) (f h : ℕ → ℕ → ℕ) (d i p : ℕ) → Fills g f h d i p → (e j q : ℕ) → j < pieces g → Touches g j q → laid g (h e j) j q ≡ 1
    → ((e ≡ d) × (j ≡ i) × (q ≡ p)) ⊎ (laid g (f e j) j q ≡ 1)
fills_was g f h d i p a e j q low t one = elim (cases_eq e d) [
  | inl place ↦ elim (cases_eq j i) [
    | inl same ↦ elim (cases_eq q p) [
      | inl parts ↦ inl (place, same, parts)
      | inr other ↦ inr (sym (a.rest e j q low t (λ all. other all.2)) ∙ one)
    ]
    | inr other ↦ inr (sym (a.rest e j q low t (λ all. other all.1)) ∙ one)
  ]
  | inr other ↦ inr (sym (a.rest e j q low t (λ all. other all.0)) ∙ one)
]

-- the group of the pieces holds, since p is claimed
pub pieces_fill : (g : Shape) (claim : ℕ → ℕ) (f h : ℕ → ℕ → ℕ) (send : SendSide) (i p : ℕ) → Fills g f h (send.round % g.depth) i p → send.pieces ≡ pieces g → IsClaimed claim send p
    → Pieces g claim f send → Pieces g claim h send
pieces_fill g claim f h send i p a all claimed r =
    let d : ℕ = send.round % g.depth in
    record {
      other = λ e j low inside differ. fills_full g f h d i p a e j (last_round g.depth send.round e) (r.other e j low inside differ);
      waiting = λ j low inside. fills_full g f h d i p a d j (send.round - g.depth) (r.waiting j low inside);
      current = λ j low. a.round d j ∙ r.current j low;
      ended = λ j q inside some t. fills_one g f h d i p a d j q (r.ended j q inside some t);
      claimed = λ j q low shut t one. ⊎_elim
          (λ (z : (d ≡ d) × (j ≡ i) × (q ≡ p)). (subst (λ (y : ℕ). y / 32 < send.opened) (sym z.2) claimed.1, ap (part_bit claim) z.2 ∙ claimed.2))
          (λ (z : laid g (f d j) j q ≡ 1). r.claimed j q low shut t z)
          (fills_was g f h d i p a d j q (omega arith) t one);
    }

-- what is taken is still full in its round
pub arrived_fill : (g : Shape) (take : ℕ → ℕ) (f h : ℕ → ℕ → ℕ) (recv : RecvSide) (d i p : ℕ) → Fills g f h d i p → Arrived g take f recv → Arrived g take h recv
arrived_fill g take f h recv d i p a r q j inside low active taken t =
    fills_full g f h d i p a (recv.round % g.depth) j recv.round (r q j inside low active taken t)

-- the group of the takes holds
pub takes_fill : {A : Type 0} (g : Shape) (take : ℕ → ℕ) (f h : ℕ → ℕ → ℕ) (takes : List (Mark A)) (d i p : ℕ) → Fills g f h d i p → Takes g take f takes → Takes g take h takes
takes_fill {A} g take f h takes d i p a r = record {
  own = r.own;
  all = r.all;
  out = λ k q j c l low t u.
      let o = r.out k q j c l low t u in let e = a.round (k % g.depth) j in let m = a.more (k % g.depth) j c in omega arith;
}

-- the claim that has its piece laid pends in the seat n, and lacks the piece
pub record IsLaying (g : Shape) (claim : ℕ → ℕ) (f : ℕ → ℕ → ℕ) (send : SendSide) (life : ℕ → Life) (who : ℕ → ℕ → ℕ) (n i : ℕ) (x : Pending) : Type 0 where
  -- the claim pends at n
  pub pends : IsPending g claim f send life who n x
  -- the piece is one of the pair
  pub inside : i < pieces g
  -- and touches the claim's partition
  pub touches : Touches g i x.partition
  -- the claim hasn't laid it so far
  pub missing : has x.laid i ≡ false
  -- so its word lacks the partition
  pub unlaid : laid g (f (send.round % g.depth) i) i x.partition ≡ 0

-- each pending claim that hasn't laid a piece of its partition is so
pub laying_of : (g : Shape) (claim : ℕ → ℕ) (f : ℕ → ℕ → ℕ) (send : SendSide) (life : ℕ → Life) (who : ℕ → ℕ → ℕ) (n i : ℕ) (x : Pending) → IsPending g claim f send life who n x
    → i < pieces g → Touches g i x.partition → has x.laid i ≡ false → IsLaying g claim f send life who n i x
laying_of g claim f send life who n i x pends inside t missing = record {
  pends = pends;
  inside = inside;
  touches = t;
  missing = missing;
  unlaid = let small = bit_lt (f (send.round % g.depth) i) (x.partition - first_part g i) in
      elim (cases_eq (laid g (f (send.round % g.depth) i) i x.partition) 1) [
        | inl one ↦ absurd (false≢true (sym missing ∙ (pends.laid i inside t).1 one))
        | inr other ↦ omega arith
      ];
}

-- the group of the claims holds where what is left of the claim pends at n
pub claims_fill : (g : Shape) → IsShape g → (claim : ℕ → ℕ) (f h : ℕ → ℕ → ℕ) (send : SendSide) (life : ℕ → Life) (pending : ℕ → Option Pending) (who : ℕ → ℕ → ℕ) (n i : ℕ) (x : Pending)
    → Fills g f h (send.round % g.depth) i x.partition → IsLaying g claim f send life who n i x → pending n ≡ Some x
    → Claims g claim f send life pending who → Claims g claim h send life (put pending n (left_of g i x)) who
claims_fill g v claim f h send life pending who n i x a lays at r = record {
  each = put_cases pending n (left_of g i x) (λ m o. (y : Pending) → o ≡ Some y → IsPending g claim h send life who m y)
      (λ y e. let on = on_from g v i x y e in subst (IsPending g claim h send life who n) (sym on.is) (own on.some))
      (λ m other y e.
      let o = r.each m y e in
      let differ : y.partition ≢ x.partition = λ same.
      other (sym o.seat ∙ (subst (λ (z : ℕ). who y.round z ≡ who x.round x.partition) (sym same) (ap (λ (z : ℕ). who z x.partition) (o.round ∙ sym lays.pends.round)) ∙ lays.pends.seat)) in
      record {
        round = o.round;
        partition = o.partition;
        claimed = o.claimed;
        marker = o.marker;
        live = o.live;
        seat = o.seat;
        laid = λ j inside t.
            let same = a.rest d j y.partition inside t (λ all. differ all.2) in let both = o.laid j inside t in
            (λ l. same ∙ both.0 l, λ l. both.1 (sym same ∙ l));
        some = o.some;
      });
  all = λ q j inside low t owed.
      let was = unlaid q j owed.1 in
      let o = r.all q j inside low t (owed.0, was) in
      elim (cases_eq (who send.round q) n) [
        | inl here ↦
            let same : o.0 ≡ x = (let e : Some o.0 ≡ Some x = sym o.1 ∙ (ap pending here ∙ at) in cc) in
            let part : q ≡ x.partition = sym o.2 ∙ ap (λ (z : Pending). z.partition) same in
            let u : Touches g j x.partition = subst (Touches g j) part t in
            let lacks : has (i ∷ x.laid) j ≡ false = left j low u (subst (λ (z : ℕ). laid g (h d j) j z ≡ 0) part owed.1) in
            let on = goes_on g v i x j low u lacks in
            (record x { laid = i ∷ x.laid }, ap (put pending n (left_of g i x)) here ∙ (put_here pending n (left_of g i x) ∙ on), sym part)
        | inr other ↦ (o.0, put_else pending n (left_of g i x) (who send.round q) other ∙ o.1, o.2)
      ];
}
  where
    d : ℕ
    d = send.round % g.depth

    unlaid : (q j : ℕ) → laid g (h d j) j q ≡ 0 → laid g (f d j) j q ≡ 0
    unlaid q j none = let m = a.more d j q in omega arith

    -- the pieces that have the partition are those laid so far and this one
    laid_now : (j : ℕ) → j < pieces g → Touches g j x.partition → (has (i ∷ x.laid) j ≡ true) ↔ (laid g (h d j) j x.partition ≡ 1)
    laid_now j inside t = elim (cases_eq j i) [
      | inl same ↦ subst (λ (z : ℕ). (has (i ∷ x.laid) z ≡ true) ↔ (laid g (h d z) z x.partition ≡ 1)) (sym same) (λ _. a.here, λ _. has_here i x.laid)
      | inr other ↦
          let e = a.rest d j x.partition inside t (λ all. other all.1) in let both = lays.pends.laid j inside t in let s = has_else i j x.laid other in
          (λ l. e ∙ both.0 (sym s ∙ l), λ l. s ∙ both.1 (sym e ∙ l))
    ]

    left : (j : ℕ) → j < pieces g → Touches g j x.partition → laid g (h d j) j x.partition ≡ 0 → has (i ∷ x.laid) j ≡ false
    left j inside t none = elim (cases_Bool (has (i ∷ x.laid) j)) [
      | inl on ↦ let e = (laid_now j inside t).0 on in absurd (omega arith)
      | inr off ↦ off
    ]

    own : (j : ℕ) × (j < pieces g) × Touches g j x.partition × (has (i ∷ x.laid) j ≡ false) → IsPending g claim h send life who n (record x { laid = i ∷ x.laid })
    own some = record {
      round = lays.pends.round;
      partition = lays.pends.partition;
      claimed = lays.pends.claimed;
      marker = lays.pends.marker;
      live = lays.pends.live;
      seat = lays.pends.seat;
      laid = laid_now;
      some = some;
    }

-- the group of the slots holds where those that p has in the piece came home
pub slots_fill : (g : Shape) → IsShape g → (claim take ret : ℕ → ℕ) (f h : ℕ → ℕ → ℕ) (send : SendSide) (recv : RecvSide) (slot : ℕ → ℕ → Slot) (who : ℕ → ℕ → ℕ) (i p k : ℕ)
    → Fills g f h (send.round % g.depth) i p → i < pieces g → laid g (f (send.round % g.depth) i) i p ≡ 0 → k ≡ send.round → round_in (f (send.round % g.depth) i) ≡ send.round → Arrived g take f recv
    → Slots g claim take ret f send recv slot who
    → Slots g claim take ret h send recv (put_slots slot (send.round % g.depth) (λ c. (send_of g c == p) && (piece_of g c == i)) (Home k)) who
slots_fill g v claim take ret f h send recv slot who i p k a inside free same now arrived r = record {
  lent = λ c low l. slots_cases slot d these (Home k) d c (λ z. z ≡ Out (who send.round (send_of g c)))
      (λ _ t. absurd (full c t l.1))
      (λ _. r.lent c low (l.0, (let m = a.more d (piece_of g c) (send_of g c) in let zero = l.1 in omega arith)));
  held = λ c low l. slots_cases slot d these (Home k) (recv.round % g.depth) c (λ z. z ≡ Out 1)
      (λ place t. absurd (unheld c low place t l))
      (λ _. r.held c low l);
  home = λ e c low within unlent not_held. slots_cases slot d these (Home k) e c (λ z. (j : ℕ) × (z ≡ Home j))
      (λ _ _. (k, refl))
      (λ not. r.home e c low within
      (λ both. unlent (both.0, (both.1.0, kept e c within not both.0 both.1.1)))
      not_held);
  tied = λ e c j low within. slots_cases slot d these (Home k) e c
      (λ z. z ≡ Home j → HasRound g ret (h e (piece_of g c)) c → j ≡ round_in (h e (piece_of g c)))
      (λ place t at _.
      let both = cell c t in
      let is : j ≡ k = cc in
      let round : round_in (h e (piece_of g c)) ≡ send.round =
      subst (λ (z : ℕ). round_in (h z (piece_of g c)) ≡ send.round) (sym place) (subst (λ (z : ℕ). round_in (h d z) ≡ send.round) (sym both.1) (a.round d i ∙ now)) in
      is ∙ (same ∙ sym round))
      (λ not at has_it.
      let one = has_it.laid in let late = has_it.kept in
      let t = cell_touches g c within in let b = cell_piece g c within in
      let m = a.round e (piece_of g c) in
      let was : laid g (f e (piece_of g c)) (piece_of g c) (send_of g c) ≡ 1 =
      sym (a.rest e (piece_of g c) (send_of g c) b t (λ all. not (all.0, this c all.2 all.1))) ∙ one in
      r.tied e c j low within at record { laid = was; kept = omega arith } ∙ sym m);
}
  where
    d : ℕ
    d = send.round % g.depth

    these : ℕ → Bool
    these c = (send_of g c == p) && (piece_of g c == i)

    cell : (c : ℕ) → these c ≡ true → (send_of g c ≡ p) × (piece_of g c ≡ i)
    cell c t = let both = and_parts (send_of g c == p) (piece_of g c == i) t in (eqb-true (send_of g c) p both.0, eqb-true (piece_of g c) i both.1)

    this : (c : ℕ) → send_of g c ≡ p → piece_of g c ≡ i → these c ≡ true
    this c e s = and_from (send_of g c == p) (piece_of g c == i) (eq-eqb (send_of g c) p e) (eq-eqb (piece_of g c) i s)

    full : (c : ℕ) → these c ≡ true → laid g (h d (piece_of g c)) (piece_of g c) (send_of g c) ≡ 0 → ⊥
    full c t none =
        let both = cell c t in
        let one : laid g (h d (piece_of g c)) (piece_of g c) (send_of g c) ≡ 1 =
        subst (λ (z : ℕ). laid g (h d z) z (send_of g c) ≡ 1) (sym both.1) (subst (λ (z : ℕ). laid g (h d i) i z ≡ 1) (sym both.0) a.here) in
        omega arith

    unheld : (c : ℕ) → c < cells g → recv.round % g.depth ≡ d → these c ≡ true → IsHeld g take ret recv c → ⊥
    unheld c low place t l =
        let both = cell c t in
        let whole = arrived (recv_of g c) (piece_of g c) (cell_recv g v c low) (cell_piece g c low) l.0 l.1 (cell_touches_recv g c low) in
        let one : laid g (f (recv.round % g.depth) (piece_of g c)) (piece_of g c) (send_of g c) ≡ 1 = whole.all (send_of g c) (cell_touches g c low) in
        let moved : laid g (f d i) i p ≡ 1 =
        subst (λ (z : ℕ). laid g (f z i) i p ≡ 1) place
        (subst (λ (z : ℕ). laid g (f (recv.round % g.depth) z) z p ≡ 1) both.1
        (subst (λ (z : ℕ). laid g (f (recv.round % g.depth) (piece_of g c)) (piece_of g c) z ≡ 1) both.0 one)) in
        omega arith

    kept : (e c : ℕ) → c < cells g → ¬ ((e ≡ d) × (these c ≡ true)) → e ≡ d → laid g (f d (piece_of g c)) (piece_of g c) (send_of g c) ≡ 0 → laid g (h d (piece_of g c)) (piece_of g c) (send_of g c) ≡ 0
    kept e c low not place none =
        a.rest d (piece_of g c) (send_of g c) (cell_piece g c low) (cell_touches g c low) (λ all. not (place, this c all.2 all.1)) ∙ none
