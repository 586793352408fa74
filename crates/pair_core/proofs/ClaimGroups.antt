-- What is left of the groups when the bit of one partition is added to its claim word, and its claim pends. A group
-- reads of the claim words what `Gains` says; each piece that the partition touches is owed by the new claim.
use Rattle.std.proofs.Common.{◌≡◌, ◌≢◌, inl, inr, ℕ, ◌+◌, ◌-◌, ◌/◌, ◌%◌, ◌^◌, ◌<◌, ◌≤◌, Bool, true, ◌==◌, ◌&&◌, [], Option, Some, None, refl, sym, ap, ◌∙◌, subst, arith, bit_or}
use Rattle.std.specs.Prelude.{if◌then◌else◌}
use Rattle.std.proofs.lemmas.Bool.{cases_lt, cases_eq, cases_Bool, eqb-true, eq-eqb, and_parts, and_from, false≢true}
use Rattle.gate_word.specs.Words.{round_in}
use Rattle.part_geometry.specs.Shape.{Shape, IsShape}
use Rattle.part_geometry.specs.Cells.{cells, send_of, recv_of}
use Rattle.part_geometry.specs.Pieces.{pieces, piece_of, first_part, Touches}
use Rattle.pair_core.specs.Words.{bit}
use Rattle.pair_core.specs.Names.{put, put_pair}
use Rattle.pair_core.specs.Core.{Slot, Home, Out, IsMarker}
use Rattle.pair_core.specs.Reading.{part_bit, laid}
use Rattle.pair_core.specs.Steps.{put_slots}
use Rattle.pair_core.specs.Sound.{Progress, Gates, Pieces, Arrived, IsPending, Claims, IsHeld, HasRound, Slots}
use Rattle.pair_core.specs.declared.view.Pending.{Pending}
use Rattle.pair_core.specs.declared.view.SendSide.{SendSide}
use Rattle.pair_core.specs.declared.view.RecvSide.{RecvSide}
use Rattle.pair_core.specs.declared.view.Life.{Life}
use Rattle.pair_core.specs.declared.view.Life.TheVariants.{Live}
use Rattle.pair_core.proofs.Words.{bit_lt, bit_or_here, bit_or_else, round_or}
use Rattle.pair_core.proofs.Puts.{put_here, put_else, put_cases, put_pair_here, put_pair_else}
use Rattle.pair_core.proofs.Cut.{cell_recv, cell_piece, cell_touches, cell_touches_recv, send_touched, some_claims, claim_word}

-- the words h are the words f but for the bit of partition p, which h has
pub record Gains (f h : ℕ → ℕ) (p : ℕ) : Type 0 where
  -- each word has the round that it had
  pub round : (c : ℕ) → round_in (h c) ≡ round_in (f c)
  -- and is shut where it was
  pub shut : (c : ℕ) → bit (h c) 32 ≡ bit (f c) 32
  -- p is claimed
  pub here : part_bit h p ≡ 1
  -- every other partition is claimed where it was
  pub rest : (q : ℕ) → q ≢ p → part_bit h q ≡ part_bit f q

-- the or of p's bit to p's word makes such words
pub gains : (f : ℕ → ℕ) (p : ℕ) → Gains f (put f (p / 32) (bit_or (f (p / 32)) (2 ^ (p % 32)))) p
gains f p =
    let w : ℕ = bit_or (f (p / 32)) (2 ^ (p % 32)) in
    record {
      round = λ c. put_cases f (p / 32) w (λ m v. round_in v ≡ round_in (f m)) (round_or (f (p / 32)) (p % 32) (omega arith)) (λ _ _. refl) c;
      shut = λ c. put_cases f (p / 32) w (λ m v. bit v 32 ≡ bit (f m) 32) (bit_or_else (f (p / 32)) (p % 32) 32 (omega arith)) (λ _ _. refl) c;
      here = ap (λ (z : ℕ). bit z (p % 32)) (put_here f (p / 32) w) ∙ bit_or_here (f (p / 32)) (p % 32);
      rest = λ q other. put_cases f (p / 32) w (λ m v. q / 32 ≡ m → bit v (q % 32) ≡ bit (f m) (q % 32))
          (λ word. bit_or_else (f (p / 32)) (p % 32) (q % 32) (λ same. other (omega arith))) (λ _ _ _. refl) (q / 32) refl;
    }

-- what was claimed is claimed
pub gains_one : (f h : ℕ → ℕ) (p : ℕ) → Gains f h p → (q : ℕ) → part_bit f q ≡ 1 → part_bit h q ≡ 1
gains_one f h p a q one = elim (cases_eq q p) [
  | inl e ↦ subst (λ (z : ℕ). part_bit h z ≡ 1) (sym e) a.here
  | inr other ↦ a.rest q other ∙ one
]

-- the slots of some cells at a place are changed
pub slots_cases : (slot : ℕ → ℕ → Slot) (place : ℕ) (these : ℕ → Bool) (x : Slot) (d c : ℕ) (P : Slot → Type 0)
    → (d ≡ place → these c ≡ true → P x) → (¬ ((d ≡ place) × (these c ≡ true)) → P (slot d c)) → P (put_slots slot place these x d c)
slots_cases slot place these x d c P here rest = elim (cases_Bool ((d == place) && these c)) [
  | inl holds ↦ let both = and_parts (d == place) (these c) holds in
      subst (λ (b : Bool). P (if b then x else slot d c)) (sym holds) (here (eqb-true d place both.0) both.1)
  | inr fails ↦ subst (λ (b : Bool). P (if b then x else slot d c)) (sym fails)
      (rest (λ both. false≢true (sym fails ∙ and_from (d == place) (these c) (eq-eqb d place both.0) both.1)))
]

-- partition p may be claimed: the sender's round is open for it, and no piece has it
pub record IsFree (g : Shape) (claim : ℕ → ℕ) (piece : ℕ → ℕ → ℕ) (send : SendSide) (p : ℕ) : Type 0 where
  -- p is a send partition of the pair
  pub inside : p < g.send_parts
  -- no claim word is shut in the sender's round
  pub shut : send.shut ≡ 0
  -- the word of p is opened in it
  pub opened : p / 32 < send.opened
  -- p isn't claimed
  pub lacks : part_bit claim p ≡ 0
  -- the sender is in a round
  pub round : 1 ≤ send.round
  -- which the word of p has
  pub now : round_in (claim (p / 32)) ≡ send.round
  -- all piece words are stored for it
  pub all : send.pieces ≡ pieces g
  -- and no piece that p touches has it
  pub unlaid : (i : ℕ) → i < pieces g → Touches g i p → laid g (piece (send.round % g.depth) i) i p ≡ 0

-- it may where its claim word is open and lacks it
pub free_of : (g : Shape) → IsShape g → (claim : ℕ → ℕ) (piece : ℕ → ℕ → ℕ) (released : ℕ) (send : SendSide) (recv : RecvSide) (p : ℕ) → Progress g released send recv → Gates g claim send → Pieces g claim piece send
    → p < g.send_parts → bit (claim (p / 32)) 32 ≡ 0 → part_bit claim p ≡ 0 → IsFree g claim piece send p
free_of g v claim piece released send recv p progress gates laid_in inside unshut lacks =
    let word = claim_word g p inside in
    let opened : p / 32 < send.opened = elim (cases_lt (p / 32) send.opened) [
      | inl less ↦ less
      | inr more ↦ let e = (gates.is_past (p / 32) more word).1 in absurd (omega arith)
    ] in
    let shut : send.shut ≡ 0 = elim (cases_lt 0 send.shut) [
      | inl some ↦ let e = gates.all_ended p inside some in absurd (omega arith)
      | inr none ↦ omega arith
    ] in
    let all : send.pieces ≡ pieces g = progress.opens_last (omega arith) in
    record {
      inside = inside;
      shut = shut;
      opened = opened;
      lacks = lacks;
      round = elim (cases_eq send.round 0) [
        | inl e ↦ let begun = progress.begun e in let some = some_claims g v in absurd (omega arith)
        | inr other ↦ omega arith
      ];
      now = (gates.is_open (p / 32) (omega arith) opened).0;
      all = all;
      unlaid = λ i low t.
          let small = bit_lt (piece (send.round % g.depth) i) (p - first_part g i) in
          elim (cases_eq (laid g (piece (send.round % g.depth) i) i p) 0) [
            | inl none ↦ none
            | inr other ↦ let e = (laid_in.claimed i p (omega arith) shut t (omega arith)).1 in absurd (omega arith)
          ];
    }

-- the gates hold of the words with p
pub gates_gain : (g : Shape) (f h : ℕ → ℕ) (p : ℕ) (send : SendSide) → Gains f h p → Gates g f send → Gates g h send
gates_gain g f h p send a r = record {
  is_shut = λ c high. let o = r.is_shut c high in (a.round c ∙ o.0, a.shut c ∙ o.1);
  is_open = λ c low high. let o = r.is_open c low high in (a.round c ∙ o.0, a.shut c ∙ o.1);
  is_past = λ c low high. let o = r.is_past c low high in (ap (λ (z : ℕ). z + 1) (a.round c) ∙ o.0, a.shut c ∙ o.1);
  all_ended = λ q inside some. gains_one f h p a q (r.all_ended q inside some);
  all_past = λ q inside more. gains_one f h p a q (r.all_past q inside more);
}

-- and so does the group of the pieces
pub pieces_gain : (g : Shape) (f h : ℕ → ℕ) (piece : ℕ → ℕ → ℕ) (p : ℕ) (send : SendSide) → Gains f h p → Pieces g f piece send → Pieces g h piece send
pieces_gain g f h piece p send a r = record {
  other = r.other;
  waiting = r.waiting;
  current = r.current;
  ended = r.ended;
  claimed = λ i q low shut t l. let o = r.claimed i q low shut t l in (o.0, gains_one f h p a q o.1);
}

-- a claim as it begins
abbrev pub begun : ℕ → ℕ → Pending
begun k p = record { round = k; partition = p; laid = [] }

-- the group of the claims holds where the claim of p pends at the marker n
pub claims_gain : (g : Shape) → IsShape g → (f h : ℕ → ℕ) (piece : ℕ → ℕ → ℕ) (send : SendSide) (life : ℕ → Life) (pending : ℕ → Option Pending) (who : ℕ → ℕ → ℕ) (n p : ℕ)
    → Gains f h p → IsFree g f piece send p → IsMarker n → life n ≡ Live → pending n ≡ None
    → Claims g f piece send life pending who → Claims g h piece send life (put pending n (Some (begun send.round p))) (put_pair who send.round p n)
claims_gain g v f h piece send life pending who n p a free marks live none r =
    let k : ℕ = send.round in
    let new : Pending = begun k p in
    let own : IsPending g h piece send life (put_pair who k p n) n new = record {
      round = refl;
      partition = free.inside;
      claimed = (free.shut, free.opened, a.here);
      marker = marks;
      live = live;
      seat = put_pair_here who k p n;
      laid = λ i inside t. (λ e. absurd (false≢true e), λ e. let z = free.unlaid i inside t in absurd (omega arith));
      some = let t = send_touched g v p free.inside in (t.0, t.1, t.2, refl);
    } in
    record {
      each = put_cases pending n (Some new) (λ m o. (x : Pending) → o ≡ Some x → IsPending g h piece send life (put_pair who k p n) m x)
          (λ x e. let same : new ≡ x = cc in subst (IsPending g h piece send life (put_pair who k p n) n) same own)
          (λ m _ x e.
          let o = r.each m x e in
          let other : x.partition ≢ p = λ z. (let one : part_bit f p ≡ 1 = subst (λ (y : ℕ). part_bit f y ≡ 1) z o.claimed.2 in let zero = free.lacks in omega arith) in
          record {
            round = o.round;
            partition = o.partition;
            claimed = (o.claimed.0, o.claimed.1, gains_one f h p a x.partition o.claimed.2);
            marker = o.marker;
            live = o.live;
            seat = put_pair_else who k p n x.round x.partition (λ both. other both.1) ∙ o.seat;
            laid = o.laid;
            some = o.some;
          });
      all = λ q i inside low t owed. elim (cases_eq q p) [
        | inl e ↦ (
          new,
          subst (λ (z : ℕ). put pending n (Some new) (put_pair who k p n k z) ≡ Some new) (sym e)
              (ap (put pending n (Some new)) (put_pair_here who k p n) ∙ put_here pending n (Some new)),
          sym e,
        )
        | inr other ↦
            let o = r.all q i inside low t ((owed.0.0, owed.0.1, sym (a.rest q other) ∙ owed.0.2), owed.1) in
            let seat : who k q ≢ n = λ z. (let s : pending n ≡ Some o.0 = sym (ap pending z) ∙ o.1 in absurd (cc)) in
            (o.0, ap (put pending n (Some new)) (put_pair_else who k p n k q (λ both. other both.1)) ∙ (put_else pending n (Some new) (who k q) seat ∙ o.1), o.2)
      ];
    }

out_home : (n k : ℕ) → Out n ≡ Home k → ⊥
out_home n k e = absurd (cc)

-- what is taken at the sender's place isn't free
pub free_unheld : (g : Shape) → IsShape g → (claim take ret : ℕ → ℕ) (piece : ℕ → ℕ → ℕ) (send : SendSide) (recv : RecvSide) (p c : ℕ) → IsFree g claim piece send p → Arrived g take piece recv
    → c < cells g → send_of g c ≡ p → recv.round % g.depth ≡ send.round % g.depth → ¬ IsHeld g take ret recv c
free_unheld g v claim take ret piece send recv p c free arrived inside cell place held =
    let i : ℕ = piece_of g c in let low = cell_piece g c inside in
    let full = arrived (recv_of g c) i (cell_recv g v c inside) low held.0 held.1 (cell_touches_recv g c inside) in
    let t : Touches g i p = subst (Touches g i) cell (cell_touches g c inside) in
    let one : laid g (piece (send.round % g.depth) i) i p ≡ 1 = subst (λ (d : ℕ). laid g (piece d i) i p ≡ 1) place (full.all p t) in
    let zero = free.unlaid i low t in omega arith

-- the group of the slots holds where those of p's cells at the sender's place went out to n
pub slots_gain : (g : Shape) → IsShape g → (f h take ret : ℕ → ℕ) (piece : ℕ → ℕ → ℕ) (send : SendSide) (recv : RecvSide) (slot : ℕ → ℕ → Slot) (who : ℕ → ℕ → ℕ) (n p : ℕ)
    → Gains f h p → IsFree g f piece send p → Arrived g take piece recv
    → Slots g f take ret piece send recv slot who
    → Slots g h take ret piece send recv (put_slots slot (send.round % g.depth) (λ c. send_of g c == p) (Out n)) (put_pair who send.round p n)
slots_gain g v f h take ret piece send recv slot who n p a free arrived r =
    let k : ℕ = send.round in let place : ℕ = send.round % g.depth in
    record {
      lent = λ c inside l. slots_cases slot place (λ b. send_of g b == p) (Out n) place c (λ z. z ≡ Out (put_pair who k p n k (send_of g c)))
          (λ _ t. let e = eqb-true (send_of g c) p t in ap (λ (z : ℕ). Out z) (sym (ap (put_pair who k p n k) e ∙ put_pair_here who k p n)))
          (λ not.
          let other : send_of g c ≢ p = λ e. not (refl, eq-eqb (send_of g c) p e) in
          r.lent c inside ((l.0.0, l.0.1, sym (a.rest (send_of g c) other) ∙ l.0.2), l.1) ∙ ap (λ (z : ℕ). Out z) (sym (put_pair_else who k p n k (send_of g c) (λ both. other both.1))));
      held = λ c inside l. slots_cases slot place (λ b. send_of g b == p) (Out n) (recv.round % g.depth) c (λ z. z ≡ Out 1)
          (λ d t. absurd (free_unheld g v f take ret piece send recv p c free arrived inside (eqb-true (send_of g c) p t) d l))
          (λ _. r.held c inside l);
      home = λ d c low inside unlent unheld. slots_cases slot place (λ b. send_of g b == p) (Out n) d c (λ z. (j : ℕ) × (z ≡ Home j))
          (λ e t.
          let cell = eqb-true (send_of g c) p t in
          let claimed : part_bit h (send_of g c) ≡ 1 = ap (part_bit h) cell ∙ a.here in
          let opened : send_of g c / 32 < send.opened = subst (λ (z : ℕ). z / 32 < send.opened) (sym cell) free.opened in
          let lacks : laid g (piece place (piece_of g c)) (piece_of g c) (send_of g c) ≡ 0 =
          subst (λ (z : ℕ). laid g (piece place (piece_of g c)) (piece_of g c) z ≡ 0) (sym cell)
          (free.unlaid (piece_of g c) (cell_piece g c inside) (subst (Touches g (piece_of g c)) cell (cell_touches g c inside))) in
          absurd (unlent (e, ((free.shut, opened, claimed), lacks))))
          (λ not. r.home d c low inside (λ both. unlent (both.0, ((both.1.0.0, both.1.0.1, gains_one f h p a (send_of g c) both.1.0.2), both.1.1))) unheld);
      tied = λ d c j low inside. slots_cases slot place (λ b. send_of g b == p) (Out n) d c
          (λ z. z ≡ Home j → HasRound g ret (piece d (piece_of g c)) c → j ≡ round_in (piece d (piece_of g c)))
          (λ _ _ e. absurd (out_home n j e))
          (λ _. r.tied d c j low inside);
    }
