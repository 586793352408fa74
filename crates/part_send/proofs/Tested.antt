-- What the looks of a test tell: at the claim words in order, and at the piece words in order.
use Rattle.std.proofs.Common.{◌≡◌, ℕ, suc, ◌+◌, ◌/◌, ◌%◌, ◌<◌, ◌≤◌, true, false, ◌==◌, true≢false, List, [], ◌∷◌, Contains, refl, sym, ap, ◌∙◌, subst, arith, inl, inr}
use Rattle.std.specs.Prelude.{MatchOption, Option, Some, None}
use Rattle.std.proofs.lemmas.Bool.{cases_eq, cases_Bool, eqb-true, and_parts}
use Rattle.gate_word.specs.Words.{round_in}
use Rattle.part_geometry.specs.Shape.{Shape, IsShape}
use Rattle.part_geometry.specs.Pieces.{pieces}
use Rattle.pair_core.specs.Words.{bit}
use Rattle.pair_core.specs.Names.{Name, Claim, Release, Piece, Fits, claim_words}
use Rattle.pair_core.specs.Core.{is_mark, times}
use Rattle.pair_core.specs.Reading.{part_bit, IsFull, is_full}
use Rattle.pair_core.specs.Moves.{IsSendActive, MayShut}
use Rattle.pair_core.specs.declared.view.Mark.{Mark}
use Rattle.pair_core.proofs.Full.{full_passes, passes_full}
use Rattle.pair_rule.specs.Views.{seen, saw}
use Rattle.pair_rule.specs.Told.{Learns}
use Rattle.pair_rule.specs.declared.view.View.{View}
use Rattle.part_send.specs.Ends.{IsWide}
use Rattle.part_send.specs.Looking.{HasSeen, OnlyLooked}
use Rattle.part_send.specs.Testing.{AreClaimed, AreFull, IsUnmarked, IsUnsent, IsUnreleased, Stops}
use Rattle.part_send.specs.declared.answers.SendTest.{SendTest}
use Rattle.part_send.specs.declared.answers.SendTest.TheVariants.{Idle, Unmarked, Unsent, Unreleased, Done}
use Rattle.part_send.proofs.Views.{seen_here, seen_else, saw_looked, saw_found, then_looked, then_found}

in_rest : (x y : Mark (List ℕ)) (xs : List (Mark (List ℕ))) → Contains xs y → Contains (x ∷ xs) y
in_rest x y xs h = (suc h.0, omega (arith, h.1), h.2)

-- a list has no mark of a round and a partition where each mark that it has is another
pub times_none : (k p : ℕ) (ms : List (Mark (List ℕ))) → ((m : Mark (List ℕ)) → Contains ms m → m.round ≡ k → m.partition ≡ p → ⊥) → times k p ms ≡ 0
times_none k p [] none = refl
times_none k p (m ∷ ms) none = elim (cases_Bool (is_mark k p m)) [
  | inl same ↦
      let both = and_parts (m.round == k) (m.partition == p) same in
      absurd (none m (0, omega arith, refl) (eqb-true m.round k both.0) (eqb-true m.partition p both.1))
  | inr other ↦ rw other (let rest = times_none k p ms (λ n here. none n (in_rest m n ms here)) in omega arith)
]

-- what a test has looked at so far, and that its side is active
pub record Looks (old d : View) : Type 0 where
  -- the end did nothing but look
  pub looked : OnlyLooked old d
  -- its view has all words
  pub wide : IsWide d
  -- its seat is the send side's
  pub zeroth : d.number ≡ 0
  -- and the side is active
  pub active : IsSendActive d.geometry d.send

module _ (old d : View) (l : Looks old d) (x : Name) (fits : Fits d.geometry x) (w : ℕ) (learns : Learns d x w) where
  -- with a look more, the end still did nothing but look
  pub next_looked : OnlyLooked old (saw x w d)
  next_looked = then_looked old d (saw x w d) l.looked (saw_looked d l.wide x fits w learns.later)

  -- and it has seen the word that was found
  pub next_found : HasSeen old (saw x w d) x w
  next_found = then_found old d (saw x w d) x w l.looked (saw_found d l.wide x fits w learns.later)

module _ (old d : View) (l : Looks old d) (c : ℕ) (inside : c < claim_words d.geometry) (w : ℕ) (learns : Learns d (Claim c) w) where
  geometry : d.geometry ≡ old.geometry
  geometry = ap (λ (z : View). z.geometry) l.looked.same

  round : d.send.round ≡ old.send.round
  round = ap (λ (z : View). z.send.round) l.looked.same

  here : seen (saw (Claim c) w d) (Claim c) ≡ w
  here = seen_here d l.wide (Claim c) inside w

  -- a claim word that is found is open in the side's round
  pub claim_open : (round_in w ≡ d.send.round) × (bit w 32 ≡ 0)
  claim_open = subst (λ (z : ℕ). (round_in z ≡ d.send.round) × (bit z 32 ≡ 0)) here (learns.after.opened l.zeroth l.active c inside)

  -- the partitions of the words before this one are claimed, and of this one those below p
  pub claimed_next : (p : ℕ) → p ≤ d.geometry.send_parts
      → ((j : ℕ) → j < old.geometry.send_parts → j / 32 < c → (round_in (seen d (Claim (j / 32))) ≡ old.send.round) × (part_bit (λ b. seen d (Claim b)) j ≡ 1))
      → ((j : ℕ) → j < p → j / 32 ≡ c → bit w (j % 32) ≡ 1)
      → (j : ℕ) → j < p → j / 32 < c + 1 → (round_in (seen (saw (Claim c) w d) (Claim (j / 32))) ≡ d.send.round) × (part_bit (λ b. seen (saw (Claim c) w d) (Claim b)) j ≡ 1)
  claimed_next p few before this j low word = elim (cases_eq (j / 32) c) [
    | inl e ↦
        subst (λ (z : ℕ). (round_in (seen (saw (Claim c) w d) (Claim z)) ≡ d.send.round) × (bit (seen (saw (Claim c) w d) (Claim z)) (j % 32) ≡ 1)) (sym e)
        (subst (λ (z : ℕ). (round_in z ≡ d.send.round) × (bit z (j % 32) ≡ 1)) (sym here) (claim_open.0, this j low e))
    | inr other ↦
        let small : j < d.geometry.send_parts = omega arith in
        let there : j / 32 < claim_words d.geometry = omega arith in
        let was = before j (subst (λ (z : Shape). j < z.send_parts) geometry small) (omega arith) in
        subst (λ (z : ℕ). (round_in z ≡ d.send.round) × (bit z (j % 32) ≡ 1)) (sym (seen_else d (Claim c) (Claim (j / 32)) w inside there (λ e. absurd (other (cc)))))
        (was.0 ∙ sym round, was.1)
  ]

  -- p is the least partition that isn't marked, where the word lacks it and has those before it
  pub unmarked : (p : ℕ) → p < d.geometry.send_parts → p / 32 ≡ c → bit w (p % 32) ≡ 0
      → ((j : ℕ) → j < old.geometry.send_parts → j / 32 < c → (round_in (seen d (Claim (j / 32))) ≡ old.send.round) × (part_bit (λ b. seen d (Claim b)) j ≡ 1))
      → ((j : ℕ) → j < p → j / 32 ≡ c → bit w (j % 32) ≡ 1) → IsUnmarked old (saw (Claim c) w d) p w
  unmarked p small is lacks before this = record {
    inside = subst (λ (z : Shape). p < z.send_parts) geometry small;
    found = subst (λ (z : ℕ). HasSeen old (saw (Claim c) w d) (Claim z) w) (sym is) (next_found old d l (Claim c) inside w learns);
    now = (claim_open.0 ∙ round, claim_open.1);
    lacks = lacks;
    least = λ j low. claimed_next p (omega arith) before this j low (omega arith);
    own = times_none old.send.round p old.marks (λ m mine k same.
        let own : Contains d.marks m = subst (λ (z : View). Contains z.marks m) (sym l.looked.same) mine in
        let at : m.partition / 32 ≡ c = ap (λ (z : ℕ). z / 32) same ∙ is in
        let less = learns.marks m own at in
        let none : bit w (m.partition % 32) ≡ 0 = ap (λ (z : ℕ). bit w (z % 32)) same ∙ lacks in
        let open' = claim_open.0 in let e = round in omega arith);
  }

  -- all partitions of this word are claimed too
  pub claimed_more : ((j : ℕ) → j < old.geometry.send_parts → j / 32 < c → (round_in (seen d (Claim (j / 32))) ≡ old.send.round) × (part_bit (λ b. seen d (Claim b)) j ≡ 1))
      → ((j : ℕ) → j < d.geometry.send_parts → j / 32 ≡ c → bit w (j % 32) ≡ 1)
      → (j : ℕ) → j < old.geometry.send_parts → j / 32 < c + 1
      → (round_in (seen (saw (Claim c) w d) (Claim (j / 32))) ≡ old.send.round) × (part_bit (λ b. seen (saw (Claim c) w d) (Claim b)) j ≡ 1)
  claimed_more before this j low word =
      let h = claimed_next d.geometry.send_parts (omega arith) before this j (subst (λ (z : Shape). j < z.send_parts) (sym geometry) low) word in
      (h.0 ∙ round, h.1)

module _ (old d : View) (l : Looks old d) (v : IsShape d.geometry) (i : ℕ) (inside : i < pieces d.geometry) (w : ℕ)
    (deep : d.send.round % d.geometry.depth < d.geometry.depth) (learns : Learns d (Piece (d.send.round % d.geometry.depth) i) w) where
  same_claims : (n : ℕ) → n ≤ d.geometry.send_parts → AreClaimed d n → AreClaimed (saw (Piece (d.send.round % d.geometry.depth) i) w d) n
  same_claims n few claimed p low =
      let there : p / 32 < claim_words d.geometry = omega arith in
      subst (λ (z : ℕ). (round_in z ≡ d.send.round) × (bit z (p % 32) ≡ 1))
      (sym (seen_else d (Piece (d.send.round % d.geometry.depth) i) (Claim (p / 32)) w (deep, inside) there (λ e. absurd (cc)))) (claimed p low)

  same_pieces : AreFull d i → AreFull (saw (Piece (d.send.round % d.geometry.depth) i) w d) i
  same_pieces full j low =
      subst (λ (z : ℕ). IsFull d.geometry z d.send.round j)
      (sym (seen_else d (Piece (d.send.round % d.geometry.depth) i) (Piece (d.send.round % d.geometry.depth) j) w (deep, inside) (deep, omega arith)
      (λ e. let f : j ≡ i = cc in absurd (omega arith)))) (full j low)

  -- a look at a piece leaves what was seen of claims
  pub claims_stay : AreClaimed d d.geometry.send_parts → AreClaimed (saw (Piece (d.send.round % d.geometry.depth) i) w d) d.geometry.send_parts
  claims_stay = same_claims d.geometry.send_parts (omega arith)

  -- where its word is full, the pieces below i + 1 are
  pub full_more : AreFull d i → is_full d.geometry w d.send.round i ≡ true → AreFull (saw (Piece (d.send.round % d.geometry.depth) i) w d) (i + 1)
  full_more full passes j low = elim (cases_eq j i) [
    | inl e ↦
        subst (λ (z : ℕ). IsFull d.geometry (seen (saw (Piece (d.send.round % d.geometry.depth) i) w d) (Piece (d.send.round % d.geometry.depth) z)) d.send.round z) (sym e)
        (subst (λ (z : ℕ). IsFull d.geometry z d.send.round i) (sym (seen_here d l.wide (Piece (d.send.round % d.geometry.depth) i) (deep, inside) w))
        (passes_full d.geometry v w d.send.round i inside passes))
    | inr other ↦ same_pieces full j (omega arith)
  ]

  -- where it isn't, i is the least that isn't full, and a marker is out
  pub unsent : AreClaimed d d.geometry.send_parts → AreFull d i → is_full d.geometry w d.send.round i ≡ false
      → IsUnsent old (saw (Piece (d.send.round % d.geometry.depth) i) w d) i w
  unsent claimed full fails =
      let g : d.geometry ≡ old.geometry = ap (λ (z : View). z.geometry) l.looked.same in
      let s : d.send ≡ old.send = ap (λ (z : View). z.send) l.looked.same in
      let lacks : ¬ IsFull d.geometry w d.send.round i = λ h. true≢false (sym (full_passes d.geometry v w d.send.round i inside h) ∙ fails) in
      let some : 1 ≤ d.send.markers = elim (cases_eq d.send.markers 0) [
        | inl none ↦ absurd (lacks (learns.full.1 l.zeroth none l.active refl (λ p low. (claimed p low).1)))
        | inr other ↦ omega arith
      ] in
      record {
        inside = subst (λ (z : Shape). i < pieces z) g inside;
        claimed = subst (λ (z : Shape). AreClaimed (saw (Piece (d.send.round % d.geometry.depth) i) w d) z.send_parts) g (claims_stay claimed);
        found = subst (λ (z : View). HasSeen old (saw (Piece (d.send.round % d.geometry.depth) i) w d) (Piece (z.send.round % z.geometry.depth) i) w) l.looked.same
            (next_found old d l (Piece (d.send.round % d.geometry.depth) i) (deep, inside) w learns);
        lacks = subst (λ (z : View). ¬ IsFull z.geometry w z.send.round i) l.looked.same lacks;
        least = same_pieces full;
        out = subst (λ (z : View). 1 ≤ z.send.markers) l.looked.same some;
      }

-- what ends a test ends it from an earlier view too
pub stops_from : (old d new : View) (answer : SendTest) → OnlyLooked old d → Stops d new answer → Stops old new answer
stops_from old d new Idle looked h = h
stops_from old d new (Unmarked p w) looked h =
    let k = subst (λ (z : View). IsUnmarked z new p w) looked.same h in
    record { inside = k.inside; found = then_found old d new (Claim (p / 32)) w looked h.found; now = k.now; lacks = k.lacks; least = k.least; own = k.own }
stops_from old d new (Unsent i w) looked h =
    let k = subst (λ (z : View). IsUnsent z new i w) looked.same h in
    record {
      inside = k.inside;
      claimed = k.claimed;
      found = subst (λ (z : View). HasSeen old new (Piece (z.send.round % z.geometry.depth) i) w) looked.same
          (then_found old d new (Piece (d.send.round % d.geometry.depth) i) w looked h.found);
      lacks = k.lacks;
      least = k.least;
      out = k.out;
    }
stops_from old d new (Unreleased r) looked h =
    let k = subst (λ (z : View). IsUnreleased z new r) looked.same h in
    record { claimed = k.claimed; full = k.full; word = h.word; found = then_found old d new Release h.word looked h.found; round = h.round; room = k.room }
stops_from old d new Done looked h = h

-- the same of a look that ends it or lets all be shut
pub looked_from : (old d new : View) (r : Option SendTest) → OnlyLooked old d → MatchOption r (MayShut d.geometry (seen new) d.send.round) (Stops d new)
    → MatchOption r (MayShut old.geometry (seen new) old.send.round) (Stops old new)
looked_from old d new None looked h = subst (λ (z : View). MayShut z.geometry (seen new) z.send.round) looked.same h
looked_from old d new (Some answer) looked h = stops_from old d new answer looked h
