-- What a look tells: the word found is later than the one seen, the seat's own marks stand in it, a piece that was full in the
-- round of the seat's side is full still, and of its claim words the active send side knows that they are open.
use Rattle.std.proofs.Common.{◌≡◌, ℕ, ◌%◌, ◌/◌, ◌<◌, Bool, List, Contains, refl, sym, ap, ◌∙◌, subst, arith}
use Rattle.gate_word.specs.Words.{round_in}
use Rattle.gate_word.specs.Order.{IsLater}
use Rattle.part_geometry.specs.Shape.{Shape, IsShape}
use Rattle.part_geometry.specs.Pieces.{Touches}
use Rattle.pair_core.specs.Words.{bit, next}
use Rattle.pair_core.specs.Names.{Name, Claim, Release, Take, Return, Piece, Fits, claim_words}
use Rattle.pair_core.specs.Core.{times}
use Rattle.pair_core.specs.Reading.{part_bit, IsFull}
use Rattle.pair_core.specs.Moves.{IsSendActive}
use Rattle.pair_core.specs.Sound.{Sound}
use Rattle.pair_core.specs.declared.view.SendSide.{SendSide}
use Rattle.pair_core.specs.declared.view.RecvSide.{RecvSide}
use Rattle.pair_core.specs.declared.view.Mark.{Mark}
use Rattle.pair_core.proofs.Facts.{bit_lt, later_bit}
use Rattle.pair_rule.specs.Rule.{Shown, Agrees}
use Rattle.pair_rule.specs.Views.{seen, saw}
use Rattle.pair_rule.specs.Told.{HasMarks, IsFullStill, AreOpen, KnowsMarks, Knows, Learns}
use Rattle.pair_rule.specs.declared.view.View.{View}
use Rattle.pair_rule.proofs.Core.{CoreLaws}
use Rattle.pair_rule.proofs.Marks.{times_in}
use Rattle.pair_rule.proofs.Allowed.{seen_same, seen_of, unspent, word_there}

module _ (c : Shown) (alone : Bool) (markers watchers : ℕ) (seat : ℕ → ℕ) (id : ℕ) (d : View) (v : IsShape d.geometry) (L : CoreLaws d.geometry) (sound : Sound d.geometry c) (a : Agrees d.geometry c alone markers watchers seat id d) where
  has_marks : (x : Name) → HasMarks d x (c.word x)
  has_marks (Claim b) = λ m mine here.
      let o = sound.marks.own d.number m.round m.partition (times_in m (c.marks d.number) (subst (λ (z : List (Mark (List ℕ))). Contains z m) a.marks_is mine)) in
      subst (λ (z : ℕ). m.round < next (c.word (Claim z)) (m.partition % 32)) here o.3
  has_marks Release = tt
  has_marks (Take t) = tt
  has_marks (Return t) = tt
  has_marks (Piece e i) = tt

  received_full : (e i : ℕ) → d.number ≡ 1 → Fits d.geometry (Piece e i) → (z : RecvSide) → c.recv ≡ z → z.released ≡ 0 → e ≡ z.round % d.geometry.depth
      → IsFull d.geometry (seen d (Piece e i)) z.round i → IsFull d.geometry (c.word (Piece e i)) z.round i
  received_full e i first fits z same = subst (λ (y : RecvSide). y.released ≡ 0 → e ≡ y.round % d.geometry.depth → IsFull d.geometry (seen d (Piece e i)) y.round i → IsFull d.geometry (c.word (Piece e i)) y.round i) same
      (λ unreleased here full.
      let g : Shape = d.geometry in let k : ℕ = c.recv.round in
      let seen' : IsFull g (c.seen 1 (Piece e i)) k i = subst (λ (y : ℕ). IsFull g y k i) (seen_of g v c alone markers watchers seat id d a 1 first (Piece e i) fits) full in
      subst (λ (y : ℕ). IsFull g (c.word (Piece y i)) k i) (sym here)
      (L.facts.stays_full c 1 i sound unreleased (unspent g v c alone markers watchers seat id d a 1 first) fits.1 (subst (λ (y : ℕ). IsFull g (c.seen 1 (Piece y i)) k i) here seen')))

  sent_full : (e i : ℕ) → d.number ≡ 0 → Fits d.geometry (Piece e i) → (z : SendSide) → c.send ≡ z → z.markers ≡ 0 → IsSendActive d.geometry z → e ≡ z.round % d.geometry.depth
      → ((p : ℕ) → p < d.geometry.send_parts → part_bit (λ b. seen d (Claim b)) p ≡ 1) → IsFull d.geometry (c.word (Piece e i)) z.round i
  sent_full e i zeroth fits z same = subst (λ (y : SendSide). y.markers ≡ 0 → IsSendActive d.geometry y → e ≡ y.round % d.geometry.depth
      → ((p : ℕ) → p < d.geometry.send_parts → part_bit (λ b. seen d (Claim b)) p ≡ 1) → IsFull d.geometry (c.word (Piece e i)) y.round i) same
      (λ none active here all.
      let g : Shape = d.geometry in
      let claimed : (p : ℕ) → Touches g i p → part_bit (λ b. c.word (Claim b)) p ≡ 1 = λ p touch.
      let inside : p < g.send_parts = L.touched i p fits.1 touch in let there : p / 32 < claim_words g = word_there p g.send_parts inside in
      let one : bit (c.seen 0 (Claim (p / 32))) (p % 32) ≡ 1 = ap (λ (y : ℕ). bit y (p % 32)) (sym (seen_of g v c alone markers watchers seat id d a 0 zeroth (Claim (p / 32)) there)) ∙ all p inside in
      let open' = L.facts.seen_open c (p / 32) sound active there in
      let word = sound.gates.is_open (p / 32) (let e0 = active.1 in omega arith) (let e1 = active.0 in omega arith) in
      let grown = later_bit (c.seen 0 (Claim (p / 32))) (c.word (Claim (p / 32))) (sound.seen.present 0 (Claim (p / 32)) (unspent g v c alone markers watchers seat id d a 0 zeroth) there) (open'.0 ∙ sym word.0) (p % 32) (omega arith) in
      let small = bit_lt (c.word (Claim (p / 32))) (p % 32) in
      omega arith in
      subst (λ (y : ℕ). IsFull g (c.word (Piece y i)) c.send.round i) (sym here) (L.facts.all_laid c i sound none active fits.1 claimed))

  full_still : (x : Name) → Fits d.geometry x → IsFullStill d x (c.word x)
  full_still (Piece e i) fits = (
    λ first. received_full e i first fits d.recv (sym (a.recv_is first)),
    λ zeroth. sent_full e i zeroth fits d.send (sym (a.send_is zeroth)),
  )
  full_still (Claim b) fits = tt
  full_still Release fits = tt
  full_still (Take t) fits = tt
  full_still (Return t) fits = tt

  knows_at : Knows d
  knows_at = record {
    opened = opened;
    known = known;
  } where
    opened : d.number ≡ 0 → IsSendActive d.geometry d.send → AreOpen d
    opened zeroth active b there =
        let same : d.send ≡ c.send = a.send_is zeroth in
        let open' = L.facts.seen_open c b sound (subst (IsSendActive d.geometry) same active) there in
        let word = seen_of d.geometry v c alone markers watchers seat id d a 0 zeroth (Claim b) there in
        (ap round_in word ∙ (open'.0 ∙ sym (ap (λ (z : SendSide). z.round) same)), ap (λ (z : ℕ). bit z 32) word ∙ open'.1)

    known : d.number ≡ 0 → IsSendActive d.geometry d.send → d.send.markers ≡ 0 → KnowsMarks d
    known zeroth active none p inside claimed =
        let same : d.send ≡ c.send = a.send_is zeroth in
        let there : p / 32 < claim_words d.geometry = word_there p d.geometry.send_parts inside in
        let word = seen_of d.geometry v c alone markers watchers seat id d a 0 zeroth (Claim (p / 32)) there in
        let marks : d.marks ≡ c.marks 0 = a.marks_is ∙ ap c.marks zeroth in
        let one = L.facts.seen_marked c p sound (sym (ap (λ (z : SendSide). z.markers) same) ∙ none) (subst (IsSendActive d.geometry) same active) inside
        (ap (λ (z : ℕ). bit z (p % 32)) (sym word) ∙ claimed) in
        (λ i. times (same i).round p (marks i)) ∙ one

  learns_at : (x : Name) → Fits d.geometry x → Knows (saw x (c.word x) d) → Learns d x (c.word x)
  learns_at x fits after = record {
    later = subst (λ (z : ℕ). IsLater z (c.word x)) (sym (seen_same d.geometry v c alone markers watchers seat id d a x fits))
        (sound.seen.present d.number x (unspent d.geometry v c alone markers watchers seat id d a d.number refl) fits);
    marks = has_marks x;
    full = full_still x fits;
    after = after;
  }

-- the same where the table has the view's geometry
pub learns : (g : Shape) → IsShape g → CoreLaws g → (c : Shown) (alone : Bool) (markers watchers : ℕ) (seat : ℕ → ℕ) (id : ℕ) (d : View) → Sound g c → Agrees g c alone markers watchers seat id d
    → (x : Name) → Fits g x → Knows (saw x (c.word x) d) → Learns d x (c.word x)
learns g v L c alone markers watchers seat id d sound a x fits =
    let here : g ≡ d.geometry = sym a.geometry in
    learns_at c alone markers watchers seat id d (subst IsShape here v) (subst CoreLaws here L) (subst (λ (z : Shape). Sound z c) here sound)
    (subst (λ (z : Shape). Agrees z c alone markers watchers seat id d) here a) x (subst (λ (z : Shape). Fits z x) here fits)

pub knows : (g : Shape) → IsShape g → CoreLaws g → (c : Shown) (alone : Bool) (markers watchers : ℕ) (seat : ℕ → ℕ) (id : ℕ) (d : View) → Sound g c → Agrees g c alone markers watchers seat id d
    → Knows d
knows g v L c alone markers watchers seat id d sound a =
    let here : g ≡ d.geometry = sym a.geometry in
    knows_at c alone markers watchers seat id d (subst IsShape here v) (subst CoreLaws here L) (subst (λ (z : Shape). Sound z c) here sound)
    (subst (λ (z : Shape). Agrees z c alone markers watchers seat id d) here a)
