-- A partition that was claimed, filled and laid is marked: the view has its mark and no claim, and has seen its pieces.
use Rattle.std.proofs.Common.{◌≡◌, ℕ, ◌+◌, ◌/◌, ◌%◌, ◌^◌, ◌<◌, ◌≤◌, List, [], ◌∷◌, Option, Some, None, bit_or, sym, ap, ◌∙◌, subst, arith}
use Rattle.std.specs.List.{range_with_len}
use Rattle.std.proofs.lemmas.List.{get_or-set_other}
use Rattle.std.proofs.lemmas.List.Sums.{count_by-le-length, length-filter}
use Rattle.std.proofs.lemmas.List.FromFn.{length-range_with_len}
use Rattle.gate_word.specs.Words.{round_in}
use Rattle.gate_word.specs.Order.{IsLater}
use Rattle.part_geometry.specs.declared.answers.Marked.{Marked}
use Rattle.part_geometry.specs.Shape.{Shape}
use Rattle.part_geometry.specs.Pieces.{pieces}
use Rattle.pair_core.specs.Reading.{is_full, touches, pieces_over}
use Rattle.pair_core.specs.Words.{bit}
use Rattle.pair_core.specs.Names.{Name, Claim, Piece, claim_words}
use Rattle.pair_core.specs.Steps.{mark}
use Rattle.pair_core.specs.declared.view.Pending.{Pending}
use Rattle.pair_core.proofs.Facts.{bit_or_here, bit_or_else, round_or, later_or, later_trans}
use Rattle.pair_rule.specs.Seats.{MarkHeld}
use Rattle.pair_rule.specs.Views.{seen, looks, claimed}
use Rattle.pair_rule.specs.declared.view.View.{View}
use Rattle.part_send.specs.Ends.{IsFree}
use Rattle.part_send.specs.Looking.{saw_often}
use Rattle.part_send.specs.Marking.{IsRight, HasClaimed, HasLaid, HasMarked, full_over}
use Rattle.part_send.proofs.Winning.{saw_next, often_seen, often_looks}

-- the view of a marker that claimed partition p in round k
abbrev claiming : ℕ → ℕ → List ℕ → View → View
claiming k p b d = record d { pending = Some record { round = k; partition = p; laid = [] }; marks = mark k p b ∷ d.marks }

claimed_view : (a b : MarkHeld) (k p : ℕ) (bs : List ℕ) (n : ℕ) → IsFree a → IsRight a.view.geometry p bs → (h : HasClaimed a b k p bs n)
    → b.view ≡ claiming k p bs (saw_often n (Claim (p / 32)) (bit_or h.shown (2 ^ (p % 32))) a.view)
claimed_view a b k p bs n free right h =
    let there : p / 32 < claim_words a.view.geometry = (let low = right.0 in omega arith) in
    h.won.view ∙ (ap (λ (z : ℕ). claimed z p bs (bit_or h.shown (2 ^ (p % 32))) (saw_often h.lost (Claim (p / 32)) h.shown a.view)) h.lets.0
    ∙ ap (claiming k p bs) (saw_next a.view free.wide (Claim (p / 32)) there h.lost h.shown (bit_or h.shown (2 ^ (p % 32)))
    ∙ ap (λ (m : ℕ). saw_often m (Claim (p / 32)) (bit_or h.shown (2 ^ (p % 32))) a.view) (sym h.steps)))

-- the marker's view is the one before with this mark, and the full pieces over p are what was sent
pub has_marked : (a b c d : MarkHeld) (k p : ℕ) (bs : List ℕ) (n sent : ℕ) → IsFree a → IsRight a.view.geometry p bs → HasClaimed a b k p bs n → c ≡ record b { out = c.out }
    → HasLaid c d → sent ≡ full_over d.view k p → HasMarked a.view d.view k p bs n record { round = k; partition = p; sent = sent }
has_marked a b c d k p bs n sent free right h filled laid is =
    let x : Name = Claim (p / 32) in let w : ℕ = bit_or h.shown (2 ^ (p % 32)) in
    let there : p / 32 < claim_words a.view.geometry = (let low = right.0 in omega arith) in
    let low : p % 32 < 33 = omega arith in
    let v : c.view ≡ claiming k p bs (saw_often n x w a.view) = ap (λ (z : MarkHeld). z.view) filled ∙ claimed_view a b k p bs n free right h in
    let g : c.view.geometry ≡ a.view.geometry = ap (λ (z : View). z.geometry) v in
    let sees : (j : ℕ) → j < claim_words a.view.geometry → seen d.view (Claim j) ≡ seen (saw_often n x w a.view) (Claim j) = λ j inside.
    (laid.claims j (subst (λ (z : Shape). j < claim_words z) (sym g) inside)).0 ∙ ap (λ (z : View). seen z (Claim j)) v in
    let counts : (j : ℕ) → j < claim_words a.view.geometry → looks d.view (Claim j) ≡ looks (saw_often n x w a.view) (Claim j) = λ j inside.
    (laid.claims j (subst (λ (z : Shape). j < claim_words z) (sym g) inside)).1 ∙ ap (λ (z : View). looks z (Claim j)) v in
    let now : seen d.view x ≡ w = sees (p / 32) there ∙ often_seen a.view free.wide x there n w in
    record {
      right = right;
      view = laid.view ∙ (ap (λ (z : View). record z { seen = d.view.seen; looks = d.view.looks; pending = None }) v
          ∙ ap (λ (z : Option Pending). record a.view { seen = d.view.seen; looks = d.view.looks; pending = z; marks = mark k p bs ∷ a.view.marks }) (sym free.none));
      claimed = (
        ap round_in now ∙ (round_or h.shown (p % 32) low ∙ h.lets.0),
        ap (λ (z : ℕ). bit z 32) now ∙ (bit_or_else h.shown (p % 32) 32 (omega arith) ∙ h.lets.1),
        ap (λ (z : ℕ). bit z (p % 32)) now ∙ bit_or_here h.shown (p % 32),
      );
      later = subst (λ (z : ℕ). IsLater (seen a.view x) z) (sym now) (later_trans (seen a.view x) h.shown w h.later (later_or h.shown (p % 32) low));
      steps = counts (p / 32) there ∙ often_looks a.view free.wide x there n w;
      others = λ j inside other. (
        sees j inside ∙ get_or-set_other a.view.seen (p / 32) j w 0 other,
        counts j inside ∙ get_or-set_other a.view.looks (p / 32) j (looks a.view x + n) 0 other,
      );
      answer = ap (λ (z : ℕ). record { round = k; partition = p; sent = z }) is;
    }

-- a mark fills no more pieces than there are
pub few_over : (d : View) (k p : ℕ) → full_over d k p ≤ pieces d.geometry
few_over d k p =
    let all = count_by-le-length (λ i. is_full d.geometry (seen d (Piece (k % d.geometry.depth) i)) k i) (pieces_over d.geometry p) in
    let kept = length-filter (touches d.geometry p) (range_with_len 0 (pieces d.geometry)) in
    let some = count_by-le-length (touches d.geometry p) (range_with_len 0 (pieces d.geometry)) in
    let size = length-range_with_len 0 (pieces d.geometry) in omega arith

-- a mark's count stays small
pub sent_few : (old new : View) (k p : ℕ) (b : List ℕ) (n : ℕ) (m : Marked) (g : Shape) → HasMarked old new k p b n m → old.geometry ≡ g → m.sent ≤ pieces g
sent_few old new k p b n m g h same =
    let few = few_over new k p in
    let at : new.geometry ≡ g = ap (λ (z : View). z.geometry) h.view ∙ same in
    let count = ap (λ (z : Marked). z.sent) h.answer in
    let size = ap pieces at in omega arith
