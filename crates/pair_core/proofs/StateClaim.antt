-- A claim that was won, and one that was lost, as the code makes them: it reads the round, the place and the words
-- once, and what it writes by them is what the claim writes.
use Rattle.std.proofs.Common.{◌≡◌, ◌≢◌, ◌∙◌, ℕ, ◌/◌, ◌%◌, ◌^◌, ◌==◌, ◌<◌, List, [], ◌∷◌, Some, bit_or, sym, ap, subst, arith}
use Rattle.std.proofs.lemmas.Bool.{cond-true, cond-false, eq-eqb, ne_eqb}
use Rattle.part_geometry.specs.Shape.{Shape}
use Rattle.part_geometry.specs.Cells.{send_of}
use Rattle.pair_core.specs.Names.{Claim, put}
use Rattle.pair_core.specs.Core.{Core, Out}
use Rattle.pair_core.specs.Steps.{wrote, mark, put_slots, claims, loads, tries_claim}
use Rattle.pair_core.specs.State.{Plain, word_count}
use Rattle.pair_core.specs.declared.view.SendSide.{SendSide}
use Rattle.pair_core.proofs.Cut.{claim_word}

-- the claim word of a send partition has the number of a word
pub claim_number : (g : Shape) → (p : ℕ) → p < g.send_parts → p / 32 < word_count g
claim_number g p low = let few = claim_word g p low in omega arith

-- where the code's values are the core's, what shows the core that it wrote shows the claim's
pub claims_shown : (g : Shape) (Shown : Core Plain → Type 0) (s : Core Plain) (d : SendSide) (place n p v w : ℕ) (laid : List ℕ) → d ≡ s.send → laid ≡ [] → place ≡ d.round % g.depth
    → v ≡ s.word (Claim (p / 32)) → w ≡ bit_or v (2 ^ (p % 32))
    → Shown (wrote n (Claim (p / 32)) w (record s {
      slot = put_slots s.slot place (λ c. send_of g c == p) (Out n);
      pending = put s.pending n (Some record { round = d.round; partition = p; laid = laid });
      marks = put s.marks n (mark d.round p tt ∷ s.marks n);
    })) → Shown (claims g n p tt s)
claims_shown g Shown s d place n p v w laid e none there was is shown =
    subst (λ (d : SendSide). Shown (wrote n (Claim (p / 32)) (bit_or (s.word (Claim (p / 32))) (2 ^ (p % 32))) (record s {
      slot = put_slots s.slot (d.round % g.depth) (λ c. send_of g c == p) (Out n);
      pending = put s.pending n (Some record { round = d.round; partition = p; laid = [] });
      marks = put s.marks n (mark d.round p tt ∷ s.marks n);
    }))) e
    (subst (λ (l : List ℕ). Shown (wrote n (Claim (p / 32)) (bit_or (s.word (Claim (p / 32))) (2 ^ (p % 32))) (record s {
      slot = put_slots s.slot (d.round % g.depth) (λ c. send_of g c == p) (Out n);
      pending = put s.pending n (Some record { round = d.round; partition = p; laid = l });
      marks = put s.marks n (mark d.round p tt ∷ s.marks n);
    }))) none
    (subst (λ (z : ℕ). Shown (wrote n (Claim (p / 32)) (bit_or (s.word (Claim (p / 32))) (2 ^ (p % 32))) (record s {
      slot = put_slots s.slot z (λ c. send_of g c == p) (Out n);
      pending = put s.pending n (Some record { round = d.round; partition = p; laid = laid });
      marks = put s.marks n (mark d.round p tt ∷ s.marks n);
    }))) there
    (subst (λ (z : ℕ). Shown (wrote n (Claim (p / 32)) z (record s {
      slot = put_slots s.slot place (λ c. send_of g c == p) (Out n);
      pending = put s.pending n (Some record { round = d.round; partition = p; laid = laid });
      marks = put s.marks n (mark d.round p tt ∷ s.marks n);
    }))) (is ∙ ap (λ (z : ℕ). bit_or z (2 ^ (p % 32))) was) shown)))

-- a try at a word that is as it was seen is the claim
pub won : (g : Shape) (Shown : Core Plain → Type 0) (s : Core Plain) (n p : ℕ) → s.word (Claim (p / 32)) ≡ s.seen n (Claim (p / 32)) → Shown (claims g n p tt s) → Shown (tries_claim g n p tt s)
won g Shown s n p same shown = subst Shown (sym (cond-true _ _ _ (eq-eqb _ _ same))) shown

-- a try at any other word is a load
pub lost : (g : Shape) (Shown : Core Plain → Type 0) (s : Core Plain) (n p : ℕ) → s.word (Claim (p / 32)) ≢ s.seen n (Claim (p / 32)) → Shown (loads n (Claim (p / 32)) s) → Shown (tries_claim g n p tt s)
lost g Shown s n p other shown = subst Shown (sym (cond-false _ _ _ (ne_eqb _ _ other))) shown
