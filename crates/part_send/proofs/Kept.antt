-- A marker between two calls: no claim pends, and the claim word that it keeps is the one that its view has seen, after
-- a look, a won claim and a lay.
use Rattle.std.proofs.Common.{◌≡◌, ℕ, ◌*◌, ◌/◌, ◌%◌, ◌^◌, ◌<◌, List, [], bit_or, sym, ap, ◌∙◌, subst, arith}
use Rattle.part_geometry.specs.Shape.{Shape, IsShape}
use Rattle.pair_core.specs.Names.{Claim, claim_words}
use Rattle.pair_core.specs.Core.{IsMarker}
use Rattle.pair_rule.specs.Seats.{MarkHeld}
use Rattle.pair_rule.specs.Views.{seen}
use Rattle.pair_rule.specs.Marking.{HasWon}
use Rattle.pair_rule.specs.declared.view.View.{View}
use Rattle.part_send.specs.Ends.{IsWide, IsFree, IsTold}
use Rattle.part_send.specs.Looking.{saw_often}
use Rattle.part_send.specs.Marking.{IsRefused, HasClaimed, HasLaid}
use Rattle.part_send.specs.declared.answers.ReadyRefusal.{ReadyRefusal}
use Rattle.part_send.proofs.Masks.{shifted}
use Rattle.part_send.proofs.Views.{seen_here}
use Rattle.part_send.proofs.Winning.{often_seen, often_wide}

-- the word that the last look found
pub often_told : (s : MarkHeld) → IsWide s.view → (a : MarkHeld) (c m n w : ℕ) → a ≡ record s { view = saw_often n (Claim c) w s.view } → m ≡ c → IsTold a.view m w
often_told s wide a c m n w at is =
    subst (λ (z : MarkHeld). IsTold z.view m w) (sym at)
    (subst (λ (z : ℕ). IsTold (saw_often n (Claim c) w s.view) z w) (sym is) (λ inside. often_seen s.view wide (Claim c) inside n w))

-- the word that a won claim left: the one that was shown, which it found, with the partition
pub won_told : (s : MarkHeld) → IsWide s.view → (a b : MarkHeld) (shown found p m n : ℕ) (bs : List ℕ) → a ≡ record s { view = saw_often n (Claim (p / 32)) shown s.view } → HasWon shown p bs a b
    → found ≡ shown → m ≡ p / 32 → IsTold b.view m (bit_or found (1 * 2 ^ (p % 32) % 18446744073709551616))
won_told s wide a b shown found p m n bs at won same is inside =
    let word : bit_or found (1 * 2 ^ (p % 32) % 18446744073709551616) ≡ bit_or shown (2 ^ (p % 32)) = ap (bit_or found) (shifted (p % 32) (omega arith))
    ∙ ap (λ (z : ℕ). bit_or z (2 ^ (p % 32))) same in
    let there : p / 32 < claim_words a.view.geometry = subst (λ (z : ℕ). z < claim_words a.view.geometry) is
    (subst (λ (z : Shape). m < claim_words z) (ap (λ (z : View). z.geometry) won.view) inside) in
    let wide_at : IsWide a.view = subst (λ (z : MarkHeld). IsWide z.view) (sym at) (often_wide n (Claim (p / 32)) shown s.view wide) in
    ap (λ (z : ℕ). seen b.view (Claim z)) is ∙ (ap (λ (z : View). seen z (Claim (p / 32))) won.view
    ∙ (seen_here a.view wide_at (Claim (p / 32)) there (bit_or shown (2 ^ (p % 32))) ∙ sym word))

-- a claim that is filled and laid leaves it as it was
pub laid_told : (a b c : MarkHeld) (m w : ℕ) → IsTold a.view m w → b ≡ record a { out = b.out } → HasLaid b c → IsTold c.view m w
laid_told a b c m w told filled laid inside =
    let same : b.view ≡ a.view = ap (λ (z : MarkHeld). z.view) filled in
    let there : m < claim_words b.view.geometry = subst (λ (z : Shape). m < claim_words z) (ap (λ (z : View). z.geometry) laid.view) inside in
    let before : m < claim_words a.view.geometry = subst (λ (z : View). m < claim_words z.geometry) same there in
    (laid.claims m there).0 ∙ (ap (λ (z : View). seen z (Claim m)) same ∙ told before)

-- a seat whose claim is refused is free still
pub free_still : (a b : MarkHeld) (k p : ℕ) (bs : List ℕ) (n : ℕ) (cause : ReadyRefusal) → IsFree a → b ≡ record a { view = b.view } → IsRefused a.view b.view k p bs n cause → IsFree b
free_still a b k p bs n cause free at refused =
    subst IsFree (sym (at ∙ ap (λ (z : View). record a { view = z }) refused.view)) record {
      shape = free.shape;
      marker = free.marker;
      none = free.none;
      home = free.home;
      wide = often_wide n (Claim (p / 32)) refused.shown a.view free.wide;
    }

-- and one whose claim is won, filled and laid is free again
pub free_again : (a b c d : MarkHeld) (k p : ℕ) (bs : List ℕ) (n : ℕ) → IsFree a → HasClaimed a b k p bs n → c ≡ record b { out = c.out } → HasLaid c d → d.out ≡ [] → IsWide d.view → IsFree d
free_again a b c d k p bs n free won filled laid home wide =
    let shape : d.view.geometry ≡ a.view.geometry = ap (λ (z : View). z.geometry) laid.view
    ∙ (ap (λ (z : MarkHeld). z.view.geometry) filled ∙ ap (λ (z : View). z.geometry) won.won.view) in
    let number : d.view.number ≡ a.view.number = ap (λ (z : View). z.number) laid.view
    ∙ (ap (λ (z : MarkHeld). z.view.number) filled ∙ ap (λ (z : View). z.number) won.won.view) in
    record {
      shape = subst IsShape (sym shape) free.shape;
      marker = subst IsMarker (sym number) free.marker;
      none = ap (λ (z : View). z.pending) laid.view;
      home = home;
      wide = wide;
    }
