-- A load keeps soundness: the word that the seat has seen is the one that is there. Seats 0 and 1 keep what the groups
-- ask of what they have seen.
use Rattle.std.proofs.Common.{◌≡◌, ◌≢◌, ℕ, refl, ap, ◌∙◌, arith}
use Rattle.part_geometry.specs.Shape.{Shape}
use Rattle.pair_core.specs.Names.{Name, Claim, Take, Return, put, put_word}
use Rattle.pair_core.specs.Core.{Core}
use Rattle.gate_word.specs.Words.{round_in}
use Rattle.pair_core.specs.Sound.{Sound, SeesOpened}
use Rattle.pair_core.specs.declared.view.Life.TheVariants.{Blank}
use Rattle.pair_core.specs.Steps.{loads}
use Rattle.pair_core.proofs.Puts.{put_cases, any_word}
use Rattle.pair_core.proofs.Frames.{looks_at, news_else}

module _ {A : Type 0} where
  own_load : (g : Shape) (s : Core A) (n : ℕ) (x y : Name) → (n ≡ 1 → s.seen n y ≡ s.word y) → s.seen 1 y ≡ s.word y → put s.seen n (put_word x (s.word x) (s.seen n)) 1 y ≡ s.word y
  own_load g s n x y own other = put_cases s.seen n (put_word x (s.word x) (s.seen n)) (λ m f. m ≡ 1 → f y ≡ s.word y)
      (λ e. any_word x y (s.word x) (s.seen n) (λ z v. z ≡ y → v ≡ s.word y) (λ z. ap s.word z) (λ z t. ap (s.seen n) t ∙ own e) refl)
      (λ m _ e. ap (λ (k : ℕ). s.seen k y) e ∙ other) 1 refl

  -- the send side has seen the claim words that it opened in its round, whatever seat looks
  opened_load : (g : Shape) (s : Core A) (n : ℕ) (x : Name) → Sound g s → SeesOpened s.send (put s.seen n (put_word x (s.word x) (s.seen n)) 0)
  opened_load g s n x r c unshut low = put_cases s.seen n (put_word x (s.word x) (s.seen n)) (λ m f. m ≡ 0 → round_in (f (Claim c)) ≡ s.send.round)
      (λ e. any_word x (Claim c) (s.word x) (s.seen n) (λ z v. z ≡ Claim c → round_in v ≡ s.send.round)
      (λ same. ap (λ (z : Name). round_in (s.word z)) same ∙ (r.gates.is_open c (omega arith) low).0)
      (λ z same. ap (λ (y : Name). round_in (s.seen n y)) same ∙ (ap (λ (k : ℕ). round_in (s.seen k (Claim c))) e ∙ r.opened c unshut low)) refl)
      (λ m _ e. ap (λ (k : ℕ). round_in (s.seen k (Claim c))) e ∙ r.opened c unshut low) 0 refl

  -- a load by a seat that isn't blank keeps soundness
  pub loads_keeps : (g : Shape) (s : Core A) (n : ℕ) (x : Name) → s.life n ≢ Blank → Sound g s → Sound g (loads n x s)
  loads_keeps g s n x some r = record {
    who = r.who;
    progress = r.progress;
    gates = r.gates;
    pieces = r.pieces;
    receiving = r.receiving;
    arrived = r.arrived;
    claims = r.claims;
    slots = r.slots;
    marks = r.marks;
    takes = r.takes;
    unused = r.unused;
    seen = looks_at g s.word s.life s.seen n x r.lives.send r.seen;
    opened = opened_load g s n x r;
    news = news_else g s.life s.seen s.looks s.pending s.marks n _ _ some r.news;
    owns = record {
      takes = λ t h. own_load g s n x (Take t) (λ e. ap (λ (k : ℕ). s.seen k (Take t)) e ∙ r.owns.takes t h) (r.owns.takes t h);
      returns = λ t h. own_load g s n x (Return t) (λ e. ap (λ (k : ℕ). s.seen k (Return t)) e ∙ r.owns.returns t h) (r.owns.returns t h);
    };
    lives = r.lives;
  }
