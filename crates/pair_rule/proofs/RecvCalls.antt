-- What the receive side's stores ask of the table, with the numbers of a call in the place of the names of words.
use Rattle.std.proofs.Common.{◌≡◌, ℕ, sym, subst}
use mathlib.Core.Option.{none}
use Rattle.atomic_table.specs.Table.{Allows, step}
use Rattle.part_geometry.specs.Shape.{IsShape}
use Rattle.pair_core.specs.Words.{empty}
use Rattle.pair_core.specs.Names.{Release, Take, Return}
use Rattle.pair_core.specs.Moves.{StoreReturn, StoreTake, StoreRelease, after}
use Rattle.pair_rule.specs.Addresses.{address}
use Rattle.pair_rule.specs.Rule.{Holds}
use Rattle.pair_rule.specs.Views.{stored_return, stored_take, released}
use Rattle.pair_rule.specs.Steps.{MayMake, Seat, goes}
use Rattle.pair_rule.specs.declared.view.View.{View}
use Rattle.pair_rule.specs.declared.view.Standing.TheVariants.{Seated}
use Rattle.pair_rule.specs.declared.rule.Key.{Key}
use Rattle.pair_rule.proofs.Core.{laws}
use Rattle.pair_rule.proofs.SideSteps.{going, store_return_leads, store_take_leads, store_release_leads}

module _ {T : Type 0} (may : T → ℕ → ℕ → ℕ → Type 0) (key : Key T) (v : IsShape key.geometry) (slots id : ℕ) (seat : Seat) (live : seat.0.standing ≡ Seated) where
  -- n: the number of the word. w: the word that is stored
  abbrev Stores : (View → View) → ℕ → ℕ → Type 0
  Stores view n w = Allows (Holds may key) slots id seat n (λ _. w) (λ _. goes (λ _ d. view d) (λ _ _. Unit {0}) (step slots 0 0 0 none) seat w)

  pub stores_return : (k t one two n w : ℕ) → MayMake seat.0 (StoreReturn k t) → k ≡ one → t ≡ two → n ≡ address key.geometry (Return t) → w ≡ empty k
      → Stores (stored_return one two) n w
  stores_return k t one two n w h a b at is =
      subst (λ (z : (ℕ × ℕ) × (ℕ × ℕ)). Stores (stored_return z.0.0 z.0.1) z.1.0 z.1.1) (λ i. ((a i, b i), (sym at i, sym is i)))
      (going may key (laws key.geometry v) slots id seat.0 seat.1 (Return t) (λ _. empty k) (λ _. empty k) (λ _ d. stored_return k t d) (λ _ _. Unit {0}) (step slots 0 0 0 none) live
      (λ s r there. (after key.geometry r.core (StoreReturn k t), store_return_leads may key (laws key.geometry v) s r id seat.0 there live k t h, tt)))

  pub stores_take : (k t one n w : ℕ) → MayMake seat.0 (StoreTake k t) → t ≡ one → n ≡ address key.geometry (Take t) → w ≡ empty k → Stores (stored_take one) n w
  stores_take k t one n w h b at is =
      subst (λ (z : ℕ × (ℕ × ℕ)). Stores (stored_take z.0) z.1.0 z.1.1) (λ i. (b i, (sym at i, sym is i)))
      (going may key (laws key.geometry v) slots id seat.0 seat.1 (Take t) (λ _. empty k) (λ _. empty k) (λ _ d. stored_take t d) (λ _ _. Unit {0}) (step slots 0 0 0 none) live
      (λ s r there. (after key.geometry r.core (StoreTake k t), store_take_leads may key (laws key.geometry v) s r id seat.0 there live k t h, tt)))

  pub stores_release : (k n w : ℕ) → MayMake seat.0 (StoreRelease k) → n ≡ address key.geometry Release → w ≡ empty k → Stores released n w
  stores_release k n w h at is =
      subst (λ (z : ℕ × ℕ). Stores released z.0 z.1) (λ i. (sym at i, sym is i))
      (going may key (laws key.geometry v) slots id seat.0 seat.1 Release (λ _. empty k) (λ _. empty k) (λ _ d. released d) (λ _ _. Unit {0}) (step slots 0 0 0 none) live
      (λ s r there. (after key.geometry r.core (StoreRelease k), store_release_leads may key (laws key.geometry v) s r id seat.0 there live k h, tt)))
