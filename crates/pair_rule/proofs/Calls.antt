-- What a call of the table asks of a step, from what the step leads to: the seat is of the pair's table, the word is one of it, and
-- the step may be made. A call gives the word's number by the pair's tables, which are those of its geometry.
use Rattle.std.proofs.Common.{◌≡◌, ℕ, ◌<◌, get_or, Option, sym, ap, ◌∙◌, subst}
use mathlib.Core.Option.{some}
use lib.ListN.{get_elem?}
use Rattle.atomic_table.specs.Table.{Step, Allows}
use Rattle.atomic_table.specs.Seated.{TableId}
use Rattle.part_geometry.specs.Shape.{Shape, IsShape}
use Rattle.pair_core.specs.Names.{Name, Fits}
use Rattle.pair_rule.specs.Addresses.{address, table_size}
use Rattle.pair_rule.specs.Buf.{Buf}
use Rattle.pair_rule.specs.Rule.{At, Shown, Rule, Holds}
use Rattle.pair_rule.specs.Seats.{PairOf, IsOf}
use Rattle.pair_rule.specs.Steps.{Seat, goes}
use Rattle.pair_rule.specs.declared.view.View.{View}
use Rattle.pair_rule.specs.declared.view.Standing.TheVariants.{Seated}
use Rattle.pair_rule.specs.declared.rule.Key.{Key}
use Rattle.pair_rule.proofs.Addresses.{address_lt}
use Rattle.pair_rule.proofs.Core.{laws}
use Rattle.pair_rule.proofs.Bridge.{Held}
use Rattle.pair_rule.proofs.Sides.{stepped_to}
use Rattle.pair_rule.proofs.SideSteps.{going}

-- a pair over a table
abbrev pub of_key : {T : Type 0} → TableId → Key T → PairOf T
of_key t k = record { table = t; key = k }

module _ {T : Type 0} (may : T → ℕ → ℕ → ℕ → Type 0) (key : Key T) (tables : Shape) (id' : TableId) (pair : PairOf T) (same : tables ≡ key.geometry)
    (words : id'.words ≡ table_size key.geometry) (is : of_key id' key ≡ pair) where
  -- the seat is of the table, and the word's number is one of it
  pub fitting : (mine : TableId) (d : View) (x : Shape → Name) (index : ℕ) → IsOf mine d pair → index ≡ address tables (x tables) → Fits key.geometry (x key.geometry)
      → (mine ≡ id') × (index < id'.words) × (d.geometry ≡ key.geometry) × (index ≡ address key.geometry (x key.geometry))
  fitting mine d x index of at fits =
      let here : index ≡ address key.geometry (x key.geometry) = at ∙ ap (λ (g : Shape). address g (x g)) same in (
        of.0 ∙ sym (ap (λ (p : PairOf T). p.table) is),
        subst (λ (z : ℕ × ℕ). z.0 < z.1) (λ i. (sym here i, sym words i)) (address_lt key.geometry (x key.geometry) fits),
        of.1 ∙ sym (ap (λ (p : PairOf T). p.key.geometry) is),
        here,
      )

  -- what a step that moves no slot is asked
  pub asked : (shape : IsShape key.geometry) (mine : TableId) (id : ℕ) (me : Seat) (x : Shape → Name) (index : ℕ) (f found : ℕ → ℕ) (view : ℕ → View → View) (tells : ℕ → View → Type 0) (st : Step (Option Buf))
      → IsOf mine me.0 pair → me.0.standing ≡ Seated → index ≡ address tables (x tables) → Fits key.geometry (x key.geometry)
      → ((s : At) (r : Rule may key s) → get_elem? s.views id ≡ some me.0
      → (c' : Shown) × Held may key (stepped_to may key (laws key.geometry shape) s (x key.geometry) (f (get_or s.words (address key.geometry (x key.geometry)) 0)) id
      (view (found (get_or s.words (address key.geometry (x key.geometry)) 0)) me.0)) c'
      × tells (found (get_or s.words (address key.geometry (x key.geometry)) 0)) me.0)
      → (mine ≡ id') × (index < id'.words) × Allows (Holds may key) id'.slots id me index f (λ n. goes view tells st me (found n))
  asked shape mine id me x index f found view tells st of live at fits leads =
      let all = fitting mine me.0 x index of at fits in (
        all.0,
        all.1,
        subst (λ (z : ℕ). Allows (Holds may key) id'.slots id me z f (λ n. goes view tells st me (found n))) (sym all.3)
            (going may key (laws key.geometry shape) id'.slots id me.0 me.1 (x key.geometry) f found view tells st live leads),
      )
