-- A text has one output: its list is one, and so are the moves that the first events are; where one reading of the
-- events goes further than the other, the event at which the other ends is allowed, and so can't be refused.
use Rattle.std.proofs.Common.{◌≡◌, ◌∙◌, ℕ, zero, suc, ◌<◌, List, [], ◌∷◌, Some, sym, subst, arith, inl, inr}
use Rattle.std.proofs.lemmas.Bool.{cases_eq}
use Rattle.std.proofs.lemmas.Option.{slice_get_within}
use Rattle.std.specs.Prelude.{slice_get, Ok}
use Rattle.part_geometry.specs.Shape.{Shape}
use Rattle.pair_core.specs.Core.{Core}
use Rattle.pair_core.specs.Moves.{Move, IsAllowed}
use Rattle.pair_core.specs.History.{Entry}
use Rattle.pair_core.specs.Events.{Reads}
use Rattle.pair_core.specs.State.{Plain}
use Rattle.pair_core.specs.Replaying.{Replayed, LeadToOne, IsRefused}
use Rattle.pair_core.specs.declared.event.Event.{Event}
use Rattle.event_check.specs.Lists.{Listing, listing_of}
use Rattle.event_check.specs.Output.{Ends, IsTold, IsOneOutput}

-- events that were made one after the other, up to an earlier one
record Front (g : Shape) (events : List Event) (n : ℕ) : Type 0 where
  moves : List (Move Plain)
  core : Core Plain
  history : List Entry
  replayed : Replayed g events n moves core history
  event : Event
  is : slice_get events n ≡ Some event
  move : Move Plain
  reads : Reads g core event move
  allowed : IsAllowed g core move

-- the first n of more than n
front : (g : Shape) (events : List Event) (n m : ℕ) (ms : List (Move Plain)) (s : Core Plain) (h : List Entry)
    → Replayed g events m ms s h → n < m → Front g events n
front g events n zero ms s h r less = absurd (omega arith)
front g events n (suc m) [] s h r less = absurd r
front g events n (suc m) (x ∷ ms) s h r less = elim (cases_eq n m) [
  | inl same ↦ subst (Front g events) (sym same) record {
    moves = ms;
    core = r.1;
    history = r.2;
    replayed = r.4;
    event = r.0;
    is = r.3;
    move = x;
    reads = r.5;
    allowed = r.6;
  }
  | inr other ↦ front g events n m ms r.1 r.2 r.4 (omega arith)
]

-- the event at which a reading ends isn't made by another
ends-refused : (g : Shape) (events : List Event) (n : ℕ) (ms : List (Move Plain)) (s : Core Plain) (h : List Entry)
    (end : List ℕ) → LeadToOne g → Replayed g events n ms s h → Ends g events n s end → Front g events n → ⊥
ends-refused g events n ms s h end one r (inl all) f = let k = slice_get_within events n f.event f.is in omega arith
ends-refused g events n ms s h end one r (inr stops) f =
    let cores = (one events n ms f.moves s f.core h f.history r f.replayed).1 in
    let same : stops.0 ≡ f.event = (let z : Some stops.0 ≡ Some f.event = sym stops.1 ∙ f.is in cc) in
    let refused : IsRefused g f.core f.event =
    subst (λ (z : Core Plain). IsRefused g z f.event) cores (subst (IsRefused g s) same stops.2) in
    refused f.move f.reads f.allowed

-- one reading isn't shorter than another
not-shorter : (g : Shape) (events : List Event) (a b : List ℕ) → LeadToOne g → (x : IsTold g events a)
    → (y : IsTold g events b) → x.count < y.count → ⊥
not-shorter g events a b one x y less =
    ends-refused g events x.count x.moves x.core x.history x.end one x.replayed x.ends
    (front g events x.count y.count y.moves y.core y.history y.replayed less)

-- how a reading ends is told in one way
one-end : (g : Shape) (events : List Event) (n : ℕ) (s t : Core Plain) (a b : List ℕ) → Ends g events n s a
    → Ends g events n t b → a ≡ b
one-end g events n s t a b (inl x) (inl y) = x.1 ∙ sym y.1
one-end g events n s t a b (inl x) (inr y) =
    let k = slice_get_within events n y.0 y.1 in let all = x.0 in absurd (omega arith)
one-end g events n s t a b (inr x) (inl y) =
    let k = slice_get_within events n x.0 x.1 in let all = y.0 in absurd (omega arith)
one-end g events n s t a b (inr x) (inr y) = x.3 ∙ sym y.3

-- some events are told in one way
one-told : (g : Shape) (events : List Event) (a b : List ℕ) → LeadToOne g → IsTold g events a → IsTold g events b
    → a ≡ b
one-told g events a b one x y =
    let least = not-shorter g events a b one x y in
    let most = not-shorter g events b a one y x in
    let same : x.count ≡ y.count = omega (arith, least, most) in
    let replayed : Replayed g events x.count y.moves y.core y.history =
    subst (λ (n : ℕ). Replayed g events n y.moves y.core y.history) (sym same) y.replayed in
    let ends : Ends g events x.count y.core y.end =
    subst (λ (n : ℕ). Ends g events n y.core y.end) (sym same) y.ends in
    let history = (one events x.count x.moves y.moves x.core y.core x.history y.history x.replayed replayed).2 in
    let end = one-end g events x.count x.core y.core x.end y.end x.ends ends in
    x.output_is ∙ (rw (history, end) (sym y.output_is))

-- and so is a text
pub one-output : ((g : Shape) → LeadToOne g) → IsOneOutput
one-output one text a b x y =
    let same : x.listing ≡ y.listing = (let z : listing_of text ≡ Ok x.listing = x.listing_is in let w : listing_of text ≡ Ok y.listing = y.listing_is in cc) in
    let told : IsTold x.listing.geometry x.listing.events b =
    subst (λ (l : Listing). IsTold l.geometry l.events b) (sym same) y.told in
    one-told x.listing.geometry x.listing.events a b (one x.listing.geometry) x.told told
