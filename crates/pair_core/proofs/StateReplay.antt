-- Events that were made one after the other: what holds of the core after the first n leads to what holds after one
-- more.
use Rattle.std.proofs.Common.{◌≡◌, ℕ, zero, suc, ◌+◌, List, [], ◌∷◌, ◌++◌, Some, Option, refl, subst, arith}
use Rattle.std.specs.Prelude.{slice_get}
use Rattle.part_geometry.specs.Shape.{Shape}
use Rattle.pair_core.specs.Core.{Core}
use Rattle.pair_core.specs.Moves.{Move, IsAllowed, after, first_state}
use Rattle.pair_core.specs.History.{Entry, Happened, entries}
use Rattle.pair_core.specs.State.{Plain}
use Rattle.pair_core.specs.Events.{Reads, Becomes}
use Rattle.pair_core.specs.declared.event.Applied.{Applied}
use Rattle.pair_core.specs.declared.event.Applied.TheVariants.{Done, NotAllowed}
use Rattle.pair_core.specs.Replaying.{Replayed, LeadsTo, IsRefused}
use Rattle.pair_core.specs.declared.event.Event.{Event}

-- the moves that they are happened
happened : (g : Shape) (events : List Event) (n : ℕ) (ms : List (Move Plain)) (s : Core Plain) (h : List Entry) → Replayed g events n ms s h → Happened g ms s h
happened g events zero [] s h r = r
happened g events zero (m ∷ ms) s h r = absurd r
happened g events (suc n) [] s h r = absurd r
happened g events (suc n) (m ∷ ms) s h r = (r.1, r.2, happened g events n ms r.1 r.2 r.4, r.6, r.7, r.8)

-- before the first of them
pub leads_first : (g : Shape) (events : List Event) (Holds : Core Plain → Type 0) → Holds (first_state g) → LeadsTo g events 0 Holds
leads_first g events Holds holds = ([], first_state g, [], (refl, refl), (refl, refl), holds)

-- and one more
pub leads_more : (g : Shape) (events : List Event) (n : ℕ) (e : Event) (Before Holds : Core Plain → Type 0) → slice_get events n ≡ Some e → LeadsTo g events n Before
    → ((s : Core Plain) → Before s → (m : Move Plain) × Reads g s e m × IsAllowed g s m × Holds (after g s m)) → LeadsTo g events (n + 1) Holds
leads_more g events n e Before Holds is leads made =
    let ms = leads.0 in let s = leads.1 in let h = leads.2 in let r = leads.3 in let next = made s leads.5 in let m = next.0 in
    let new : Replayed g events (suc n) (m ∷ ms) (after g s m) (entries g s m ++ h) = (e, s, h, is, r, next.1, next.2, refl, refl) in
    let end : suc n ≡ n + 1 = omega arith in
    subst (λ (k : ℕ). LeadsTo g events k Holds) end (m ∷ ms, after g s m, entries g s m ++ h, new, happened g events (suc n) (m ∷ ms) (after g s m) (entries g s m ++ h) new, next.3)

-- where one thing follows of another for each core, it does for the one that the events lead to
pub leads_so : (g : Shape) (events : List Event) (n : ℕ) (Before Holds : Core Plain → Type 0) → ((s : Core Plain) → Before s → Holds s) → LeadsTo g events n Before → LeadsTo g events n Holds
leads_so g events n Before Holds so leads = (leads.0, leads.1, leads.2, leads.3, leads.4, so leads.1 leads.5)

-- an event that was made, and one that is refused
pub went : (g g' : Shape) (events : List Event) (n : ℕ) (e : Event) (Before Holds : Core Plain → Type 0) (r : Applied) (out take : Option (ℕ × ℕ)) → g' ≡ g → r ≡ Done out take → slice_get events n ≡ Some e
    → LeadsTo g events n Before → ((s : Core Plain) → Before s → Becomes g' e Holds s r) → LeadsTo g events (n + 1) Holds
went g g' events n e Before Holds r out take same done is leads becomes =
    leads_more g events n e Before Holds is leads (λ s before.
    let b = subst (λ (z : Shape). Becomes z e Holds s (Done out take)) same (subst (Becomes g' e Holds s) done (becomes s before)) in (b.0, b.1, b.2, b.3))

-- this is where it is refused: the replay stops before it
pub stopped : (g g' : Shape) (events : List Event) (n : ℕ) (e : Event) (Before Holds : Core Plain → Type 0) (r : Applied) → g' ≡ g → r ≡ NotAllowed → slice_get events n ≡ Some e
    → LeadsTo g events n Before → ((s : Core Plain) → Before s → Becomes g' e Holds s r) → LeadsTo g events n (λ s. (e : Event) × (slice_get events n ≡ Some e) × IsRefused g s e)
stopped g g' events n e Before Holds r same not is leads becomes =
    leads_so g events n Before (λ s. (e : Event) × (slice_get events n ≡ Some e) × IsRefused g s e) (λ s before.
    let b = subst (λ (z : Shape). Becomes z e Holds s NotAllowed) same (subst (Becomes g' e Holds s) not (becomes s before)) in (e, is, b.0)) leads
