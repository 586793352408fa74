-- What is told of an event is what its entries tell, and so the lines of a history grow with each event.
use Rattle.std.proofs.Common.{◌≡◌, ◌∙◌, ℕ, suc, ◌+◌, Bool, true, false, List, [], ◌∷◌, ◌++◌, length, codes, Option, Some, None, refl, sym, ap, subst, append_assoc, arith, inl, inr}
use Rattle.std.proofs.lemmas.List.{append-nil}
use Rattle.std.specs.Prelude.{slice_get, Result, Ok, Err}
use Rattle.part_geometry.specs.Shape.{Shape}
use Rattle.pair_core.specs.Core.{Core}
use Rattle.pair_core.specs.Moves.{Move, StorePiece, StoreClaim, LoadClaim, LoadPiece, LoadRelease, ShutClaim, TryClaim}
use Rattle.pair_core.specs.Moves.{LayPiece, StoreReturn, StoreTake, TakePart, ReturnPart, StoreRelease, Split, Rise}
use Rattle.pair_core.specs.Moves.{Join, after, first_state}
use Rattle.pair_core.specs.History.{Entry, Open, Mark, Lay, Out, Listen, Shut, entries, laid_entries}
use Rattle.pair_core.specs.History.{where_so}
use Rattle.pair_core.specs.Events.{out_in, take_in}
use Rattle.pair_core.specs.State.{Plain}
use Rattle.pair_core.specs.declared.event.Event.{Event}
use Rattle.pair_core.specs.declared.view.Pending.{Pending}
use Rattle.event_check.specs.Walking.{Walks}
use Rattle.event_check.specs.Output.{IsTold, count_line, entry_line, line_of, lines_of}
use Rattle.event_check.specs.Telling.{Told, line_for, lines_for}
use Rattle.event_check.specs.declared.walk.Applied.{Applied}
use Rattle.event_check.specs.declared.fault.WalkFault.{WalkFault}
use Rattle.event_check.specs.declared.fault.WalkFault.TheVariants.{NotAllowed}

-- the lines of the entries that came before, and then of those that came later
lines-append : (new old : List Entry) → lines_of (new ++ old) ≡ lines_of old ++ lines_of new
lines-append [] old = sym (append-nil (lines_of old))
lines-append (e ∷ new) old = rw (lines-append new old) (append_assoc (lines_of old) (lines_of new) (line_of e))

-- what some entries tell is the piece that goes out by them and the partition that is taken
abbrev pub TellsBoth : List Entry → Type 0
TellsBoth es = lines_of es ≡ line_for (codes "out ") (out_in es) ++ line_for (codes "take ") (take_in es)

where-tells : (so : Bool) (e : Entry) → TellsBoth (e ∷ []) → TellsBoth (where_so so e)
where-tells true e tells = tells
where-tells false e tells = refl

laid-tells : (so : Bool) (k p i : ℕ) → TellsBoth (where_so so (Out k i) ++ Lay k p i ∷ [])
laid-tells true k p i = sym (append-nil (entry_line (codes "out ") k i))
laid-tells false k p i = refl

lay-tells : (g : Shape) (i : ℕ) (x : Option Pending) (s : Core Plain) → TellsBoth (laid_entries g i x s)
lay-tells g i None s = refl
lay-tells g i (Some x) s = laid-tells _ x.round x.partition i

entries-tell : (g : Shape) (s : Core Plain) (m : Move Plain) → TellsBoth (entries g s m)
entries-tell g s (StorePiece k i) = refl
entries-tell g s (StoreClaim k c) = where-tells _ (Open k) refl
entries-tell g s (LoadClaim n c) = refl
entries-tell g s (LoadPiece n d i) = refl
entries-tell g s LoadRelease = refl
entries-tell g s (ShutClaim c) = where-tells _ (Shut s.send.round) refl
entries-tell g s (TryClaim n p a) = where-tells _ (Mark s.send.round p) refl
entries-tell g s (LayPiece n p i) = lay-tells g i (s.pending n) s
entries-tell g s (StoreReturn k t) = refl
entries-tell g s (StoreTake k t) = where-tells _ (Listen k) refl
entries-tell g s (TakePart q a) = refl
entries-tell g s (ReturnPart q) = refl
entries-tell g s (StoreRelease k) = refl
entries-tell g s (Split n) = refl
entries-tell g s (Rise n w more) = refl
entries-tell g s (Join n) = refl

made-tells : (g : Shape) (s : Core Plain) (m : Move Plain) (r : Applied) → r.out ≡ out_in (entries g s m)
    → r.take ≡ take_in (entries g s m) → lines_for r ≡ lines_of (entries g s m)
made-tells g s m r out take = rw (out, take) (sym (entries-tell g s m))

-- before the first event nothing is told
pub told-first : (g : Shape) (events : List Event) (Holds : Core Plain → Type 0) → Holds (first_state g)
    → Told g events 0 Holds []
told-first g events Holds holds = record {
  moves = [];
  core = first_state g;
  history = [];
  replayed = (refl, refl);
  happened = (refl, refl);
  holds = holds;
  text_is = refl;
}

-- one event more, by the move that it is
more-by : (g : Shape) (events : List Event) (n : ℕ) (e : Event) (Before Holds : Core Plain → Type 0) (r : Applied)
    (text text' : List ℕ) → slice_get events n ≡ Some e → (t : Told g events n Before text)
    → Walks g e Holds t.core (Ok r) → text' ≡ text ++ lines_for r → Told g events (suc n) Holds text'
more-by g events n e Before Holds r text text' is t w grown = record {
  moves = w.0 ∷ t.moves;
  core = after g t.core w.0;
  history = entries g t.core w.0 ++ t.history;
  replayed = (e, t.core, t.history, is, t.replayed, w.1, w.2, refl, refl);
  happened = (t.core, t.history, t.happened, w.2, refl, refl);
  holds = w.3;
  text_is = rw (grown, t.text_is, made-tells g t.core w.0 r w.4 w.5) (sym (lines-append (entries g t.core w.0) t.history));
}

pub told-more : (g g' : Shape) (events : List Event) (n : ℕ) (e : Event) (Before Holds : Core Plain → Type 0)
    (result : Result Applied WalkFault) (r : Applied) (text text' : List ℕ) → g' ≡ g → result ≡ Ok r
    → slice_get events n ≡ Some e → Told g events n Before text
    → ((s : Core Plain) → Before s → Walks g' e Holds s result) → text' ≡ text ++ lines_for r
    → Told g events (n + 1) Holds text'
told-more g g' events n e Before Holds result r text text' same ok is t made grown =
    let w = subst (λ (z : Shape). Walks z e Holds t.core (Ok r)) same
    (subst (Walks g' e Holds t.core) ok (made t.core t.holds)) in
    let end : suc n ≡ n + 1 = omega arith in
    subst (λ (k : ℕ). Told g events k Holds text') end (more-by g events n e Before Holds r text text' is t w grown)

-- all events were made
pub told-ran : (g : Shape) (events : List Event) (n : ℕ) (Holds : Core Plain → Type 0) (text output : List ℕ)
    → n ≡ length events → Told g events n Holds text → output ≡ text ++ count_line (codes "ran ") n
    → IsTold g events output
told-ran g events n Holds text output all t ends = record {
  count = n;
  moves = t.moves;
  core = t.core;
  history = t.history;
  end = count_line (codes "ran ") n;
  replayed = t.replayed;
  happened = t.happened;
  ends = inl (all, refl);
  output_is = ends ∙ ap (λ (z : List ℕ). z ++ count_line (codes "ran ") n) t.text_is;
}

-- the next one isn't allowed
pub told-stopped : (g g' : Shape) (events : List Event) (n : ℕ) (e : Event) (Before Holds : Core Plain → Type 0)
    (result : Result Applied WalkFault) (text output : List ℕ) → g' ≡ g → result ≡ Err NotAllowed
    → slice_get events n ≡ Some e → Told g events n Before text
    → ((s : Core Plain) → Before s → Walks g' e Holds s result)
    → output ≡ text ++ count_line (codes "stopped ") n → IsTold g events output
told-stopped g g' events n e Before Holds result text output same not is t refused ends =
    let w = subst (λ (z : Shape). Walks z e Holds t.core (Err NotAllowed)) same
    (subst (Walks g' e Holds t.core) not (refused t.core t.holds)) in
    record {
      count = n;
      moves = t.moves;
      core = t.core;
      history = t.history;
      end = count_line (codes "stopped ") n;
      replayed = t.replayed;
      happened = t.happened;
      ends = inr (e, is, w.0, refl);
      output_is = ends ∙ ap (λ (z : List ℕ). z ++ count_line (codes "stopped ") n) t.text_is;
    }
