-- What became of an event that was made: the move that it is, and what its entries tell of pieces and takes.
use Rattle.std.proofs.Common.{◌≡◌, ℕ, [], ◌∷◌, Bool, true, false, None, Option, refl, sym, subst}
use Rattle.part_geometry.specs.Shape.{Shape}
use Rattle.pair_core.specs.Core.{Core}
use Rattle.pair_core.specs.Moves.{Move, IsAllowed, after}
use Rattle.pair_core.specs.History.{Entry, entries, where_so}
use Rattle.pair_core.specs.State.{Plain}
use Rattle.pair_core.specs.Events.{Reads, Becomes, out_in, take_in, quiet}
use Rattle.pair_core.specs.declared.event.Event.{Event}
use Rattle.pair_core.specs.declared.event.Applied.{Applied}
use Rattle.pair_core.specs.declared.event.Applied.TheVariants.{Done}

-- it was an allowed move of which nothing is told
pub becomes_quiet : (g : Shape) (e : Event) (Shown : Core Plain → Type 0) (s : Core Plain) (r : Applied) (m : Move Plain) → r ≡ quiet
    → Reads g s e m → IsAllowed g s m → Shown (after g s m) → None ≡ out_in (entries g s m) → None ≡ take_in (entries g s m) → Becomes g e Shown s r
becomes_quiet g e Shown s r m is reads allowed shown out take = subst (Becomes g e Shown s) (sym is) (m, reads, allowed, shown, out, take)

-- an entry by which no piece goes out tells of none, whether it is added or not
pub no_out : (so : Bool) (e : Entry) → None ≡ out_in (e ∷ []) → None ≡ out_in (where_so so e)
no_out true e h = h
no_out false e h = refl

-- and one by which nothing is taken tells of no take
pub no_take : (so : Bool) (e : Entry) → None ≡ take_in (e ∷ []) → None ≡ take_in (where_so so e)
no_take true e h = h
no_take false e h = refl

-- it was an allowed move of which this is told
pub becomes_done : (g : Shape) (e : Event) (Shown : Core Plain → Type 0) (s : Core Plain) (r : Applied) (m : Move Plain) (out take : Option (ℕ × ℕ)) → r ≡ Done out take
    → Reads g s e m → IsAllowed g s m → Shown (after g s m) → out ≡ out_in (entries g s m) → take ≡ take_in (entries g s m) → Becomes g e Shown s r
becomes_done g e Shown s r m out take is reads allowed shown a b = subst (Becomes g e Shown s) (sym is) (m, reads, allowed, shown, a, b)
