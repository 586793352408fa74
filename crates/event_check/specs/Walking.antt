-- What a walk stands for, and what an event makes of it.
use Rattle.std.specs.Prelude.{◌≡◌, Result, Ok, Err}
use Rattle.part_geometry.specs.Shape.{Shape}
use Rattle.pair_core.specs.Core.{Core}
use Rattle.pair_core.specs.Moves.{Move, IsAllowed, after}
use Rattle.pair_core.specs.History.{entries}
use Rattle.pair_core.specs.State.{Plain}
use Rattle.pair_core.specs.Shows.{Shows}
use Rattle.pair_core.specs.Shows.{geometry_of as geometry_of_state}
use Rattle.pair_core.specs.Events.{Reads, out_in, take_in}
use Rattle.pair_core.specs.Replaying.{IsRefused}
use Rattle.pair_core.specs.declared.event.Event.{Event}
use Rattle.event_check.specs.declared.walk.Walk.{Walk}
use Rattle.event_check.specs.declared.walk.Applied.{Applied}
use Rattle.event_check.specs.declared.fault.WalkFault.{WalkFault}
use Rattle.event_check.specs.declared.fault.WalkFault.TheVariants.{NotAllowed, NoMemory}

-- the walk's state shows the core
abbrev pub StandsFor : Walk → Core Plain → Type 0
StandsFor walk core = Shows walk.state core

-- the geometry of its pair
abbrev pub geometry_of : Walk → Shape
geometry_of walk = geometry_of_state walk.state

-- What comes of an event from the core s. Where it is made, it is a move that is allowed, the new walk stands for the
-- core after it, and the piece that goes out and the partition that is taken are those of the entries that it adds. It
-- isn't made where no move that it is, is allowed, or where memory runs out; the new walk then stands for the same
-- core.
abbrev pub Walks : Shape → Event → (Core Plain → Type 0) → Core Plain → Result Applied WalkFault → Type 0
Walks g e Stands s (Ok made) =
    (m : Move Plain) × Reads g s e m × IsAllowed g s m × Stands (after g s m) × (made.out ≡ out_in (entries g s m))
    × (made.take ≡ take_in (entries g s m))
Walks g e Stands s (Err NotAllowed) = IsRefused g s e × Stands s
Walks g e Stands s (Err NoMemory) = Stands s
