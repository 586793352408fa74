-- Which core a state shows.
use Rattle.part_geometry.specs.Shape.{Shape}
use Rattle.pair_core.specs.Core.{Core}
use Rattle.pair_core.specs.State.{Plain, Stands}
use Rattle.pair_core.specs.declared.state.CoreState.{CoreState}

-- each word and each slot stands at its number, the two sides are as they are, the seats that are kept have their
-- views, and any other seat is blank
abbrev pub Shows : CoreState → Core Plain → Type 0
Shows s core = Stands s.tables s.words.items s.slots.items s.send s.recv s.seats.items s.takes core

-- the geometry of the pair
abbrev pub geometry_of : CoreState → Shape
geometry_of s = s.tables
