use Rattle.std.proofs.Common.{ap, sym, subst, List, ◌∙◌, ◌<◌, length}
use Rattle.part_geometry.specs.Shape.{Shape}
use Rattle.pair_core.specs.Names.{Fits, number}
use Rattle.pair_core.specs.State.{IsAt, word_count}
use Rattle.pair_core.specs.declared.seat.Seat.{Seat}
use Rattle.pair_core.proofs.state.CoreState.write.Goals as goal

pub saw-requires-clause-at : goal.saw-requires-clause-at
saw-requires-clause-at c = subst (λ (l : List Seat). c.args.at < length l) (sym c.put.ensures.seats) c.requires.at

pub saw-requires-clause-index : goal.saw-requires-clause-index
saw-requires-clause-index c = subst (λ (g : Shape). c.args.index < word_count g) (sym c.put.ensures.tables) c.requires.index

pub returns-clause-seats : goal.returns-clause-seats
returns-clause-seats c = λ m n there. c.saw.ensures.seats m n (subst (λ (l : List Seat). IsAt l m n) (sym c.put.ensures.seats) there)

pub returns-clause-shows : goal.returns-clause-shows
returns-clause-shows c = λ core n x shows there fits at.
    c.saw.ensures.shows _ n x (c.put.ensures.shows core x shows fits at)
    (subst (λ (l : List Seat). IsAt l c.args.at n) (sym c.put.ensures.seats) there)
    (subst (λ (g : Shape). Fits g x) (sym c.put.ensures.tables) fits)
    (ap (λ (g : Shape). number g x) c.put.ensures.tables ∙ at)
