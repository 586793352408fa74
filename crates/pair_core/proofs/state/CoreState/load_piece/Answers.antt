use Rattle.std.proofs.Common.{refl, sym, subst, ap, ◌∙◌, ◌<◌}
use Rattle.part_geometry.specs.Shape.{Shape}
use Rattle.pair_core.specs.Names.{Piece, Fits, number}
use Rattle.pair_core.specs.Moves.{LoadPiece, IsAllowed}
use Rattle.pair_core.specs.Steps.{enters}
use Rattle.pair_core.specs.Shows.{Shows}
use Rattle.pair_core.proofs.StateReads.{reads_4}
use Rattle.pair_core.proofs.StateBecomes.{becomes_quiet}
use Rattle.pair_core.proofs.StateAdds.{entered_live, view_live, at_low}
use Rattle.pair_core.specs.State.{word_count}
use Rattle.pair_core.proofs.state.CoreState.load_piece.Goals as goal

pub look-requires-clause-index : goal.look-requires-clause-index
look-requires-clause-index c = subst (λ (g : Shape). c.args.event.now.word < word_count g) (sym c.enter.ensures.tables) (c.if-not-is_piece.ensures.some refl).4

pub returns-then-not-is_piece-clause-becomes : goal.returns-then-not-is_piece-clause-becomes
returns-then-not-is_piece-clause-becomes c = λ core shows.
    let g = c.args.self.now.tables in let e = c.args.event.now in
    (reads_4 g core e (λ m. ¬ IsAllowed g core m) c.requires (λ n d i reads allowed. c.if-not-is_piece.ensures.none refl d i (allowed.1, allowed.2) reads.on), shows)

pub look-requires-clause-at : goal.look-requires-clause-at
look-requires-clause-at c = at_low c.enter.new.self.seats.items c.in_ok-at.at c.args.event.now.seat c.in_ok-at.ensures.at

pub returns-clause-becomes : goal.returns-clause-becomes
returns-clause-becomes c = λ core shows.
    let s = c.args.self.now in let e = c.args.event.now in let t = c.enter.new.self in
    let found = c.if-not-is_piece.ensures.some refl in
    let in' = c.in_ok-at.ensures.shows core shows in
    let live = view_live t.tables t.words.items t.slots.items t.send t.recv t.seats.items t.takes (enters e.seat core) c.in_ok-at.at e.seat in' c.in_ok-at.ensures.at in
    becomes_quiet s.tables e (Shows c.look.new.self) core c.quietly.result (LoadPiece e.seat found.0 found.1) c.quietly.ensures
    (record { by = refl; kind_is = c.requires; on = found.3 }) (entered_live e.seat core live, found.2.0, found.2.1)
    (c.look.ensures.shows (enters e.seat core) e.seat (Piece found.0 found.1) in' c.in_ok-at.ensures.at (subst (λ (g : Shape). Fits g (Piece found.0 found.1)) (sym c.enter.ensures.tables) found.2)
    (ap (λ (g : Shape). number g (Piece found.0 found.1)) c.enter.ensures.tables ∙ sym found.3))
    refl refl
