use Rattle.std.proofs.Common.{◌≡◌, ◌*◌}
use Rattle.pair_core.specs.Names.{take_words}
use Rattle.pair_rule.specs.Parts.{untaken}
use Rattle.part_recv.specs.Receiving.{returns_stored, takes_stored}
use Rattle.part_recv.proofs.rounds.open_round.Given as goal

abbrev pub invariant-returns : goal.invariant-returns
invariant-returns g l = l.seat ≡ record l.fn.seat { view = returns_stored l.round l.word l.fn.seat.view }

abbrev pub invariant-takes : goal.invariant-takes
invariant-takes g l =
    l.seat ≡ record l.fn.seat {
      view = takes_stored l.word (returns_stored l.round (take_words l.fn.seat.view.geometry) l.fn.seat.view);
      lanes = untaken 0 (32 * l.word) l.fn.seat.lanes;
    }
