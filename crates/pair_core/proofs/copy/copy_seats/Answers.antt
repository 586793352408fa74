use Rattle.pair_core.proofs.StateSeats.{read_seat}
use Rattle.pair_core.proofs.StateCopy.{some_more}
use Rattle.pair_core.proofs.copy.copy_seats.Goals as goal

pub loop-at-preserved : goal.loop-at-preserved
loop-at-preserved c =
    some_more c.loop-at.at c.args.seats.now c.loop-at.copies.items c.push.new.self.items c.index-seats-at.result c.in_ok-copy_seat.field-0 c.loop-at.invariant
    (read_seat c.args.seats.now c.loop-at.at c.index-seats-at.result c.loop-at-test.true c.index-seats-at.is) c.in_ok-copy_seat.ensures c.in_ok-push.ensures.items
