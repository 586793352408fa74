use Rattle.std.proofs.Common.{◌≡◌, [], ap}
use Rattle.pair_rule.specs.First.{receiver, first_view}
use Rattle.pair_rule.specs.Parts.{first_lanes, first_shelves}
use Rattle.pair_rule.specs.Seats.{PairOf, Held, RecvHeld}
use Rattle.running_tests.proofs.Sending.{ok_is}
use Rattle.running_tests.proofs.ends.ends.Goals as goal

pub from_seat-recv-requires-clause-rest : goal.from_seat-recv-requires-clause-rest
from_seat-recv-requires-clause-rest g c =
    let d = c.expect-geometry.result in
    let made = ok_is c.create.result c.expect-pair.result
    (λ (x : PairOf (Unit {0}) × Held × RecvHeld). x.2 ≡ record { table = x.0.table; view = receiver (first_view d); lanes = first_lanes d; slots = []; shelves = first_shelves d })
    c.expect-pair.ensures c.create.ensures.recv in
    c.first_laws.ensures d c.expect-pair.result.2 (ap (λ (s : RecvHeld). s.view) made) (ap (λ (s : RecvHeld). s.shelves) made)
