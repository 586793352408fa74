use Rattle.std.proofs.Common.{ap}
use Rattle.pair_rule.specs.Seats.{RecvHeld}
use Rattle.partrate.proofs.measuring.measure.Goals as goal

pub from_seat-recv-requires-clause-rest : goal.from_seat-recv-requires-clause-rest
from_seat-recv-requires-clause-rest g c =
    let made = c.in_ok-pair.ensures.recv in
    c.first_laws.ensures _ _ (ap (λ (s : RecvHeld). s.view) made) (ap (λ (s : RecvHeld). s.shelves) made)
