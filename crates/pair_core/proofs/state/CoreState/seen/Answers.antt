use Rattle.std.proofs.Common.{◌<◌, ℕ, ap, sym, ◌∙◌, get_or, length, arith}
use Rattle.pair_core.proofs.StateSeats.{read_seat, read_number, at_seat}
use Rattle.pair_core.proofs.state.CoreState.seen.Goals as goal

pub index-requires-2 : goal.index-requires-2
index-requires-2 c =
    let size = c.args.self.now.kept.seen c.args.at c.index.result.now (read_seat c.args.self.now.seats.items c.args.at c.index.result.now c.requires.at c.index.ensures) in
    omega (arith, c.requires.index)

pub returns : goal.returns
returns c = λ core n x shows there fits at.
    let is = read_seat c.args.self.now.seats.items c.args.at c.index.result.now c.requires.at c.index.ensures in
    let view = shows.seats_are c.args.at c.index.result.now is in
    let size = c.args.self.now.kept.seen c.args.at c.index.result.now is in
    let low : c.args.index < length c.index.result.now.seen.items = omega (arith, c.requires.index) in
    read_number c.index.result.now.seen.items c.args.index c.index-2.result.now low c.index-2.ensures
    ∙ (ap (λ (z : ℕ). get_or c.index.result.now.seen.items z 0) (sym at)
    ∙ (view.seen x fits ∙ ap (λ (z : ℕ). core.seen z x) (at_seat c.args.self.now.seats.items c.args.at n c.index.result.now is there)))
