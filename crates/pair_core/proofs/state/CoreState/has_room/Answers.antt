use Rattle.std.proofs.Common.{◌≡◌, ◌+◌, ap, arith, rules}
use Rattle.gate_word.specs.Words.{round_in}
use Rattle.pair_core.specs.Names.{Release}
use Rattle.pair_core.proofs.StateSeats.{send_at}
use Rattle.pair_core.proofs.state.CoreState.has_room.Goals as goal

pub returns : goal.returns
returns c = λ core shows.
    let s = c.args.self.now in let at = send_at s.tables s.words.items s.slots.items s.send s.recv s.seats.items s.kept in
    let seen = ap round_in (c.seen-seen.ensures core 0 Release shows at tt (omega arith)) in
    let e : c.round_of.result + c.depth.result ≡ round_in (core.seen 0 Release) + s.tables.depth = omega (arith, c.round_of.ensures.value, c.depth.ensures.value, ap (λ g. g.depth) c.geometry.ensures.value) in
    rw e (search rules)
