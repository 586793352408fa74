use Rattle.std.proofs.Common.{◌≡◌, ◌↔◌, ◌∙◌, Option, None, ap, subst, rules}
use Rattle.std.specs.Prelude.{IsTrue}
use Rattle.pair_core.specs.declared.view.Pending.{Pending}
use Rattle.pair_core.proofs.StateSeats.{read_seat, at_seat}
use Rattle.pair_core.proofs.state.CoreState.is_free.Goals as goal

pub returns : goal.returns
returns c = λ core n shows there.
    let s = c.args.self.now in
    let is = read_seat s.seats.items c.args.at c.index.result.now c.requires c.index.ensures in
    let view = shows.seats_are c.args.at c.index.result.now is in
    subst (λ (o : Option Pending). IsTrue c.is_none.result ↔ (o ≡ None)) (view.pending ∙ ap core.pending (at_seat s.seats.items c.args.at n c.index.result.now is there)) (search rules)
