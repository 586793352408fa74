use Rattle.std.proofs.Common.{sym, subst}
use Rattle.pair_rule.specs.Views.{told}
use Rattle.pair_rule.proofs.SendViews.{IsSending, send_told, send_looks_claim}
use Rattle.pair_rule.proofs.pair.Pair.learn_send.Goals as goal

pub invariant_of-seat : goal.invariant_of-seat
invariant_of-seat g c =
    let me = c.seat.inside.seat.me in let i = c.seat.invariant in let both = told me.0 c.args.note.view in
    subst (IsSending c.seat.inside.round) (sym c.hear.ensures.step)
    (i.0, i.1, i.2, i.3, send_looks_claim both 0 c.hear.result c.hear.ensures.words (send_told me.0 c.args.note.view i.4), i.5)
