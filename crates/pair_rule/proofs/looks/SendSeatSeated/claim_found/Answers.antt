use Rattle.std.proofs.Common.{◌<◌, sym, subst}
use Rattle.pair_core.specs.Names.{claim_words}
use Rattle.pair_rule.proofs.SendViews.{IsSending, send_looks_claim}
use Rattle.pair_rule.proofs.looks.SendSeatSeated.claim_found.Goals as goal

pub invariant_of-self : goal.invariant_of-self
invariant_of-self g c =
    let me = c.self.inside.seat.me in let i = c.self.invariant in
    let there = subst (λ s. c.args.word < claim_words s.view.geometry) (sym c.self.view_is) c.requires.word in
    subst (IsSending c.self.inside.round) (sym c.load_claim_as.ensures.step) (i.0, i.1, i.2, i.3, send_looks_claim me.0 c.args.word c.load_claim_as.result there i.4, i.5)
