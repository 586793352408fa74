use Rattle.std.proofs.Common.{◌∙◌, ap, ◌/◌, ◌+◌, arith}
use Rattle.halo_message.proofs.ElementFacts.{part-starts, whole-parts}
use Rattle.halo_message.proofs.message.Message.part.Goals as goal

pub returns-clause-value : goal.returns-clause-value
returns-clause-value c =
    let m = c.args.self.now in
    let g = c.geometry.ensures in
    let whole = whole-parts m c.geometry.result g.value g.whole g.limits in
    let own = ap (λ x. x / 8) (c.recv_bytes-own.ensures.value ∙ ap (λ s. s.recv_bytes) g.value) in
    let all = c.values-values.ensures.value in
    let first = c.min.ensures ∙ part-starts m c.args.q (c.recv_bytes-own.result / 8) c.values-values.result whole (omega arith) own all in
    let last = c.min-2.ensures ∙ part-starts m (c.args.q + 1) (c.recv_bytes-own.result / 8) c.values-values.result whole (omega arith) own all in
    cc
