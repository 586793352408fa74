use Rattle.std.proofs.Common.{◌∙◌, ap, arith}
use Rattle.halo_message.specs.Elements.{decoded}
use Rattle.halo_message.proofs.ElementFacts.{values-back, whole-parts}
use Rattle.halo_message.proofs.message.Message.decode_bytes.Goals as goal

pub returns-clause-sent : goal.returns-clause-sent
returns-clause-sent c sent long words is =
    let m = c.args.self.now in
    let g = c.geometry-geometry.ensures in
    c.decode_all.ensures ∙ ap (λ n. decoded n c.args.bytes.now) c.requires.out
    ∙ values-back m c.args.q sent c.args.bytes.now (whole-parts m c.geometry-geometry.result g.value g.whole g.limits) c.requires.part (let e = c.elements-elements.ensures.enough in let v = c.elements-elements.ensures.value in omega arith) long words is
