use Rattle.std.proofs.Common.{◌∙◌, ap, arith}
use Rattle.halo_message.specs.Elements.{decoded}
use Rattle.halo_message.proofs.ElementFacts.{values-back, whole-parts}
use Rattle.halo_message.proofs.message.Message.decode_part.Goals as goal

pub returns-clause-sent : goal.returns-clause-sent
returns-clause-sent g c sent long words is =
    let m = c.args.self.now in
    let cut = c.geometry-geometry.ensures in
    c.decode_chunks.ensures ∙ ap (λ n. decoded n c.args.arrival.now.bytes) c.requires.out
    ∙ values-back m c.args.q sent c.args.arrival.now.bytes (whole-parts m c.geometry-geometry.result cut.value cut.whole cut.limits) c.requires.part (let e = c.elements-elements.ensures.enough in let v = c.elements-elements.ensures.value in omega arith) long words is
