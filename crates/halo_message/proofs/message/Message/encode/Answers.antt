use Rattle.std.proofs.Common.{◌∙◌, ap, refl, ℕ, replicate, length, ◌-◌, arith}
use Rattle.halo_message.specs.Message.{elements}
use Rattle.halo_message.specs.Elements.{encoded}
use Rattle.halo_message.proofs.ElementFacts.{behind-long, elements-long, zeros-behind}
use Rattle.halo_message.proofs.message.Message.encode.Goals as goal

pub returns : goal.returns
unfolding encoded
returns c =
    zeros-behind c.args.values.now c.encode_all.new.out _ c.zero_all.new.out _ _ (elements c.args.self.now - length c.args.values.now) c.encode_all.ensures refl refl
    (c.zero_all.ensures ∙ ap (λ (n : ℕ). replicate n 0)
    (behind-long c.encode_all.new.out c.args.out.now (length c.args.values.now) (elements c.args.self.now) (ap length c.encode_all.ensures ∙ elements-long c.args.values.now) c.requires.bytes (let e = c.elements-elements.ensures.enough in let v = c.elements-elements.ensures.value in let l = c.requires.values in omega arith)))
