use Rattle.std.proofs.Common.{◌∙◌, ap, ◌+◌, ◌-◌, ◌*◌, pos, get_or, w64, arith, rules}
use Rattle.std.proofs.lemmas.Int.{to_z-of_z}
use Rattle.halo_message.specs.Elements.{element}
use Rattle.halo_message.proofs.ElementFacts.{encode-next}
use Rattle.halo_message.proofs.elements.encode_all.Goals as goal

pub loop-i-preserved : goal.loop-i-preserved
loop-i-preserved c =
    encode-next c.args.values.now c.loop-i.out c.copy_from_slice.new.self c.loop-i.i (c.loop-i.i * 8 + 8 - c.loop-i.i * 8) (pos 0) c.loop-i-test.true (omega arith) c.loop-i.invariant
    (c.copy_from_slice.ensures.after ∙ c.to_le_bytes.ensures ∙ ap element (to_z-of_z w64 (get_or c.args.values.now c.loop-i.i (pos 0)) (search rules)))
