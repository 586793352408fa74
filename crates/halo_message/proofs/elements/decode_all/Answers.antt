use Rattle.std.proofs.Common.{refl, ◌∙◌, ap, w64, to_z, List, ℕ, arith, rules}
use Rattle.std.specs.Int.{from_le_bytes}
use Rattle.std.proofs.lemmas.Int.{to_z-of_z}
use Rattle.halo_message.specs.Elements.{decoded}
use Rattle.halo_message.proofs.ElementFacts.{decode-next}
use Rattle.halo_message.proofs.elements.decode_all.Goals as goal

pub loop-i-init : goal.loop-i-init
unfolding decoded
loop-i-init c = refl

pub loop-i-preserved : goal.loop-i-preserved
loop-i-preserved c =
    decode-next c.args.bytes.now c.loop-i.out c.loop-i.i _ (omega arith) c.loop-i.invariant
    (to_z-of_z w64 c.from_le_bytes.result (search rules) ∙ (c.from_le_bytes.ensures ∙ ap (λ (xs : List ℕ). to_z w64 (from_le_bytes w64 xs)) c.copy_from_slice.ensures.after))
