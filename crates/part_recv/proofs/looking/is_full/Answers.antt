use Rattle.std.proofs.Common.{◌≡◌, bit_and, sym, ◌∙◌}
use Rattle.std.proofs.lemmas.Bool.{eq-eqb, eqb-true}
use Rattle.gate_word.specs.Words.{bits_in}
use Rattle.part_geometry.specs.Pieces.{need}
use Rattle.part_recv.proofs.Masks.{mask_full, full_mask}
use Rattle.part_recv.proofs.looking.is_full.Goals as goal

pub returns-then-round_of-round : goal.returns-then-round_of-round
returns-then-round_of-round c =
    let g = c.args.tables.now in let w = c.args.word in let i = c.args.i in
    let v = c.geometry-geometry.ensures.limits in
    let n : c.need-need.result ≡ need g i = c.need-need.ensures in
    let b : c.bits_of.result ≡ bits_in w = c.bits_of.ensures.value in
    let same : bit_and c.need-need.result c.bits_of.result ≡ bit_and (need g i) (bits_in w) = λ j. bit_and (n j) (b j) in (
      (λ h. mask_full g v w c.args.round i c.requires (sym c.round_of.ensures.value ∙ c.if-round_of-round.true) (sym same ∙ (eqb-true _ _ h ∙ n))),
      (λ full. eq-eqb _ _ (same ∙ (full_mask g v w c.args.round i c.requires full ∙ sym n))),
    )
