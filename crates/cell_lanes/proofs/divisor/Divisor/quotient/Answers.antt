use Rattle.std.proofs.Common.{◌≡◌, ◌∙◌, ap, pos, int_div, unsigned_abs, to_z, of_z, w64}
use Rattle.std.proofs.lemmas.Int.{to_z-of_z}
use Rattle.stencil_def.specs.Step.{clamped}
use Rattle.cell_lanes.proofs.divisor.Divisor.quotient.Goals as goal

pub returns-clause-value : goal.returns-clause-value
returns-clause-value c =
    let d = c.args.self.now in
    let size : pos c.rounded_down.result ≡ int_div (pos (unsigned_abs (to_z w64 (of_z w64 c.args.sum)))) d = c.rounded_down.ensures ∙ ap (λ n. int_div (pos n) d) c.unsigned_abs.ensures.value in
    to_z-of_z w64 c.signed.result (record { sfits = c.signed.type_inv })
    ∙ (c.signed.ensures.value d size ∙ ap (λ z. clamped (int_div z d)) (to_z-of_z w64 c.args.sum c.ranges.sum))
