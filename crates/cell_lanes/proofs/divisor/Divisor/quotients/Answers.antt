use Rattle.std.proofs.Common.{◌≡◌, ◌∙◌, sym, ap, ℕ, ◌+◌, ◌<◌, ◌^◌, ℤ, pos, int_div, unsigned_abs, to_z, of_z, w64, List, length, get_or, set, arith}
use Rattle.std.specs.List.{All}
use Rattle.std.proofs.lemmas.Int.{to_z-of_z, fits_signed_from_abs}
use Rattle.stencil_def.specs.Limits.{IsValue}
use Rattle.stencil_def.specs.Step.{clamped}
use Rattle.cell_lanes.specs.Sizes.{IsSum}
use Rattle.cell_lanes.proofs.MapFacts.{IsMappedBelow, mapped-none, mapped-next, mapped-all, mapped-limits}
use Rattle.cell_lanes.proofs.ReciprocalFacts.{shift-small, power-small, power-is}
use Rattle.cell_lanes.proofs.divisor.Divisor.quotients.Goals as goal

back : (z : ℤ) → unsigned_abs z < 2 ^ 63 → to_z w64 (of_z w64 z) ≡ z
back z h = to_z-of_z w64 z (fits_signed_from_abs w64 z h)

-- one more of the sums is divided
divided-next : (d : ℤ) (xs ys : List ℤ) (n : ℕ) (r : ℤ) → All IsSum xs → IsMappedBelow IsValue (λ sum. clamped (int_div sum d)) xs ys n
    → length ys ≡ length xs → n < length xs → r ≡ clamped (int_div (to_z w64 (of_z w64 (get_or ys n (pos 0)))) d) → IsValue r
    → IsMappedBelow IsValue (λ sum. clamped (int_div sum d)) xs (set ys n (to_z w64 (of_z w64 r))) (n + 1)
divided-next d xs ys n r sums m same inside is kept =
    let f : ℤ → ℤ = λ sum. clamped (int_div sum d) in
    let size : IsSum (get_or xs n (pos 0)) = sums n (pos 0) inside in
    let met : to_z w64 (of_z w64 (get_or ys n (pos 0))) ≡ get_or xs n (pos 0) =
    ap (λ z. to_z w64 (of_z w64 z)) (m.rest n (omega arith)) ∙ back (get_or xs n (pos 0)) (omega arith) in
    rw (back r (omega arith)) (mapped-next IsValue f xs ys n r m (omega arith) (is ∙ ap f met) kept)

pub overflow_shl-shift : goal.overflow_shl-shift
overflow_shl-shift c =
    let d = c.self.inside in
    let few : d.shift < 20 = shift-small d.shift (power-small d.value d.reciprocal d.shift c.self.invariant) in
    omega arith

pub loop-x-init : goal.loop-x-init
loop-x-init c =
    let d = c.self.inside in
    record {
      power = sym c.self.view_is ∙ power-is d.value d.reciprocal d.shift c.self.invariant c.if-self-shift.true;
      small = power-small d.value d.reciprocal d.shift c.self.invariant;
      mapped = mapped-none IsValue (λ sum. clamped (int_div sum c.args.self.now)) c.args.sums.now;
    }

pub loop-x-preserved : goal.loop-x-preserved
loop-x-preserved c = record {
  power = c.loop-x.invariant.power;
  small = c.loop-x.invariant.small;
  mapped = divided-next c.args.self.now c.args.sums.now c.loop-x.sums c.loop-x.x c.shifted.result c.requires c.loop-x.invariant.mapped c.loop-x.auto.sums c.loop-x-test.true
      (c.shifted.ensures.value ∙ ap (λ d. clamped (int_div (to_z w64 (of_z w64 (get_or c.loop-x.sums c.loop-x.x (pos 0)))) d)) (sym c.loop-x.invariant.power)) c.shifted.ensures.limits;
}

pub returns-after-loop-x-clause-values : goal.returns-after-loop-x-clause-values
returns-after-loop-x-clause-values c =
    let l = c.loop-x in
    mapped-all IsValue (λ sum. clamped (int_div sum c.args.self.now)) c.args.sums.now l.sums l.x l.invariant.mapped l.auto.sums c.loop-x-test.false

pub returns-after-loop-x-clause-limits : goal.returns-after-loop-x-clause-limits
returns-after-loop-x-clause-limits c =
    let l = c.loop-x in
    mapped-limits IsValue (λ sum. clamped (int_div sum c.args.self.now)) c.args.sums.now l.sums l.x l.invariant.mapped (omega arith)

pub loop-x-else-self-shift-init : goal.loop-x-else-self-shift-init
loop-x-else-self-shift-init c = mapped-none IsValue (λ sum. clamped (int_div sum c.args.self.now)) c.args.sums.now

pub loop-x-else-self-shift-preserved : goal.loop-x-else-self-shift-preserved
loop-x-else-self-shift-preserved c =
    let l = c.loop-x-else-self-shift in
    divided-next c.args.self.now c.args.sums.now l.sums l.x c.quotient.result c.requires l.invariant l.auto.sums c.loop-x-else-self-shift-test.true c.quotient.ensures.value c.quotient.ensures.limits

pub returns-after-loop-x-else-self-shift-clause-values : goal.returns-after-loop-x-else-self-shift-clause-values
returns-after-loop-x-else-self-shift-clause-values c =
    let l = c.loop-x-else-self-shift in
    mapped-all IsValue (λ sum. clamped (int_div sum c.args.self.now)) c.args.sums.now l.sums l.x l.invariant l.auto.sums c.loop-x-else-self-shift-test.false

pub returns-after-loop-x-else-self-shift-clause-limits : goal.returns-after-loop-x-else-self-shift-clause-limits
returns-after-loop-x-else-self-shift-clause-limits c =
    let l = c.loop-x-else-self-shift in
    mapped-limits IsValue (λ sum. clamped (int_div sum c.args.self.now)) c.args.sums.now l.sums l.x l.invariant (omega arith)
