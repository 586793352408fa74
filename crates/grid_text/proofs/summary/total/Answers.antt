use Rattle.std.proofs.Common.{◌≡◌, ◌∙◌, ℕ, ◌+◌, ◌*◌, ◌^◌, ◌<◌, ◌≤◌, ℤ, pos, ◌+ℤ◌, unsigned_abs, to_z, of_z, w64, get_or, ap, sym, arith}
use Rattle.std.proofs.lemmas.Int.{fits_signed_from_abs, ints, to_z-of_z}
use Rattle.std.proofs.lemmas.List.{take_all}
use Rattle.grid_text.proofs.PrintFacts.{fold-more}
use Rattle.grid_text.proofs.summary.total.Goals as goal

-- a number below 2^63 in size comes back from its 64 bits
narrow : (z : ℤ) → unsigned_abs z < 2 ^ 63 → to_z w64 (of_z w64 z) ≡ z
narrow z h = to_z-of_z w64 z (fits_signed_from_abs w64 z h)

-- how great the sum is with one more value
small : (s x : ℤ) (n : ℕ) → unsigned_abs s ≤ n * 1000000000000 → unsigned_abs x ≤ 1000000000000 → n < 1000000
    → (unsigned_abs (s +ℤ x) ≤ (n + 1) * 1000000000000) × (unsigned_abs (s +ℤ x) < 2 ^ 63)
small s x n a b c = (omega (arith, ints), omega (arith, ints))

pub overflow_add-sum : goal.overflow_add-sum
overflow_add-sum c =
    let few = c.requires.few in
    let x = get_or c.args.values.now c.loop-value.value-index (pos 0) in
    let v : unsigned_abs x ≤ 1000000000000 = c.requires.values c.loop-value.value-index (pos 0) c.loop-value-test.true in
    let b = small (to_z w64 c.loop-value.sum-bits) x c.loop-value.value-index c.loop-value.invariant.limits v (omega arith) in
    rw (narrow x (omega (arith, v))) (fits_signed_from_abs w64 _ b.1)

pub loop-value-preserved : goal.loop-value-preserved
loop-value-preserved c =
    let few = c.requires.few in
    let x = get_or c.args.values.now c.loop-value.value-index (pos 0) in
    let s = to_z w64 c.loop-value.sum-bits in
    let v : unsigned_abs x ≤ 1000000000000 = c.requires.values c.loop-value.value-index (pos 0) c.loop-value-test.true in
    let b = small s x c.loop-value.value-index c.loop-value.invariant.limits v (omega arith) in
    let exact = ap (λ (y : ℤ). to_z w64 (of_z w64 (s +ℤ y))) (narrow x (omega (arith, v))) ∙ narrow (s +ℤ x) b.1 in
    record {
      sum = exact ∙ (ap (λ (y : ℤ). y +ℤ x) c.loop-value.invariant.sum ∙ sym (fold-more ◌+ℤ◌ (pos 0) c.args.values.now c.loop-value.value-index c.loop-value-test.true));
      limits = rw exact b.0;
    }

pub returns : goal.returns
returns c = rw (take_all c.loop-value.value-index c.args.values.now (omega arith)) at c.loop-value.invariant.sum
