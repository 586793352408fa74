use Rattle.std.proofs.Common.{◌≡◌, ◌∙◌, ap, ℕ, ◌+◌, ◌≤◌, pos, length, subst, sym, map, to_z, w64, arith}
use Rattle.std.proofs.lemmas.Simd.{length-put_chunk}
use Rattle.std.proofs.lemmas.List.Elements.{All-from_get_or}
use Rattle.cell_lanes.specs.Lanes.{two}
use Rattle.cell_lanes.specs.Sizes.{IsSum}
use Rattle.cell_lanes.specs.Window.{sum_at}
use Rattle.cell_lanes.proofs.TwoFacts.{two-back}
use Rattle.cell_lanes.proofs.WindowFacts.{done-two, done-one}
use Rattle.cell_lanes.proofs.sums.sums_at_reach.Goals as goal
use Rattle.cell_lanes.proofs.sums.sums_at_reach.Goals.{then-is_mirrored, else-is_mirrored}

pub loop-out-init : goal.loop-out-init
loop-out-init c = (omega arith, λ x h. absurd (omega arith))

pub overflow_sub-out : goal.overflow_sub-out
overflow_sub-out c = c.loop-out.invariant.0

pub loop-out-smaller : goal.loop-out-smaller
loop-out-smaller c =
    let long = length-put_chunk c.loop-out.x c.loop-out.out (map (to_z w64) c.if-is_mirrored.sums) in
    let room = c.loop-out-test.true in
    omega (arith, long, room)

pub loop-out-preserved : goal.loop-out-preserved
loop-out-preserved c =
    let lanes = map (to_z w64) c.if-is_mirrored.sums in
    let f : ℕ → _ = λ i. sum_at c.args.weights.now c.args.window.now c.args.width (c.loop-out.x + i) in
    let whole : (lanes ≡ two f) × ((i : ℕ) → IsSum (f i)) =
    elim c.if-is_mirrored.branch [
      | then-is_mirrored w ↦ (
        ap (map (to_z w64)) w.sums-is ∙ two-back w.mirrored_sums_of_two-sums.result f w.mirrored_sums_of_two-sums.ensures.sums (λ i. let s = w.mirrored_sums_of_two-sums.ensures.limits i in omega arith),
        w.mirrored_sums_of_two-sums.ensures.limits,
      )
      | else-is_mirrored w ↦ (
        ap (map (to_z w64)) w.sums-is ∙ two-back w.sums_of_two-sums.result f w.sums_of_two-sums.ensures.sums (λ i. let s = w.sums_of_two-sums.ensures.limits i in omega arith),
        w.sums_of_two-sums.ensures.limits,
      )
    ] in
    let long = length-put_chunk c.loop-out.x c.loop-out.out lanes in
    let room = c.loop-out-test.true in
    let size : c.loop-out.x + 2 ≤ length c.loop-out.out = omega arith in (
      rw long size,
      done-two c.args.weights.now c.args.window.now c.args.width c.loop-out.x c.loop-out.out lanes c.loop-out.invariant.1 size whole.0 whole.1,
    )

pub loop-rest-init : goal.loop-rest-init
loop-rest-init c = c.loop-out.invariant.1

pub loop-rest-preserved : goal.loop-rest-preserved
loop-rest-preserved c =
    let few = c.loop-rest-test.true in
    let same = c.weights.ensures.same in
    let value : c.sum_of_one.result ≡ sum_at c.args.weights.now c.args.window.now c.args.width c.loop-rest.rest =
    subst (λ w. c.sum_of_one.result ≡ sum_at w c.args.window.now c.args.width c.loop-rest.rest) same c.sum_of_one.ensures.value in
    done-one c.args.weights.now c.args.window.now c.args.width c.loop-rest.rest c.loop-rest.out c.sum_of_one.result c.loop-rest.invariant (omega arith) value c.sum_of_one.ensures.limits

pub returns-clause-sums : goal.returns-clause-sums
returns-clause-sums c x h =
    let end = c.loop-rest-test.false in
    (c.loop-rest.invariant x (omega arith)).0

pub returns-clause-limits : goal.returns-clause-limits
returns-clause-limits c =
    let end = c.loop-rest-test.false in
    All-from_get_or IsSum c.loop-rest.out (pos 0)
    (λ x h. let done = c.loop-rest.invariant x (omega arith) in subst IsSum (sym done.0) done.1)
