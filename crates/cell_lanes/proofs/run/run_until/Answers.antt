use Rattle.std.proofs.Common.{◌≡◌, ◌∙◌, ◌+◌, ◌*◌, ◌<◌, sym, ap, subst, length, to_z, of_z, w64, arith}
use Rattle.std.proofs.lemmas.Int.{ints, to_z-of_z}
use Rattle.std.specs.List.{All}
use Rattle.stencil_def.specs.Limits.{IsSide, IsValue}
use Rattle.stencil_def.specs.Plane.{cell}
use Rattle.stencil_def.specs.Step.{fold_plane}
use Rattle.stencil_def.proofs.FoldFacts.{fold-rows, fold-cols, fold-length}
use Rattle.cell_lanes.specs.Change.{IsStop}
use Rattle.cell_lanes.specs.Padding.{IsPadded}
use Rattle.cell_lanes.proofs.ChangeFacts.{change-back}
use Rattle.cell_lanes.proofs.FoldFacts.{padded-step, padded-first, length-first, lent-whole}
use Rattle.cell_lanes.proofs.StopFacts.{IsRun, run-none, run-more, run-spent, run-stops}
use Rattle.cell_lanes.proofs.run.run_until.Goals.{then-loop-goes_on-test+else-made-steps, else-loop-goes_on-test}
use Rattle.cell_lanes.proofs.run.run_until.Goals as goal

pub loop-goes_on-init : goal.loop-goes_on-init
loop-goes_on-init c =
    let g = c.args.grid.now in
    let rule = c.args.rule.now in
    let e = c.rows-rows.ensures.value in
    let f = c.cols-cols.ensures.value in
    record {
      within = omega arith;
      last_length = length-first g rule c.rows-rows.result c.cols-cols.result (length c.in_ok-last.last.items) e f c.in_ok-last.ensures.length;
      next_length = c.in_ok-next.ensures.length ∙ (c.len.ensures ∙ c.in_ok-last.last.ok.0);
      last_values = c.in_ok-last.ensures.values;
      next_values = c.in_ok-next.ensures.values;
      padded = padded-first g rule c.rows-rows.result c.cols-cols.result c.in_ok-last.last.items e f c.in_ok-last.ensures.padded;
      run = run-none g rule (to_z w64 (of_z w64 c.args.until));
    }

pub loop-goes_on-preserved : goal.loop-goes_on-preserved
loop-goes_on-preserved c =
    let g = c.args.grid.now in
    let rule = c.args.rule.now in
    let l = c.loop-goes_on in
    let i = l.invariant in
    let step = c.next_padded_changed-most in
    let n = l.made in
    let rows = c.rows-rows.result in
    let cols = c.cols-cols.result in
    let e : g.rows ≡ rows = sym c.rows-rows.ensures.value in
    let f : g.cols ≡ cols = sym c.cols-cols.ensures.value in
    let p = c.rows-rows.ensures.limits in
    let some-rows : 0 < rows = let h = p.rows.0 in omega (arith, h, e) in
    let some-cols : 0 < cols = let h = p.cols.0 in omega (arith, h, f) in
    let y : c.swap.new.y.items ≡ l.last.items = ap (λ v. v.items) c.swap.ensures.y_after in
    let same : length step.new.next ≡ length l.next.items = step.auto.next ∙ ap length c.deref_mut.ensures.value in
    let x : c.swap.new.x.items ≡ step.new.next = ap (λ v. v.items) c.swap.ensures.x_after ∙ lent-whole l.next.items step.new.next _ l.next.ok.0 same in
    let now : IsPadded (cell (fold_plane g rule n)) rule rows cols c.deref.result.now =
    subst (λ xs. IsPadded (cell (fold_plane g rule n)) rule rows cols xs) (sym c.deref.ensures.value) i.padded in
    let here = step.ensures.padded (fold_plane g rule n) (fold-rows g rule n ∙ e) (fold-cols g rule n ∙ f) now in
    let next = padded-step g rule n rows cols step.new.next e f some-rows some-cols here in
    let until = to_z w64 (of_z w64 c.args.until) in
    let most = to_z w64 (of_z w64 step.result) in
    let made = step.ensures.change (fold_plane g rule n) (fold-rows g rule n ∙ e) (fold-cols g rule n ∙ f) now in
    record {
      within = let h = c.if-made-steps.true in omega arith;
      last_length = ap length x ∙ (same ∙ (i.next_length ∙ i.last_length));
      next_length = ap length y ∙ (sym i.next_length ∙ (sym same ∙ sym (ap length x)));
      last_values = subst (λ xs. All IsValue xs) (sym x) step.ensures.values;
      next_values = subst (λ xs. All IsValue xs) (sym y) i.last_values;
      padded = subst (λ xs. IsPadded (cell (fold_plane g rule (n + 1))) rule rows cols xs) (sym x) next;
      run = run-more g rule until n most _ (subst (IsRun g rule until n) c.loop-goes_on-test.true i.run) (change-back step.result step.ensures.range ∙ made) (λ e. omega (arith, ints)) (λ e. omega (arith, ints));
    }

pub returns-clause-stop : goal.returns-clause-stop
returns-clause-stop c =
    let g = c.args.grid.now in
    let rule = c.args.rule.now in
    let l = c.loop-goes_on in
    let until = to_z w64 (of_z w64 c.args.until) in
    let stop : IsStop g rule c.args.steps until l.made = elim c.loop-goes_on-test.branch [
      | then-loop-goes_on-test+else-made-steps w ↦ run-spent g rule c.args.steps until l.made l.goes_on (let h = w.if-made-steps.false in let k = l.invariant.within in omega arith) l.invariant.run
      | else-loop-goes_on-test w ↦ run-stops g rule c.args.steps until l.made l.invariant.within (subst (IsRun g rule until l.made) w.loop-goes_on-test.false l.invariant.run)
    ] in
    subst (λ z. IsStop g rule c.args.steps z l.made) (to_z-of_z w64 c.args.until c.ranges.until) stop

pub returns-clause-fold : goal.returns-clause-fold
returns-clause-fold c =
    let g = c.args.grid.now in
    let rule = c.args.rule.now in
    let n = c.loop-goes_on.made in
    let e : g.rows ≡ c.rows-rows.result = sym c.rows-rows.ensures.value in
    let f : g.cols ≡ c.cols-cols.result = sym c.cols-cols.ensures.value in
    let last = fold_plane g rule n in
    let size : length last.values ≡ c.rows-rows.result * c.cols-cols.result = fold-length g rule n c.rows-rows.ensures.limits ∙ (ap (λ k. k * g.cols) e ∙ ap (λ k. c.rows-rows.result * k) f) in
    c.in_ok-grid.ensures.cells last (fold-rows g rule n ∙ e) (fold-cols g rule n ∙ f) size
    (subst (λ xs. IsPadded (cell last) rule c.rows-rows.result c.cols-cols.result xs) (sym c.deref-2.ensures.value) c.loop-goes_on.invariant.padded)

pub next_padded_changed-most-requires-clause-length : goal.next_padded_changed-most-requires-clause-length
next_padded_changed-most-requires-clause-length c = ap length c.deref.ensures.value ∙ c.loop-goes_on.invariant.last_length

pub next_padded_changed-most-requires-clause-same_length : goal.next_padded_changed-most-requires-clause-same_length
next_padded_changed-most-requires-clause-same_length c =
    ap length c.deref_mut.ensures.value ∙ (c.loop-goes_on.invariant.next_length ∙ sym (ap length c.deref.ensures.value))

pub middle-requires-clause-cells : goal.middle-requires-clause-cells
middle-requires-clause-cells c =
    let same = ap (λ n. n * c.cols-cols.result) c.rows-rows.ensures.value ∙ ap (λ n. c.args.grid.now.rows * n) c.cols-cols.ensures.value in
    let few = c.rows-rows.ensures.limits.cells in
    omega (arith, same, few)

pub middle-requires-clause-length : goal.middle-requires-clause-length
middle-requires-clause-length c = ap length c.deref-2.ensures.value ∙ c.loop-goes_on.invariant.last_length

pub next_padded_changed-most-requires-clause-rows : goal.next_padded_changed-most-requires-clause-rows
next_padded_changed-most-requires-clause-rows c = let p = c.rows-rows.ensures.limits in subst IsSide (sym c.rows-rows.ensures.value) p.rows

pub next_padded_changed-most-requires-clause-cols : goal.next_padded_changed-most-requires-clause-cols
next_padded_changed-most-requires-clause-cols c = let p = c.cols-cols.ensures.limits in subst IsSide (sym c.cols-cols.ensures.value) p.cols

pub next_padded_changed-most-requires-clause-values : goal.next_padded_changed-most-requires-clause-values
next_padded_changed-most-requires-clause-values c = subst (All IsValue) (sym c.deref.ensures.value) c.loop-goes_on.invariant.last_values

pub next_padded_changed-most-requires-clause-next_values : goal.next_padded_changed-most-requires-clause-next_values
next_padded_changed-most-requires-clause-next_values c = subst (All IsValue) (sym c.deref_mut.ensures.value) c.loop-goes_on.invariant.next_values

pub next_padded_changed-most-requires-clause-weights : goal.next_padded_changed-most-requires-clause-weights
next_padded_changed-most-requires-clause-weights c = c.new-weights.ensures

pub middle-requires-clause-rows : goal.middle-requires-clause-rows
middle-requires-clause-rows c = let p = c.rows-rows.ensures.limits in subst IsSide (sym c.rows-rows.ensures.value) p.rows

pub middle-requires-clause-cols : goal.middle-requires-clause-cols
middle-requires-clause-cols c = let p = c.cols-cols.ensures.limits in subst IsSide (sym c.cols-cols.ensures.value) p.cols

pub middle-requires-clause-values : goal.middle-requires-clause-values
middle-requires-clause-values c = subst (All IsValue) (sym c.deref-2.ensures.value) c.loop-goes_on.invariant.last_values

pub returns-clause-limits : goal.returns-clause-limits
returns-clause-limits c = c.in_ok-grid.ensures.limits
