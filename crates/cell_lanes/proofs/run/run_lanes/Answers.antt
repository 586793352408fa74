use Rattle.std.proofs.Common.{◌≡◌, ◌∙◌, ◌+◌, ◌*◌, ◌<◌, sym, ap, subst, length, arith}
use Rattle.std.specs.List.{All}
use Rattle.stencil_def.specs.Limits.{IsSide, IsValue}
use Rattle.stencil_def.specs.Plane.{cell}
use Rattle.cell_lanes.specs.Padding.{IsPadded}
use Rattle.stencil_def.specs.Step.{fold_plane}
use Rattle.stencil_def.proofs.FoldFacts.{fold-rows, fold-cols, fold-length}
use Rattle.cell_lanes.proofs.FoldFacts.{padded-step, padded-first, length-first, lent-whole, if-ok}
use Rattle.cell_lanes.proofs.run.run_lanes.Goals as goal

pub loop-step-init : goal.loop-step-init
loop-step-init c =
    let g = c.args.grid.now in
    let rule = c.args.rule.now in
    let e = c.rows-rows.ensures.value in
    let f = c.cols-cols.ensures.value in
    let size = c.len.ensures in
    record {
      last_length = length-first g rule c.rows-rows.result c.cols-cols.result (length c.in_ok-last.last.items) e f c.in_ok-last.ensures.length;
      next_length = c.in_ok-next.ensures.length ∙ (size ∙ c.in_ok-last.last.ok.0);
      last_values = c.in_ok-last.ensures.values;
      next_values = c.in_ok-next.ensures.values;
      padded = padded-first g rule c.rows-rows.result c.cols-cols.result c.in_ok-last.last.items e f c.in_ok-last.ensures.padded;
    }

pub loop-step-preserved : goal.loop-step-preserved
loop-step-preserved c =
    let g = c.args.grid.now in
    let rule = c.args.rule.now in
    let n = c.loop-step._step in
    let rows = c.rows-rows.result in
    let cols = c.cols-cols.result in
    let e : g.rows ≡ rows = sym c.rows-rows.ensures.value in
    let f : g.cols ≡ cols = sym c.cols-cols.ensures.value in
    let p = c.rows-rows.ensures.limits in
    let some-rows : 0 < rows = let h = p.rows.0 in omega (arith, h, e) in
    let some-cols : 0 < cols = let h = p.cols.0 in omega (arith, h, f) in
    let y : c.swap.new.y.items ≡ c.loop-step.last.items = ap (λ v. v.items) c.swap.ensures.y_after in
    let same : length c.next_padded.new.next ≡ length c.loop-step.next.items = c.next_padded.auto.next ∙ ap length c.deref_mut.ensures.value in
    let x : c.swap.new.x.items ≡ c.next_padded.new.next = ap (λ v. v.items) c.swap.ensures.x_after ∙ lent-whole c.loop-step.next.items c.next_padded.new.next _ c.loop-step.next.ok.0 same in
    let now : IsPadded (cell (fold_plane g rule n)) rule rows cols c.deref.result.now =
    subst (λ xs. IsPadded (cell (fold_plane g rule n)) rule rows cols xs) (sym c.deref.ensures.value) c.loop-step.invariant.padded in
    let next = padded-step g rule n rows cols c.next_padded.new.next e f some-rows some-cols
    (c.next_padded.ensures.padded (fold_plane g rule n) (fold-rows g rule n ∙ e) (fold-cols g rule n ∙ f) now) in
    record {
      last_length = ap length x ∙ (same ∙ (c.loop-step.invariant.next_length ∙ c.loop-step.invariant.last_length));
      next_length = ap length y ∙ (sym c.loop-step.invariant.next_length ∙ (sym same ∙ sym (ap length x)));
      last_values = subst (λ xs. All IsValue xs) (sym x) c.next_padded.ensures.values;
      next_values = subst (λ xs. All IsValue xs) (sym y) c.loop-step.invariant.last_values;
      padded = subst (λ xs. IsPadded (cell (fold_plane g rule (n + 1))) rule rows cols xs) (sym x) next;
    }

pub returns-clause-fold : goal.returns-clause-fold
returns-clause-fold c =
    let g = c.args.grid.now in
    let rule = c.args.rule.now in
    let rows = c.rows-rows.result in
    let cols = c.cols-cols.result in
    let e : g.rows ≡ rows = sym c.rows-rows.ensures.value in
    let f : g.cols ≡ cols = sym c.cols-cols.ensures.value in
    let end : c.loop-step._step ≡ c.args.steps = let h = c.loop-step-test.false in omega arith in
    let last = fold_plane g rule c.loop-step._step in
    let size : length last.values ≡ rows * cols = fold-length g rule c.loop-step._step c.rows-rows.ensures.limits ∙ (ap (λ k. k * g.cols) e ∙ ap (λ k. rows * k) f) in
    let now : IsPadded (cell last) rule rows cols c.deref-2.result.now =
    subst (λ xs. IsPadded (cell last) rule rows cols xs) (sym c.deref-2.ensures.value) c.loop-step.invariant.padded in
    if-ok _ (λ grid. grid ≡ fold_plane g rule c.args.steps) c.middle.result
    (λ grid h. h last (fold-rows g rule c.loop-step._step ∙ e) (fold-cols g rule c.loop-step._step ∙ f) size now ∙ ap (fold_plane g rule) end) c.middle.ensures.cells

pub next_padded-requires-clause-length : goal.next_padded-requires-clause-length
next_padded-requires-clause-length c = ap length c.deref.ensures.value ∙ c.loop-step.invariant.last_length

pub next_padded-requires-clause-same_length : goal.next_padded-requires-clause-same_length
next_padded-requires-clause-same_length c =
    ap length c.deref_mut.ensures.value ∙ (c.loop-step.invariant.next_length ∙ sym (ap length c.deref.ensures.value))

pub middle-requires-clause-cells : goal.middle-requires-clause-cells
middle-requires-clause-cells c =
    let same = ap (λ n. n * c.cols-cols.result) c.rows-rows.ensures.value ∙ ap (λ n. c.args.grid.now.rows * n) c.cols-cols.ensures.value in
    let few = c.rows-rows.ensures.limits.cells in
    omega (arith, same, few)

pub middle-requires-clause-length : goal.middle-requires-clause-length
middle-requires-clause-length c = ap length c.deref-2.ensures.value ∙ c.loop-step.invariant.last_length

pub next_padded-requires-clause-rows : goal.next_padded-requires-clause-rows
next_padded-requires-clause-rows c = let p = c.rows-rows.ensures.limits in subst IsSide (sym c.rows-rows.ensures.value) p.rows

pub next_padded-requires-clause-cols : goal.next_padded-requires-clause-cols
next_padded-requires-clause-cols c = let p = c.cols-cols.ensures.limits in subst IsSide (sym c.cols-cols.ensures.value) p.cols

pub next_padded-requires-clause-values : goal.next_padded-requires-clause-values
next_padded-requires-clause-values c = subst (All IsValue) (sym c.deref.ensures.value) c.loop-step.invariant.last_values

pub next_padded-requires-clause-next_values : goal.next_padded-requires-clause-next_values
next_padded-requires-clause-next_values c = subst (All IsValue) (sym c.deref_mut.ensures.value) c.loop-step.invariant.next_values

pub next_padded-requires-clause-weights : goal.next_padded-requires-clause-weights
next_padded-requires-clause-weights c = c.new-weights.ensures

pub middle-requires-clause-rows : goal.middle-requires-clause-rows
middle-requires-clause-rows c = let p = c.rows-rows.ensures.limits in subst IsSide (sym c.rows-rows.ensures.value) p.rows

pub middle-requires-clause-cols : goal.middle-requires-clause-cols
middle-requires-clause-cols c = let p = c.cols-cols.ensures.limits in subst IsSide (sym c.cols-cols.ensures.value) p.cols

pub middle-requires-clause-values : goal.middle-requires-clause-values
middle-requires-clause-values c = subst (All IsValue) (sym c.deref-2.ensures.value) c.loop-step.invariant.last_values

pub returns-clause-limits : goal.returns-clause-limits
returns-clause-limits c = c.middle.ensures.limits
