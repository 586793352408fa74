use Rattle.std.proofs.Common.{◌≡◌, ◌∙◌, ◌+◌, ◌*◌, sym, ap, subst, List, ℤ, ℕ, length}
use Rattle.std.specs.List.{All}
use Rattle.stencil_def.specs.Limits.{IsValue}
use Rattle.stencil_def.specs.Plane.{cell}
use Rattle.cell_lanes.specs.Padding.{IsPadded, RowsAre}
use Rattle.cell_lanes.proofs.FoldFacts.{lent-whole}
use Rattle.cell_lanes.proofs.padded.padded.Goals as goal

-- the length of a grid with ends, from the sizes that the code reads
size-is : (rows cols reach n m r size : ℕ) → rows ≡ n → cols ≡ m → reach ≡ r → size ≡ (rows + 2 * reach) * (cols + 2 * reach) → size ≡ (n + 2 * r) * (m + 2 * r)
size-is rows cols reach n m r size e f k is =
    is ∙ (ap (λ z. (z + 2 * reach) * (cols + 2 * reach)) e ∙ (ap (λ z. (n + 2 * reach) * (z + 2 * reach)) f ∙ ap (λ z. (n + 2 * z) * (m + 2 * z)) k))

pub copy_rows-requires-clause-length : goal.copy_rows-requires-clause-length
copy_rows-requires-clause-length c =
    ap length c.deref_mut.ensures.value
    ∙ (c.in_ok-values.ensures.length ∙ size-is c.rows-rows.result c.cols-cols.result c.reach-reach.result _ _ _ c.start_of.result c.rows-rows.ensures.value c.cols-cols.ensures.value c.reach-reach.ensures.value c.start_of.ensures)

pub returns-clause-length : goal.returns-clause-length
returns-clause-length c =
    let v = c.in_ok-values.values in
    let long = c.copy_rows.auto.values ∙ ap length c.deref_mut.ensures.value in
    let copied = lent-whole v.items c.copy_rows.new.values v.len v.ok.0 long in
    let same = c.set_all_end_rows.auto.values ∙ ap length c.deref_mut-2.ensures.value in
    let whole = lent-whole _ c.set_all_end_rows.new.values v.len (v.ok.0 ∙ sym (ap length copied ∙ long)) same in
    ap length whole ∙ (same ∙ (ap length copied ∙ (long ∙ (c.in_ok-values.ensures.length
    ∙ size-is c.rows-rows.result c.cols-cols.result c.reach-reach.result _ _ _ c.start_of.result c.rows-rows.ensures.value c.cols-cols.ensures.value c.reach-reach.ensures.value c.start_of.ensures))))

pub returns-clause-padded : goal.returns-clause-padded
returns-clause-padded c =
    let g = c.args.grid.now in
    let rule = c.args.rule.now in
    let v = c.in_ok-values.values in
    let long = c.copy_rows.auto.values ∙ ap length c.deref_mut.ensures.value in
    let copied = lent-whole v.items c.copy_rows.new.values v.len v.ok.0 long in
    let same = c.set_all_end_rows.auto.values ∙ ap length c.deref_mut-2.ensures.value in
    let whole = lent-whole _ c.set_all_end_rows.new.values v.len (v.ok.0 ∙ sym (ap length copied ∙ long)) same in
    let e = c.rows-rows.ensures.value in
    let f = c.cols-cols.ensures.value in
    let rows : RowsAre (cell g) rule c.cols-cols.result c.deref_mut-2.result.now c.rows-rows.result =
    subst (λ (xs : List ℤ). RowsAre (cell g) rule c.cols-cols.result xs c.rows-rows.result) (sym (c.deref_mut-2.ensures.value ∙ copied))
    (subst (λ n. RowsAre (cell g) rule n c.copy_rows.new.values c.rows-rows.result) (sym f) (subst (RowsAre (cell g) rule g.cols c.copy_rows.new.values) (sym e) c.copy_rows.ensures.rows)) in
    let done : IsPadded (cell g) rule c.rows-rows.result c.cols-cols.result c.set_all_end_rows.new.values = c.set_all_end_rows.ensures.padded (cell g) rows in
    subst (IsPadded (cell g) rule g.rows g.cols) (sym whole)
    (subst (λ n. IsPadded (cell g) rule n g.cols c.set_all_end_rows.new.values) e (subst (λ n. IsPadded (cell g) rule c.rows-rows.result n c.set_all_end_rows.new.values) f done))

pub returns-clause-values : goal.returns-clause-values
returns-clause-values c =
    let v = c.in_ok-values.values in
    let long = c.copy_rows.auto.values ∙ ap length c.deref_mut.ensures.value in
    let copied = lent-whole v.items c.copy_rows.new.values v.len v.ok.0 long in
    let same = c.set_all_end_rows.auto.values ∙ ap length c.deref_mut-2.ensures.value in
    let whole = lent-whole _ c.set_all_end_rows.new.values v.len (v.ok.0 ∙ sym (ap length copied ∙ long)) same in
    subst (All IsValue) (sym whole) c.set_all_end_rows.ensures.values
