use Rattle.std.proofs.Common.{◌∙◌, ◌++◌, ◌+◌, ◌*◌, sym, ap, subst, List, ℤ, take, drop, length, arith}
use Rattle.cell_lanes.specs.Block.{Part, IsPart, part_of, height, width, with_cells}
use Rattle.cell_lanes.proofs.FoldFacts.{lent-whole}
use Rattle.cell_lanes.proofs.PlaceFacts.{cut-room}
use Rattle.cell_lanes.proofs.block.Block.put.Goals as goal

pub put_cells-requires-clause-part : goal.put_cells-requires-clause-part
put_cells-requires-clause-part c =
    let i = c.self.inside in
    subst (λ (xs : List ℤ). IsPart (part_of i.rows i.cols i.reach xs)) (sym c.deref_mut.ensures.value) c.self.invariant.0

pub put_cells-requires-clause-room : goal.put_cells-requires-clause-room
put_cells-requires-clause-room c =
    let i = c.self.inside in
    let rows = ap (λ (b : Part). height b) c.self.view_is in
    let cols = ap (λ (b : Part). width b) c.self.view_is in
    let h = cut-room (part_of i.rows i.cols i.reach i.values.items) c.args.y c.args.x (length c.args.cells.now) c.self.invariant.0 (omega (arith, rows, c.requires.row)) (omega (arith, cols, c.requires.room)) in
    omega (arith, h, ap length c.deref_mut.ensures.value)

pub returns-clause-put : goal.returns-clause-put
returns-clause-put c =
    let i = c.self.inside in
    let start = c.args.y * (i.cols + 2 * i.reach) + c.args.x in
    let whole = lent-whole i.values.items c.put_cells.new.values _ i.values.ok.0 (c.put_cells.auto.values ∙ ap length c.deref_mut.ensures.value) in
    ap (part_of i.rows i.cols i.reach)
    (whole ∙ (c.put_cells.ensures.put ∙ ap (λ (xs : List ℤ). take start xs ++ (c.args.cells.now ++ drop (start + length c.args.cells.now) xs)) c.deref_mut.ensures.value))
    ∙ ap (with_cells c.args.y c.args.x c.args.cells.now) c.self.view_is

pub returns-clause-limits : goal.returns-clause-limits
returns-clause-limits c =
    let i = c.self.inside in
    let whole = lent-whole i.values.items c.put_cells.new.values _ i.values.ok.0 (c.put_cells.auto.values ∙ ap length c.deref_mut.ensures.value) in
    subst (λ (xs : List ℤ). IsPart (part_of i.rows i.cols i.reach xs)) (sym whole) c.put_cells.ensures.limits

pub invariant_of-self : goal.invariant_of-self
invariant_of-self c =
    let i = c.self.inside in
    let whole = lent-whole i.values.items c.put_cells.new.values _ i.values.ok.0 (c.put_cells.auto.values ∙ ap length c.deref_mut.ensures.value) in
    (subst (λ (xs : List ℤ). IsPart (part_of i.rows i.cols i.reach xs)) (sym whole) c.put_cells.ensures.limits, c.self.invariant.1)
