use Rattle.std.proofs.Common.{refl, arith}
use Rattle.part_geometry.specs.Walk.{cell_at}
use Rattle.part_geometry.proofs.Bounds.{cells-le}
use Rattle.plain_pair.proofs.Firsts.{cells_length}
use Rattle.plain_pair.proofs.Needs.{turn, needs_more}
use Rattle.plain_pair.proofs.tables.piece_needs.Goals as goal

pub offset_bounds-all-firsts : goal.offset_bounds-all-firsts
offset_bounds-all-firsts c =
    let g = c.args.geometry in let v = c.total-total.ensures.limits in let all = c.args.all.now in
    let t = turn g v all c.args.firsts.now c.loop-i.i _ _ (cell_at g 0) (cell_at g 0) c.requires.cells c.requires.firsts (omega arith) refl refl in
    let size = cells_length g all c.requires.cells in let few = cells-le g v in let l = v.length in
    let low = t.low in let high = t.high in let some = t.some in
    record { fits = omega arith }

pub bounds-all-firsts : goal.bounds-all-firsts
bounds-all-firsts c =
    let g = c.args.geometry in let v = c.total-total.ensures.limits in let all = c.args.all.now in
    let t = turn g v all c.args.firsts.now c.loop-i.i _ _ (cell_at g 0) (cell_at g 0) c.requires.cells c.requires.firsts (omega arith) refl refl in
    let size = cells_length g all c.requires.cells in let few = cells-le g v in let l = v.length in
    let low = t.low in let high = t.high in let some = t.some in
    omega arith

pub offset_bounds-all-firsts-in-loop-i : goal.offset_bounds-all-firsts-in-loop-i
offset_bounds-all-firsts-in-loop-i c =
    let g = c.args.geometry in let v = c.total-total.ensures.limits in let all = c.args.all.now in
    let t = turn g v all c.args.firsts.now c.loop-i.i _ _ (cell_at g 0) (cell_at g 0) c.requires.cells c.requires.firsts (omega arith) refl refl in
    let size = cells_length g all c.requires.cells in let few = cells-le g v in let l = v.length in
    let low = t.low in let high = t.high in let some = t.some in
    record { fits = omega arith }

pub bounds-all-firsts-in-loop-i : goal.bounds-all-firsts-in-loop-i
bounds-all-firsts-in-loop-i c =
    let g = c.args.geometry in let v = c.total-total.ensures.limits in let all = c.args.all.now in
    let t = turn g v all c.args.firsts.now c.loop-i.i _ _ (cell_at g 0) (cell_at g 0) c.requires.cells c.requires.firsts (omega arith) refl refl in
    let size = cells_length g all c.requires.cells in let few = cells-le g v in let l = v.length in
    let low = t.low in let high = t.high in let some = t.some in
    omega arith

pub overflow_add-last-in-loop-i : goal.overflow_add-last-in-loop-i
overflow_add-last-in-loop-i c =
    let g = c.args.geometry in let v = c.total-total.ensures.limits in let all = c.args.all.now in
    let t = turn g v all c.args.firsts.now c.loop-i.i _ _ (record { start = 0; end = 0; send = 0; recv = 0; piece = 0 }) (record { start = 0; end = 0; send = 0; recv = 0; piece = 0 }) c.requires.cells c.requires.firsts (omega arith) refl refl in
    let size = cells_length g all c.requires.cells in let few = cells-le g v in let l = v.length in
    let low = t.low in let high = t.high in let some = t.some in
    let small = t.small in record { fits = omega arith }

pub overflow_sub-last-in-loop-i : goal.overflow_sub-last-in-loop-i
overflow_sub-last-in-loop-i c =
    let g = c.args.geometry in let v = c.total-total.ensures.limits in let all = c.args.all.now in
    let t = turn g v all c.args.firsts.now c.loop-i.i _ _ (record { start = 0; end = 0; send = 0; recv = 0; piece = 0 }) (record { start = 0; end = 0; send = 0; recv = 0; piece = 0 }) c.requires.cells c.requires.firsts (omega arith) refl refl in
    let size = cells_length g all c.requires.cells in let few = cells-le g v in let l = v.length in
    let low = t.low in let high = t.high in let some = t.some in
    t.ordered

pub loop-i-preserved : goal.loop-i-preserved
loop-i-preserved c =
    let g = c.args.geometry in let v = c.total-total.ensures.limits in let all = c.args.all.now in
    let t = turn g v all c.args.firsts.now c.loop-i.i _ _ (record { start = 0; end = 0; send = 0; recv = 0; piece = 0 }) (record { start = 0; end = 0; send = 0; recv = 0; piece = 0 }) c.requires.cells c.requires.firsts (omega arith) refl refl in
    let size = cells_length g all c.requires.cells in let few = cells-le g v in let l = v.length in
    let low = t.low in let high = t.high in let some = t.some in
    needs_more g _ _ _ _ _ _ _ _ t c.loop-i.invariant refl c.in_ok-push.ensures.items
