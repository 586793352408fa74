use Rattle.std.proofs.Common.{◌≡◌, ap, ◌∙◌, arith, subst}
use Rattle.part_geometry.specs.Shape.{IsShape}
use Rattle.part_geometry.proofs.Bounds.{end-start}
use Rattle.plain_pair.proofs.Storing.{part_places, stored_none, stored_more, can_store}
use Rattle.plain_pair.proofs.marking.store.Goals as goal

pub loop-c-init : goal.loop-c-init
loop-c-init c =
    let v = subst IsShape c.geometry-geometry.ensures.value c.geometry-geometry.ensures.limits in
    rw (part_places _ v _ _ _ c.requires.part c.send_cells-first.ensures).0 (stored_none _ _ _ _ _)

pub store_cell-requires : goal.store_cell-requires
store_cell-requires c =
    let v = subst IsShape c.geometry-geometry.ensures.value c.geometry-geometry.ensures.limits in
    can_store _ v _ _ _ _ _ _ _ _ _ c.requires.part c.send_cells-first.ensures c.loop-c.auto.c c.loop-c-test.true c.requires.length c.requires.buffers
    c.requires.room c.loop-c.invariant (ap (λ x. x.start) c.cell-low.ensures)

pub loop-c-preserved : goal.loop-c-preserved
loop-c-preserved c =
    let g = c.args.tables.now in
    let v = subst IsShape c.geometry-geometry.ensures.value c.geometry-geometry.ensures.limits in
    let low = ap (λ x. x.start) c.cell-low.ensures in
    let l = low ∙ (part_places g v _ _ _ c.requires.part c.send_cells-first.ensures).0 in
    let can = can_store g v _ _ _ _ _ _ _ _ _ c.requires.part c.send_cells-first.ensures c.loop-c.auto.c c.loop-c-test.true c.requires.length c.requires.buffers
    c.requires.room c.loop-c.invariant low in
    rw (c.store_cell.ensures, l, ← end-start g c.loop-c.c)
    (stored_more g c.args.base _ c.loop-c.c c.args.bytes.now c.args.buffers.now.items c.loop-c.buffers.items (rw l at can) c.loop-c.invariant)

pub returns : goal.returns
returns c =
    let g = c.args.tables.now in
    let v = subst IsShape c.geometry-geometry.ensures.value c.geometry-geometry.ensures.limits in
    let some = c.send_cells-first.ensures.some in
    let far = c.loop-c-test.false in let near = c.loop-c.auto.c-end in
    let here : c.loop-c.c ≡ c.send_cells-first.result.1 = omega arith in
    let there = (part_places g v _ _ _ c.requires.part c.send_cells-first.ensures).1 in
    rw (here, there) at c.loop-c.invariant
