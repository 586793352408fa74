use Rattle.std.proofs.Common.{◌+◌, ◌*◌, ◌∙◌, ℕ, ap, arith, ◌≡◌, ◌<◌, sym, subst, length}
use Rattle.std.specs.Prelude.{slice_set}
use Rattle.pair_core.specs.Picks.{picked_cell}
use Rattle.pair_core.proofs.StateSlots.{filled_more, picked_at}
use Rattle.part_geometry.specs.Shape.{Shape}
use Rattle.std.proofs.lemmas.Nat.{mul-le}
use Rattle.part_geometry.specs.Cells.{cells}
use Rattle.pair_core.proofs.StateNumbers.{row_lt}
use Rattle.pair_core.proofs.seat.fill.Goals as goal

pub overflow_mul-place : goal.overflow_mul-place
overflow_mul-place c =
    let same = ap (λ (g : Shape). g.depth) c.geometry-geometry.ensures.value in let few = c.geometry-geometry.ensures.limits.depth.1 in
    let h = mul-le c.args.place c.cells-count.result 4 2047 (omega (arith, c.requires.place)) c.cells-count.ensures.limits in omega arith

pub fill_if-requires : goal.fill_if-requires
fill_if-requires c =
    let g = c.args.tables.now in let count = c.cells-count.ensures.value in
    let low : c.loop-c.c < cells g = omega (arith, c.loop-c-test.true) in
    let size : length c.loop-c.slots.items ≡ g.depth * cells g = c.loop-c.invariant.size ∙ c.requires.size in
    subst (λ (n : ℕ). n < length c.loop-c.slots.items) (ap (λ (z : ℕ). c.args.place * z + c.loop-c.c) (sym count))
    (subst (λ (n : ℕ). c.args.place * cells g + c.loop-c.c < n) (sym size) (row_lt c.args.place c.loop-c.c g.depth (cells g) c.requires.place low))

pub loop-c-preserved : goal.loop-c-preserved
loop-c-preserved c =
    let g = c.args.tables.now in let count = c.cells-count.ensures.value in
    filled_more g c.loop-c.c c.args.place c.args.pick c.args.spot c.args.slots.now.items c.loop-c.slots.items c.fill_if.new.slots.items c.picks-so.result c.loop-c.invariant
    (omega arith) c.requires.place c.requires.size (c.picks-so.ensures ∙ (ap (picked_cell c.args.pick) c.cell.ensures ∙ picked_at g c.args.pick c.loop-c.c))
    (λ so. c.fill_if.ensures.set so ∙ ap (λ (z : ℕ). slice_set c.loop-c.slots.items (c.args.place * z + c.loop-c.c) c.args.spot) count) c.fill_if.ensures.same
