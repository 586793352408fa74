use Rattle.std.proofs.Common.{ℕ, ◌+◌, ◌-◌, ◌<◌, List, get_or, refl, arith}
use Rattle.part_geometry.specs.declared.walk.Cell.{Cell}
use Rattle.part_geometry.specs.Shape.{Shape, IsShape}
use Rattle.part_geometry.specs.Cells.{cells}
use Rattle.part_geometry.specs.Pieces.{pieces, piece_of}
use Rattle.part_geometry.specs.Walk.{cell_at}
use Rattle.part_geometry.proofs.ReaderFacts.{need-ones}
use Rattle.part_tables.specs.Parts.{cells_before}
use Rattle.part_tables.specs.Tables.{IsTable}
use Rattle.part_tables.proofs.TableFacts.{IsRunOf, run_of, table_len, counted}
use Rattle.part_tables.proofs.tables.PieceRun.of.Goals as goal

run : (g : Shape) (all : List Cell) (firsts : List ℕ) (i : ℕ) → IsShape g → IsTable (cell_at g) (cells g) all
    → IsTable (cells_before (piece_of g) (cells g)) (pieces g + 1) firsts → i < pieces g
    → IsRunOf g i (get_or firsts i 0) (get_or firsts (i + 1) 0)
    (get_or all (get_or firsts i 0) (record { start = 0; end = 0; send = 0; recv = 0; piece = 0 }))
    (get_or all (get_or firsts (i + 1) 0 - 1) (record { start = 0; end = 0; send = 0; recv = 0; piece = 0 }))
run g all firsts i v is f inside = run_of g v all firsts i _ _ _ _ is f inside refl refl

pub offset_bounds-firsts-i : goal.offset_bounds-firsts-i
offset_bounds-firsts-i c =
    let h = counted _ c.total-total.ensures.limits in let few = h.few in let order = h.order in let i = c.requires.piece in record { fits = omega arith }

pub bounds-firsts-i : goal.bounds-firsts-i
bounds-firsts-i c = let size = table_len _ _ _ c.requires.piece_firsts in let i = c.requires.piece in omega arith

pub overflow_add-after : goal.overflow_add-after
overflow_add-after c =
    let h = counted _ c.total-total.ensures.limits in let few = h.few in let order = h.order in let i = c.requires.piece in record { fits = omega arith }

pub offset_bounds-firsts-i-2 : goal.offset_bounds-firsts-i-2
offset_bounds-firsts-i-2 c =
    let h = counted _ c.total-total.ensures.limits in let few = h.few in let order = h.order in let i = c.requires.piece in record { fits = omega arith }

pub bounds-firsts-i-2 : goal.bounds-firsts-i-2
bounds-firsts-i-2 c = let size = table_len _ _ _ c.requires.piece_firsts in let i = c.requires.piece in omega arith

pub offset_bounds-all-first : goal.offset_bounds-all-first
offset_bounds-all-first c = let h = counted _ c.total-total.ensures.limits in let few = h.few in let low = (run _ _ _ _ c.total-total.ensures.limits c.requires.all_cells c.requires.piece_firsts c.requires.piece).low in record { fits = omega arith }

pub bounds-all-first : goal.bounds-all-first
bounds-all-first c = let size = table_len _ _ _ c.requires.all_cells in let low = (run _ _ _ _ c.total-total.ensures.limits c.requires.all_cells c.requires.piece_firsts c.requires.piece).low in omega arith

pub overflow_sub-count : goal.overflow_sub-count
overflow_sub-count c = let e = (run _ _ _ _ c.total-total.ensures.limits c.requires.all_cells c.requires.piece_firsts c.requires.piece).after_is in omega arith

pub offset_bounds-all-after : goal.offset_bounds-all-after
offset_bounds-all-after c = let h = counted _ c.total-total.ensures.limits in let few = h.few in let high = (run _ _ _ _ c.total-total.ensures.limits c.requires.all_cells c.requires.piece_firsts c.requires.piece).high in record { fits = omega arith }

pub bounds-all-after : goal.bounds-all-after
bounds-all-after c =
    let size = table_len _ _ _ c.requires.all_cells in let high = (run _ _ _ _ c.total-total.ensures.limits c.requires.all_cells c.requires.piece_firsts c.requires.piece).high in let e = (run _ _ _ _ c.total-total.ensures.limits c.requires.all_cells c.requires.piece_firsts c.requires.piece).after_is in omega arith

pub overflow_add-count : goal.overflow_add-count
overflow_add-count c = let small = (run _ _ _ _ c.total-total.ensures.limits c.requires.all_cells c.requires.piece_firsts c.requires.piece).small in record { fits = omega arith }

pub overflow_sub-count-2 : goal.overflow_sub-count-2
overflow_sub-count-2 c = (run _ _ _ _ c.total-total.ensures.limits c.requires.all_cells c.requires.piece_firsts c.requires.piece).ordered

pub overflow_sub-result : goal.overflow_sub-result
overflow_sub-result c = let n = (run _ _ _ _ c.total-total.ensures.limits c.requires.all_cells c.requires.piece_firsts c.requires.piece).count in let few = (run _ _ _ _ c.total-total.ensures.limits c.requires.all_cells c.requires.piece_firsts c.requires.piece).few in omega arith

pub overflow_shr-result : goal.overflow_shr-result
overflow_shr-result c = let n = (run _ _ _ _ c.total-total.ensures.limits c.requires.all_cells c.requires.piece_firsts c.requires.piece).count in let some = (run _ _ _ _ c.total-total.ensures.limits c.requires.all_cells c.requires.piece_firsts c.requires.piece).some in omega arith

pub returns : goal.returns
returns c =
    let h = run _ _ _ _ c.total-total.ensures.limits c.requires.all_cells c.requires.piece_firsts c.requires.piece in
    let n = h.count in let few = h.few in
    let mask = need-ones c.args.geometry c.args.i _ (omega arith) n in
    λ k. record { first = h.first_is k; after = h.after_is k; first_part = h.part_is k; need = mask k }
