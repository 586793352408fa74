use Rattle.std.proofs.Common.{ap, ◌∙◌, arith}
use Rattle.plain_pair.proofs.Storing.{numbers}
use Rattle.plain_pair.proofs.marking.store_cell.Goals as goal

pub overflow_sub-piece-2 : goal.overflow_sub-piece-2
overflow_sub-piece-2 c =
    let w = c.requires in
    let n = numbers _ _ _ _ _ _ w in
    let s = ap (λ x. x.start) c.cell-cell.ensures in let e = ap (λ x. x.end) c.cell-cell.ensures in let q = ap (λ x. x.recv) c.cell-cell.ensures in
    let low = w.low_le in let rises = n.rises in let starts = n.starts in
    omega arith

pub slice_bounds-piece-count : goal.slice_bounds-piece-count
slice_bounds-piece-count c =
    let w = c.requires in
    let n = numbers _ _ _ _ _ _ w in
    let s = ap (λ x. x.start) c.cell-cell.ensures in let e = ap (λ x. x.end) c.cell-cell.ensures in let q = ap (λ x. x.recv) c.cell-cell.ensures in
    let low = w.low_le in let rises = n.rises in let starts = n.starts in
    omega arith

pub slice_bounds-piece-start : goal.slice_bounds-piece-start
slice_bounds-piece-start c =
    let w = c.requires in
    let n = numbers _ _ _ _ _ _ w in
    let s = ap (λ x. x.start) c.cell-cell.ensures in let e = ap (λ x. x.end) c.cell-cell.ensures in let q = ap (λ x. x.recv) c.cell-cell.ensures in
    let low = w.low_le in let rises = n.rises in let starts = n.starts in
    omega arith

pub overflow_sub-start : goal.overflow_sub-start
overflow_sub-start c =
    let n = numbers _ _ _ _ _ _ c.requires in
    let s = ap (λ x. x.start) c.cell-cell.ensures in let e = ap (λ x. x.end) c.cell-cell.ensures in let q = ap (λ x. x.recv) c.cell-cell.ensures in
    let r = c.recv_bytes-recv_bytes.ensures.value ∙ ap (λ g. g.recv_bytes) c.geometry.ensures.value in
    rw (q, r, s) n.starts

pub write_at-requires-clause-fits : goal.write_at-requires-clause-fits
write_at-requires-clause-fits c =
    let n = numbers _ _ _ _ _ _ c.requires in
    let s = ap (λ x. x.start) c.cell-cell.ensures in let e = ap (λ x. x.end) c.cell-cell.ensures in let q = ap (λ x. x.recv) c.cell-cell.ensures in
    let r = c.recv_bytes-recv_bytes.ensures.value ∙ ap (λ g. g.recv_bytes) c.geometry.ensures.value in
    rw (q, r, s, e) n.fits
