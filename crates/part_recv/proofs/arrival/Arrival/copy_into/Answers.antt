use Rattle.std.proofs.Common.{◌≡◌, ◌+◌, ◌≤◌, ◌++◌, length, take, sym, ap, ◌∙◌, arith, length-append}
use Rattle.part_recv.specs.Taking.{Arrived, bytes_in}
use Rattle.part_recv.proofs.Bytes.{bytes_upto, bytes_few, copied_more}
use Rattle.part_recv.proofs.arrival.Arrival.copy_into.Goals as goal

pub overflow_add-end : goal.overflow_add-end
overflow_add-end g c =
    let bufs = c.self.inside.shelf.bufs in
    let next = ap length (bytes_upto bufs c.loop-cell.cell c.buf-buf.result.now c.buf-buf.ensures) ∙ length-append (bytes_in (take c.loop-cell.cell bufs)) c.buf-buf.result.now.bytes in
    let few = bytes_few bufs (c.loop-cell.cell + 1) in let here = c.loop-cell.invariant.0 in let len = c.len.ensures in let same = c.loop-cell.auto.out in
    let all : length (bytes_in bufs) ≡ length c.args.out.now = ap (λ (z : Arrived). length z.bytes) c.self.view_is ∙ sym c.requires in
    let fits : c.loop-cell.at + c.len.result ≤ length c.loop-cell.out = omega arith in
    omega arith

pub slice_bounds-copy_into-end : goal.slice_bounds-copy_into-end
slice_bounds-copy_into-end g c =
    let bufs = c.self.inside.shelf.bufs in
    let next = ap length (bytes_upto bufs c.loop-cell.cell c.buf-buf.result.now c.buf-buf.ensures) ∙ length-append (bytes_in (take c.loop-cell.cell bufs)) c.buf-buf.result.now.bytes in
    let few = bytes_few bufs (c.loop-cell.cell + 1) in let here = c.loop-cell.invariant.0 in let len = c.len.ensures in let same = c.loop-cell.auto.out in
    let all : length (bytes_in bufs) ≡ length c.args.out.now = ap (λ (z : Arrived). length z.bytes) c.self.view_is ∙ sym c.requires in
    let fits : c.loop-cell.at + c.len.result ≤ length c.loop-cell.out = omega arith in
    omega arith

pub loop-cell-preserved : goal.loop-cell-preserved
loop-cell-preserved g c =
    let bufs = c.self.inside.shelf.bufs in let b = c.buf-buf.result.now in
    let upto = bytes_upto bufs c.loop-cell.cell b c.buf-buf.ensures in
    let next = ap length upto ∙ length-append (bytes_in (take c.loop-cell.cell bufs)) b.bytes in
    let few = bytes_few bufs (c.loop-cell.cell + 1) in let here = c.loop-cell.invariant.0 in let len = c.len.ensures in let same = c.loop-cell.auto.out in
    let all : length (bytes_in bufs) ≡ length c.args.out.now = ap (λ (z : Arrived). length z.bytes) c.self.view_is ∙ sym c.requires in
    let fits : c.loop-cell.at ≤ length c.loop-cell.out = omega arith in (
      omega arith,
      copied_more c.loop-cell.out c.copy_into.new.out c.loop-cell.at c.len.result fits (ap length c.copy_into.ensures ∙ sym c.len.ensures)
          ∙ ((λ i. c.loop-cell.invariant.1 i ++ c.copy_into.ensures i) ∙ sym upto),
    )
