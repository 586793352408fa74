use Rattle.std.proofs.Common.{ℕ, ◌+◌, ◌-◌, ◌<◌, ◌≤◌, length, get_or, sym, ap, ◌∙◌, subst, arith}
use Rattle.part_recv.specs.Taking.{Arrived}
use Rattle.part_recv.proofs.Bytes.{IsByte, byte_here, byte_next}
use Rattle.part_recv.proofs.arrival.Arrival.byte.Goals as goal

pub returns-then-at-len : goal.returns-then-at-len
returns-then-at-len g c =
    let low : c.loop-cell.at < length c.buf-buf.result.now.bytes = let a = c.len.ensures in let b = c.if-at-len.true in omega arith in
    c.byte.ensures ∙ (byte_here c.self.inside.shelf.bufs c.args.i c.loop-cell.at c.loop-cell.cell c.buf-buf.result.now c.loop-cell.invariant c.buf-buf.ensures low
    ∙ ap (λ (z : Arrived). get_or z.bytes c.args.i 0) c.self.view_is)

pub loop-cell-preserved : goal.loop-cell-preserved
loop-cell-preserved g c =
    let high : length c.buf-buf.result.now.bytes ≤ c.loop-cell.at = let a = c.len.ensures in let b = c.if-at-len.false in omega arith in
    subst (λ (z : ℕ). IsByte c.self.inside.shelf.bufs c.args.i (c.loop-cell.at - z) (c.loop-cell.cell + 1)) (sym c.len-at.ensures)
    (byte_next c.self.inside.shelf.bufs c.args.i c.loop-cell.at c.loop-cell.cell c.buf-buf.result.now c.loop-cell.invariant c.buf-buf.ensures high)
