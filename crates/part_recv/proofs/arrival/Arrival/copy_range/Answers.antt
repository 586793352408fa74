use Rattle.std.proofs.Common.{ℕ, ◌≡◌, ◌+◌, ◌-◌, ◌++◌, List, length, take, drop, sym, ap, ◌∙◌, subst, length-append}
use borrow.Rule.Slice.PartMut.{put_mid}
use Rattle.part_recv.specs.Taking.{bytes_in}
use Rattle.part_recv.proofs.Bytes.{IsCopied, bytes_behind, bytes_upto, copied_next}
use Rattle.part_recv.proofs.arrival.Arrival.copy_range.Goals as goal

pub loop-cell-preserved : goal.loop-cell-preserved
loop-cell-preserved g c =
    let bufs = c.self.inside.shelf.bufs in let b = c.buf.result.now in let l = c.loop-cell in
    let all = bytes_in bufs in let front = bytes_in (take l.cell bufs) in
    let size : length (bytes_in (take (l.cell + 1) bufs)) ≡ length front + length c.as_slice-bytes.result.now =
    ap length (bytes_upto bufs l.cell b c.buf.ensures) ∙ (length-append front b.bytes ∙ ap (λ (xs : List ℕ). length front + length xs) (sym c.as_slice-bytes.ensures)) in
    let here : drop (length front) all ≡ c.as_slice-bytes.result.now ++ bytes_in (drop (l.cell + 1) bufs) =
    bytes_behind bufs l.cell b c.buf.ensures ∙ ap (λ (xs : List ℕ). xs ++ bytes_in (drop (l.cell + 1) bufs)) (sym c.as_slice-bytes.ensures) in
    subst (λ (p : ℕ). IsCopied all (put_mid l.at (l.at + c.min-count.result - l.at) l.out c.copy_from_slice.new.self) (length c.args.out.now) c.args.start p (l.skip - c.min-first.result) (l.at + c.min-count.result)) (sym size)
    (copied_next all c.as_slice-bytes.result.now (bytes_in (drop (l.cell + 1) bufs)) l.out c.copy_from_slice.new.self (length c.args.out.now) c.args.start (length front) l.skip l.at c.min-first.result c.min-count.result (l.at + c.min-count.result - l.at)
    l.invariant (sym l.auto.out) here c.min-first.ensures c.min-count.ensures c.copy_from_slice.ensures.after)
