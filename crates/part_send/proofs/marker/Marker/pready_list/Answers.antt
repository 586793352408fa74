use Rattle.std.proofs.Common.{ℕ, List, ◌∙◌, subst, refl, arith}
use Rattle.std.proofs.lemmas.Result.{err_from_is_err_and}
use Rattle.part_send.specs.Many.{AreMarked, entries}
use Rattle.part_send.proofs.ManyMarks.{one_more, stops, entries_many, entries_all}
use Rattle.part_send.proofs.marker.Marker.pready_list.Goals as goal

pub returns-in_err-mark_next-clause-marks : goal.returns-in_err-mark_next-clause-marks
returns-in_err-mark_next-clause-marks g c long =
    let i = c.loop-p.invariant in let p = err_from_is_err_and c.from_residual.result c.from_residual.ensures.1 in
    rw (p.1, p.2)
    (stops c.args.self.now.view c.loop-p.self.view c.args.round c.args.parts.now c.args.bytes.now c.loop-p.p-index _ c.loop-p.marks i.geometry i.round i.count c.loop-p-test.true refl i.marked
    c.mark_next.new.self.view c.mark_next.new.marks _ c.in_err-mark_next.ensures.goes_on)

pub loop-p-preserved : goal.loop-p-preserved
loop-p-preserved g c =
    let i = c.loop-p.invariant in let e = c.in_ok-mark_next.ensures in
    let next = one_more c.args.self.now.view c.loop-p.self.view c.args.round c.args.parts.now c.args.bytes.now c.loop-p.p-index _ c.loop-p.marks i.geometry i.round i.count
    c.loop-p-test.true refl i.marked c.mark_next.new.self.view c.mark_next.new.marks _ e.goes_on in
    record { table = e.table ∙ i.table; geometry = next.3; round = next.1; count = next.2; few = e.few; marked = next.0 }

pub returns-clause-marks : goal.returns-clause-marks
returns-clause-marks g c long =
    let i = c.loop-p.invariant in let past = c.loop-p-test.false in let all = c.loop-p.auto.p-index-end in
    let es : List (ℕ × List ℕ) = entries c.args.self.now.view.geometry c.args.parts.now c.args.bytes.now in (
      i.round,
      (let n = entries_many c.args.self.now.view.geometry c.args.parts.now c.args.bytes.now in let k = i.count in omega arith),
      subst (λ (z : List (ℕ × List ℕ)). AreMarked c.args.round c.args.self.now.view z c.loop-p.marks.sent c.loop-p.self.view)
          (entries_all c.args.self.now.view.geometry c.args.parts.now c.args.bytes.now c.loop-p.p-index past) i.marked,
    )
