use Rattle.std.proofs.Common.{◌≡◌, ℕ, ◌+◌, ◌-◌, List, ap, ◌∙◌, sym, subst, arith}
use Rattle.std.proofs.lemmas.Result.{err_from_is_err_and}
use Rattle.part_geometry.specs.Shape.{Shape}
use Rattle.part_send.specs.Many.{AreMarked, range_parts}
use Rattle.part_send.proofs.ManyMarks.{one_more, stops, may_next, entries_many, entries_all, range_many, range_at, as_many}
use Rattle.part_send.proofs.marker.Marker.pready_range.Goals as goal

pub mark_next-requires-clause-bytes : goal.mark_next-requires-clause-bytes
mark_next-requires-clause-bytes g c =
    let i = c.loop-i.invariant in let low : ℕ = c.args.low in let high : ℕ = c.args.high in let some = c.if-low-high.false in let below = c.loop-i-test.true in
    let many = range_many low high in
    let parts : c.send_parts.result ≡ c.args.self.now.view.geometry.send_parts = c.send_parts.ensures.value ∙ ap (λ (z : Shape). z.send_parts) (c.geometry.ensures.value ∙ sym c.requires.pair.1) in
    let last = c.if-high-send_parts.false in
    let long = as_many c.args.self.now.view.geometry c.args.pair.now.key.geometry (high - low + 1) (high + 1 - low) c.args.bytes.now c.has_length.result c.requires.pair.1
    c.has_length.ensures c.if-not-has_length.false (omega arith) in
    may_next c.args.self.now.view c.loop-i.self.view c.args.round (range_parts low high) c.args.bytes.now c.loop-i.i (low + c.loop-i.i) c.loop-i.marks i.geometry i.round i.count
    (omega arith) (range_at low high c.loop-i.i (omega arith)) i.marked g.C.Content.may c.args.pair.now.key.tag (c.requires.bytes some (omega arith) long)

pub returns-in_err-mark_next-clause-marks : goal.returns-in_err-mark_next-clause-marks
returns-in_err-mark_next-clause-marks g c some inside long =
    let i = c.loop-i.invariant in let low : ℕ = c.args.low in let high : ℕ = c.args.high in let below = c.loop-i-test.true in
    let many = range_many low high in
    let p = err_from_is_err_and c.from_residual.result c.from_residual.ensures.1 in
    rw (p.1, p.2)
    (stops c.args.self.now.view c.loop-i.self.view c.args.round (range_parts low high) c.args.bytes.now c.loop-i.i (low + c.loop-i.i) c.loop-i.marks i.geometry i.round i.count
    (omega arith) (range_at low high c.loop-i.i (omega arith)) i.marked c.mark_next.new.self.view c.mark_next.new.marks _ c.in_err-mark_next.ensures.goes_on)

pub loop-i-preserved : goal.loop-i-preserved
loop-i-preserved g c =
    let i = c.loop-i.invariant in let e = c.in_ok-mark_next.ensures in let low : ℕ = c.args.low in let high : ℕ = c.args.high in
    let some = c.if-low-high.false in let below = c.loop-i-test.true in
    let many = range_many low high in
    let next = one_more c.args.self.now.view c.loop-i.self.view c.args.round (range_parts low high) c.args.bytes.now c.loop-i.i (low + c.loop-i.i) c.loop-i.marks i.geometry i.round i.count
    (omega arith) (range_at low high c.loop-i.i (omega arith)) i.marked c.mark_next.new.self.view c.mark_next.new.marks _ e.goes_on in
    record { table = e.table ∙ i.table; geometry = next.3; round = next.1; count = next.2; few = e.few; marked = next.0 }

pub returns-clause-marks : goal.returns-clause-marks
returns-clause-marks g c some inside long =
    let i = c.loop-i.invariant in let low : ℕ = c.args.low in let high : ℕ = c.args.high in let past = c.loop-i-test.false in let all = c.loop-i.auto.i-end in
    let many = range_many low high in
    let v = c.args.self.now.view in (
      i.round,
      (let n = entries_many v.geometry (range_parts low high) c.args.bytes.now in let k = i.count in omega arith),
      subst (λ (z : List (ℕ × List ℕ)). AreMarked c.args.round v z c.loop-i.marks.sent c.loop-i.self.view)
          (entries_all v.geometry (range_parts low high) c.args.bytes.now c.loop-i.i (omega arith)) i.marked,
    )
