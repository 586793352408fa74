use Rattle.std.proofs.Common.{◌+◌, ◌-◌, ap, ◌∙◌, arith}
use Rattle.std.proofs.lemmas.Result.{err_from_is_err_and}
use Rattle.plain_pair.specs.Many.{range_parts}
use Rattle.plain_pair.proofs.ManyMarks.{sides_stay, range_fits, range_misfits, range_many, range_at, at_next, follows_all, follows_stopped, follows_whole}
use Rattle.plain_pair.proofs.pair.PlainPair.pready_range.Goals as goal

pub returns-then-not-has_length-clause-answer : goal.returns-then-not-has_length-clause-answer
returns-then-not-has_length-clause-answer c =
    let some = c.if-low-high.false in
    let parts = c.send_parts.ensures.value ∙ ap (λ g. g.send_parts) c.geometry.ensures.value in
    let inside = c.if-high-send_parts.false in
    rw c.refused_whole-then-not-has_length.ensures
    (follows_whole c.args.self.now c.args.round _ _ _ c.args.bytes.now
    (range_misfits c.args.self.now.shape c.args.low c.args.high (c.args.high - c.args.low + 1) c.args.bytes.now _ (omega arith) (omega arith) (omega arith) c.has_length.ensures c.if-not-has_length.true))

pub returns-in_err-mark_next-clause-answer : goal.returns-in_err-mark_next-clause-answer
returns-in_err-mark_next-clause-answer c =
    let p = err_from_is_err_and c.from_residual.result c.from_residual.ensures.1 in
    let inv = c.loop-i.invariant in
    let some = c.if-low-high.false in
    let parts = c.send_parts.ensures.value ∙ ap (λ g. g.send_parts) c.geometry.ensures.value in
    let inside = c.if-high-send_parts.false in
    let many = range_many c.args.low c.args.high in
    rw (p.1, p.2)
    (follows_stopped c.args.self.now c.loop-i.self c.mark_next.new.self c.loop-i.marks c.mark_next.new.marks c.args.round _ (range_parts c.args.low c.args.high) c.args.bytes.now c.loop-i.i _ _
    (range_fits c.args.self.now.shape c.args.low c.args.high (c.args.high - c.args.low + 1) c.args.bytes.now _ (omega arith) (omega arith) (omega arith) c.has_length.ensures c.if-not-has_length.false)
    inv.shape inv.round (c.in_err-mark_next.ensures.round ∙ inv.round) inv.count (omega arith) (range_at c.args.low c.args.high c.loop-i.i (omega arith)) inv.at c.in_err-mark_next.ensures.goes_on)

pub loop-i-preserved : goal.loop-i-preserved
loop-i-preserved c =
    let inv = c.loop-i.invariant in
    let e = c.in_ok-mark_next.ensures in
    let some = c.if-low-high.false in
    let many = range_many c.args.low c.args.high in
    record {
      shape = e.shape ∙ inv.shape;
      sides = sides_stay inv.sides e.sides;
      start = λ none. absurd (omega arith);
      round = e.round ∙ inv.round;
      count = (let n = e.count in let m = inv.count in omega arith);
      counts = e.counts;
      at = at_next c.args.self.now c.loop-i.self c.mark_next.new.self c.loop-i.marks c.mark_next.new.marks c.args.round (range_parts c.args.low c.args.high) c.args.bytes.now c.loop-i.i _ _
          inv.shape inv.round inv.count (omega arith) (range_at c.args.low c.args.high c.loop-i.i (omega arith)) inv.at e.goes_on;
    }

pub returns-clause-answer : goal.returns-clause-answer
returns-clause-answer c =
    let inv = c.loop-i.invariant in
    let some = c.if-low-high.false in
    let parts = c.send_parts.ensures.value ∙ ap (λ g. g.send_parts) c.geometry.ensures.value in
    let inside = c.if-high-send_parts.false in
    let many = range_many c.args.low c.args.high in
    follows_all c.args.self.now c.loop-i.self c.loop-i.marks c.args.round _ (range_parts c.args.low c.args.high) c.args.bytes.now c.loop-i.i
    (range_fits c.args.self.now.shape c.args.low c.args.high (c.args.high - c.args.low + 1) c.args.bytes.now _ (omega arith) (omega arith) (omega arith) c.has_length.ensures c.if-not-has_length.false)
    (omega arith) inv.round inv.at
