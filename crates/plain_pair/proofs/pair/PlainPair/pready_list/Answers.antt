use Rattle.std.proofs.Common.{refl, ◌∙◌, arith}
use Rattle.std.proofs.lemmas.Result.{err_from_is_err_and}
use Rattle.plain_pair.proofs.ManyMarks.{sides_stay, list_fits, at_next, follows_all, follows_stopped}
use Rattle.plain_pair.proofs.pair.PlainPair.pready_list.Goals as goal

pub returns-in_err-mark_next-clause-answer : goal.returns-in_err-mark_next-clause-answer
returns-in_err-mark_next-clause-answer c =
    let p = err_from_is_err_and c.from_residual.result c.from_residual.ensures.1 in
    let inv = c.loop-p.invariant in
    rw (p.1, p.2)
    (follows_stopped c.args.self.now c.loop-p.self c.mark_next.new.self c.loop-p.marks c.mark_next.new.marks c.args.round _ c.args.parts.now c.args.bytes.now c.loop-p.p-index _ _
    (list_fits c.args.self.now.shape c.args.parts.now c.args.bytes.now _ c.has_length.ensures c.if-not-has_length.false)
    inv.shape inv.round (c.in_err-mark_next.ensures.round ∙ inv.round) inv.count (omega arith) refl inv.at c.in_err-mark_next.ensures.goes_on)

pub loop-p-preserved : goal.loop-p-preserved
loop-p-preserved c =
    let inv = c.loop-p.invariant in
    let e = c.in_ok-mark_next.ensures in
    record {
      shape = e.shape ∙ inv.shape;
      sides = sides_stay inv.sides e.sides;
      start = λ none. absurd (omega arith);
      round = e.round ∙ inv.round;
      count = (let n = e.count in let m = inv.count in omega arith);
      counts = e.counts;
      at = at_next c.args.self.now c.loop-p.self c.mark_next.new.self c.loop-p.marks c.mark_next.new.marks c.args.round c.args.parts.now c.args.bytes.now c.loop-p.p-index _ _
          inv.shape inv.round inv.count (omega arith) refl inv.at e.goes_on;
    }

pub returns-clause-answer : goal.returns-clause-answer
returns-clause-answer c =
    let inv = c.loop-p.invariant in
    follows_all c.args.self.now c.loop-p.self c.loop-p.marks c.args.round _ c.args.parts.now c.args.bytes.now c.loop-p.p-index
    (list_fits c.args.self.now.shape c.args.parts.now c.args.bytes.now _ c.has_length.ensures c.if-not-has_length.false) (omega arith) inv.round inv.at
