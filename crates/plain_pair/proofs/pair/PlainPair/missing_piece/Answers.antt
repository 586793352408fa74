use Rattle.std.proofs.Common.{sym, ◌∙◌, arith}
use Rattle.part_geometry.proofs.Bounds.{cells-le}
use Rattle.part_geometry.proofs.PieceFacts.{pieces-le}
use Rattle.plain_pair.specs.Pair.{kept_of}
use Rattle.plain_pair.proofs.Looks.{missing_before, missing_after, missing_same}
use Rattle.plain_pair.proofs.pair.PlainPair.missing_piece.Goals as goal

pub returns-then-self : goal.returns-then-self
returns-then-self c = rw (← c.self.view_is) (sym (missing_before (kept_of c.self.inside) c.args.q c.if-self.true))

pub overflow_cast-result : goal.overflow_cast-result
overflow_cast-result c =
    let v = c.self.invariant.shape in let a = cells-le _ v in let b = pieces-le c.self.inside.tables in let l = v.length in
    let i = c.recv_pieces-first.ensures.inside in let s = c.recv_pieces-first.ensures.some in
    omega arith

pub returns-then-self-2 : goal.returns-then-self-2
returns-then-self-2 c =
    rw (← c.self.view_is) (sym (missing_after (kept_of c.self.inside) c.args.q _ _ c.if-self-2.true c.recv_pieces-first.ensures))

pub first_missing-requires-clause-few : goal.first_missing-requires-clause-few
first_missing-requires-clause-few c =
    let v = c.self.invariant.shape in let a = cells-le _ v in let b = pieces-le c.self.inside.tables in let l = v.length in
    let i = c.recv_pieces-first.ensures.inside in
    omega arith

pub returns : goal.returns
returns c =
    let found = rw c.deref.ensures.value at c.first_missing.ensures in
    rw (← c.self.view_is)
    (found ∙ sym (missing_same (kept_of c.self.inside) _ c.args.q _ _ c.self.invariant (let a = c.if-self.false in let b = c.if-self-2.false in omega arith) c.recv_pieces-first.ensures))
