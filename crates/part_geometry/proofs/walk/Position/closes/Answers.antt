use Rattle.std.proofs.Common.{arith}
use Rattle.part_geometry.proofs.WalkFacts.{small, closes-total}
use Rattle.part_geometry.proofs.walk.Position.closes.Goals as goal

pub overflow_sub-cell_end : goal.overflow_sub-cell_end
overflow_sub-cell_end c = let s = small _ _ c.requires.before c.requires.inside in omega arith

pub overflow_sub-self : goal.overflow_sub-self
overflow_sub-self c = let s = small _ _ c.requires.before c.requires.inside in omega arith

pub returns : goal.returns
returns c =
    let b = c.requires.before in
    rw (c.requires.end, c.total.ensures.value)
    (closes-total _ b.shape _ _ c.requires.inside (omega arith) (omega arith))
