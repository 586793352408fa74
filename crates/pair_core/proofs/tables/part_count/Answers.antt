use Rattle.std.proofs.Common.{arith}
use Rattle.part_geometry.proofs.PieceFacts.{need_count-pos}
use Rattle.part_geometry.proofs.ReaderFacts.{last_part-is}
use Rattle.pair_core.proofs.tables.part_count.Goals as goal

pub overflow_sub-result : goal.overflow_sub-result
overflow_sub-result c =
    let last = last_part-is c.args.geometry c.args.i _ _ c.send_of.ensures.value c.piece-last.ensures.value in
    let some = need_count-pos c.args.geometry c.piece-last.ensures.limits c.args.i c.requires in
    omega (arith, c.first_part.ensures.value)

pub returns : goal.returns
returns c =
    let last = last_part-is c.args.geometry c.args.i _ _ c.send_of.ensures.value c.piece-last.ensures.value in
    omega (arith, c.first_part.ensures.value)
