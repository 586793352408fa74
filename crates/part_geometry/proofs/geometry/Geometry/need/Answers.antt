use Rattle.std.proofs.Common.{◌≡◌, ◌↔◌, ◌+◌, ◌-◌, sym, subst, arith}
use Rattle.std.specs.Int.{IsBitSet}
use Rattle.part_geometry.specs.Pieces.{Touches, first_part, need_count}
use Rattle.part_geometry.proofs.PieceFacts.{need_count-pos, need_count-le}
use Rattle.part_geometry.proofs.ReaderFacts.{first_part-is, last_part-is, last_part-below, need-bit, need-ones}
use Rattle.part_geometry.proofs.geometry.Geometry.need.Goals as goal

count : (c : goal.After-send_of-2) → c.send_of.result + 1 - c.send_of-2.result ≡ need_count c.args.self.now c.args.i
count c =
    let f = first_part-is _ c.args.i _ _ c.send_of-2.ensures.value c.piece-first.ensures.value in
    let l = last_part-is _ c.args.i _ _ c.send_of.ensures.value c.piece-first.ensures.value in
    omega arith

pub overflow_add-count : goal.overflow_add-count
overflow_add-count c =
    let few = c.piece-first.ensures.limits.send_parts.1 in let s = c.send_of.ensures.inside in omega arith

pub overflow_sub-count : goal.overflow_sub-count
overflow_sub-count c =
    let n = count c in let some = need_count-pos _ c.piece-first.ensures.limits c.args.i c.requires in omega arith

pub overflow_sub-result : goal.overflow_sub-result
overflow_sub-result c =
    let n = count c in let few = need_count-le _ c.piece-first.ensures.limits c.args.i c.requires in omega arith

pub overflow_shr-result : goal.overflow_shr-result
overflow_shr-result c =
    let n = count c in let some = need_count-pos _ c.piece-first.ensures.limits c.args.i c.requires in omega arith

pub returns-clause-value : goal.returns-clause-value
returns-clause-value c =
    let few = need_count-le _ c.piece-first.ensures.limits c.args.i c.requires in
    need-ones _ _ _ (let n = count c in omega arith) (count c)

pub returns-clause-bits : goal.returns-clause-bits
returns-clause-bits c b below =
    let few = need_count-le _ c.piece-first.ensures.limits c.args.i c.requires in
    let g = c.args.self.now in let i = c.args.i in
    let e = need-ones g i _ (let n = count c in omega arith) (count c) in
    subst (λ n. IsBitSet n b ↔ Touches g i (first_part g i + b)) (sym e) (need-bit g c.piece-first.ensures.limits i b c.requires)

pub returns-clause-count : goal.returns-clause-count
returns-clause-count c =
    (need_count-pos _ c.piece-first.ensures.limits _ c.requires, need_count-le _ c.piece-first.ensures.limits _ c.requires)

pub returns-clause-inside : goal.returns-clause-inside
returns-clause-inside c =
    let g = c.args.self.now in
    let some = need_count-pos g c.piece-first.ensures.limits c.args.i c.requires in
    let last = last_part-below g c.piece-first.ensures.limits c.args.i c.requires in omega arith
