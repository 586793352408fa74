use Rattle.std.proofs.Common.{◌≡◌, subst, get_or, arith}
use Rattle.stencil_def.specs.Plane.{Plane}
use Rattle.cell_lanes.specs.Block.{HoldsMiddle, Part, SameRow, SameSize}
use Rattle.halo_plan.specs.Plan.{first_row}
use Rattle.rank_task.specs.Blocks.{OwnRead, Suit, block_at, no_part}
use Rattle.rank_task.proofs.HaloFacts.{any-default, reads-set}
use Rattle.rank_task.proofs.OutsideFacts.{open-holds, open-own, outside-keeps}
use Rattle.rank_task.proofs.serial_outside.set_open_row.Goals as goal

same : (c : goal.After-row-1) → get_or c.args.blocks.now c.args.i c.index-blocks-i.result ≡ block_at c.args.blocks.now c.args.i
same c = let s = c.requires.blocks in let count = s.count in let less = c.requires.rank in any-default c.args.blocks.now c.args.i c.index-blocks-i.result no_part (omega arith)

holds : (c : goal.After-row-1) (g : Plane) → Suit c.args.plan.now g c.args.rule.now → OwnRead c.args.plan.now g c.args.rule.now c.args.blocks.now
    → HoldsMiddle g c.args.rule.now (first_row c.args.plan.now c.args.i) c.args.y c.set_outside.new.block
holds c g suit own =
    let p = c.args.plan.now in
    open-holds p g c.args.rule.now c.args.blocks.now c.args.i c.args.y c.args.at c.rows-rows.result (get_or c.args.blocks.now c.args.i c.index-blocks-i.result) c.set_outside.new.block
    c.rows-rows.ensures.limits c.requires.blocks c.requires.no_round suit own c.requires.rank (same c) c.rows-rows.ensures.value c.requires.stands c.requires.outside
    (c.set_outside.ensures.reads g (first_row p c.args.i))

pub set_outside-requires-clause-own : goal.set_outside-requires-clause-own
set_outside-requires-clause-own c r some =
    let p = c.args.plan.now in
    let s = c.requires.blocks in let count = s.count in let less = c.requires.rank in
    let here = any-default c.args.blocks.now c.args.i c.index-blocks-i.result no_part (omega arith) in
    (open-own p c.args.rule.now c.args.blocks.now c.args.i r c.args.at c.rows-rows.result (get_or c.args.blocks.now c.args.i c.index-blocks-i.result)
    c.rows-rows.ensures.limits s c.requires.no_round c.requires.around c.requires.reach less here c.rows-rows.ensures.value c.requires.outside some).1

pub returns-clause-keeps : goal.returns-clause-keeps
returns-clause-keeps c g suit own =
    let p = c.args.plan.now in
    let s = c.requires.blocks in let count = s.count in let less = c.requires.rank in
    let new = c.set_outside.new.block in
    outside-keeps p g c.args.rule.now c.args.blocks.now c.args.i c.args.y new (omega arith)
    (subst (λ (q : Part). SameSize q new) (same c) c.set_outside.ensures.size)
    (λ z out. subst (λ (q : Part). SameRow z q new) (same c) (c.set_outside.ensures.rest z out))
    (holds c g suit own)

pub returns-clause-reads : goal.returns-clause-reads
returns-clause-reads c g suit own =
    let p = c.args.plan.now in
    let s = c.requires.blocks in let count = s.count in let less = c.requires.rank in
    reads-set p g c.args.rule.now c.args.blocks.now c.args.i c.args.y c.set_outside.new.block (omega arith) (holds c g suit own)
