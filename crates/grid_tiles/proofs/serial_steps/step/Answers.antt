use Rattle.std.proofs.Common.{subst, ◌-◌, length, arith}
use Rattle.grid_tiles.specs.Edges.{edges}
use Rattle.grid_tiles.specs.Blocks.{AreBrought}
use Rattle.grid_tiles.proofs.BringFacts.{all-first, all-second}
use Rattle.grid_tiles.proofs.EdgeFacts.{edges-many}
use Rattle.grid_tiles.proofs.PassFacts.{linked-all}
use Rattle.grid_tiles.proofs.StepFacts.{own-read, own-stay, sides-stay}
use Rattle.grid_tiles.proofs.serial_steps.step.Goals as goal

pub pass_edges-requires-clause-end : goal.pass_edges-requires-clause-end
pass_edges-requires-clause-end c = let many = edges-many c.args.plan.now in let first = c.first_count-first.ensures.value in omega arith

pub pass_edges-requires-2-clause-order : goal.pass_edges-requires-2-clause-order
pass_edges-requires-2-clause-order c =
    let many = edges-many c.args.plan.now in let first = c.first_count-first.ensures.value in let all = c.edge_count-all.ensures.value in omega arith

pub returns-clause-links : goal.returns-clause-links
returns-clause-links c =
    let all = c.edge_count-all.ensures.value in let some = c.requires.some in
    linked-all c.args.plan.now (c.args.round - 1) c.edge_count-all.result c.args.round c.pass_edges-2.new.links c.pass_edges-2.ensures.links (omega arith) (omega arith)

pub returns-clause-next : goal.returns-clause-next
returns-clause-next c g suit holds =
    let p = c.args.plan.now in let rule = c.args.rule.now in let v = c.reach-reach.ensures.limits in
    let first = c.first_count-first.ensures.value in let all = c.edge_count-all.ensures.value in
    let one = c.pass_edges.ensures in let two = c.pass_edges-2.ensures in
    let b0 = c.args.blocks.now in let b1 = c.pass_edges.new.blocks in let b2 = c.set_sides.new.blocks in let b3 = c.pass_edges-2.new.blocks in
    let own = own-read p g rule b0 v c.requires.blocks suit holds in
    let ready = all-first p g rule b0 c.first_count-first.result v own (omega arith) in
    let came = subst (λ n. AreBrought p g rule b1 0 n) first (one.brought g rule suit ready) in
    let sides = c.set_sides.ensures.sides g suit (own-stay p g rule b0 b1 own (one.keeps g rule suit ready)) came in
    let ready' = all-second p g rule b2 c.first_count-first.result c.edge_count-all.result v sides (omega arith) (omega arith) in
    let came' = subst (λ n. AreBrought p g rule b3 n (length (edges p))) first (subst (λ n. AreBrought p g rule b3 c.first_count-first.result n) all (two.brought g rule suit ready')) in
    c.step_blocks.ensures.next g suit (c.set_ends.ensures.all g suit (sides-stay p g rule b2 b3 sides (two.keeps g rule suit ready')) came')
