use Rattle.std.proofs.Common.{◌≡◌, subst, ◌-◌, ◌<◌, Some, length, arith}
use Rattle.std.specs.Prelude.{slice_get}
use Rattle.cell_lanes.proofs.WindowFacts.{below-or}
use Rattle.halo_plan.specs.Edges.{edges}
use Rattle.rank_task.proofs.HaloFacts.{brought-kept, own-kept, paired-all, paired-next}
use Rattle.rank_task.proofs.serial_edges.pass_edges.Goals as goal

pub loop-e-preserved : goal.loop-e-preserved
loop-e-preserved c =
    let p = c.args.plan.now in
    let e = c.loop-e.e in
    let k = c.args.round - 1 in
    let i = c.loop-e.invariant in
    let less : e < length (edges p) = let end = c.edge_count-count.ensures.value in omega arith in
    let some = c.requires.some in
    let done = c.pass_edge.ensures in
    record {
      pairs = paired-next p k e c.args.round c.loop-e.pairs c.pass_edge.new.pair i.pairs less (omega arith) done.pair;
      blocks = done.blocks;
      scratch = done.scratch;
      own = λ g rule suit own. own-kept p g rule c.loop-e.blocks c.pass_edge.new.blocks (done.keeps g rule suit (i.own g rule suit own)) (i.own g rule suit own);
      brought = λ g rule suit own f x l is.
          let before = i.own g rule suit own in
          below-or f e
          (λ m. brought-kept p g rule c.loop-e.blocks c.pass_edge.new.blocks e (done.keeps g rule suit before) (i.brought g rule suit own) f x m is)
          (λ h. let same : f ≡ e = omega arith in done.brought g rule x suit before (subst (λ n. slice_get (edges p) n ≡ Some x) same is));
    }

pub returns-clause-pairs : goal.returns-clause-pairs
returns-clause-pairs c =
    let some = c.requires.some in let end = c.edge_count-count.ensures.value in let far = c.loop-e-test.false in
    paired-all c.args.plan.now (c.args.round - 1) c.loop-e.e c.args.round c.loop-e.pairs c.loop-e.invariant.pairs (omega arith) (omega arith)

pub returns-clause-brought : goal.returns-clause-brought
returns-clause-brought c g rule suit own e x less is =
    let end = c.edge_count-count.ensures.value in let far = c.loop-e-test.false in
    c.loop-e.invariant.brought g rule suit own e x (omega arith) is
