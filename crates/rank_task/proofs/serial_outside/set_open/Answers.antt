use Rattle.std.proofs.Common.{◌≡◌, ap, subst, ◌+◌, ◌-◌, arith}
use Rattle.cell_lanes.proofs.WindowFacts.{below-or}
use Rattle.halo_plan.specs.Plan.{first_row}
use Rattle.rank_task.specs.Blocks.{Reads, rows_of}
use Rattle.rank_task.proofs.HaloFacts.{own-kept}
use Rattle.rank_task.proofs.OutsideFacts.{last-rows, rows-last}
use Rattle.rank_task.proofs.serial_outside.set_open.Goals as goal

pub set_open_row-requires-in-loop-k-clause-stands : goal.set_open_row-requires-in-loop-k-clause-stands
set_open_row-requires-in-loop-k-clause-stands c =
    let p = c.args.plan.now in
    let v = c.ranks-last.ensures.limits in let ranks = v.ranks in
    let last : c.ranks-last.result - 1 ≡ p.ranks - 1 = ap (λ n. n - 1) c.ranks-last.ensures.value in
    let rows = rows-last p c.set_open_row.new.blocks (c.ranks-last.result - 1) c.rows.result c.index-blocks-last.result v c.set_open_row.ensures.blocks last c.rows.ensures.value in
    let end = last-rows p v in
    let many = c.rows-rows.ensures.value in
    let first = ap (first_row p) last in
    omega arith

pub loop-k-preserved : goal.loop-k-preserved
loop-k-preserved c =
    let p = c.args.plan.now in let rule = c.args.rule.now in
    let v = c.ranks-last.ensures.limits in
    let i = c.loop-k.invariant in
    let one = c.set_open_row.ensures in let two = c.set_open_row-in-loop-k.ensures in
    let last : c.ranks-last.result - 1 ≡ p.ranks - 1 = ap (λ n. n - 1) c.ranks-last.ensures.value in
    let rows = rows-last p c.set_open_row.new.blocks (c.ranks-last.result - 1) c.rows.result c.index-blocks-last.result v one.blocks last c.rows.ensures.value in
    let far = c.reach-reach.ensures.value in
    record {
      blocks = two.blocks;
      values = two.values;
      keeps = λ g suit own.
          let a = own-kept p g rule c.args.blocks.now c.loop-k.blocks (i.keeps g suit own) own in
          let b = own-kept p g rule c.loop-k.blocks c.set_open_row.new.blocks (one.keeps g suit a) a in
          λ j y reads. two.keeps g suit b j y (one.keeps g suit a j y (i.keeps g suit own j y reads));
      set = λ g k suit own less.
          let a = own-kept p g rule c.args.blocks.now c.loop-k.blocks (i.keeps g suit own) own in
          let b = own-kept p g rule c.loop-k.blocks c.set_open_row.new.blocks (one.keeps g suit a) a in
          below-or k c.loop-k.k
          (λ l. let s = i.set g k suit own l in record {
            before = two.keeps g suit b 0 k (one.keeps g suit a 0 k s.before);
            behind = two.keeps g suit b (p.ranks - 1) (p.reach + rows_of p (p.ranks - 1) + k) (one.keeps g suit a (p.ranks - 1) (p.reach + rows_of p (p.ranks - 1) + k) s.behind);
          })
          (λ h. let same : c.loop-k.k ≡ k = omega arith in
          let place : c.reach-reach.result + c.rows.result + c.loop-k.k ≡ p.reach + rows_of p (p.ranks - 1) + k = omega arith in
          record {
            before = subst (Reads p g rule c.set_open_row-in-loop-k.new.blocks 0) same (two.keeps g suit b 0 c.loop-k.k (one.reads g suit a));
            behind = subst (λ j. Reads p g rule c.set_open_row-in-loop-k.new.blocks j (p.reach + rows_of p (p.ranks - 1) + k)) last
                (subst (Reads p g rule c.set_open_row-in-loop-k.new.blocks (c.ranks-last.result - 1)) place (two.reads g suit b));
          });
    }

pub returns-clause-set : goal.returns-clause-set
returns-clause-set c g k suit own less =
    let far = c.loop-k-test.false in let reach = c.reach-reach.ensures.value in
    c.loop-k.invariant.set g k suit own (omega arith)
