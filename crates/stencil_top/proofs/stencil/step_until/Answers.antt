use Rattle.std.proofs.Common.{◌≡◌, sym, ap, subst, ◌+◌, to_z, of_z, w64, true, false, arith}
use Rattle.std.proofs.lemmas.Int.{ints, to_z-of_z}
use Rattle.stencil_def.proofs.StepFacts.{fold-none}
use Rattle.cell_lanes.specs.Change.{IsStop}
use Rattle.cell_lanes.proofs.StopFacts.{run-more, run-none, run-spent, run-stops}
use Rattle.rank_task.specs.Ranks.{Ranks, ranks_after}
use Rattle.stencil_top.proofs.Stepping.{change-is, ranks-more}
use Rattle.stencil_top.proofs.stencil.step_until.Goals as goal

pub loop-made-init : goal.loop-made-init
loop-made-init c =
    let r = c.args.ranks.now in
    let none : r.steps ≡ r.steps + 0 = omega arith in
    record {
      ranks = λ i. record { plan = r.plan; rule = r.rule; steps = none i; grid = sym (fold-none r.grid r.rule) i };
      run = run-none r.grid r.rule (to_z w64 (of_z w64 c.args.until));
    }

pub step_changed-requires : goal.step_changed-requires
step_changed-requires c =
    let few = c.requires.steps in let first = c.requires.first in let less = c.loop-made-test.true in
    let made = ap (λ (q : Ranks). q.steps) c.loop-made.invariant.ranks in
    omega arith

pub loop-made-preserved : goal.loop-made-preserved
loop-made-preserved c =
    let r = c.args.ranks.now in let l = c.loop-made in let e = c.step_changed.ensures in
    record {
      ranks = ranks-more r l.ranks c.step_changed.new.self l.made l.invariant.ranks e.after;
      run = run-more r.grid r.rule (to_z w64 (of_z w64 c.args.until)) l.made c.step_changed.result true l.invariant.run
          (change-is r l.ranks c.step_changed.new.self l.made c.step_changed.result l.invariant.ranks e.after e.change)
          (λ same. omega (arith, ints)) (λ other. cc);
    }

pub returns-then-step_changed-until-clause-stop : goal.returns-then-step_changed-until-clause-stop
returns-then-step_changed-until-clause-stop c =
    let r = c.args.ranks.now in let l = c.loop-made in let e = c.step_changed.ensures in
    let less = c.loop-made-test.true in
    let until = to_z w64 (of_z w64 c.args.until) in
    subst (λ z. IsStop r.grid r.rule c.args.steps z (l.made + 1)) (to_z-of_z w64 c.args.until c.ranges.until)
    (run-stops r.grid r.rule c.args.steps until (l.made + 1) (omega arith)
    (run-more r.grid r.rule until l.made c.step_changed.result false l.invariant.run
    (change-is r l.ranks c.step_changed.new.self l.made c.step_changed.result l.invariant.ranks e.after e.change)
    (λ other. cc) (λ same. omega (arith, ints))))

pub returns-then-step_changed-until-clause-after : goal.returns-then-step_changed-until-clause-after
returns-then-step_changed-until-clause-after c =
    let l = c.loop-made in ranks-more c.args.ranks.now l.ranks c.step_changed.new.self l.made l.invariant.ranks c.step_changed.ensures.after

pub returns-clause-stop : goal.returns-clause-stop
returns-clause-stop c =
    let r = c.args.ranks.now in let l = c.loop-made in
    let far = c.loop-made-test.false in let near = l.auto.made-end in
    let all : l.made ≡ c.args.steps = omega arith in
    let until = to_z w64 (of_z w64 c.args.until) in
    subst (λ z. IsStop r.grid r.rule c.args.steps z c.args.steps) (to_z-of_z w64 c.args.until c.ranges.until)
    (subst (IsStop r.grid r.rule c.args.steps until) all (run-spent r.grid r.rule c.args.steps until l.made true all l.invariant.run))

pub returns-clause-after : goal.returns-clause-after
returns-clause-after c =
    let r = c.args.ranks.now in let l = c.loop-made in
    let far = c.loop-made-test.false in let near = l.auto.made-end in
    let all : l.made ≡ c.args.steps = omega arith in
    subst (λ n. l.ranks ≡ ranks_after r n) all l.invariant.ranks
