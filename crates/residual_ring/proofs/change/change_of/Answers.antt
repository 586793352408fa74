use Rattle.std.proofs.Common.{◌≡◌, ◌∙◌, sym, ap, ◌+◌, ◌<◌, ◌≤◌, ℕ, ℤ, pos, to_z, w64, arith}
use Rattle.std.proofs.lemmas.Int.{ints}
use Rattle.stencil_def.specs.Plane.{Plane, row_of}
use Rattle.cell_lanes.specs.Change.{change, change_within, list_change, row_change}
use Rattle.cell_lanes.proofs.ChangeFacts.{change-kept, change-more, rows-none}
use Rattle.residual_ring.proofs.ChangeFacts.{change-met, change-most, row-change-is}
use Rattle.residual_ring.proofs.change.change_of.Goals as goal

pub loop-row-init : goal.loop-row-init
loop-row-init c = record {
  change = rows-none c.args.old.now c.args.new.now 0 0 c.args.old.now.cols;
  limits = (omega (arith, ints), omega (arith, ints));
}

pub loop-row-preserved : goal.loop-row-preserved
loop-row-preserved c =
    let old = c.args.old.now in
    let new = c.args.new.now in
    let n = c.loop-row.row in
    let i = c.loop-row.invariant in
    let row = c.greatest_change.ensures in
    let most = to_z w64 c.loop-row.most-bits in
    let few : n < old.rows = let h = c.loop-row-test.true in let e = c.rows-row-end.ensures.value in omega arith in
    let is : c.greatest_change.result ≡ pos (row_change old new 0 old.cols (0 + n)) =
    row.change
    ∙ ap (λ xs. pos (list_change xs c.row-in-loop-row.result.now)) c.row.ensures.values
    ∙ ap (λ xs. pos (list_change (row_of old n) xs)) c.row-in-loop-row.ensures.values
    ∙ ap (λ (m : ℕ). pos m) (row-change-is old new n c.row.ensures.limits few c.requires.cols) in
    record {
      change = change-more old new 0 0 old.cols n most c.greatest_change.result c.max-most.result i.limits row.limits i.change is c.max-most.ensures;
      limits = change-kept most c.greatest_change.result c.max-most.result i.limits row.limits c.max-most.ensures;
    }

-- all rows were compared
whole : (old new : Plane) (n end : ℕ) (most : ℤ) → end ≡ old.rows → end ≤ n → n ≤ end → most ≡ pos (change_within old new 0 n 0 old.cols) → most ≡ pos (change old new)
whole old new n end most e low high is = let all : n ≡ old.rows = omega arith in is ∙ ap (λ k. pos (change_within old new 0 k 0 old.cols)) all

pub returns-clause-value : goal.returns-clause-value
returns-clause-value c =
    let l = c.loop-row in
    whole c.args.old.now c.args.new.now l.row c.rows-row-end.result (to_z w64 l.most-bits) c.rows-row-end.ensures.value c.loop-row-test.false l.auto.row-end l.invariant.change

pub returns-clause-most : goal.returns-clause-most
returns-clause-most c row col less l =
    let p = c.loop-row in
    let m = change-most c.args.old.now c.args.new.now row col less l in
    let is = whole c.args.old.now c.args.new.now p.row c.rows-row-end.result (to_z w64 p.most-bits) c.rows-row-end.ensures.value c.loop-row-test.false p.auto.row-end p.invariant.change in
    omega (arith, ints)

pub returns-clause-met : goal.returns-clause-met
returns-clause-met c =
    let l = c.loop-row in
    let plane = c.rows-row-end.ensures.limits in
    let m = change-met c.args.old.now c.args.new.now plane.rows.0 plane.cols.0 in
    let is = whole c.args.old.now c.args.new.now l.row c.rows-row-end.result (to_z w64 l.most-bits) c.rows-row-end.ensures.value c.loop-row-test.false l.auto.row-end l.invariant.change in
    (m.0, m.1, m.2, m.3, ap (λ (n : ℕ). pos n) m.4 ∙ sym is)
