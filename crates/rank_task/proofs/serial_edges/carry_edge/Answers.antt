use Rattle.std.proofs.Common.{◌≡◌, ◌∙◌, sym, ap, subst, ℕ, ◌+◌, ◌-◌, ◌*◌, ◌<◌, ℤ, pos, List, get_or, set, arith}
use Rattle.part_geometry.specs.Shape.{IsShape}
use Rattle.cell_lanes.specs.Block.{Part, at}
use Rattle.halo_plan.specs.Plan.{shape_of}
use Rattle.rank_task.specs.Blocks.{IsBrought, no_part, rows_of}
use Rattle.rank_task.proofs.HaloFacts.{EdgePassed, any-default, edge-brings, edge-same, landing-is, leaving-is, passed-brought, passed-from, passed-keeps, sized-set}
use Rattle.rank_task.proofs.RestFacts.{rests-from}
use Rattle.rank_task.proofs.serial_edges.carry_edge.Goals as goal

pub leaving-first-requires : goal.leaving-first-requires
leaving-first-requires c =
    let p = c.args.plan.now in let x = c.edge-edge.result in let blocks = c.args.blocks.now in
    let b = edge-brings p c.args.e x c.reach-reach.ensures.limits c.requires.edge c.edge-edge.ensures.value in
    let s = c.requires.blocks in let count = s.count in let from = b.from in let sent = b.sent in
    let same = any-default blocks x.from c.index-blocks-edge.result no_part (omega arith) in
    let rows : c.rows.result ≡ rows_of p x.from = c.rows.ensures.value ∙ ap (λ (q : Part). q.rows) same ∙ (s.each x.from from).rows in
    let far = c.reach-reach.ensures.value in
    omega arith

pub copy_rows-requires-clause-rows : goal.copy_rows-requires-clause-rows
copy_rows-requires-clause-rows c =
    let p = c.args.plan.now in let x = c.edge-edge.result in let blocks = c.args.blocks.now in
    let b = edge-brings p c.args.e x c.reach-reach.ensures.limits c.requires.edge c.edge-edge.ensures.value in
    let s = c.requires.blocks in let count = s.count in let from = b.from in let sent = b.sent in
    let same = any-default blocks x.from c.index-blocks-edge.result no_part (omega arith) in
    let many = ap (λ (q : Part). q.rows) same ∙ (s.each x.from from).rows in
    let rows : c.rows.result ≡ rows_of p x.from = c.rows.ensures.value ∙ many in
    let far = c.reach-reach.ensures.value in
    let first = leaving-is p x c.leaving-first.result c.rows.result c.reach-reach.result c.leaving-first.ensures rows far in
    omega arith

pub copy_rows-requires-clause-out : goal.copy_rows-requires-clause-out
copy_rows-requires-clause-out c =
    let p = c.args.plan.now in let x = c.edge-edge.result in let blocks = c.args.blocks.now in
    let b = edge-brings p c.args.e x c.reach-reach.ensures.limits c.requires.edge c.edge-edge.ensures.value in
    let s = c.requires.blocks in let count = s.count in let from = b.from in
    let same = any-default blocks x.from c.index-blocks-edge.result no_part (omega arith) in
    let wide = ap (λ (q : Part). q.cols) same ∙ (s.each x.from from).cols in
    let far = c.reach-reach.ensures.value in
    c.requires.carried ∙ (λ i. sym far i * sym wide i)

pub pass-requires-clause-rests : goal.pass-requires-clause-rests
pass-requires-clause-rests c =
    rests-from (shape_of c.args.plan.now) (c.args.round - 1) c.args.pair.now (subst IsShape c.geometry-geometry.ensures.value c.geometry-geometry.ensures.limits) c.requires.pair

pub put_rows-requires-clause-end : goal.put_rows-requires-clause-end
put_rows-requires-clause-end c =
    let p = c.args.plan.now in let x = c.edge-edge.result in let blocks = c.args.blocks.now in
    let b = edge-brings p c.args.e x c.reach-reach.ensures.limits c.requires.edge c.edge-edge.ensures.value in
    let s = c.requires.blocks in let count = s.count in let to = b.to in let apart = b.apart in
    let same = any-default blocks x.to c.index-blocks-edge-2.result no_part (omega arith) in
    let many = ap (λ (q : Part). q.rows) same ∙ (s.each x.to to).rows in
    let high = ap (λ (q : Part). q.reach) same ∙ (s.each x.to to).reach in
    let far = c.reach-reach.ensures.value in
    let first = landing-is p x c.landing-at.result c.rows-2.result c.reach-reach.result c.landing-at.ensures (c.rows-2.ensures.value ∙ many) far in
    omega arith

pub put_rows-requires-clause-rows : goal.put_rows-requires-clause-rows
put_rows-requires-clause-rows c =
    let p = c.args.plan.now in let x = c.edge-edge.result in let blocks = c.args.blocks.now in
    let b = edge-brings p c.args.e x c.reach-reach.ensures.limits c.requires.edge c.edge-edge.ensures.value in
    let s = c.requires.blocks in let count = s.count in let to = b.to in
    let same = any-default blocks x.to c.index-blocks-edge-2.result no_part (omega arith) in
    let wide = ap (λ (q : Part). q.cols) same ∙ (s.each x.to to).cols in
    let far = c.reach-reach.ensures.value in
    c.pass.auto.out ∙ c.requires.arrived ∙ (λ i. sym far i * sym wide i)

pub returns-clause-blocks : goal.returns-clause-blocks
returns-clause-blocks c =
    let p = c.args.plan.now in let x = c.edge-edge.result in let blocks = c.args.blocks.now in
    let b = edge-brings p c.args.e x c.reach-reach.ensures.limits c.requires.edge c.edge-edge.ensures.value in
    let s = c.requires.blocks in let count = s.count in let to = b.to in
    let same = any-default blocks x.to c.index-blocks-edge-2.result no_part (omega arith) in
    let size = c.put_rows.ensures.size in
    sized-set p blocks x.to c.put_rows.new.block s to
    (record {
      rows = size.rows ∙ ap (λ (q : Part). q.rows) same;
      cols = size.cols ∙ ap (λ (q : Part). q.cols) same;
      reach = size.reach ∙ ap (λ (q : Part). q.reach) same;
    }) c.put_rows.ensures.limits

passed : (c : goal.After-put_rows) → EdgePassed c.args.plan.now c.edge-edge.result c.args.blocks.now c.put_rows.new.block
passed c =
    let p = c.args.plan.now in let x = c.edge-edge.result in let blocks = c.args.blocks.now in
    let b = edge-brings p c.args.e x c.reach-reach.ensures.limits c.requires.edge c.edge-edge.ensures.value in
    let s = c.requires.blocks in let count = s.count in let from = b.from in let to = b.to in
    let one = any-default blocks x.from c.index-blocks-edge.result no_part (omega arith) in
    let two = any-default blocks x.to c.index-blocks-edge-2.result no_part (omega arith) in
    let far = c.reach-reach.ensures.value in
    let rows = c.rows.ensures.value ∙ ap (λ (q : Part). q.rows) one ∙ (s.each x.from from).rows in
    let rows' = c.rows-2.ensures.value ∙ ap (λ (q : Part). q.rows) two ∙ (s.each x.to to).rows in
    passed-from p x blocks (get_or blocks x.from c.index-blocks-edge.result) (get_or blocks x.to c.index-blocks-edge-2.result) c.put_rows.new.block
    c.leaving-first.result c.landing-at.result c.reach-reach.result c.copy_rows.new.out s b one two far
    (leaving-is p x c.leaving-first.result c.rows.result c.reach-reach.result c.leaving-first.ensures rows far)
    (landing-is p x c.landing-at.result c.rows-2.result c.reach-reach.result c.landing-at.ensures rows' far)
    c.copy_rows.ensures.rows
    (subst (λ (xs : List ℤ). (k col : ℕ) → k < c.reach-reach.result → col < (get_or blocks x.to c.index-blocks-edge-2.result).cols
    → at c.put_rows.new.block (c.landing-at.result + k) ((get_or blocks x.to c.index-blocks-edge-2.result).reach + col) ≡ get_or xs (k * (get_or blocks x.to c.index-blocks-edge-2.result).cols + col) (pos 0))
    c.pass.ensures.rows c.put_rows.ensures.rows)
    c.put_rows.ensures.rest c.put_rows.ensures.size c.put_rows.ensures.limits

pub returns-clause-keeps : goal.returns-clause-keeps
returns-clause-keeps c g rule suit own =
    let p = c.args.plan.now in let x = c.edge-edge.result in
    let b = edge-brings p c.args.e x c.reach-reach.ensures.limits c.requires.edge c.edge-edge.ensures.value in
    passed-keeps p g rule x c.args.blocks.now c.put_rows.new.block c.requires.blocks b (passed c) suit own

pub returns-clause-brought : goal.returns-clause-brought
returns-clause-brought c g rule y suit own is =
    let p = c.args.plan.now in let x = c.edge-edge.result in
    let b = edge-brings p c.args.e x c.reach-reach.ensures.limits c.requires.edge c.edge-edge.ensures.value in
    let same : x ≡ y = edge-same x y (sym c.edge-edge.ensures.value ∙ is) in
    subst (IsBrought p g rule (set c.args.blocks.now x.to c.put_rows.new.block)) same
    (passed-brought p g rule x c.args.blocks.now c.put_rows.new.block c.requires.blocks b (passed c) suit own)
