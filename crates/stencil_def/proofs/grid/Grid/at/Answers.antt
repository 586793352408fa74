use Rattle.std.proofs.Common.{◌∙◌, ◌<◌, sym, ap, subst, arith}
use Rattle.std.proofs.lemmas.Nat.{mul-le}
use Rattle.stencil_def.specs.Limits.{IsValue}
use Rattle.stencil_def.specs.Plane.{Plane, cell}
use Rattle.stencil_def.specs.declared.grid.Grid.TheView.{view}
use Rattle.stencil_def.proofs.SumFacts.{value-exact}
use Rattle.stencil_def.proofs.StepFacts.{place-inside, cell-read, cell-limits}
use Rattle.stencil_def.proofs.grid.Grid.at.Goals as goal

pub overflow_mul-row : goal.overflow_mul-row
overflow_mul-row c =
    let rows = ap (λ (g : Plane). g.rows) c.self.view_is in
    let less = c.requires.row in
    let few = c.self.invariant.cells in
    let m = mul-le c.args.row c.self.inside.cols c.self.inside.rows c.self.inside.cols (omega (arith, rows, less)) (omega arith) in
    omega (arith, m, few)

pub overflow_add-row : goal.overflow_add-row
overflow_add-row c =
    let few = c.self.invariant.cells in
    let h = place-inside (view c.self.inside) c.args.row c.args.col (subst (λ (g : Plane). c.args.row < g.rows) (sym c.self.view_is) c.requires.row) (subst (λ (g : Plane). c.args.col < g.cols) (sym c.self.view_is) c.requires.col) in
    omega (arith, h, few)

pub index-requires : goal.index-requires
index-requires c =
    let long = c.self.invariant.length in
    let size = c.self.inside.values.ok.0 in
    let h = place-inside (view c.self.inside) c.args.row c.args.col (subst (λ (g : Plane). c.args.row < g.rows) (sym c.self.view_is) c.requires.row) (subst (λ (g : Plane). c.args.col < g.cols) (sym c.self.view_is) c.requires.col) in
    omega (arith, h, long, size)

pub returns-clause-value : goal.returns-clause-value
returns-clause-value c =
    let g = view c.self.inside in
    let p = subst (λ (w : Plane). c.args.row < w.rows) (sym c.self.view_is) c.requires.row in
    let q = subst (λ (w : Plane). c.args.col < w.cols) (sym c.self.view_is) c.requires.col in
    let is = cell-read g c.args.row c.args.col c.index.result.now c.self.invariant p q c.index.ensures in
    value-exact c.index.result.now (subst IsValue (sym is) (cell-limits g c.args.row c.args.col c.self.invariant p q))
    ∙ (is ∙ ap (λ (w : Plane). cell w c.args.row c.args.col) c.self.view_is)

pub returns-clause-limits : goal.returns-clause-limits
returns-clause-limits c =
    let g = view c.self.inside in
    let p = subst (λ (w : Plane). c.args.row < w.rows) (sym c.self.view_is) c.requires.row in
    let q = subst (λ (w : Plane). c.args.col < w.cols) (sym c.self.view_is) c.requires.col in
    let is = cell-read g c.args.row c.args.col c.index.result.now c.self.invariant p q c.index.ensures in
    let fine = subst IsValue (sym is) (cell-limits g c.args.row c.args.col c.self.invariant p q) in
    subst IsValue (sym (value-exact c.index.result.now fine)) fine
