use Rattle.std.proofs.Common.{◌∙◌, ◌<◌, sym, ap, subst, arith}
use Rattle.std.proofs.lemmas.Nat.{mul-le}
use Rattle.stencil_def.specs.Plane.{Plane, IsPlane, with_cell}
use Rattle.stencil_def.specs.declared.grid.Grid.TheView.{view}
use Rattle.stencil_def.proofs.SumFacts.{value-exact}
use Rattle.stencil_def.proofs.StepFacts.{place-inside, set-limits}
use Rattle.stencil_def.proofs.grid.Grid.set.Goals as goal

pub overflow_mul-row : goal.overflow_mul-row
overflow_mul-row c =
    let rows = ap (λ (g : Plane). g.rows) c.self.view_is in
    let less = c.requires.row in
    let few = c.self.invariant.cells in
    let m = mul-le c.args.row c.self.inside.cols c.self.inside.rows c.self.inside.cols (omega (arith, rows, less)) (omega arith) in
    omega (arith, m, few)

pub overflow_add-row : goal.overflow_add-row
overflow_add-row c =
    let few = c.self.invariant.cells in
    let h = place-inside (view c.self.inside) c.args.row c.args.col (subst (λ (g : Plane). c.args.row < g.rows) (sym c.self.view_is) c.requires.row) (subst (λ (g : Plane). c.args.col < g.cols) (sym c.self.view_is) c.requires.col) in
    omega (arith, h, few)

pub index_mut-requires : goal.index_mut-requires
index_mut-requires c =
    let long = c.self.invariant.length in
    let size = c.self.inside.values.ok.0 in
    let h = place-inside (view c.self.inside) c.args.row c.args.col (subst (λ (g : Plane). c.args.row < g.rows) (sym c.self.view_is) c.requires.row) (subst (λ (g : Plane). c.args.col < g.cols) (sym c.self.view_is) c.requires.col) in
    omega (arith, h, long, size)

pub returns-clause-value : goal.returns-clause-value
returns-clause-value c =
    ap (with_cell (view c.self.inside) c.args.row c.args.col) (value-exact c.args.value c.requires.value)
    ∙ ap (λ (g : Plane). with_cell g c.args.row c.args.col c.args.value) c.self.view_is

pub returns-clause-limits : goal.returns-clause-limits
returns-clause-limits c =
    subst (λ v. IsPlane (with_cell (view c.self.inside) c.args.row c.args.col v)) (sym (value-exact c.args.value c.requires.value))
    (set-limits (view c.self.inside) c.args.row c.args.col c.args.value c.self.invariant c.requires.value)

pub invariant_of-self : goal.invariant_of-self
invariant_of-self c =
    subst (λ v. IsPlane (with_cell (view c.self.inside) c.args.row c.args.col v)) (sym (value-exact c.args.value c.requires.value))
    (set-limits (view c.self.inside) c.args.row c.args.col c.args.value c.self.invariant c.requires.value)
