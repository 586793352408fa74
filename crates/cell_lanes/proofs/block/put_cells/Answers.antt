use Rattle.std.proofs.Common.{◌≡◌, ◌∙◌, ◌++◌, ◌+◌, ◌-◌, sym, ap, subst, List, ℤ, take, drop, length, arith}
use Rattle.std.specs.List.{All}
use Rattle.std.proofs.lemmas.List.{drop-drop}
use Rattle.stencil_def.specs.Limits.{IsValue}
use Rattle.cell_lanes.proofs.BlockFacts.{length-put, limits-put}
use Rattle.cell_lanes.proofs.block.put_cells.Goals as goal

pub slice_bounds-copy_from_slice-end : goal.slice_bounds-copy_from_slice-end
slice_bounds-copy_from_slice-end c = omega (arith, c.requires.room)

pub returns-clause-put : goal.returns-clause-put
returns-clause-put c =
    let a = c.args in
    let n = length a.cells.now in
    let size : a.start + n - a.start ≡ n = omega arith in
    ap (λ (xs : List ℤ). take a.start a.values.now ++ (xs ++ drop (a.start + n - a.start) (drop a.start a.values.now))) c.copy_from_slice.ensures.after
    ∙ ap (λ (xs : List ℤ). take a.start a.values.now ++ (a.cells.now ++ xs))
    (ap (λ k. drop k (drop a.start a.values.now)) size ∙ drop-drop n a.start a.values.now)

pub returns-clause-limits : goal.returns-clause-limits
returns-clause-limits c =
    let a = c.args in
    let n = length a.cells.now in
    let k = a.start + n - a.start in
    let size : k ≡ n = omega arith in
    let room = c.requires.room in
    limits-put a.rows a.cols a.reach a.start k a.values.now c.copy_from_slice.new.self c.requires.part (subst (All IsValue) (sym c.copy_from_slice.ensures.after) c.requires.cells)
    (length-put a.start k a.values.now c.copy_from_slice.new.self (omega arith) (ap length c.copy_from_slice.ensures.after ∙ sym size))
