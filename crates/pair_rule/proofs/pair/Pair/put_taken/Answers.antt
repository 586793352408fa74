use Rattle.std.proofs.Common.{rules, ◌≡◌, ℕ, ◌<◌, None, ap, sym, ◌∙◌, subst}
use mathlib.Core.Option.{some}
use lib.ListN.{get_elem?}
use Rattle.part_geometry.specs.Shape.{Shape, IsShape}
use Rattle.part_geometry.specs.Cells.{cells, recv_of}
use Rattle.part_geometry.proofs.Rows.{row-below, recv-row}
use Rattle.pair_rule.specs.Parts.{IsOut}
use Rattle.pair_rule.proofs.LanesKept.{cell_spots, cell_facts}
use Rattle.pair_rule.proofs.pair.Pair.put_taken.Goals as goal

pub received-first-requires : goal.received-first-requires
received-first-requires g c =
    let p = c.self.invariant in let t : Shape = c.self.inside.tables in let cell : ℕ = c.args.cell in
    let v : IsShape t = subst IsShape (sym p.0) p.1 in
    let inside : cell < cells t = subst (λ (z : Shape). cell < cells z) (ap (λ v. v.key.geometry) (sym c.self.view_is) ∙ sym p.0) c.requires.cell in
    subst (λ (z : ℕ). z < t.recv_parts) (sym (ap (λ z. z.recv) c.cell-q.ensures)) (row-below (recv_of t) (cells t) t.recv_parts (recv-row t v) cell inside)

pub overflow_sub-index : goal.overflow_sub-index
overflow_sub-index g c =
    let p = c.self.invariant in let t : Shape = c.self.inside.tables in let cell : ℕ = c.args.cell in
    let v : IsShape t = subst IsShape (sym p.0) p.1 in
    let inside : cell < cells t = subst (λ (z : Shape). cell < cells z) (ap (λ v. v.key.geometry) (sym c.self.view_is) ∙ sym p.0) c.requires.cell in
    let f = c.received-first in
    (cell_facts t v cell c.cell-q.result.recv 0 f.result.0 f.result.1 inside (sym (ap (λ z. z.recv) c.cell-q.ensures)) (ap (λ z. z.0) f.ensures.value) (ap (λ z. z.1) f.ensures.value)).0

pub swap_part-old-requires-clause-index : goal.swap_part-old-requires-clause-index
swap_part-old-requires-clause-index g c =
    let p = c.self.invariant in let t : Shape = c.self.inside.tables in let cell : ℕ = c.args.cell in let me = c.seat.inside.seat.me in
    let v : IsShape t = subst IsShape (sym p.0) p.1 in let to = ap (λ v. v.key.geometry) (sym c.self.view_is) ∙ sym p.0 in
    let inside : cell < cells t = subst (λ (z : Shape). cell < cells z) to c.requires.cell in
    let geo : me.0.geometry ≡ t = ap (λ v. v.view.geometry) c.seat.view_is ∙ (c.requires.pair.1 ∙ to) in
    let same : c.deref.result.now ≡ c.seat.inside.lanes.items = search rules in let f = c.received-first in
    (cell_spots t me.0.geometry v geo cell c.cell-q.result.recv c.args.place f.result.0 f.result.1 c.seat.inside.lanes.items c.deref.result.now same inside
    (ap (λ z. z.recv) c.cell-q.ensures) (ap (λ z. z.0) f.ensures.value) (ap (λ z. z.1) f.ensures.value)).1

pub swap_part-old-requires-clause-held : goal.swap_part-old-requires-clause-held
swap_part-old-requires-clause-held g c =
    let p = c.self.invariant in let t : Shape = c.self.inside.tables in let cell : ℕ = c.args.cell in let me = c.seat.inside.seat.me in
    let v : IsShape t = subst IsShape (sym p.0) p.1 in let to = ap (λ v. v.key.geometry) (sym c.self.view_is) ∙ sym p.0 in
    let inside : cell < cells t = subst (λ (z : Shape). cell < cells z) to c.requires.cell in
    let geo : me.0.geometry ≡ t = ap (λ v. v.view.geometry) c.seat.view_is ∙ (c.requires.pair.1 ∙ to) in
    let same : c.deref.result.now ≡ c.seat.inside.lanes.items = search rules in let f = c.received-first in
    let s = cell_spots t me.0.geometry v geo cell c.cell-q.result.recv c.args.place f.result.0 f.result.1 c.seat.inside.lanes.items c.deref.result.now same inside
    (ap (λ z. z.recv) c.cell-q.ensures) (ap (λ z. z.0) f.ensures.value) (ap (λ z. z.1) f.ensures.value) in
    let out = subst (IsOut c.args.place cell None) (sym c.seat.view_is) c.requires.held in
    (None, subst (λ (z : ℕ × ℕ). get_elem? me.1 z.0 ≡ some (z.1, None)) (λ i. (sym s.2 i, sym s.3 i)) out)
