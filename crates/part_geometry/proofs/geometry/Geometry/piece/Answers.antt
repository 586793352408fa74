use Rattle.std.proofs.Common.{◌≡◌, ◌+◌, ◌-◌, ◌<◌, ◌≤◌, refl, sym, ◌∙◌, arith}
use Rattle.part_geometry.specs.Pieces.{last_cell}
use Rattle.part_geometry.proofs.PieceFacts.{piece-ordered, piece-run}
use Rattle.part_geometry.proofs.ReaderFacts.{piece-bytes, IsCounted, split-next, split-small, split-whole}
use Rattle.part_geometry.proofs.geometry.Geometry.piece.Goals as goal
use Rattle.part_geometry.proofs.geometry.Geometry.piece.Goals.{then-cell-i, else-cell-i}

pub overflow_add-first : goal.overflow_add-first
overflow_add-first c =
    let s = split-small _ c.walk-walk.ensures.limits _ _ _ _ c.loop-cell.invariant in omega arith

pub overflow_add-end : goal.overflow_add-end
overflow_add-end c =
    let s = split-small _ c.walk-walk.ensures.limits _ _ _ _ c.loop-cell.invariant in omega arith

pub loop-cell-preserved-then-cell-i-2 : goal.loop-cell-preserved-then-cell-i-2
loop-cell-preserved-then-cell-i-2 c =
    let before : IsCounted (c.in-Some.cell.piece < c.args.i) c.loop-cell.first c.if-cell-i.first = elim c.if-cell-i.branch [
      | then-cell-i w ↦ record { more = λ h. w.first-is; same = λ h. absurd (h w.if-cell-i.true) }
      | else-cell-i w ↦ record { more = λ h. absurd (omega arith); same = λ h. w.first-is }
    ] in
    let upto : IsCounted (c.in-Some.cell.piece ≤ c.args.i) c.loop-cell.end (c.loop-cell.end + 1) =
    record { more = λ h. refl; same = λ h. absurd (h c.if-cell-i-2.true) } in
    rw c.advance.ensures.walk (split-next _ _ _ _ _ _ _ _ c.requires c.loop-cell.invariant (sym c.advance.ensures.cell ∙ c.in-Some.is) before upto)

pub loop-cell-preserved : goal.loop-cell-preserved
loop-cell-preserved c =
    let before : IsCounted (c.in-Some.cell.piece < c.args.i) c.loop-cell.first c.if-cell-i.first = elim c.if-cell-i.branch [
      | then-cell-i w ↦ record { more = λ h. w.first-is; same = λ h. absurd (h w.if-cell-i.true) }
      | else-cell-i w ↦ record { more = λ h. absurd (omega arith); same = λ h. w.first-is }
    ] in
    let upto : IsCounted (c.in-Some.cell.piece ≤ c.args.i) c.loop-cell.end c.loop-cell.end =
    record { more = λ h. absurd (let n = c.if-cell-i-2.false in omega arith); same = λ h. refl } in
    rw c.advance.ensures.walk (split-next _ _ _ _ _ _ _ _ c.requires c.loop-cell.invariant (sym c.advance.ensures.cell ∙ c.in-Some.is) before upto)

pub overflow_sub-result : goal.overflow_sub-result
overflow_sub-result c =
    let h = split-whole _ _ _ _ _ c.requires c.loop-cell.invariant (sym c.advance.ensures.cell ∙ c.in_default.is) in omega arith

pub returns-clause-value : goal.returns-clause-value
returns-clause-value c =
    let h = split-whole _ _ _ _ _ c.requires c.loop-cell.invariant (sym c.advance.ensures.cell ∙ c.in_default.is) in
    let last : c.loop-cell.end - 1 ≡ last_cell c.args.self.now c.args.i = omega arith in
    rw (h.0, last) refl

pub returns-clause-inside : goal.returns-clause-inside
returns-clause-inside c =
    let h = split-whole _ _ _ _ _ c.requires c.loop-cell.invariant (sym c.advance.ensures.cell ∙ c.in_default.is) in
    let o = piece-ordered c.args.self.now c.args.i c.requires in (omega arith, omega arith)

pub returns-clause-bytes : goal.returns-clause-bytes
returns-clause-bytes c =
    let h = split-whole _ _ _ _ _ c.requires c.loop-cell.invariant (sym c.advance.ensures.cell ∙ c.in_default.is) in
    let last : c.loop-cell.end - 1 ≡ last_cell c.args.self.now c.args.i = omega arith in
    rw (h.0, last) (piece-bytes _ c.walk-walk.ensures.limits c.args.i c.requires)

pub returns-clause-rule : goal.returns-clause-rule
returns-clause-rule c =
    let h = split-whole _ _ _ _ _ c.requires c.loop-cell.invariant (sym c.advance.ensures.cell ∙ c.in_default.is) in
    let last : c.loop-cell.end - 1 ≡ last_cell c.args.self.now c.args.i = omega arith in
    rw (h.0, last) (piece-run c.args.self.now c.args.i c.requires)
