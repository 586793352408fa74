use Rattle.std.proofs.Common.{◌∙◌, ap, sym, ℕ, ◌+◌, ◌-◌, ◌*◌, ◌≤◌, unsigned_abs, map, to_z, w64, arith}
use Rattle.cell_lanes.specs.Mirror.{row_alike, alike}
use Rattle.cell_lanes.specs.Parts.{IsPart}
use Rattle.cell_lanes.proofs.TwoFacts.{two-back, two-same, each-bits, added}
use Rattle.cell_lanes.proofs.MirrorFacts.{both-before, both-middle, row-alike-size, alike-size}
use Rattle.cell_lanes.proofs.mirrored.alike_values.Goals as goal
use Rattle.cell_lanes.proofs.mirrored.alike_values.Goals.{then-a-reach, else-a-reach}

pub plus-requires-clause-left : goal.plus-requires-clause-left
plus-requires-clause-left c =
    let row : ℕ → _ = λ i. row_alike c.args.window.now c.args.width c.args.reach (c.args.x + i) c.args.a c.args.b in
    let size : (i : ℕ) → unsigned_abs (row i) ≤ 2000000000000 = λ i. row-alike-size c.args.window.now c.args.width c.args.reach (c.args.x + i) c.args.a c.args.b c.requires.values in
    each-bits IsPart c.alike_in_row-values.result row c.alike_in_row-values.ensures (λ i. let s = size i in omega arith) (λ i. let s = size i in omega arith)

pub plus-requires-clause-right : goal.plus-requires-clause-right
plus-requires-clause-right c =
    let across = 2 * c.args.reach - c.args.a in
    let row : ℕ → _ = λ i. row_alike c.args.window.now c.args.width c.args.reach (c.args.x + i) across c.args.b in
    let size : (i : ℕ) → unsigned_abs (row i) ≤ 2000000000000 = λ i. row-alike-size c.args.window.now c.args.width c.args.reach (c.args.x + i) across c.args.b c.requires.values in
    each-bits IsPart c.alike_in_row.result row c.alike_in_row.ensures (λ i. let s = size i in omega arith) (λ i. let s = size i in omega arith)

pub returns : goal.returns
returns c =
    let a = c.args.a in
    let r = c.args.reach in
    let row : ℕ → ℕ → _ = λ i k. row_alike c.args.window.now c.args.width r (c.args.x + i) k c.args.b in
    let row-size : (i k : ℕ) → unsigned_abs (row i k) ≤ 2000000000000 = λ i k. row-alike-size c.args.window.now c.args.width r (c.args.x + i) k c.args.b c.requires.values in
    let all : ℕ → _ = λ i. alike c.args.window.now c.args.width r (c.args.x + i) a c.args.b in
    let size : (i : ℕ) → unsigned_abs (all i) ≤ 4000000000000 = λ i. alike-size c.args.window.now c.args.width r (c.args.x + i) a c.args.b c.requires.values in
    let own = two-back c.alike_in_row-values.result (λ i. row i a) c.alike_in_row-values.ensures (λ i. let s = row-size i a in omega arith) in
    elim c.if-a-reach.branch [
      | then-a-reach w ↦ ap (map (to_z w64)) w.result-is
          ∙ added _ _ w.plus.result (λ i. row i a) (λ i. row i (2 * r - a)) all own
          (two-back w.alike_in_row.result (λ i. row i (2 * r - a)) w.alike_in_row.ensures (λ i. let s = row-size i (2 * r - a) in omega arith))
          (λ i. sym (both-before r (row i) a w.if-a-reach.true)) (λ i. let s = size i in omega arith) w.plus.ensures
      | else-a-reach w ↦ ap (map (to_z w64)) w.result-is
          ∙ (own ∙ two-same (λ i. row i a) all (λ i. sym (both-middle r (row i) a w.if-a-reach.false)))
    ]
