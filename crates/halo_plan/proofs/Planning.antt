-- Where the blocks lie, and how many values an edge has. A quotient grows by n at least where its numerator grows by n
-- times its divisor.
use Rattle.std.proofs.Common.{◌≡◌, ◌∙◌, refl, sym, subst, ℕ, ◌+◌, ◌*◌, ◌/◌, ◌<◌, ◌≤◌, true, false, arith, inl, inr}
use Rattle.std.specs.Prelude.{◌⊎◌}
use Rattle.std.proofs.lemmas.Bool.{cases_lt, false≢true}
use Rattle.std.proofs.lemmas.Bool.Decides.{nat_tests}
use Rattle.std.proofs.lemmas.Nat.{mul-le, div-add-mod', le-div}
use Rattle.part_geometry.specs.Shape.{IsWithin}
use Rattle.stencil_def.specs.Limits.{IsSide}
use Rattle.halo_message.specs.declared.TheConstants.{MAX_VALUES}
use Rattle.halo_message.specs.Message.{Message}
use Rattle.halo_plan.specs.Kept.{IsKept}
use Rattle.halo_plan.specs.Plan.{IsPlan, Plan, first_row, message_of}
use Rattle.halo_plan.specs.Making.{needs_more}

-- two ranks or more have rows enough
pub fits-from : (rows ranks reach : ℕ) → needs_more rows ranks reach ≡ false → (ranks ≤ 1) ⊎ (ranks * reach ≤ rows)
fits-from rows ranks reach fine =
    elim (cases_lt 1 ranks) [
      | inl two ↦ elim (cases_lt rows (ranks * reach)) [
        | inl less ↦ absurd (let all : needs_more rows ranks reach ≡ true = grind (arith, nat_tests) in false≢true (sym fine ∙ all))
        | inr more ↦ inr more
      ]
      | inr one ↦ inl one
    ]

-- ---- blocks

-- a rank's first row is a row of the grid, or the one behind its last
pub row-inside : (i rows ranks : ℕ) → i ≤ ranks → 0 < ranks → i * rows / ranks ≤ rows
row-inside i rows ranks few some =
    let m = mul-le i rows ranks rows few (omega arith) in
    let d = div-add-mod' (i * rows) ranks in
    elim (cases_lt rows (i * rows / ranks)) [
      | inl more ↦ let n = mul-le (rows + 1) ranks (i * rows / ranks) ranks (omega arith) (omega arith) in absurd (omega (arith, m, n, d))
      | inr fine ↦ fine
    ]

-- a block has n rows where all blocks together have n rows each
pub block-has : (i rows ranks n : ℕ) → 0 < ranks → ranks * n ≤ rows → i * rows / ranks + n ≤ (i + 1) * rows / ranks
block-has i rows ranks n some enough =
    let a = i * rows / ranks in
    let d = div-add-mod' (i * rows) ranks in
    let e : (a + n) * ranks ≡ a * ranks + ranks * n = omega arith in
    let f : (i + 1) * rows ≡ i * rows + rows = omega arith in
    le-div (a + n) ((i + 1) * rows) ranks some (omega (arith, d, e, f))

-- each rank has a row at least
pub block-some : (p : Plan) (i : ℕ) → IsPlan p → first_row p i < first_row p (i + 1)
block-some p i s =
    let ranks = s.ranks in let rows = s.rows in let reach = s.reach in
    let one : p.ranks * 1 ≤ p.rows =
    elim s.fit [
      | inl few ↦ omega arith
      | inr more ↦ let m = mul-le p.ranks 1 p.ranks p.reach (omega arith) reach.0 in omega arith
    ] in
    let h = block-has i p.rows p.ranks 1 (omega arith) one in
    omega arith

-- with two ranks or more, each has as many as the weights reach
pub block-enough : (p : Plan) (i : ℕ) → IsPlan p → 2 ≤ p.ranks → first_row p i + p.reach ≤ first_row p (i + 1)
block-enough p i s two =
    let many : p.ranks * p.reach ≤ p.rows = elim s.fit [ inl few ↦ absurd (omega arith) | inr more ↦ more ] in
    block-has i p.rows p.ranks p.reach (omega arith) many

-- ---- the message

-- the rows of an edge have as many values as a message may have
pub few-values : (reach cols : ℕ) → IsWithin 1 2 reach → IsSide cols → IsWithin 1 MAX_VALUES (reach * cols)
few-values reach cols near side =
    let least = mul-le 1 1 reach cols near.0 side.0 in
    let most = mul-le reach cols 2 4096 near.1 side.1 in
    (omega arith, omega arith)

-- its message makes what is kept of a plan
pub kept : (p : Plan) (m : Message) → IsPlan p → m ≡ message_of p → IsKept record { rows = p.rows; cols = p.cols; ranks = p.ranks; reach = p.reach; around = p.around; message = m }
kept p m s same =
    subst (λ k. IsKept record { rows = p.rows; cols = p.cols; ranks = p.ranks; reach = p.reach; around = p.around; message = k }) (sym same)
    (record { limits = s; message = refl })
