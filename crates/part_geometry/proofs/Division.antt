-- The pieces are the one division of the cells by the rule. Both halves go over the cells, one by one, with what is
-- known of the run that is open: none of its cells closes it so far.
use Rattle.std.proofs.Common.{◌≡◌, ℕ, zero, suc, ◌+◌, ◌<◌, ◌≤◌, true, false, cond, List, [], ◌∷◌, refl, ◌∙◌, arith, inl, inr}
use Rattle.std.proofs.lemmas.Bool.{cases_order, both_ways, or_right, eq-eqb}
use Rattle.part_geometry.specs.Shape.{Shape}
use Rattle.part_geometry.specs.Cells.{cells}
use Rattle.part_geometry.specs.Pieces.{Run, closes, IsDivisionFrom, IsTheDivision, runs_from, pieces_of}

-- a run is open from cell f on, up to cell c, and n cells are left
pub record IsOpen (g : Shape) (f c n : ℕ) : Type 0 where
  pub left : c + n ≡ cells g
  pub before : f ≤ c
  pub unclosed : (x : ℕ) → f ≤ x → x < c → closes g f x ≡ false
  pub whole : n ≡ 0 → f ≡ c

-- the last cell closes any run
pub last_closes : (g : Shape) (f c : ℕ) → c + 1 ≡ cells g → closes g f c ≡ true
last_closes g f c last = or_right _ _ (eq-eqb _ _ last)

-- behind cell c, the last of its run, a new run is open that begins with the next cell
pub after_close : (g : Shape) (f c n : ℕ) → IsOpen g f c (suc n) → IsOpen g (c + 1) (c + 1) n
after_close g f c n h = record {
  left = (let e = h.left in omega arith);
  before = omega arith;
  unclosed = λ x low high. absurd (omega arith);
  whole = λ e. refl;
}

-- behind a cell that doesn't close the run, the run is still open
pub after_open : (g : Shape) (f c n : ℕ) → IsOpen g f c (suc n) → closes g f c ≡ false → IsOpen g f (c + 1) n
after_open g f c n h unclosed = record {
  left = (let e = h.left in omega arith);
  before = (let e = h.before in omega arith);
  unclosed = λ x low high. elim (cases_order x c) [
    | inl same ↦ rw same unclosed
    | inr other ↦ elim other [ inl below ↦ h.unclosed x low below | inr above ↦ absurd (omega arith) ]
  ];
  whole = λ e. absurd (both_ways _ unclosed (last_closes g f c (let l = h.left in omega arith)));
}

-- the runs that are made from there on divide the cells from the first of the open run on
pub divides_from : (g : Shape) (n f c : ℕ) → IsOpen g f c n → IsDivisionFrom g f (runs_from g f c n)
unfolding runs_from
divides_from g zero f c h = h.whole refl ∙ (let e = h.left in omega arith)
divides_from g (suc n) f c h =
    elim (closes g f c) as (λ b. closes g f c ≡ b → IsDivisionFrom g f (cond b ((f, c) ∷ runs_from g (c + 1) (c + 1) n) (runs_from g f (c + 1) n))) [
      | true ↦ λ e. (
        record {
          first = refl;
          ordered = h.before;
          inside = (let l = h.left in omega arith);
          closed = e;
          open_before = h.unclosed;
        },
        divides_from g n (c + 1) (c + 1) (after_close g f c n h),
      )
      | false ↦ λ e. divides_from g n f (c + 1) (after_open g f c n h e)
    ] refl

-- any division of these cells is that one
pub only_from : (g : Shape) (n f c : ℕ) (runs : List Run) → IsOpen g f c n → IsDivisionFrom g f runs → runs ≡ runs_from g f c n
unfolding runs_from
only_from g zero f c [] h d = refl
only_from g zero f c (run ∷ runs) h d =
    let e = h.whole refl in let l = h.left in let o = d.0.ordered in let i = d.0.inside in absurd (omega arith)
only_from g (suc n) f c [] h d = let l = h.left in let b = h.before in absurd (omega arith)
only_from g (suc n) f c (run ∷ runs) h d =
    let r = d.0 in
    elim (closes g f c) as (λ b. closes g f c ≡ b → run ∷ runs ≡ cond b ((f, c) ∷ runs_from g (c + 1) (c + 1) n) (runs_from g f (c + 1) n)) [
      | true ↦ λ e.
          let ends : run.1 ≡ c = elim (cases_order run.1 c) [
            | inl same ↦ same
            | inr other ↦ elim other [
              | inl below ↦ absurd (both_ways _ (h.unclosed run.1 r.ordered below) r.closed)
              | inr above ↦ absurd (both_ways _ (r.open_before c h.before above) e)
            ]
          ] in
          let rest : runs ≡ runs_from g (c + 1) (c + 1) n = only_from g n (c + 1) (c + 1) runs (after_close g f c n h) (rw (← ends) d.1) in
          let head : run ≡ (f, c) = λ i. (r.first i, ends i) in
          λ i. head i ∷ rest i
      | false ↦ λ e. only_from g n f (c + 1) (run ∷ runs) (after_open g f c n h e) d
    ] refl

all_open : (g : Shape) → IsOpen g 0 0 (cells g)
all_open g = record {
  left = omega arith;
  before = omega arith;
  unclosed = λ x low high. absurd (omega arith);
  whole = λ e. refl;
}

-- the list of pieces divides the cells by the rule, and is the only list that does
pub the_division : (g : Shape) → IsTheDivision g
unfolding pieces_of
the_division g = record {
  divides = divides_from g (cells g) 0 0 (all_open g);
  only = λ runs d. only_from g (cells g) 0 0 runs (all_open g) d;
}
