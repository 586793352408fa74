-- Slots by place and cell: the slots of cells in a row stand in a row, and no others do.
use Rattle.std.proofs.Common.{◌≡◌, ◌⊎◌, inl, inr, ℕ, zero, suc, ◌+◌, ◌-◌, ◌*◌, ◌<◌, ◌≤◌, Bool, true, false, ◌==◌, ◌&&◌, List, [], ◌∷◌, length, refl, sym, ap, ◌∙◌, subst, arith}
use Rattle.std.specs.Prelude.{if◌then◌else◌}
use Rattle.std.specs.List.{range_with_len}
use Rattle.std.proofs.lemmas.Bool.{cases_lt, eq-eqb, eqb-true}
use Rattle.std.proofs.Math.Nat.{mul-le-mul_right}
use mathlib.Core.Logic.{dite}
use native.Mathlib.Decide.{ℕ_discrete}
use Rattle.part_geometry.specs.Shape.{Shape, IsShape}
use Rattle.part_geometry.specs.Cells.{cells, send_of, recv_of}
use Rattle.part_tables.specs.Parts.{first_received}
use Rattle.part_tables.specs.Bytes.{cell_bytes, part_bytes}
use Rattle.part_tables.proofs.Facts.{received-row, cell_bytes-agree, first_received-le, in_received}
use Rattle.pair_core.specs.Core.{Slot}
use Rattle.pair_core.specs.Steps.{put_slots}
use Rattle.slot_rows.specs.Lists.{Every}
use Rattle.pair_rule.specs.Rule.{slot_number, slot_row}

-- cell c at place e is one of the n cells from f on at place d
abbrev pub IsAmong : ℕ → ℕ → ℕ → ℕ → ℕ → Type 0
IsAmong d f n e c = (e ≡ d) × (f ≤ c) × (c < f + n)

-- it is, or it isn't
pub among : (d f n e c : ℕ) → IsAmong d f n e c ⊎ ¬ IsAmong d f n e c
among d f n e c = dite (ℕ_discrete e d)
    (λ same. elim (cases_lt c f) [
      | inl low ↦ inr (λ all. let h = all.1 in omega arith)
      | inr high ↦ elim (cases_lt c (f + n)) [
        | inl inside ↦ inl (same, omega arith, inside)
        | inr behind ↦ inr (λ all. let h = all.2 in omega arith)
      ]
    ])
    (λ other. inr (λ all. other all.0))

-- where its slot stands
pub number_in : (g : Shape) (d f n e c : ℕ) → IsAmong d f n e c → (slot_number g d f ≤ slot_number g e c) × (slot_number g e c < slot_number g d f + n)
number_in g d f n e c all =
    let same : e * slot_row g ≡ d * slot_row g = ap (λ (z : ℕ). z * slot_row g) all.0 in let low = all.1 in let high = all.2 in (omega arith, omega arith)

pub number_out : (g : Shape) (d f n e c : ℕ) → c < cells g → f + n ≤ cells g → ¬ IsAmong d f n e c → (slot_number g e c < slot_number g d f) ⊎ (slot_number g d f + n ≤ slot_number g e c)
number_out g d f n e c inside fits not = elim (cases_lt e d) [
  | inl before ↦ let h = mul-le-mul_right {m = e + 1} {n = d} (slot_row g) (omega arith) in inl (omega (arith, h))
  | inr not_before ↦ elim (cases_lt d e) [
    | inl behind ↦ let h = mul-le-mul_right {m = d + 1} {n = e} (slot_row g) (omega arith) in inr (omega (arith, h))
    | inr not_behind ↦
        let same : e ≡ d = omega arith in let rows : e * slot_row g ≡ d * slot_row g = ap (λ (z : ℕ). z * slot_row g) same in
        elim (cases_lt c f) [
          | inl low ↦ inl (omega arith)
          | inr high ↦ elim (cases_lt c (f + n)) [
            | inl within ↦ absurd (not (same, omega arith, within))
            | inr far ↦ inr (omega arith)
          ]
        ]
  ]
]

-- what the slots of some cells at a place became, and the others
pub put_here : (slot : ℕ → ℕ → Slot) (d : ℕ) (these : ℕ → Bool) (x : Slot) (e c : ℕ) → e ≡ d → these c ≡ true → put_slots slot d these x e c ≡ x
put_here slot d these x e c same is =
    ap (λ (b : Bool). if b then x else slot e c) (λ i. eq-eqb e d same i && is i)

pub put_else : (slot : ℕ → ℕ → Slot) (d : ℕ) (these : ℕ → Bool) (x : Slot) (e c : ℕ) → ¬ ((e ≡ d) × (these c ≡ true)) → put_slots slot d these x e c ≡ slot e c
put_else slot d these x e c not = go (e == d) (these c) refl refl
  where
    go : (a b : Bool) → (e == d) ≡ a → these c ≡ b → put_slots slot d these x e c ≡ slot e c
    go true true p q = absurd (not (eqb-true e d p, q))
    go true false p q = ap (λ (z : Bool). if z then x else slot e c) (λ i. p i && q i)
    go false b p q = ap (λ (z : Bool). if z then x else slot e c) (λ i. p i && these c)

-- the same predicate on values, by the numbers of cells in place of those of slots
pub every_moved : {B : Type 0} (P Q : ℕ → B → Type 0) (base k : ℕ) (ys : List B) → ((j : ℕ) (y : B) → P (base + j) y → Q j y) → Every P (base + k) ys → Every Q k ys
every_moved P Q base k [] move all = tt
every_moved P Q base k (y ∷ ys) move all =
    let e : suc (base + k) ≡ base + suc k = omega arith in
    (move k y all.0, every_moved P Q base (suc k) ys move (subst (λ (z : ℕ). Every P z ys) e all.1))

pub every_back : {B : Type 0} (P Q : ℕ → B → Type 0) (base k : ℕ) (ys : List B) → ((j : ℕ) (y : B) → k ≤ j → j < k + length ys → Q j y → P (base + j) y) → Every Q k ys → Every P (base + k) ys
every_back P Q base k [] move all = tt
every_back P Q base k (y ∷ ys) move all =
    let e : base + suc k ≡ suc (base + k) = omega arith in
    (move k y (omega arith) (omega arith) all.0, subst (λ (z : ℕ). Every P z ys) e (every_back P Q base (suc k) ys (λ j x low high. move j x (omega arith) (omega arith)) all.1))

-- the bytes of a receive partition depend on the send partitions under it alone
pub part_bytes-agree : (g : Shape) → IsShape g → (marked others : ℕ → List ℕ) (q : ℕ) → q < g.recv_parts
    → ((c : ℕ) → c < cells g → recv_of g c ≡ q → marked (send_of g c) ≡ others (send_of g c)) → part_bytes g marked q ≡ part_bytes g others q
part_bytes-agree g v marked others q inside same =
    let first : ℕ = first_received g q in let count : ℕ = first_received g (q + 1) - first_received g q in
    let numbers : List ℕ = range_with_len first count in
    let size : length numbers ≡ count = length_range first count in
    let Each : ℕ → List ℕ → Type 0 = λ k xs. xs ≡ range_with_len k (length xs) in
    let all : Each first numbers = ap (range_with_len first) (sym size) in
    let whole : first_received g (q + 1) ≤ cells g = first_received-le g v (q + 1) in
    sym (received-row (cell_bytes g marked) g v marked q inside Each (λ k x xs low high e. let both = next_in k x xs e in (ap (cell_bytes g marked) both.0, both.1)) numbers size all)
    ∙ received-row (cell_bytes g marked) g v others q inside Each
    (λ k x xs low high e. let both = next_in k x xs e in
    let there : k < cells g = omega arith in
    let of : recv_of g k ≡ q = (in_received g v q k there).1 (low, high) in
    (ap (cell_bytes g marked) both.0 ∙ cell_bytes-agree g v marked others k there (same k there of), both.1))
    numbers size all
  where
    length_range : (k n : ℕ) → length (range_with_len k n) ≡ n
    length_range k zero = refl
    length_range k (suc n) = ap suc (length_range (k + 1) n)

    head : List ℕ → ℕ
    head [] = 0
    head (x ∷ xs) = x

    tail : List ℕ → List ℕ
    tail [] = []
    tail (x ∷ xs) = xs

    next_in : (k x : ℕ) (xs : List ℕ) → x ∷ xs ≡ range_with_len k (suc (length xs)) → (x ≡ k) × (xs ≡ range_with_len (suc k) (length xs))
    next_in k x xs e = let more : k + 1 ≡ suc k = omega arith in (ap head e, ap tail e ∙ ap (λ (z : ℕ). range_with_len z (length xs)) more)
