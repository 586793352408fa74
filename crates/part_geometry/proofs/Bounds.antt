-- The bounds one after another: each is the next multiple of either size after the one before.
use Rattle.std.proofs.Common.{◌≡◌, ◌⊎◌, ℕ, zero, suc, add-zero, ◌+◌, ◌-◌, ◌*◌, ◌/◌, ◌<◌, ◌≤◌, true, false, List, [], ◌∷◌, filter, length, drop, get_or, refl, add-one, ap, sym, ◌∙◌, arith, min, inl, inr}
use Rattle.std.specs.List.{range_with_len}
use Rattle.std.proofs.lemmas.Bool.{cases_lt, eq-eqb, or_from, or_left, or_right}
use Rattle.std.proofs.Math.Nat.{zero-mod}
use Rattle.std.proofs.lemmas.Nat.{mul-le}
use Rattle.std.proofs.lemmas.List.{get_or-drop, length-drop, drop-drop}
use Rattle.part_geometry.specs.Shape.{Shape, IsShape, send_total}
use Rattle.part_geometry.specs.Cells.{is_bound, bounds, cells, start, end}
use Rattle.part_geometry.proofs.Multiples.{none_between, next_above, next_within, is_multiple, filter-skip, filter-keep}

-- the next bound after a place
abbrev pub next_bound : Shape → ℕ → ℕ
next_bound g x = min ((x / g.send_bytes + 1) * g.send_bytes) ((x / g.recv_bytes + 1) * g.recv_bytes)

-- the bounds from a place on
abbrev pub bounds_from : Shape → ℕ → List ℕ
bounds_from g x = filter (is_bound g) (range_with_len x (send_total g + 1 - x))

-- the next bound is behind the place
pub next_bound-above : (g : Shape) (v : IsShape g) (x : ℕ) → x < next_bound g x
next_bound-above g v x =
    let s = next_above x g.send_bytes (omega (arith, v.send_bytes.0)) in
    let r = next_above x g.recv_bytes (omega (arith, v.recv_bytes.0)) in
    omega arith

-- from a place before the end of the message, the next bound is not behind that end
pub next_bound-within : (g : Shape) (v : IsShape g) (x : ℕ) → x < send_total g → next_bound g x ≤ send_total g
next_bound-within g v x below =
    let s = next_within x g.send_bytes g.send_parts (omega (arith, v.send_bytes.0)) below in
    omega arith

-- no bound lies between a place and its next bound
pub next_bound-none : (g : Shape) (v : IsShape g) (x z : ℕ) → x < z → z < next_bound g x → is_bound g z ≡ false
next_bound-none g v x z above below =
    or_from _ _ (none_between x z g.send_bytes (omega (arith, v.send_bytes.0)) above (omega arith))
    (none_between x z g.recv_bytes (omega (arith, v.recv_bytes.0)) above (omega arith))

min_cases : (a b : ℕ) → (min a b ≡ a) ⊎ (min a b ≡ b)
min_cases a b = elim (cases_lt a b) [ inl h ↦ inl (omega arith) | inr h ↦ inr (omega arith) ]

-- the next bound is a bound
pub next_bound-is_bound : (g : Shape) (x : ℕ) → is_bound g (next_bound g x) ≡ true
next_bound-is_bound g x =
    let s = (x / g.send_bytes + 1) * g.send_bytes in
    let r = (x / g.recv_bytes + 1) * g.recv_bytes in
    elim (min_cases s r) [
      | inl h ↦ rw h (or_left _ _ (is_multiple (x / g.send_bytes + 1) g.send_bytes))
      | inr h ↦ rw h (or_right _ _ (is_multiple (x / g.recv_bytes + 1) g.recv_bytes))
    ]

-- the bounds from a bound before the end on are that bound, and then those from the next one on
pub bounds_from-next : (g : Shape) (v : IsShape g) (x : ℕ) → is_bound g x ≡ true → x < send_total g
    → bounds_from g x ≡ x ∷ bounds_from g (next_bound g x)
bounds_from-next g v x here below =
    let y = next_bound g x in
    let above = next_bound-above g v x in
    let within = next_bound-within g v x below in
    let length_is : send_total g + 1 - x ≡ suc (send_total g - x) = omega arith in
    let parts : send_total g - x ≡ (y - (x + 1)) + (send_total g + 1 - y) = omega arith in
    let lands : x + 1 + (y - (x + 1)) ≡ y = omega arith in
    let skipped = filter-skip (is_bound g) (y - (x + 1)) (x + 1) (send_total g + 1 - y) (λ z low high. next_bound-none g v x z (omega arith) (omega arith)) in
    rw (length_is, filter-keep (is_bound g) x (send_total g - x) here, parts, skipped, lands) refl

-- from the end of the message on there is no bound but the end
pub bounds_from-last : (g : Shape) → is_bound g (send_total g) ≡ true → bounds_from g (send_total g) ≡ send_total g ∷ []
bounds_from-last g here =
    let length_is : send_total g + 1 - send_total g ≡ 1 = omega arith in
    rw (length_is, filter-keep (is_bound g) (send_total g) 0 here) refl

-- what is left of a list of bounds begins with the place that it is from
pub bounds_from-head : (g : Shape) (x : ℕ) → is_bound g x ≡ true → x ≤ send_total g → get_or (bounds_from g x) 0 0 ≡ x
bounds_from-head g x here within =
    let length_is : send_total g + 1 - x ≡ suc (send_total g - x) = omega arith in
    rw (length_is, filter-keep (is_bound g) x (send_total g - x) here) refl

-- cell c starts at a bound, behind which the other bounds are left
pub record IsAt (g : Shape) (c : ℕ) : Type 0 where
  pub left : drop c (bounds g) ≡ bounds_from g (start g c)
  pub within : start g c ≤ send_total g
  pub bound : is_bound g (start g c) ≡ true

-- if x is a bound and what is left of the list behind its first c is the bounds from x on, then cell c starts at x
at_from : (g : Shape) (c x : ℕ) → drop c (bounds g) ≡ bounds_from g x → x ≤ send_total g → is_bound g x ≡ true → (start g c ≡ x) × IsAt g c
unfolding start
at_from g c x left within bound =
    let e : get_or (bounds g) c 0 ≡ x = sym (get_or-drop c (bounds g) 0 0 ∙ ap (λ n. get_or (bounds g) n 0) (let z : c + 0 ≡ c = omega arith in z)) ∙ ap (λ xs. get_or xs 0 0) left ∙ bounds_from-head g x bound within in
    (e, record { left = rw e left; within = rw e within; bound = rw e bound })

-- the first cell starts at place 0, with all bounds left
first_at : (g : Shape) → (start g 0 ≡ 0) × IsAt g 0
unfolding bounds
first_at g =
    let e : send_total g + 1 - 0 ≡ send_total g + 1 = omega arith in
    at_from g 0 0 (rw e refl) (omega arith) (or_left _ _ (eq-eqb _ _ (zero-mod g.send_bytes)))

-- the next cell starts at the next bound, with the bounds from there on left
next_at : (g : Shape) (v : IsShape g) (c : ℕ) → IsAt g c → start g c < send_total g → (start g (c + 1) ≡ next_bound g (start g c)) × IsAt g (c + 1)
next_at g v c at below =
    let e : drop (c + 1) (bounds g) ≡ bounds_from g (next_bound g (start g c)) =
    sym (drop-drop 1 c (bounds g)) ∙ ap (drop 1) (at.left ∙ bounds_from-next g v (start g c) at.bound below) in
    at_from g (c + 1) (next_bound g (start g c)) e (next_bound-within g v _ below) (next_bound-is_bound g _)

-- a cell starts before the end of the message, since two bounds at least are left there, and at the end only one is
before_last : (g : Shape) (c : ℕ) → c < cells g → IsAt g c → start g c < send_total g
unfolding cells
before_last g c inside at =
    elim (cases_lt (start g c) (send_total g)) [
      | inl h ↦ h
      | inr h ↦
          let same : start g c ≡ send_total g = (let w = at.within in omega arith) in
          let one : drop c (bounds g) ≡ send_total g ∷ [] = at.left ∙ rw same (bounds_from-last g (rw (← same) at.bound)) in
          let n = length-drop c (bounds g) in
          let m : length (drop c (bounds g)) ≡ 1 = ap length one in
          absurd (omega arith)
    ]

-- each cell, and the number behind the last, starts at a bound, with the bounds from there on left
pub is_at : (g : Shape) (v : IsShape g) (c : ℕ) → c ≤ cells g → IsAt g c
is_at g v zero inside = (first_at g).1
is_at g v (suc c) inside =
    let before = is_at g v c (omega arith) in
    rw add-one at (next_at g v c before (before_last g c (omega arith) before)).1

-- the first cell starts at place 0
pub start-zero : (g : Shape) → start g 0 ≡ 0
start-zero g = (first_at g).0

-- each cell starts before the end of the message
pub start-below : (g : Shape) (v : IsShape g) (c : ℕ) → c < cells g → start g c < send_total g
start-below g v c inside = before_last g c inside (is_at g v c (omega arith))

-- no cell, nor the number behind the last, starts behind the end of the message
pub start-within : (g : Shape) (v : IsShape g) (c : ℕ) → c ≤ cells g → start g c ≤ send_total g
start-within g v c inside = (is_at g v c inside).within

-- the next cell starts at the next bound
pub start-next : (g : Shape) (v : IsShape g) (c : ℕ) → c < cells g → start g (c + 1) ≡ next_bound g (start g c)
start-next g v c inside = (next_at g v c (is_at g v c (omega arith)) (start-below g v c inside)).0

-- each cell starts before the next one does
pub start-rises : (g : Shape) (v : IsShape g) (c : ℕ) → c < cells g → start g c < start g (c + 1)
start-rises g v c inside = rw (start-next g v c inside) (next_bound-above g v (start g c))

some_left : (g : Shape) (x : ℕ) → is_bound g x ≡ true → x ≤ send_total g → 1 ≤ length (bounds_from g x)
some_left g x here within =
    let length_is : send_total g + 1 - x ≡ suc (send_total g - x) = omega arith in
    rw (length_is, filter-keep (is_bound g) x (send_total g - x) here) (omega arith)

-- behind the last cell the start is the end of the message
pub start-last : (g : Shape) (v : IsShape g) → start g (cells g) ≡ send_total g
unfolding cells
start-last g v =
    let at = is_at g v (cells g) (omega arith) in
    elim (cases_lt (start g (cells g)) (send_total g)) [
      | inl below ↦
          let x = start g (cells g) in
          let left = length-drop (cells g) (bounds g) in
          let more : length (drop (cells g) (bounds g)) ≡ suc (length (bounds_from g (next_bound g x))) = ap length (at.left ∙ bounds_from-next g v x at.bound below) in
          let some = some_left g (next_bound g x) (next_bound-is_bound g x) (next_bound-within g v x below) in
          absurd (omega arith)
      | inr h ↦ let w = at.within in omega arith
    ]

-- a message has at least one cell
pub cells-pos : (g : Shape) (v : IsShape g) → 0 < cells g
cells-pos g v =
    let last = start-last g v in let first = start-zero g in
    let p = v.send_parts.0 in let s = v.send_bytes.0 in
    let some : 1 * 1 ≤ g.send_parts * g.send_bytes = mul-le 1 1 g.send_parts g.send_bytes p s in
    elim (cases_lt 0 (cells g)) [
      | inl h ↦ h
      | inr h ↦
          let none : cells g ≡ 0 = omega arith in
          let e : start g (cells g) ≡ start g 0 = ap (start g) none in absurd (omega arith)
    ]

-- the start of a cell k further on is at least k bytes further on
pub start-mono : (g : Shape) (v : IsShape g) (c k : ℕ) → c + k ≤ cells g → start g c + k ≤ start g (c + k)
start-mono g v c zero inside = rw (add-zero, add-zero) (omega arith)
start-mono g v c (suc k) inside =
    let before = start-mono g v c k (omega arith) in
    let step = start-rises g v (c + k) (omega arith) in
    let e : c + suc k ≡ c + k + 1 = omega arith in
    rw e (omega arith)

-- a message has no more cells than bytes
pub cells-le : (g : Shape) (v : IsShape g) → cells g ≤ send_total g
cells-le g v =
    let all = start-mono g v 0 (cells g) (omega arith) in
    let e : 0 + cells g ≡ cells g = omega arith in
    let whole : start g (0 + cells g) ≡ send_total g = ap (start g) e ∙ start-last g v in
    omega arith

-- the end of a cell is the start of the next
pub end-start : (g : Shape) (c : ℕ) → end g c ≡ start g (c + 1)
unfolding end start
end-start g c = refl
