-- How many cells lie before a part, where the cells' parts form a row: they are the first ones, so the count is the
-- first cell of the part.
use Rattle.std.proofs.Common.{◌≡◌, ◌↔◌, ℕ, zero, suc, ◌+◌, ◌<◌, ◌≤◌, nat_lt, count_by, refl, sym, subst, arith, inl, inr}
use Rattle.std.specs.List.{range_with_len}
use Rattle.std.proofs.lemmas.Bool.{cases_lt, cases_order, lt-ltb, le-ltb}
use Rattle.std.proofs.lemmas.List.Sums.{sum_by-cons}
use Rattle.part_geometry.proofs.Rows.{IsRow, row-le, row-below, row-all}
use Rattle.part_tables.specs.Parts.{cells_before}

-- where no cell of a range lies before a part, the count is 0
count-none : (f : ℕ → ℕ) (v n a : ℕ) → ((c : ℕ) → a ≤ c → c < a + n → v ≤ f c) → count_by (λ c. nat_lt (f c) v) (range_with_len a n) ≡ 0
count-none f v zero a behind = refl
count-none f v (suc n) a behind =
    let rest = count-none f v n (a + 1) (λ c low high. behind c (omega arith) (omega arith)) in
    rw (sum_by-cons, le-ltb (f a) v (behind a (omega arith) (omega arith)), rest) refl

-- where the first k cells of a range lie before a part and the others don't, the count is k
count-first : (f : ℕ → ℕ) (v n a k : ℕ) → k ≤ n → ((c : ℕ) → a ≤ c → c < a + k → f c < v) → ((c : ℕ) → a + k ≤ c → c < a + n → v ≤ f c)
    → count_by (λ c. nat_lt (f c) v) (range_with_len a n) ≡ k
count-first f v n a zero few before behind = count-none f v n a (λ c low high. behind c (omega arith) high)
count-first f v zero a (suc k) few before behind = absurd (omega arith)
count-first f v (suc n) a (suc k) few before behind =
    let rest = count-first f v n (a + 1) k (omega arith) (λ c low high. before c (omega arith) (omega arith)) (λ c low high. behind c (omega arith) (omega arith)) in
    rw (sum_by-cons, lt-ltb (f a) v (before a (omega arith) (omega arith)), rest) (omega arith)

-- of n cells the first k lie before part v, and no others
pub record IsFront (f : ℕ → ℕ) (n v k : ℕ) : Type 0 where
  pub few : k ≤ n
  pub before : (c : ℕ) → c < k → f c < v
  pub behind : (c : ℕ) → k ≤ c → c < n → v ≤ f c

-- then k is the number of cells before the part
pub cells_before-is : (f : ℕ → ℕ) (n v k : ℕ) → IsFront f n v k → cells_before f n v ≡ k
cells_before-is f n v k front =
    count-first f v n 0 k front.few (λ c low high. front.before c (omega arith)) (λ c low high. front.behind c (omega arith) (omega arith))

-- in a row, the cells before a part are the first k, for some k
some_front : (f : ℕ → ℕ) (n count : ℕ) → IsRow f n count → (v m : ℕ) → m ≤ n → (k : ℕ) × IsFront f m v k
some_front f n count row v zero few = (0, record { few = omega arith; before = λ c h. absurd (omega arith); behind = λ c low high. absurd (omega arith) })
some_front f n count row v (suc m) few =
    elim (cases_lt (f m) v) [
      | inl below ↦ (
        suc m,
        record {
          few = omega arith;
          before = λ c h. (let up = row-le f n count row c m (omega arith) (omega arith) in omega arith);
          behind = λ c low high. absurd (omega arith);
        },
      )
      | inr above ↦
          let h = some_front f n count row v m (omega arith) in
          let front = h.1 in (
            h.0,
            record {
              few = (let z = front.few in omega arith);
              before = front.before;
              behind = λ c low high. elim (cases_order c m) [
                | inl same ↦ rw same above
                | inr other ↦ elim other [ inl less ↦ front.behind c low less | inr more ↦ absurd (omega arith) ]
              ];
            },
          )
    ]

-- and that k is their number
pub is_front : (f : ℕ → ℕ) (n count : ℕ) → IsRow f n count → (v : ℕ) → IsFront f n v (cells_before f n v)
is_front f n count row v =
    let h = some_front f n count row v n (omega arith) in
    subst (IsFront f n v) (sym (cells_before-is f n v h.0 h.1)) h.1

-- in a row, the cells of a part are those from as many as lie before it up to as many as lie before the next part
pub in_part : (f : ℕ → ℕ) (n count : ℕ) → IsRow f n count → (p c : ℕ) → c < n
    → (f c ≡ p) ↔ ((cells_before f n p ≤ c) × (c < cells_before f n (p + 1)))
in_part f n count row p c inside =
    let here = is_front f n count row p in
    let next = is_front f n count row (p + 1) in (
      (λ is. (
        elim (cases_lt c (cells_before f n p)) [ inl h ↦ let z = here.before c h in absurd (omega arith) | inr h ↦ h ],
        elim (cases_lt c (cells_before f n (p + 1))) [ inl h ↦ h | inr h ↦ let z = next.behind c h inside in absurd (omega arith) ],
      )),
      (λ both. let low = here.behind c both.0 inside in let high = next.before c both.1 in omega arith),
    )

-- no cell lies before part 0
pub before-none : (f : ℕ → ℕ) (n : ℕ) → cells_before f n 0 ≡ 0
before-none f n = cells_before-is f n 0 0 (record { few = omega arith; before = λ c h. absurd (omega arith); behind = λ c low high. omega arith })

-- all cells lie before the number of parts
pub before-all : (f : ℕ → ℕ) (n count : ℕ) → IsRow f n count → cells_before f n count ≡ n
before-all f n count row =
    cells_before-is f n count n (record { few = omega arith; before = λ c h. row-below f n count row c h; behind = λ c low high. absurd (omega arith) })

-- no more cells lie before a part than there are
pub before-le : (f : ℕ → ℕ) (n count : ℕ) → IsRow f n count → (p : ℕ) → cells_before f n p ≤ n
before-le f n count row p = (is_front f n count row p).few

-- no fewer cells lie before a later part
pub before-mono : (f : ℕ → ℕ) (n count : ℕ) → IsRow f n count → (p q : ℕ) → p ≤ q → cells_before f n p ≤ cells_before f n q
before-mono f n count row p q order =
    let low = is_front f n count row p in
    let high = is_front f n count row q in
    let c = cells_before f n q in
    elim (cases_lt c (cells_before f n p)) [
      | inl h ↦ let few = low.few in let a = low.before c h in let b = high.behind c (omega arith) (omega arith) in absurd (omega arith)
      | inr h ↦ h
    ]

-- each part has a cell
pub before-rises : (f : ℕ → ℕ) (n count : ℕ) → IsRow f n count → (p : ℕ) → p < count → cells_before f n p < cells_before f n (p + 1)
before-rises f n count row p inside =
    let c = row-all f n count row p inside in
    let h = (in_part f n count row p c.0 c.1).0 c.2 in
    let low = h.0 in let high = h.1 in omega arith

-- and the first of them is its first cell
pub before-first : (f : ℕ → ℕ) (n count : ℕ) → IsRow f n count → (p : ℕ) → p < count → f (cells_before f n p) ≡ p
before-first f n count row p inside =
    let rise = before-rises f n count row p inside in
    let few = before-le f n count row (p + 1) in
    (in_part f n count row p (cells_before f n p) (omega arith)).1 (omega arith, rise)
