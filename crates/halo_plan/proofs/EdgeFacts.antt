-- The edges by number: edge e is between rank e / 2 and its neighbour, downward where e is even.
use Rattle.std.proofs.Common.{◌≡◌, ◌∙◌, refl, sym, ap, subst, ℕ, zero, suc, ◌+◌, ◌-◌, ◌*◌, ◌<◌, ◌≤◌, true, false, Some, List, [], ◌∷◌, ◌++◌, length, map, arith, inl, inr, length-append}
use Rattle.std.specs.Prelude.{◌==◌, slice_get, option_map, nat_le, if◌then◌else◌}
use Rattle.std.specs.List.{flat_map, range_with_len}
use Rattle.std.proofs.lemmas.Bool.{and_parts, leb-true, cases_Bool, cases_lt, cases_eq}
use Rattle.std.proofs.lemmas.Bool.Decides.{nat_tests}
use Rattle.std.proofs.lemmas.List.{length-map}
use Rattle.std.proofs.lemmas.List.FromFn.{length-range_with_len}
use Rattle.std.proofs.lemmas.Option.{slice_get-map}
use Rattle.halo_plan.specs.declared.edge.Edge.{Edge}
use Rattle.halo_plan.specs.Plan.{IsPlan, Plan, first_row}
use Rattle.halo_plan.specs.Edges.{between, edges, is_wrap, goes_round, neighbours}

-- two edges for each two neighbours
abbrev pub both : Plan → ℕ × ℕ → List Edge
both p n = between p n.0 n.1

-- as many as twice the neighbours
pub both-many : (p : Plan) (ns : List (ℕ × ℕ)) → length (flat_map (both p) ns) ≡ 2 * length ns
both-many p [] = refl
both-many p (n ∷ ns) = let more = both-many p ns in omega arith

-- the edge from rank i down to rank j, and the one back up
abbrev pub down : Plan → ℕ → ℕ → Edge
down p i j = record { from = i; to = j; row = first_row p (i + 1) - p.reach; tag = 1 }

abbrev pub up : Plan → ℕ → ℕ → Edge
up p i j = record { from = j; to = i; row = first_row p j; tag = 2 }

-- edge 2k goes down between the k-th neighbours
pub both-even : (p : Plan) (ns : List (ℕ × ℕ)) (k e : ℕ) (i j : ℕ) → e ≡ 2 * k → slice_get ns k ≡ Some (i, j)
    → slice_get (flat_map (both p) ns) e ≡ Some (down p i j)
both-even p [] k e i j is there = absurd cc
both-even p (n ∷ ns) zero zero i j is there = let same : n ≡ (i, j) = cc in subst (λ (m : ℕ × ℕ). Some (down p m.0 m.1) ≡ Some (down p i j)) (sym same) refl
both-even p (n ∷ ns) zero (suc e) i j is there = absurd (omega arith)
both-even p (n ∷ ns) (suc k) zero i j is there = absurd (omega arith)
both-even p (n ∷ ns) (suc k) (suc zero) i j is there = absurd (omega arith)
both-even p (n ∷ ns) (suc k) (suc (suc e)) i j is there = both-even p ns k e i j (omega arith) there

-- edge 2k + 1 goes up between them
pub both-odd : (p : Plan) (ns : List (ℕ × ℕ)) (k e : ℕ) (i j : ℕ) → e ≡ 2 * k + 1 → slice_get ns k ≡ Some (i, j)
    → slice_get (flat_map (both p) ns) e ≡ Some (up p i j)
both-odd p [] k e i j is there = absurd cc
both-odd p (n ∷ ns) zero zero i j is there = absurd (omega arith)
both-odd p (n ∷ ns) zero (suc zero) i j is there = let same : n ≡ (i, j) = cc in subst (λ (m : ℕ × ℕ). Some (up p m.0 m.1) ≡ Some (up p i j)) (sym same) refl
both-odd p (n ∷ ns) zero (suc (suc e)) i j is there = absurd (omega arith)
both-odd p (n ∷ ns) (suc k) zero i j is there = absurd (omega arith)
both-odd p (n ∷ ns) (suc k) (suc zero) i j is there = absurd (omega arith)
both-odd p (n ∷ ns) (suc k) (suc (suc e)) i j is there = both-odd p ns k e i j (omega arith) there

-- ---- neighbours

-- the number at place k of a range that begins at a
range-get : (a n k : ℕ) → k < n → slice_get (range_with_len a n) k ≡ Some (a + k)
range-get a zero k less = absurd (omega arith)
range-get a (suc n) zero less = let z : a ≡ a + 0 = omega arith in ap (λ (x : ℕ). Some x) z
range-get a (suc n) (suc k) less = range-get (a + 1) n k (omega arith) ∙ (let z : a + 1 + k ≡ a + suc k = omega arith in ap (λ (x : ℕ). Some x) z)

-- what stands at a place of the first of two lists
get-left : {X : Type 0} (xs ys : List X) (k : ℕ) → k < length xs → slice_get (xs ++ ys) k ≡ slice_get xs k
get-left [] ys k less = absurd (omega arith)
get-left (x ∷ xs) ys zero less = refl
get-left (x ∷ xs) ys (suc k) less = get-left xs ys k (omega arith)

-- what stands at place n of the second
get-right : {X : Type 0} (xs ys : List X) (k n : ℕ) → k ≡ length xs + n → slice_get (xs ++ ys) k ≡ slice_get ys n
get-right [] ys k n is = ap (slice_get ys) (let z : k ≡ n = omega arith in z)
get-right (x ∷ xs) ys zero n is = absurd (omega arith)
get-right (x ∷ xs) ys (suc k) n is = get-right xs ys k n (omega arith)

-- rows go round where there are two ranks at least
pub round-two : (p : Plan) → goes_round p ≡ true → 2 ≤ p.ranks
round-two p round = leb-true 2 p.ranks (and_parts (nat_le 2 p.ranks) (is_wrap p.around) round).0

-- the rank behind rank i, where rows go round
abbrev pub behind : Plan → ℕ → ℕ
behind p i = if i + 1 == p.ranks then 0 else i + 1

-- each rank with the next
abbrev straight : Plan → List (ℕ × ℕ)
straight p = map (λ i. (i, i + 1)) (range_with_len 0 (p.ranks - 1))

-- there is one less than there are ranks
straight-many : (p : Plan) → length (straight p) ≡ p.ranks - 1
straight-many p = length-map (range_with_len 0 (p.ranks - 1)) (λ i. (i, i + 1)) ∙ length-range_with_len 0 (p.ranks - 1)

-- one more where rows go round
pub neighbours-many : (p : Plan) → length (neighbours p) ≡ p.ranks - 1 + (if goes_round p then 1 else 0)
neighbours-many p =
    elim (cases_Bool (goes_round p)) [
      | inl round ↦ rw round (length-append (straight p) ((p.ranks - 1, 0) ∷ []) ∙ ap (λ n. n + 1) (straight-many p))
      | inr plain ↦ rw plain (length-append (straight p) [] ∙ ap (λ n. n + 0) (straight-many p))
    ]

-- two edges for each
pub edges-many : (p : Plan) → length (edges p) ≡ 2 * (p.ranks - 1 + (if goes_round p then 1 else 0))
unfolding edges
edges-many p = both-many p (neighbours p) ∙ ap (λ n. 2 * n) (neighbours-many p)

-- the k-th are ranks k and k + 1
straight-get : (p : Plan) (k : ℕ) → k < p.ranks - 1 → slice_get (straight p) k ≡ Some (k, k + 1)
straight-get p k less =
    slice_get-map (λ i. (i, i + 1)) (range_with_len 0 (p.ranks - 1)) k ∙ ap (option_map (λ i. (i, i + 1))) (range-get 0 (p.ranks - 1) k less ∙ ap (λ (x : ℕ). Some x) (omega arith))

-- the k-th neighbours are rank k and the rank behind it, also where rows go round
pub neighbour-at : (p : Plan) (k : ℕ) → k < length (neighbours p) → slice_get (neighbours p) k ≡ Some (k, behind p k)
neighbour-at p k less =
    let many = straight-many p in
    elim (cases_lt k (p.ranks - 1)) [
      | inl before ↦
          let apart : (k + 1 == p.ranks) ≡ false = grind (arith, nat_tests) in
          get-left (straight p) (if goes_round p then (p.ranks - 1, 0) ∷ [] else []) k (omega arith) ∙ straight-get p k before ∙ rw apart refl
      | inr last ↦
          let all = neighbours-many p in
          elim (cases_Bool (goes_round p)) [
            | inl round ↦
                let n : length (neighbours p) ≡ p.ranks - 1 + 1 = all ∙ rw round refl in
                let two = round-two p round in
                let is : p.ranks - 1 ≡ k = omega arith in
                let same : (k + 1 == p.ranks) ≡ true = grind (arith, nat_tests) in
                get-right (straight p) (if goes_round p then (p.ranks - 1, 0) ∷ [] else []) k 0 (omega arith) ∙ rw (round, same) (ap (λ (x : ℕ). Some (x, 0)) is)
            | inr plain ↦ let n : length (neighbours p) ≡ p.ranks - 1 + 0 = all ∙ rw plain refl in absurd (omega arith)
          ]
    ]

-- an edge by its number
pub edge-even : (p : Plan) (e i : ℕ) → e < length (edges p) → e ≡ 2 * i → slice_get (edges p) e ≡ Some (down p i (behind p i))
unfolding edges
edge-even p e i less is =
    let many = both-many p (neighbours p) in
    both-even p (neighbours p) i e i (behind p i) is (neighbour-at p i (omega arith))

-- and the one back
pub edge-odd : (p : Plan) (e i : ℕ) → e < length (edges p) → e ≡ 2 * i + 1 → slice_get (edges p) e ≡ Some (up p i (behind p i))
unfolding edges
edge-odd p e i less is =
    let many = both-many p (neighbours p) in
    both-odd p (neighbours p) i e i (behind p i) is (neighbour-at p i (omega arith))

-- there are at most two edges a rank
pub few-edges : (p : Plan) → IsPlan p → length (edges p) ≤ 2 * p.ranks
few-edges p s =
    let many = edges-many p in let ranks = s.ranks in
    elim (cases_Bool (goes_round p)) [
      | inl round ↦ let n : length (edges p) ≡ 2 * (p.ranks - 1 + 1) = many ∙ rw round refl in omega arith
      | inr plain ↦ let n : length (edges p) ≡ 2 * (p.ranks - 1 + 0) = many ∙ rw plain refl in omega arith
    ]

-- where there is an edge there are two ranks
pub edge-two : (p : Plan) (e : ℕ) → e < length (edges p) → 2 ≤ p.ranks
edge-two p e less =
    let many = edges-many p in
    elim (cases_Bool (goes_round p)) [
      | inl round ↦ round-two p round
      | inr plain ↦ let n : length (edges p) ≡ 2 * (p.ranks - 1 + 0) = many ∙ rw plain refl in omega arith
    ]

-- the rank behind a rank is a rank
pub behind-inside : (p : Plan) (i : ℕ) → i < p.ranks → behind p i < p.ranks
behind-inside p i less =
    elim (cases_eq (i + 1) p.ranks) [
      | inl same ↦ let t : (i + 1 == p.ranks) ≡ true = grind (arith, nat_tests) in rw t (omega arith)
      | inr apart ↦ let t : (i + 1 == p.ranks) ≡ false = grind (arith, nat_tests) in rw t (omega arith)
    ]
