-- A list that is computed element by element: those before n are done, the others are as they were, and n goes up to
-- the length.
use Rattle.std.proofs.Common.{◌≡◌, ◌≢◌, ◌∙◌, refl, sym, subst, ℕ, ◌+◌, ◌<◌, ◌≤◌, ℤ, pos, List, length, map, get_or, set, get_or-set_other, get_or-set_same, below_more, arith}
use Rattle.std.specs.List.{All}
use Rattle.std.proofs.lemmas.List.{length-map, get_or-map, ext_get_or}
use Rattle.std.proofs.lemmas.List.Elements.{All-from_get_or}

-- a list as long as xs, with f of each element of xs in its place, is xs under f
pub map-by-each : (f : ℤ → ℤ) (xs ys : List ℤ) → length ys ≡ length xs
    → ((k : ℕ) → k < length xs → get_or ys k (pos 0) ≡ f (get_or xs k (pos 0)))
    → ys ≡ map f xs
map-by-each f xs ys same each =
    let long = length-map xs f in
    ext_get_or (pos 0) ys (map f xs) (same ∙ sym long)
    (λ k h. each k (omega arith) ∙ sym (get_or-map f xs k (pos 0) (pos 0) (omega arith)))

-- the first n elements of ys are those of xs under f, and in P; the others are those of xs
pub record IsMappedBelow (P : ℤ → Type 0) (f : ℤ → ℤ) (xs ys : List ℤ) (n : ℕ) : Type 0 where
  pub done : (k : ℕ) → k < n → get_or ys k (pos 0) ≡ f (get_or xs k (pos 0))
  pub limits : (k : ℕ) → k < n → P (get_or ys k (pos 0))
  pub rest : (k : ℕ) → n ≤ k → get_or ys k (pos 0) ≡ get_or xs k (pos 0)

-- at first no element is computed, and the list is xs
pub mapped-none : (P : ℤ → Type 0) (f : ℤ → ℤ) (xs : List ℤ) → IsMappedBelow P f xs xs 0
mapped-none P f xs = record {
  done = λ k h. absurd (omega arith);
  limits = λ k h. absurd (omega arith);
  rest = λ k h. refl;
}

-- with f of element n of xs, in P, stored at n, the first n + 1 elements are computed
pub mapped-next : (P : ℤ → Type 0) (f : ℤ → ℤ) (xs ys : List ℤ) (n : ℕ) (v : ℤ) → IsMappedBelow P f xs ys n
    → n < length ys → v ≡ f (get_or xs n (pos 0)) → P v → IsMappedBelow P f xs (set ys n v) (n + 1)
mapped-next P f xs ys n v m inside is kept =
    let others : (k : ℕ) → k ≢ n → get_or (set ys n v) k (pos 0) ≡ get_or ys k (pos 0) = λ k ne. rw get_or-set_other refl in
    let here : get_or (set ys n v) n (pos 0) ≡ v = rw get_or-set_same refl in
    record {
      done = below_more (λ k. get_or (set ys n v) k (pos 0) ≡ f (get_or xs k (pos 0))) n (λ k h. others k (omega arith) ∙ m.done k h) (here ∙ is);
      limits = below_more (λ k. P (get_or (set ys n v) k (pos 0))) n (λ k h. subst P (sym (others k (omega arith))) (m.limits k h)) (subst P (sym here) kept);
      rest = λ k h. others k (omega arith) ∙ m.rest k (omega arith);
    }

-- once all elements are computed, the list is xs under f
pub mapped-all : (P : ℤ → Type 0) (f : ℤ → ℤ) (xs ys : List ℤ) (n : ℕ) → IsMappedBelow P f xs ys n → length ys ≡ length xs → length xs ≤ n → ys ≡ map f xs
mapped-all P f xs ys n m same end = map-by-each f xs ys same (λ k h. m.done k (omega arith))

-- once all elements are computed, each is in P
pub mapped-limits : (P : ℤ → Type 0) (f : ℤ → ℤ) (xs ys : List ℤ) (n : ℕ) → IsMappedBelow P f xs ys n → length ys ≤ n → All P ys
mapped-limits P f xs ys n m end = All-from_get_or P ys (pos 0) (λ k h. m.limits k (omega arith))
