-- Weights that are written into lanes one by one, and weights that are found to be mirrored: equal bits are equal
-- weights.
use Rattle.std.proofs.Common.{◌≡◌, ◌∙◌, refl, sym, ap, subst, inl, inr, ℕ, ◌+◌, ◌-◌, ◌*◌, ◌<◌, ◌≤◌, ℤ, pos, to_z, of_z, w64, Bool, List, [], ◌∷◌, length, map, replicate, get_or, set, get_or-set_other, get_or-set_same, length-set, arith}
use Rattle.std.specs.List.{All}
use Rattle.std.specs.Simd.Lanes.{chunk, Each1}
use Rattle.std.proofs.lemmas.Bool.{cases_lt}
use Rattle.std.proofs.lemmas.Int.{to_z-of_z, fits_signed_from_abs}
use Rattle.std.proofs.lemmas.List.Elements.{All-set, All-replicate}
use Rattle.std.proofs.lemmas.Nat.{mul-le}
use Rattle.stencil_def.specs.Limits.{IsWeight}
use Rattle.stencil_def.specs.Square.{Square, side, weight}
use Rattle.cell_lanes.specs.Lanes.{two}
use Rattle.cell_lanes.specs.Mirror.{AreReady}
use Rattle.cell_lanes.proofs.TwoFacts.{chunk-two}

-- the place of a weight is within the square, which has at most 25
place-inside : (s a b : ℕ) → a < s → b < s → a * s + b < s * s
place-inside s a b p q = let rows : (a + 1) * s ≤ s * s = mul-le (a + 1) s s s (omega arith) (omega arith) in omega (arith, rows)

place-small : (s a b : ℕ) → s ≤ 5 → a < s → b < s → a * s + b < 25
place-small s a b small p q =
    let inside = place-inside s a b p q in
    let most : s * s ≤ 5 * 5 = mul-le s s 5 5 small small in
    omega (arith, inside, most)

-- the first n weights stand in both lanes
pub record IsReadyBelow (w : Square) (lanes : List ℤ) (n : ℕ) : Type 0 where
  -- there is room for 25 weights
  pub lanes_length : length lanes ≡ 50
  -- each lane is in the range of a weight
  pub limits : All IsWeight lanes
  pub both_lanes : (k i : ℕ) → k < n → i < 2 → get_or lanes (2 * k + i) (pos 0) ≡ get_or w.values k (pos 0)

ready-next : (w : Square) (lanes : List ℤ) (n : ℕ) (v : ℤ) → IsReadyBelow w lanes n → n < 25 → v ≡ get_or w.values n (pos 0) → IsWeight v
    → IsReadyBelow w (set (set lanes (2 * n) v) (2 * n + 1) v) (n + 1)
ready-next w lanes n v r small is limits =
    let long = r.lanes_length in
    let first = set lanes (2 * n) v in
    let first-long : length first ≡ 50 = length-set lanes (2 * n) v ∙ long in
    let others : (k i : ℕ) → k < n → i < 2 → get_or (set first (2 * n + 1) v) (2 * k + i) (pos 0) ≡ get_or lanes (2 * k + i) (pos 0) =
    λ k i h g. get_or-set_other first (2 * n + 1) (2 * k + i) v (pos 0) (omega arith) ∙ get_or-set_other lanes (2 * n) (2 * k + i) v (pos 0) (omega arith) in
    let left : get_or (set first (2 * n + 1) v) (2 * n) (pos 0) ≡ v =
    get_or-set_other first (2 * n + 1) (2 * n) v (pos 0) (omega arith) ∙ get_or-set_same lanes (2 * n) v (pos 0) (omega arith) in
    let right : get_or (set first (2 * n + 1) v) (2 * n + 1) (pos 0) ≡ v = get_or-set_same first (2 * n + 1) v (pos 0) (omega arith) in
    record {
      lanes_length = length-set first (2 * n + 1) v ∙ first-long;
      limits = All-set IsWeight first (2 * n + 1) v limits (All-set IsWeight lanes (2 * n) v limits r.limits);
      both_lanes = λ k i h g.
          elim (cases_lt k n) [
            | inl below ↦ others k i below g ∙ r.both_lanes k i below g
            | inr least ↦
                (let same : k ≡ n = omega arith in
                elim (cases_lt i 1) [
                  | inl left-lane ↦ (let at : 2 * k + i ≡ 2 * n = omega arith in rw (at, same) (left ∙ is))
                  | inr right-lane ↦ (let at : 2 * k + i ≡ 2 * n + 1 = omega arith in rw (at, same) (right ∙ is))
                ])
          ];
    }

-- at first all lanes are 0
pub ready-none : (w : Square) (n : ℕ) → n ≡ 0 → IsReadyBelow w (replicate 50 (pos 0)) n
ready-none w n none = record {
  lanes_length = refl;
  limits = All-replicate IsWeight 50 (pos 0) (omega arith);
  both_lanes = λ k i h g. absurd (omega arith);
}

back : (z : ℤ) → IsWeight z → to_z w64 (of_z w64 z) ≡ z
back z h = to_z-of_z w64 z (fits_signed_from_abs w64 z (omega arith))

-- the weight in row a and column b is written
pub ready-at : (w : Square) (lanes : List ℤ) (reach a b : ℕ) (r : ℤ) → IsReadyBelow w lanes (a * (2 * reach + 1) + b)
    → reach ≡ w.reach → reach ≤ 2 → a < 2 * reach + 1 → b < 2 * reach + 1 → r ≡ weight w a b → IsWeight r
    → IsReadyBelow w (set (set lanes (2 * (a * (2 * reach + 1) + b)) (to_z w64 (of_z w64 r))) (2 * (a * (2 * reach + 1) + b) + 1) (to_z w64 (of_z w64 r))) (a * (2 * reach + 1) + (b + 1))
ready-at w lanes reach a b r ready same near p q is limits =
    let place = a * (2 * reach + 1) + b in
    let small : place < 25 = place-small (2 * reach + 1) a b (omega arith) p q in
    let value : r ≡ get_or w.values place (pos 0) = is ∙ ap (λ n. get_or w.values (a * (2 * n + 1) + b) (pos 0)) (sym same) in
    let next : a * (2 * reach + 1) + (b + 1) ≡ place + 1 = omega arith in
    rw (back r limits, next) (ready-next w lanes place r ready small value limits)

-- two neighbouring lanes that hold one weight, as they are loaded
loaded-pair : (lanes : List ℤ) (at : ℕ) (v : ℤ) → at + 2 ≤ length lanes → get_or lanes (at + 0) (pos 0) ≡ v → get_or lanes (at + 1) (pos 0) ≡ v
    → chunk at 2 lanes ≡ two (λ i. v)
loaded-pair lanes at v inside left right = chunk-two lanes at inside ∙ (λ i. left i ∷ right i ∷ [])

-- a weight of a square is in its limits, since it stands in the lanes
pub weight-limits : (w : Square) (lanes : List ℤ) (mirrored : Bool) (a b : ℕ) → AreReady w lanes mirrored → a < side w → b < side w → IsWeight (weight w a b)
weight-limits w lanes mirrored a b ready p q =
    let near = ready.near in
    let long = ready.lanes_length in
    let k = a * side w + b in
    let small : k < 25 = place-small (side w) a b (omega arith) p q in
    subst IsWeight (ready.both_lanes k 0 (place-inside (side w) a b p q) (omega arith)) (ready.limits (2 * k + 0) (pos 0) (omega arith))

-- a weight, as it is loaded
pub loaded-weight : (w : Square) (lanes : List ℤ) (mirrored : Bool) (reach a b : ℕ) → AreReady w lanes mirrored → reach ≡ w.reach → a < side w → b < side w
    → map (to_z w64) (map (of_z w64) (chunk (2 * (a * (2 * reach + 1) + b)) 2 lanes)) ≡ two (λ i. weight w a b)
loaded-weight w lanes mirrored reach a b ready same p q =
    let near = ready.near in
    let k = a * side w + b in
    let inside : k < side w * side w = place-inside (side w) a b p q in
    let small : k < 25 = place-small (side w) a b (omega arith) p q in
    let loaded : chunk (2 * k) 2 lanes ≡ two (λ i. weight w a b) =
    loaded-pair lanes (2 * k) (weight w a b) (let long = ready.lanes_length in omega arith) (ready.both_lanes k 0 inside (omega arith)) (ready.both_lanes k 1 inside (omega arith)) in
    let whole = back (weight w a b) (weight-limits w lanes mirrored a b ready p q) in
    rw same (rw loaded (λ i. whole i ∷ whole i ∷ []))

-- both lanes of a weight, as they are loaded, are in the range of a weight
pub loaded-limits : (w : Square) (lanes : List ℤ) (mirrored : Bool) (reach a b : ℕ) → AreReady w lanes mirrored → reach ≡ w.reach → a < side w → b < side w
    → Each1 IsWeight (map (to_z w64) (map (of_z w64) (chunk (2 * (a * (2 * reach + 1) + b)) 2 lanes)))
loaded-limits w lanes mirrored reach a b ready same p q =
    let one = weight-limits w lanes mirrored a b ready p q in
    let both : Each1 IsWeight (two (λ i. weight w a b)) = (one, (one, tt)) in
    rw (loaded-weight w lanes mirrored reach a b ready same p q) both

-- the weight in row a and column b, and those across the middle row and the middle column
abbrev pub IsMirroredAt : Square → ℕ → ℕ → Type 0
IsMirroredAt w a b =
    (weight w a (2 * w.reach - b) ≡ weight w a b)
    × ((weight w (2 * w.reach - a) b ≡ weight w a b)
    × (weight w (2 * w.reach - a) (2 * w.reach - b) ≡ weight w a b))

same-bits : (x y : ℤ) → IsWeight x → IsWeight y → of_z w64 x ≡ of_z w64 y → x ≡ y
same-bits x y p q e =
    sym (back x p) ∙ (ap (to_z w64) e ∙ back y q)

-- three weights that have the bits of the one in row a and column b
pub mirrored-here : (w : Square) (reach a b : ℕ) (here right below across : ℤ) → reach ≡ w.reach
    → here ≡ weight w a b → right ≡ weight w a (2 * reach - b) → below ≡ weight w (2 * reach - a) b → across ≡ weight w (2 * reach - a) (2 * reach - b)
    → IsWeight here → IsWeight right → IsWeight below → IsWeight across
    → of_z w64 right ≡ of_z w64 here → of_z w64 below ≡ of_z w64 here → of_z w64 across ≡ of_z w64 here
    → IsMirroredAt w a b
mirrored-here w reach a b here right below across r here-is right-is below-is across-is p q s t right-same below-same across-same = (
  ap (λ n. weight w a (2 * n - b)) (sym r) ∙ (sym right-is ∙ (same-bits right here q p right-same ∙ here-is)),
  (
    ap (λ n. weight w (2 * n - a) b) (sym r) ∙ (sym below-is ∙ (same-bits below here s p below-same ∙ here-is)),
    ap (λ n. weight w (2 * n - a) (2 * n - b)) (sym r) ∙ (sym across-is ∙ (same-bits across here t p across-same ∙ here-is)),
  ),
)
