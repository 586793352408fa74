-- Weights that are copied from a list: the copy agrees with it at each of its places, and zeros stand behind them.
use Rattle.std.proofs.Common.{◌≡◌, refl, ℕ, zero, suc, ◌<◌, ◌≤◌, List, length, replicate, ℤ, pos, get_or, map, arith, if◌then◌else◌, ◌==◌}
use Rattle.std.specs.List.{range_with_len}
use Rattle.std.proofs.lemmas.List.{get_or_past}
use Rattle.std.proofs.lemmas.List.FromFn.{fill_by_all}
use Rattle.stencil_def.specs.Square.{Square, square_of}

-- zeros read as zeros, also behind their end
pub get_or-zeros : (n k : ℕ) → get_or (replicate n (pos 0)) k (pos 0) ≡ pos 0
get_or-zeros zero k = refl
get_or-zeros (suc n) zero = refl
get_or-zeros (suc n) (suc k) = get_or-zeros n k

-- the values up to the last, and zeros behind it
pub square-same : (xs kept : List ℤ) (reach : ℕ)
    → reach ≡ (if length xs == 9 then 1 else 2)
    → length kept ≡ 25
    → ((k : ℕ) → k < length xs → get_or kept k (pos 0) ≡ get_or xs k (pos 0))
    → ((k : ℕ) → length xs ≤ k → get_or kept k (pos 0) ≡ pos 0)
    → (let w : Square = record { reach = reach; values = kept } in w) ≡ square_of xs
square-same xs kept reach same whole taken rest =
    let each : (k : ℕ) → k < 25 → get_or kept k (pos 0) ≡ get_or xs k (pos 0) =
    λ k h. grind (arith, taken k, rest k, get_or_past xs k (pos 0)) in
    let values : kept ≡ map (λ k. get_or xs k (pos 0)) (range_with_len 0 25) =
    fill_by_all (λ k. get_or xs k (pos 0)) kept 25 (pos 0) whole each in
    rw (same, values) refl
