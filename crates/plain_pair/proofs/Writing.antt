-- What stands where after bytes were written over others: what was there before and behind them, and they themselves
-- between.
use Rattle.std.proofs.Common.{◌≡◌, ℕ, ◌+◌, ◌-◌, ◌<◌, ◌≤◌, List, ◌++◌, length, take, drop, get_or, refl, ap, ◌∙◌, arith}
use Rattle.std.proofs.lemmas.List.{drop-drop, length-append, length-take-le, length-drop, get_or_append_left, get_or-append_right, get_or-take, get_or-drop}
use borrow.Rule.Slice.PartMut.{put_mid}
use Rattle.plain_pair.specs.Written.{written}

-- what the slice copy makes is what `written` says
pub put_mid-written : (xs ys piece : List ℕ) (at : ℕ) → ys ≡ piece → put_mid at (at + length piece - at) xs ys ≡ written xs at piece
unfolding written
put_mid-written xs ys piece at same =
    let e : at + length piece - at ≡ length piece = omega arith in
    rw (same, e, drop-drop (length piece) at xs) refl

-- bytes written within a list leave its length
pub length-written : (xs piece : List ℕ) (at : ℕ) → at + length piece ≤ length xs → length (written xs at piece) ≡ length xs
unfolding written
length-written xs piece at fits =
    let a = length-append (take at xs) (piece ++ drop (at + length piece) xs) in
    let b = length-append piece (drop (at + length piece) xs) in
    let c = length-take-le at xs (omega arith) in
    let d = length-drop (at + length piece) xs in omega arith

-- where they were written, they stand
pub written-inside : (xs piece : List ℕ) (at o : ℕ) → at + length piece ≤ length xs → at ≤ o → o < at + length piece → get_or (written xs at piece) o 0 ≡ get_or piece (o - at) 0
unfolding written
written-inside xs piece at o fits low high =
    let c = length-take-le at xs (omega arith) in
    get_or-append_right (take at xs) (piece ++ drop (at + length piece) xs) at o 0 c low
    ∙ get_or_append_left piece (drop (at + length piece) xs) 0 (o - at) (omega arith)

-- before them stands what stood there
pub written-before : (xs piece : List ℕ) (at o : ℕ) → at + length piece ≤ length xs → o < at → get_or (written xs at piece) o 0 ≡ get_or xs o 0
unfolding written
written-before xs piece at o fits below =
    let c = length-take-le at xs (omega arith) in
    get_or_append_left (take at xs) (piece ++ drop (at + length piece) xs) 0 o (omega arith) ∙ get_or-take at xs o 0 below

-- and behind them too
pub written-behind : (xs piece : List ℕ) (at o : ℕ) → at + length piece ≤ length xs → at + length piece ≤ o → get_or (written xs at piece) o 0 ≡ get_or xs o 0
unfolding written
written-behind xs piece at o fits above =
    let c = length-take-le at xs (omega arith) in
    get_or-append_right (take at xs) (piece ++ drop (at + length piece) xs) at o 0 c (omega arith)
    ∙ get_or-append_right piece (drop (at + length piece) xs) (length piece) (o - at) 0 refl (omega arith)
    ∙ get_or-drop (at + length piece) xs (o - at - length piece) 0
    ∙ ap (λ n. get_or xs n 0) (let e : at + length piece + (o - at - length piece) ≡ o = omega arith in e)
