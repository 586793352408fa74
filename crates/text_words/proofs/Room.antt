-- A value of few digits leaves room for one more.
use Rattle.std.proofs.Common.{ℕ, ◌+◌, ◌*◌, ◌^◌, ◌<◌, ◌≤◌, arith, lit<}
use Rattle.std.proofs.Math.Nat.{pow-le-pow_right}

-- where n has at most i digits, and i is less than 19, one more digit still fits 64 bits
pub room : (n i : ℕ) → n < 10 ^ i → i < 19 → n * 10 + 9 < 2 ^ 64
room n i small few =
    let most : 10 ^ i ≤ 10 ^ 18 = pow-le-pow_right (lit< tt) {j = 18} (omega arith) in
    omega arith
