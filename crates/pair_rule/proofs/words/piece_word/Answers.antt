use Rattle.std.proofs.Common.{◌<◌, ◌≤◌, ℕ, ◌+◌, ◌*◌, arith}
use Rattle.std.proofs.Math.Nat.{mul-le-mul_right}
use Rattle.pair_rule.specs.declared.TheConstants.{FREE_WORDS}
use Rattle.pair_rule.proofs.words.piece_word.Goals as goal

-- a place below the depth, times the words of a row
few : (place depth n : ℕ) → place < depth → depth ≤ 4 → n < 2048 + FREE_WORDS → place * n ≤ 4 * (2048 + FREE_WORDS)
few place depth n low deep small = let h = mul-le-mul_right {m = place} {n = 4} n (omega arith) in omega (arith, h)

pub overflow_mul-result-2 : goal.overflow_mul-result-2
overflow_mul-result-2 c = let h = few c.args.place c.args.tables.now.depth (c.pieces-row.result + FREE_WORDS) c.requires.place c.geometry-geometry.ensures.limits.depth.1 (let m = c.pieces-row.ensures.limits.1 in omega arith) in omega (arith, h)

pub overflow_add-result-3 : goal.overflow_add-result-3
overflow_add-result-3 c = let h = few c.args.place c.args.tables.now.depth (c.pieces-row.result + FREE_WORDS) c.requires.place c.geometry-geometry.ensures.limits.depth.1 (let m = c.pieces-row.ensures.limits.1 in omega arith) in
    let s = c.requires.piece in let e = c.pieces-row.ensures.value in let m = c.pieces-row.ensures.limits.1 in omega (arith, h)

pub overflow_add-result-4 : goal.overflow_add-result-4
overflow_add-result-4 c = let h = few c.args.place c.args.tables.now.depth (c.pieces-row.result + FREE_WORDS) c.requires.place c.geometry-geometry.ensures.limits.depth.1 (let m = c.pieces-row.ensures.limits.1 in omega arith) in
    let s = c.requires.piece in let e = c.pieces-row.ensures.value in let m = c.pieces-row.ensures.limits.1 in
    let a = c.claim_words.ensures.limits in let b = c.take_words.ensures.limits in omega (arith, h)
