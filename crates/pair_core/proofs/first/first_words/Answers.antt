use Rattle.std.proofs.Common.{◌≡◌, ◌<◌, ◌+◌, ◌*◌, ℕ, refl, subst, arith}
use Rattle.pair_core.specs.State.{word_count}
use Rattle.pair_core.proofs.StateNumbers.{number_lt}
use Rattle.std.proofs.lemmas.Nat.{mul-le}
use Rattle.pair_core.proofs.first.first_words.Goals as goal

pub overflow_mul-count : goal.overflow_mul-count
overflow_mul-count c = let h = mul-le _ _ _ _ c.depth.ensures.limits.1 c.pieces.ensures.limits in omega arith

pub loop-n-preserved : goal.loop-n-preserved
loop-n-preserved c = grind arith

pub first_word_at-requires : goal.first_word_at-requires
first_word_at-requires c =
    let g = c.args.tables.now in
    let count : c.first_piece_word.result + c.depth.result * c.pieces.result ≡ word_count g = rw (c.first_piece_word.ensures.value, c.depth.ensures.value, c.geometry-geometry.ensures.value, c.pieces.ensures.value) refl in
    subst (λ (m : ℕ). c.loop-n.n < m) count c.loop-n-test.true

pub returns-clause-size : goal.returns-clause-size
returns-clause-size c =
    let g = c.args.tables.now in
    let count : c.first_piece_word.result + c.depth.result * c.pieces.result ≡ word_count g = rw (c.first_piece_word.ensures.value, c.depth.ensures.value, c.geometry-geometry.ensures.value, c.pieces.ensures.value) refl in
    let size = c.loop-n.invariant.0 in omega (arith, c.loop-n-test.false, c.loop-n.auto.n-end)

pub returns-clause-words : goal.returns-clause-words
returns-clause-words c = λ x fits.
    let g = c.args.tables.now in
    let count : c.first_piece_word.result + c.depth.result * c.pieces.result ≡ word_count g = rw (c.first_piece_word.ensures.value, c.depth.ensures.value, c.geometry-geometry.ensures.value, c.pieces.ensures.value) refl in
    let low = number_lt g x fits in c.loop-n.invariant.1 x fits (omega (arith, c.loop-n-test.false))
