use Rattle.std.proofs.Common.{◌≡◌, ◌∙◌, ◌*◌, ◌-◌, ◌%◌, ap, ℕ, false, refl, arith}
use Rattle.gate_word.specs.Words.{word_of}
use Rattle.part_geometry.specs.Pieces.{pieces}
use Rattle.pair_core.specs.Names.{claim_words, take_words}
use Rattle.pair_core.proofs.StateNumbers.{first_piece}
use Rattle.pair_core.proofs.first.first_word_at.Goals as goal

pub returns-then-n-claims : goal.returns-then-n-claims
returns-then-n-claims c = grind arith

pub returns-then-n-claims-2 : goal.returns-then-n-claims-2
returns-then-n-claims-2 c = grind arith

pub returns-then-n-claims-3 : goal.returns-then-n-claims-3
returns-then-n-claims-3 c = grind arith

pub returns-then-n-claims-4 : goal.returns-then-n-claims-4
returns-then-n-claims-4 c = grind arith

pub returns : goal.returns
returns c = λ x fits here.
    let g = c.args.tables.now in
    let i = (c.args.n - c.claim_words-claims.result - 1 - 2 * c.take_words-takes.result) % c.pieces.result in
    let at : i ≡ (c.args.n - claim_words g - 1 - 2 * take_words g) % pieces g = rw (c.claim_words-claims.ensures.value, c.take_words-takes.ensures.value, c.pieces.ensures.value) refl in
    first_piece g c.args.n c.pack-2.result i (omega (arith, c.claim_words-claims.ensures.value, c.take_words-takes.ensures.value)) at
    (c.pack-2.ensures.value ∙ ap (λ (z : ℕ). word_of 0 false z) c.piece_bits.ensures) x fits here
