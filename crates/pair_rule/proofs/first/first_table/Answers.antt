use Rattle.std.proofs.Common.{◌≡◌, ℕ, List, ◌+◌, ◌*◌, map, refl, ap, ◌∙◌, arith}
use Rattle.std.specs.List.{range_with_len}
use Rattle.part_geometry.specs.Shape.{Shape}
use Rattle.pair_core.proofs.StateTables.{table_more}
use Rattle.pair_rule.specs.Addresses.{table_size}
use Rattle.pair_rule.specs.First.{first_in_table, first_table}
use Rattle.pair_rule.specs.declared.TheConstants.{FREE_WORDS}
use Rattle.pair_rule.proofs.first.first_table.Goals as goal

all_first : (g : Shape) (n : ℕ) (words : List ℕ) → words ≡ map (first_in_table g) (range_with_len 0 n) → n ≡ table_size g → words ≡ first_table g
unfolding first_table
all_first g n words are all = are ∙ ap (λ (z : ℕ). map (first_in_table g) (range_with_len 0 z)) all

pub loop-n-preserved : goal.loop-n-preserved
loop-n-preserved c = table_more (first_in_table c.args.tables.now) c.loop-n.n _ _ _ c.loop-n.invariant c.first_word_at.ensures c.in_ok-push.ensures.items

pub returns : goal.returns
returns c =
    let g = c.args.tables.now in
    let count : c.loop-n.n ≡ 5 * FREE_WORDS + c.claim_words.result + 1 + 2 * c.take_words.result + c.depth.result * (c.pieces.result + FREE_WORDS) = omega (arith, c.loop-n.auto.n-end, c.loop-n-test.false) in
    let depth : c.depth.result ≡ g.depth = c.depth.ensures.value ∙ ap (λ (z : Shape). z.depth) c.geometry.ensures.value in
    let same : 5 * FREE_WORDS + c.claim_words.result + 1 + 2 * c.take_words.result + c.depth.result * (c.pieces.result + FREE_WORDS) ≡ table_size g =
    rw (c.claim_words.ensures.value, c.take_words.ensures.value, depth, c.pieces.ensures.value) refl in
    all_first g c.loop-n.n c.loop-n.words.items c.loop-n.invariant (count ∙ same)
