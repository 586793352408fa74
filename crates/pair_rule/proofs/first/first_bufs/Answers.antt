use Rattle.std.proofs.Common.{◌≡◌, ℕ, List, ◌*◌, Option, map, refl, ap, ◌∙◌, arith}
use Rattle.std.specs.List.{range_with_len}
use Rattle.part_geometry.specs.Shape.{Shape}
use Rattle.pair_core.proofs.StateTables.{table_more}
use Rattle.pair_rule.specs.Buf.{Buf}
use Rattle.pair_rule.specs.First.{first_in_slot, first_bufs}
use Rattle.pair_rule.specs.Rule.{slot_row}
use Rattle.pair_rule.proofs.first.first_bufs.Goals as goal

all_first : (g : Shape) (n : ℕ) (bufs : List (Option Buf)) → bufs ≡ map (first_in_slot g) (range_with_len 0 n) → n ≡ g.depth * slot_row g → bufs ≡ first_bufs g
unfolding first_bufs
all_first g n bufs are all = are ∙ ap (λ (z : ℕ). map (first_in_slot g) (range_with_len 0 z)) all

pub loop-n-preserved : goal.loop-n-preserved
loop-n-preserved c = table_more (first_in_slot c.args.tables.now) c.loop-n.n _ _ _ c.loop-n.invariant c.in_ok-slot_buf.ensures c.in_ok-push.ensures.items

pub returns : goal.returns
returns c =
    let g = c.args.tables.now in
    let count : c.loop-n.n ≡ c.depth.result * c.slot_row.result = omega (arith, c.loop-n.auto.n-end, c.loop-n-test.false) in
    let depth : c.depth.result ≡ g.depth = c.depth.ensures.value ∙ ap (λ (z : Shape). z.depth) c.geometry.ensures.value in
    let same : c.depth.result * c.slot_row.result ≡ g.depth * slot_row g = rw (depth, c.slot_row.ensures.value) refl in
    all_first g c.loop-n.n c.loop-n.bufs.items c.loop-n.invariant (count ∙ same)
