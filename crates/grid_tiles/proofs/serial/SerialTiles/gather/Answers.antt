use Rattle.std.proofs.Common.{◌≡◌, ◌∙◌, sym, ap, subst, ◌*◌, length}
use Rattle.std.specs.List.{All, flat_map, range_with_len}
use Rattle.stencil_def.specs.Limits.{IsValue}
use Rattle.grid_tiles.specs.Blocks.{AreSized}
use Rattle.grid_tiles.specs.Tiles.{whole_rows}
use Rattle.grid_tiles.proofs.GridFacts.{gathered-from, gathered-values}
use Rattle.grid_tiles.proofs.serial.SerialTiles.gather.Goals as goal

items : (c : goal.In_ok-values) → c.in_ok-values.values.items ≡ flat_map (whole_rows c.self.inside.plan c.self.inside.blocks.items) (range_with_len 0 c.self.inside.plan.tile_rows)
items c = c.in_ok-values.ensures ∙ ap (λ bs. flat_map (whole_rows c.self.inside.plan bs) (range_with_len 0 c.self.inside.plan.tile_rows)) c.deref.ensures.value

pub all_rows-requires : goal.all_rows-requires
all_rows-requires c = subst (AreSized c.self.inside.plan) (sym c.deref.ensures.value) c.self.invariant.sized

pub from_values-requires-clause-length : goal.from_values-requires-clause-length
from_values-requires-clause-length c =
    let k = c.self.inside in
    let s = c.self.invariant.suit in
    c.in_ok-values.values.ok.0 ∙ ap length (items c ∙ sym (gathered-values k.plan k.blocks.items)) ∙ c.self.invariant.plane.length ∙ (λ i. (s.rows ∙ sym c.rows-rows.ensures.value) i * (s.cols ∙ sym c.cols-cols.ensures.value) i)

pub from_values-requires-clause-values : goal.from_values-requires-clause-values
from_values-requires-clause-values c =
    let k = c.self.inside in
    subst (All IsValue) (sym (items c ∙ sym (gathered-values k.plan k.blocks.items))) c.self.invariant.plane.values

pub returns-clause-grid : goal.returns-clause-grid
returns-clause-grid c =
    let k = c.self.inside in
    c.from_values.ensures.value
    ∙ gathered-from k.plan k.blocks.items c.rows-rows.result c.cols-cols.result c.in_ok-values.values.items c.rows-rows.ensures.value c.cols-cols.ensures.value
    (c.in_ok-values.ensures ∙ ap (λ bs. flat_map (whole_rows k.plan bs) (range_with_len 0 k.plan.tile_rows)) c.deref.ensures.value)
    ∙ ap (λ r. r.grid) c.self.view_is
