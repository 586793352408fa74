use Rattle.std.proofs.Common.{◌≡◌, ℕ, ◌<◌, Some, length}
use Rattle.std.specs.Prelude.{slice_get, slice_index_or}
use Rattle.grid_tiles.specs.declared.serial_edges.Link.{Link}
use Rattle.grid_tiles.specs.declared.tile.TileEdge.{TileEdge}
use Rattle.grid_tiles.specs.Edges.{edges}
use Rattle.grid_tiles.specs.Blocks.{IsLinked}
use Rattle.grid_tiles.proofs.serial_blocks.all_links.Given as goal

-- the first ones are there
abbrev pub invariant-loop-e : goal.invariant-loop-e
invariant-loop-e l = record {
  count : length l.links.items ≡ l.e;
  rest : (e : ℕ) → e < l.e → (x : TileEdge) (d : Link) → slice_get (edges l.plan) e ≡ Some x → IsLinked l.plan x 0 (slice_index_or l.links.items e d);
}
