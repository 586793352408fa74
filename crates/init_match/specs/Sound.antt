-- What holds of a world between calls.
use Rattle.std.specs.Prelude.{◌≡◌, ℕ, ◌≤◌, Some, length, map, slice_get}
use Rattle.part_geometry.specs.declared.TheConstants.{MAX_PARTS, MAX_PART_BYTES, MAX_TOTAL, MAX_GRAIN, MAX_DEPTH}
use Rattle.init_match.specs.declared.TheConstants.{MAX_VOLUME}
use Rattle.part_geometry.specs.Shape.{IsWithin}
use Rattle.init_match.specs.declared.keys.Call.{Call}
use Rattle.init_match.specs.declared.world.World.TheInside.{Inside}
use Rattle.init_match.specs.Calls.{total}
use Rattle.init_match.specs.Matching.{pairs_of}
use Rattle.init_match.specs.World.{WorldState, matched_as, volume}

abbrev pub calls_of : Inside → WorldState
calls_of w = record { ranks = w.ranks; grain = w.grain; depth = w.depth; calls = w.ledger }

-- an accepted call keeps the limits
pub record IsFit (c : Call) : Type 0 where
  pub parts : IsWithin 1 MAX_PARTS c.parts
  pub bytes : IsWithin 1 MAX_PART_BYTES c.bytes
  pub length : total c ≤ MAX_TOTAL

-- the sum and the pairs are those of the calls, which keep the limits
pub record IsWorld (w : Inside) : Type 0 where
  pub grain : IsWithin 1 MAX_GRAIN w.grain
  pub depth : IsWithin 1 MAX_DEPTH w.depth
  pub fit : (slot : ℕ) (c : Call) → slice_get w.ledger slot ≡ Some c → IsFit c
  pub sum : w.sum ≡ volume w.ledger
  pub few : w.sum ≤ MAX_VOLUME
  pub many : length w.ledger ≤ w.sum
  pub pairs : w.pairs.items ≡ map (matched_as w.grain w.depth) (pairs_of w.ledger)
