-- The world of a plan.
use Rattle.std.specs.Prelude.{◌≡◌, List, [], ◌∷◌, map}
use Rattle.std.specs.List.{flat_map}
use Rattle.init_match.specs.declared.keys.Call.{Call}
use Rattle.init_match.specs.declared.answers.Matched.{Matched}
use Rattle.init_match.specs.Matching.{Pair, pairs_of}
use Rattle.init_match.specs.World.{WorldState, matched_pairs, recv_call, send_call}
use Rattle.halo_plan.specs.declared.edge.Edge.{Edge}
use Rattle.halo_plan.specs.Plan.{Plan, shape_of}
use Rattle.halo_plan.specs.Edges.{edges}

-- an edge is initialised in communicator 0, at its sender and at its receiver
abbrev pub send_of : Plan → Edge → Call
send_of p e = send_call e.from e.to e.tag 0 (shape_of p).send_parts (shape_of p).send_bytes

abbrev pub recv_of : Plan → Edge → Call
recv_of p e = recv_call e.from e.to e.tag 0 (shape_of p).recv_parts (shape_of p).recv_bytes

-- the world has the plan's ranks, and both calls of each edge, one edge after another
pub record HasCalls (p : Plan) (es : List Edge) (w : WorldState) : Type 0 where
  pub ranks : w.ranks ≡ p.ranks
  pub grain : w.grain ≡ p.grain
  pub depth : w.depth ≡ p.depth
  pub calls : w.calls ≡ flat_map (λ e. send_of p e ∷ recv_of p e ∷ []) es

-- the calls of a pair, and those of an edge
abbrev pub calls_of_pair : Pair → Call × Call
calls_of_pair m = (m.send.1, m.recv.1)

abbrev pub calls_of_edge : Plan → Edge → Call × Call
calls_of_edge p e = (send_of p e, recv_of p e)

-- By the matching of the world, its pair of each number is the edge of that number: the two calls of the pair are those
-- of the edge, and its geometry is that of the plan.
pub record IsWorldOf (p : Plan) (w : WorldState) : Type 0 where
  pub made : HasCalls p (edges p) w
  pub pairs : map calls_of_pair (pairs_of w.calls) ≡ map (calls_of_edge p) (edges p)
  pub geometries : map (λ (m : Matched). m.geometry) (matched_pairs w) ≡ map (λ e. shape_of p) (edges p)
