use Rattle.std.proofs.Common.{◌∙◌, arith}
use Rattle.grid_tiles.proofs.EdgeFacts.{edge-first, edge-second, edges-many}
use Rattle.grid_tiles.proofs.plan.TilePlan.edge.Goals as goal

pub second_edge-requires : goal.second_edge-requires
second_edge-requires c = let many = edges-many c.args.self.now in omega arith

pub returns-then-e-first-clause-value : goal.returns-then-e-first-clause-value
returns-then-e-first-clause-value c = edge-first c.args.self.now c.args.e (omega arith) ∙ c.first_edge.ensures.value

pub returns-else-e-first-clause-value : goal.returns-else-e-first-clause-value
returns-else-e-first-clause-value c = edge-second c.args.self.now c.args.e _ (omega arith) ∙ c.second_edge.ensures.value
