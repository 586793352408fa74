use Rattle.std.proofs.Common.{◌≡◌, length, ap, ◌∙◌, arith}
use Rattle.std.proofs.lemmas.List.{length-map}
use Rattle.init_match.specs.Matching.{pairs_of}
use Rattle.init_match.proofs.PairFacts.{pairs_few}
use Rattle.init_match.proofs.world.World.pair_count.Goals as goal

pub overflow_cast-result : goal.overflow_cast-result
overflow_cast-result c =
    let s = c.self.invariant in
    let few = s.few in let many = s.many in
    let pairs = pairs_few c.self.inside.ledger in
    let size : length c.self.inside.pairs.items ≡ length (pairs_of c.self.inside.ledger) = ap length s.pairs ∙ length-map _ _ in
    omega (arith, c.len.ensures, c.self.inside.pairs.ok.0)
