use Rattle.plain_pair.specs.Pair.{kept_of}
use Rattle.plain_pair.proofs.Closing.{closed_is, few_missing}
use Rattle.plain_pair.proofs.pair.PlainPair.close.Goals as goal

pub pieces_out-requires : goal.pieces_out-requires
pieces_out-requires c = few_missing (kept_of c.self.inside) _ _ c.self.invariant c.deref.ensures.value

pub returns : goal.returns
returns c = record { answer = rw (← c.self.view_is) (closed_is (kept_of c.self.inside) _ _ _ c.self.invariant c.deref.ensures.value c.pieces_out.ensures) }
