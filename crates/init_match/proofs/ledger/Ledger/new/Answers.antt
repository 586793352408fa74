use Rattle.std.proofs.Common.{refl}
use Rattle.init_match.specs.Calls.{of_key}
use Rattle.init_match.proofs.ledger.Ledger.new.Goals as goal

pub invariant_of-result : goal.invariant_of-result
unfolding of_key
invariant_of-result c =
    record { turns = rw (c.new.ensures.items, c.new-2.ensures.items) refl; keys = c.new-3.ensures.valid; slots = λ s q. rw (c.new-3.ensures.none s q, c.new.ensures.items) refl }
