use Rattle.std.proofs.Common.{length, ap, sym, ◌∙◌}
use Rattle.std.proofs.lemmas.List.FromFn.{length-map-range_with_len}
use Rattle.plain_pair.specs.Pair.{kept_of}
use Rattle.plain_pair.proofs.Starts.{sound_sending, follows_start_send}
use Rattle.plain_pair.proofs.pair.PlainPair.start_send.Goals as goal

pub reset-requires : goal.reset-requires
reset-requires c = c.self.invariant.sizes.missing_size ∙ sym (ap length c.needs.ensures ∙ length-map-range_with_len _ _ _)

pub invariant_of-self : goal.invariant_of-self
invariant_of-self c =
    sound_sending (kept_of c.self.inside) _ _ _ _ c.self.invariant c.in_ok-round.ensures c.clear.ensures (c.reset.ensures ∙ c.needs.ensures)

pub returns-clause-answer : goal.returns-clause-answer
returns-clause-answer c = rw (← c.self.view_is)
    (follows_start_send (kept_of c.self.inside) _ _ _ c.self.invariant c.in_ok-round.ensures c.clear.ensures)
