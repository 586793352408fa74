use Rattle.std.proofs.Common.{◌≡◌, ◌<◌, length, get_or, None, Some, sym, ap, ◌∙◌, subst, arith}
use Rattle.std.proofs.lemmas.List.{get_or_default}
use Rattle.part_recv.specs.Taking.{gave_back}
use Rattle.running_tests.specs.Held.{AreHeld}
use Rattle.running_tests.proofs.Holding.{held_gave, held_dropped}
use Rattle.running_tests.proofs.held.Receiving.back.Goals as goal

pub give_back-requires-clause-out : goal.give_back-requires-clause-out
give_back-requires-clause-out c =
    let room : c.args.q < length c.self.inside.kept.items = omega arith in
    let there : Some c.in-Some.arrival ≡ get_or c.self.inside.kept.items c.args.q None =
    sym c.in-Some.is ∙ c.take.ensures.value ∙ c.index_mut.ensures.value ∙ get_or_default c.self.inside.kept.items c.args.q _ None room in
    (c.self.invariant c.args.q c.in-Some.arrival (sym there)).1

pub invariant_of-self : goal.invariant_of-self
invariant_of-self c =
    let s = c.self.inside.end in let held = c.self.inside.kept.items in
    let room : c.args.q < length held = omega arith in
    let there : Some c.in-Some.arrival ≡ get_or held c.args.q None =
    sym c.in-Some.is ∙ c.take.ensures.value ∙ c.index_mut.ensures.value ∙ get_or_default held c.args.q _ None room in
    let part = (c.self.invariant c.args.q c.in-Some.arrival (sym there)).0 in
    rw c.take.ensures.after
    (subst (AreHeld _) (sym (c.give_back.ensures.end ∙ ap (λ z. gave_back z s) part)) (held_gave c.args.q held s room c.self.invariant))

pub invariant_of-self-in-None : goal.invariant_of-self-in-None
invariant_of-self-in-None c =
    let room : c.args.q < length c.self.inside.kept.items = omega arith in
    rw c.take.ensures.after (held_dropped c.args.q c.self.inside.kept.items c.self.inside.end room c.self.invariant)
