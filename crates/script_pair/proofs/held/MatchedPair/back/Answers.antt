use Rattle.std.proofs.Common.{◌≡◌, ◌<◌, length, get_or, None, Some, sym, ◌∙◌, arith}
use Rattle.std.proofs.lemmas.List.{get_or_default}
use Rattle.script_pair.proofs.Holding.{held_gave, held_none, back_stands}
use Rattle.script_pair.proofs.held.MatchedPair.back.Goals as goal

pub invariant_of-self : goal.invariant_of-self
invariant_of-self c =
    let i = c.self.invariant in
    let room : c.args.q < length c.self.inside.kept.items = omega arith in
    let there : Some c.in-Some.arrival ≡ get_or c.self.inside.kept.items c.args.q None =
    sym c.in-Some.is ∙ c.take.ensures.value ∙ c.index_mut.ensures.value ∙ get_or_default c.self.inside.kept.items c.args.q _ None room in
    rw c.take.ensures.after
    (held_gave _ c.give_back.new.self c.args.q c.in-Some.arrival i (c.give_back.ensures.back i.here i.known) room there c.give_back.ensures.shape c.give_back.ensures.sides)

pub invariant_of-self-in-None : goal.invariant_of-self-in-None
invariant_of-self-in-None c =
    let i = c.self.invariant in
    let room : c.args.q < length c.self.inside.kept.items = omega arith in
    let there : None ≡ get_or c.self.inside.kept.items c.args.q None =
    sym c.in-None.is ∙ c.take.ensures.value ∙ c.index_mut.ensures.value ∙ get_or_default c.self.inside.kept.items c.args.q _ None room in
    rw c.take.ensures.after (held_none _ c.args.q i room there)

pub returns-in-Some-clause-answer : goal.returns-in-Some-clause-answer
returns-in-Some-clause-answer c =
    let room : c.args.q < length c.self.inside.kept.items = omega arith in
    let there : Some c.in-Some.arrival ≡ get_or c.self.inside.kept.items c.args.q None =
    sym c.in-Some.is ∙ c.take.ensures.value ∙ c.index_mut.ensures.value ∙ get_or_default c.self.inside.kept.items c.args.q _ None room in
    rw (← c.self.view_is)
    (λ d st. back_stands _ c.give_back.new.self c.args.q c.in-Some.arrival c.self.invariant d _ st room there c.give_back.ensures.back)
