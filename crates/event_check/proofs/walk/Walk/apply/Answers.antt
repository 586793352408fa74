use Rattle.std.proofs.Common.{◌≡◌, subst}
use Rattle.pair_core.specs.Events.{Becomes}
use Rattle.pair_core.specs.Shows.{Shows, geometry_of}
use Rattle.pair_core.specs.declared.event.Applied.TheVariants.{Done, NotAllowed}
use Rattle.event_check.proofs.walk.Walk.apply.Goals as goal

pub returns-in-Ok-Done-clause-walks : goal.returns-in-Ok-Done-clause-walks
returns-in-Ok-Done-clause-walks c = λ core shows.
    let done : c.in-Ok-Done.field-0 ≡ Done c.in-Ok-Done.out c.in-Ok-Done.take = (let h = c.in-Ok-Done.field-0-is in cc) in
    subst (Becomes (geometry_of c.args.self.now.state) c.args.event.now (Shows c.apply.new.self) core) done (c.in-Ok-Done.ensures.becomes core shows)

pub returns-in-Ok-NotAllowed-clause-walks : goal.returns-in-Ok-NotAllowed-clause-walks
returns-in-Ok-NotAllowed-clause-walks c = λ core shows.
    let not : c.in-Ok-NotAllowed.field-0 ≡ NotAllowed = (let h = c.in-Ok-NotAllowed.field-0-is in cc) in
    subst (Becomes (geometry_of c.args.self.now.state) c.args.event.now (Shows c.apply.new.self) core) not (c.in-Ok-NotAllowed.ensures.becomes core shows)

pub returns-in-Err-clause-walks : goal.returns-in-Err-clause-walks
returns-in-Err-clause-walks c = λ core shows. c.in-Err.ensures.memory core shows
