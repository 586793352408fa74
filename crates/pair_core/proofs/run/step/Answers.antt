use Rattle.std.proofs.Common.{◌≡◌, ◌∙◌, subst}
use Rattle.part_geometry.specs.Shape.{Shape}
use Rattle.pair_core.specs.Events.{Becomes}
use Rattle.pair_core.specs.Shows.{Shows, geometry_of}
use Rattle.pair_core.specs.declared.event.Applied.TheVariants.{Done, NotAllowed}
use Rattle.pair_core.proofs.run.step.Goals as goal

pub returns-in-Done : goal.returns-in-Done
returns-in-Done c = λ core shows.
    let done : c.in_ok-apply.field-0 ≡ Done c.in-Done.out c.in-Done.take = (let h = c.in-Done.is in cc) in
    let geometry = c.in_ok-next.ensures.geometry in
    let b = subst (λ (z : Shape). Becomes z c.args.event.now (Shows c.apply.new.self) core (Done c.in-Done.out c.in-Done.take)) geometry
    (subst (Becomes (geometry_of c.in_ok-next.next) c.args.event.now (Shows c.apply.new.self) core) done (c.in_ok-apply.ensures.becomes core (c.in_ok-next.ensures.shows core shows))) in
    (c.apply.ensures.geometry ∙ geometry, (b.0, b.1, b.2, b.3))

pub returns-in-NotAllowed : goal.returns-in-NotAllowed
returns-in-NotAllowed c = λ core shows.
    let not : c.in_ok-apply.field-0 ≡ NotAllowed = (let h = c.in-NotAllowed.is in cc) in
    let geometry = c.in_ok-next.ensures.geometry in
    let b = subst (λ (z : Shape). Becomes z c.args.event.now (Shows c.apply.new.self) core NotAllowed) geometry
    (subst (Becomes (geometry_of c.in_ok-next.next) c.args.event.now (Shows c.apply.new.self) core) not (c.in_ok-apply.ensures.becomes core (c.in_ok-next.ensures.shows core shows))) in
    b.0
