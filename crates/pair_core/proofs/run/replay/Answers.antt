use Rattle.std.proofs.Common.{◌≡◌, ◌∙◌, ℕ, length, subst, arith}
use Rattle.std.proofs.lemmas.Option.{slice_get-get_or}
use Rattle.pair_core.specs.Shows.{Shows, geometry_of}
use Rattle.pair_core.specs.declared.event.Applied.TheVariants.{Done, NotAllowed}
use Rattle.pair_core.proofs.StateReplay.{went, stopped, leads_first}
use Rattle.pair_core.specs.Replaying.{LeadsTo}
use Rattle.pair_core.proofs.run.replay.Goals as goal

pub loop-at-init : goal.loop-at-init
loop-at-init c = (c.in_ok-state.ensures.geometry, leads_first c.args.geometry c.args.events.now (Shows c.in_ok-state.state) c.in_ok-state.ensures.first)

pub returns : goal.returns
returns c =
    let end : c.loop-at.at ≡ length c.args.events.now = omega arith in
    (c.loop-at.invariant.0, subst (λ (n : ℕ). LeadsTo c.args.geometry c.args.events.now n (Shows c.loop-at.state)) end c.loop-at.invariant.1)

pub returns-in-NotAllowed : goal.returns-in-NotAllowed
returns-in-NotAllowed c =
    let not : c.in_ok-apply.field-0 ≡ NotAllowed = (let h = c.in-NotAllowed.is in cc) in
    stopped c.args.geometry (geometry_of c.loop-at.state) c.args.events.now c.loop-at.at _ (Shows c.loop-at.state) (Shows c.apply.new.self) c.in_ok-apply.field-0 c.loop-at.invariant.0 not
    (slice_get-get_or c.args.events.now c.loop-at.at _ c.loop-at-test.true) c.loop-at.invariant.1 c.in_ok-apply.ensures.becomes

pub loop-at-preserved : goal.loop-at-preserved
loop-at-preserved c =
    let done : c.in_ok-apply.field-0 ≡ Done c.in-Done.out c.in-Done.take = (let h = c.in-Done.is in cc) in (
      c.apply.ensures.geometry ∙ c.loop-at.invariant.0,
      went c.args.geometry (geometry_of c.loop-at.state) c.args.events.now c.loop-at.at _ (Shows c.loop-at.state) (Shows c.apply.new.self) c.in_ok-apply.field-0 c.in-Done.out c.in-Done.take c.loop-at.invariant.0 done
          (slice_get-get_or c.args.events.now c.loop-at.at _ c.loop-at-test.true) c.loop-at.invariant.1 c.in_ok-apply.ensures.becomes,
    )
