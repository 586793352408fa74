use Rattle.std.proofs.Common.{◌≡◌, ◌∙◌, Err, Ok}
use Rattle.std.proofs.lemmas.Option.{slice_get-get_or}
use Rattle.event_check.specs.Walking.{StandsFor, geometry_of}
use Rattle.event_check.specs.declared.fault.WalkFault.TheVariants.{NotAllowed}
use Rattle.event_check.proofs.Telling.{told-more, told-stopped}
use Rattle.event_check.proofs.check.tell.Goals as goal

pub returns-in-Err-NotAllowed : goal.returns-in-Err-NotAllowed
returns-in-Err-NotAllowed c =
    let not : c.apply.result ≡ Err NotAllowed =
    (let h = c.in-Err-NotAllowed.is in let k = c.in-Err-NotAllowed.field-0-is in cc) in
    told-stopped c.args.geometry (geometry_of c.loop-at.walk) c.args.events.now c.loop-at.at _
    (StandsFor c.loop-at.walk) (StandsFor c.apply.new.self) c.apply.result c.loop-at.text.items
    c.push_count.new.text.items c.loop-at.invariant.geometry not
    (slice_get-get_or c.args.events.now c.loop-at.at _ c.loop-at-test.true) c.loop-at.invariant.told
    c.apply.ensures.walks c.in_ok-push_count-in-Err-NotAllowed.ensures

pub loop-at-preserved : goal.loop-at-preserved
loop-at-preserved c =
    let made : c.apply.result ≡ Ok c.in-Ok.made = (let h = c.in-Ok.is in let k = c.in-Ok.made-is in cc) in record {
      geometry = c.apply.ensures.geometry ∙ c.loop-at.invariant.geometry;
      told = told-more c.args.geometry (geometry_of c.loop-at.walk) c.args.events.now c.loop-at.at _
          (StandsFor c.loop-at.walk) (StandsFor c.apply.new.self) c.apply.result c.in-Ok.made c.loop-at.text.items
          c.push_made.new.text.items c.loop-at.invariant.geometry made
          (slice_get-get_or c.args.events.now c.loop-at.at _ c.loop-at-test.true) c.loop-at.invariant.told
          c.apply.ensures.walks c.in_ok-push_made-in-Ok.ensures;
    }
