-- With the output written, and with a note: what is told, what holds with no file, and that plans have no part in it.
use Rattle.std.proofs.Common.{Err, ap}
use Rattle.stencil_top.proofs.Plans.{plans_leave_outcomes}
use Rattle.stencil_top.proofs.Told.{alone, alone_output, told, told_output}
use Rattle.stencil_top.proofs.serial.run_serial.Goals as goal

pub returns-in-Ok-clause-told : goal.returns-in-Ok-clause-told
returns-in-Ok-clause-told g c =
    told_output _ _ _ _ _ _ _ _ c.in-Ok.ensures.done

pub returns-in-Err-clause-told : goal.returns-in-Err-clause-told
returns-in-Err-clause-told g c =
    let e = c.in-Err.ensures in
    told _ _ _ c.in-Err.cause _ _ _ _ _ _ _ _ _ c.tell.ensures.status e.cause (λ f. e.write_count (ap Err f)) e.nothing c.tell.ensures.notes

pub returns-in-Ok-clause-alone : goal.returns-in-Ok-clause-alone
returns-in-Ok-clause-alone g c =
    alone_output _ _ _ _ _ _ _ c.in-Ok.ensures.done

pub returns-in-Err-clause-alone : goal.returns-in-Err-clause-alone
returns-in-Err-clause-alone g c =
    let e = c.in-Err.ensures in
    alone _ _ _ c.in-Err.cause _ _ _ _ _ _ _ _ _ c.tell.ensures.status e.cause (λ f. e.write_count (ap Err f)) e.nothing c.tell.ensures.notes

pub returns-in-Ok-clause-plans : goal.returns-in-Ok-clause-plans
returns-in-Ok-clause-plans g c = plans_leave_outcomes

pub returns-in-Err-clause-plans : goal.returns-in-Err-clause-plans
returns-in-Err-clause-plans g c = plans_leave_outcomes
