use Rattle.std.proofs.Common.{◌++◌, drop}
use Rattle.script_run.specs.Run.{answers_from}
use Rattle.script_run.specs.Running.{StandsFor, GoesOn}
use Rattle.script_run.specs.State.{HasSlots}
use Rattle.script_run.proofs.run.run_calls.Given as goal

abbrev pub invariant-loop-call : goal.invariant-loop-call
invariant-loop-call l =
    (st : _) → StandsFor l.initial.run st → HasSlots st → GoesOn l.run l.text.items (drop l.call-index l.calls) (l.initial.text.items ++ answers_from st l.calls)
