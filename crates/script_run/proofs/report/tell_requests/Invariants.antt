use Rattle.std.proofs.Common.{◌≡◌, ◌++◌, drop}
use Rattle.std.specs.List.{filter, flat_map}
use Rattle.script_run.specs.Run.{waiting_line}
use Rattle.script_run.specs.State.{is_waiting}
use Rattle.script_run.proofs.report.tell_requests.Given as goal

abbrev pub invariant-loop-request : goal.invariant-loop-request
invariant-loop-request l =
    l.text.items ++ flat_map waiting_line (filter is_waiting (drop l.request-index l.requests)) ≡ l.initial.text.items ++ flat_map waiting_line (filter is_waiting l.requests)
