use Rattle.std.proofs.Common.{◌≡◌, ℕ, List, ◌++◌, ap, ap₂, ◌∙◌, append_assoc}
use Rattle.std.specs.List.{filter, flat_map}
use Rattle.std.proofs.lemmas.Result.{on_ok_weaker}
use Rattle.script_run.specs.Run.{pair_line, waiting_line}
use Rattle.script_run.specs.State.{Known, is_waiting}
use Rattle.script_run.proofs.report.report.Goals as goal

abbrev waiting_lines : List Known → List ℕ
waiting_lines requests = flat_map waiting_line (filter is_waiting requests)

pub returns : goal.returns
returns c = λ st stands.
    let first = c.in_ok-tell_pairs.ensures st.pairs stands.pairs in
    let same : c.deref.result.now ≡ st.requests = c.deref.ensures.value ∙ stands.requests in
    on_ok_weaker c.tell_requests.result
    (λ second. second ∙ ap₂ (λ (a b : List ℕ). a ++ b) first (ap waiting_lines same) ∙ append_assoc c.args.text.now.items (flat_map pair_line st.pairs) (waiting_lines st.requests))
    c.tell_requests.ensures
