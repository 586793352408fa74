use Rattle.std.proofs.Common.{◌≡◌, ◌+◌, ◌<◌, [], ◌∷◌, ◌++◌, length, drop, add-one, drop-cons, string_bytes, refl}
use Rattle.std.proofs.lemmas.List.{drop_all}
use Rattle.script_run.proofs.Steps.{steps_on}
use Rattle.script_run.proofs.run.run_calls.Goals as goal

pub loop-call-init : goal.loop-call-init
loop-call-init c = λ st stands slots. record { here = st; stands = stands; slots = slots; written = refl }

pub loop-call-preserved : goal.loop-call-preserved
loop-call-preserved c = λ st stands slots.
    let i = c.loop-call.call-index in
    let inside : i < length c.args.calls.now = c.loop-call-test.true in
    let split : drop i c.args.calls.now ≡ c.call-item.result ∷ drop (i + 1) c.args.calls.now =
    rw (add-one, drop-cons c.args.calls.now i c.call-item.result, ← c.call-item.is) in
    let appends : c.append_line.new.text.items ≡ c.loop-call.text.items ++ string_bytes c.in_ok-answer.answer ++ 10 ∷ [] =
    rw c.as_bytes.ensures.value at c.in_ok-append_line.ensures in
    let g = rw split at (c.loop-call.invariant st stands slots) in
    steps_on _ _ _ _ _ _ _ _ g (c.in_ok-answer.ensures g.here g.stands g.slots) appends

pub returns : goal.returns
returns c = λ st stands slots. rw (drop_all c.loop-call.call-index c.args.calls.now c.loop-call-test.false) at (c.loop-call.invariant st stands slots)
