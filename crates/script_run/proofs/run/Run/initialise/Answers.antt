use Rattle.std.proofs.Common.{◌≡◌, length, None, Ok, sym, ◌∙◌}
use Rattle.std.proofs.lemmas.Result.{IfOk-weaker}
use Rattle.script_run.specs.Names.{lookup}
use Rattle.script_run.specs.Run.{world_answer, after_world, with_world}
use Rattle.script_run.specs.State.{slot_of}
use Rattle.script_run.proofs.Steps.{init_ok, not_some, slot_is}
use Rattle.script_run.proofs.run.Run.initialise.Goals as goal

pub returns-in_ok-accept-in-Ok : goal.returns-in_ok-accept-in-Ok
returns-in_ok-accept-in-Ok c = λ st stands slots.
    let i = c.args.init.now in
    let slot = c.in-Ok.slot in
    let unknown : lookup c.args.self.now.names c.as_slice-name.result.now ≡ None = sym c.slot.ensures ∙ not_some c.slot.result (sym c.is_some.ensures ∙ c.if-is_some.false) in
    let free : slot_of st.requests c.as_slice-name.result.now ≡ None = sym (stands.names c.as_slice-name.result.now) ∙ unknown in
    let is : Ok slot ≡ world_answer st.world c.args.side i = sym c.in-Ok.is ∙ (rw stands.world at c.in_ok-slot.ensures.0) in
    let world : c.asked.new.world ≡ after_world st.world c.args.side i (Ok slot) = rw (c.in-Ok.is, stands.world) at c.in_ok-slot.ensures.1 in
    let slot_at : slot ≡ length st.requests = slot_is st.world c.args.side i slot is ∙ sym slots in
    let accepted = c.in_ok-accept-in-Ok.ensures (with_world st c.args.side i (Ok slot))
    record { world = world; requests = stands.requests; names = stands.names; pairs = stands.pairs } free slot_at in
    let did = init_ok st c.args.side i slot c.accept.new.self (rw c.as_slice-name.ensures.value at free) is (rw c.as_slice-name.ensures.value at accepted) in
    IfOk-weaker c.from_str-in-Ok.result _ _ (λ s said. (said ∙ did.0, did.1)) c.from_str-in-Ok.ensures.ok
