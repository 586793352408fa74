use Rattle.std.proofs.Common.{◌≡◌, List, None, Some, sym, ap, ◌∙◌}
use Rattle.std.specs.Prelude.{slice_get}
use Rattle.std.proofs.lemmas.Option.{slice_get_past, slice_get-get_or}
use Rattle.std.proofs.lemmas.Result.{IfOk-weaker}
use Rattle.script_run.specs.Run.{at_slot, known_as}
use Rattle.script_run.specs.State.{Known}
use Rattle.script_run.proofs.run.Run.act.Goals as goal

pub returns-in_default : goal.returns-in_default
returns-in_default c = λ st stands slots.
    let none : known_as st c.args.name.now ≡ None = ap (at_slot st.requests) (sym (stands.names c.args.name.now) ∙ sym c.slot.ensures ∙ c.in_default.is) in
    rw none (IfOk-weaker c.from_str.result _ _ (λ s said. (said, stands)) c.from_str.ensures.ok)

pub returns-in_default-get : goal.returns-in_default-get
returns-in_default-get c = λ st stands slots.
    let slot : known_as st c.args.name.now ≡ slice_get st.requests c.in-Some.slot =
    ap (at_slot st.requests) (sym (stands.names c.args.name.now) ∙ sym c.slot.ensures ∙ c.in-Some.is) in
    let found : slice_get st.requests c.in-Some.slot ≡ None =
    ap (λ (l : List Known). slice_get l c.in-Some.slot) (sym (c.deref.ensures.value ∙ stands.requests)) ∙ slice_get_past c.deref.result.now c.in-Some.slot c.in_default-get.ensures.lookup.3 in
    rw (slot, found) (IfOk-weaker c.from_str-in_default-get.result _ _ (λ s said. (said, stands)) c.from_str-in_default-get.ensures.ok)

pub returns-in-None : goal.returns-in-None
returns-in-None c = λ st stands slots.
    let slot : known_as st c.args.name.now ≡ slice_get st.requests c.in-Some.slot =
    ap (at_slot st.requests) (sym (stands.names c.args.name.now) ∙ sym c.slot.ensures ∙ c.in-Some.is) in
    let at = c.in-Some-get.ensures.lookup.3 in
    let found : slice_get st.requests c.in-Some.slot ≡ Some c.in-Some-get.request.now =
    ap (λ (l : List Known). slice_get l c.in-Some.slot) (sym (c.deref.ensures.value ∙ stands.requests)) ∙ slice_get-get_or c.deref.result.now c.in-Some.slot c.in-Some-get.request.now at.0
    ∙ ap (λ (r : Known). Some r) (sym (at.1 c.in-Some-get.request.now)) in
    let alone : c.in-Some-get.request.now.pair ≡ None = sym c.pair.ensures ∙ c.in-None.is in
    rw (slot, found, alone, ← c.side-side.ensures) (IfOk-weaker c.waiting.result _ _ (λ s said. (said, stands)) c.waiting.ensures)

pub returns-in-Some-pair : goal.returns-in-Some-pair
returns-in-Some-pair c = λ st stands slots.
    let slot : known_as st c.args.name.now ≡ slice_get st.requests c.in-Some.slot =
    ap (at_slot st.requests) (sym (stands.names c.args.name.now) ∙ sym c.slot.ensures ∙ c.in-Some.is) in
    let at = c.in-Some-get.ensures.lookup.3 in
    let found : slice_get st.requests c.in-Some.slot ≡ Some c.in-Some-get.request.now =
    ap (λ (l : List Known). slice_get l c.in-Some.slot) (sym (c.deref.ensures.value ∙ stands.requests)) ∙ slice_get-get_or c.deref.result.now c.in-Some.slot c.in-Some-get.request.now at.0
    ∙ ap (λ (r : Known). Some r) (sym (at.1 c.in-Some-get.request.now)) in
    let paired : c.in-Some-get.request.now.pair ≡ Some c.in-Some-pair.n = sym c.pair.ensures ∙ c.in-Some-pair.is in
    let did = c.answer_at.ensures st.pairs stands.pairs in
    rw (slot, found, paired, ← c.side-side.ensures)
    (IfOk-weaker c.answer_at.result _ _ (λ s said. (said, record { world = stands.world; requests = stands.requests; names = stands.names; pairs = did.1 })) did.0)
