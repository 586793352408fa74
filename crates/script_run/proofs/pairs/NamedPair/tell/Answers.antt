use Rattle.std.proofs.Common.{◌≡◌, string_bytes, ap, ◌∙◌}
use Rattle.plain_pair.specs.Closing.{closed_answer}
use Rattle.script_pair.specs.Texts.{closed_text}
use Rattle.script_run.specs.Run.{names_text}
use Rattle.script_run.proofs.Reports.{three_parts}
use Rattle.script_run.proofs.pairs.NamedPair.tell.Goals as goal

pub returns : goal.returns
returns c = λ p st.
    let told : string_bytes c.in_ok-rest.rest ≡ closed_text (closed_answer p.shape p.desk.record_) =
    c.in_ok-rest.ensures ∙ ap closed_text (rw st.shape at (c.close.ensures p.desk st.desk)) in
    let second = rw (c.as_bytes.ensures.value, told) at c.in_ok-extend_from_slice.ensures.items in
    let first = rw (st.send, st.recv) at c.in_ok-tell_names.ensures in
    three_parts c.args.text.now.items (names_text p.send p.recv) (closed_text (closed_answer p.shape p.desk.record_)) _ _ _ first second c.in_ok-push.ensures.items
