use Rattle.std.proofs.Common.{◌∙◌}
use Rattle.script_run.proofs.pairs.NamedPair.answer.Goals as goal

pub returns : goal.returns
returns c = λ p st.
    let t = rw st.shape at (c.answer.ensures.tells p.desk st.desk) in
    (t.0, record { send = st.send; recv = st.recv; shape = c.answer.ensures.shape ∙ st.shape; desk = t.1 })
