use Rattle.std.proofs.Common.{[], ◌∙◌, sym}
use Rattle.std.proofs.lemmas.List.{drop_more}
use Rattle.script_text.proofs.Numbers.{read_more, read_none}
use Rattle.script_text.proofs.words.each_number.Goals as goal

pub returns-in_default : goal.returns-in_default
returns-in_default c =
    let split = drop_more c.args.words.now c.loop-word.word-index record { ref_ptr = (0, 0); now = [] } c.loop-word-test.true in
    read_none _ _ _ (sym c.number.ensures ∙ c.in_default.is) ∙ (rw split at c.loop-word.invariant)

pub loop-word-preserved : goal.loop-word-preserved
loop-word-preserved c =
    let split = drop_more c.args.words.now c.loop-word.word-index record { ref_ptr = (0, 0); now = [] } c.loop-word-test.true in
    rw c.in_ok-push.ensures.items
    (read_more _ _ _ _ (sym c.number.ensures ∙ c.in-Some.is) ∙ (rw split at c.loop-word.invariant))
