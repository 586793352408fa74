use Rattle.std.proofs.Common.{◌≡◌, ◌∙◌, true, false}
use Rattle.std.specs.Prelude.{IfSome, bytes_eq, codes}
use Rattle.std.proofs.lemmas.Result.{IfOk-weaker}
use Rattle.stencil_words.specs.Command.{given_in}
use Rattle.stencil_words.specs.Limits.{IsRead}
use Rattle.stencil_words.specs.Options.{texts}
use Rattle.stencil_words.specs.Words.{stencil_reading}
use Rattle.stencil_words.proofs.WordFacts.{bad-words, good-words, is-false, is-true, no-words, other-words, unsound-words, values-limits}
use Rattle.stencil_words.proofs.read.read_words.Goals as goal

pub returns-in_default-clause-reading : goal.returns-in_default-clause-reading
returns-in_default-clause-reading c = no-words c.args.words.now c.in_default.ensures.cases

pub returns-then-ne-clause-reading : goal.returns-then-ne-clause-reading
returns-then-ne-clause-reading c =
    let other : bytes_eq c.as_str.result.now (codes "stencil") ≡ false = is-false _ c.if-ne.ensures in
    other-words c.args.words.now c.in-Some.rest.now c.in-Some.command.now c.in-Some.ensures.cases.0 (rw c.as_str.ensures.value at other)

pub returns-then-not-are_options-clause-reading : goal.returns-then-not-are_options-clause-reading
returns-then-not-are_options-clause-reading c =
    bad-words c.args.words.now c.in-Some.rest.now c.in-Some.command.now c.in-Some.ensures.cases.0 c.if-not-are_options.ensures

pub returns-in_default-2-clause-reading : goal.returns-in_default-2-clause-reading
returns-in_default-2-clause-reading c =
    unsound-words c.args.words.now c.in-Some.rest.now c.in-Some.command.now c.in-Some.ensures.cases.0
    (rw c.in_default-2.is at c.in_ok-matches.ensures)

pub returns-clause-reading : goal.returns-clause-reading
returns-clause-reading c =
    let command : bytes_eq c.as_str.result.now (codes "stencil") ≡ true = is-true _ c.if-ne.ensures in
    let same = good-words c.args.words.now c.in-Some.rest.now c.in-Some.command.now (given_in c.in-Some-2.matches) c.in-Some.ensures.cases.0
    (rw c.as_str.ensures.value at command) (c.if-not-are_options.ensures) (rw c.in-Some-2.is at c.in_ok-matches.ensures) in
    IfOk-weaker c.read_matches.result _ (λ reading. reading ≡ stencil_reading (texts c.args.words.now)) (λ reading e. e ∙ same) c.read_matches.ensures

pub returns-clause-limits : goal.returns-clause-limits
returns-clause-limits c =
    IfOk-weaker c.read_matches.result _ (λ reading. IfSome reading IsRead) (λ reading e. rw e (values-limits _)) c.read_matches.ensures
