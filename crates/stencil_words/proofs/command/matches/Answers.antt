use Rattle.std.proofs.Common.{◌≡◌, ◌∙◌, ap, subst, sym}
use Rattle.clap.specs.Faults.{fault_of, is_simple_and_free}
use Rattle.clap.specs.Kinds.{HasKind}
use Rattle.clap.specs.Matches.{found_of}
use Rattle.clap.specs.Simple.{is_simple, matches_of}
use Rattle.clap.specs.Words.{app_of}
use Rattle.stencil_words.specs.Command.{stencil_app}
use Rattle.stencil_words.specs.Options.{texts}
use Rattle.stencil_words.proofs.CommandFacts.{finds, refuses}
use Rattle.stencil_words.proofs.command.matches.Goals as goal

pub returns-in-Ok : goal.returns-in-Ok
returns-in-Ok c = λ options e.
    let app : app_of c.in_ok-command.field-0 ≡ stencil_app = c.in_ok-command.ensures in
    finds (texts c.args.words.now) options (found_of c.in-Ok.matches) e
    (ap (λ a. fault_of a (texts c.args.words.now)) (sym app) ∙ c.in-Ok.ensures.kinds (ap is_simple_and_free app))
    ((c.in-Ok.ensures.matches (ap is_simple app)).0 ∙ ap (λ a. matches_of a (texts c.args.words.now)) app)

pub returns : goal.returns
returns c = λ options e.
    let app : app_of c.in_ok-command.field-0 ≡ stencil_app = c.in_ok-command.ensures in
    refuses (texts c.args.words.now) options c.in-Err.error e
    (subst (λ a. HasKind (fault_of a (texts c.args.words.now)) c.in-Err.error) app (c.in-Err.ensures.kinds (ap is_simple_and_free app)))
    (λ memory. c.in_default.not-OutOfMemory (c.kind.ensures ∙ memory))
