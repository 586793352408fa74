use Rattle.std.proofs.Common.{◌∙◌, ◌&&◌, ap, sym, arith}
use Rattle.std.specs.Prelude.{is_some}
use Rattle.stencil_words.specs.Options.{options_of, texts}
use Rattle.stencil_words.proofs.OptionFacts.{behind-alone, behind-joined, behind-other, texts-none}
use Rattle.stencil_words.proofs.options.behind_first.Goals as goal

pub returns-then-is_joined : goal.returns-then-is_joined
returns-then-is_joined c = (omega arith, behind-joined c.args.word.now (texts c.args.after.now) (sym c.is_joined.ensures ∙ c.if-is_joined.true))

pub returns-in_err-next : goal.returns-in_err-next
returns-in_err-next c =
    rw (c.from_residual.ensures, texts-none c.args.after.now c.in_err-next.ensures.cases)
    (behind-alone c.args.word.now (sym c.is_joined.ensures ∙ c.if-is_joined.false))

pub returns-then-is_paired : goal.returns-then-is_paired
returns-then-is_paired c =
    let words = c.in_ok-next.ensures.cases in
    let pair = rw c.as_str.ensures.value at (sym c.is_paired.ensures ∙ c.if-is_paired.true) in (
      omega (arith, words.1),
      rw words.0
          (behind-other c.args.word.now _ (texts c.in_ok-next.rest.now) (sym c.is_joined.ensures ∙ c.if-is_joined.false)
          ∙ ap (λ b. b && is_some (options_of (texts c.in_ok-next.rest.now))) pair),
    )

pub returns-else-is_paired : goal.returns-else-is_paired
returns-else-is_paired c =
    let pair = rw c.as_str.ensures.value at (sym c.is_paired.ensures ∙ c.if-is_paired.false) in
    rw c.in_ok-next.ensures.cases.0
    (behind-other c.args.word.now _ (texts c.in_ok-next.rest.now) (sym c.is_joined.ensures ∙ c.if-is_joined.false)
    ∙ ap (λ b. b && is_some (options_of (texts c.in_ok-next.rest.now))) pair)
