use Rattle.std.proofs.Common.{◌∙◌, sym, refl, arith, true, false}
use Rattle.grid_text.proofs.NumberFacts.{kept, negated, signed-found, signed-none, within-large, within-small}
use Rattle.grid_text.proofs.number.signed_within.Goals as goal

pub returns-in_default : goal.returns-in_default
returns-in_default c =
    rw (signed-none c.args.text.now _ c.sign_and_digits-is_negative.ensures.digits c.in_default.ensures) refl

pub returns-then-size-limit : goal.returns-then-size-limit
returns-then-size-limit c =
    let e = signed-found c.args.text.now _ _ c.in-Some.size c.sign_and_digits-is_negative.ensures.sign c.sign_and_digits-is_negative.ensures.digits c.in-Some.ensures in
    rw e (sym (within-large c.args.limit c.in-Some.size _ c.if-size-limit.true))

pub returns-then-is_negative : goal.returns-then-is_negative
returns-then-is_negative c =
    let e = signed-found c.args.text.now _ true c.in-Some.size (sym c.if-is_negative.true ∙ c.sign_and_digits-is_negative.ensures.sign) c.sign_and_digits-is_negative.ensures.digits c.in-Some.ensures in
    rw (e, negated c.in-Some.size (omega arith)) (sym (within-small c.args.limit c.in-Some.size true c.if-size-limit.false))

pub returns-else-is_negative : goal.returns-else-is_negative
returns-else-is_negative c =
    let e = signed-found c.args.text.now _ false c.in-Some.size (sym c.if-is_negative.false ∙ c.sign_and_digits-is_negative.ensures.sign) c.sign_and_digits-is_negative.ensures.digits c.in-Some.ensures in
    rw (e, kept c.in-Some.size (omega arith)) (sym (within-small c.args.limit c.in-Some.size false c.if-size-limit.false))
