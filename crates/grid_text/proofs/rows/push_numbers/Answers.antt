use Rattle.std.proofs.Common.{◌≡◌, ◌∙◌, arith, take}
use Rattle.std.proofs.lemmas.List.{take_all}
use Rattle.std.proofs.Common.{FitsSigned, w64, rules}
use Rattle.std.proofs.lemmas.Int.{to_z-of_z}
use Rattle.std.proofs.lemmas.Result.{err_from_is_err_and}
use Rattle.csv.specs.Records.{fields_of}
use Rattle.grid_text.proofs.ListFacts.{field-first, field-none-more, field-past, field-within, values-more}
use Rattle.grid_text.proofs.rows.push_numbers.Goals as goal

pub returns-in_err-number-clause-fault : goal.returns-in_err-number-clause-fault
returns-in_err-number-clause-fault c =
    let f = field-first c.args.limit c.args.row c.loop-field.col (fields_of c.args.fields.now) c.in-Some.field.now _ c.loop-field.invariant.faultless c.in-Some.ensures.value c.in_err-number.ensures.fault in
    let p = err_from_is_err_and c.from_residual.result c.from_residual.ensures.1 in
    rw (p.1, p.2) (λ real. f)

pub loop-field-smaller : goal.loop-field-smaller
loop-field-smaller c =
    let within = field-within (fields_of c.args.fields.now) c.loop-field.col c.in-Some.field.now c.in-Some.ensures.value in
    omega arith

pub loop-field-preserved : goal.loop-field-preserved
loop-field-preserved c =
    let within = field-within (fields_of c.args.fields.now) c.loop-field.col c.in-Some.field.now c.in-Some.ensures.value in
    let fits : FitsSigned w64 c.in_ok-number.field-0 = search rules in
    record {
      within = omega arith;
      values = values-more _ c.loop-field.values.items _ _ c.loop-field.col (fields_of c.args.fields.now) c.in-Some.field.now c.loop-field.invariant.values c.in-Some.ensures.value (to_z-of_z w64 c.in_ok-number.field-0 fits ∙ c.in_ok-number.ensures.ok) c.in_ok-push.ensures.items;
      faultless = field-none-more c.args.limit c.args.row c.loop-field.col (fields_of c.args.fields.now) c.in-Some.field.now c.loop-field.invariant.faultless c.in-Some.ensures.value c.in_ok-number.ensures.faultless;
    }

pub returns-clause-ok : goal.returns-clause-ok
returns-clause-ok c =
    let past = field-past (fields_of c.args.fields.now) c.loop-field.col c.in_default.ensures.value in
    let all : take c.loop-field.col (fields_of c.args.fields.now) ≡ fields_of c.args.fields.now = take_all c.loop-field.col (fields_of c.args.fields.now) past in
    rw all at c.loop-field.invariant.values

pub returns-clause-faultless : goal.returns-clause-faultless
returns-clause-faultless c =
    let past = field-past (fields_of c.args.fields.now) c.loop-field.col c.in_default.ensures.value in
    let all : take c.loop-field.col (fields_of c.args.fields.now) ≡ fields_of c.args.fields.now = take_all c.loop-field.col (fields_of c.args.fields.now) past in
    rw all at c.loop-field.invariant.faultless
