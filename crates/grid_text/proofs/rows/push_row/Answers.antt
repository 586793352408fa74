use Rattle.std.proofs.Common.{◌+◌, ◌∙◌, ℕ, sym, ap, arith, refl}
use Rattle.std.proofs.lemmas.Result.{MatchResult-weaker}
use Rattle.csv.specs.Records.{fields_of}
use Rattle.grid_text.specs.Faults.{shape_faults}
use Rattle.grid_text.proofs.ListFacts.{first-none, on_ok_both}
use Rattle.grid_text.proofs.FaultFacts.{shape-few, shape-same}
use Rattle.grid_text.proofs.RowFacts.{cols-push, fields-first, push-fault, push-kept, shape-first}
use Rattle.grid_text.proofs.rows.push_row.Goals as goal

pub push_numbers-requires : goal.push_numbers-requires
push_numbers-requires c =
    let shape = first-none (shape_faults c.args.kind c.cols_with-rows.result (c.args.rows.now.rows + 1) c.len-count.result) (sym c.shape_fault.ensures ∙ c.in_default.is) in
    let few = shape-few c.args.kind _ _ _ shape in
    let same = shape-same c.args.kind _ _ _ shape in
    let count = c.len-count.ensures in
    let limit = c.limit.ensures.bound in
    record { limit = omega arith; few = omega arith }

pub returns-in-Some-clause-fault : goal.returns-in-Some-clause-fault
returns-in-Some-clause-fault c = λ real before h.
    let cols = rw c.len-count.ensures at c.cols_with-rows.ensures ∙ cols-push c.args.kind before (fields_of c.args.fields.now) c.args.rows.now h in
    push-fault c.args.kind before (fields_of c.args.fields.now) _ _ c.in-Some.fault h.faultless cols (ap (λ (n : ℕ). n + 1) h.count)
    (shape-first c.args.kind _ _ (fields_of c.args.fields.now) c.in-Some.fault (rw c.len-count.ensures at c.in-Some.ensures))

pub returns-clause-ok : goal.returns-clause-ok
returns-clause-ok c =
    let shape = rw c.len-count.ensures at (first-none (shape_faults c.args.kind c.cols_with-rows.result (c.args.rows.now.rows + 1) c.len-count.result) (sym c.shape_fault.ensures ∙ c.in_default.is)) in
    on_ok_both c.push_numbers.result
    (λ values faultless before h.
    let cols = rw c.len-count.ensures at c.cols_with-rows.ensures ∙ cols-push c.args.kind before (fields_of c.args.fields.now) c.args.rows.now h in
    push-kept c.args.kind before (fields_of c.args.fields.now) c.args.rows.now _ _ _ h cols (ap (λ (n : ℕ). n + 1) h.count) shape
    (rw c.limit.ensures.value at faultless) refl refl values)
    c.push_numbers.ensures.ok c.push_numbers.ensures.faultless

pub returns-clause-fault : goal.returns-clause-fault
returns-clause-fault c =
    let shape = rw c.len-count.ensures at (first-none (shape_faults c.args.kind c.cols_with-rows.result (c.args.rows.now.rows + 1) c.len-count.result) (sym c.shape_fault.ensures ∙ c.in_default.is)) in
    MatchResult-weaker c.push_numbers.result c.push_numbers.ensures.fault (λ x h. h)
    (λ fault first real before h.
    let cols = rw c.len-count.ensures at c.cols_with-rows.ensures ∙ cols-push c.args.kind before (fields_of c.args.fields.now) c.args.rows.now h in
    push-fault c.args.kind before (fields_of c.args.fields.now) _ _ fault h.faultless cols (ap (λ (n : ℕ). n + 1) h.count)
    (fields-first c.args.kind _ _ (fields_of c.args.fields.now) fault shape (rw c.limit.ensures.value at (first real))))
