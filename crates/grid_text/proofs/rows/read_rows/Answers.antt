use Rattle.std.proofs.Common.{◌∙◌, ◌++◌, ◌∷◌, [], ℕ, List, length, sym, ap, arith, refl, append_assoc}
use Rattle.std.specs.Prelude.{Ok}
use Rattle.std.proofs.lemmas.Result.{err_from_is_err_and}
use Rattle.csv.specs.Records.{fields_of}
use Rattle.grid_text.specs.Reader.{left_of}
use Rattle.grid_text.proofs.RowFacts.{kept-none, text-front}
use Rattle.grid_text.proofs.rows.read_rows.Goals as goal

pub loop-rows-init : goal.loop-rows-init
loop-rows-init c =
    (c.open-reader.ensures.reading, ([], sym c.open-reader.ensures.left, kept-none c.args.kind _ refl refl c.new.ensures.items))

pub loop-rows-smaller : goal.loop-rows-smaller
loop-rows-smaller c =
    let e = c.in_ok-next.ensures.found (ap Ok c.if-branch.true) in
    omega (arith, ap length e)

pub loop-rows-preserved : goal.loop-rows-preserved
loop-rows-preserved c =
    let e = c.in_ok-next.ensures.found (ap Ok c.if-branch.true) in
    let before = c.loop-rows.invariant.1.0 in
    let all = c.loop-rows.invariant.1.1 ∙ (ap (λ (rest : List (List (List ℕ))). before ++ rest) e ∙ sym (append_assoc before (fields_of c.next.new.fields ∷ []) (left_of c.next.new.reader))) in (
      c.in_ok-next.ensures.reading (ap Ok c.if-branch.true),
      (before ++ fields_of c.next.new.fields ∷ [], all, c.in_ok-push_row.ensures.ok before c.loop-rows.invariant.1.2),
    )

pub returns-in_err-push_row-clause-fault : goal.returns-in_err-push_row-clause-fault
returns-in_err-push_row-clause-fault c =
    let p = err_from_is_err_and c.from_residual-in_err-push_row.result c.from_residual-in_err-push_row.ensures.1 in
    let e = c.in_ok-next.ensures.found (ap Ok c.if-branch.true) in
    let before = c.loop-rows.invariant.1.0 in
    let all = c.loop-rows.invariant.1.1 ∙ (ap (λ (rest : List (List (List ℕ))). before ++ rest) e ∙ sym (append_assoc before (fields_of c.next.new.fields ∷ []) (left_of c.next.new.reader))) in
    rw (p.1, p.2) (λ real. rw all (text-front c.args.kind (before ++ fields_of c.next.new.fields ∷ []) (left_of c.next.new.reader) _ (c.in_err-push_row.ensures.fault real before c.loop-rows.invariant.1.2)))
