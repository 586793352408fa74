use Rattle.grid_text.specs.Printing.{row_text}
use Rattle.std.specs.Fmt.{signed_decimal}
use Rattle.std.proofs.lemmas.Int.{to_z-of_z}
use Rattle.std.proofs.lemmas.List.{take_all}
use Rattle.std.proofs.Common.{arith, rules, get_or, pos, append_assoc, ◌∙◌, ap, List, ℕ, ◌++◌, ◌∷◌, [], FitsSigned, w64}
use Rattle.grid_text.proofs.PrintFacts.{text-more}
use Rattle.grid_text.proofs.print.push_row.Goals as goal

pub loop-col-preserved : goal.loop-col-preserved
loop-col-preserved c =
    let fits : FitsSigned w64 (get_or c.args.row.now c.loop-col.col (pos 0)) = search rules in
    let number = c.as_bytes.ensures.value ∙ (c.format.ensures.text ∙ ap signed_decimal (to_z-of_z w64 _ fits)) in
    text-more c.args.text.now.items c.loop-col.text.items c.push_comma.new.text.items _ c.args.row.now c.loop-col.col c.loop-col-test.true
    c.loop-col.invariant c.in_ok-push_comma.ensures (c.in_ok-extend_from_slice.ensures.items ∙ ap (λ (back : List ℕ). c.push_comma.new.text.items ++ back) number)

pub returns : goal.returns
unfolding row_text
returns c =
    let all = take_all c.loop-col.col c.args.row.now (omega arith) in
    let inv = rw all at c.loop-col.invariant in
    c.in_ok-push.ensures.items ∙ (ap (λ (front : List ℕ). front ++ 10 ∷ []) inv ∙ append_assoc c.args.text.now.items _ (10 ∷ []))
