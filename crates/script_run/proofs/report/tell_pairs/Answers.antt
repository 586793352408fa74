use Rattle.std.proofs.Common.{◌≡◌, ◌∷◌, [], length, refl, sym, ap, ◌∙◌, arith}
use Rattle.std.specs.Vec.Iter.{into_iter_items}
use Rattle.script_run.proofs.Reports.{left_step, left_end, nothing_left}
use Rattle.script_run.proofs.report.tell_pairs.Goals as goal

pub loop-pair-init : goal.loop-pair-init
loop-pair-init c = record {
  left = λ ps z. record { rest = ps; agrees = rw c.into_iter-pair-iterator.ensures.into_iter_gives.0 z; written = refl };
  long = let gives = c.into_iter-pair-iterator.ensures.into_iter_gives.1 in let items = ap length c.into_iter-pair-iterator.ensures.into_iter_gives.0 in omega arith;
}

pub loop-pair-preserved : goal.loop-pair-preserved
loop-pair-preserved c =
    let at = c.loop-pair in
    let steps : into_iter_items at.pair-iterator ≡ c.in-Some.pair ∷ into_iter_items c.next.new.self = c.in-Some.ensures.steps.0 in
    record {
      left = λ ps z. left_step c.in-Some.pair (into_iter_items c.next.new.self) _ _ _ _ steps (at.invariant.left ps z) (c.in_ok-tell.ensures);
      long = let was = at.invariant.long in let gone = c.in-Some.ensures.steps.1 in let short = ap length steps in omega arith;
    }

pub returns : goal.returns
returns c = λ ps z.
    let at = c.loop-pair in
    let empty : into_iter_items at.pair-iterator ≡ [] = nothing_left _ (sym at.invariant.long ∙ c.in-None.ensures.steps.0) in
    left_end _ _ _ empty (at.invariant.left ps z)
