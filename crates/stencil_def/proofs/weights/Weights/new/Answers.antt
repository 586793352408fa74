use Rattle.std.proofs.Common.{◌≡◌, length, pos, refl, arith, if◌then◌else◌, ◌==◌, rules}
use Rattle.std.proofs.lemmas.List.Elements.{All-replicate}
use Rattle.stencil_def.specs.Limits.{IsWeight}
use Rattle.stencil_def.proofs.SquareFacts.{get_or-zeros, square-same}
use Rattle.stencil_def.proofs.weights.Weights.new.Goals as goal
use Rattle.stencil_def.proofs.weights.Weights.new.Goals.{then-values-eq9, else-values-eq9}

pub loop-i-init : goal.loop-i-init
loop-i-init c = record {
  length = refl;
  taken = λ k h. absurd (omega arith);
  rest = λ k h. get_or-zeros 25 k;
  limits = All-replicate IsWeight 25 (pos 0) (omega arith);
}

pub returns : goal.returns
returns c =
    let end : c.loop-i.i ≡ length c.args.values.now = omega arith in
    let reach : c.if-values-eq9.reach ≡ (if length c.args.values.now == 9 then 1 else 2) =
    elim c.if-values-eq9.branch [ then-values-eq9 w ↦ search rules | else-values-eq9 w ↦ search rules ] in
    square-same c.args.values.now c.loop-i.kept c.if-values-eq9.reach reach c.loop-i.invariant.length
    (λ k h. c.loop-i.invariant.taken k (omega arith))
    (λ k h. c.loop-i.invariant.rest k (omega arith))
