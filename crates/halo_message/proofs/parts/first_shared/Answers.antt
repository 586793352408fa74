use Rattle.std.proofs.Common.{◌∙◌, refl, sym, ◌≤◌, arith}
use Rattle.halo_message.specs.Message.{first_shared, is_shared}
use Rattle.halo_message.proofs.Finding.{find-none, find-some, one-of-both, rounded-up, walk-first, walk-next}
use Rattle.halo_message.proofs.parts.first_shared.Goals as goal

pub loop-n-init : goal.loop-n-init
loop-n-init c =
    let s = c.max-step.result in
    let which = one-of-both c.args.send_parts c.args.recv_parts s c.max-step.ensures in
    let some : 1 ≤ s = omega arith in
    let up = rounded-up c.args.from s c.div_ceil.result some c.div_ceil.ensures in
    walk-first c.args.send_parts c.args.recv_parts c.args.from s _ c.div_ceil.result which some (omega arith) refl up.0 up.1

pub returns-then-is_shared : goal.returns-then-is_shared
unfolding first_shared
returns-then-is_shared c =
    let w = c.loop-n.invariant in
    let reached = w.reached in
    sym (find-some (is_shared c.args.send_parts c.args.recv_parts) 8192 c.args.from c.loop-n.n (omega arith) (omega arith) (sym c.is_shared.ensures ∙ c.if-is_shared.true) w.none)

pub loop-n-preserved : goal.loop-n-preserved
loop-n-preserved c =
    walk-next c.args.send_parts c.args.recv_parts c.args.from c.max-step.result c.loop-n.n c.loop-n.invariant (omega arith) (sym c.is_shared.ensures ∙ c.if-is_shared.false)

pub returns : goal.returns
unfolding first_shared
returns c =
    let w = c.loop-n.invariant in
    sym (find-none (is_shared c.args.send_parts c.args.recv_parts) 8192 c.args.from (λ x g l. w.none x g (omega arith)))
