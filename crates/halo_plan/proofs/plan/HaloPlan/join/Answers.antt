use Rattle.std.proofs.Common.{◌∙◌, ap, ◌++◌, ◌∷◌, [], length, take}
use Rattle.init_match.specs.World.{init_answer}
use Rattle.halo_plan.specs.Edges.{edges}
use Rattle.halo_plan.specs.Worlds.{send_of}
use Rattle.halo_plan.proofs.Accepting.{joined-is, next-edge, passed-on, recv-fine, recv-known, send-fine, send-known, sent-is, unless-memory}
use Rattle.halo_plan.proofs.plan.HaloPlan.join.Goals as goal

pub accepted-requires : goal.accepted-requires
accepted-requires c =
    let p = c.args.self.now in let d = c.edge-from.result in let w = c.args.world.now in
    let g = c.geometry-cut.ensures in let m = c.message.ensures in let n = c.elements-elements.ensures in
    let call = send-known p d c.geometry-cut.result c.send_parts.result c.send_bytes.result g.value c.send_parts.ensures.value c.send_bytes.ensures.value in
    let next = next-edge p c.args.e c.elements-elements.result d c.message.result.now c.geometry-cut.result m.limits c.edge-from.ensures.value c.edge-from.ensures.ranks m.value n.value n.few g.value g.limits g.whole in
    unless-memory c.psend_init-sent.result (length w.calls)
    (λ apart. c.psend_init-sent.ensures.answer apart ∙ (ap (init_answer w) call ∙ send-fine p (take c.args.e (edges p)) d w next c.requires.calls))

pub accepted-requires-2 : goal.accepted-requires-2
accepted-requires-2 c =
    let p = c.args.self.now in let d = c.edge-from.result in let w = c.args.world.now in
    let g = c.geometry-cut.ensures in let m = c.message.ensures in let n = c.elements-elements.ensures in
    let call = send-known p d c.geometry-cut.result c.send_parts.result c.send_bytes.result g.value c.send_parts.ensures.value c.send_bytes.ensures.value in
    let back = recv-known p d c.geometry-cut.result c.recv_parts.result c.recv_bytes.result g.value c.recv_parts.ensures.value c.recv_bytes.ensures.value in
    let next = next-edge p c.args.e c.elements-elements.result d c.message.result.now c.geometry-cut.result m.limits c.edge-from.ensures.value c.edge-from.ensures.ranks m.value n.value n.few g.value g.limits g.whole in
    let sent = sent-is p d w c.psend_init-sent.new.self c.psend_init-sent.result _ call c.in_ok-accepted.ensures.ok c.psend_init-sent.ensures.world in
    unless-memory c.precv_init-received.result (length (w.calls ++ send_of p d ∷ []))
    (λ apart. c.precv_init-received.ensures.answer apart ∙ ((λ i. init_answer (sent i) (back i)) ∙ recv-fine p (take c.args.e (edges p)) d w next c.requires.calls))

pub returns : goal.returns
returns c =
    let p = c.args.self.now in let d = c.edge-from.result in let w = c.args.world.now in
    let g = c.geometry-cut.ensures in
    let call = send-known p d c.geometry-cut.result c.send_parts.result c.send_bytes.result g.value c.send_parts.ensures.value c.send_bytes.ensures.value in
    let back = recv-known p d c.geometry-cut.result c.recv_parts.result c.recv_bytes.result g.value c.recv_parts.ensures.value c.recv_bytes.ensures.value in
    let sent = sent-is p d w c.psend_init-sent.new.self c.psend_init-sent.result _ call c.in_ok-accepted.ensures.ok c.psend_init-sent.ensures.world in
    passed-on c.accepted-2.result _ _ c.accepted-2.ensures.ok
    (joined-is p (edges p) c.args.e d w c.psend_init-sent.new.self c.precv_init-received.new.self c.precv_init-received.result _ c.requires.calls c.edge-from.ensures.value sent back c.precv_init-received.ensures.world)
