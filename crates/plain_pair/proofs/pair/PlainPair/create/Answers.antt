use Rattle.std.proofs.Common.{◌∙◌}
use Rattle.plain_pair.proofs.Starts.{IsMadeOf, made_first, sound_first, stands_first}
use Rattle.plain_pair.proofs.pair.PlainPair.create.Goals as goal

made : (c : goal.After-geometry-geometry) → IsMadeOf c.args.geometry c.in_ok-tables.tables c.send_parts-send_parts.result c.recv_parts-recv_parts.result c.depth.result c.recv_bytes.result
    c.in_ok-marked.marked.items c.in_ok-taken.taken.items c.in_ok-back.back.items c.in_ok-buffers.buffers.items
made c = record {
  shape = c.in_ok-tables.ensures;
  sends_are = c.send_parts-send_parts.ensures.value;
  recvs_are = c.recv_parts-recv_parts.ensures.value;
  depth_is = c.depth.ensures.value;
  bytes_are = c.recv_bytes.ensures.value;
  marks_are = c.in_ok-marked.ensures;
  takes_are = c.in_ok-taken.ensures;
  backs_are = c.in_ok-back.ensures;
  buffers_are = c.in_ok-buffers.ensures;
}

pub invariant_of-result : goal.invariant_of-result
invariant_of-result c =
    let g = c.args.geometry in
    let limits = rw (c.geometry-geometry.ensures.value, c.in_ok-tables.ensures) at c.geometry-geometry.ensures.limits in
    let needs = rw c.in_ok-tables.ensures at (c.in_ok-missing.ensures ∙ c.needs.ensures) in
    let sound = sound_first g limits _ needs in
    rw (made_first _ _ _ _ _ _ _ _ _ _ (made c)) sound

pub returns-clause-first : goal.returns-clause-first
returns-clause-first c = rw (made_first _ _ _ _ _ _ _ _ _ _ (made c)) (stands_first c.args.geometry _)
