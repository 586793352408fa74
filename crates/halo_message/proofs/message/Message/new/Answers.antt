use Rattle.std.proofs.Common.{◌∙◌, sym, subst, IfOk}
use Rattle.part_geometry.specs.Shape.{IsShape}
use Rattle.halo_message.specs.Message.{IsMessage, Message}
use Rattle.halo_message.proofs.Making.{kept, ok-same, elements-from, elements-within, shared-there}
use Rattle.halo_message.proofs.message.Message.new.Goals as goal

pub unwrap-elements-requires : goal.unwrap-elements-requires
unwrap-elements-requires c =
    let s = c.requires.send_parts in let r = c.requires.recv_parts in
    rw c.first_shared.ensures (shared-there c.args.send_parts c.args.recv_parts c.args.values s.0 r.0 c.requires.multiple)

pub cut-requires-clause-elements : goal.cut-requires-clause-elements
cut-requires-clause-elements c =
    let v = c.requires.values in
    elements-within c.args.send_parts c.args.recv_parts c.args.values c.unwrap-elements.result v.0 v.1
    (elements-from c.args.send_parts c.args.recv_parts c.args.values c.unwrap-elements.result (sym c.first_shared.ensures ∙ c.unwrap-elements.ensures))

pub cut-requires-clause-shared : goal.cut-requires-clause-shared
cut-requires-clause-shared c = (elements-from _ _ _ _ (sym c.first_shared.ensures ∙ c.unwrap-elements.ensures)).shared

pub invariant_of-result : goal.invariant_of-result
invariant_of-result c =
    let a = c.args in let q = c.requires in
    let m : Message = record { values = a.values; send_parts = a.send_parts; recv_parts = a.recv_parts; grain = a.grain; depth = a.depth } in
    let s : IsMessage m = record {
      values = q.values;
      send_parts = q.send_parts;
      recv_parts = q.recv_parts;
      multiple = q.multiple;
      grain = q.grain;
      depth = q.depth;
    } in
    kept m c.unwrap-elements.result c.unwrap-geometry.result s (sym c.first_shared.ensures ∙ c.unwrap-elements.ensures) (ok-same _ _ (sym c.unwrap-geometry.ensures ∙ c.cut.ensures.value))
    (subst (λ r. IfOk r IsShape) c.unwrap-geometry.ensures c.cut.ensures.limits)
