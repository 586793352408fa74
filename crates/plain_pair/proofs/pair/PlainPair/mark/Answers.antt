use Rattle.std.proofs.Common.{ap, sym, subst, ◌∙◌, arith}
use Rattle.part_geometry.proofs.Bounds.{cells-le}
use Rattle.part_geometry.proofs.PieceFacts.{pieces-le}
use Rattle.plain_pair.specs.Pair.{kept_of}
use Rattle.plain_pair.specs.Marking.{CanMark}
use Rattle.plain_pair.proofs.Marks.{IsMarked, room_now, some_missing, sound_mark, marks}
use Rattle.plain_pair.proofs.Growth.{grows}
use Rattle.plain_pair.proofs.pair.PlainPair.mark.Goals as goal

pub store-requires-clause-room : goal.store-requires-clause-room
store-requires-clause-room c =
    rw (c.place.ensures, c.recv_parts.ensures.value, c.geometry-geometry.ensures.value)
    (room_now (kept_of c.self.inside) _ _ c.self.invariant (subst (λ k. CanMark k c.args.p) (sym c.self.view_is) c.requires.free))

pub count_down-requires-clause-few : goal.count_down-requires-clause-few
count_down-requires-clause-few c =
    let v = c.self.invariant.shape in let a = cells-le _ v in let b = pieces-le c.self.inside.tables in let l = v.length in let i = c.send_pieces-first.ensures.inside in
    omega arith

pub count_down-requires-clause-some : goal.count_down-requires-clause-some
count_down-requires-clause-some c =
    some_missing (kept_of c.self.inside) _ _ _ _ c.self.invariant (subst (λ k. CanMark k c.args.p) (sym c.self.view_is) c.requires.free) c.send_pieces-first.ensures

-- what the steps of the work leave
left : (c : goal.After-count_down) → IsMarked (kept_of c.self.inside) c.args.p c.args.bytes.now c.self.inside.missing.items c.count_down.new.missing.items
    c.store.new.buffers.items c.send_pieces-first.result.0 c.send_pieces-first.result.1
left c = record {
  size = c.requires.length ∙ ap (λ k. k.shape.send_bytes) (sym c.self.view_is);
  touched = c.send_pieces-first.ensures;
  lessens = c.count_down.ensures.left;
  stores = rw (c.place.ensures, c.recv_parts.ensures.value, c.geometry-geometry.ensures.value) at c.store.ensures;
}

pub invariant_of-self : goal.invariant_of-self
invariant_of-self c =
    rw c.add.ensures (sound_mark (kept_of c.self.inside) _ _ _ _ _ _ _ c.self.invariant (subst (λ k. CanMark k c.args.p) (sym c.self.view_is) c.requires.free) (left c))

pub returns-clause-marks : goal.returns-clause-marks
returns-clause-marks c =
    rw (← c.self.view_is, c.add.ensures)
    (marks (kept_of c.self.inside) _ _ _ _ _ _ _ _ c.self.invariant (subst (λ k. CanMark k c.args.p) (sym c.self.view_is) c.requires.free) (left c) c.count_down.ensures.whole)

pub returns-clause-grows : goal.returns-clause-grows
returns-clause-grows c =
    rw (← c.self.view_is, c.add.ensures)
    (grows (kept_of c.self.inside) _ c.args.p _ _ _ _ c.self.invariant (subst (λ k. CanMark k c.args.p) (sym c.self.view_is) c.requires.free) c.send_pieces-first.ensures c.count_down.ensures.whole)
