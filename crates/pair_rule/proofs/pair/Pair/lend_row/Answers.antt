use Rattle.std.proofs.Common.{◌≡◌, ℕ, ◌+◌, ◌-◌, ◌<◌, true, List, [], ◌∷◌, ◌++◌, Option, Some, map, set, length, refl, ap, sym, ◌∙◌, subst, arith, length-append, length-set}
use mathlib.Core.Option.{some}
use lib.ListN.{get_elem?}
use Rattle.part_geometry.specs.Shape.{Shape}
use Rattle.slot_rows.specs.Lists.{row, overlaid}
use Rattle.slot_rows.specs.Lanes.{place}
use Rattle.pair_rule.specs.Buf.{Buf}
use Rattle.pair_rule.specs.Seats.{cells_of}
use Rattle.pair_rule.specs.Steps.{Seat}
use Rattle.pair_rule.specs.Parts.{first_slot, AreLeft}
use Rattle.pair_rule.proofs.LanesKept.{flags_there}
use Rattle.pair_rule.proofs.TakeCalls.{same_value}
use Rattle.pair_rule.proofs.Leaving.{over_none, left_length, left_more, lend_at, lend_set, lend_more}
use Rattle.pair_rule.proofs.pair.Pair.lend_row.Goals as goal

pub received-first-requires : goal.received-first-requires
received-first-requires g c =
    let me = c.args.seat.now.me in
    let same : me.0.geometry ≡ c.self.inside.tables = (c.requires.pair.1 ∙ ap (λ v. v.key.geometry) (sym c.self.view_is)) ∙ sym c.self.invariant.0 in
    subst (λ (z : Shape). c.args.q < z.recv_parts) same (flags_there me.0 (length me.1) c.args.q c.args.lanes.now true true c.requires.lanes c.requires.out)

pub loop-index-init : goal.loop-index-init
loop-index-init g c =
    let me = c.args.seat.now.me in let e = c.requires.room.0 in let f : ℕ = first_slot me.0.geometry c.args.place c.args.q in
    record {
      table = refl;
      id = refl;
      slots = ([], subst (λ (z : List Buf). AreLeft z []) (sym e) tt, (λ i. (me.0, sym (over_none (place c.args.lanes.now c.args.q) f me.1) i)));
      size = refl;
      count = ap length e;
      room = omega arith;
      bufs = ap (λ (z : List Buf). row f (map Some z)) e;
    }

pub lend_part-buf-requires-clause-held : goal.lend_part-buf-requires-clause-held
lend_part-buf-requires-clause-held g c =
    let me = c.args.seat.now.me in let q : ℕ = c.args.q in let e : ℕ = c.args.place in let p : ℕ = place c.args.lanes.now q in let f : ℕ = first_slot me.0.geometry e q in
    let n : ℕ = cells_of me.0.geometry q in let h = c.requires.held in let v = c.loop-index.invariant in let k : ℕ = c.loop-index.index in
    let same : c.self.inside.tables ≡ me.0.geometry = c.self.invariant.0 ∙ sym (c.requires.pair.1 ∙ ap (λ v. v.key.geometry) (sym c.self.view_is)) in
    let count = ap (λ z. z.1 - z.0) c.received-first.ensures.value ∙ ap (λ (z : Shape). cells_of z q) same in
    let small : k < n = let t = c.loop-index-test.true in omega arith in
    let y = lend_at p f n h.0 me.1 h.1 h.2 k v.slots.0 (left_length c.loop-index.shelf.bufs v.slots.0 v.slots.1 ∙ v.count) small in
    (y.0, subst (λ (z : Seat). get_elem? z.1 (p + k) ≡ some (first_slot z.0.geometry e q + k, Some y.0)) (sym v.slots.2) y.1)

pub loop-index-preserved : goal.loop-index-preserved
loop-index-preserved g c =
    let me = c.args.seat.now.me in let q : ℕ = c.args.q in let e : ℕ = c.args.place in let p : ℕ = place c.args.lanes.now q in let f : ℕ = first_slot me.0.geometry e q in
    let n : ℕ = cells_of me.0.geometry q in let h = c.requires.held in let v = c.loop-index.invariant in let k : ℕ = c.loop-index.index in let items = c.loop-index.shelf.bufs in
    let same : c.self.inside.tables ≡ me.0.geometry = c.self.invariant.0 ∙ sym (c.requires.pair.1 ∙ ap (λ v. v.key.geometry) (sym c.self.view_is)) in
    let count = ap (λ z. z.1 - z.0) c.received-first.ensures.value ∙ ap (λ (z : Shape). cells_of z q) same in
    let small : k < n = let t = c.loop-index-test.true in omega arith in
    let w = c.lend_part-buf.ensures in let r = c.push.ensures in let b : Buf = c.lend_part-buf.result in
    let vs = v.slots.0 in let long : length vs ≡ k = left_length items vs v.slots.1 ∙ v.count in
    let y = lend_at p f n h.0 me.1 h.1 h.2 k vs long small in
    let found : get_elem? (overlaid p f vs me.1) (p + k) ≡ some (f + k, Some b) =
    subst (λ (z : Seat). get_elem? z.1 (p + k) ≡ some (first_slot z.0.geometry e q + k, Some b)) v.slots.2 w.found in
    let is : Some y.0 ≡ Some b = same_value (f + k) (Some y.0) (Some b) (sym y.1 ∙ found) in
    let left = w.slots.0 in
    record {
      table = w.seat.0 ∙ v.table;
      id = w.seat.1 ∙ v.id;
      slots = (
        vs ++ left ∷ [],
        subst (λ (z : List Buf). AreLeft z (vs ++ left ∷ [])) (sym r.0) (left_more items vs b left v.slots.1 w.slots.1),
        w.slots.2 ∙ (ap (λ (z : Seat). (z.0, set z.1 (p + k) (first_slot z.0.geometry e q + k, left))) v.slots.2
            ∙ ap (λ (z : List (ℕ × Option Buf)). (me.0, z)) (lend_set p f n h.0 me.1 h.1 h.2 k vs left long small)),
      );
      size = ap (λ (z : Seat). length z.1) w.slots.2 ∙ (length-set c.loop-index.seat.me.1 (p + k) (first_slot c.loop-index.seat.me.0.geometry e q + k, left) ∙ v.size);
      count = let a = ap length r.0 in let d = length-append items (b ∷ []) in let s = v.count in omega arith;
      room = let a = v.room in let d = r.1 in omega arith;
      bufs = ap (λ (z : List Buf). row f (map Some z)) r.0 ∙ lend_more p f n h.0 me.1 h.1 h.2 k items b v.count v.bufs (y.2 ∙ ap (λ (z : Option Buf). some (f + k, z)) is);
    }
