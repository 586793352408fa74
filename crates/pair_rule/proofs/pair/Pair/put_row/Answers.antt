use Rattle.std.proofs.Common.{◌≡◌, ℕ, suc, ◌+◌, ◌<◌, List, [], ◌∷◌, ◌++◌, Option, Some, map, set, length, refl, ap, sym, ◌∙◌, subst, arith, length-append, length-set}
use mathlib.Core.Option.{some}
use lib.ListN.{get_elem?}
use Rattle.part_tables.specs.Parts.{first_received}
use Rattle.slot_rows.specs.Lists.{overlaid}
use Rattle.slot_rows.specs.Lanes.{place}
use Rattle.slot_rows.proofs.Acts.{every_at, every_split}
use Rattle.std.specs.Prelude.{IfSome}
use Rattle.pair_rule.specs.Buf.{Buf}
use Rattle.pair_rule.specs.Rule.{cell_length}
use Rattle.pair_rule.specs.Seats.{cells_of}
use Rattle.pair_rule.specs.Steps.{Seat, AreOf}
use Rattle.pair_rule.specs.Parts.{first_slot, or_own}
use Rattle.pair_rule.proofs.TakeCalls.{same_value}
use Rattle.pair_rule.proofs.Leaving.{value_at, own_or, over_none, put_there, put_more}
use Rattle.pair_rule.proofs.pair.Pair.put_row.Goals as goal

pub loop-shelf-init : goal.loop-shelf-init
loop-shelf-init g c =
    let me = c.args.seat.now.me in let n : ℕ = length c.args.shelf.now.bufs in
    record {
      table = refl;
      id = refl;
      slots = (
        [],
        (let a = c.requires.full in omega arith),
        tt,
        (λ i. (me.0, sym (over_none (place c.args.lanes.now c.args.q + n) (first_slot me.0.geometry c.args.place c.args.q + n) me.1) i)),
      );
      size = refl;
      room = refl;
      of = c.requires.of;
    }

pub put_part-requires-clause-held : goal.put_part-requires-clause-held
put_part-requires-clause-held g c =
    let me = c.args.seat.now.me in let q : ℕ = c.args.q in let e : ℕ = c.args.place in let p : ℕ = place c.args.lanes.now q in let f : ℕ = first_slot me.0.geometry e q in
    let n : ℕ = cells_of me.0.geometry q in let items = c.loop-shelf.shelf.bufs in let new = c.pop-buf.new.self.bufs in let k : ℕ = length new in
    let v = c.loop-shelf.invariant in let h = c.requires.held in let done = v.slots.0 in
    let K : length items ≡ k + 1 = ap length c.pop-buf.ensures.0 ∙ length-append new (c.pop-buf.result ∷ []) in
    let small : k < n = let a = v.slots.1 in omega arith in
    let y = value_at p f n h.0 me.1 k h.1 h.2 small in
    let at = put_there p f me.1 k (length items) (map Some done) y.0 K y.2 in
    (y.0, subst (λ (z : Seat × ℕ). get_elem? z.0.1 (p + z.1) ≡ some (first_slot z.0.0.geometry e q + z.1, y.0)) (λ i. (sym v.slots.3 i, sym c.len-index.ensures i)) at)

pub loop-shelf-preserved : goal.loop-shelf-preserved
loop-shelf-preserved g c =
    let me = c.args.seat.now.me in let q : ℕ = c.args.q in let e : ℕ = c.args.place in let p : ℕ = place c.args.lanes.now q in let f : ℕ = first_slot me.0.geometry e q in
    let n : ℕ = cells_of me.0.geometry q in let items = c.loop-shelf.shelf.bufs in let new = c.pop-buf.new.self.bufs in let k : ℕ = length new in
    let b : Buf = c.pop-buf.result in let v = c.loop-shelf.invariant in let w = c.put_part.ensures in let i : ℕ = c.len-index.result in let h = c.requires.held in
    let done = v.slots.0 in let was : items ≡ new ++ b ∷ [] = c.pop-buf.ensures.0 in
    let K : length items ≡ k + 1 = ap length was ∙ length-append new (b ∷ []) in
    let small : k < n = let a = v.slots.1 in omega arith in
    let y = value_at p f n h.0 me.1 k h.1 h.2 small in
    let r : ℕ = me.0.recv.round in let c0 : ℕ = first_received me.0.geometry q in
    let P : ℕ → Buf → Type 0 = λ j x. (x.round ≡ r) × (length x.bytes ≡ cell_length me.0.geometry j) in
    let two = every_split P c0 new (b ∷ []) (subst (λ (z : List Buf). AreOf me.0.geometry r c0 z) was v.of) in
    let own : IfSome w.slots.0 (P (c0 + k)) =
    (let over : List (ℕ × Option Buf) = overlaid (p + length items) (f + length items) (map Some done) me.1 in
    let found : get_elem? over (p + k) ≡ some (f + k, w.slots.0) =
    subst (λ (z : Seat × ℕ). get_elem? z.0.1 (p + z.1) ≡ some (first_slot z.0.0.geometry e q + z.1, w.slots.0)) (λ j. (v.slots.3 j, c.len-index.ensures j)) w.slots.1 in
    let is : y.0 ≡ w.slots.0 = same_value (f + k) y.0 w.slots.0 (sym (put_there p f me.1 k (length items) (map Some done) y.0 K y.2) ∙ found) in
    subst (λ (z : Option Buf). IfSome z (P (c0 + k))) is (every_at (λ j z. IfSome z (P j)) c0 h.0 k y.0 h.3 y.1)) in
    let put : Buf = or_own b w.slots.0 in
    record {
      table = w.seat.0 ∙ v.table;
      id = w.seat.1 ∙ v.id;
      slots = (
        put ∷ done,
        (let a = v.slots.1 in omega arith),
        (own_or (P (c0 + k)) b w.slots.0 two.1.0 own, subst (λ (z : ℕ). AreOf me.0.geometry r z done) (let d : c0 + length items ≡ suc (c0 + k) = omega arith in d) v.slots.2),
        w.slots.2 ∙ (ap (λ (z : Seat × ℕ). (z.0.0, set z.0.1 (p + z.1) (first_slot z.0.0.geometry e q + z.1, Some put))) (λ j. (v.slots.3 j, c.len-index.ensures j))
            ∙ ap (λ (z : List (ℕ × Option Buf)). (me.0, z)) (put_more p f me.1 k (length items) (Some put) (map Some done) y.0 K y.2)),
      );
      size = ap (λ (z : Seat). length z.1) w.slots.2 ∙ (length-set c.loop-shelf.seat.me.1 (p + i) (first_slot c.loop-shelf.seat.me.0.geometry e q + i, Some put) ∙ v.size);
      room = c.pop-buf.ensures.1 ∙ v.room;
      of = two.0;
    }
