use Rattle.std.proofs.Common.{◌≡◌, ℕ, List, Option, Some, map, length, drop, ◌+◌, ◌-◌, ◌<◌, ◌^◌, ◌%◌, ◌/◌, bit_or, sym, ap, ◌∙◌, subst, arith}
use Rattle.part_geometry.specs.Shape.{Shape}
use Rattle.pair_core.specs.Names.{Take}
use Rattle.slot_rows.specs.Lists.{row, rotated}
use Rattle.slot_rows.specs.Lanes.{wide, place}
use Rattle.slot_rows.proofs.Lists.{put_in, rotated_length}
use Rattle.slot_rows.proofs.Lanes.{wide_below, wide_split}
use Rattle.pair_rule.specs.Addresses.{address, table_size}
use Rattle.pair_rule.specs.Buf.{Buf}
use Rattle.pair_rule.specs.Views.{taken}
use Rattle.pair_rule.specs.Seats.{cells_of}
use Rattle.pair_rule.specs.Parts.{first_slot, place_of}
use Rattle.pair_rule.specs.Steps.{Seat}
use Rattle.pair_rule.proofs.TakeCalls.{none_said, may_take_out, took, taken_row, taken_length}
use Rattle.pair_rule.proofs.pair.Pair.take_bit_as.Goals as goal

pub received-first-requires : goal.received-first-requires
received-first-requires g c =
    let same : c.args.seat.now.me.0.geometry ≡ c.self.inside.tables = (c.requires.pair.1 ∙ ap (λ v. v.key.geometry) (sym c.self.view_is)) ∙ sym c.self.invariant.0 in
    subst (λ (z : Shape). c.args.q < z.recv_parts) same c.requires.allowed.1

pub pass_to-requires-clause-here : goal.pass_to-requires-clause-here
pass_to-requires-clause-here g c = let t = c.requires.lanes.total in let b = wide_below c.args.q c.args.lanes.now in omega arith

pub fetch_or-found-requires : goal.fetch_or-found-requires
fetch_or-found-requires g c =
    let p = c.self.invariant in let table = c.self.inside.table.shared in let word = c.take_word-word in let me = c.args.seat.now.me in
    let tag = ap (λ v. v.key.tag) (sym c.self.view_is) in (
      c.pass_to.ensures.seat.0 ∙ (c.requires.pair.0 ∙ ap (λ v. v.table) (sym c.self.view_is)),
      subst (λ (z : ℕ). word.result < z) (ap table_size p.0 ∙ sym p.2) word.ensures.inside,
      may_take_out g.C.Content.may table.key p.1 table.table_id.slots c.pass_to.new.seat.id me.0 c.requires.live c.args.q c.pass_to.new.seat.me (rotated (place c.args.lanes.now c.args.q) me.1)
          g.X.Finds.may g.X.Finds.part word.result c.one_bit-mask.result c.pass_to.ensures.turned c.requires.allowed
          (λ k i b h. c.requires.may k i b (subst (λ z. g.C.Content.may z k i b) (sym tag) h)) c.requires.said
          (word.ensures.value ∙ ap (λ (z : Shape). address z (Take (c.args.q / 32))) p.0) c.one_bit-mask.ensures,
    )

pub turn_times-requires : goal.turn_times-requires
turn_times-requires g c =
    let me = c.args.seat.now.me in let q : ℕ = c.args.q in let p : ℕ = place c.args.lanes.now q in
    let same : c.self.inside.tables ≡ me.0.geometry = c.self.invariant.0 ∙ sym (c.requires.pair.1 ∙ ap (λ v. v.key.geometry) (sym c.self.view_is)) in
    let n = ap (λ z. z.1 - z.0) c.received-first.ensures.value ∙ ap (λ (z : Shape). cells_of z q) same in
    let t = took g.X.Finds.may none_said q g.X.Finds.part c.fetch_or-found.result (me.0, rotated p me.1) c.pass_to.new.seat.me c.fetch_or-found.new.seat.me c.pass_to.ensures.turned c.requires.said c.fetch_or-found.ensures.2 in
    let a = taken_length g.X.Finds.may me.0 (rotated p me.1) q c.fetch_or-found.result c.fetch_or-found.new.seat.me t in omega arith

pub pass_from-requires-clause-here : goal.pass_from-requires-clause-here
pass_from-requires-clause-here g c =
    let me = c.args.seat.now.me in let q : ℕ = c.args.q in let ls = c.args.lanes.now in let p : ℕ = place ls q in
    let same : c.self.inside.tables ≡ me.0.geometry = c.self.invariant.0 ∙ sym (c.requires.pair.1 ∙ ap (λ v. v.key.geometry) (sym c.self.view_is)) in
    let count : ℕ = c.received-first.result.1 - c.received-first.result.0 in
    let n : count ≡ cells_of me.0.geometry q = ap (λ z. z.1 - z.0) c.received-first.ensures.value ∙ ap (λ (z : Shape). cells_of z q) same in
    let t = took g.X.Finds.may none_said q g.X.Finds.part c.fetch_or-found.result (me.0, rotated p me.1) c.pass_to.new.seat.me c.fetch_or-found.new.seat.me c.pass_to.ensures.turned c.requires.said c.fetch_or-found.ensures.2 in
    let a = taken_length g.X.Finds.may me.0 (rotated p me.1) q c.fetch_or-found.result c.fetch_or-found.new.seat.me t in
    let w = wide_split q ls in let total = c.requires.lanes.total in
    let b = rotated_length p me.1 (omega arith) in
    let d = ap (λ (m : Seat). length m.1) c.turn_times.ensures.turned in
    let e = rotated_length count c.fetch_or-found.new.seat.me.1 (omega arith) in omega arith

pub returns-clause-step : goal.returns-clause-step
returns-clause-step g c =
    let me = c.args.seat.now.me in let q : ℕ = c.args.q in let ls = c.args.lanes.now in let p : ℕ = place ls q in
    let same : c.self.inside.tables ≡ me.0.geometry = c.self.invariant.0 ∙ sym (c.requires.pair.1 ∙ ap (λ v. v.key.geometry) (sym c.self.view_is)) in
    let count : ℕ = c.received-first.result.1 - c.received-first.result.0 in
    let n : count ≡ cells_of me.0.geometry q = ap (λ z. z.1 - z.0) c.received-first.ensures.value ∙ ap (λ (z : Shape). cells_of z q) same in
    let t = took g.X.Finds.may none_said q g.X.Finds.part c.fetch_or-found.result (me.0, rotated p me.1) c.pass_to.new.seat.me c.fetch_or-found.new.seat.me c.pass_to.ensures.turned c.requires.said c.fetch_or-found.ensures.2 in
    let k : ℕ = first_slot me.0.geometry (place_of me.0) q in let R : List (ℕ × Option Buf) = row k (map Some t.1) in
    let size : length R ≡ count = taken_row g.X.Finds.may me.0 q t.1 t.2 k t.3 ∙ sym n in
    let w : ℕ = wide (drop q ls) in
    let gap : p + w ≡ length me.1 = let s = wide_split q ls in let total = c.requires.lanes.total in omega arith in (
      t.1,
      t.2,
      t.3,
      c.pass_from.ensures.turned
          ∙ (ap (λ (z : Seat). (z.0, rotated w z.1)) c.turn_times.ensures.turned
          ∙ (ap (λ (z : Seat). (z.0, rotated w (rotated count z.1))) t.4
          ∙ ap (λ (z : List (ℕ × Option Buf)). (taken q t.2 (bit_or c.fetch_or-found.result (2 ^ (q % 32))) me.0, z)) (put_in me.1 R p count w size gap))),
    )
