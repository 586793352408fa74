use Rattle.std.proofs.Common.{◌≡◌, ℕ, List, Option, Some, map, length, take, drop, ◌+◌, ◌<◌, ◌++◌, ◌^◌, ◌%◌, ◌/◌, bit_or, sym, ap, ◌∙◌, subst, arith, length-drop}
use Rattle.part_geometry.specs.Shape.{Shape}
use Rattle.pair_core.specs.Names.{Return}
use Rattle.slot_rows.specs.Lists.{row, rotated}
use Rattle.slot_rows.specs.Lanes.{wide, place}
use Rattle.slot_rows.proofs.Lists.{around_out, head_at, rotated_length}
use Rattle.slot_rows.proofs.Lanes.{wide_below}
use Rattle.pair_rule.specs.Addresses.{address, table_size}
use Rattle.pair_rule.specs.Buf.{Buf}
use Rattle.pair_rule.specs.Views.{given_back}
use Rattle.pair_rule.specs.Seats.{cells_of}
use Rattle.pair_rule.specs.Parts.{first_slot, place_of}
use Rattle.pair_rule.specs.Steps.{Seat}
use Rattle.pair_rule.proofs.LanesKept.{lane_spot}
use Rattle.pair_rule.proofs.TakeCalls.{none_said, may_give_home, gave}
use Rattle.pair_rule.proofs.pair.Pair.return_bit_as.Goals as goal

pub pass_to-requires-clause-here : goal.pass_to-requires-clause-here
pass_to-requires-clause-here g c = let t = c.requires.lanes.total in let b = wide_below c.args.q c.args.lanes.now in omega arith

pub fetch_or-found-requires : goal.fetch_or-found-requires
fetch_or-found-requires g c =
    let p = c.self.invariant in let table = c.self.inside.table.shared in let word = c.return_word-word in let me = c.args.seat.now.me in
    let q : ℕ = c.args.q in let at : ℕ = place c.args.lanes.now q in let h = c.requires.held in let n : ℕ = cells_of me.0.geometry q in
    let R : List (ℕ × Option Buf) = row (first_slot me.0.geometry (place_of me.0) q) (map Some h.0) in
    let turned : rotated at me.1 ≡ R ++ (drop (at + n) me.1 ++ take at me.1) = head_at me.1 R at n h.2 in (
      c.pass_to.ensures.seat.0 ∙ (c.requires.pair.0 ∙ ap (λ v. v.table) (sym c.self.view_is)),
      subst (λ (z : ℕ). word.result < z) (ap table_size p.0 ∙ sym p.2) word.ensures.inside,
      may_give_home g.C.Content.may table.key p.1 table.table_id.slots c.pass_to.new.seat.id me.0 c.requires.live q c.pass_to.new.seat.me h.0 (drop (at + n) me.1 ++ take at me.1)
          g.X.Numbers.one word.result c.one_bit-mask.result (c.pass_to.ensures.turned ∙ ap (λ (z : List (ℕ × Option Buf)). (me.0, z)) turned) c.requires.allowed h.1 h.3 c.requires.said
          (word.ensures.value ∙ ap (λ (z : Shape). address z (Return (q / 32))) p.0) c.one_bit-mask.ensures,
    )

pub pass_from-requires-clause-here : goal.pass_from-requires-clause-here
pass_from-requires-clause-here g c =
    let me = c.args.seat.now.me in let q : ℕ = c.args.q in let ls = c.args.lanes.now in let p : ℕ = place ls q in
    let e = lane_spot me.0 q (length me.1) ls c.requires.lanes c.requires.allowed in
    let t = gave none_said q g.X.Numbers.one c.fetch_or-found.result (me.0, rotated p me.1) c.pass_to.new.seat.me c.fetch_or-found.new.seat.me c.pass_to.ensures.turned c.requires.said c.fetch_or-found.ensures.2 in
    let a = ap (λ (z : Seat). length z.1) t.1 in let b = length-drop (cells_of me.0.geometry q) (rotated p me.1) in let r = rotated_length p me.1 (omega arith) in omega arith

pub returns-clause-step : goal.returns-clause-step
returns-clause-step g c =
    let me = c.args.seat.now.me in let q : ℕ = c.args.q in let ls = c.args.lanes.now in let p : ℕ = place ls q in
    let e = lane_spot me.0 q (length me.1) ls c.requires.lanes c.requires.allowed in
    let t = gave none_said q g.X.Numbers.one c.fetch_or-found.result (me.0, rotated p me.1) c.pass_to.new.seat.me c.fetch_or-found.new.seat.me c.pass_to.ensures.turned c.requires.said c.fetch_or-found.ensures.2 in
    let w : ℕ = wide (drop (q + 1) ls) in
    c.pass_from.ensures.turned
    ∙ (ap (λ (z : Seat). (z.0, rotated w z.1)) t.1
    ∙ ap (λ (z : List (ℕ × Option Buf)). (given_back q (bit_or c.fetch_or-found.result (2 ^ (q % 32))) me.0, z)) (around_out me.1 p (cells_of me.0.geometry q) w (omega arith)))
