use Rattle.std.proofs.Common.{◌≡◌, ℕ, ◌<◌, ◌≤◌, ◌+◌, ◌-◌, ◌%◌, List, ◌++◌, length, drop, length-append, map, sym, ap, ◌∙◌, subst, arith, Option, Some}
use Rattle.std.proofs.lemmas.List.{length-map}
use Rattle.gate_word.specs.Order.{IsLater}
use Rattle.pair_core.specs.Names.{Piece}
use Rattle.pair_rule.specs.declared.view.View.{View}
use Rattle.part_geometry.specs.Shape.{Shape, IsShape}
use Rattle.part_geometry.specs.Pieces.{pieces, Touches}
use Rattle.part_tables.specs.Parts.{first_shared, after_shared}
use Rattle.part_tables.proofs.Facts.{shared-some}
use Rattle.pair_core.specs.declared.view.Pending.{Pending}
use Rattle.pair_core.specs.Core.{IsMarker}
use Rattle.pair_core.proofs.Facts.{touch_part}
use Rattle.slot_rows.specs.Lists.{row}
use Rattle.atomic_table.specs.Seated.{TableId}
use Rattle.pair_rule.specs.Views.{seen, laid}
use Rattle.pair_rule.specs.Buf.{Buf}
use Rattle.pair_rule.specs.Rule.{slot_number}
use Rattle.pair_rule.specs.Seats.{MarkHeld, values}
use Rattle.pair_rule.specs.Steps.{Seat}
use Rattle.pair_rule.specs.Marking.{shared_count, laid_at, with_part}
use Rattle.pair_rule.proofs.Rows.{values_length}
use Rattle.pair_rule.proofs.MarkSeats.{held_of, lay_done}
use Rattle.pair_rule.proofs.pair.Pair.mark_piece.Goals as goal

-- a piece and a partition that touch share a cell, by the pair's tables
shares : (t g d : Shape) → t ≡ g → d ≡ g → IsShape g → (p i : ℕ) → i < pieces d → Touches d i p → (p < t.send_parts) × (first_shared t p i < after_shared t p i)
shares t g d a b v p i inside touch =
    let inside' : i < pieces g = subst (λ (z : Shape). i < pieces z) b inside in let touch' : Touches g i p = subst (λ (z : Shape). Touches z i p) b touch in (
      subst (λ (z : Shape). p < z.send_parts) (sym a) (touch_part g v i p inside' touch'),
      subst (λ (z : Shape). first_shared z p i < after_shared z p i) (sym a) ((shared-some g v p i inside').0 touch'),
    )

-- the slot behind the shared cells
behind : (t d : Shape) → t ≡ d → (e k a f p i at first : ℕ) → at ≡ slot_number t e a → e ≡ k % t.depth → f ≡ first_shared t p i → f ≤ a → first ≡ slot_number d (k % d.depth) (first_shared d p i) → at ≡ first + (a - f)
behind t d same e k a f p i at first at_is e_is f_is low first_is =
    let start : first ≡ slot_number t e f = first_is ∙ (ap (λ (z : Shape). slot_number z (k % z.depth) (first_shared z p i)) (sym same) ∙ (λ j. slot_number t (sym e_is j) (sym f_is j))) in
    omega arith

-- so many slots are out at least
room : (me : Seat) (out others : List (Option Buf)) (bufs : List Buf) (n count : ℕ) → values me.1 ≡ out → out ≡ map Some bufs ++ others → length bufs ≡ n → count ≡ length me.1 → n ≤ count
room me out others bufs n count a b size is =
    let l = values_length me.1 in let m = ap length (a ∙ b) in let s = length-append (map Some bufs) others in let k = length-map bufs Some in omega arith

pub shared-first-requires-clause-part : goal.shared-first-requires-clause-part
shared-first-requires-clause-part g c =
    let f = c.requires.filled.lays in let key = c.self.inside.table.shared.key in
    (shares c.self.inside.tables key.geometry c.args.seat.now.view.geometry c.self.invariant.0 (c.requires.pair.1 ∙ sym (ap (λ q. q.key.geometry) c.self.view_is)) c.self.invariant.1 c.args.partition c.args.piece f.piece f.touches).0

pub overflow_sub-seat : goal.overflow_sub-seat
overflow_sub-seat g c =
    let f = c.requires.filled.lays in let key = c.self.inside.table.shared.key in
    let h = (shares c.self.inside.tables key.geometry c.args.seat.now.view.geometry c.self.invariant.0 (c.requires.pair.1 ∙ sym (ap (λ q. q.key.geometry) c.self.view_is)) c.self.invariant.1 c.args.partition c.args.piece f.piece f.touches).1 in
    let a = ap (λ z. z.0) c.shared-first.ensures.value in let b = ap (λ z. z.1) c.shared-first.ensures.value in omega arith

pub overflow_sub-seat-2 : goal.overflow_sub-seat-2
overflow_sub-seat-2 g c =
    let f = c.requires.filled in let key = c.self.inside.table.shared.key in
    let same : c.args.seat.now.view.geometry ≡ c.self.inside.tables = c.requires.pair.1 ∙ (sym (ap (λ q. q.key.geometry) c.self.view_is) ∙ sym c.self.invariant.0) in
    let n_is : c.shared-first.result.1 - c.shared-first.result.0 ≡ shared_count c.self.inside.tables c.args.partition c.args.piece = (λ j. (c.shared-first.ensures.value j).1 - (c.shared-first.ensures.value j).0) in
    room c.seat.inside.seat.me c.args.seat.now.out f.others f.bufs (c.shared-first.result.1 - c.shared-first.result.0) c.seat.inside.count (ap (λ s. s.out) c.seat.view_is) f.slots
    (f.count ∙ (ap (λ (z : Shape). shared_count z c.args.partition c.args.piece) same ∙ sym n_is)) c.seat.invariant.3

-- what the lay made of the seat
done : (t g : Shape) (now : MarkHeld) → t ≡ g → now.view.geometry ≡ g → IsShape g → (table : TableId) (me me' : Seat) (first : ℕ) → held_of table me first ≡ now → (k p i e a f at count w : ℕ) (x : Pending)
    → i < pieces now.view.geometry → Touches now.view.geometry i p → now.first ≡ slot_number now.view.geometry (k % now.view.geometry.depth) (first_shared now.view.geometry p i)
    → me.1 ≡ row first (values me.1) → count ≡ length me.1 → at ≡ slot_number t e a → e ≡ k % t.depth → f ≡ first_shared t p i → a ≡ after_shared t p i
    → me' ≡ (laid i x (with_part me.0.geometry i p w) me.0, drop (shared_count me.0.geometry p i) me.1)
    → (me'.1 ≡ row at (values me'.1)) × (count - (a - f) ≡ length me'.1) × (held_of table me' at ≡ laid_at p i x w now)
done t g now a b v table me me' first is k p i e after f at count w x inside touch starts in_row size at_is e_is f_is after_is went =
    let same : t ≡ now.view.geometry = a ∙ sym b in
    let h = (shares t g now.view.geometry a b v p i inside touch).1 in
    let mine : now.view.geometry ≡ me.0.geometry = sym (ap (λ (s : MarkHeld). s.view.geometry) is) in
    let n_is : after - f ≡ shared_count me.0.geometry p i = (λ j. after_is j - f_is j) ∙ ap (λ (z : Shape). shared_count z p i) (same ∙ mine) in
    let spot = behind t now.view.geometry same e k after f p i at first at_is e_is f_is (omega arith) (ap (λ (s : MarkHeld). s.first) is ∙ starts) in
    let l = lay_done table me first in_row me' at count (after - f) p i w x size n_is spot went in
    (l.0, l.1, l.2 ∙ ap (laid_at p i x w) is)

pub invariant_of-seat : goal.invariant_of-seat
invariant_of-seat g c =
    let f = c.requires.filled in let key = c.self.inside.table.shared.key in let seat = c.seat.inside.seat in let v = c.seat.invariant in
    let step = c.mark_piece_as-found.ensures.step f.pending (ap (λ s. s.view.pending) c.seat.view_is ∙ f.pends) in
    let d = done c.self.inside.tables key.geometry c.args.seat.now c.self.invariant.0 (c.requires.pair.1 ∙ sym (ap (λ q. q.key.geometry) c.self.view_is)) c.self.invariant.1 seat.table_id seat.me c.mark_piece_as-found.new.seat.me c.seat.inside.first c.seat.view_is
    c.args.round c.args.partition c.args.piece c.place-place.result c.shared-first.result.1 c.shared-first.result.0 c.slot_of-seat-inside.result c.seat.inside.count c.mark_piece_as-found.result f.pending f.lays.piece f.lays.touches f.starts v.2 v.3
    c.slot_of-seat-inside.ensures c.place-place.ensures.value (ap (λ z. z.0) c.shared-first.ensures.value) (ap (λ z. z.1) c.shared-first.ensures.value) step.0 in
    (ap (λ z. z.0.standing) step.0 ∙ v.0, subst (λ (z : Seat). IsMarker z.0.number) (sym step.0) v.1, d.0, d.1)

pub returns-clause-step : goal.returns-clause-step
returns-clause-step g c x pends =
    let f = c.requires.filled in let key = c.self.inside.table.shared.key in let seat = c.seat.inside.seat in let v = c.seat.invariant in
    let step = c.mark_piece_as-found.ensures.step x (ap (λ s. s.view.pending) c.seat.view_is ∙ pends) in
    let d = done c.self.inside.tables key.geometry c.args.seat.now c.self.invariant.0 (c.requires.pair.1 ∙ sym (ap (λ q. q.key.geometry) c.self.view_is)) c.self.invariant.1 seat.table_id seat.me c.mark_piece_as-found.new.seat.me c.seat.inside.first c.seat.view_is
    c.args.round c.args.partition c.args.piece c.place-place.result c.shared-first.result.1 c.shared-first.result.0 c.slot_of-seat-inside.result c.seat.inside.count c.mark_piece_as-found.result x f.lays.piece f.lays.touches f.starts v.2 v.3
    c.slot_of-seat-inside.ensures c.place-place.ensures.value (ap (λ z. z.0) c.shared-first.ensures.value) (ap (λ z. z.1) c.shared-first.ensures.value) step.0 in
    (λ j. held_of (c.mark_piece_as-found.ensures.seat.0 j) c.mark_piece_as-found.new.seat.me c.slot_of-seat-inside.result)
    ∙ d.2

pub returns-clause-later : goal.returns-clause-later
returns-clause-later g c =
    let f = c.requires.filled in
    let step = c.mark_piece_as-found.ensures.step f.pending (ap (λ s. s.view.pending) c.seat.view_is ∙ f.pends) in
    subst (λ (z : ℕ × View). IsLater (seen z.1 (Piece (z.0 % z.1.geometry.depth) c.args.piece)) c.mark_piece_as-found.result)
    (λ j. (f.round j, (c.seat.view_is j).view)) step.3
