use Rattle.std.proofs.Common.{◌≡◌, ℕ, ◌*◌, List, [], Option, length, sym, ap, ◌∙◌, subst, refl, arith}
use Rattle.std.proofs.lemmas.List.FromFn.{length-map-range_with_len}
use Rattle.atomic_table.specs.Table.{opening, Me}
use Rattle.part_geometry.specs.Shape.{Shape, IsShape}
use Rattle.pair_rule.specs.Addresses.{table_size}
use Rattle.pair_rule.specs.Buf.{Buf}
use Rattle.pair_rule.specs.First.{first_table, first_bufs, first_view, in_company, receiver}
use Rattle.pair_rule.specs.Parts.{first_lanes, first_shelves, first_shelf}
use Rattle.pair_rule.specs.Rule.{Holds, slot_row}
use Rattle.pair_rule.specs.Seats.{AreLanes}
use Rattle.pair_rule.specs.declared.rule.Key.{Key}
use Rattle.pair_rule.specs.declared.view.View.{View}
use Rattle.pair_rule.specs.declared.view.Standing.TheVariants.{Seated}
use Rattle.pair_rule.proofs.Core.{laws}
use Rattle.pair_rule.proofs.FirstFacts.{first_table-length}
use Rattle.pair_rule.proofs.Splitting.{receiver_splits}
use Rattle.pair_rule.proofs.Starting.{starts, first_bufs-length, first_are_lanes}
use Rattle.pair_rule.proofs.SendViews.{IsSending, first_send}
use Rattle.pair_rule.proofs.pair.Pair.create.Goals as goal

pub new-made-requires : goal.new-made-requires
new-made-requires g c =
    let key : Key g.row.C-Tag.Denot = record { geometry = c.args.geometry; tag = c.args.tag } in
    let same = c.in_ok-tables.ensures in
    let shape : IsShape key.geometry = subst IsShape (c.tables.view_is ∙ same) c.tables.invariant.shape in
    let words : c.deref.result.now ≡ first_table key.geometry = c.deref.ensures.value ∙ (c.in_ok-words.ensures ∙ ap first_table same) in
    let bufs : c.in_ok-bufs.bufs.items ≡ first_bufs key.geometry = c.in_ok-bufs.ensures ∙ ap first_bufs same in
    subst (λ (z : List ℕ × List (Option Buf)). Holds g.C.Content.may key (opening z.0 z.1 (first_view key.geometry)))
    (λ j. (sym words j, sym bufs j)) (starts g.C.Content.may key (laws key.geometry shape) shape)

pub split_seat-recv-requires : goal.split_seat-recv-requires
split_seat-recv-requires g c =
    let made = c.in-Ok.ensures.ok in let me = made.4 in
    let key = c.in-Ok.table.shared.key in
    let same = c.in_ok-tables.ensures in
    let shape : IsShape key.geometry = subst IsShape (c.tables.view_is ∙ (same ∙ sym (ap (λ (z : Key g.row.C-Tag.Denot). z.geometry) made.5))) c.tables.invariant.shape in
    let words : length c.deref.result.now ≡ table_size c.args.geometry =
    ap length (c.deref.ensures.value ∙ (c.in_ok-words.ensures ∙ ap first_table same)) ∙ first_table-length c.args.geometry in (
      made.2,
      omega (arith, made.0),
      receiver_splits g.C.Content.may key (laws key.geometry shape) c.in-Ok.send.id c.in-Ok.send.me.0
          (ap (λ m. m.0.standing) me) (ap (λ m. m.0.number) me) (ap (λ m. m.0.alone) me),
    )

pub invariant_of-send : goal.invariant_of-send
invariant_of-send g c =
    let G = c.args.geometry in let same = c.in_ok-tables.ensures in
    let shape : IsShape G = subst IsShape (c.tables.view_is ∙ same) c.tables.invariant.shape in
    let me : c.split_seat-recv.new.seat.me ≡ (in_company (first_view G), []) = c.split_seat-recv.ensures.2
    ∙ ap (λ (m : Me (Option Buf) View). (in_company m.0, m.1)) c.in-Ok.ensures.ok.4 in
    subst (IsSending 0) (sym me) (refl, refl, refl, refl, first_send G shape, refl)

pub invariant_of-recv : goal.invariant_of-recv
invariant_of-recv g c =
    let G = c.args.geometry in let same = c.in_ok-tables.ensures in
    let shape : IsShape G = subst IsShape (c.tables.view_is ∙ same) c.tables.invariant.shape in
    let me : c.split_seat-recv.result.me ≡ (receiver (first_view G), []) = c.split_seat-recv.ensures.4
    ∙ ap (λ (m : Me (Option Buf) View). (receiver m.0, [])) c.in-Ok.ensures.ok.4 in
    let lanes : c.in_ok-lanes.lanes.items ≡ first_lanes G = c.in_ok-lanes.ensures ∙ ap first_lanes same in
    let shelves : length c.in_ok-shelves.shelves.items ≡ G.recv_parts =
    ap length (c.in_ok-shelves.ensures ∙ ap first_shelves same) ∙ length-map-range_with_len (first_shelf G) 0 G.recv_parts in
    subst (λ (m : Me (Option Buf) View). (m.0.standing ≡ Seated) × (m.0.number ≡ 1) × AreLanes m.0 (length m.1) c.in_ok-lanes.lanes.items
    × (length c.in_ok-shelves.shelves.items ≡ m.0.geometry.recv_parts) × (0 ≡ m.0.recv.round))
    (sym me)
    (refl, refl, subst (AreLanes (receiver (first_view G)) 0) (sym lanes) (first_are_lanes G shape), shelves, refl)

pub invariant_of-result : goal.invariant_of-result
invariant_of-result g c =
    let made = c.in-Ok.ensures.ok in let same = c.in_ok-tables.ensures in
    let G = c.args.geometry in
    let back : G ≡ c.in-Ok.table.shared.key.geometry = sym (ap (λ (z : Key g.row.C-Tag.Denot). z.geometry) made.5) in
    let shape : IsShape G = subst IsShape (c.tables.view_is ∙ same) c.tables.invariant.shape in
    let words : length c.deref.result.now ≡ table_size G = ap length (c.deref.ensures.value ∙ (c.in_ok-words.ensures ∙ ap first_table same)) ∙ first_table-length G in
    let bufs : length c.in_ok-bufs.bufs.items ≡ G.depth * slot_row G = ap length (c.in_ok-bufs.ensures ∙ ap first_bufs same) ∙ first_bufs-length G in
    (same ∙ back, subst IsShape back shape, made.0 ∙ (words ∙ ap table_size back), made.1 ∙ (bufs ∙ ap (λ (z : Shape). z.depth * slot_row z) back))
