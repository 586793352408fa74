use Rattle.std.proofs.Common.{rules, ◌≡◌, ◌*◌, [], ◌∷◌, get_or, ap, ◌∙◌, sym, subst}
use Rattle.std.specs.Mem.Slots.{slots_items}
use Rattle.atomic_table.specs.Table.{Joins}
use Rattle.gate_word.specs.Words.{round_in}
use Rattle.part_geometry.specs.Shape.{Shape}
use Rattle.part_geometry.specs.Pieces.{pieces}
use Rattle.pair_core.specs.Names.{Claim, Release}
use Rattle.pair_rule.specs.Addresses.{address}
use Rattle.pair_rule.specs.Rule.{IsWhole, Holds}
use Rattle.pair_rule.specs.First.{closed, spent}
use Rattle.pair_rule.specs.Seats.{rounds_of, rounds_in}
use Rattle.pair_rule.specs.declared.view.View.{View}
use Rattle.pair_rule.proofs.Closing.{recv_joins, closed_splits, told_whole, round_bytes, index_at}
use Rattle.pair_rule.proofs.Core.{laws}
use Rattle.pair_rule.proofs.pair.Pair.close.Goals as goal

pub join_seat-requires : goal.join_seat-requires
join_seat-requires g c =
    let key = c.args.self.key in let parts = c.into_parts-table.ensures.parts in let limits = c.into_parts-table.ensures.limits in
    let place = c.into_place-place.result in let other = c.into_place.result in
    let mine = ap (λ m. m.0) c.into_place-place.ensures.place.1 in let its = ap (λ m. m.0) c.into_place.ensures.place.1 in
    let live = c.into_place-place.ensures.live in let live' = c.into_place.ensures.live in (
      search rules,
      search rules,
      ap (λ m. m.1) c.into_place.ensures.place.1 ∙ c.into_place.ensures.idle c.requires.idle.1,
      search rules,
      subst (λ k. Joins (Holds g.C.Content.may k) place.id place.me.0 other.id other.me.0 (closed place.me.0 other.me.0) spent) (sym parts.1)
          (recv_joins g.C.Content.may key (laws key.geometry limits.0) place.id place.me.0 other.id other.me.0
          (ap (λ (d : View). d.standing) mine ∙ live.0) (ap (λ (d : View). d.number) mine ∙ live.1) (ap (λ (d : View). d.standing) its ∙ live'.0) (ap (λ (d : View). d.number) its ∙ live'.1)
          (ap (λ (d : View). d.send.shut) mine ∙ c.requires.idle.0) (ap (λ (d : View). d.send.markers) mine ∙ c.requires.joined.0)
          (ap (λ (d : View). d.recv.released) its ∙ c.requires.idle.1) (ap (λ (d : View). d.recv.watchers) its ∙ c.requires.joined.1)),
    )

pub split_seat-kept-requires : goal.split_seat-kept-requires
split_seat-kept-requires g c =
    let key = c.into_parts-table.result.0.shared.key in let seat = c.join_seat.new.seat in
    (search rules, search rules, closed_splits g.C.Content.may key seat.id seat.me.0 (ap (λ m. m.0.standing) c.join_seat.ensures.2))

pub returns-clause-record : goal.returns-clause-record
returns-clause-record g c =
    let key = c.args.self.key in
    let parts = c.into_parts-table.ensures.parts in
    let key' = c.into_parts-table.result.0.shared.key in
    let both = closed c.args.send.view c.args.recv.view in
    let is : c.join_seat.new.seat.me.0 ≡ both = ap (λ m. m.0) c.join_seat.ensures.2 ∙ (λ i. closed (c.into_place-place.ensures.place.1 i).0 (c.into_place.ensures.place.1 i).0) in
    let v = c.split_seat-kept.new.seat.me.0 in
    let v_is : v ≡ both = ap (λ m. m.0) c.split_seat-kept.ensures.2 ∙ is in
    let f = c.close_with-closed.ensures.values.2 in
    let told = told_whole g.C.Content.may key' f.0 c.split_seat-kept.new.seat.id v f.1.0 f.1.1 (ap (λ (d : View). d.standing) v_is) in
    let words = slots_items c.close_with-closed.result.words in
    let tables : c.into_parts-table.result.1 ≡ key.geometry = parts.2 in
    let place : c.release_word.result ≡ address key'.geometry Release = c.release_word.ensures.value ∙ ap (λ (z : Shape). address z Release) (tables ∙ sym (ap (λ k. k.geometry) parts.1)) in
    let first : c.claim_word.result ≡ address key'.geometry (Claim 0) = c.claim_word.ensures.value ∙ ap (λ (z : Shape). address z (Claim 0)) (tables ∙ sym (ap (λ k. k.geometry) parts.1)) in
    let sent : c.round_of-sent.result ≡ c.args.send.view.send.round = c.round_of-sent.ensures.value
    ∙ (ap round_in (sym (index_at words c.claim_word.result c.word.result c.word.ensures)) ∙ ((λ i. round_in (get_or (sym f.2 i) (first i) 0)) ∙ (told.1.sent ∙ ap (λ (d : View). d.send.round) v_is))) in
    let received : c.round_of-received.result ≡ c.args.recv.view.recv.round = c.round_of-received.ensures.value
    ∙ (ap round_in (sym (index_at words c.release_word.result c.word-2.result c.word-2.ensures)) ∙ ((λ i. round_in (get_or (sym f.2 i) (place i) 0)) ∙ (told.1.received ∙ ap (λ (d : View). d.recv.round) v_is))) in
    let kept : c.split_seat-kept.result.me.0 ≡ both = ap (λ m. m.0) c.split_seat-kept.ensures.4 ∙ is in
    let rounds : rounds_in c.into_badge.result.views ≡ rounds_of key.geometry c.args.send.view.send.round c.args.send.view.marks =
    ap rounds_in c.into_badge.ensures.2 ∙ (ap (λ (d : View). rounds_in (d ∷ [])) kept ∙ ap (λ (z : Shape). rounds_of z c.args.send.view.send.round c.args.send.view.marks) c.requires.send.1) in
    let pieces_are : c.pieces.result ≡ pieces key.geometry = c.pieces.ensures.value ∙ ap pieces tables in
    λ i. record {
      geometry = (c.geometry-geometry.ensures.value ∙ tables) i;
      sent = sent i;
      received = received i;
      pieces_out = (c.from.ensures ∙ sent) i * pieces_are i;
      rounds = rounds i;
    }

pub returns-clause-whole : goal.returns-clause-whole
returns-clause-whole g c =
    let key = c.args.self.key in
    let parts = c.into_parts-table.ensures.parts in
    let key' = c.into_parts-table.result.0.shared.key in
    let both = closed c.args.send.view c.args.recv.view in
    let is : c.join_seat.new.seat.me.0 ≡ both = ap (λ m. m.0) c.join_seat.ensures.2 ∙ (λ i. closed (c.into_place-place.ensures.place.1 i).0 (c.into_place.ensures.place.1 i).0) in
    let v = c.split_seat-kept.new.seat.me.0 in
    let v_is : v ≡ both = ap (λ m. m.0) c.split_seat-kept.ensures.2 ∙ is in
    let f = c.close_with-closed.ensures.values.2 in
    let told = told_whole g.C.Content.may key' f.0 c.split_seat-kept.new.seat.id v f.1.0 f.1.1 (ap (λ (d : View). d.standing) v_is) in
    subst (λ (z : _ × View). IsWhole g.C.Content.may z.0 z.1) (λ i. (parts.1 i, v_is i)) told.0

pub returns-clause-bytes : goal.returns-clause-bytes
returns-clause-bytes g c k p low high inside = round_bytes g.C.Content.may c.args.self.key (closed c.args.send.view c.args.recv.view) (returns-clause-whole g c) k p low high inside
