use Rattle.std.proofs.Common.{rules, ◌≡◌, ◌<◌, List, Option, Some, length, ap, sym, ◌∙◌}
use mathlib.Core.Option.{some, some-injective}
use lib.ListN.{get_elem?}
use Rattle.atomic_table.proofs.Lists.{at_index}
use Rattle.slot_rows.proofs.Lists.{at_split}
use Rattle.pair_rule.specs.Seats.{Room}
use Rattle.pair_rule.proofs.seats.RecvSeat.take_shelf.Goals as goal

pub index_mut-requires : goal.index_mut-requires
index_mut-requires g c =
    let t = c.requires.there in let same = ap (λ v. v.shelves) (sym c.self.view_is) in
    let h : c.args.q < length c.self.inside.shelves.items = (at_split c.self.inside.shelves.items c.args.q (Some t.0) (ap (λ (z : List (Option Room)). get_elem? z c.args.q) (sym same) ∙ t.1)).0 in search rules

pub unwrap-requires : goal.unwrap-requires
unwrap-requires g c =
    let t = c.requires.there in let same = ap (λ v. v.shelves) (sym c.self.view_is) in
    let items : List (Option Room) = c.self.inside.shelves.items in let at = ap (λ (z : List (Option Room)). get_elem? z c.args.q) (sym same) ∙ t.1 in
    let found = at_index items c.args.q c.index_mut.result.now (at_split items c.args.q (Some t.0) at).0 c.index_mut.ensures.value in
    let is : c.index_mut.result.now ≡ Some t.0 = some-injective c.index_mut.result.now (Some t.0) (sym found ∙ at) in
    let taken : c.take.result ≡ Some t.0 = c.take.ensures.value ∙ is in search rules

pub returns-clause-shelf : goal.returns-clause-shelf
returns-clause-shelf g c =
    let t = c.requires.there in let same = ap (λ v. v.shelves) (sym c.self.view_is) in
    let items : List (Option Room) = c.self.inside.shelves.items in let at = ap (λ (z : List (Option Room)). get_elem? z c.args.q) (sym same) ∙ t.1 in
    let found = at_index items c.args.q c.index_mut.result.now (at_split items c.args.q (Some t.0) at).0 c.index_mut.ensures.value in
    let is : c.index_mut.result.now ≡ Some c.unwrap.result = sym c.take.ensures.value ∙ (let u : c.take.result ≡ Some c.unwrap.result = search rules in u) in
    ap (λ (z : List (Option Room)). get_elem? z c.args.q) same ∙ (found ∙ ap some is)
