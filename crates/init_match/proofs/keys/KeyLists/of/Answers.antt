use Rattle.std.proofs.Common.{ap, sym, ◌∙◌, arith}
use Rattle.std.proofs.lemmas.List.{get_or_read}
use Rattle.init_match.specs.Slots.{no_slots, side_slots}
use Rattle.init_match.proofs.KeyFacts.{lists_none, lists_some}
use Rattle.init_match.proofs.keys.KeyLists.of.Goals as goal

pub index-requires : goal.index-requires
index-requires c =
    let h = c.requires.inside c.args.key _ (sym c.in-Some.ensures.value) in
    omega (arith, c.args.self.now.lists.ok.0)

pub returns-in-Some : goal.returns-in-Some
returns-in-Some c =
    let m = c.args.self.now in
    let place = sym c.in-Some.ensures.value in
    let read = get_or_read m.lists.items _ _ (c.requires.inside c.args.key _ place) c.index.ensures no_slots in
    c.of.ensures ∙ ap (side_slots c.args.side) read ∙ sym (lists_some m c.args.side c.args.key _ place)

pub returns-in-None : goal.returns-in-None
returns-in-None c = sym (lists_none c.args.self.now c.args.side c.args.key (sym c.in-None.ensures.value))
