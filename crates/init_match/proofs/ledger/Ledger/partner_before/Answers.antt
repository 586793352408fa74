use Rattle.std.proofs.Common.{◌<◌, length, Some, ap, sym, ◌∙◌, arith}
use Rattle.std.proofs.lemmas.Option.{slice_get_within, get_or_from_slice_get}
use Rattle.init_match.proofs.LedgerFacts.{found, not_found}
use Rattle.init_match.proofs.ledger.Ledger.partner_before.Goals as goal

pub index-requires : goal.index-requires
index-requires c =
    let a = c.in-Some.ensures.lookup in
    let f = found c.self.inside.keys c.self.inside.calls.items c.args.call _ _ _ _ c.self.invariant.slots c.facing.ensures c.of-turn.ensures c.of.ensures a.3.0 a.1 in
    let within : c.in-Some.slot.now < length c.self.inside.calls.items = slice_get_within _ _ _ f.1 in
    omega (arith, c.self.inside.calls.ok.0)

pub returns-in-Some : goal.returns-in-Some
returns-in-Some c =
    let a = c.in-Some.ensures.lookup in
    let f = found c.self.inside.keys c.self.inside.calls.items c.args.call _ _ _ _ c.self.invariant.slots c.facing.ensures c.of-turn.ensures c.of.ensures a.3.0 a.1 in
    rw (← c.self.view_is) (ap (λ x. Some (c.in-Some.slot.now, x)) (c.index.ensures ∙ get_or_from_slice_get c.self.inside.calls.items c.in-Some.slot.now _ c.index.result.now f.1) ∙ sym f.2)

pub returns-in-None : goal.returns-in-None
returns-in-None c =
    let a = c.in-None.ensures.lookup in
    rw (← c.self.view_is) (sym (not_found c.self.inside.keys c.self.inside.calls.items c.args.call _ _ _ c.self.invariant.slots c.facing.ensures c.of-turn.ensures c.of.ensures a.3))
