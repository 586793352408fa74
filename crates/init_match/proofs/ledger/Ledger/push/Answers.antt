use Rattle.std.proofs.Common.{◌≡◌, ◌<◌, [], ◌∷◌, ◌++◌, length, refl, ap, ◌∙◌, arith}
use Rattle.init_match.specs.Calls.{is_of}
use Rattle.init_match.specs.KeyLists.{lists_of}
use Rattle.init_match.specs.Slots.{appended}
use Rattle.init_match.proofs.LedgerFacts.{few_own, grown}
use Rattle.init_match.proofs.ledger.Ledger.push.Goals as goal

pub overflow_cast-turn : goal.overflow_cast-turn
overflow_cast-turn c =
    let few : length c.self.inside.calls.items < 4294967296 = rw c.self.view_is c.requires in
    let own = few_own c.self.inside.keys c.self.inside.calls.items c.args.call _ c.self.invariant.slots c.of.ensures in
    omega arith

pub invariant_of-self-2 : goal.invariant_of-self-2
invariant_of-self-2 c =
    let p : c.push_reserved.new.self.items ≡ c.reserve.new.self.items ++ c.args.call ∷ [] = c.push_reserved.ensures.items in
    let slot : c.len-slot.result ≡ length c.self.inside.calls.items = (let l = c.len-slot.ensures in omega (arith, c.self.inside.calls.ok.0)) in
    grown c.self.inside _ c.args.call c.self.invariant
    (record {
      calls = p ∙ ap (λ xs. xs ++ c.args.call ∷ []) c.in_ok-reserve.ensures.items;
      turns = c.push_reserved-2.ensures.items ∙ rw (c.in_ok-reserve-2.ensures.items, c.of.ensures) refl;
      keys = c.in_ok-push.ensures.valid;
      slots = λ s q. c.in_ok-push.ensures.ok s q ∙ ap (λ n. appended (is_of s q c.args.call) n (lists_of c.self.inside.keys s q)) slot;
    })
