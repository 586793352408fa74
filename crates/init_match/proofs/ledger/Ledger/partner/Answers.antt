use Rattle.std.proofs.Common.{◌≡◌, ◌<◌, Some, [], get_or, length, take, refl, ap, sym, ◌∙◌, arith}
use Rattle.std.specs.List.{slice_get}
use Rattle.std.proofs.lemmas.List.{get_or_read}
use Rattle.std.proofs.lemmas.Option.{slice_get_past, slice_get_read}
use Rattle.init_match.specs.Matching.{turn_of}
use Rattle.init_match.specs.KeyLists.{lists_of}
use Rattle.init_match.specs.Calls.{slots_of, facing}
use Rattle.init_match.proofs.Placing.{partner_at, partner_past, turn_at, turns_many, got}
use Rattle.init_match.proofs.ledger.Ledger.partner.Goals as goal

pub returns-in_err-call : goal.returns-in_err-call
returns-in_err-call c =
    let a = c.in_err-call.ensures.lookup in
    let e = c.deref.ensures.value in
    c.from_residual.ensures ∙ sym (rw (← c.self.view_is) (partner_past c.self.inside.calls.items c.args.slot (slice_get_past _ _ (rw e at a.3))))

pub index-requires : goal.index-requires
index-requires c =
    let a = c.in_ok-call.ensures.lookup in
    let e = c.deref.ensures.value in
    let inside = rw e at a.3.0 in
    let many = turns_many [] c.self.inside.calls.items in
    let turns = ap length c.self.invariant.turns in
    omega (arith, c.self.inside.turns.ok.0)

pub returns : goal.returns
returns c =
    let calls = c.self.inside.calls.items in
    let call = c.in_ok-call.call.now in
    let e = c.deref.ensures.value in
    let a = c.in_ok-call.ensures.lookup in
    let there : slice_get calls c.args.slot ≡ Some call = slice_get_read calls (length calls) c.args.slot call refl (rw e at a.3.0) (rw e at a.1) in
    let within = rw e at a.3.0 in
    let many = turns_many [] calls in
    let turns = ap length c.self.invariant.turns in
    let inside : c.args.slot < length c.self.inside.turns.items = omega arith in
    let turn : c.index.result.now ≡ turn_of (take c.args.slot calls) call =
    get_or_read c.self.inside.turns.items _ _ inside c.index.ensures 0 ∙ ap (λ ts. get_or ts c.args.slot 0) c.self.invariant.turns ∙ turn_at [] calls c.args.slot call there in
    let others : c.of.result.now ≡ slots_of (facing call.side) call.key calls =
    c.of.ensures ∙ ap (λ s. lists_of c.self.inside.keys s call.key) c.facing.ensures ∙ c.self.invariant.slots (facing call.side) call.key in
    let b = c.get-2.ensures.lookup in
    rw (← c.self.view_is)
    (c.copied.ensures ∙ got _ _ _ b.0 b.1 ∙ ap (slice_get c.of.result.now) turn ∙ ap (λ xs. slice_get xs (turn_of (take c.args.slot calls) call)) others ∙ sym (partner_at calls c.args.slot call there))
