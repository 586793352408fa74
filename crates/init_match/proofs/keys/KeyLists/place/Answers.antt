use Rattle.std.proofs.Common.{◌≡◌, length, refl, sym, ◌∙◌, arith}
use Rattle.init_match.proofs.KeyFacts.{IsPlaced, same_lists, valid_placed, same_placed}
use Rattle.init_match.proofs.keys.KeyLists.place.Goals as goal

pub returns-in_err-reserve-clause-same : goal.returns-in_err-reserve-clause-same
returns-in_err-reserve-clause-same c = same_lists c.args.self.now _ (λ q. refl) c.in_err-reserve.ensures.items

pub returns-in_err-insert-clause-same : goal.returns-in_err-insert-clause-same
returns-in_err-insert-clause-same c = same_lists c.args.self.now _ (λ q. rw c.in_err-insert.ensures.err refl) c.in_ok-reserve.ensures.items

-- the list that was made
placed : (c : goal.After-push_reserved) → IsPlaced c.args.self.now record { index = c.insert.new.self; lists = c.push_reserved.new.self } c.args.key
placed c =
    let len : c.len-index.result ≡ length c.args.self.now.lists.items = (let e = c.len-index.ensures in omega (arith, c.args.self.now.lists.ok.0)) in
    record {
      none = sym c.in_default.ensures.value;
      places = λ q. rw (← len) (c.in_ok-insert.ensures.updates.0 q);
      items = c.push_reserved.ensures.items ∙ rw (c.in_ok-reserve.ensures.items, c.new-slots.ensures) refl;
    }

pub returns-clause-valid : goal.returns-clause-valid
returns-clause-valid c = valid_placed c.args.self.now _ c.args.key c.requires (placed c)

pub returns-clause-same : goal.returns-clause-same
returns-clause-same c = same_placed c.args.self.now _ c.args.key c.requires (placed c)
