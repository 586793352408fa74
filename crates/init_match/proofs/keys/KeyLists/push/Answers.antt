use Rattle.std.proofs.Common.{refl, ap, ◌∙◌}
use Rattle.init_match.specs.Slots.{appended}
use Rattle.init_match.proofs.KeyFacts.{on_ok_by, on_err_by, same_lists, lists_pushed}
use Rattle.init_match.proofs.keys.KeyLists.push.Goals as goal

pub returns-clause-ok : goal.returns-clause-ok
returns-clause-ok c =
    on_ok_by c.push_at.result
    (λ items s q.
    lists_pushed c.place.new.self _ c.args.side c.args.key c.args.slot c.in_ok-index.index c.in_ok-index.ensures.valid
    (record { place = c.in_ok-index.ensures.place; places = λ q. refl; items = items }) s q
    ∙ ap (appended _ c.args.slot) (c.in_ok-index.ensures.same s q))
    c.push_at.ensures.ok

pub returns-clause-err : goal.returns-clause-err
returns-clause-err c =
    on_err_by c.push_at.result (λ items s q. same_lists c.place.new.self _ (λ q. refl) items s q ∙ c.in_ok-index.ensures.same s q) c.push_at.ensures.err
