use Rattle.std.proofs.Common.{ap, sym, ◌∙◌, subst, ◌<◌, ℕ}
use Rattle.part_geometry.specs.Shape.{Shape}
use Rattle.pair_core.specs.Names.{Return}
use Rattle.pair_rule.proofs.RecvCalls.{stores_return}
use Rattle.pair_rule.proofs.pair.Pair.store_return_as.Goals as goal
use Rattle.pair_rule.specs.Addresses.{address, table_size}

pub store-requires : goal.store-requires
store-requires g c =
    let p = c.self.invariant in let table = c.self.inside.table.shared in let word = c.return_word-number in (
      c.requires.pair.0 ∙ ap (λ v. v.table) (sym c.self.view_is),
      subst (λ (z : ℕ). word.result < z) (ap table_size p.0 ∙ sym p.2) word.ensures.inside,
      stores_return g.C.Content.may table.key p.1 table.table_id.slots c.args.seat.now.id c.args.seat.now.me c.requires.live c.args.round c.args.word g.X.Numbers.one g.X.Numbers.two word.result c.empty_word.result c.requires.allowed c.requires.said.0 c.requires.said.1
          (word.ensures.value ∙ ap (λ (z : Shape). address z (Return c.args.word)) p.0) c.empty_word.ensures,
    )
