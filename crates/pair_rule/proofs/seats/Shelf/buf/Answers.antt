use Rattle.std.proofs.Common.{ap, sym, ◌∙◌, subst, length, ◌<◌, List}
use lib.ListN.{get_elem?}
use Rattle.pair_rule.specs.Buf.{Buf}
use Rattle.atomic_table.proofs.Lists.{at_index}
use Rattle.pair_rule.proofs.seats.Shelf.buf.Goals as goal

pub returns : goal.returns
returns c =
    let e = ap (λ v. v.bufs) c.self.view_is in
    ap (λ (z : List Buf). get_elem? z c.args.i) (sym e) ∙ at_index c.self.inside.bufs.items c.args.i c.index.result.now (subst (λ (z : List Buf). c.args.i < length z) (sym e) c.requires) c.index.ensures
