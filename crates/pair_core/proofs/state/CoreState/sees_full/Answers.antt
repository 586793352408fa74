use Rattle.std.proofs.Common.{◌↔◌, ◌∙◌, ℕ, ap, sym, subst}
use Rattle.std.specs.Prelude.{IsTrue}
use Rattle.pair_core.specs.Names.{Piece}
use Rattle.pair_core.specs.Reading.{IsFull}
use Rattle.pair_core.proofs.state.CoreState.sees_full.Goals as goal

pub returns : goal.returns
returns c = λ core n shows at.
    let s = c.args.self.now in
    let seen = c.seen-word.ensures core n (Piece c.place-place.result c.args.i) shows at (c.place-place.ensures.limits, c.requires.piece) (sym c.piece_word.ensures.value) in
    let same = seen ∙ ap (λ (z : ℕ). core.seen n (Piece z c.args.i)) c.place-place.ensures.value in
    subst (λ (w : ℕ). IsTrue c.is_full.result ↔ IsFull s.tables w c.args.round c.args.i) same c.is_full.ensures
