use Rattle.std.proofs.Common.{◌≡◌, ◌∙◌, ◌%◌, Some, None, ap, sym, subst}
use Rattle.pair_core.specs.Names.{Piece, number}
use Rattle.pair_core.specs.Moves.{MayLay}
use Rattle.pair_core.specs.declared.view.Pending.{Pending}
use Rattle.pair_core.specs.declared.seat.Seat.{Seat}
use Rattle.pair_core.proofs.StateSeats.{read_seat, get_one}
use Rattle.pair_core.proofs.StateLay.{some_map, none_map, some_one}
use Rattle.pair_core.proofs.state.CoreState.lay_of.Goals as goal

pub returns-in-Some-clause-some : goal.returns-in-Some-clause-some
returns-in-Some-clause-some c =
    let v = c.index.result.now in let is = read_seat c.args.self.now.seats.items c.args.at v c.requires c.index.ensures in
    let pend : v.pending ≡ Some c.in-Some.pending = (let h = c.in-Some.is in cc) in
    some_map c.lay_of.result _ _ (λ l lay. (v, c.in-Some.pending, is, pend, lay)) c.lay_of.ensures.some

pub returns-in-Some-clause-none : goal.returns-in-Some-clause-none
returns-in-Some-clause-none c =
    let s = c.args.self.now in let g = s.tables in let v = c.index.result.now in let is = read_seat s.seats.items c.args.at v c.requires c.index.ensures in
    let pend : v.pending ≡ Some c.in-Some.pending = (let h = c.in-Some.is in cc) in
    none_map c.lay_of.result _ _ (λ none w x i there own on may.
    let same = some_one v.pending x c.in-Some.pending (ap (λ (z : Seat). z.pending) (get_one s.seats.items c.args.at v w is there) ∙ own) pend in
    none i (subst (λ (z : Pending). c.args.word ≡ number g (Piece (z.round % g.depth) i)) same on) (subst (λ (z : Pending). MayLay g z c.args.partition i) same may)) c.lay_of.ensures.none

pub returns-in-None-clause-none : goal.returns-in-None-clause-none
returns-in-None-clause-none c = λ w x i there own on may.
    let s = c.args.self.now in let v = c.index.result.now in let is = read_seat s.seats.items c.args.at v c.requires c.index.ensures in
    let pend : v.pending ≡ None = (let h = c.in-None.is in cc) in
    let e : None ≡ Some x = sym pend ∙ (ap (λ (z : Seat). z.pending) (get_one s.seats.items c.args.at v w is there) ∙ own) in absurd (cc)
