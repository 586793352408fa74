use Rattle.std.proofs.Common.{refl, sym, subst}
use mathlib.Core.Option.{none}
use Rattle.atomic_table.specs.Table.{step}
use Rattle.part_geometry.specs.Shape.{Shape}
use Rattle.pair_core.specs.Names.{Name, Release}
use Rattle.pair_rule.specs.Views as view
use Rattle.pair_rule.specs.Seats.{IsOf}
use Rattle.pair_rule.specs.Told.{Learns}
use Rattle.pair_rule.specs.declared.view.View.{View}
use Rattle.pair_rule.proofs.Core.{laws}
use Rattle.pair_rule.proofs.Calls.{asked}
use Rattle.pair_rule.proofs.SideSteps.{load_release_leads}
use Rattle.pair_rule.proofs.SendViews.{IsSending, send_learns}
use Rattle.pair_rule.proofs.pair.Pair.load_release.Goals as goal

pub load-requires : goal.load-requires
load-requires g c =
    let may = g.C.Content.may in let t = c.self.inside.table.shared in let key = t.key in let L = laws key.geometry c.self.invariant.1 in
    let seat = c.seat.inside.seat in let d : View = seat.me.0 in
    let X : Shape → Name = λ z. Release in
    asked may key c.self.inside.tables t.table_id c.args.self.now c.self.invariant.0 c.self.invariant.2 c.self.view_is c.self.invariant.1 seat.table_id seat.id seat.me X c.release_word-index.result
    (λ n. n) (λ n. n) (λ n e. view.saw Release n e) (λ n e. Learns e Release n) (step t.table_id.slots c.release_word-index.result 0 0 none)
    (subst (λ z. IsOf z.table z.view c.args.self.now) (sym c.seat.view_is) c.requires.pair) c.seat.invariant.0 c.release_word-index.ensures.value tt
    (λ s r there. let led = load_release_leads may key L s r seat.id d there c.seat.invariant.0 _ refl c.seat.invariant.1 in (_, led.0, led.1))

pub invariant_of-seat : goal.invariant_of-seat
invariant_of-seat g c =
    let me = c.seat.inside.seat.me in let i = c.seat.invariant in let e = c.load.ensures in
    subst (IsSending c.seat.inside.round) (sym e.2.0) (i.0, i.1, i.2, i.3, send_learns me.0 c.load.result e.2.1.later i.4, i.5)
