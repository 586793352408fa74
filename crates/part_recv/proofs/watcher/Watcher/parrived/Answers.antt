use Rattle.std.proofs.Common.{◌≡◌, ◌<◌, ◌≤◌, ◌∙◌, sym, ap, subst, arith}
use Rattle.gate_word.specs.Words.{round_in}
use Rattle.part_geometry.specs.Shape.{Shape, IsShape}
use Rattle.pair_rule.specs.Seats.{Held}
use Rattle.pair_rule.specs.declared.view.View.{View}
use Rattle.part_recv.specs.Seeing.{Misses}
use Rattle.part_recv.proofs.News.{misses_new}
use Rattle.part_recv.proofs.watcher.Watcher.parrived.Goals as goal

pub returns-then-round_of-round-clause-look : goal.returns-then-round_of-round-clause-look
returns-then-round_of-round-clause-look g c =
    let f = c.in-Some.ensures.found in let m = f.2.0 in
    let old : c.self.inside.seat.view ≡ c.args.self.now.view = ap (λ (z : Held). z.view) c.self.view_is in
    let new : c.look_over.new.seat.view ≡ f.0 = ap (λ (z : Held). z.view) f.1 in
    let part : c.args.q < c.args.self.now.view.geometry.recv_parts =
    (let a = ap (λ (z : Shape). z.recv_parts) (c.geometry.ensures.value ∙ sym c.requires.pair.1) in let b = c.recv_parts.ensures.value in let low = c.if-q-recv_parts.false in omega arith) in
    let later : c.args.round < round_in c.in-Some.missed.shown = let a = c.round_of.ensures.value in let b = c.if-round_of-round.true in omega arith in
    (part, later, (c.in-Some.missed.piece, subst (λ (z : View × View). Misses c.args.round c.args.q c.in-Some.missed.piece c.in-Some.missed.shown z.0 z.1) (λ j. (old j, sym new j)) m))

pub returns-clause-look : goal.returns-clause-look
returns-clause-look g c =
    let f = c.in-Some.ensures.found in let m = f.2.0 in
    let old : c.self.inside.seat.view ≡ c.args.self.now.view = ap (λ (z : Held). z.view) c.self.view_is in
    let new : c.look_over.new.seat.view ≡ f.0 = ap (λ (z : Held). z.view) f.1 in
    let part : c.args.q < c.args.self.now.view.geometry.recv_parts =
    (let a = ap (λ (z : Shape). z.recv_parts) (c.geometry.ensures.value ∙ sym c.requires.pair.1) in let b = c.recv_parts.ensures.value in let low = c.if-q-recv_parts.false in omega arith) in
    let low : round_in c.in-Some.missed.shown ≤ c.args.round = let a = c.round_of.ensures.value in let b = c.if-round_of-round.false in omega arith in
    let misses : Misses c.args.round c.args.q c.in-Some.missed.piece c.in-Some.missed.shown c.args.self.now.view c.look_over.new.seat.view =
    subst (λ (z : View × View). Misses c.args.round c.args.q c.in-Some.missed.piece c.in-Some.missed.shown z.0 z.1) (λ j. (old j, sym new j)) m in
    let v : IsShape c.args.self.now.view.geometry = subst IsShape (sym c.requires.pair.1) c.geometry.ensures.limits in
    (part, misses, low, misses_new c.args.round c.args.q c.in-Some.missed.piece c.in-Some.missed.shown c.args.self.now.view c.look_over.new.seat.view v part misses low)
