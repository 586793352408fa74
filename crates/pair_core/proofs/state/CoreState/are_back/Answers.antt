use Rattle.std.proofs.Common.{◌<◌, ap, sym, true≢false, arith}
use Rattle.part_geometry.specs.Shape.{Shape}
use Rattle.pair_core.proofs.state.CoreState.are_back.Goals as goal

pub returns-then-take_bit-ne1 : goal.returns-then-take_bit-ne1
returns-then-take_bit-ne1 c = λ core shows.
    let low : c.loop-q.q < c.args.self.now.tables.recv_parts = omega (arith, c.recv_parts-q-end.ensures.value, ap (λ (g : Shape). g.recv_parts) c.geometry-geometry.ensures.value) in
    (λ no. absurd (true≢false (sym no)), λ all. let one = (all c.loop-q.q low).0 in let e = c.take_bit.ensures core shows in absurd (omega arith))

pub returns-then-return_bit-ne1 : goal.returns-then-return_bit-ne1
returns-then-return_bit-ne1 c = λ core shows.
    let low : c.loop-q.q < c.args.self.now.tables.recv_parts = omega (arith, c.recv_parts-q-end.ensures.value, ap (λ (g : Shape). g.recv_parts) c.geometry-geometry.ensures.value) in
    (λ no. absurd (true≢false (sym no)), λ all. let one = (all c.loop-q.q low).1 in let e = c.return_bit.ensures core shows in absurd (omega arith))
