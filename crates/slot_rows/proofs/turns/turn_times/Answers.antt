use Rattle.std.proofs.Common.{◌≡◌, ap, ◌∙◌, arith, length, ◌<◌, ◌+◌, suc}
use Rattle.slot_rows.specs.Lists.{rotated}
use Rattle.slot_rows.proofs.Lists.{turned_on}
use Rattle.atomic_table.specs.Table.{turned}
use Rattle.slot_rows.proofs.turns.turn_times.Goals as goal

pub loop-preserved : goal.loop-preserved
loop-preserved g c =
    let e = c.turn.ensures in let i = c.loop.invariant in let l = c.args.seat.now.me.1 in
    let h : c.loop.counter < length l = let a = c.loop-test.true in let b = c.requires in omega arith in
    record {
      table = e.0 ∙ i.table;
      id = e.1 ∙ i.id;
      turned = e.2 ∙ (ap (λ m. (m.0, turned m.1)) i.turned ∙ ap (λ z. (c.args.seat.now.me.0, z)) (turned_on c.loop.counter l h ∙ ap (λ n. rotated n l) (let n : suc c.loop.counter ≡ c.loop.counter + 1 = omega arith in n)));
    }
