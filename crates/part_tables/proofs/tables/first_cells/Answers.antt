use Rattle.std.proofs.Common.{◌≡◌, ◌++◌, ◌∷◌, [], length, sym, ap, ◌∙◌, arith}
use Rattle.part_geometry.specs.Cells.{cells}
use Rattle.part_tables.proofs.TableFacts.{so_far_none, so_far_pushed, so_far_kept, so_far_whole, table_len}
use Rattle.part_tables.proofs.tables.first_cells.Goals as goal
use Rattle.part_tables.proofs.tables.first_cells.Goals.{then-part-len+in_ok-push, else-part-len}

pub loop-c-init : goal.loop-c-init
loop-c-init c = so_far_none _ _ _ (ap length c.new-firsts.ensures.items)

pub loop-c-preserved : goal.loop-c-preserved
loop-c-preserved c =
    let v = c.total-total.ensures.limits in
    let size : c.len.result ≡ length c.loop-c.firsts.items = omega (arith, c.loop-c.firsts.ok.0) in
    elim c.if-part-len.branch [
      | then-part-len+in_ok-push w ↦
          so_far_pushed _ _ _ _ _ _ _ _ v c.requires c.loop-c-test.true c.loop-c.invariant c.part.ensures (w.if-part-len.true ∙ size)
          (ap (λ x. x.items) w.firsts-is ∙ w.in_ok-push.ensures.items)
      | else-part-len w ↦
          rw w.firsts-is (so_far_kept _ _ _ _ _ _ _ v c.requires c.loop-c-test.true c.loop-c.invariant c.part.ensures (λ e. w.if-part-len.false (e ∙ sym size)))
    ]

pub returns : goal.returns
returns c =
    let size = table_len _ _ _ c.requires in
    let here : c.loop-c.c ≡ cells c.args.geometry = (let far = c.loop-c-test.false in let near = c.loop-c.auto.c-end in omega arith) in
    so_far_whole _ _ c.loop-c.firsts.items _ c.total-total.ensures.limits (rw here at c.loop-c.invariant)
    (c.in_ok-push-2.ensures.items ∙ ap (λ n. c.loop-c.firsts.items ++ n ∷ []) size)
