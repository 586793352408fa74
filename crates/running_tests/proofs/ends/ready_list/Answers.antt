use Rattle.std.proofs.Common.{◌*◌, length, ap, ◌∙◌, inl, inr}
use Rattle.std.proofs.lemmas.Bool.{cases_eq}
use Rattle.pair_rule.specs.Seats.{Held}
use Rattle.part_send.specs.Many.{entries}
use Rattle.running_tests.proofs.Sending.{many_same}
use Rattle.running_tests.proofs.ends.ready_list.Goals as goal

pub returns : goal.returns
returns g c =
    let d = c.args.marker.now.view in let e = c.pready_list.new.self.view in (
      c.pready_list.ensures.table ∙ c.requires.0,
      (elim (cases_eq (length c.args.bytes.now) (length c.args.parts.now * d.geometry.send_bytes)) [
        | inl same ↦ many_same d e c.args.round (entries d.geometry c.args.parts.now c.args.bytes.now) c.pready_list.result (c.pready_list.ensures.marks same)
        | inr other ↦ ap (λ (z : Held). z.view.geometry) (c.pready_list.ensures.length other).1
      ]) ∙ c.requires.1,
    )
