use Rattle.std.proofs.Common.{◌+◌, ◌-◌, ◌*◌, length, ap, ◌∙◌, inl, inr}
use Rattle.std.proofs.lemmas.Bool.{cases_eq, cases_lt}
use Rattle.pair_rule.specs.Seats.{Held}
use Rattle.part_send.specs.Many.{entries, range_parts}
use Rattle.running_tests.proofs.Sending.{many_same}
use Rattle.running_tests.proofs.ends.ready_range.Goals as goal

pub returns : goal.returns
returns c =
    let d = c.args.marker.now.view in let e = c.pready_range.new.self.view in let m = c.pready_range.ensures in (
      m.table ∙ c.requires.0,
      (elim (cases_lt c.args.high c.args.low) [
        | inl empty ↦ ap (λ (z : Held). z.view.geometry) (m.range (inl empty)).1
        | inr low ↦ elim (cases_lt c.args.high d.geometry.send_parts) [
          | inr out ↦ ap (λ (z : Held). z.view.geometry) (m.range (inr out)).1
          | inl inside ↦ elim (cases_eq (length c.args.bytes.now) ((c.args.high + 1 - c.args.low) * d.geometry.send_bytes)) [
            | inl same ↦ many_same d e c.args.round (entries d.geometry (range_parts c.args.low c.args.high) c.args.bytes.now) c.pready_range.result (m.marks low inside same)
            | inr other ↦ ap (λ (z : Held). z.view.geometry) (m.length low inside other).1
          ]
        ]
      ]) ∙ c.requires.1,
    )
