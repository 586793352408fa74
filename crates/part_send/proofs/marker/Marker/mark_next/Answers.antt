use Rattle.std.proofs.Common.{ap, ◌∙◌, arith}
use Rattle.part_geometry.specs.Pieces.{pieces}
use Rattle.part_send.proofs.Marked.{sent_few}
use Rattle.part_send.proofs.marker.Marker.mark_next.Goals as goal

pub overflow_add-marks-in-Ok : goal.overflow_add-marks-in-Ok
overflow_add-marks-in-Ok g c =
    let few = sent_few _ _ _ _ _ _ c.in-Ok.marked c.args.pair.now.key.geometry c.in-Ok.ensures.answer.2 c.requires.pair.1 in
    let all = c.pieces-pieces.ensures.limits.1 in let value = c.pieces-pieces.ensures.value ∙ ap pieces c.tables.ensures in
    let before = c.requires.few in let count = c.requires.counts in omega arith

pub returns-in-Ok-clause-few : goal.returns-in-Ok-clause-few
returns-in-Ok-clause-few g c =
    let few = sent_few _ _ _ _ _ _ c.in-Ok.marked c.args.pair.now.key.geometry c.in-Ok.ensures.answer.2 c.requires.pair.1 in
    let all = c.pieces-pieces.ensures.limits.1 in let value = c.pieces-pieces.ensures.value ∙ ap pieces c.tables.ensures in
    let before = c.requires.few in omega arith
