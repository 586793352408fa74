use Rattle.part_send.proofs.Views.{then_looked}
use Rattle.part_send.proofs.Tested.{stops_from, looked_from}
use Rattle.part_send.proofs.test.look.Goals as goal

pub returns-in-Some-look_at_pieces-clause-answer : goal.returns-in-Some-look_at_pieces-clause-answer
returns-in-Some-look_at_pieces-clause-answer g c =
    stops_from c.args.seat.now.view c.look_at_claims.new.seat.view c.look_at_pieces.new.seat.view c.in-Some-look_at_pieces.answer
    c.look_at_claims.ensures.looked c.in-Some-look_at_pieces.ensures.answer

pub returns-clause-answer : goal.returns-clause-answer
returns-clause-answer g c =
    let old = c.args.seat.now.view in let a = c.look_at_claims.new.seat.view in let b = c.look_at_pieces.new.seat.view in
    looked_from old b c.look_at_release.new.seat.view c.look_at_release.result
    (then_looked old a b c.look_at_claims.ensures.looked c.look_at_pieces.ensures.looked) c.look_at_release.ensures.answer
