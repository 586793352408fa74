use Rattle.partrate.proofs.Kept.{started_is_of}
use Rattle.partrate.proofs.sending.send_all.Goals as goal

pub finish-requires : goal.finish-requires
finish-requires g c =
    started_is_of c.args.shared.now.pair c.loop.sender c.start.new.self c.start.result c.loop.invariant.0 c.start.ensures.end
