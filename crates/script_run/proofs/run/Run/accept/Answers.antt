use Rattle.std.proofs.Common.{refl}
use Rattle.script_run.proofs.Steps.{request_stands}
use Rattle.script_run.proofs.run.Run.accept.Goals as goal

pub returns : goal.returns
returns c = λ st stands free slot_at.
    c.begin.ensures _
    (request_stands c.args.self.now _ st c.args.name.now c.args.side c.args.slot stands free slot_at refl (rw c.new.ensures at c.in_ok-push.ensures.items) c.in_ok-add.ensures refl)
