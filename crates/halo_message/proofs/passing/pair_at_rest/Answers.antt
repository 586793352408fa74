use Rattle.std.proofs.Common.{◌≡◌, subst, IfOk}
use Rattle.halo_message.specs.Message.{shape_of}
use Rattle.halo_message.proofs.PassFacts.{first-ok}
use Rattle.halo_message.proofs.passing.pair_at_rest.Goals as goal

pub returns : goal.returns
returns c =
    first-ok (shape_of c.args.message.now) c.create.result (subst (λ g. IfOk c.create.result (λ pair. pair.shape ≡ g)) c.geometry.ensures.value c.create.ensures.shape) c.create.ensures.first
