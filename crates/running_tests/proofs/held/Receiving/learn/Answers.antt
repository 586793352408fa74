use Rattle.std.proofs.Common.{refl}
use Rattle.pair_rule.specs.Views.{told}
use Rattle.running_tests.proofs.Holding.{held_rests, told_rests}
use Rattle.running_tests.proofs.held.Receiving.learn.Goals as goal

pub invariant_of-self : goal.invariant_of-self
invariant_of-self c =
    let s = c.self.inside.end in
    held_rests c.self.inside.kept.items s c.learn.new.self
    (told_rests (told s.view c.args.note.view) s c.learn.new.self refl refl c.learn.ensures.told c.learn.ensures.rest)
    c.self.invariant
