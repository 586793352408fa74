use Rattle.std.proofs.Common.{sym}
use Rattle.plain_pair.specs.Pair.{kept_of}
use Rattle.plain_pair.proofs.TestAnswers.{at_untaken, at_out, at_received, follows_untaken, follows_out, follows_received, sound_received}
use Rattle.plain_pair.proofs.pair.PlainPair.test_recv.Goals as goal

pub returns-in-Some-clause-answer : goal.returns-in-Some-clause-answer
returns-in-Some-clause-answer c =
    let found = rw c.deref.ensures.value at c.in-Some.ensures in
    rw (← c.self.view_is)
    (follows_untaken (kept_of c.self.inside) _ c.in-Some.q c.self.invariant (at_untaken (kept_of c.self.inside) _ c.if-not-self.false found))

pub returns-in-Some-least_without-clause-answer : goal.returns-in-Some-least_without-clause-answer
returns-in-Some-least_without-clause-answer c =
    let none = rw c.deref.ensures.value at c.in_default.ensures in
    let found = rw c.deref-2.ensures.value at c.in-Some-least_without.ensures in
    rw (← c.self.view_is)
    (follows_out (kept_of c.self.inside) _ c.in-Some-least_without.q c.self.invariant (at_out (kept_of c.self.inside) _ c.if-not-self.false none found))

pub invariant_of-self : goal.invariant_of-self
invariant_of-self c =
    let none = rw c.deref.ensures.value at c.in_default.ensures in
    let none_out = rw c.deref-2.ensures.value at c.in_default-least_without.ensures in
    sound_received (kept_of c.self.inside) _ c.self.invariant c.if-not-self.false (sym none) (sym none_out)

pub returns-clause-answer : goal.returns-clause-answer
returns-clause-answer c =
    let none = rw c.deref.ensures.value at c.in_default.ensures in
    let none_out = rw c.deref-2.ensures.value at c.in_default-least_without.ensures in
    rw (← c.self.view_is)
    (follows_received (kept_of c.self.inside) _ c.self.invariant c.if-not-self.false (at_received (kept_of c.self.inside) c.if-not-self.false none none_out))
