use Rattle.std.proofs.Common.{sym}
use Rattle.plain_pair.specs.Pair.{kept_of}
use Rattle.plain_pair.proofs.TestAnswers.{at_unmarked, at_unreleased, at_sent, follows_unmarked, follows_unreleased, follows_sent, sound_sent}
use Rattle.plain_pair.proofs.pair.PlainPair.test_send.Goals as goal

pub returns-in-Some-clause-answer : goal.returns-in-Some-clause-answer
returns-in-Some-clause-answer c =
    let found = rw c.deref.ensures.value at c.in-Some.ensures in
    rw (← c.self.view_is)
    (follows_unmarked (kept_of c.self.inside) _ c.in-Some.partition c.self.invariant (at_unmarked (kept_of c.self.inside) _ c.if-not-self.false found))

pub returns-then-self-depth-clause-answer : goal.returns-then-self-depth-clause-answer
returns-then-self-depth-clause-answer c =
    let none = rw c.deref.ensures.value at c.in_default.ensures in
    let full = rw (c.depth.ensures.value, c.geometry-geometry.ensures.value) at c.if-self-depth.true in
    rw (← c.self.view_is)
    (follows_unreleased (kept_of c.self.inside) _ _ c.self.invariant (at_unreleased (kept_of c.self.inside) c.if-not-self.false none full))

pub invariant_of-self : goal.invariant_of-self
invariant_of-self c =
    let none = rw c.deref.ensures.value at c.in_default.ensures in
    let room = rw (c.depth.ensures.value, c.geometry-geometry.ensures.value) at c.if-self-depth.false in
    sound_sent (kept_of c.self.inside) _ c.self.invariant (sym none) room

pub returns-clause-answer : goal.returns-clause-answer
returns-clause-answer c =
    let none = rw c.deref.ensures.value at c.in_default.ensures in
    let room = rw (c.depth.ensures.value, c.geometry-geometry.ensures.value) at c.if-self-depth.false in
    rw (← c.self.view_is)
    (follows_sent (kept_of c.self.inside) _ c.self.invariant (at_sent (kept_of c.self.inside) c.if-not-self.false none room))
