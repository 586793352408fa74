use Rattle.std.proofs.Common.{◌≡◌, ◌≤◌, length, refl, ap, ◌∙◌, arith}
use Rattle.init_match.specs.Matching.{pairs_of}
use Rattle.script_run.specs.Run.{matched_at}
use Rattle.script_run.proofs.Steps.{joined_none, joined_some, begun_stands}
use Rattle.script_run.proofs.run.Run.begin.Goals as goal

pub returns-then-begun-pair_count : goal.returns-then-begun-pair_count
returns-then-begun-pair_count c = λ st stands.
    let few : length (pairs_of c.args.self.now.world.calls) ≤ length c.args.self.now.pairs.items = omega arith in
    rw (joined_none c.args.self.now st stands few) stands

pub returns : goal.returns
returns c = λ st stands.
    let m = c.pair-matched.result in
    let n_is : c.len-begun.result ≡ length c.args.self.now.pairs.items = omega arith in
    rw (joined_some c.args.self.now st m stands (rw n_is at c.pair-matched.ensures.pair))
    (begun_stands c.args.self.now _ st m c.len-begun.result c.in_ok-pair.pair c.name_at-send.result.now c.name_at-recv.result.now stands n_is refl refl
    (c.match_at-2.ensures ∙ ap (matched_at c.len-begun.result m.recv_slot) c.match_at.ensures) c.in_ok-push.ensures.items c.in_ok-pair.ensures
    (rw c.deref.ensures.value at c.name_at-send.ensures) (rw c.deref-2.ensures.value at c.name_at-recv.ensures))
