use Rattle.std.proofs.Common.{◌≡◌, ◌∙◌, ap, subst, ◌-◌, length, arith}
use Rattle.halo_message.specs.Passing.{IsMarking, Stands}
use Rattle.halo_message.proofs.PassFacts.{marking-at, marking-first, part-long, part-same}
use Rattle.halo_message.proofs.passing.send.Goals as goal

pub loop-p-init : goal.loop-p-init
loop-p-init c =
    let s = c.requires.rests in
    record {
      shape = c.start_send-started.ensures.shape ∙ s.shape;
      history = _;
      stands = (c.start_send-started.ensures.answer s.history s.stands).1;
      holds = marking-first _ s.history (c.args.round - 1) c.args.round c.args.bytes.now s.holds (omega arith) c.requires.last;
    }

pub loop-p-preserved : goal.loop-p-preserved
loop-p-preserved c =
    let s = c.loop-p.invariant in
    let g = c.args.geometry in
    let part = part-same g c.args.bytes.now c.loop-p.p c.send_bytes-size.result c.send_bytes-size.ensures.value in
    record {
      shape = c.pready-marked.ensures.shape ∙ s.shape;
      history = _;
      stands = (c.pready-marked.ensures.answer s.history s.stands).1;
      holds = marking-at g c.loop-p.pair.shape c.args.round c.loop-p.p c.args.bytes.now _ s.history s.shape s.holds (omega arith)
          (ap length part ∙ part-long g c.args.bytes.now c.loop-p.p c.requires.bytes (omega arith)) part;
    }

pub returns : goal.returns
returns c =
    let s = c.loop-p.invariant in
    let all = c.loop-p-test.false in
    let end = c.loop-p.auto.p-end in
    let value = c.send_parts-p-end.ensures.value in
    let is : c.loop-p.p ≡ c.args.geometry.send_parts = omega arith in
    record { marked = subst (λ n. Stands c.args.geometry c.loop-p.pair (IsMarking c.args.geometry c.args.round c.args.bytes.now n)) is s }
