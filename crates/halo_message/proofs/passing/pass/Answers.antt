use Rattle.std.proofs.Common.{◌≡◌, ◌∙◌, refl, sym, ap, subst, ◌+◌, ◌-◌, ◌≤◌, take, drop, length, arith}
use Rattle.std.proofs.Common.{◌<◌}
use Rattle.std.proofs.lemmas.List.{take_all}
use borrow.Rule.Slice.PartMut.{put_mid}
use Rattle.part_geometry.specs.Shape.{IsShape, send_total}
use Rattle.plain_pair.specs.Moves.{after_take, gave_back, take_answer, taken_of, took}
use Rattle.halo_message.specs.Message.{elements, shape_of}
use Rattle.halo_message.specs.Elements.{encoded, part_start}
use Rattle.halo_message.proofs.ElementFacts.{whole-parts}
use Rattle.halo_message.specs.Passing.{IsMarking, IsTaking, Stands}
use Rattle.halo_message.proofs.PassFacts.{rests-at, arrival-is, not-refused, start-first, start-last, take-ok, taken-bytes, taking-first, taking-next, took-is, values-next}
use Rattle.halo_message.proofs.passing.pass.Goals as goal

pub loop-q-init : goal.loop-q-init
loop-q-init c =
    let message = c.args.message.now in
    let k = c.args.round in
    let e = c.geometry-geometry.ensures in
    let some = c.recv_parts-q-end.ensures.limits in
    let parts = c.recv_parts-q-end.ensures.value ∙ ap (λ g. g.recv_parts) e.value in
    let whole = whole-parts message c.geometry-geometry.result e.value e.whole e.limits in
    let s = subst (λ m. Stands (shape_of message) c.send.new.pair (IsMarking (shape_of message) k m (shape_of message).send_parts)) c.encode.ensures
    (subst (λ g. Stands g c.send.new.pair (IsMarking g k c.encode.new.out g.send_parts)) e.value c.send.ensures.marked) in
    let zero = start-first message whole (omega arith) in
    record {
      pair = record {
        shape = c.start_recv-started.ensures.shape ∙ s.shape;
        history = _;
        stands = (c.start_recv-started.ensures.answer s.history s.stands).1;
        holds = taking-first (shape_of message) s.history k (encoded message c.args.values.now) s.holds c.requires.last;
      };
      values = rw zero refl;
    }

pub unreachable-requires : goal.unreachable-requires
unreachable-requires c =
    let message = c.args.message.now in
    let e = c.geometry-geometry.ensures in
    let s = c.loop-q.invariant.pair in
    let v = subst IsShape e.value e.limits in
    let parts = c.recv_parts-q-end.ensures.value ∙ ap (λ g. g.recv_parts) e.value in
    let answer = (c.take.ensures.answer s.history s.stands).0 ∙ ap (λ g. take_answer g s.history c.loop-q.q) s.shape
    ∙ take-ok (shape_of message) v c.args.round c.loop-q.q (encoded message c.args.values.now) s.history s.holds (omega arith) in
    not-refused _ _ (sym answer ∙ c.in-Err.is)

pub loop-q-preserved : goal.loop-q-preserved
loop-q-preserved c =
    let message = c.args.message.now in
    let q = c.loop-q.q in
    let g = shape_of message in
    let values = c.args.values.now in
    let e = c.geometry-geometry.ensures in
    let s = c.loop-q.invariant.pair in
    let r = s.history in
    let v = subst IsShape e.value e.limits in
    let parts = c.recv_parts-q-end.ensures.value ∙ ap (λ h. h.recv_parts) e.value in
    let less : q < message.recv_parts = omega arith in
    let t = c.take.ensures.answer r s.stands in
    let answer = t.0 ∙ ap (λ h. take_answer h r q) s.shape ∙ take-ok g v c.args.round q (encoded message values) r s.holds less in
    let taken = arrival-is c.in-Ok.arrival (taken_of g r q) (sym c.in-Ok.is ∙ answer) in
    let here = ap (λ a. a.partition) taken in
    let after = ap (λ h. after_take h r q) s.shape ∙ took-is g v c.args.round q (encoded message values) r s.holds less in
    let long : length (encoded message values) ≡ send_total g = sym (ap length c.encode.ensures) ∙ c.encode.auto.out ∙ c.requires.bytes ∙ sym e.whole ∙ ap send_total e.value in
    let part = c.as_slice.ensures.value ∙ ap (λ a. a.bytes) taken ∙ taken-bytes g v c.args.round q (encoded message values) r s.holds less long in
    let first = ap (λ x. x.0) c.part-start.ensures.value in
    let last = ap (λ x. x.1) c.part-start.ensures.value in
    let inside = c.part-start.ensures.inside in
    let new = c.decode_bytes.ensures.sent values c.requires.values c.requires.words part in
    record {
      pair = record {
        shape = c.give_back.ensures.shape ∙ c.take.ensures.shape ∙ s.shape;
        history = gave_back (after_take c.loop-q.pair.shape r q) c.in-Ok.arrival.partition;
        stands = c.give_back.ensures.back (after_take c.loop-q.pair.shape r q) t.1;
        holds = subst (λ x. IsTaking g c.args.round (encoded message values) (q + 1) (gave_back x c.in-Ok.arrival.partition)) (sym after)
            (subst (λ n. IsTaking g c.args.round (encoded message values) (q + 1) (gave_back (took r q) n)) (sym here)
            (taking-next g c.args.round q (encoded message values) r s.holds));
      };
      values = subst (λ n. take n (put_mid c.part-start.result.0 (c.part-start.result.1 - c.part-start.result.0) c.loop-q.out c.decode_bytes.new.out) ≡ take n values) last
          (values-next values c.loop-q.out c.decode_bytes.new.out c.part-start.result.0 c.part-start.result.1 (c.part-start.result.1 - c.part-start.result.0) inside.0
          (let v' = c.requires.values in let w = inside.1 in omega arith) (c.loop-q.auto.out ∙ c.requires.out ∙ sym c.requires.values)
          (new ∙ λ i. take (sym last i - sym first i) (drop (sym first i) values))
          (subst (λ n. take n c.loop-q.out ≡ take n values) (sym first) c.loop-q.invariant.values));
    }

pub returns-clause-rests : goal.returns-clause-rests
returns-clause-rests c =
    let message = c.args.message.now in
    let g = shape_of message in
    let e = c.geometry-geometry.ensures in
    let s = c.loop-q.invariant.pair in
    let v = subst IsShape e.value e.limits in
    let parts = c.recv_parts-q-end.ensures.value ∙ ap (λ h. h.recv_parts) e.value in
    let all : c.loop-q.q ≡ message.recv_parts = let end = c.loop-q.auto.q-end in let h = c.loop-q-test.false in omega arith in
    let t = c.test_recv-released.ensures.answer s.history s.stands in
    let u = c.test_send-sent.ensures.answer _ t.1 in
    let same = c.test_recv-released.ensures.shape ∙ s.shape in
    record {
      shape = c.test_send-sent.ensures.shape ∙ same;
      history = _;
      stands = u.1;
      holds = rests-at g c.loop-q.pair.shape c.test_recv-released.new.self.shape v c.args.round (encoded message c.args.values.now) s.history s.shape same
          (subst (λ n. IsTaking g c.args.round (encoded message c.args.values.now) n s.history) all s.holds);
    }

pub returns-clause-values : goal.returns-clause-values
returns-clause-values c =
    let message = c.args.message.now in
    let values = c.args.values.now in
    let e = c.geometry-geometry.ensures in
    let some = c.recv_parts-q-end.ensures.limits in
    let parts = c.recv_parts-q-end.ensures.value ∙ ap (λ h. h.recv_parts) e.value in
    let all : c.loop-q.q ≡ message.recv_parts = let end = c.loop-q.auto.q-end in let h = c.loop-q-test.false in omega arith in
    let whole = whole-parts message c.geometry-geometry.result e.value e.whole e.limits in
    let enough : message.values ≤ elements message = let n = c.elements-elements.ensures.enough in let v = c.elements-elements.ensures.value in omega arith in
    let last : part_start message c.loop-q.q ≡ message.values = ap (part_start message) all ∙ start-last message whole (omega arith) enough in
    let out = c.loop-q.auto.out ∙ c.requires.out in
    sym (take_all message.values c.loop-q.out (omega arith)) ∙ subst (λ n. take n c.loop-q.out ≡ take n values) last c.loop-q.invariant.values ∙ take_all message.values values (let r = c.requires.values in omega arith)
