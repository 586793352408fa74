use Rattle.std.proofs.Common.{◌≡◌, ◌∙◌, ap, refl, ◌+◌, ◌-◌, ◌*◌, length, take, drop, arith}
use Rattle.std.proofs.lemmas.List.{length-drop, length-take-le}
use Rattle.halo_message.specs.Elements.{decoded}
use Rattle.halo_message.proofs.ElementFacts.{chunk-next}
use Rattle.halo_message.proofs.elements.decode_chunks.Goals as goal

pub loop-done-init : goal.loop-done-init
unfolding decoded
loop-done-init g c = record { inside = omega arith; values = refl }

pub loop-done-preserved : goal.loop-done-preserved
loop-done-preserved g c =
    let done = c.loop-done.done in let count = c.min-count.result in let out = c.loop-done.out in
    let same = c.loop-done.auto.out in let inside = c.loop-done.invariant.inside in
    let rest = length-drop done out in
    let long : length (take (done + count - done) (drop done out)) ≡ count = length-take-le (done + count - done) (drop done out) (omega arith) ∙ omega arith in
    let read = ap (λ n. decoded n c.copy_range.new.out) long in
    let size : length (take (count * 8) c.loop-done.bytes) ≡ count * 8 = length-take-le (count * 8) c.loop-done.bytes (omega arith) in
    let cut : done * 8 + length (take (count * 8) c.loop-done.bytes) - done * 8 ≡ count * 8 = omega arith in
    record {
      inside = omega arith;
      values = chunk-next c.args.arrival.now.bytes c.copy_range.new.out out c.decode_all.new.out done count (done + count - done) (omega arith) c.loop-done.invariant.values (c.decode_all.ensures ∙ read) (c.copy_range.ensures ∙ ap (λ n. take n (drop (done * 8) c.args.arrival.now.bytes)) cut);
    }
