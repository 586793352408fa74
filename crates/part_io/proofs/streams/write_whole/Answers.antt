-- What one more write took stands behind what was done.
use Rattle.std.proofs.Common.{ℕ, ◌+◌, ◌-◌, List, length, take, drop, Option, subst, sym, arith}
use Rattle.std.specs.Io.KnownBytes.{Appends}
use Rattle.std.proofs.lemmas.List.{take_rest}
use Rattle.std.proofs.Math.Seq.{take-add}
use Rattle.std.proofs.KnownBytes.{Appends-trans, Appends-kept}
use Rattle.part_io.proofs.streams.write_whole.Goals as goal
use Rattle.part_io.proofs.streams.write_whole.Goals.{in-Ok, in-Err+else-ne}

-- what a write took of the rest makes the front longer
longer_front : (a b c : Option (List ℕ)) (piece : List ℕ) (done count : ℕ) → Appends a b (take done piece)
    → Appends b c (take count (take (length piece - done) (drop done piece))) → Appends a c (take (done + count) piece)
longer_front a b c piece done count before more =
    let more' = rw take_rest at more in
    subst (Appends a c) (sym (take-add done count piece)) (Appends-trans a b c _ _ before more')

pub loop-preserved : goal.loop-preserved
loop-preserved g c =
    let (within, added) = c.loop.invariant in
    elim c.match-write.branch [
      | in-Ok w ↦ rw w.done-is (omega (arith, w.in-Ok.ensures.bound), longer_front _ _ _ c.args.piece.now _ _ added w.in-Ok.ensures.bytes)
      | in-Err+else-ne w ↦ rw w.done-is (within, Appends-kept _ _ _ _ added w.in-Err.ensures.bytes)
    ]

pub returns-then-ne-clause-err : goal.returns-then-ne-clause-err
returns-then-ne-clause-err g c =
    let (within, added) = c.loop.invariant in
    (c.loop.done, within, Appends-kept _ _ _ _ added c.in-Err.ensures.bytes)

pub returns-clause-err : goal.returns-clause-err
returns-clause-err g c = (c.loop.done, c.loop.invariant.0, c.loop.invariant.1)
