-- What the marks of a range or a list come to.
use Rattle.std.specs.Prelude.{◌≡◌, ℕ, Result, Ok, Err, Some, List, length, take, fold, slice_get}
use Rattle.part_geometry.specs.declared.answers.Marked.{Marked}
use Rattle.part_geometry.specs.declared.answers.Marks.{Marks}
use Rattle.part_geometry.specs.Shape.{Shape}
use Rattle.plain_pair.specs.declared.answers.PlainRefusal.{PlainRefusal}
use Rattle.plain_pair.specs.declared.answers.PlainStop.{PlainStop}
use Rattle.plain_pair.specs.Record.{Record}
use Rattle.plain_pair.specs.Moves.{marked, pready_answer}
use Rattle.plain_pair.specs.Many.{progress, told}

-- the record with these partitions marked, each with its bytes
abbrev pub with_marks : Record → List (ℕ × List ℕ) → Record
with_marks r es = fold (λ r e. marked r e.0 e.1) r es

-- all were marked
pub record AllMarked (g : Shape) (r : Record) (k : ℕ) (es : List (ℕ × List ℕ)) (marks : Marks) : Type 0 where
  pub count : marks.count ≡ length es
  pub after : (progress g r k es).after ≡ with_marks r es

-- the first `at` were marked, and the next one was refused as a single mark is
pub record StoppedAt (g : Shape) (r : Record) (k : ℕ) (es : List (ℕ × List ℕ)) (stop : PlainStop) : Type 0 where
  pub next : ℕ × List ℕ
  pub there : slice_get es stop.at ≡ Some next
  pub after : (progress g r k es).after ≡ with_marks r (take stop.at es)
  pub refused : ◌≡◌ {A = Result Marked PlainRefusal}
      (pready_answer g (with_marks r (take stop.at es)) k next.0 next.1) (Err stop.cause)

abbrev pub AcceptedMarkAll : Type 0
AcceptedMarkAll =
    (g : Shape) (r : Record) (k : ℕ) (es : List (ℕ × List ℕ)) (marks : Marks)
    → told k (progress g r k es) ≡ Ok marks → AllMarked g r k es marks

abbrev pub RefusedKeepMarks : Type 0
RefusedKeepMarks =
    (g : Shape) (r : Record) (k : ℕ) (es : List (ℕ × List ℕ)) (stop : PlainStop)
    → told k (progress g r k es) ≡ Err stop → StoppedAt g r k es stop
