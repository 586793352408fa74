-- What the answers of a pair say of its rounds.
use Rattle.std.specs.Prelude.{◌≡◌, ℕ, Ok}
use Rattle.part_geometry.specs.Shape.{Shape}
use Rattle.part_geometry.specs.declared.answers.Side.TheVariants.{RecvSide}
use Rattle.plain_pair.specs.Moves.{take_answer}
use Rattle.plain_pair.specs.Record.{round_of, bytes_of}
use Rattle.plain_pair.specs.Taken.{Taken}
use Rattle.script_pair.specs.Answers.{own_answer}
use Rattle.script_pair.specs.Desk.{Desk}
use Rattle.script_pair.specs.Texts.{bytes_text}
use Rattle.script_text.specs.declared.call.Action.TheVariants.{Take}

-- what a take that is accepted shows are the bytes that the marks of the receiver's round gave at the partition's
-- places
abbrev pub TakesShowMarks : Type 0
TakesShowMarks = (g : Shape) (d : Desk) (q : ℕ) (t : Taken) → take_answer g d.record_ q ≡ Ok t
    → own_answer g RecvSide d (Take q) ≡ bytes_text (bytes_of g (round_of d.record_ d.record_.received) q)
