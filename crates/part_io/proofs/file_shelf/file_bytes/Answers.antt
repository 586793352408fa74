-- What is right for the file that was opened is right for some file, and for a shelf that tells none.
use Rattle.std.proofs.Common.{ℕ, List, Option, None, Result, Ok, Err, Vec, Global}
use Rattle.part_io.specs.Shelf.{Reads}
use Rattle.part_io.specs.Block.{ReadsToEnd, ReadsSomeFile}
use Rattle.part_io.specs.declared.answers.ReadAnswer.{ReadAnswer}
use Rattle.part_io.specs.declared.answers.ReadAnswer.TheVariants.{Missing, TooLong, Failed, NoMemory}
use Rattle.part_io.proofs.file_shelf.file_bytes.Goals as goal

untold : (left : Option (List ℕ)) (name : List ℕ) (limit : ℕ) (result : Result (Vec ℕ Global) ReadAnswer) → ReadsToEnd left limit result
    → Reads None name limit result
untold left name limit (Ok bytes) right = tt
untold left name limit (Err Missing) right = absurd right
untold left name limit (Err (TooLong told)) right = (right.0, tt)
untold left name limit (Err Failed) right = tt
untold left name limit (Err NoMemory) right = tt

of_some_file : {File : Type 0} (left : File → Option (List ℕ)) (limit : ℕ) (file : File) (result : Result (Vec ℕ Global) ReadAnswer)
    → ReadsToEnd (left file) limit result → ReadsSomeFile left limit result
of_some_file left limit file (Ok bytes) right = (file, right)
of_some_file left limit file (Err Missing) right = absurd right
of_some_file left limit file (Err (TooLong told)) right = (file, right)
of_some_file left limit file (Err Failed) right = tt
of_some_file left limit file (Err NoMemory) right = tt

pub returns-in-Ok-clause-answer : goal.returns-in-Ok-clause-answer
returns-in-Ok-clause-answer g c = untold _ c.args.path.now _ _ c.bytes_to_end.ensures.answer

pub returns-in-Ok-clause-within : goal.returns-in-Ok-clause-within
returns-in-Ok-clause-within g c = c.bytes_to_end.ensures.within

pub returns-in-Ok-clause-file : goal.returns-in-Ok-clause-file
returns-in-Ok-clause-file g c = of_some_file _ _ _ _ c.bytes_to_end.ensures.answer
