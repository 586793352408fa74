-- What reading to the end of a reader may answer.
use Rattle.std.specs.Prelude.{◌≡◌, ℕ, ◌<◌, ◌≤◌, List, ◌++◌, length, Option, Result, Ok, Err, Vec, IfSome, ⊤}
use Rattle.std.specs.declared.alloc.Global.{Global}
use Rattle.std.specs.Io.KnownBytes.{Consumes}
use Rattle.part_io.specs.declared.answers.ReadAnswer.{ReadAnswer}
use Rattle.part_io.specs.declared.answers.ReadAnswer.TheVariants.{Missing, TooLong, Failed, NoMemory}

-- the answer is all that a reader has left, if that is within the limit
abbrev pub ReadsToEnd : Option (List ℕ) → ℕ → Result (Vec ℕ Global) ReadAnswer → Type 0
ReadsToEnd left limit (Ok bytes) = IfSome left (λ known. bytes.items ≡ known)
ReadsToEnd left limit (Err Missing) = ⊥
ReadsToEnd left limit (Err (TooLong told)) = (told ≡ limit) × IfSome left (λ known. limit < length known)
ReadsToEnd left limit (Err Failed) = ⊤
ReadsToEnd left limit (Err NoMemory) = ⊤

-- bytes are all that some opened file had left, and a file that is too long had more than the limit
abbrev pub ReadsSomeFile : {File : Type 0} → (File → Option (List ℕ)) → ℕ → Result (Vec ℕ Global) ReadAnswer → Type 0
ReadsSomeFile {File} left limit (Ok bytes) = (file : File) × ReadsToEnd (left file) limit (Ok bytes)
ReadsSomeFile left limit (Err Missing) = ⊥
ReadsSomeFile {File} left limit (Err (TooLong told)) = (file : File) × ReadsToEnd (left file) limit (Err (TooLong told))
ReadsSomeFile left limit (Err Failed) = ⊤
ReadsSomeFile left limit (Err NoMemory) = ⊤

-- at most n bytes were taken from the reader
abbrev pub TakesAtMost : Option (List ℕ) → Option (List ℕ) → ℕ → Type 0
TakesAtMost left rest n = (taken : List ℕ) × (length taken ≤ n) × Consumes left rest taken

-- the bytes grew by what the reader gave, at most this much
pub record TakesBlock (old new : List ℕ) (left rest : Option (List ℕ)) (most count : ℕ) : Type 0 where
  pub block : List ℕ
  pub added : new ≡ old ++ block
  pub counted : length block ≡ count
  pub within : count ≤ most
  pub given : Consumes left rest block

-- an error that a block may meet
abbrev pub IsOfOutside : ReadAnswer → Type 0
IsOfOutside Missing = ⊥
IsOfOutside (TooLong _) = ⊥
IsOfOutside Failed = ⊤
IsOfOutside NoMemory = ⊤
