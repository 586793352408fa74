-- What a read of a shelf may answer.
use Rattle.std.specs.Prelude.{◌≡◌, ℕ, ◌<◌, ◌≤◌, List, length, Option, None, Some, Result, Ok, Err, Vec, IfSome}
use Rattle.std.specs.Prelude.{IsSomeAnd, ⊤}
use Rattle.std.specs.declared.alloc.Global.{Global}
use Rattle.part_io.specs.Causes.{Rose}
use Rattle.part_io.specs.declared.answers.ReadAnswer.{ReadAnswer}
use Rattle.part_io.specs.declared.answers.ReadAnswer.TheVariants.{Missing, TooLong, Failed, NoMemory}

-- the answer to a read of this name with this limit is right for these files, where they are told
abbrev pub Reads : Option (List ℕ → Option (List ℕ)) → List ℕ → ℕ → Result (Vec ℕ Global) ReadAnswer → Type 0
Reads files name limit (Ok bytes) = IfSome files (λ held. held name ≡ Some bytes.items)
Reads files name limit (Err Missing) = IsSomeAnd files (λ held. held name ≡ None)
Reads files name limit (Err (TooLong told)) = (told ≡ limit) ×
    IfSome files (λ held. IsSomeAnd (held name) (λ bytes. limit < length bytes))
Reads files name limit (Err Failed) = ⊤
Reads files name limit (Err NoMemory) = ⊤

-- `Failed` was counted, and no other answer
abbrev pub CountsFailed : {T : Type 0} → ℕ → ℕ → Result T ReadAnswer → Type 0
CountsFailed before now (Ok _) = now ≡ before
CountsFailed before now (Err Missing) = now ≡ before
CountsFailed before now (Err (TooLong _)) = now ≡ before
CountsFailed before now (Err Failed) = Rose before now
CountsFailed before now (Err NoMemory) = now ≡ before

-- how the count of faults goes with the answer to a read
pub record HasReadCause {T : Type 0} (before now : ℕ) (result : Result T ReadAnswer) : Type 0 where
  pub later : before ≤ now
  pub counted : CountsFailed before now result
