-- The texts of answers that are no pair's.
use Rattle.std.specs.Prelude.{ℕ, codes, List, ◌++◌, Result, Ok, Err}
use Rattle.std.specs.Fmt.{decimal}
use Rattle.init_match.specs.declared.answers.InitFault.{InitFault}
use Rattle.init_match.specs.declared.answers.InitFault.TheVariants.{BadRank, BadTag, BadComm, BadParts, BadBytes, TooLong, SizeMismatch, WorldFull, NoMemory}

-- of `send` and `recv`; want of memory ends the run and has no text
abbrev pub init_text : Result ℕ InitFault → List ℕ
init_text (Ok slot) = codes "ok"
init_text (Err BadRank) = codes "refused BadRank"
init_text (Err BadTag) = codes "refused BadTag"
init_text (Err BadComm) = codes "refused BadComm"
init_text (Err BadParts) = codes "refused BadParts"
init_text (Err BadBytes) = codes "refused BadBytes"
init_text (Err TooLong) = codes "refused TooLong"
init_text (Err (SizeMismatch send recv)) = codes "refused SizeMismatch " ++ decimal send ++ codes " " ++ decimal recv
init_text (Err (WorldFull sum)) = codes "refused WorldFull " ++ decimal sum
init_text (Err NoMemory) = codes ""
