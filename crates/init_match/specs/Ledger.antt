-- What the list of accepted calls keeps besides.
use Rattle.std.specs.Prelude.{◌≡◌, ℕ, List, [], ◌∷◌, ◌++◌}
use Rattle.part_geometry.specs.declared.answers.Side.{Side}
use Rattle.init_match.specs.declared.keys.Key.{Key}
use Rattle.init_match.specs.declared.keys.Call.{Call}
use Rattle.init_match.specs.declared.ledger.Ledger.TheInside.{Inside}
use Rattle.init_match.specs.Calls.{slots_of}
use Rattle.init_match.specs.KeyLists.{IsKeyLists, lists_of}
use Rattle.init_match.specs.Matching.{turn_of}

-- what each call found of its own side and key
abbrev pub turns_after : List Call → List Call → List ℕ
turns_after before [] = []
turns_after before (c ∷ rest) = turn_of before c ∷ turns_after (before ++ c ∷ []) rest

-- the turns are those of the calls, and each key's lists are the slots of its calls
pub record IsLedger (l : Inside) : Type 0 where
  pub turns : l.turns.items ≡ turns_after [] l.calls.items
  pub keys : IsKeyLists l.keys
  pub slots : (s : Side) (q : Key) → lists_of l.keys s q ≡ slots_of s q l.calls.items
