-- Which states of the definition a run stands for.
use Rattle.std.specs.Prelude.{◌≡◌, ℕ, List, ◌++◌, Result, IfOk, String, string_bytes}
use Rattle.std.specs.List.{AllZip}
use Rattle.std.specs.declared.alloc.Global.{Global}
use Rattle.std.specs.declared.alloc.AllocError.{AllocError}
use Rattle.script_run.specs.declared.run.Run.{Run}
use Rattle.script_text.specs.declared.call.Call.{Call}
use Rattle.script_run.specs.Names.{lookup}
use Rattle.script_run.specs.Pairs.{StandsPair}
use Rattle.script_run.specs.Run.{answers_from}
use Rattle.script_run.specs.State.{State, slot_of, HasSlots}

pub record StandsFor (r : Run) (st : State) : Type 0 where
  pub world : r.world ≡ st.world
  pub requests : r.requests.items ≡ st.requests
  pub names : (q : List ℕ) → lookup r.names q ≡ slot_of st.requests q
  pub pairs : AllZip StandsPair r.pairs.items st.pairs

-- a step answers as every state says that the run stood for, and then stands for the state after it, unless memory ran
-- out
abbrev pub Tells : Run → Run → Result (String Global) AllocError → (State → List ℕ) → (State → State) → Type 0
Tells old new result text next =
    (st : State) → StandsFor old st → HasSlots st →
    IfOk result (λ s. (string_bytes s ≡ text st) × StandsFor new (next st))

-- some state that the run stands for, from which the calls that are left write what is missing of the whole text
pub record GoesOn (r : Run) (front : List ℕ) (rest : List Call) (whole : List ℕ) : Type 0 where
  pub here : State
  pub stands : StandsFor r here
  pub slots : HasSlots here
  pub written : front ++ answers_from here rest ≡ whole
