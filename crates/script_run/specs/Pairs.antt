-- Which pairs of the definition the kept ones stand for.
use Rattle.std.specs.Prelude.{◌≡◌, ℕ, List}
use Rattle.part_geometry.specs.Shape.{Shape}
use Rattle.script_pair.specs.Desk.{first_desk}
use Rattle.script_pair.specs.Held.{Stands}
use Rattle.script_run.specs.declared.pairs.NamedPair.{NamedPair}
use Rattle.script_run.specs.State.{Pair}

pub record StandsPair (n : NamedPair) (p : Pair) : Type 0 where
  pub send : n.send.now ≡ p.send
  pub recv : n.recv.now ≡ p.recv
  pub shape : n.pair.pair.shape ≡ p.shape
  pub desk : Stands n.pair p.desk

-- a pair before any call
abbrev pub IsNew : NamedPair → List ℕ → List ℕ → Shape → Type 0
IsNew n send recv g = StandsPair n record { send = send; recv = recv; shape = g; desk = first_desk }
