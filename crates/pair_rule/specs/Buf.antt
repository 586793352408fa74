-- A buffer: the round that it was filled for, and its bytes.
use Rattle.std.specs.Prelude.{ℕ, List}

pub record Buf : Type 0 where
  pub round : ℕ
  pub bytes : List ℕ

abbrev pub buf : ℕ → List ℕ → Buf
buf k b = record { round = k; bytes = b }
