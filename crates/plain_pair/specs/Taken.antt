-- What was taken: the bytes of a receive partition in a round.
use Rattle.std.specs.Prelude.{ℕ, List}

pub record Taken : Type 0 where
  pub round : ℕ
  pub partition : ℕ
  pub bytes : List ℕ
