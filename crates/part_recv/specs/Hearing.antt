-- What a seat that was told something looks at then.
use Rattle.std.specs.Prelude.{◌≡◌, ℕ}
use Rattle.pair_core.specs.Names.{Claim}
use Rattle.pair_rule.specs.Views.{saw}
use Rattle.pair_rule.specs.Told.{Learns}
use Rattle.pair_rule.specs.declared.view.View.{View}

-- the view looked at claim word 0
pub record Hears (old new : View) : Type 0 where
  pub shown : ℕ
  pub told : Learns old (Claim 0) shown
  pub view : new ≡ saw (Claim 0) shown old
