-- The slots of names.
use Rattle.std.specs.Prelude.{ℕ, List, Option}
use Rattle.std.specs.BTreeMap.{get_by}
use Rattle.std.specs.Cmp.Lexicographic.{slice_cmp}
use Rattle.std.specs.Ordering.{nat_cmp}
use Rattle.script_run.specs.declared.names.Names.{Names}

abbrev pub lookup : Names → List ℕ → Option ℕ
lookup m q = get_by (λ k. slice_cmp nat_cmp q k.now) m.slots
