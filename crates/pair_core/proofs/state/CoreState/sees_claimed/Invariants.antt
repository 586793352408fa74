use Rattle.std.proofs.Common.{◌≡◌, ◌<◌, ◌/◌, ℕ}
use Rattle.gate_word.specs.Words.{round_in}
use Rattle.pair_core.specs.Names.{Claim}
use Rattle.pair_core.specs.Core.{Core}
use Rattle.pair_core.specs.Reading.{part_bit}
use Rattle.pair_core.specs.State.{Plain}
use Rattle.pair_core.specs.Shows.{Shows}
use Rattle.pair_core.proofs.state.CoreState.sees_claimed.Given as goal

abbrev pub invariant-loop-p : goal.invariant-loop-p
invariant-loop-p l = (core : Core Plain) → Shows l.fn.self core → (p : ℕ) → p < l.p → (round_in (core.seen 0 (Claim (p / 32))) ≡ l.fn.round) × (part_bit (λ c. core.seen 0 (Claim c)) p ≡ 1)
