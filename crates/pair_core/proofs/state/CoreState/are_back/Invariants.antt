use Rattle.std.proofs.Common.{◌≡◌, ◌<◌, ℕ}
use Rattle.pair_core.specs.Names.{Take, Return}
use Rattle.pair_core.specs.Core.{Core}
use Rattle.pair_core.specs.Reading.{part_bit}
use Rattle.pair_core.specs.State.{Plain}
use Rattle.pair_core.specs.Shows.{Shows}
use Rattle.pair_core.proofs.state.CoreState.are_back.Given as goal

abbrev pub invariant-loop-q : goal.invariant-loop-q
invariant-loop-q l = (core : Core Plain) → Shows l.fn.self core → (q : ℕ) → q < l.q → (part_bit (λ t. core.word (Take t)) q ≡ 1) × (part_bit (λ t. core.word (Return t)) q ≡ 1)
