-- That the plan of a stencil has no part in what it prints.
use Rattle.std.specs.Prelude.{◌≡◌, ◌⊎◌, ℕ, Some}
use Rattle.stencil_words.specs.declared.words.StencilWords.{StencilWords}
use Rattle.stencil_top.specs.Words.{Stencil}
use Rattle.stencil_top.specs.Outcome.{Outcome, Texts, Ends, noted}
use Rattle.stencil_top.specs.declared.note.Note.TheVariants.{TooManyRanks, TooManyTiles}

-- words that are the same but for their plan: the ranks or the tiles, the partitions of both sides, the grain and the
-- depth
abbrev pub AreSameButPlan : StencilWords → StencilWords → Type 0
AreSameButPlan w v = record w { plan = v.plan; tiles = v.tiles } ≡ v

-- the plan was refused: there were too many ranks, or too many tiles
abbrev pub AreRanksRefused : Outcome → Type 0
AreRanksRefused end = (ranks : ℕ) × (rows : ℕ) × (end ≡ noted (TooManyRanks ranks rows))

abbrev pub AreTilesRefused : Outcome → Type 0
AreTilesRefused end =
    (tile_rows : ℕ) × (tile_cols : ℕ) × (rows : ℕ) × (cols : ℕ) ×
    (end ≡ noted (TooManyTiles tile_rows tile_cols rows cols))

abbrev pub IsPlanRefused : Outcome → Type 0
IsPlanRefused end = AreRanksRefused end ⊎ AreTilesRefused end

-- two stencils over the same texts, whose words are the same but for their plan, have the same outcome, where neither
-- plan is refused
abbrev pub PlansLeaveOutcomes : Type 0
PlansLeaveOutcomes = (w v : StencilWords) → (files : Texts) → (end end' : Outcome) → AreSameButPlan w v
    → Ends (Some (Stencil w)) files end → Ends (Some (Stencil v)) files end'
    → ¬ IsPlanRefused end → ¬ IsPlanRefused end' → end ≡ end'
