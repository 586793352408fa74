-- Where the jobs are: each number stands in the queue, with one worker or among the finished ones,
-- and in no two places.
use Rattle.std.specs.Prelude.{◌≡◌, ℕ, zero, suc, ◌+◌, ◌<◌, List, [], ◌∷◌, length, map}
use mathlib.Core.Option.{some}
use lib.ListN.{get_elem?}
use Rattle.rank_pool.specs.declared.rule.Known.{Known}

-- the weights of the numbers, added up
abbrev pub weigh : (ℕ → ℕ) → List ℕ → ℕ
weigh h [] = 0
weigh h (x ∷ xs) = h x + weigh h xs

-- the weights of the numbers below n, added up
abbrev pub below : (ℕ → ℕ) → ℕ → ℕ
below h zero = 0
below h (suc n) = below h n + h n

-- the parts that the first pass has
abbrev pub every : ℕ
every = 0x100_0000_0000

module _ {O : Type 0} where
  abbrev pub knows : ℕ → List O → List ℕ → List ℕ → Known O
  knows parts entered held done = record { parts = parts; entered = entered; held = held; done = done }

  -- f of each view, added up
  abbrev pub total : (Known O → ℕ) → List (Known O) → ℕ
  total f [] = 0
  total f (v ∷ vs) = f v + total f vs

  -- the weights of what a pass holds and has finished
  abbrev pub with_it : (ℕ → ℕ) → Known O → ℕ
  with_it h v = weigh h v.held + weigh h v.done

  -- a pass with a part knows what was entered, and one with none has nothing
  abbrev pub Reads : List O → Known O → Type 0
  Reads entered v = (0 < v.parts → v.entered ≡ entered) × (v.parts ≡ 0 → (v.held ≡ []) × (v.done ≡ []))

  abbrev pub Each : (Known O → Type 0) → List (Known O) → Type 0
  Each P views = (p : ℕ) (v : Known O) → get_elem? views p ≡ some v → P v

module _ {T O : Type 0} (all : ℕ) (number : T → ℕ) (origin : T → O) (belongs : T → Type 0) where
  -- what is in the queue was entered under its number, and belongs where it should
  abbrev pub Listed : List O → List T → Type 0
  Listed entered items = (k : ℕ) (x : T) → get_elem? items k ≡ some x
      → (get_elem? entered (number x) ≡ some (origin x)) × belongs x

  -- however the numbers are weighed, those in the queue, held and finished weigh what the numbers of all that were
  -- entered do: a number weighs 1, and all others nothing, in one place alone
  abbrev pub InOnePlace : List T → List (Known O) → Type 0
  InOnePlace items views =
      (entered : List O)
      × (total (λ v. v.parts) views ≡ all)
      × ((h : ℕ → ℕ) → weigh h (map number items) + total (with_it h) views ≡ below h (length entered))
      × Listed entered items
      × Each (Reads entered) views
