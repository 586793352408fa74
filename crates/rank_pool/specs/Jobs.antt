-- What is known of the jobs that go through the queue, and of a worker.
use Rattle.std.specs.Prelude.{◌≡◌, ℕ, suc, ◌<◌, ◌^◌, Bool, true, List, [], ◌∷◌, length, map, Option, Some}
use mathlib.Core.Option.{some}
use lib.ListN.{get_elem?}
use Rattle.rank_pool.specs.declared.rule.Known.{Known}
use Rattle.rank_pool.specs.declared.ticket.Ticket.{Ticket}

module _ {J S : Type 0} (which : J → ℕ) (belongs : J → S → Type 0) where
  -- which job it is, and where it belongs
  abbrev pub origin : Ticket J S → ℕ × S
  origin x = (which x.job, x.home.value)

  -- it was entered under its number, and belongs where it should
  abbrev pub IsListed : List (ℕ × S) → Ticket J S → Type 0
  IsListed entered x = (get_elem? entered x.number ≡ some (origin x)) × belongs x.job x.home.value

  -- all jobs that were entered belong to these shared values
  abbrev pub IsHome : S → List (ℕ × S) → Type 0
  IsHome shared entered = (k : ℕ) (o : ℕ × S) → get_elem? entered k ≡ some o → o.1 ≡ shared

  -- tickets of jobs that belong to these shared values, numbered from n on
  abbrev pub Waits : S → ℕ → List (Ticket J S) → Type 0
  Waits shared n [] = Unit {0}
  Waits shared n (x ∷ xs) = (x.number ≡ n) × (x.home.value ≡ shared) × belongs x.job shared × Waits shared (suc n) xs

  module _ (over : J → Bool) where
    -- each was entered, belongs where it should, and is over
    abbrev pub AllOver : List (ℕ × S) → List (Ticket J S) → Type 0
    AllOver entered xs = (k : ℕ) (x : Ticket J S) → get_elem? xs k ≡ some x
        → IsListed entered x × (over x.job ≡ true)

    -- a worker: what its pass knows, beside the jobs that it has finished. It holds these
    pub record Works (shared : S) (v : Known (ℕ × S)) (finished : List (Ticket J S)) (held : List ℕ) : Type 0 where
      pub part : 0 < v.parts
      pub holds : v.held ≡ held
      pub done : v.done ≡ map (λ x. x.number) finished
      pub each : AllOver v.entered finished
      pub few : length v.entered < 2 ^ 32
      pub home : IsHome shared v.entered

    -- one worker of several, between two jobs: it has one part, and knows that these were entered
    pub record Serves (shared : S) (entered : List (ℕ × S)) (v : Known (ℕ × S)) (finished : List (Ticket J S)) : Type 0
      where
        pub works : Works shared v finished []
        pub one : v.parts ≡ 1
        pub same : v.entered ≡ entered

    -- the job that was entered as number k, over, and where it belongs
    pub record IsBack (shared : S) (entered : List (ℕ × S)) (k : ℕ) (j : J) : Type 0 where
      pub is_entered : get_elem? entered k ≡ some (which j, shared)
      pub ended : over j ≡ true
      pub home : belongs j shared

    -- the job of number k lies in its slot
    abbrev pub IsIn : S → List (ℕ × S) → List (Option J) → ℕ → Type 0
    IsIn shared entered slots k = (j : J) × (get_elem? slots k ≡ some (Some j)) × IsBack shared entered k j
