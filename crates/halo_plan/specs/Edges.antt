-- The edges of a plan: which rows go from which rank to which.
use Rattle.std.specs.Prelude.{ℕ, ◌+◌, ◌-◌, Bool, false, true, ◌&&◌, nat_le, if◌then◌else◌, List, [], ◌∷◌, ◌++◌, map}
use Rattle.std.specs.List.{flat_map, range_with_len}
use Rattle.stencil_def.specs.declared.rule.Around.{Around}
use Rattle.stencil_def.specs.declared.rule.Around.TheVariants.{Fixed, Wrap}
use Rattle.halo_plan.specs.declared.TheConstants.{DOWN, UP}
use Rattle.halo_plan.specs.declared.edge.Edge.{Edge}
use Rattle.halo_plan.specs.Plan.{Plan, first_row}

abbrev pub is_wrap : Around → Bool
is_wrap Fixed = false
is_wrap Wrap = true

-- with `Wrap` and at least two ranks, rows go round from the last rank to the first
abbrev pub goes_round : Plan → Bool
goes_round p = nat_le 2 p.ranks && is_wrap p.around

-- the last rows of rank i go to rank j with tag 1, and the first rows of rank j go back to rank i with tag 2
abbrev pub between : Plan → ℕ → ℕ → List Edge
between p i j =
    record { from = i; to = j; row = first_row p (i + 1) - p.reach; tag = DOWN } ∷
    record { from = j; to = i; row = first_row p j; tag = UP } ∷ []

-- neighbours: each rank with the next, and then the last rank with rank 0 where rows go round
abbrev pub neighbours : Plan → List (ℕ × ℕ)
neighbours p =
    map (λ i. (i, i + 1)) (range_with_len 0 (p.ranks - 1)) ++ (if goes_round p then (p.ranks - 1, 0) ∷ [] else [])

-- the edges in order
unfoldable pub edges : Plan → List Edge
edges p = flat_map (λ n. between p n.0 n.1) (neighbours p)
