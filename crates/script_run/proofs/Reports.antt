-- The lines of pairs, one after another: at each step what is written and what the pairs that are left write make the
-- whole.
use Rattle.std.proofs.Common.{◌≡◌, ℕ, List, [], ◌∷◌, ◌++◌, length, sym, ap, ◌∙◌, subst, append_assoc, append-nil, refl, arith}
use Rattle.std.specs.List.{AllZip, flat_map}
use Rattle.script_run.specs.declared.pairs.NamedPair.{NamedPair}
use Rattle.script_run.specs.Pairs.{StandsPair}
use Rattle.script_run.specs.Run.{pair_line}
use Rattle.script_run.specs.State.{Pair}

-- the pairs that are left write what is missing of the whole
pub record Left (items : List NamedPair) (front whole : List ℕ) : Type 0 where
  -- the pairs of the definition that are left
  pub rest : List Pair
  -- the kept ones stand for them, in the same order
  pub agrees : AllZip StandsPair items rest
  -- what is written, with their lines behind it, is the whole
  pub written : front ++ flat_map pair_line rest ≡ whole

step_rest : (x : NamedPair) (xs : List NamedPair) (front next whole : List ℕ) (rest : List Pair) → AllZip StandsPair (x ∷ xs) rest
    → front ++ flat_map pair_line rest ≡ whole → ((p : Pair) → StandsPair x p → next ≡ front ++ pair_line p) → Left xs next whole
step_rest x xs front next whole [] z w n = elim z [ ]
step_rest x xs front next whole (p ∷ rest) z w n = record {
  rest = rest;
  agrees = z.1;
  written = ap (λ t. t ++ flat_map pair_line rest) (n p z.0) ∙ append_assoc front (pair_line p) (flat_map pair_line rest) ∙ w;
}

-- once the line of the first pair that is left is written, the pairs behind it are left
pub left_step : (x : NamedPair) (xs items : List NamedPair) (front next whole : List ℕ) → items ≡ x ∷ xs → Left items front whole
    → ((p : Pair) → StandsPair x p → next ≡ front ++ pair_line p) → Left xs next whole
left_step x xs items front next whole is left n =
    step_rest x xs front next whole left.rest (subst (λ (l : List NamedPair). AllZip StandsPair l left.rest) is left.agrees) left.written n

end_rest : (front whole : List ℕ) (rest : List Pair) → AllZip StandsPair [] rest → front ++ flat_map pair_line rest ≡ whole → front ≡ whole
end_rest front whole [] z w = sym (append-nil front) ∙ w
end_rest front whole (p ∷ rest) z w = elim z [ ]

-- once no pair is left, what is written is the whole
pub left_end : (items : List NamedPair) (front whole : List ℕ) → items ≡ [] → Left items front whole → front ≡ whole
left_end items front whole is left = end_rest front whole left.rest (subst (λ (l : List NamedPair). AllZip StandsPair l left.rest) is left.agrees) left.written

-- a list of length 0 is empty
pub nothing_left : {X : Type 0} (l : List X) → length l ≡ 0 → l ≡ []
nothing_left [] h = refl
nothing_left (x ∷ xs) h = absurd (omega arith)

-- a line of three parts
pub three_parts : (old names rest first second third : List ℕ) → first ≡ old ++ names → second ≡ first ++ rest → third ≡ second ++ 10 ∷ []
    → third ≡ old ++ (names ++ rest ++ 10 ∷ [])
three_parts old names rest first second third a b c = rw (c, b, a) (simp append_assoc)
