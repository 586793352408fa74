-- Numbers that were read, and those of the words that are left.
use Rattle.std.proofs.Common.{◌≡◌, ℕ, List, [], ◌∷◌, ◌++◌, Option, Some, None, option_map, refl, append_assoc}
use Rattle.text_words.specs.Numbers.{number_of}
use Rattle.script_text.specs.Words.{◌>>=◌, each_number}

-- a number more before those of the other words
behind : (read : List ℕ) (n : ℕ) (others : Option (List ℕ))
    → option_map (λ more. (read ++ n ∷ []) ++ more) others ≡ option_map (λ more. read ++ more) (others >>= λ rest. Some (n ∷ rest))
behind read n None = refl
behind read n (Some rest) = simp append_assoc

-- the word that was read
pub read_more : (read : List ℕ) (word : List ℕ) (n : ℕ) (rest : List (List ℕ)) → number_of word ≡ Some n
    → option_map (λ more. (read ++ n ∷ []) ++ more) (each_number rest) ≡ option_map (λ more. read ++ more) (each_number (word ∷ rest))
read_more read word n rest is = rw is (behind read n (each_number rest))

-- a word that is no number
pub read_none : (read : List ℕ) (word : List ℕ) (rest : List (List ℕ)) → number_of word ≡ None
    → None ≡ option_map (λ more. read ++ more) (each_number (word ∷ rest))
read_none read word rest is = rw is refl
