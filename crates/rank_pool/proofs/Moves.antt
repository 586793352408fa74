-- Each step of a worker keeps the rule.
use Rattle.std.proofs.Common.{◌≡◌, ◌≢◌, ℕ, zero, suc, ◌+◌, ◌-◌, ◌<◌, ◌≤◌, List, [], ◌∷◌, ◌++◌, length, map, set, sym, refl, ap, ◌∙◌, subst, ⊎_elim, arith, length-append}
use Rattle.std.proofs.lemmas.List.{map-append}
use mathlib.Core.Option.{some, some-injective, some-ne-none}
use lib.ListN.{get_elem?}
use Rattle.crossbeam_queue.specs.Fifo.{Pushes, Pops, Forks, Merges, Learns}
use Rattle.crossbeam_queue.proofs.Lists.{at_set, at_snoc, at_longer, at_last}
use Rattle.rank_pool.specs.declared.rule.Known.{Known}
use Rattle.rank_pool.specs.Places.{weigh, below, knows, total, with_it, Reads, Each, InOnePlace}

-- two lists in a row weigh what both do
pub weigh-append : (h : ℕ → ℕ) (xs ys : List ℕ) → weigh h (xs ++ ys) ≡ weigh h xs + weigh h ys
weigh-append h [] ys = omega arith
weigh-append h (x ∷ xs) ys = omega (arith, weigh-append h xs ys)

-- where each number weighs 1, a list weighs its length
pub weigh-one : (xs : List ℕ) → weigh (λ _. 1) xs ≡ length xs
weigh-one [] = refl
weigh-one (x ∷ xs) = omega (arith, weigh-one xs)

-- where each number weighs 1, the numbers below n weigh n
pub below-one : (n : ℕ) → below (λ _. 1) n ≡ n
below-one zero = refl
below-one (suc n) = omega (arith, below-one n)

module _ {O : Type 0} where
  -- one view is put in the place of another: the sum changes by their difference
  total_set : (f : Known O → ℕ) (views : List (Known O)) (p : ℕ) (v w : Known O) → get_elem? views p ≡ some v → total f (set views p w) + f v ≡ total f views + f w
  total_set f [] p v w e = absurd (some-ne-none v (sym e))
  total_set f (x ∷ xs) zero v w e = let s : f x ≡ f v = ap f (some-injective x v e) in omega arith
  total_set f (x ∷ xs) (suc p) v w e = omega (arith, total_set f xs p v w e)

  -- one more view adds its own to the sum
  total-append : (f : Known O → ℕ) (views : List (Known O)) (v : Known O) → total f (views ++ v ∷ []) ≡ total f views + f v
  total-append f [] v = omega arith
  total-append f (x ∷ xs) v = omega (arith, total-append f xs v)

  -- the sum is at least what one view adds
  total_at : (f : Known O → ℕ) (views : List (Known O)) (p : ℕ) (v : Known O) → get_elem? views p ≡ some v → f v ≤ total f views
  total_at f [] p v e = absurd (some-ne-none v (sym e))
  total_at f (x ∷ xs) zero v e = let s : f x ≡ f v = ap f (some-injective x v e) in omega arith
  total_at f (x ∷ xs) (suc p) v e = omega (arith, total_at f xs p v e)

  -- where no view has any of g, and f is nothing without g
  total_none : (f g : Known O → ℕ) (views : List (Known O)) → total g views ≡ 0 → Each (λ v. g v ≡ 0 → f v ≡ 0) views → total f views ≡ 0
  total_none f g [] z n = refl
  total_none f g (x ∷ xs) z n = omega (arith, total_none f g xs (omega arith) (λ p v e. n (suc p) v e), n 0 x refl (omega arith))

  -- where one view has all of g, and f is nothing without g, it has all of f
  total_only : (f g : Known O → ℕ) (views : List (Known O)) (p : ℕ) (v : Known O) → get_elem? views p ≡ some v → total g views ≡ g v → Each (λ u. g u ≡ 0 → f u ≡ 0) views → total f views ≡ f v
  total_only f g [] p v e t n = absurd (some-ne-none v (sym e))
  total_only f g (x ∷ xs) zero v e t n =
      let s : f x ≡ f v = ap f (some-injective x v e) in
      let s' : g x ≡ g v = ap g (some-injective x v e) in
      omega (arith, total_none f g xs (omega arith) (λ p u e'. n (suc p) u e'))
  total_only f g (x ∷ xs) (suc p) v e t n =
      let some_part = total_at g xs p v e in
      let none : f x ≡ 0 = n 0 x refl (omega arith) in
      omega (arith, total_only f g xs p v e (omega arith) (λ q u e'. n (suc q) u e'))

  -- the others have no part where this one has all
  others : (g : Known O → ℕ) (views : List (Known O)) (p j : ℕ) (v u : Known O) → get_elem? views p ≡ some v → total g views ≡ g v → j ≢ p → get_elem? views j ≡ some u → g u ≡ 0
  others g [] p j v u e t n a = absurd (some-ne-none v (sym e))
  others g (x ∷ xs) zero zero v u e t n a = absurd (n refl)
  others g (x ∷ xs) zero (suc j) v u e t n a = let s : g x ≡ g v = ap g (some-injective x v e) in omega (arith, total_at g xs j u a)
  others g (x ∷ xs) (suc p) zero v u e t n a = let s : g x ≡ g u = ap g (some-injective x u a) in omega (arith, total_at g xs p v e)
  others g (x ∷ xs) (suc p) (suc j) v u e t n a = let at = total_at g xs p v e in others g xs p j v u e (omega arith) (λ s. n (ap suc s)) a

  -- what the new view has, and all the others have, each view has once it is put in
  each_set : (P : Known O → Type 0) (views : List (Known O)) (p : ℕ) (w : Known O) → P w → ((j : ℕ) (u : Known O) → j ≢ p → get_elem? views j ≡ some u → P u) → Each P (set views p w)
  each_set P views p w mine old j u e = ⊎_elim (λ (x : (j ≡ p) × (w ≡ u)). subst P x.1 mine) (λ (x : (j ≢ p) × (get_elem? views j ≡ some u)). old j u x.0 x.1) (at_set views p j w u e)

  -- what each view and one more have, each of all has
  each-append : (P : Known O → Type 0) (views : List (Known O)) (w : Known O) → P w → Each P views → Each P (views ++ w ∷ [])
  each-append P views w mine old j u e = ⊎_elim (λ x. old j u x) (λ (x : w ≡ u). subst P x mine) (at_snoc views w u j e)

  -- a pass with nothing fits whatever was entered
  spent_reads : (entered : List O) → Reads entered (knows 0 [] [] [])
  spent_reads entered = ((λ h. absurd (omega arith)), λ _. (refl, refl))

  -- the first pass fits an empty list of entered jobs
  first_reads : (all p : ℕ) (v : Known O) → get_elem? (knows all [] [] [] ∷ []) p ≡ some v → Reads [] v
  first_reads all zero v e = subst (Reads []) (some-injective (knows all [] [] []) v e) ((λ _. refl), λ _. (refl, refl))
  first_reads all (suc p) v e = absurd (some-ne-none v (sym e))

module _ {T O : Type 0} (all : ℕ) (number : T → ℕ) (origin : T → O) (belongs : T → Type 0) where
  -- the rule holds of an empty queue with the first pass
  pub begins : InOnePlace all number origin belongs [] (knows all [] [] [] ∷ [])
  begins = ([], omega arith, (λ h. refl), (λ k x e. absurd (some-ne-none x (sym e))), first_reads all)

  -- one more value in the queue adds the weight of its number
  numbers_more : (h : ℕ → ℕ) (items : List T) (x : T) → weigh h (map number (items ++ x ∷ [])) ≡ weigh h (map number items) + h (number x)
  numbers_more h items x = ap (weigh h) (map-append number items (x ∷ [])) ∙ omega (arith, weigh-append h (map number items) (number x ∷ []))

  -- a job is entered under the next number
  pub enters : (n p : ℕ) (v : Known O) (x : T) → 0 < all → v.parts ≡ all → number x ≡ length v.entered → belongs x
      → Pushes (InOnePlace all number origin belongs) n p v x (λ w. w ≡ knows v.parts (v.entered ++ origin x ∷ []) v.held v.done)
  enters n p v x pos every next is items views room r at =
      let w : Known O = knows v.parts (v.entered ++ origin x ∷ []) v.held v.done in
      let mine = r.4 p v at in
      let same : v.entered ≡ r.0 = mine.0 (omega arith) in (
        w,
        (
          v.entered ++ origin x ∷ [],
          (let s = total_set (λ u. u.parts) views p v w at in let t = r.1 in omega arith),
          (λ h.
              let s = total_set (with_it h) views p v w at in
              let m = numbers_more h items x in
              let l : length (v.entered ++ origin x ∷ []) ≡ suc (length v.entered) = omega (arith, length-append v.entered (origin x ∷ [])) in
              let b : below h (length (v.entered ++ origin x ∷ [])) ≡ below h (length v.entered) + h (length v.entered) = ap (below h) l in
              let o : below h (length v.entered) ≡ below h (length r.0) = ap (λ l. below h (length l)) same in
              let a : h (number x) ≡ h (length v.entered) = ap h next in
              omega (arith, r.2 h)),
          (λ k y e. ⊎_elim
              (λ i. let l = r.3 k y i in (at_longer v.entered (origin x ∷ []) (number y) (origin y) (subst (λ b. get_elem? b (number y) ≡ some (origin y)) (sym same) l.0), l.1))
              (λ (i : x ≡ y). subst (λ z. (get_elem? (v.entered ++ origin x ∷ []) (number z) ≡ some (origin z)) × belongs z) i (at_last v.entered (origin x) (number x) (sym next), is))
              (at_snoc items x y k e)),
          each_set (Reads (v.entered ++ origin x ∷ [])) views p w ((λ _. refl), λ z. absurd (omega arith))
              (λ j u ne e. let z : u.parts ≡ 0 = others (λ (a : Known O). a.parts) views p j v u at (r.1 ∙ sym every) ne e in ((λ h. absurd (omega arith)), (r.4 j u e).1)),
        ),
        refl,
      )

  -- what is held goes back
  pub puts : (n p : ℕ) (v : Known O) (x : T) → 0 < v.parts → v.held ≡ number x ∷ [] → get_elem? v.entered (number x) ≡ some (origin x) → belongs x
      → Pushes (InOnePlace all number origin belongs) n p v x (λ w. w ≡ knows v.parts v.entered [] v.done)
  puts n p v x part held listed is items views room r at =
      let w : Known O = knows v.parts v.entered [] v.done in
      let same : v.entered ≡ r.0 = (r.4 p v at).0 part in (
        w,
        (
          r.0,
          (let s = total_set (λ u. u.parts) views p v w at in let t = r.1 in omega arith),
          (λ h.
              let s = total_set (with_it h) views p v w at in
              let m = numbers_more h items x in
              let a : weigh h v.held ≡ h (number x) + 0 = ap (weigh h) held in
              omega (arith, r.2 h)),
          (λ k y e. ⊎_elim
              (λ i. r.3 k y i)
              (λ (i : x ≡ y). subst (λ z. (get_elem? r.0 (number z) ≡ some (origin z)) × belongs z) i (subst (λ b. get_elem? b (number x) ≡ some (origin x)) same listed, is))
              (at_snoc items x y k e)),
          each_set (Reads r.0) views p w ((λ _. same), λ z. absurd (omega arith)) (λ j u ne e. r.4 j u e),
        ),
        refl,
      )

  -- the job at the front goes to the worker that takes it, as it was entered
  pub takes : (p : ℕ) (v : Known O) → 0 < v.parts
      → Pops (InOnePlace all number origin belongs) p v (λ x w. (w ≡ knows v.parts v.entered (number x ∷ v.held) v.done) × (get_elem? v.entered (number x) ≡ some (origin x)) × belongs x)
  takes p v part x items views r at =
      let w : Known O = knows v.parts v.entered (number x ∷ v.held) v.done in
      let same : v.entered ≡ r.0 = (r.4 p v at).0 part in
      let l = r.3 0 x refl in (
        w,
        (
          r.0,
          (let s = total_set (λ u. u.parts) views p v w at in let t = r.1 in omega arith),
          (λ h. let s = total_set (with_it h) views p v w at in omega (arith, r.2 h)),
          (λ k y e. r.3 (suc k) y e),
          each_set (Reads r.0) views p w ((λ _. same), λ z. absurd (omega arith)) (λ j u ne e. r.4 j u e),
        ),
        (refl, subst (λ b. get_elem? b (number x) ≡ some (origin x)) (sym same) l.0, l.1),
      )

  -- what is held is finished, which a new pass with nothing sees
  pub notes : (p : ℕ) (v : Known O) → Forks (InOnePlace all number origin belongs) p v (knows v.parts v.entered [] (v.done ++ v.held)) (knows 0 [] [] [])
  notes p v items views r at =
      let w : Known O = knows v.parts v.entered [] (v.done ++ v.held) in
      let none : Known O = knows 0 [] [] [] in
      let vs : List (Known O) = set views p w in
      let mine = r.4 p v at in (
        r.0,
        (let s = total_set (λ u. u.parts) views p v w at in let t = r.1 in omega (arith, total-append (λ (u : Known O). u.parts) vs none)),
        (λ h.
            let s = total_set (with_it h) views p v w at in
            let a = weigh-append h v.done v.held in
            omega (arith, r.2 h, total-append (with_it h) vs none)),
        r.3,
        each-append (Reads r.0) vs none (spent_reads r.0)
            (each_set (Reads r.0) views p w (mine.0, λ z. (refl, ap (λ l. l ++ v.held) (mine.1 z).1 ∙ (mine.1 z).0)) (λ j u ne e. r.4 j u e)),
      )

  -- a part, with the entered, for another thread
  pub deals : (p : ℕ) (v : Known O) → 1 < v.parts → Forks (InOnePlace all number origin belongs) p v (knows (v.parts - 1) v.entered v.held v.done) (knows 1 v.entered [] [])
  deals p v part items views r at =
      let w : Known O = knows (v.parts - 1) v.entered v.held v.done in
      let new : Known O = knows 1 v.entered [] [] in
      let vs : List (Known O) = set views p w in
      let same : v.entered ≡ r.0 = (r.4 p v at).0 (omega arith) in (
        r.0,
        (let s = total_set (λ u. u.parts) views p v w at in let t = r.1 in omega (arith, total-append (λ (u : Known O). u.parts) vs new)),
        (λ h. let s = total_set (with_it h) views p v w at in omega (arith, r.2 h, total-append (with_it h) vs new)),
        r.3,
        each-append (Reads r.0) vs new ((λ _. same), λ _. (refl, refl))
            (each_set (Reads r.0) views p w ((λ _. same), λ z. absurd (omega arith)) (λ j u ne e. r.4 j u e)),
      )

  -- the pass of another worker comes back, and has nothing any more
  pub gathers : (p : ℕ) (v : Known O) (q : ℕ) (u : Known O) → 0 < v.parts
      → Merges (InOnePlace all number origin belongs) p v q u (knows (v.parts + u.parts) v.entered (v.held ++ u.held) (v.done ++ u.done)) (knows 0 [] [] [])
  gathers p v q u part items views r at apart at' =
      let both : Known O = knows (v.parts + u.parts) v.entered (v.held ++ u.held) (v.done ++ u.done) in
      let none : Known O = knows 0 [] [] [] in
      let vs : List (Known O) = set views p both in
      let same : v.entered ≡ r.0 = (r.4 p v at).0 part in (
        r.0,
        (let s = total_set (λ a. a.parts) views p v both at in let s' = total_set (λ a. a.parts) vs q u none at' in let t = r.1 in omega arith),
        (λ h.
            let s = total_set (with_it h) views p v both at in
            let s' = total_set (with_it h) vs q u none at' in
            let a = weigh-append h v.held u.held in
            let b = weigh-append h v.done u.done in
            omega (arith, r.2 h)),
        r.3,
        each_set (Reads r.0) vs q none (spent_reads r.0)
            (λ j y ne e. each_set (Reads r.0) views p both ((λ _. same), λ z. absurd (omega arith)) (λ i a _ e'. r.4 i a e') j y e),
      )

  -- what a worker holds and has finished is no more than was entered
  pub room : (p : ℕ) (v : Known O) → 0 < v.parts → Learns (InOnePlace all number origin belongs) p v (λ items. length v.held + length v.done ≤ length v.entered)
  room p v part items views r at =
      let same : length v.entered ≡ length r.0 = ap length ((r.4 p v at).0 part) in
      let some_of = total_at (with_it (λ _. 1)) views p v at in
      omega (arith, r.2 (λ _. 1), weigh-one v.held, weigh-one v.done, below-one (length r.0))

  -- with every part: no other pass has anything
  pub whole : (p : ℕ) (v : Known O) → 0 < all → v.parts ≡ all
      → Learns (InOnePlace all number origin belongs) p v (λ items. (h : ℕ → ℕ) → weigh h (map number items) + weigh h v.held + weigh h v.done ≡ below h (length v.entered))
  whole p v pos every items views r at h =
      let same : below h (length v.entered) ≡ below h (length r.0) = ap (λ l. below h (length l)) ((r.4 p v at).0 (omega arith)) in
      let only = total_only (with_it h) (λ (u : Known O). u.parts) views p v at (r.1 ∙ sym every)
      (λ q u e z. let n = (r.4 q u e).1 z in let a : weigh h u.held ≡ 0 = ap (weigh h) n.0 in let b : weigh h u.done ≡ 0 = ap (weigh h) n.1 in omega arith) in
      omega (arith, r.2 h)
