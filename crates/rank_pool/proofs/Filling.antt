-- How the order given comes of what the pass with every part learns.
use Rattle.std.proofs.Common.{◌≡◌, ◌≢◌, ℕ, zero, suc, ◌+◌, ◌<◌, ◌^◌, Bool, true, List, [], ◌∷◌, ◌++◌, Option, Some, length, map, set, sym, refl, ap, ◌∙◌, subst, ⊎_elim, inl, inr, ◌⊎◌, arith, slice_index_or, All}
use Rattle.std.proofs.lemmas.List.{length-map}
use mathlib.Core.Option.{some, some-injective, some-ne-none}
use lib.ListN.{get_elem?}
use Rattle.crossbeam_queue.proofs.Lists.{set_here, set_else}
use Rattle.rank_pool.specs.declared.rule.Known.{Known}
use Rattle.rank_pool.specs.declared.ticket.Ticket.{Ticket}
use Rattle.rank_pool.specs.Places.{weigh, below}
use Rattle.rank_pool.specs.Jobs.{IsListed, IsHome, AllOver, Waits, Works, IsBack, IsIn}
use Rattle.rank_pool.proofs.Moves.{weigh-one, below-one}

-- two numbers are the same or not
same_or : (a b : ℕ) → (a ≡ b) ⊎ (a ≢ b)
same_or zero zero = inl refl
same_or zero (suc b) = inr (λ e. omega arith)
same_or (suc a) zero = inr (λ e. omega arith)
same_or (suc a) (suc b) = ⊎_elim (λ e. inl (ap suc e)) (λ n. inr (λ e. n (omega arith))) (same_or a b)

-- 1 at k, else 0
abbrev one_at : ℕ → ℕ → ℕ
one_at zero zero = 1
one_at zero (suc y) = 0
one_at (suc k) zero = 0
one_at (suc k) (suc y) = one_at k y

-- at k the weight is 1
one_here : (k : ℕ) → one_at k k ≡ 1
one_here zero = refl
one_here (suc k) = one_here k

-- where the weight is above 0, the number is k
one_is : (k y : ℕ) → 0 < one_at k y → y ≡ k
one_is zero zero h = refl
one_is zero (suc y) h = absurd (omega arith)
one_is (suc k) zero h = absurd (omega arith)
one_is (suc k) (suc y) h = ap suc (one_is k y h)

-- where k is below n, the numbers below n weigh something
below_at : (k n : ℕ) → k < n → 0 < below (one_at k) n
below_at k zero h = absurd (omega arith)
below_at k (suc n) h = ⊎_elim (λ (e : k ≡ n). let o : one_at k n ≡ 1 = ap (one_at k) (sym e) ∙ one_here k in omega arith)
    (λ (e : k ≢ n). let b = below_at k n (omega arith) in omega arith) (same_or k n)

-- a list without numbers weighs nothing
weigh_none : (h : ℕ → ℕ) (xs : List ℕ) → weigh (λ _. 1) xs ≡ 0 → weigh h xs ≡ 0
weigh_none h [] e = refl
weigh_none h (x ∷ xs) e = absurd (omega arith)

module _ {A : Type 0} where
  -- a place where something stands is within the list
  pub some_within : (l : List A) (i : ℕ) (a : A) → get_elem? l i ≡ some a → i < length l
  some_within [] i a e = absurd (some-ne-none a (sym e))
  some_within (x ∷ xs) zero a e = omega arith
  some_within (x ∷ xs) (suc i) a e = let t = some_within xs i a e in omega arith

  -- at each place within the list something stands
  pub elem_at : (l : List A) (i : ℕ) (d : A) → i < length l → get_elem? l i ≡ some (slice_index_or l i d)
  elem_at [] i d h = absurd (omega arith)
  elem_at (x ∷ xs) zero d h = refl
  elem_at (x ∷ xs) (suc i) d h = elem_at xs i d (omega arith)

  -- what stands in a list that grew by one stood there, or is the new one at its end
  pub snoc_at : (l : List A) (a b : A) (j : ℕ) → get_elem? (l ++ a ∷ []) j ≡ some b → (get_elem? l j ≡ some b) ⊎ ((j ≡ length l) × (a ≡ b))
  snoc_at [] a b zero e = inr (refl, some-injective a b e)
  snoc_at [] a b (suc j) e = absurd (some-ne-none b (sym e))
  snoc_at (x ∷ xs) a b zero e = inl e
  snoc_at (x ∷ xs) a b (suc j) e = ⊎_elim (λ t. inl t) (λ (t : (j ≡ length xs) × (a ≡ b)). inr (ap suc t.0, t.1)) (snoc_at xs a b j e)

  -- what stands right behind a front has the front's length as its place
  pub here_at : (xs ys zs : List A) (a : A) → xs ++ (a ∷ ys) ≡ zs → get_elem? zs (length xs) ≡ some a
  here_at xs ys zs a e = ap (λ l. get_elem? l (length xs)) (sym e) ∙ here xs where
    here : (xs : List A) → get_elem? (xs ++ (a ∷ ys)) (length xs) ≡ some a
    here [] = refl
    here (x ∷ xs) = here xs

module _ {J S : Type 0} (which : J → ℕ) (belongs : J → S → Type 0) (over : J → Bool) where
  -- where k is among the numbers of tickets, one of them has it
  found : (k : ℕ) (xs : List (Ticket J S)) → 0 < weigh (one_at k) (map (λ x. x.number) xs) → (i : ℕ) × (x : Ticket J S) × (get_elem? xs i ≡ some x) × (x.number ≡ k)
  found k [] h = absurd (omega arith)
  found k (x ∷ xs) h = ⊎_elim
      (λ (e : x.number ≡ k). (0, x, refl, e))
      (λ (n : x.number ≢ k).
      let z : one_at k x.number ≡ 0 = ⊎_elim (λ (e : one_at k x.number ≡ 0). e) (λ (e : one_at k x.number ≢ 0). absurd (n (one_is k x.number (omega arith)))) (same_or (one_at k x.number) 0) in
      let r = found k xs (omega arith) in (suc r.0, r.1, r.2, r.3))
      (same_or x.number k)

  -- where as many are finished as were entered, each number is among them
  pub all_there : (items xs : List (Ticket J S)) (v : Known (ℕ × S)) → ((h : ℕ → ℕ) → weigh h (map (λ x. x.number) items) + weigh h v.held + weigh h v.done ≡ below h (length v.entered))
      → v.held ≡ [] → v.done ≡ map (λ x. x.number) xs → length xs ≡ length v.entered → (k : ℕ) → k < length v.entered → (i : ℕ) × (x : Ticket J S) × (get_elem? xs i ≡ some x) × (x.number ≡ k)
  all_there items xs v whole none done all k lt =
      let one : ℕ → ℕ = λ _. 1 in
      let h₁ : weigh one v.held ≡ 0 = ap (weigh one) none in
      let d₁ : weigh one v.done ≡ length xs = weigh-one v.done ∙ ap length done ∙ length-map xs (λ (y : Ticket J S). y.number) in
      let w₁ = whole one in
      let b₁ = below-one (length v.entered) in
      let z : weigh (one_at k) (map (λ x. x.number) items) ≡ 0 = weigh_none (one_at k) (map (λ x. x.number) items) (omega arith) in
      let h₂ : weigh (one_at k) v.held ≡ 0 = ap (weigh (one_at k)) none in
      let d₂ : weigh (one_at k) v.done ≡ weigh (one_at k) (map (λ x. x.number) xs) = ap (weigh (one_at k)) done in
      let w₂ = whole (one_at k) in
      let b₂ = below_at k (length v.entered) lt in
      found k xs (omega arith)

  -- a job is laid into its slot
  pub laid_one : (shared : S) (entered : List (ℕ × S)) (slots : List (Option J)) (x : Ticket J S) → IsHome which belongs shared entered → IsListed which belongs entered x → over x.job ≡ true
      → length slots ≡ length entered → IsIn which belongs over shared entered (set slots x.number (Some x.job)) x.number
  laid_one shared entered slots x home l is len =
      let at : x.home.value ≡ shared = home x.number (which x.job, x.home.value) l.0 in
      let lt = some_within entered x.number (which x.job, x.home.value) l.0 in
      (x.job, set_here slots x.number (Some x.job) (omega arith), record { is_entered = l.0 ∙ (λ i. some (which x.job, at i)); ended = is; home = subst (belongs x.job) at l.1 })

  -- what was laid stays, or is laid again
  pub laid_more : (shared : S) (entered : List (ℕ × S)) (slots : List (Option J)) (x : Ticket J S) → IsIn which belongs over shared entered (set slots x.number (Some x.job)) x.number
      → (k : ℕ) → IsIn which belongs over shared entered slots k → IsIn which belongs over shared entered (set slots x.number (Some x.job)) k
  laid_more shared entered slots x new k old = ⊎_elim
      (λ (e : k ≡ x.number). subst (λ n. IsIn which belongs over shared entered (set slots x.number (Some x.job)) n) (sym e) new)
      (λ (n : k ≢ x.number). (old.0, set_else slots x.number k (Some x.job) n ∙ old.1, old.2))
      (same_or k x.number)

  -- what was entered with these shared values belongs to them
  pub entered_home : {X : Type 0} (shared : S) (f : X → ℕ) (xs : List X) → IsHome which belongs shared (map (λ x. (f x, shared)) xs)
  entered_home shared f [] k o e = absurd (some-ne-none o (sym e))
  entered_home shared f (x ∷ xs) zero o e = ap (λ (p : ℕ × S). p.1) (sym (some-injective (f x, shared) o e))
  entered_home shared f (x ∷ xs) (suc k) o e = entered_home shared f xs k o e

  -- the first pass, once all are entered
  pub works_first : (shared : S) (entered : List (ℕ × S)) (n : ℕ) (v : Known (ℕ × S)) (xs : List (Ticket J S)) → v ≡ record { parts = n; entered = entered; held = []; done = [] } → 0 < n → xs ≡ [] → length entered < 2 ^ 32
      → IsHome which belongs shared entered → Works which belongs over shared v xs []
  works_first shared entered n v xs e pos nil few home =
      let first : Known (ℕ × S) = record { parts = n; entered = entered; held = []; done = [] } in
      let each : AllOver which belongs over entered [] = λ k x at. absurd (some-ne-none x (sym at)) in
      let here : Works which belongs over shared first [] [] = record { part = pos; holds = refl; done = refl; each = each; few = few; home = home } in
      subst (λ (a : Known (ℕ × S) × List (Ticket J S)). Works which belongs over shared a.0 a.1 []) (λ i. (sym e i, sym nil i)) here

  -- all are back, in the order in which they were entered
  pub in_turn : {X : Type 0} (shared : S) (f : X → ℕ) (xs : List X) (out : List J) → length out ≡ length xs
      → ((k : ℕ) (j : J) → get_elem? out k ≡ some j → IsBack which belongs over shared (map (λ x. (f x, shared)) xs) k j) → map which out ≡ map f xs
  in_turn shared f [] [] n b = refl
  in_turn shared f [] (o ∷ os) n b = absurd (omega arith)
  in_turn shared f (x ∷ xs) [] n b = absurd (omega arith)
  in_turn shared f (x ∷ xs) (o ∷ os) n b =
      let head : which o ≡ f x = ap (λ (p : ℕ × S). p.0) (sym (some-injective (f x, shared) (which o, shared) (b 0 o refl).is_entered)) in
      let rest : map which os ≡ map f xs = in_turn shared f xs os (omega arith) (λ k y e. let r = b (suc k) y e in record { is_entered = r.is_entered; ended = r.ended; home = r.home }) in
      λ i. head i ∷ rest i

  -- jobs that are back are over
  pub all_over : (shared : S) (entered : List (ℕ × S)) (out : List J) → ((k : ℕ) (j : J) → get_elem? out k ≡ some j → IsBack which belongs over shared entered k j) → All (λ j. over j ≡ true) out
  all_over shared entered out b k d lt = (b k (slice_index_or out k d) (elem_at out k d lt)).ended

  -- jobs that are back belong to the shared values
  pub all_home : (shared : S) (entered : List (ℕ × S)) (out : List J) → ((k : ℕ) (j : J) → get_elem? out k ≡ some j → IsBack which belongs over shared entered k j) → All (λ j. belongs j shared) out
  all_home shared entered out b k d lt = (b k (slice_index_or out k d) (elem_at out k d lt)).home

  -- which jobs the tickets are of
  pub which_tickets : (row : List (Ticket J S)) → map (λ x. which x.job) row ≡ map which (map (λ (x : Ticket J S). x.job) row)
  which_tickets [] = refl
  which_tickets (x ∷ xs) = ap (λ l. which x.job ∷ l) (which_tickets xs)

  -- as many were entered as there were tickets
  pub entered_few : {X : Type 0} (shared : S) (f : X → ℕ) (xs : List X) (entered : List (ℕ × S)) → entered ≡ map (λ x. (f x, shared)) xs → length xs < 2 ^ 32 → length entered < 2 ^ 32
  entered_few shared f xs entered e few =
      let n : length entered ≡ length xs = ap length e ∙ length-map xs (λ x. (f x, shared)) in
      omega arith

  -- the first ticket of a row, and the rest
  pub waits_first : (shared : S) (n : ℕ) (x : Ticket J S) (row rest : List (Ticket J S)) → row ≡ x ∷ rest → Waits which belongs shared n row
      → (x.number ≡ n) × (x.home.value ≡ shared) × belongs x.job shared × Waits which belongs shared (n + 1) rest
  waits_first shared n x row rest e w =
      let w' : Waits which belongs shared n (x ∷ rest) = subst (Waits which belongs shared n) e w in
      let next : suc n ≡ n + 1 = omega arith in
      (w'.0, w'.1, w'.2, subst (λ k. Waits which belongs shared k rest) next w'.3)

  -- a ticket before a row
  pub waits_more : (shared : S) (n m : ℕ) (x : Ticket J S) (row more : List (Ticket J S)) → more ≡ x ∷ row → x.number ≡ n → x.home.value ≡ shared → belongs x.job shared → m ≡ n + 1
      → Waits which belongs shared m row → Waits which belongs shared n more
  waits_more shared n m x row more e number home is next w =
      let next' : m ≡ suc n = omega arith in
      subst (Waits which belongs shared n) (sym e) (number, home, is, subst (λ k. Waits which belongs shared k row) next' w)
