-- The rule's steps for jobs, and what they make of a worker.
use Rattle.std.proofs.Common.{◌≡◌, ℕ, zero, suc, ◌<◌, ◌≤◌, Bool, true, List, [], ◌∷◌, ◌++◌, length, map, sym, refl, ap, ◌∙◌, subst, ⊎_elim, ◌+◌, ◌-◌, ◌^◌, lit<, arith, All, get_or, length-append}
use Rattle.std.proofs.lemmas.List.{map-append, length-map, get_or_at}
use mathlib.Core.Option.{some, some-ne-none}
use lib.ListN.{get_elem?}
use Rattle.crossbeam_queue.specs.Fifo.{Pushes, Pops, Forks, Merges, Learns}
use Rattle.crossbeam_queue.proofs.Lists.{at_snoc}
use Rattle.rank_pool.specs.declared.rule.Known.{Known}
use Rattle.rank_pool.specs.declared.ticket.Ticket.{Ticket}
use Rattle.rank_pool.specs.Places.{weigh, below, every, knows, InOnePlace}
use Rattle.rank_pool.specs.Jobs.{IsListed, IsHome, AllOver, Works, Serves}
use Rattle.rank_pool.proofs.Moves

module _ {J S : Type 0} (which : J → ℕ) (belongs : J → S → Type 0) where
  abbrev pub Rule : List (Ticket J S) → List (Known (ℕ × S)) → Type 0
  Rule = InOnePlace every (λ x. x.number) (λ x. (which x.job, x.home.value)) (λ x. belongs x.job x.home.value)

  -- the rule as jobs have it: a job goes back
  pub puts : (n p : ℕ) (v : Known (ℕ × S)) (x : Ticket J S) → 0 < v.parts → v.held ≡ x.number ∷ [] → IsListed which belongs v.entered x → Pushes Rule n p v x (λ w. w ≡ knows v.parts v.entered [] v.done)
  puts n p v x part held l = Moves.puts every (λ x. x.number) (λ x. (which x.job, x.home.value)) (λ x. belongs x.job x.home.value) n p v x part held l.0 l.1

  -- the rule as jobs have it: a job is taken
  pub takes : (p : ℕ) (v : Known (ℕ × S)) → 0 < v.parts
      → Pops Rule p v (λ x w. (w ≡ knows v.parts v.entered (x.number ∷ v.held) v.done) × (get_elem? v.entered x.number ≡ some (which x.job, x.home.value)) × belongs x.job x.home.value)
  takes = Moves.takes every (λ x. x.number) (λ x. (which x.job, x.home.value)) (λ x. belongs x.job x.home.value)

  -- the rule as jobs have it: a job is finished
  pub notes : (p : ℕ) (v : Known (ℕ × S)) → Forks Rule p v (knows v.parts v.entered [] (v.done ++ v.held)) (knows 0 [] [] [])
  notes = Moves.notes every (λ x. x.number) (λ x. (which x.job, x.home.value)) (λ x. belongs x.job x.home.value)

  -- the rule as jobs have it: a job is entered under the next number
  pub enters : (n p : ℕ) (v : Known (ℕ × S)) (x : Ticket J S) → v.parts ≡ every → x.number ≡ length v.entered → belongs x.job x.home.value
      → Pushes Rule n p v x (λ w. w ≡ knows v.parts (v.entered ++ (which x.job, x.home.value) ∷ []) v.held v.done)
  enters n p v x = Moves.enters every (λ x. x.number) (λ x. (which x.job, x.home.value)) (λ x. belongs x.job x.home.value) n p v x (lit< tt)

  -- the rule as jobs have it holds of an empty queue
  pub begins : Rule [] (knows every [] [] [] ∷ [])
  begins = Moves.begins every (λ x. x.number) (λ x. (which x.job, x.home.value)) (λ x. belongs x.job x.home.value)

  -- the rule as jobs have it: a pass for a worker
  pub deals : (p : ℕ) (v : Known (ℕ × S)) → 1 < v.parts → Forks Rule p v (knows (v.parts - 1) v.entered v.held v.done) (knows 1 v.entered [] [])
  deals = Moves.deals every (λ x. x.number) (λ x. (which x.job, x.home.value)) (λ x. belongs x.job x.home.value)

  -- the rule as jobs have it: a pass comes back
  pub gathers : (p : ℕ) (v : Known (ℕ × S)) (q : ℕ) (u : Known (ℕ × S)) → 0 < v.parts
      → Merges Rule p v q u (knows (v.parts + u.parts) v.entered (v.held ++ u.held) (v.done ++ u.done)) (knows 0 [] [] [])
  gathers = Moves.gathers every (λ x. x.number) (λ x. (which x.job, x.home.value)) (λ x. belongs x.job x.home.value)

  -- the rule as jobs have it: the pass with every part knows that each job is in one place
  pub whole : (p : ℕ) (v : Known (ℕ × S)) → v.parts ≡ every
      → Learns Rule p v (λ items. (h : ℕ → ℕ) → weigh h (map (λ x. x.number) items) + weigh h v.held + weigh h v.done ≡ below h (length v.entered))
  whole p v = Moves.whole every (λ x. x.number) (λ x. (which x.job, x.home.value)) (λ x. belongs x.job x.home.value) p v (lit< tt)

  -- the rule as jobs have it: a worker has no more than was entered
  pub room : (p : ℕ) (v : Known (ℕ × S)) → 0 < v.parts → Learns Rule p v (λ items. length v.held + length v.done ≤ length v.entered)
  room = Moves.room every (λ x. x.number) (λ x. (which x.job, x.home.value)) (λ x. belongs x.job x.home.value)

  -- after a turn a job stands where it stood
  pub turned : (shared : S) (entered : List (ℕ × S)) (x y : Ticket J S) → IsHome which belongs shared entered → IsListed which belongs entered x
      → y.number ≡ x.number → y.home ≡ x.home → belongs y.job shared → which y.job ≡ which x.job → IsListed which belongs entered y
  turned shared entered x y home l number place is same =
      let at : x.home.value ≡ shared = home x.number (which x.job, x.home.value) l.0 in
      let at' : y.home.value ≡ shared = ap (λ p. p.value) place ∙ at in (
        ap (get_elem? entered) number ∙ l.0 ∙ (λ i. some (sym same i, sym (ap (λ p. p.value) place) i)),
        subst (belongs y.job) (sym at') is,
      )

  module _ (over : J → Bool) where
    -- where the jobs of two lists were entered and are over, so are those of both in a row
    all_append : (entered : List (ℕ × S)) (xs ys : List (Ticket J S)) → AllOver which belongs over entered xs → AllOver which belongs over entered ys → AllOver which belongs over entered (xs ++ ys)
    all_append entered [] ys p q k x e = q k x e
    all_append entered (y ∷ xs) ys p q zero x e = p 0 x e
    all_append entered (y ∷ xs) ys p q (suc k) x e = all_append entered xs ys (λ j z a. p (suc j) z a) q k x e

    -- a worker that puts its job back holds none
    pub works_put : (shared : S) (v w : Known (ℕ × S)) (xs : List (Ticket J S)) (n : ℕ) → Works which belongs over shared v xs (n ∷ []) → w ≡ knows v.parts v.entered [] v.done
        → Works which belongs over shared w xs []
    works_put shared v w xs n r e =
        subst (λ u. Works which belongs over shared u xs []) (sym e) (record { part = r.part; holds = refl; done = r.done; each = r.each; few = r.few; home = r.home })

    -- a worker that takes a job holds it
    pub works_take : (shared : S) (v w : Known (ℕ × S)) (xs : List (Ticket J S)) (n : ℕ) → Works which belongs over shared v xs [] → w ≡ knows v.parts v.entered (n ∷ v.held) v.done
        → Works which belongs over shared w xs (n ∷ [])
    works_take shared v w xs n r e =
        subst (λ u. Works which belongs over shared u xs (n ∷ [])) (sym e) (record { part = r.part; holds = ap (λ l. n ∷ l) r.holds; done = r.done; each = r.each; few = r.few; home = r.home })

    -- a worker whose job is over has one more finished, and holds none
    pub works_note : (shared : S) (v u w : Known (ℕ × S)) (xs ys : List (Ticket J S)) (x : Ticket J S) → Works which belongs over shared v xs (x.number ∷ [])
        → u ≡ v → w ≡ knows u.parts u.entered [] (u.done ++ u.held) → ys ≡ xs ++ x ∷ [] → IsListed which belongs v.entered x → over x.job ≡ true
        → Works which belongs over shared w ys []
    works_note shared v u w xs ys x r same e grown l is =
        let e' : w ≡ knows v.parts v.entered [] (v.done ++ v.held) = e ∙ ap (λ (a : Known (ℕ × S)). knows a.parts a.entered [] (a.done ++ a.held)) same in
        let done : v.done ++ v.held ≡ map (λ y. y.number) (xs ++ x ∷ []) = (λ i. r.done i ++ r.holds i) ∙ sym (map-append (λ (y : Ticket J S). y.number) xs (x ∷ [])) in
        let each : AllOver which belongs over v.entered (xs ++ x ∷ []) =
        λ k y at. ⊎_elim (λ i. r.each k y i) (λ (i : x ≡ y). subst (λ z. IsListed which belongs v.entered z × (over z.job ≡ true)) i (l, is)) (at_snoc xs x y k at) in
        let here : Works which belongs over shared (knows v.parts v.entered [] (v.done ++ v.held)) (xs ++ x ∷ []) [] =
        record { part = r.part; holds = refl; done = done; each = each; few = r.few; home = r.home } in
        subst (λ (a : Known (ℕ × S) × List (Ticket J S)). Works which belongs over shared a.0 a.1 []) (λ i. (sym e' i, sym grown i)) here

    -- a worker that another joins has the finished jobs of both
    pub works_gather : (shared : S) (v u w : Known (ℕ × S)) (xs ys zs : List (Ticket J S)) → Works which belongs over shared v xs [] → Works which belongs over shared u ys []
        → u.entered ≡ v.entered → w ≡ knows (v.parts + u.parts) v.entered (v.held ++ u.held) (v.done ++ u.done) → zs ≡ xs ++ ys
        → Works which belongs over shared w zs []
    works_gather shared v u w xs ys zs r s same e grown =
        let held : v.held ++ u.held ≡ [] = (λ i. r.holds i ++ s.holds i) in
        let done : v.done ++ u.done ≡ map (λ y. y.number) (xs ++ ys) = (λ i. r.done i ++ s.done i) ∙ sym (map-append (λ (y : Ticket J S). y.number) xs ys) in
        let theirs : AllOver which belongs over v.entered ys = subst (λ b. AllOver which belongs over b ys) same s.each in
        let part = r.part in
        let here : Works which belongs over shared (knows (v.parts + u.parts) v.entered (v.held ++ u.held) (v.done ++ u.done)) (xs ++ ys) [] =
        record { part = omega arith; holds = held; done = done; each = all_append v.entered xs ys r.each theirs; few = r.few; home = r.home } in
        subst (λ (a : Known (ℕ × S) × List (Ticket J S)). Works which belongs over shared a.0 a.1 []) (λ i. (sym e i, sym grown i)) here

    -- how many are finished is within what a pass knows of the room
    pub short : (shared : S) (v : Known (ℕ × S)) (xs : List (Ticket J S)) (held : List ℕ) → Works which belongs over shared v xs held → length v.held + length v.done ≤ length v.entered → length held + length xs < 2 ^ 32
    short shared v xs held r h =
        let done : length v.done ≡ length xs = ap length r.done ∙ length-map xs (λ (y : Ticket J S). y.number) in
        let holds : length v.held ≡ length held = ap length r.holds in
        let few = r.few in
        omega arith

    -- a new worker has finished nothing, and knows what was entered
    pub serves_new : (shared : S) (entered b : List (ℕ × S)) (v : Known (ℕ × S)) (xs : List (Ticket J S)) → IsHome which belongs shared entered → length entered < 2 ^ 32 → xs ≡ []
        → v ≡ knows 1 b [] [] → b ≡ entered → Serves which belongs over shared entered v xs
    serves_new shared entered b v xs home few nil e same =
        let e' : v ≡ knows 1 entered [] [] = e ∙ ap (λ (x : List (ℕ × S)). knows 1 x [] []) same in
        let each : AllOver which belongs over entered [] = λ k x at. absurd (some-ne-none x (sym at)) in
        let works : Works which belongs over shared (knows 1 entered [] []) [] [] = record { part = lit< tt; holds = refl; done = refl; each = each; few = few; home = home } in
        let here : Serves which belongs over shared entered (knows 1 entered [] []) [] = record { works = works; one = refl; same = refl } in
        subst (λ (a : Known (ℕ × S) × List (Ticket J S)). Serves which belongs over shared entered a.0 a.1) (λ i. (sym e' i, sym nil i)) here

module _ {X : Type 0} (P : X → Type 0) where
  -- what all of a list have, the one in the middle has
  pub all_at : (xs ys zs : List X) (x : X) → xs ++ (x ∷ ys) ≡ zs → All P zs → P x
  all_at xs ys zs x e h =
      let n : length (xs ++ x ∷ ys) ≡ length zs = ap length e in
      subst P (ap (λ l. get_or l (length xs) x) (sym e) ∙ get_or_at xs x ys x (length xs) refl) (h (length xs) x (omega (arith, length-append xs (x ∷ ys))))

  -- what all of a list and one more have, all of the longer list have
  pub all_push : (xs : List X) (x : X) → All P xs → P x → All P (xs ++ x ∷ [])
  all_push [] x h p zero d lt = p
  all_push [] x h p (suc k) d lt = absurd (omega arith)
  all_push (y ∷ xs) x h p zero d lt = h 0 d (omega arith)
  all_push (y ∷ xs) x h p (suc k) d lt = all_push xs x (λ j e l. h (suc j) e (omega arith)) p k d (omega arith)
