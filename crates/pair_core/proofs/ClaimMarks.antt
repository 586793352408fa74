-- What is left of the marks when a marker claims a partition: its list has the new mark before the old ones, and the
-- next round of that partition alone is one more.
use Rattle.std.proofs.Common.{◌≡◌, ◌≢◌, ◌⊎◌, inl, inr, ℕ, ◌+◌, ◌/◌, ◌<◌, ◌≤◌, Bool, ◌==◌, ◌&&◌, List, ◌∷◌, refl, sym, ap, ◌∙◌, subst, arith}
use Rattle.std.specs.Prelude.{if◌then◌else◌}
use Rattle.std.proofs.lemmas.Bool.{cases_eq, cases_Bool, eqb-true, eq-eqb, and_parts, and_from, false≢true}
use Rattle.gate_word.specs.Words.{round_in}
use Rattle.part_geometry.specs.Shape.{Shape}
use Rattle.pair_core.specs.Names.{put, put_pair}
use Rattle.pair_core.specs.Core.{IsMarker, times}
use Rattle.pair_core.specs.Reading.{part_bit, next_round}
use Rattle.pair_core.specs.Steps.{mark}
use Rattle.pair_core.specs.Sound.{Marks}
use Rattle.pair_core.specs.declared.view.Mark.{Mark}
use Rattle.pair_core.specs.declared.view.Life.{Life}
use Rattle.pair_core.specs.declared.view.Life.TheVariants.{Live}
use Rattle.pair_core.proofs.Puts.{put_here, put_cases, put_pair_here, put_pair_else}
use Rattle.pair_core.proofs.ClaimGroups.{Gains}

-- how often a list has a partition in a round, with one mark more
pub times_cases : {A : Type 0} (k p : ℕ) (a : A) (ms : List (Mark A)) (j q : ℕ) (P : ℕ → Type 0)
    → (j ≡ k → q ≡ p → P (1 + times j q ms)) → (¬ ((j ≡ k) × (q ≡ p)) → P (times j q ms)) → P (times j q (mark k p a ∷ ms))
times_cases {A} k p a ms j q P here rest = elim (cases_Bool ((k == j) && (p == q))) [
  | inl holds ↦ let both = and_parts (k == j) (p == q) holds in
      subst (λ (b : Bool). P ((if b then 1 else 0) + times j q ms)) (sym holds) (here (sym (eqb-true k j both.0)) (sym (eqb-true p q both.1)))
  | inr fails ↦ subst (λ (b : Bool). P ((if b then 1 else 0) + times j q ms)) (sym fails)
      (let e : times j q ms ≡ 0 + times j q ms = omega arith in
      subst P e (rest (λ both. false≢true (sym fails ∙ and_from (k == j) (p == q) (eq-eqb k j (sym both.0)) (eq-eqb p q (sym both.1))))))
]

-- the new mark counts once more in its round and partition
pub times_here : {A : Type 0} (k p : ℕ) (a : A) (ms : List (Mark A)) → times k p (mark k p a ∷ ms) ≡ 1 + times k p ms
times_here {A} k p a ms = times_cases k p a ms k p (λ z. z ≡ 1 + times k p ms) (λ _ _. refl) (λ not. absurd (not (refl, refl)))

-- and in no other
pub times_else : {A : Type 0} (k p : ℕ) (a : A) (ms : List (Mark A)) (j q : ℕ) → ¬ ((j ≡ k) × (q ≡ p)) → times j q (mark k p a ∷ ms) ≡ times j q ms
times_else {A} k p a ms j q other = times_cases k p a ms j q (λ z. z ≡ times j q ms) (λ e f. absurd (other (e, f))) (λ _. refl)

-- the claim of p leaves the next round of every other partition
pub next_rest : (f h : ℕ → ℕ) (p : ℕ) → Gains f h p → (q : ℕ) → q ≢ p → next_round h q ≡ next_round f q
next_rest f h p a q other = let e = a.round (q / 32) in let o = a.rest q other in omega arith

-- the next round of p is the one after its word's
pub next_here : (f h : ℕ → ℕ) (p k : ℕ) → Gains f h p → round_in (f (p / 32)) ≡ k → next_round h p ≡ k + 1
next_here f h p k a now = let e = a.round (p / 32) in let o = a.here in omega arith

-- where p wasn't claimed no next round is lower than before
pub next_more : (f h : ℕ → ℕ) (p : ℕ) → Gains f h p → part_bit f p ≡ 0 → (q : ℕ) → next_round f q ≤ next_round h q
next_more f h p a lacks q = elim (cases_eq q p) [
  | inl e ↦ subst (λ (z : ℕ). next_round f z ≤ next_round h z) (sym e) (let b = next_here f h p (round_in (f (p / 32))) a refl in omega arith)
  | inr other ↦ let b = next_rest f h p a q other in omega arith
]

-- what a mark of round j and partition q in the list of the seat m says
abbrev pub Owned : Shape → (ℕ → ℕ) → (ℕ → Life) → (ℕ → ℕ → ℕ) → ℕ → ℕ → ℕ → Type 0
Owned g claim life who m j q = (who j q ≡ m) × (1 ≤ j) × (q < g.send_parts) × (j < next_round claim q) × ((m ≡ 0) ⊎ (IsMarker m × (life m ≡ Live)))

-- the group of the marks holds after the claim: n is who has the mark of p in round k
pub marks_gain : {A : Type 0} (g : Shape) (f h : ℕ → ℕ) (life : ℕ → Life) (marks : ℕ → List (Mark A)) (who : ℕ → ℕ → ℕ) (k n p : ℕ) (a : A)
    → Gains f h p → p < g.send_parts → part_bit f p ≡ 0 → round_in (f (p / 32)) ≡ k → 1 ≤ k → IsMarker n → life n ≡ Live
    → Marks g f life marks who → Marks g h life (put marks n (mark k p a ∷ marks n)) (put_pair who k p n)
marks_gain {A} g f h life marks who k n p a gain inside lacks now some sort live r = record {
  own = λ m j q l. put_cases marks n more (λ i ms. 1 ≤ times j q ms → Owned g h life (put_pair who k p n) i j q)
      (λ x. times_cases k p a (marks n) j q (λ z. 1 ≤ z → Owned g h life (put_pair who k p n) n j q) (λ e t _. new j q e t) (λ _ y. old n j q y) x)
      (λ i _ x. old i j q x) m l;
  all = λ j q low within less. elim (cases_eq q p) [
    | inl e ↦ elim (cases_eq j k) [
      | inl same ↦ subst (λ (z : ℕ). times z q (put marks n more (put_pair who k p n z q)) ≡ 1) (sym same)
          (subst (λ (z : ℕ). times k z (put marks n more (put_pair who k p n k z)) ≡ 1) (sym e) one)
      | inr differ ↦ kept j q (λ both. differ both.0)
          (r.all j q low within (subst (λ (z : ℕ). j < next_round f z) (sym e)
          (let b = next_here f h p k gain now in let c : j < next_round h p = subst (λ (z : ℕ). j < next_round h z) e less in omega arith)))
    ]
    | inr differ ↦ kept j q (λ both. differ both.1) (r.all j q low within (let b = next_rest f h p gain q differ in omega arith))
  ];
}
  where
    more : List (Mark A)
    more = mark k p a ∷ marks n

    new : (j q : ℕ) → j ≡ k → q ≡ p → Owned g h life (put_pair who k p n) n j q
    new j q e t = (
      subst (λ (z : ℕ). put_pair who k p n z q ≡ n) (sym e) (subst (λ (z : ℕ). put_pair who k p n k z ≡ n) (sym t) (put_pair_here who k p n)),
      omega arith,
      omega arith,
      subst (λ (z : ℕ). j < next_round h z) (sym t) (let b = next_here f h p k gain now in omega arith),
      inr (sort, live),
    )

    old : (m j q : ℕ) → 1 ≤ times j q (marks m) → Owned g h life (put_pair who k p n) m j q
    old m j q l =
        let o = r.own m j q l in
        let below : j < next_round f q = o.3 in
        let other : ¬ ((j ≡ k) × (q ≡ p)) = λ both. (let c : j < next_round f p = subst (λ (z : ℕ). j < next_round f z) both.1 below in let e = both.0 in omega arith) in
        let b = next_more f h p gain lacks q in
        (put_pair_else who k p n j q other ∙ o.0, o.1, o.2, omega arith, o.4)

    none : times k p (marks n) ≡ 0
    none = elim (cases_eq (times k p (marks n)) 0) [
      | inl e ↦ e
      | inr other ↦ let o = (r.own n k p (omega arith)).3 in absurd (omega arith)
    ]

    one : times k p (put marks n more (put_pair who k p n k p)) ≡ 1
    one = ap (λ (z : ℕ). times k p (put marks n more z)) (put_pair_here who k p n)
        ∙ (ap (λ (z : List (Mark A)). times k p z) (put_here marks n more) ∙ (times_here k p a (marks n) ∙ (let e = none in omega arith)))

    kept : (j q : ℕ) → ¬ ((j ≡ k) × (q ≡ p)) → times j q (marks (who j q)) ≡ 1 → times j q (put marks n more (put_pair who k p n j q)) ≡ 1
    kept j q other h = ap (λ (z : ℕ). times j q (put marks n more z)) (put_pair_else who k p n j q other)
        ∙ put_cases marks n more (λ m ms. times j q (marks m) ≡ 1 → times j q ms ≡ 1) (λ y. times_else k p a (marks n) j q other ∙ y) (λ _ _ y. y) (who j q) h
