-- A round begins: the return words and then the take words are stored one after another, and the core allows each store.
use Rattle.std.proofs.Common.{◌≡◌, ℕ, zero, suc, ◌+◌, ◌*◌, ◌<◌, ◌≤◌, inl, inr, false, List, [], ◌∷◌, length, refl, sym, ap, ◌∙◌, subst, arith, zero-add}
use Rattle.part_geometry.specs.declared.TheConstants.{LAST_ROUND}
use Rattle.part_geometry.specs.Shape.{Shape}
use Rattle.pair_core.specs.Names.{take_words}
use Rattle.pair_core.specs.Moves.{StoreReturn, StoreTake, IsRecvIdle}
use Rattle.pair_core.specs.declared.view.RecvSide.{RecvSide}
use Rattle.slot_rows.specs.declared.lane.Lane.{Lane}
use Rattle.pair_rule.specs.Steps.{MayMake}
use Rattle.pair_rule.specs.Parts.{untaken, fresh_lanes}
use Rattle.pair_rule.specs.declared.view.View.{View}
use Rattle.part_recv.specs.Receiving.{returns_stored, takes_stored, all_untaken}

-- stores of return words leave the geometry
pub returns_geometry : (k n : ℕ) (d : View) → (returns_stored k n d).geometry ≡ d.geometry
returns_geometry k zero d = refl
returns_geometry k (suc n) d = returns_geometry k n d

-- the seat's number
pub returns_number : (k n : ℕ) (d : View) → (returns_stored k n d).number ≡ d.number
returns_number k zero d = refl
returns_number k (suc n) d = returns_number k n d

-- and how many watchers are out
pub returns_watchers : (k n : ℕ) (d : View) → (returns_stored k n d).recv.watchers ≡ d.recv.watchers
returns_watchers k zero d = refl
returns_watchers k (suc n) d = returns_watchers k n d

-- the side after n return words, where there are some
pub returns_recv : (k n : ℕ) (d : View) → 1 ≤ n → (returns_stored k n d).recv ≡ record { round = k; returns = n; takes = 0; released = 0; watchers = d.recv.watchers }
returns_recv k zero d some = absurd (omega arith)
returns_recv k (suc n) d some =
    λ i. record { round = k; returns = (let e : n + 1 ≡ suc n = omega arith in e) i; takes = 0; released = 0; watchers = returns_watchers k n d i }

-- after n return words of the next round the next one may be stored
pub may_return : (k n : ℕ) (d : View) → d.number ≡ 1 → IsRecvIdle d.recv → k ≡ d.recv.round + 1 → k ≤ LAST_ROUND → n < take_words d.geometry → MayMake (returns_stored k n d) (StoreReturn k n)
may_return k zero d one idle next last low = (one, low, last, inl (refl, idle, next))
may_return k (suc n) d one idle next last low = (
  returns_number k n d ∙ one,
  subst (λ (z : Shape). suc n < take_words z) (sym (returns_geometry k n d)) low,
  last,
  inr (omega arith, (let e : suc n ≡ n + 1 = omega arith in e), refl),
)

-- stores of take words leave the geometry
pub takes_geometry : (n : ℕ) (d : View) → (takes_stored n d).geometry ≡ d.geometry
takes_geometry zero d = refl
takes_geometry (suc n) d = takes_geometry n d

-- and the seat's number
pub takes_number : (n : ℕ) (d : View) → (takes_stored n d).number ≡ d.number
takes_number zero d = refl
takes_number (suc n) d = takes_number n d

-- the side after n take words
pub takes_recv : (n : ℕ) (d : View) → d.recv.takes ≡ 0 → (takes_stored n d).recv ≡ record d.recv { takes = n }
takes_recv zero d none = λ i. record d.recv { takes = none i }
takes_recv (suc n) d none =
    ap (λ (z : RecvSide). let y : RecvSide = record z { takes = n + 1 } in y) (takes_recv n d none) ∙ (λ i. record d.recv { takes = (let e : n + 1 ≡ suc n = omega arith in e) i })

-- the side after all return words and n take words
pub opened_recv : (k n : ℕ) (d : View) → 1 ≤ take_words d.geometry
    → (takes_stored n (returns_stored k (take_words d.geometry) d)).recv ≡ record { round = k; returns = take_words d.geometry; takes = n; released = 0; watchers = d.recv.watchers }
opened_recv k n d some =
    let r = returns_recv k (take_words d.geometry) d some in
    takes_recv n (returns_stored k (take_words d.geometry) d) (ap (λ (z : RecvSide). z.takes) r) ∙ ap (λ (z : RecvSide). let y : RecvSide = record z { takes = n } in y) r

-- both leave the geometry
pub opened_geometry : (k n m : ℕ) (d : View) → (takes_stored n (returns_stored k m d)).geometry ≡ d.geometry
opened_geometry k n m d = takes_geometry n (returns_stored k m d) ∙ returns_geometry k m d

-- after all return words and n take words the next take word may be stored
pub may_take : (k n : ℕ) (d : View) → d.number ≡ 1 → n < take_words d.geometry → MayMake (takes_stored n (returns_stored k (take_words d.geometry) d)) (StoreTake k n)
may_take k n d one low =
    let m : ℕ = take_words d.geometry in
    let recv = opened_recv k n d (omega arith) in
    let same = opened_geometry k n m d in (
      takes_number n (returns_stored k m d) ∙ (returns_number k m d ∙ one),
      subst (λ (z : Shape). n < take_words z) (sym same) low,
      sym (ap (λ (z : RecvSide). z.round) recv),
      ap (λ (z : RecvSide). z.returns) recv ∙ sym (ap take_words same),
      sym (ap (λ (z : RecvSide). z.takes) recv),
    )

-- ---- the lanes

untaken_join : (a b : ℕ) (ls : List Lane) → untaken a b (untaken 0 a ls) ≡ untaken 0 (a + b) ls
untaken_join zero b [] = refl
untaken_join zero b (l ∷ ls) = ap (λ (n : ℕ). untaken 0 n (l ∷ ls)) (sym (zero-add b))
untaken_join (suc a) b [] = refl
untaken_join (suc a) b (l ∷ ls) =
    let fresh : Lane = record l { taken = false; out = false } in
    ap (λ (z : List Lane). fresh ∷ z) (untaken_join a b ls) ∙ ap (λ (n : ℕ). untaken 0 n (l ∷ ls)) (let e : suc (a + b) ≡ suc a + b = omega arith in e)

-- one more take word
pub lanes_more : (n : ℕ) (ls : List Lane) → fresh_lanes n (untaken 0 (32 * n) ls) ≡ untaken 0 (32 * (n + 1)) ls
lanes_more n ls = untaken_join (32 * n) 32 ls ∙ ap (λ (z : ℕ). untaken 0 z ls) (let e : 32 * n + 32 ≡ 32 * (n + 1) = omega arith in e)

-- before the first take word no lane has changed
pub lanes_none : (ls : List Lane) → untaken 0 0 ls ≡ ls
lanes_none [] = refl
lanes_none (l ∷ ls) = refl

-- after so many that all lanes have theirs, all are untaken
pub lanes_all : (n : ℕ) (ls : List Lane) → length ls ≤ n → untaken 0 n ls ≡ all_untaken ls
lanes_all n [] h = refl
lanes_all zero (l ∷ ls) h = absurd (omega arith)
lanes_all (suc n) (l ∷ ls) h = let fresh : Lane = record l { taken = false; out = false } in ap (λ (z : List Lane). fresh ∷ z) (lanes_all n ls (omega arith))
