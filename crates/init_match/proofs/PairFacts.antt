-- The pairs of a list of calls, and what holds of a world: one more call adds to the pairs the one that it completes,
-- if any, and its bytes to the sum.
use Rattle.std.proofs.Common.{◌≡◌, ℕ, zero, suc, ◌+◌, Bool, true, false, nat_le, ◌<◌, ◌≤◌, Some, None, Option, Ok, Err, Result, List, [], ◌∷◌, ◌++◌, length, map, refl, ap, sym, subst, ◌∙◌, arith, length-append, append_assoc}
use Rattle.std.specs.List.{slice_get}
use Rattle.std.specs.Result.{IsErr}
use Rattle.std.specs.Option.{option_map, option_map_or, option_to_list}
use Rattle.std.proofs.lemmas.Bool.{and_parts, leb-true, lt-ltb, le-ltb, false≢true}
use Rattle.part_geometry.specs.Shape.{IsWithin}
use Rattle.std.proofs.lemmas.List.{map-append}
use Rattle.std.proofs.lemmas.List.Sums.{sum_by_push}
use Rattle.std.proofs.Math.Nat.{one-le-mul}
use Rattle.part_geometry.specs.declared.TheConstants.{MAX_GRAIN, MAX_DEPTH}
use Rattle.init_match.specs.declared.TheConstants.{MAX_VOLUME}
use Rattle.init_match.specs.declared.answers.InitFault.{InitFault}
use Rattle.init_match.specs.declared.answers.InitFault.TheVariants.{WorldFull}
use Rattle.std.specs.Prelude.{nat_lt, if◌then◌else◌}
use Rattle.init_match.specs.declared.answers.Matched.{Matched}
use Rattle.init_match.specs.declared.keys.Call.{Call}
use Rattle.init_match.specs.declared.world.World.TheInside.{Inside}
use Rattle.init_match.specs.Calls.{total, facing}
use Rattle.init_match.specs.Matching.{partner_before, turn_of, completed_by, pairs_after, pairs_of}
use Rattle.init_match.specs.World.{WorldState, after_init, completed_answer, init_answer, number_answer, number_fault, is_within, matched_as, size_fault, volume}
use Rattle.init_match.specs.Sound.{IsFit, IsWorld, calls_of}
use Rattle.init_match.proofs.Placing.{stands_at}

-- a list with nothing behind it is itself
pub append_none : {X : Type 0} (xs : List X) → xs ≡ xs ++ []
append_none [] = refl
append_none (x ∷ xs) = ap (λ ys. x ∷ ys) (append_none xs)

-- one call more behind the others adds the pair that it completes
after_more : (before calls : List Call) (c : Call) → pairs_after before (calls ++ c ∷ []) ≡ pairs_after before calls ++ option_to_list (completed_by (before ++ calls) c)
after_more before [] c =
    sym (append_none (option_to_list (completed_by before c))) ∙ ap (λ xs. option_to_list (completed_by xs c)) (append_none before)
after_more before (d ∷ calls) c =
    ap (λ ps. option_to_list (completed_by before d) ++ ps)
    (after_more (before ++ d ∷ []) calls c ∙ ap (λ xs. pairs_after (before ++ d ∷ []) calls ++ option_to_list (completed_by xs c)) (append_assoc before (d ∷ []) calls))
    ∙ sym (append_assoc (option_to_list (completed_by before d)) (pairs_after (before ++ d ∷ []) calls) (option_to_list (completed_by (before ++ d ∷ calls) c)))

-- the pairs with one call more are those before, and the one that it completes
pub pairs_more : (calls : List Call) (c : Call) → pairs_of (calls ++ c ∷ []) ≡ pairs_of calls ++ option_to_list (completed_by calls c)
unfolding pairs_of
pairs_more calls c = after_more [] calls c

-- an option has at most one element
one_at_most : {X : Type 0} (o : Option X) → length (option_to_list o) ≤ 1
one_at_most None = omega arith
one_at_most (Some x) = omega arith

-- each call adds at most one pair
after_few : (before calls : List Call) → length (pairs_after before calls) ≤ length calls
after_few before [] = omega arith
after_few before (c ∷ calls) =
    let rest = after_few (before ++ c ∷ []) calls in
    let one = one_at_most (completed_by before c) in
    let sum = length-append (option_to_list (completed_by before c)) (pairs_after (before ++ c ∷ []) calls) in
    omega arith

-- there are no more pairs than calls
pub pairs_few : (calls : List Call) → length (pairs_of calls) ≤ length calls
unfolding pairs_of
pairs_few calls = after_few [] calls

-- a call's partner is one of the accepted calls, and keeps the limits
pub partner_fits : (w : Inside) (c other : Call) (slot : ℕ) → IsWorld w → partner_before w.ledger c ≡ Some (slot, other) → IsFit other
partner_fits w c other slot s is = s.fit slot other (stands_at (facing c.side) c.key w.ledger (turn_of w.ledger c) (slot, other) is).0

-- where the calls keep the limits and one more does, all do
fit_more : (calls : List Call) (c : Call) → ((i : ℕ) (d : Call) → slice_get calls i ≡ Some d → IsFit d) → IsFit c → (i : ℕ) (d : Call) → slice_get (calls ++ c ∷ []) i ≡ Some d → IsFit d
fit_more [] c fit here zero d is = let same : c ≡ d = cc in subst IsFit same here
fit_more [] c fit here (suc i) d is = cc
fit_more (e ∷ calls) c fit here zero d is = fit 0 d is
fit_more (e ∷ calls) c fit here (suc i) d is = fit_more calls c (λ j x. fit (suc j) x) here i d is

-- a call more
pub record IsGrownWorld (w new : Inside) (c : Call) : Type 0 where
  pub grain : new.grain ≡ w.grain
  pub depth : new.depth ≡ w.depth
  pub ledger : new.ledger ≡ w.ledger ++ c ∷ []
  pub sum : new.sum ≡ w.sum + total c
  pub few : new.sum ≤ MAX_VOLUME
  pub pairs : new.pairs.items ≡ w.pairs.items ++ option_to_list (option_map (matched_as w.grain w.depth) (completed_by w.ledger c))

map-option : {X Y : Type 0} (f : X → Y) (o : Option X) → option_to_list (option_map f o) ≡ map f (option_to_list o)
map-option f None = refl
map-option f (Some x) = refl

-- a world that has grown by a call that keeps the limits is sound
pub world_grown : (w new : Inside) (c : Call) → IsWorld w → IsFit c → IsGrownWorld w new c → IsWorld new
world_grown w new c s f g =
    let some : 1 ≤ total c = one-le-mul f.parts.0 f.bytes.0 in
    let size : length new.ledger ≡ length w.ledger + 1 = ap length g.ledger ∙ length-append w.ledger (c ∷ []) in
    let many = s.many in
    let sum = g.sum in
    record {
      grain = rw g.grain s.grain;
      depth = rw g.depth s.depth;
      fit = λ i d is. fit_more w.ledger c s.fit f i d (ap (λ xs. slice_get xs i) (sym g.ledger) ∙ is);
      sum = g.sum ∙ ap (λ n. n + total c) s.sum ∙ sym (sum_by_push total w.ledger c) ∙ ap volume (sym g.ledger);
      few = g.few;
      many = omega arith;
      pairs = g.pairs ∙ ap (λ ps. ps ++ option_to_list (option_map (matched_as w.grain w.depth) (completed_by w.ledger c))) s.pairs
          ∙ ap (λ ps. map (matched_as w.grain w.depth) (pairs_of w.ledger) ++ ps) (map-option (matched_as w.grain w.depth) (completed_by w.ledger c))
          ∙ sym (map-append (matched_as w.grain w.depth) (pairs_of w.ledger) (option_to_list (completed_by w.ledger c)))
          ∙ ap (map (matched_as w.grain w.depth)) (sym (pairs_more w.ledger c) ∙ ap pairs_of (sym g.ledger))
          ∙ rw (g.grain, g.depth) refl;
    }

-- the pair that a call completes, where the sizes are the same
pub completed_is : (w : WorldState) (c : Call) (o : Option Matched) → ◌≡◌ {A = Result (Option Matched) InitFault} (Ok o) (completed_answer w c) → o ≡ option_map (matched_as w.grain w.depth) (completed_by w.calls c)
completed_is w c o is = by_fault (size_fault (completed_by w.calls c)) (option_map (matched_as w.grain w.depth) (completed_by w.calls c)) is
  where
    by_fault : (f : Option InitFault) (p : Option Matched) → ◌≡◌ {A = Result (Option Matched) InitFault} (Ok o) (option_map_or Err f (Ok p)) → o ≡ p
    by_fault None p e = cc
    by_fault (Some x) p e = cc

-- an option that is nothing else is none
pub none_is : {X : Type 0} (o : Option X) → ((x : X) → o ≡ Some x → ⊥) → o ≡ None
none_is None not = refl
none_is (Some x) not = absurd (not x refl)

-- a number that passes the test of its bounds is within them
pub within : (low high n : ℕ) (test : Bool) → test ≡ is_within low high n → test ≡ true → IsWithin low high n
within low high n test is holds =
    let h = and_parts (nat_le low n) (nat_le n high) (sym is ∙ holds) in
    (leb-true low n h.0, leb-true n high h.1)

-- a new world of a grain and a depth within their limits is sound
pub world_first : (w : Inside) → IsWithin 1 MAX_GRAIN w.grain → IsWithin 1 MAX_DEPTH w.depth → w.sum ≡ 0 → w.ledger ≡ [] → w.pairs.items ≡ [] → IsWorld w
unfolding pairs_of
world_first w grain depth sum calls pairs = record {
  grain = grain;
  depth = depth;
  fit = λ i c is. none i c (ap (λ xs. slice_get xs i) (sym calls) ∙ is);
  sum = rw (sum, calls) refl;
  few = omega arith;
  many = (let size = ap length calls in omega arith);
  pairs = rw (pairs, calls) refl;
}
  where
    none : (i : ℕ) (c : Call) → ◌≡◌ {A = Option Call} None (Some c) → IsFit c
    none i c is = cc

-- a refused call changes nothing
pub refused : (w : WorldState) (c : Call) (r : Result ℕ InitFault) → IsErr r → w ≡ after_init w c r
refused w c (Ok slot) err = absurd (false≢true err)
refused w c (Err fault) err = refl

-- what is answered by a fault, and else by a value
abbrev faulted : {A : Type 0} → Option InitFault → A → Result A InitFault
faulted f x = option_map_or Err f (Ok x)

-- a fault is answered whatever else would be
pub fault_is : {A : Type 0} (f : Option InitFault) (x : A) (rest : Result ℕ InitFault) (e : InitFault) → faulted f x ≡ Err e → Err e ≡ option_map_or Err f rest
fault_is None x rest e is = cc
fault_is (Some d) x rest e is = cc

fault_none : {A : Type 0} (f : Option InitFault) (x y : A) → faulted f x ≡ Ok y → f ≡ None
fault_none None x y is = refl
fault_none (Some d) x y is = cc

-- a call with numbers that are right is refused for the sizes of the pair that it completes
pub sizes_refuse : (w : WorldState) (c : Call) (e : InitFault) → number_answer w.ranks c ≡ Ok tt → completed_answer w c ≡ Err e → Err e ≡ init_answer w c
sizes_refuse w c e numbers sizes =
    rw (fault_none (number_fault w.ranks c) tt tt numbers)
    (fault_is (size_fault (completed_by w.calls c)) (option_map (matched_as w.grain w.depth) (completed_by w.calls c)) _ e sizes)

-- and else answered by the bytes of all calls
init_is : (w : Inside) (c : Call) (o : Option Matched) → number_answer w.ranks c ≡ Ok tt → completed_answer (calls_of w) c ≡ Ok o
    → init_answer (calls_of w) c ≡ (if nat_lt MAX_VOLUME (volume w.ledger + total c) then Err (WorldFull (volume w.ledger + total c)) else Ok (length w.ledger))
init_is w c o numbers sizes =
    rw (fault_none (number_fault w.ranks c) tt tt numbers, fault_none (size_fault (completed_by w.ledger c)) (option_map (matched_as w.grain w.depth) (completed_by w.ledger c)) o sizes) refl

pub too_much : (w : Inside) (c : Call) (o : Option Matched) (n : ℕ) → number_answer w.ranks c ≡ Ok tt → completed_answer (calls_of w) c ≡ Ok o
    → IsWorld w → n ≡ w.sum + total c → MAX_VOLUME < n → Err (WorldFull n) ≡ init_answer (calls_of w) c
too_much w c o n numbers sizes s is over =
    let e : n ≡ volume w.ledger + total c = is ∙ ap (λ k. k + total c) s.sum in
    let test : nat_lt MAX_VOLUME (volume w.ledger + total c) ≡ true = lt-ltb _ _ (omega arith) in
    rw (init_is w c o numbers sizes, test, e) refl

pub accepted : (w : Inside) (c : Call) (o : Option Matched) (n slot : ℕ) → number_answer w.ranks c ≡ Ok tt → completed_answer (calls_of w) c ≡ Ok o
    → IsWorld w → n ≡ w.sum + total c → n ≤ MAX_VOLUME → slot ≡ length w.ledger → Ok slot ≡ init_answer (calls_of w) c
accepted w c o n slot numbers sizes s is under slot_is =
    let e : n ≡ volume w.ledger + total c = is ∙ ap (λ k. k + total c) s.sum in
    let test : nat_lt MAX_VOLUME (volume w.ledger + total c) ≡ false = le-ltb _ _ (omega arith) in
    rw (init_is w c o numbers sizes, test, slot_is) refl
