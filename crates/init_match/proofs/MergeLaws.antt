-- Where one merge of the ranks' lists is accepted, each merge is, and the same calls are paired. What makes calls
-- acceptable, whatever their order, is that none has a fault in its numbers, that the sizes of each pair agree, and
-- that there is room for all: sums and pairs, which all merges share.
use Rattle.std.proofs.Common.{◌≡◌, ℕ, ◌+◌, ◌≤◌, ◌==◌, nat_lt, Bool, true, false, cond, Some, None, Option, is_some, Ok, Err, Result, IsOk, is_ok, List, [], ◌∷◌, ◌++◌, length, map, refl, ap, sym, subst, ◌∙◌, arith, inl, inr, append_assoc}
use Rattle.std.specs.List.{slice_get, sum_by}
use Rattle.std.specs.Option.{option_map_or}
use Rattle.std.proofs.lemmas.Bool.{cases_Bool, eqb-true, eq-eqb, le-ltb, ltb-false, false≢true}
use Rattle.std.proofs.lemmas.List.Sums.{sum_by-cons, sum_by_push}
use Rattle.init_match.specs.declared.TheConstants.{MAX_VOLUME}
use Rattle.init_match.specs.declared.answers.InitFault.{InitFault}
use Rattle.init_match.specs.declared.answers.InitFault.TheVariants.{SizeMismatch, WorldFull}
use Rattle.part_geometry.specs.declared.answers.Side.{Side}
use Rattle.part_geometry.specs.declared.answers.Side.TheVariants.{SendSide, RecvSide}
use Rattle.init_match.specs.declared.keys.Key.{Key}
use Rattle.init_match.specs.declared.keys.Call.{Call}
use Rattle.init_match.specs.Calls.{total, of_key}
use Rattle.init_match.specs.Matching.{Pair, ArePaired, completed_by}
use Rattle.init_match.specs.World.{WorldState, number_fault, size_fault, volume, init_answer, after_init}
use Rattle.init_match.specs.Merges.{Named, IsMerge, AreAccepted, AreMatched, DoMergesAgree}
use Rattle.init_match.proofs.PairFacts.{append_none}
use Rattle.init_match.proofs.Pairing.{paired_stays, completed_paired, paired_cases}
use Rattle.init_match.proofs.MergeFacts.{group, merge_group, merge_sum, slot_named, named_slot}

-- 1 where a call has a fault in its numbers
abbrev faulty : ℕ → Call → ℕ
faulty ranks c = cond (is_some (number_fault ranks c)) 1 0

-- both sides of each pair have the same bytes in all
abbrev SizesAgree : List Call → Type 0
SizesAgree calls = (p : Pair) → ArePaired calls p → total p.send.1 ≡ total p.recv.1

-- what makes calls acceptable behind others, whatever their order
record IsGood (ranks : ℕ) (before rest : List Call) : Type 0 where
  fits : sum_by (faulty ranks) rest ≡ 0
  sizes : SizesAgree (before ++ rest)
  room : volume before + volume rest ≤ MAX_VOLUME

-- what an answer says
record IsTaken (w : WorldState) (c : Call) : Type 0 where
  number : number_fault w.ranks c ≡ None
  size : size_fault (completed_by w.calls c) ≡ None
  room : volume w.calls + total c ≤ MAX_VOLUME

answer_of : Option InitFault → Option InitFault → Bool → ℕ → ℕ → Result ℕ InitFault
answer_of f g full sum slot = option_map_or Err f (option_map_or Err g (cond full (Err (WorldFull sum)) (Ok slot)))

-- an answer that accepts comes of no fault, no other size and room
taken_by : (f g : Option InitFault) (full : Bool) (sum slot : ℕ) → IsOk (answer_of f g full sum slot) → (f ≡ None) × (g ≡ None) × (full ≡ false)
unfolding answer_of
taken_by None None false sum slot ok = (refl, refl, refl)
taken_by None None true sum slot ok = absurd (false≢true ok)
taken_by None (Some g) full sum slot ok = absurd (false≢true ok)
taken_by (Some f) g full sum slot ok = absurd (false≢true ok)

-- what a world answers, by its three tests
answer_is : (w : WorldState) (c : Call) → init_answer w c ≡ answer_of (number_fault w.ranks c) (size_fault (completed_by w.calls c)) (nat_lt MAX_VOLUME (volume w.calls + total c)) (volume w.calls + total c) (length w.calls)
unfolding answer_of
answer_is w c = refl

-- an accepted call passed the three tests
taken : (w : WorldState) (c : Call) → IsOk (init_answer w c) → IsTaken w c
taken w c ok =
    let h = taken_by (number_fault w.ranks c) (size_fault (completed_by w.calls c)) (nat_lt MAX_VOLUME (volume w.calls + total c)) (volume w.calls + total c) (length w.calls)
    (subst (λ a. IsOk a) (answer_is w c) ok) in
    record { number = h.0; size = h.1; room = ltb-false MAX_VOLUME (volume w.calls + total c) h.2 }

-- where all three are passed, the slot is given
gives : (f g : Option InitFault) (full : Bool) (sum slot : ℕ) → f ≡ None → g ≡ None → full ≡ false → answer_of f g full sum slot ≡ Ok slot
unfolding answer_of
gives f g full sum slot a b d = rw (a, b, d) refl

-- a call that passes the three tests gets the next slot
taken_answer : (w : WorldState) (c : Call) → IsTaken w c → init_answer w c ≡ Ok (length w.calls)
taken_answer w c t =
    answer_is w c ∙ gives (number_fault w.ranks c) (size_fault (completed_by w.calls c)) (nat_lt MAX_VOLUME (volume w.calls + total c)) (volume w.calls + total c) (length w.calls)
    t.number t.size (le-ltb MAX_VOLUME (volume w.calls + total c) t.room)

with_call : WorldState → Call → WorldState
with_call w c = record w { calls = w.calls ++ c ∷ [] }

-- where a completed pair has no fault of sizes, its sizes are equal
sizes_of : (o : Option Pair) → size_fault o ≡ None → (p : Pair) → o ≡ Some p → total p.send.1 ≡ total p.recv.1
sizes_of None none p is = cc
sizes_of (Some q) none p is =
    elim (cases_Bool (total q.send.1 == total q.recv.1)) [
      | inl same ↦ let e : q ≡ p = cc in subst (λ p. total p.send.1 ≡ total p.recv.1) e (eqb-true (total q.send.1) (total q.recv.1) same)
      | inr other ↦ bad (rw other at none)
    ]
  where
    bad : ◌≡◌ {A = Option InitFault} (Some (SizeMismatch (total q.send.1) (total q.recv.1))) None → total p.send.1 ≡ total p.recv.1
    bad e = cc

-- after an accepted call the sizes of each pair still agree
sizes_more : (w : WorldState) (c : Call) → SizesAgree w.calls → IsTaken w c → SizesAgree (w.calls ++ c ∷ [])
sizes_more w c sizes t p h =
    elim (paired_cases w.calls c p h) [
      | inl old ↦ sizes p old
      | inr new ↦ sizes_of (completed_by w.calls c) t.size p new
    ]

-- where the sizes of each pair of all calls agree, no call among them completes a pair of other sizes
no_size_fault : (calls rest : List Call) (c : Call) → SizesAgree (calls ++ c ∷ rest) → size_fault (completed_by calls c) ≡ None
no_size_fault calls rest c sizes = by_pair (completed_by calls c) refl
  where
    by_pair : (o : Option Pair) → completed_by calls c ≡ o → size_fault o ≡ None
    by_pair None is = refl
    by_pair (Some p) is =
        let e = sizes p (subst (λ xs. ArePaired xs p) (append_assoc calls (c ∷ []) rest) (paired_stays (calls ++ c ∷ []) rest p (completed_paired calls c p is))) in
        rw (eq-eqb (total p.send.1) (total p.recv.1) e) refl

-- what counts 0 as a fault is none
fault_none : (o : Option InitFault) → ◌≡◌ {A = ℕ} (cond (is_some o) 1 0) 0 → o ≡ None
fault_none None e = refl
fault_none (Some f) e = absurd (omega arith)

-- accepted calls are good behind those before
accepted_good : (w : WorldState) (rest : List Call) → SizesAgree w.calls → volume w.calls ≤ MAX_VOLUME → AreAccepted w rest → IsGood w.ranks w.calls rest
accepted_good w [] sizes room a = record {
  fits = refl;
  sizes = subst SizesAgree (append_none w.calls) sizes;
  room = (let z : volume [] ≡ 0 = refl in omega arith);
}
accepted_good w (c ∷ rest) sizes room (ok, more) =
    let t = taken w c ok in
    let next : after_init w c (init_answer w c) ≡ record w { calls = w.calls ++ c ∷ [] } = ap (after_init w c) (taken_answer w c t) in
    let push = sum_by_push total w.calls c in
    let space = t.room in
    let g = accepted_good (record w { calls = w.calls ++ c ∷ [] }) rest (sizes_more w c sizes t) (omega arith) (subst (λ v. AreAccepted v rest) next more) in
    let grown = g.room in
    let all = sum_by-cons total c rest in
    record {
      fits = sum_by-cons (faulty w.ranks) c rest ∙ ap (λ o. cond (is_some o) 1 0 + sum_by (faulty w.ranks) rest) t.number ∙ ap (λ n. 0 + n) g.fits;
      sizes = subst SizesAgree (append_assoc w.calls (c ∷ []) rest) g.sizes;
      room = omega arith;
    }

-- and good ones are accepted
good_accepted : (w : WorldState) (rest : List Call) → IsGood w.ranks w.calls rest → AreAccepted w rest
good_accepted w [] g = tt
good_accepted w (c ∷ rest) g =
    let all = sum_by-cons total c rest in
    let room = g.room in
    let fits = g.fits in
    let some = sum_by-cons (faulty w.ranks) c rest in
    let push = sum_by_push total w.calls c in
    let t : IsTaken w c = record {
      number = fault_none (number_fault w.ranks c) (omega arith);
      size = no_size_fault w.calls rest c g.sizes;
      room = omega arith;
    } in
    let is = taken_answer w c t in
    let next : record w { calls = w.calls ++ c ∷ [] } ≡ after_init w c (init_answer w c) = ap (after_init w c) (sym is) in
    let after : IsGood w.ranks (w.calls ++ c ∷ []) rest = record {
      fits = omega arith;
      sizes = subst SizesAgree (sym (append_assoc w.calls (c ∷ []) rest)) g.sizes;
      room = omega arith;
    } in
    (ap is_ok is, subst (λ v. AreAccepted v rest) next (good_accepted (record w { calls = w.calls ++ c ∷ [] }) rest after))

-- the same calls of each side and key in the same order
abbrev SameGroups : List Named → List Named → Type 0
SameGroups xs ys = (s : Side) (q : Key) → group s q xs ≡ group s q ys

-- the k-th call of a side and a key is the same in both
moved : (xs ys : List Named) (s : Side) (q : Key) (k : ℕ) (n : Named) → SameGroups xs ys → slice_get (group s q xs) k ≡ Some n → slice_get (group s q ys) k ≡ Some n
moved xs ys s q k n same is = ap (λ g. slice_get g k) (sym (same s q)) ∙ is

-- so where the sizes of each pair agree in the one, they do in the other
same_sizes : (xs ys : List Named) → SameGroups ys xs → SizesAgree (map (λ c. c.call) xs) → SizesAgree (map (λ c. c.call) ys)
same_sizes xs ys same sizes p h =
    let s = slot_named SendSide h.key ys h.turn p.send h.send in
    let r = slot_named RecvSide h.key ys h.turn p.recv h.recv in
    let s' = named_slot SendSide h.key xs h.turn s.0 (moved ys xs SendSide h.key h.turn s.0 same s.1) in
    let r' = named_slot RecvSide h.key xs h.turn r.0 (moved ys xs RecvSide h.key h.turn r.0 same r.1) in
    let e = sizes (record { send = s'.0; recv = r'.0 }) (record { key = h.key; turn = h.turn; send = s'.1; recv = r'.1 }) in
    ap total (sym s.2.call ∙ s'.2.call) ∙ e ∙ ap total (sym r'.2.call ∙ r.2.call)

the_same : {X : Type 0} (o : Option X) (a b : X) → o ≡ Some a → o ≡ Some b → a ≡ b
the_same o a b is_a is_b = cc

-- and the same calls are paired
same_pairs : (xs ys : List Named) → SameGroups xs ys → (a b : Named) → AreMatched xs a b → AreMatched ys a b
same_pairs xs ys same a b m =
    let h = m.paired in
    let s = slot_named SendSide h.key xs h.turn m.pair.send h.send in
    let r = slot_named RecvSide h.key xs h.turn m.pair.recv h.recv in
    let s' = named_slot SendSide h.key ys h.turn s.0 (moved xs ys SendSide h.key h.turn s.0 same s.1) in
    let r' = named_slot RecvSide h.key ys h.turn r.0 (moved xs ys RecvSide h.key h.turn r.0 same r.1) in
    record {
      pair = record { send = s'.0; recv = r'.0 };
      paired = record { key = h.key; turn = h.turn; send = s'.1; recv = r'.1 };
      send = s'.2.there ∙ ap Some (the_same (slice_get xs m.pair.send.0) s.0 a s.2.there m.send);
      recv = r'.2.there ∙ ap Some (the_same (slice_get xs m.pair.recv.0) r.0 b r.2.there m.recv);
    }

-- a sum over the calls is that over the named calls
sum_named : (f : Call → ℕ) (xs : List Named) → sum_by f (map (λ c. c.call) xs) ≡ sum_by (λ (n : Named). f n.call) xs
sum_named f [] = refl
sum_named f (c ∷ xs) = sum_by-cons f c.call (map (λ c. c.call) xs) ∙ ap (λ n. f c.call + n) (sum_named f xs) ∙ sym (sum_by-cons (λ (n : Named). f n.call) c xs)

-- two merges of the same lists have the same sum
same_sum : (f : Call → ℕ) (lists : List (List Named)) (xs ys : List Named) → IsMerge lists xs → IsMerge lists ys → sum_by f (map (λ c. c.call) xs) ≡ sum_by f (map (λ c. c.call) ys)
same_sum f lists xs ys a b =
    sum_named f xs ∙ merge_sum (λ n. f n.call) lists xs a ∙ sym (sum_named f ys ∙ merge_sum (λ n. f n.call) lists ys b)

-- without calls there are no pairs
no_pairs : SizesAgree []
unfolding of_key
no_pairs p h = none h.send
  where
    none : ◌≡◌ {A = Option (ℕ × Call)} None (Some p.send) → total p.send.1 ≡ total p.recv.1
    none is = cc

-- where one merge is accepted, each merge of the same lists is, with the same calls paired
pub merges_agree : DoMergesAgree
merges_agree w lists xs ys first own a b accepted =
    let good = accepted_good w (map (λ c. c.call) xs) (subst SizesAgree (sym first) no_pairs) (let z : volume w.calls ≡ 0 = ap volume first in omega arith) accepted in
    let sizes : SizesAgree (map (λ c. c.call) xs) = subst (λ before. SizesAgree (before ++ map (λ c. c.call) xs)) first good.sizes in
    let same : SameGroups xs ys = λ s q. merge_group lists xs s q own a ∙ sym (merge_group lists ys s q own b) in
    let back : SameGroups ys xs = λ s q. sym (same s q) in
    let room = good.room in
    let all = same_sum total lists xs ys a b in
    let other : IsGood w.ranks w.calls (map (λ c. c.call) ys) = record {
      fits = sym (same_sum (faulty w.ranks) lists xs ys a b) ∙ good.fits;
      sizes = subst (λ before. SizesAgree (before ++ map (λ c. c.call) ys)) (sym first) (same_sizes xs ys back sizes);
      room = omega arith;
    } in
    record { accepted = good_accepted w (map (λ c. c.call) ys) other; matched = same_pairs xs ys same }
