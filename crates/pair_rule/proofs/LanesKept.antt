-- The lanes of the receive seat agree with what it knows after each of its steps. A step changes one word that the seat has seen:
-- of a lane's bits, those of other words are as before, and in the word itself the bits are all 0, or one is set.
use Rattle.std.proofs.Common.{◌≡◌, ◌≢◌, ◌⊎◌, inl, inr, ⊎_elim, ℕ, zero, suc, ◌+◌, ◌-◌, ◌*◌, ◌%◌, ◌/◌, ◌^◌, ◌<◌, ◌≤◌, Bool, true, false, List, [], ◌∷◌, length, take, drop, ◌++◌, take_at, bit_or, refl, sym, ap, ◌∙◌, subst, arith, length-set, get_or-set_same, div-add-mod'}
use mathlib.Core.Logic.{dite}
use mathlib.Core.Option.{some, some-injective, some-ne-none}
use native.Mathlib.Decide.{ℕ_discrete}
use lib.ListN.{get_elem?}
use Rattle.part_geometry.specs.Shape.{Shape, IsShape}
use Rattle.part_geometry.specs.Cells.{cells, recv_of}
use Rattle.part_tables.specs.Parts.{first_received}
use Rattle.part_tables.proofs.Facts.{in_received}
use Rattle.pair_core.specs.Words.{bit, empty}
use Rattle.pair_core.specs.Names.{Name, Release, Take, Return, Fits, number, take_words}
use Rattle.pair_core.specs.Reading.{part_bit}
use Rattle.pair_core.specs.State.{word_count}
use Rattle.pair_core.specs.Moves.{StoreReturn, StoreTake, StoreRelease, TakePart, ReturnPart, IsRecvActive, IsRecvIdle}
use Rattle.pair_core.proofs.Facts.{number_lt, bit_or_here, bit_or_else, empty_bit}
use Rattle.slot_rows.specs.declared.lane.Lane.{Lane}
use Rattle.slot_rows.specs.Lanes.{wide, place, flagged, HasFlags}
use Rattle.slot_rows.proofs.Lists.{at_split}
use Rattle.slot_rows.proofs.Lanes.{flagged_at, flagged_length, wide_out, wide_home, home_width, spot}
use Rattle.pair_rule.specs.Views.{seen, saw, stored_return, stored_take, released, taken, given_back}
use Rattle.pair_rule.specs.Seats.{IsLane, AreLanes, flag, cells_of}
use Rattle.pair_rule.specs.Rule.{slot_number}
use Rattle.pair_rule.specs.Steps.{MayMake}
use Rattle.pair_rule.specs.Parts.{untaken, fresh_lanes, first_slot, cell_spot}
use Rattle.pair_rule.specs.declared.view.View.{View}
use Rattle.pair_rule.proofs.LanesStay.{seen_else}

-- the word of a name after the seat saw w at the name x
pub seen_here : (d : View) (x : Name) (w : ℕ) → Fits d.geometry x → length d.seen ≡ word_count d.geometry → seen (saw x w d) x ≡ w
seen_here d x w fits size = get_or-set_same d.seen (number d.geometry x) w 0 (subst (λ (z : ℕ). number d.geometry x < z) (sym size) (number_lt d.geometry x fits))

take_one : (a b : ℕ) → Take a ≡ Take b → a ≡ b
take_one a b e = ap index e
  where
    index : Name → ℕ
    index (Take t) = t
    index x = 0

return_one : (a b : ℕ) → Return a ≡ Return b → a ≡ b
return_one a b e = ap index e
  where
    index : Name → ℕ
    index (Return t) = t
    index x = 0

take_return : (a b : ℕ) → Take a ≢ Return b
take_return a b e = cc

return_take : (a b : ℕ) → Return a ≢ Take b
return_take a b e = cc

take_release : (a : ℕ) → Take a ≢ Release
take_release a e = cc

return_release : (a : ℕ) → Return a ≢ Release
return_release a e = cc

same_place : (p q : ℕ) → p / 32 ≡ q / 32 → p % 32 ≡ q % 32 → p ≡ q
same_place p q a b = let c = div-add-mod' p 32 in let d = div-add-mod' q 32 in sym c ∙ ((λ i. a i * 32 + b i) ∙ d)

flag_zero : (b : Bool) → flag b ≡ 0 → b ≡ false
flag_zero true e = absurd (omega arith)
flag_zero false e = refl

flag_one : (b : Bool) → flag b ≡ 1 → b ≡ true
flag_one true e = refl
flag_one false e = absurd (omega arith)

word_inside : (q n : ℕ) → q < n → q / 32 < (n + 31) / 32
word_inside q n h = omega arith

word_of_lane : (q t : ℕ) → 32 * t ≤ q → q < 32 * t + 32 → q / 32 ≡ t
word_of_lane q t low high = omega arith

lane_of_word : (q t : ℕ) → q / 32 ≡ t → (32 * t ≤ q) × (q < 32 * t + 32)
lane_of_word q t e = (omega arith, omega arith)

-- where a lane is, its partition is, and its words
pub part_there : (d : View) (n q : ℕ) (ls : List Lane) (l : Lane) → AreLanes d n ls → get_elem? ls q ≡ some l → q < d.geometry.recv_parts
part_there d n q ls l a at = let h = (at_split ls q l at).0 in let p = a.parts in omega arith

-- the word of a lane's partition is one of the pair's
pub word_there : (d : View) (n q : ℕ) (ls : List Lane) (l : Lane) → AreLanes d n ls → get_elem? ls q ≡ some l → q / 32 < take_words d.geometry
word_there d n q ls l a at = word_inside q d.geometry.recv_parts (part_there d n q ls l a at)

-- a pair has a take word
pub some_word : (g : Shape) → IsShape g → 1 ≤ take_words g
some_word g v = let h = v.recv_parts.0 in omega arith

-- where a seat was to store a return or a take word, its side isn't active
return_inactive : (d : View) (k t n : ℕ) (ls : List Lane) → IsShape d.geometry → MayMake d (StoreReturn k t) → AreLanes d n ls → ¬ IsRecvActive d.geometry d.recv
return_inactive d k t n ls v h a act = ⊎_elim
    (λ (z : (t ≡ 0) × IsRecvIdle d.recv × (k ≡ d.recv.round + 1)). let e = z.1 in let f = act.1 in absurd (omega arith))
    (λ (z : (1 ≤ t) × (t ≡ d.recv.returns) × (k ≡ d.recv.round)).
    let some = some_word d.geometry v in let e = act.0 in let o = a.order (omega arith) in let low = h.1 in let is = z.1 in absurd (omega arith))
    h.3

-- after a return word is stored
pub return_lanes : (d : View) (k t n : ℕ) (ls : List Lane) → IsShape d.geometry → MayMake d (StoreReturn k t) → AreLanes d n ls → AreLanes (stored_return k t d) n ls
return_lanes d k t n ls v h a =
    let g : Shape = d.geometry in let some = some_word g v in let not = return_inactive d k t n ls v h a in
    record {
      words = length-set d.seen (number g (Return t)) (empty k) ∙ a.words;
      round = h.2;
      order = λ more. absurd (omega arith);
      parts = a.parts;
      total = a.total;
      each = λ q l at. let e = a.each q l at in let there = word_there d n q ls l a at in record {
        first = e.first;
        count = e.count;
        taken = ap (λ (z : ℕ). bit z (q % 32)) (seen_else d (Return t) (Take (q / 32)) (empty k) h.1 there (take_return (q / 32) t)) ∙ e.taken;
        out = λ act. let z = act.0 in absurd (omega arith);
        home = λ is. e.home not;
        unreturned = λ low below. dite (ℕ_discrete (q / 32) t)
            (λ same. ap (λ (z : ℕ). bit (seen (saw (Return t) (empty k) d) (Return z)) (q % 32)) same
            ∙ (ap (λ (z : ℕ). bit z (q % 32)) (seen_here d (Return t) (empty k) h.1 a.words) ∙ empty_bit k (q % 32) (omega arith)))
            (λ other. ap (λ (z : ℕ). bit z (q % 32)) (seen_else d (Return t) (Return (q / 32)) (empty k) h.1 there (λ z. other (return_one (q / 32) t z)))
            ∙ ⊎_elim
            (λ (z : (t ≡ 0) × IsRecvIdle d.recv × (k ≡ d.recv.round + 1)). let zero' = z.0 in absurd (omega arith))
            (λ (z : (1 ≤ t) × (t ≡ d.recv.returns) × (k ≡ d.recv.round)).
            let is = z.1 in let few : d.recv.takes < take_words g = before d.recv.takes d.recv.returns (take_words g) t a.order is h.1 in e.unreturned few (omega arith))
            h.3);
        untaken = λ low below. absurd (omega arith);
      };
    }
  where
    before : (takes returns m t : ℕ) → (1 ≤ takes → returns ≡ m) → t ≡ returns → t < m → takes < m
    before zero returns m t order is low = omega arith
    before (suc takes) returns m t order is low = let e = order (omega arith) in absurd (omega arith)

-- a lane where n were untaken from the k-th on
pub untaken_at : (k n : ℕ) (ls : List Lane) (q : ℕ) (l : Lane) → get_elem? (untaken k n ls) q ≡ some l
    → ((k ≤ q) × (q < k + n) × ((x : Lane) × (get_elem? ls q ≡ some x) × (record x { taken = false; out = false } ≡ l))) ⊎ (¬ ((k ≤ q) × (q < k + n)) × (get_elem? ls q ≡ some l))
untaken_at k n [] q l e = absurd (some-ne-none l (sym e))
untaken_at zero zero (x ∷ xs) q l e = inr ((λ h. let b = h.1 in omega arith), e)
untaken_at zero (suc n) (x ∷ xs) zero l e = inl (omega arith, omega arith, (x, refl, some-injective (record x { taken = false; out = false }) l e))
untaken_at zero (suc n) (x ∷ xs) (suc q) l e = ⊎_elim
    (λ (h : (0 ≤ q) × (q < 0 + n) × ((y : Lane) × (get_elem? xs q ≡ some y) × (record y { taken = false; out = false } ≡ l))). let b = h.1 in inl (omega arith, omega arith, h.2))
    (λ (h : ¬ ((0 ≤ q) × (q < 0 + n)) × (get_elem? xs q ≡ some l)). inr ((λ b. let c = b.1 in h.0 (omega arith, omega arith)), h.1))
    (untaken_at zero n xs q l e)
untaken_at (suc k) n (x ∷ xs) zero l e = inr ((λ h. let b = h.0 in omega arith), e)
untaken_at (suc k) n (x ∷ xs) (suc q) l e = ⊎_elim
    (λ (h : (k ≤ q) × (q < k + n) × ((y : Lane) × (get_elem? xs q ≡ some y) × (record y { taken = false; out = false } ≡ l))). let a = h.0 in let b = h.1 in inl (omega arith, omega arith, h.2))
    (λ (h : ¬ ((k ≤ q) × (q < k + n)) × (get_elem? xs q ≡ some l)). inr ((λ b. let c = b.0 in let d = b.1 in h.0 (omega arith, omega arith)), h.1))
    (untaken_at k n xs q l e)

pub untaken_length : (k n : ℕ) (ls : List Lane) → length (untaken k n ls) ≡ length ls
untaken_length k n [] = refl
untaken_length zero zero (x ∷ xs) = refl
untaken_length zero (suc n) (x ∷ xs) = ap suc (untaken_length zero n xs)
untaken_length (suc k) n (x ∷ xs) = ap suc (untaken_length k n xs)

-- where no lane is out, no slot is
pub none_wide : (ls : List Lane) → ((q : ℕ) (l : Lane) → get_elem? ls q ≡ some l → l.out ≡ false) → wide ls ≡ 0
none_wide [] h = refl
none_wide (l ∷ ls) h = let a = home_width l (h 0 l refl) in let b = none_wide ls (λ q x e. h (suc q) x e) in omega arith

take_inactive : (d : View) (k t : ℕ) → MayMake d (StoreTake k t) → ¬ IsRecvActive d.geometry d.recv
take_inactive d k t h act = let e = act.0 in let low = h.1 in let is = h.4 in absurd (omega arith)

-- after a take word is stored
pub take_lanes : (d : View) (k t n : ℕ) (ls : List Lane) → MayMake d (StoreTake k t) → AreLanes d n ls → AreLanes (stored_take t d) n (fresh_lanes t ls)
take_lanes d k t n ls h a =
    let g : Shape = d.geometry in let x : Name = Take t in let w : ℕ = empty d.recv.round in
    let not = take_inactive d k t h in let low = h.1 in let all = h.3 in let is = h.4 in let few : d.recv.takes < take_words g = omega arith in
    let Inside : ℕ → Lane → Type 0 = λ q l. (32 * t ≤ q) × (q < 32 * t + 32) × ((y : Lane) × (get_elem? ls q ≡ some y) × (record y { taken = false; out = false } ≡ l)) in
    let Outside : ℕ → Lane → Type 0 = λ q l. ¬ ((32 * t ≤ q) × (q < 32 * t + 32)) × (get_elem? ls q ≡ some l) in
    let home : (q : ℕ) (l : Lane) → get_elem? (fresh_lanes t ls) q ≡ some l → l.out ≡ false = λ q l at. ⊎_elim
    (λ (z : Inside q l). ap (λ (y : Lane). y.out) (sym z.2.2))
    (λ (z : Outside q l). (a.each q l z.1).home not) (untaken_at (32 * t) 32 ls q l at) in
    record {
      words = length-set d.seen (number g x) w ∙ a.words;
      round = a.round;
      order = λ more. all;
      parts = untaken_length (32 * t) 32 ls ∙ a.parts;
      total = a.total ∙ (none_wide ls (λ q l at. (a.each q l at).home not) ∙ sym (none_wide (fresh_lanes t ls) home));
      each = λ q l at. ⊎_elim
          (λ (z : Inside q l).
          let y = z.2.0 in let there = z.2.1 in let eq = z.2.2 in let e = a.each q y there in let inside = word_there d n q ls y a there in
          let here : q / 32 ≡ t = word_of_lane q t z.0 z.1 in
          let back : part_bit (λ (u : ℕ). seen (saw x w d) (Return u)) q ≡ 0 =
          ap (λ (u : ℕ). bit u (q % 32)) (seen_else d x (Return (q / 32)) w h.1 inside (return_take (q / 32) t)) ∙ e.unreturned few (omega arith) in
          let no : flag l.taken ≡ 0 = ap (λ (v : Lane). flag v.taken) (sym eq) in let in' : flag l.out ≡ 0 = ap (λ (v : Lane). flag v.out) (sym eq) in
          let unset : part_bit (λ (u : ℕ). seen (saw x w d) (Take u)) q ≡ 0 =
          ap (λ (u : ℕ). bit (seen (saw x w d) (Take u)) (q % 32)) here
          ∙ (ap (λ (u : ℕ). bit u (q % 32)) (seen_here d x w h.1 a.words) ∙ empty_bit d.recv.round (q % 32) (omega arith)) in
          let made : IsLane (stored_take t d) q l = record {
            first = ap (λ (v : Lane). v.first) (sym eq) ∙ e.first;
            count = ap (λ (v : Lane). v.count) (sym eq) ∙ e.count;
            taken = unset ∙ sym no;
            out = λ act. omega arith;
            home = λ idle. ap (λ (v : Lane). v.out) (sym eq);
            unreturned = λ less below. back;
            untaken = λ less below. ap (λ (v : Lane). v.taken) (sym eq);
          } in made)
          (λ (z : Outside q l).
          let e = a.each q l z.1 in let inside = word_there d n q ls l a z.1 in
          let other : q / 32 ≢ t = λ same. z.0 (lane_of_word q t same) in
          let seen_same : seen (saw x w d) (Take (q / 32)) ≡ seen d (Take (q / 32)) = seen_else d x (Take (q / 32)) w h.1 inside (λ s. other (take_one (q / 32) t s)) in
          let seen_back : seen (saw x w d) (Return (q / 32)) ≡ seen d (Return (q / 32)) = seen_else d x (Return (q / 32)) w h.1 inside (return_take (q / 32) t) in
          let back : part_bit (λ (u : ℕ). seen (saw x w d) (Return u)) q ≡ 0 = ap (λ (u : ℕ). bit u (q % 32)) seen_back ∙ e.unreturned few (omega arith) in
          let made : IsLane (stored_take t d) q l = record {
            first = e.first;
            count = e.count;
            taken = ap (λ (u : ℕ). bit u (q % 32)) seen_same ∙ e.taken;
            out = λ act. let last = act.0 in let no = ap flag (e.untaken few (omega (arith, other))) in let in' = ap flag (e.home not) in omega arith;
            home = λ idle. e.home not;
            unreturned = λ less below. back;
            untaken = λ less below. e.untaken few (omega (arith, other));
          } in made)
          (untaken_at (32 * t) 32 ls q l at);
    }

-- after the release
pub release_lanes : (d : View) (k n : ℕ) (ls : List Lane) → MayMake d (StoreRelease k) → AreLanes d n ls → AreLanes (released d) n ls
release_lanes d k n ls h a =
    let g : Shape = d.geometry in let w : ℕ = empty d.recv.round in let full = h.2.0 in
    record {
      words = length-set d.seen (number g Release) w ∙ a.words;
      round = a.round;
      order = a.order;
      parts = a.parts;
      total = a.total;
      each = λ q l at. let e = a.each q l at in let inside = part_there d n q ls l a at in let there = word_there d n q ls l a at in
          let both = h.3 q inside in
          let made : IsLane (released d) q l = record {
            first = e.first;
            count = e.count;
            taken = ap (λ (z : ℕ). bit z (q % 32)) (seen_else d Release (Take (q / 32)) w tt there (take_release (q / 32))) ∙ e.taken;
            out = λ act. let z = act.1 in absurd (omega arith);
            home = λ idle. let o = e.out h.2 in let t = e.taken in let b0 = both.0 in let b1 = both.1 in flag_zero l.out (omega arith);
            unreturned = λ less below. absurd (omega arith);
            untaken = λ less below. absurd (omega arith);
          } in made;
    }

-- ---- a take and a return of partition q

-- a partition that may be taken has a lane that is neither taken nor out; one that may be given back has one that is both
pub may_take : (d : View) (q n : ℕ) (ls : List Lane) (l : Lane) → MayMake d (TakePart q []) → AreLanes d n ls → get_elem? ls q ≡ some l → HasFlags false false q ls
may_take d q n ls l h a at =
    let e = a.each q l at in let o = e.out h.2 in let t = e.taken in let b = h.3 in
    record { lane = l; at = at; taken = flag_zero l.taken (omega arith); out = flag_zero l.out (omega arith) }

-- a partition that may be given back has its lane out
pub may_return : (d : View) (q n : ℕ) (ls : List Lane) (l : Lane) → MayMake d (ReturnPart q) → AreLanes d n ls → get_elem? ls q ≡ some l → HasFlags true true q ls
may_return d q n ls l h a at =
    let e = a.each q l at in let o = e.out h.2 in let t = e.taken in let b = h.3 in let c = h.4 in
    record { lane = l; at = at; taken = flag_one l.taken (omega arith); out = flag_one l.out (omega arith) }

-- the bits of the words of one sort, where that of q was set
set_here : (d : View) (N : ℕ → Name) (q v : ℕ) → Fits d.geometry (N (q / 32)) → length d.seen ≡ word_count d.geometry
    → part_bit (λ t. seen (saw (N (q / 32)) (bit_or v (2 ^ (q % 32))) d) (N t)) q ≡ 1
set_here d N q v fits size = ap (λ (z : ℕ). bit z (q % 32)) (seen_here d (N (q / 32)) (bit_or v (2 ^ (q % 32))) fits size) ∙ bit_or_here v (q % 32)

set_else : (d : View) (N : ℕ → Name) (p q v : ℕ) → ((i j : ℕ) → N i ≡ N j → i ≡ j) → Fits d.geometry (N (q / 32)) → Fits d.geometry (N (p / 32)) → length d.seen ≡ word_count d.geometry
    → v ≡ seen d (N (q / 32)) → p ≢ q → part_bit (λ t. seen (saw (N (q / 32)) (bit_or v (2 ^ (q % 32))) d) (N t)) p ≡ part_bit (λ t. seen d (N t)) p
set_else d N p q v one fits there size is other =
    let w : ℕ = bit_or v (2 ^ (q % 32)) in
    dite (ℕ_discrete (p / 32) (q / 32))
    (λ same. ap (λ (z : ℕ). bit (seen (saw (N (q / 32)) w d) (N z)) (p % 32)) same
    ∙ (ap (λ (z : ℕ). bit z (p % 32)) (seen_here d (N (q / 32)) w fits size)
    ∙ (bit_or_else v (q % 32) (p % 32) (λ e. other (same_place p q same e))
    ∙ (ap (λ (z : ℕ). bit z (p % 32)) is ∙ ap (λ (z : ℕ). bit (seen d (N z)) (p % 32)) (sym same)))))
    (λ apart. ap (λ (z : ℕ). bit z (p % 32)) (seen_else d (N (q / 32)) (N (p / 32)) w fits there (λ e. apart (one (p / 32) (q / 32) e))))

module _ (d : View) (q n v : ℕ) (ls : List Lane) (a : AreLanes d n ls) where
  abbrev g : Shape
  g = d.geometry

  abbrev w : ℕ
  w = bit_or v (2 ^ (q % 32))

  -- after a take
  pub taken_lanes : (b : List ℕ) → MayMake d (TakePart q []) → v ≡ seen d (Take (q / 32)) → HasFlags false false q ls → AreLanes (taken q b w d) (n + cells_of g q) (flagged true true q ls)
  taken_lanes b h is f =
      let x : Name = Take (q / 32) in let fits : q / 32 < take_words g = word_inside q g.recv_parts h.1 in let full = h.2.0 in
      let Here : ℕ → Lane → Type 0 = λ p l. (p ≡ q) × ((y : Lane) × (get_elem? ls q ≡ some y) × (record y { taken = true; out = true } ≡ l)) in
      let There : ℕ → Lane → Type 0 = λ p l. (p ≢ q) × (get_elem? ls p ≡ some l) in
      record {
        words = length-set d.seen (number g x) w ∙ a.words;
        round = a.round;
        order = a.order;
        parts = flagged_length true true q ls ∙ a.parts;
        total = let o = wide_out true q ls f in let c = (a.each q f.lane f.at).count in let t = a.total in omega arith;
        each = λ p l at. ⊎_elim
            (λ (z : Here p l).
            let y = z.1.0 in let eq = z.1.2 in let e = a.each q y z.1.1 in
            let o = e.out h.2 in let t = e.taken in let un = h.3 in
            let back : part_bit (λ (u : ℕ). seen (saw x w d) (Return u)) q ≡ 0 =
            ap (λ (u : ℕ). bit u (q % 32)) (seen_else d x (Return (q / 32)) w fits fits (return_take (q / 32) (q / 32))) ∙ (let m : part_bit (λ (u : ℕ). seen d (Return u)) q ≡ 0 = omega arith in m) in
            let t' : flag l.taken ≡ 1 = ap (λ (k : Lane). flag k.taken) (sym eq) in let o' : flag l.out ≡ 1 = ap (λ (k : Lane). flag k.out) (sym eq) in
            let made : IsLane (taken q b w d) q l = record {
              first = ap (λ (k : Lane). k.first) (sym eq) ∙ e.first;
              count = ap (λ (k : Lane). k.count) (sym eq) ∙ e.count;
              taken = set_here d Take q v fits a.words ∙ sym t';
              out = λ act. omega arith;
              home = λ idle. absurd (idle h.2);
              unreturned = λ less below. absurd (omega arith);
              untaken = λ less below. absurd (omega arith);
            } in subst (λ (k : ℕ). IsLane (taken q b w d) k l) (sym z.0) made)
            (λ (z : There p l).
            let e = a.each p l z.1 in let there = word_there d n p ls l a z.1 in
            let back = ap (λ (u : ℕ). bit u (p % 32)) (seen_else d x (Return (p / 32)) w fits there (return_take (p / 32) (q / 32))) in
            let made : IsLane (taken q b w d) p l = record {
              first = e.first;
              count = e.count;
              taken = set_else d Take p q v take_one fits there a.words is z.0 ∙ e.taken;
              out = λ act. ap (λ (u : ℕ). u + flag l.out) back ∙ e.out act;
              home = e.home;
              unreturned = λ less below. absurd (omega arith);
              untaken = λ less below. absurd (omega arith);
            } in made)
            (flagged_at true true q ls p l at);
      }

  -- after a return
  pub returned_lanes : (m : ℕ) → MayMake d (ReturnPart q) → v ≡ seen d (Return (q / 32)) → HasFlags true true q ls → m + cells_of g q ≡ n → AreLanes (given_back q w d) m (flagged true false q ls)
  returned_lanes m h is f left =
      let x : Name = Return (q / 32) in let fits : q / 32 < take_words g = word_inside q g.recv_parts h.1 in let full = h.2.0 in
      let Here : ℕ → Lane → Type 0 = λ p l. (p ≡ q) × ((y : Lane) × (get_elem? ls q ≡ some y) × (record y { taken = true; out = false } ≡ l)) in
      let There : ℕ → Lane → Type 0 = λ p l. (p ≢ q) × (get_elem? ls p ≡ some l) in
      record {
        words = length-set d.seen (number g x) w ∙ a.words;
        round = a.round;
        order = a.order;
        parts = flagged_length true false q ls ∙ a.parts;
        total = let o = wide_home true true q ls f in let c = (a.each q f.lane f.at).count in let t = a.total in omega arith;
        each = λ p l at. ⊎_elim
            (λ (z : Here p l).
            let y = z.1.0 in let eq = z.1.2 in let e = a.each q y z.1.1 in
            let t' : flag l.taken ≡ 1 = ap (λ (k : Lane). flag k.taken) (sym eq) in let o' : flag l.out ≡ 0 = ap (λ (k : Lane). flag k.out) (sym eq) in
            let back = set_here d Return q v fits a.words in
            let made : IsLane (given_back q w d) q l = record {
              first = ap (λ (k : Lane). k.first) (sym eq) ∙ e.first;
              count = ap (λ (k : Lane). k.count) (sym eq) ∙ e.count;
              taken = ap (λ (u : ℕ). bit u (q % 32)) (seen_else d x (Take (q / 32)) w fits fits (take_return (q / 32) (q / 32))) ∙ (h.3 ∙ sym t');
              out = λ act. omega arith;
              home = λ idle. absurd (idle h.2);
              unreturned = λ less below. absurd (omega arith);
              untaken = λ less below. absurd (omega arith);
            } in subst (λ (k : ℕ). IsLane (given_back q w d) k l) (sym z.0) made)
            (λ (z : There p l).
            let e = a.each p l z.1 in let there = word_there d n p ls l a z.1 in
            let made : IsLane (given_back q w d) p l = record {
              first = e.first;
              count = e.count;
              taken = ap (λ (u : ℕ). bit u (p % 32)) (seen_else d x (Take (p / 32)) w fits there (take_return (p / 32) (q / 32))) ∙ e.taken;
              out = λ act. ap (λ (u : ℕ). u + flag l.out) (set_else d Return p q v return_one fits there a.words is z.0) ∙ e.out act;
              home = e.home;
              unreturned = λ less below. absurd (omega arith);
              untaken = λ less below. absurd (omega arith);
            } in made)
            (flagged_at true false q ls p l at);
      }

-- ---- lanes by steps of a loop

-- no lane from k on is changed
pub untaken_none : (k : ℕ) (ls : List Lane) → untaken k 0 ls ≡ ls
untaken_none k [] = refl
untaken_none zero (x ∷ xs) = refl
untaken_none (suc k) (x ∷ xs) = ap (λ (z : List Lane). x ∷ z) (untaken_none k xs)

-- one lane more
pub untaken_more : (k n m : ℕ) (ls : List Lane) → m ≡ k + n → flagged false false m (untaken k n ls) ≡ untaken k (suc n) ls
untaken_more k n m [] e = refl
untaken_more zero zero zero (x ∷ xs) e = ap (λ (z : List Lane). record x { taken = false; out = false } ∷ z) (sym (untaken_none zero xs))
untaken_more zero zero (suc m) (x ∷ xs) e = absurd (omega arith)
untaken_more zero (suc n) zero (x ∷ xs) e = absurd (omega arith)
untaken_more zero (suc n) (suc m) (x ∷ xs) e = ap (λ (z : List Lane). record x { taken = false; out = false } ∷ z) (untaken_more zero n m xs (omega arith))
untaken_more (suc k) n zero (x ∷ xs) e = absurd (omega arith)
untaken_more (suc k) n (suc m) (x ∷ xs) e = ap (λ (z : List Lane). x ∷ z) (untaken_more k n m xs (omega arith))

-- there are no more lanes
pub untaken_all : (k n m : ℕ) (ls : List Lane) → length ls ≤ k + n → n ≤ m → untaken k n ls ≡ untaken k m ls
untaken_all k n m [] few less = refl
untaken_all zero zero m (x ∷ xs) few less = absurd (omega arith)
untaken_all zero (suc n) zero (x ∷ xs) few less = absurd (omega arith)
untaken_all zero (suc n) (suc m) (x ∷ xs) few less = ap (λ (z : List Lane). record x { taken = false; out = false } ∷ z) (untaken_all zero n m xs (omega arith) (omega arith))
untaken_all (suc k) n m (x ∷ xs) few less = ap (λ (z : List Lane). x ∷ z) (untaken_all k n m xs (omega arith) less)

-- a partition has a lane
pub lane_there : (ls : List Lane) (q : ℕ) → q < length ls → (l : Lane) × (get_elem? ls q ≡ some l)
lane_there [] q h = absurd (omega arith)
lane_there (x ∷ xs) zero h = (x, refl)
lane_there (x ∷ xs) (suc q) h = lane_there xs q (omega arith)

-- where the slots of a partition stand that may be given back, with what is behind them
pub lane_spot : (d : View) (q n : ℕ) (ls : List Lane) → AreLanes d n ls → MayMake d (ReturnPart q) → place ls q + (cells_of d.geometry q + wide (drop (q + 1) ls)) ≡ n
lane_spot d q n ls a h =
    let there = lane_there ls q (let p = a.parts in let i = h.1 in omega arith) in
    let f = may_return d q n ls there.0 h a there.1 in let s = spot true q ls f in let c = (a.each q f.lane f.at).count in let t = a.total in omega arith

-- a lane with flags is that of a partition
pub flags_there : (d : View) (n q : ℕ) (ls : List Lane) (t o : Bool) → AreLanes d n ls → HasFlags t o q ls → q < d.geometry.recv_parts
flags_there d n q ls t o a f = part_there d n q ls f.lane a f.at

-- lanes that were written back over a vector's
pub written : (n : ℕ) (new old : List Lane) → length new ≡ length old → length old ≡ n → take n (new ++ drop (length new) old) ≡ new
written n new old e f = take_at new (drop (length new) old) n (e ∙ f)

-- where a cell is in its receive partition
pub cell_facts : (g : Shape) → IsShape g → (c q e first after : ℕ) → c < cells g → recv_of g c ≡ q → first ≡ first_received g q → after ≡ first_received g (q + 1)
    → (first ≤ c) × (c - first < after - first) × (slot_number g e first + (c - first) ≡ slot_number g e c)
cell_facts g v c q e first after inside is a b = let h = (in_received g v q c inside).0 is in let low = h.0 in let high = h.1 in (omega arith, omega arith, omega arith)

-- the same by the seat's geometry g, which the tables t have, and the lanes as a call reads them
pub cell_spots : (t g : Shape) → IsShape t → g ≡ t → (c q e first after : ℕ) (ls ls' : List Lane) → ls' ≡ ls → c < cells t → q ≡ recv_of t c → first ≡ first_received t q → after ≡ first_received t (q + 1)
    → (first ≤ c) × (c - first < cells_of g q) × (place ls' q + (c - first) ≡ cell_spot g ls c) × (first_slot g e q + (c - first) ≡ slot_number g e c)
cell_spots t g v geo c q e first after ls ls' same inside is a b =
    let f = cell_facts t v c q e first after inside (sym is) a b in
    let there : q ≡ recv_of g c = is ∙ ap (λ (z : Shape). recv_of z c) (sym geo) in
    let start : first ≡ first_received g (recv_of g c) = a ∙ (λ i. first_received (sym geo i) (there i)) in
    let first_is : first ≡ first_received g q = a ∙ ap (λ (z : Shape). first_received z q) (sym geo) in
    let room : after - first ≡ cells_of g q = (λ i. b i - a i) ∙ ap (λ (z : Shape). cells_of z q) (sym geo) in (
      f.0,
      subst (λ (z : ℕ). c - first < z) room f.1,
      (λ i. place (same i) (there i) + (c - start i)),
      ap (λ (z : ℕ). slot_number g e z + (c - first)) (sym first_is) ∙ (ap (λ (z : Shape). slot_number z e first + (c - first)) geo ∙ (f.2 ∙ ap (λ (z : Shape). slot_number z e c) (sym geo))),
    )
