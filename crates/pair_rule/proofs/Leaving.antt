-- How the slots of a receive partition change while its buffers are lent, from the first slot on, and put, from the last one on. A
-- slot may keep its buffer.
use Rattle.std.proofs.Common.{◌≡◌, ℕ, zero, suc, ◌+◌, ◌*◌, ◌<◌, true, List, [], ◌∷◌, ◌++◌, map, length, take, drop, set, Option, Some, None, refl, sym, ap, ◌∙◌, subst, arith, take-append-drop}
use mathlib.Core.Option.{some}
use lib.ListN.{get_elem?, length-map}
use Rattle.std.proofs.lemmas.List.{map-append}
use Rattle.std.specs.Prelude.{IfSome}
use Rattle.part_geometry.specs.Shape.{Shape}
use Rattle.atomic_table.specs.Table.{rest}
use Rattle.part_tables.specs.Parts.{first_received}
use Rattle.slot_rows.specs.Lists.{row, rotated, overlaid}
use Rattle.slot_rows.specs.Lanes.{wide, place, HasFlags}
use Rattle.slot_rows.specs.declared.lane.Lane.{Lane}
use Rattle.slot_rows.proofs.Lanes.{spot}
use Rattle.slot_rows.proofs.Lists.{at_split, to_head, and_back, swapped_length, same_head}
use Rattle.slot_rows.proofs.Overlays.{at_drop, at_take, take_next, row_at, row_snoc, back_at, back_set, front_at, front_set, block_at}
use Rattle.pair_rule.specs.Buf.{Buf}
use Rattle.pair_rule.specs.Rule.{cell_length, slot_row}
use Rattle.pair_rule.specs.Steps.{AreOf}
use Rattle.pair_rule.specs.Seats.{AreLanes, cells_of}
use Rattle.pair_rule.specs.Parts.{first_slot, IsLeft, AreLeft, MayBeOf, or_own}
use Rattle.pair_rule.specs.declared.view.View.{View}

-- the slots of a lane that is out, those before it and those behind it
pub lane_room : (d : View) (n q : ℕ) (ls : List Lane) → AreLanes d n ls → HasFlags true true q ls → place ls q + (cells_of d.geometry q + wide (drop (q + 1) ls)) ≡ n
lane_room d n q ls lanes h = let s = spot true q ls h in let c = (lanes.each q h.lane h.at).count in let t = lanes.total in omega arith

-- ---- what is left

-- as many slots as buffers
pub left_length : (bs : List Buf) (vs : List (Option Buf)) → AreLeft bs vs → length vs ≡ length bs
left_length [] [] h = refl
left_length [] (v ∷ vs) h = absurd h
left_length (b ∷ bs) [] h = absurd h
left_length (b ∷ bs) (v ∷ vs) h = ap suc (left_length bs vs h.1)

-- one more behind the others
pub left_more : (bs : List Buf) (vs : List (Option Buf)) (b : Buf) (v : Option Buf) → AreLeft bs vs → IsLeft b v → AreLeft (bs ++ b ∷ []) (vs ++ v ∷ [])
left_more [] [] b v h e = (e, tt)
left_more [] (w ∷ vs) b v h e = absurd h
left_more (c ∷ bs) [] b v h e = absurd h
left_more (c ∷ bs) (w ∷ vs) b v h e = (h.0, left_more bs vs b v h.1 e)

-- what P says of a buffer, of what is left of it
one_of : (P : Buf → Type 0) (b : Buf) (v : Option Buf) → IsLeft b v → P b → IfSome v P
one_of P b None e p = tt
one_of P b (Some y) e p = subst P (sym e) p

-- what is left of buffers of a round and their cells' lengths
pub left_of : (g : Shape) (k c : ℕ) (bs : List Buf) (vs : List (Option Buf)) → AreLeft bs vs → AreOf g k c bs → MayBeOf g k c vs
left_of g k c [] [] h all = tt
left_of g k c [] (v ∷ vs) h all = absurd h
left_of g k c (b ∷ bs) [] h all = absurd h
left_of g k c (b ∷ bs) (v ∷ vs) h all =
    (one_of (λ (y : Buf). (y.round ≡ k) × (length y.bytes ≡ cell_length g c)) b v h.0 all.0, left_of g k (suc c) bs vs h.1 all.1)

-- what P says of the buffer that was put, or of the slot's own
pub own_or : (P : Buf → Type 0) (b : Buf) (v : Option Buf) → P b → IfSome v P → P (or_own b v)
own_or P b None p h = p
own_or P b (Some y) p h = h

-- a list has a value at each number below its length
there : {X : Type 0} (ys : List X) (c : ℕ) → c < length ys → (y : X) × (get_elem? ys c ≡ some y)
there [] c h = absurd (omega arith)
there (y ∷ ys) zero h = (y, refl)
there (y ∷ ys) (suc c) h = there ys c (omega arith)

-- what stands in a block of slots
pub value_at : {S : Type 0} (p f n : ℕ) (ys : List S) (l : List (ℕ × S)) (c : ℕ) → length ys ≡ n → take n (drop p l) ≡ row f ys → c < n
    → (y : S) × (get_elem? ys c ≡ some y) × (get_elem? l (p + c) ≡ some (f + c, y))
value_at p f n ys l c e b h =
    let y = there ys c (omega arith) in
    (y.0, y.1, sym (at_drop p l c) ∙ (sym (at_take n (drop p l) c h) ∙ (ap (λ z. get_elem? z c) b ∙ row_at f ys c y.0 y.1)))

-- before the first step nothing lies over the list
pub over_none : {S : Type 0} (p f : ℕ) (l : List (ℕ × S)) → overlaid p f [] l ≡ l
over_none p f l = ap (λ (z : ℕ). take p l ++ drop z l) (let e : p + 0 ≡ p = omega arith in e) ∙ take-append-drop p l

-- ---- one step of lending the values of a block, from the first slot on

module _ {B : Type 0} (p f n : ℕ) (ys : List B) (l : List (ℕ × Option B)) (count : length ys ≡ n) (block : take n (drop p l) ≡ row f (map Some ys)) where
  -- the next slot is as it was, whatever the ones before it have
  pub lend_at : (c : ℕ) (vs : List (Option B)) → length vs ≡ c → c < n → (y : B) × (get_elem? (overlaid p f vs l) (p + c) ≡ some (f + c, Some y)) × (get_elem? l (p + c) ≡ some (f + c, Some y))
  lend_at c vs k h =
      let b = block_at p f n ys l c count block h in
      let P : ℕ → Type 0 = λ m. get_elem? l (p + m) ≡ some (f + c, Some b.0) → get_elem? (overlaid p f vs l) (p + m) ≡ some (f + c, Some b.0) in
      (b.0, subst P k (back_at p f vs l (f + c, Some b.0)) b.1, b.1)

  -- what was left grows by the next slot
  pub lend_set : (c : ℕ) (vs : List (Option B)) (v : Option B) → length vs ≡ c → c < n → set (overlaid p f vs l) (p + c) (f + c, v) ≡ overlaid p f (vs ++ v ∷ []) l
  lend_set c vs v k h =
      let b = block_at p f n ys l c count block h in
      let P : ℕ → Type 0 = λ m. get_elem? l (p + m) ≡ some (f + c, Some b.0) → set (overlaid p f vs l) (p + m) (f + m, v) ≡ overlaid p f (vs ++ v ∷ []) l in
      subst P k (back_set p f vs l (f + c, Some b.0) v) b.1

  -- and the shelf by its buffer
  pub lend_more : (c : ℕ) (items : List B) (b : B) → length items ≡ c → row f (map Some items) ≡ take c (drop p l) → get_elem? l (p + c) ≡ some (f + c, Some b)
      → row f (map Some (items ++ b ∷ [])) ≡ take (c + 1) (drop p l)
  lend_more c items b k so at =
      let here : get_elem? (drop p l) c ≡ some (f + c, Some b) = at_drop p l c ∙ at in
      let m : length (map Some items) ≡ c = length-map items Some ∙ k in
      ap (row f) (map-append Some items (b ∷ [])) ∙ (row_snoc f (map Some items) (Some b) ∙ ((λ i. so i ++ (f + m i, Some b) ∷ []) ∙ (sym (take_next (drop p l) c (f + c, Some b) here)
      ∙ ap (λ (z : ℕ). take z (drop p l)) (let e : suc c ≡ c + 1 = omega arith in e))))

-- ---- one step of putting values into a block, from the last slot on

module _ {S : Type 0} (p f : ℕ) (l : List (ℕ × S)) where
  -- the slot before those that were filled is as it was
  pub put_there : (k m : ℕ) (vs : List S) (y : S) → m ≡ k + 1 → get_elem? l (p + k) ≡ some (f + k, y) → get_elem? (overlaid (p + m) (f + m) vs l) (p + k) ≡ some (f + k, y)
  put_there k m vs y e at =
      let a : suc (p + k) ≡ p + m = omega arith in
      subst (λ (z : ℕ). get_elem? (overlaid z (f + m) vs l) (p + k) ≡ some (f + k, y)) a (front_at (p + k) (f + m) vs l (f + k, y) at)

  -- the filled ones grow by it
  pub put_more : (k m : ℕ) (v : S) (vs : List S) (y : S) → m ≡ k + 1 → get_elem? l (p + k) ≡ some (f + k, y) → set (overlaid (p + m) (f + m) vs l) (p + k) (f + k, v) ≡ overlaid (p + k) (f + k) (v ∷ vs) l
  put_more k m v vs y e at =
      let a : suc (p + k) ≡ p + m = omega arith in let b : suc (f + k) ≡ f + m = omega arith in
      subst (λ (z : ℕ × ℕ). set (overlaid z.0 z.1 vs l) (p + k) (f + k, v) ≡ overlaid (p + k) (f + k) (v ∷ vs) l) (λ i. (a i, b i)) (front_set (p + k) (f + k) v vs l (f + k, y) at)

-- ---- the slot that a list is turned to

-- its number, as the code computes it
pub slot_is : (t g : Shape) → t ≡ g → (e q i row first : ℕ) → row ≡ slot_row t → first ≡ first_received t q → e * row + first + i ≡ first_slot g e q + i
slot_is t g same e q i row first a b = (λ j. e * a j + b j + i) ∙ ap (λ (z : Shape). first_slot z e q + i) same

module _ {S : Type 0} (l l' : List (ℕ × S)) (m : ℕ) (x : ℕ × S) (at : get_elem? l m ≡ some x) (to : l' ≡ rotated m l) where
  -- it is the head
  pub turned_head : l' ≡ x ∷ rest l'
  turned_head = subst (λ (y : List (ℕ × S)). y ≡ x ∷ rest y) (sym to) (to_head l m x at)

  -- what was read there is its value
  pub turned_value : (v : S) → l' ≡ (x.0, v) ∷ rest l' → x.1 ≡ v
  turned_value v e = same_head x (x.0, v) l' turned_head e

  -- whatever its value, the list is as long as it was
  pub turned_length : suc (length (rest l')) ≡ length l
  turned_length = swapped_length l l' (x ∷ rest l') m x x to turned_head (λ i. x ∷ rest l') (let s = (at_split l m x at).0 in omega arith)

  -- with another head, and turned on to its beginning, it is the list with another value there
  pub turned_set : (b : ℕ) (z : ℕ × S) → m + b ≡ length l → rotated b (z ∷ rest l') ≡ set l m z
  turned_set b z h = ap (λ (y : List (ℕ × S)). rotated b (z ∷ rest y)) to ∙ and_back l m b x z at h
