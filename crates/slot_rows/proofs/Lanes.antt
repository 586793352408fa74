-- Lanes and the places of their slots. What is said of the lane q goes by recursion on q and the lanes together.
use Rattle.std.proofs.Common.{◌≡◌, ◌≢◌, ◌⊎◌, inl, inr, ⊎_elim, ℕ, zero, suc, ◌+◌, ◌<◌, ◌≤◌, Bool, true, false, cond, List, [], ◌∷◌, ◌++◌, length, get_or, take, drop, set, refl, sym, ap, ◌∙◌, arith, take-append-drop}
use Rattle.std.specs.Prelude.{if◌then◌else◌}
use mathlib.Core.Option.{some, some-injective, some-ne-none}
use lib.ListN.{get_elem?}
use Rattle.slot_rows.specs.Lanes.{width, wide, place, flagged, HasFlags, HasSlot}
use Rattle.slot_rows.specs.declared.lane.Lane.{Lane}

pub wide_append : (a b : List Lane) → wide (a ++ b) ≡ wide a + wide b
wide_append [] b = omega arith
wide_append (l ∷ ls) b = let h = wide_append ls b in omega arith

-- where the slots of the lane q would go, and what is behind them
pub wide_split : (q : ℕ) (ls : List Lane) → place ls q + wide (drop q ls) ≡ wide ls
wide_split q ls = sym (wide_append (take q ls) (drop q ls)) ∙ ap wide (take-append-drop q ls)

pub wide_next : (q : ℕ) (ls : List Lane) (l : Lane) → get_elem? ls q ≡ some l → place ls (suc q) ≡ place ls q + width l
wide_next q [] l e = absurd (some-ne-none l (sym e))
wide_next zero (x ∷ xs) l e = let s = ap width (some-injective x l e) in omega arith
wide_next (suc q) (x ∷ xs) l e = let h = wide_next q xs l e in omega arith

-- where the slots of the lane q are, with what is behind them
pub wide_around : (q : ℕ) (ls : List Lane) (l : Lane) → get_elem? ls q ≡ some l → place ls q + (width l + wide (drop (q + 1) ls)) ≡ wide ls
wide_around q ls l e =
    let a = wide_split (suc q) ls in let b = wide_next q ls l e in
    ap (λ (k : ℕ). place ls q + (width l + wide (drop k ls))) (let n : q + 1 ≡ suc q = omega arith in n) ∙ omega arith

pub wide_more : (q : ℕ) (ls : List Lane) (d : Lane) → q < length ls → place ls (q + 1) ≡ place ls q + width (get_or ls q d)
wide_more q [] d h = absurd (omega arith)
wide_more zero (x ∷ xs) d h = omega arith
wide_more (suc q) (x ∷ xs) d h = let i = wide_more q xs d (omega arith) in ap (λ (n : ℕ). wide (take n (x ∷ xs))) (let e : suc q + 1 ≡ suc (q + 1) = omega arith in e) ∙ omega arith

pub wide_below : (q : ℕ) (ls : List Lane) → place ls q ≤ wide ls
wide_below q ls = let e = wide_split q ls in omega arith

pub out_width : (l : Lane) → l.out ≡ true → width l ≡ l.count
out_width l e = ap (λ (b : Bool). cond b l.count 0) e

pub home_width : (l : Lane) → l.out ≡ false → width l ≡ 0
home_width l e = ap (λ (b : Bool). cond b l.count 0) e

-- the same of a lane that is out, by its flags or by one of its slots
pub spot : (t : Bool) (q : ℕ) (ls : List Lane) → (h : HasFlags t true q ls) → place ls q + (h.lane.count + wide (drop (q + 1) ls)) ≡ wide ls
spot t q ls h = let w = wide_around q ls h.lane h.at in let e = out_width h.lane h.out in omega arith

pub slot_spot : (q c : ℕ) (ls : List Lane) → (h : HasSlot q c ls) → place ls q + (h.lane.count + wide (drop (q + 1) ls)) ≡ wide ls
slot_spot q c ls h = let w = wide_around q ls h.lane h.at in let e = out_width h.lane h.out in omega arith

pub flags_set : (t o : Bool) (q : ℕ) (ls : List Lane) (a d : Lane) → q < length ls → a ≡ get_or ls q d → set ls q (record a { taken = t; out = o }) ≡ flagged t o q ls
flags_set t o q [] a d h e = absurd (omega arith)
flags_set t o zero (x ∷ xs) a d h e = ap (λ (z : Lane). record z { taken = t; out = o } ∷ xs) e
flags_set t o (suc q) (x ∷ xs) a d h e = ap (λ (z : List Lane). x ∷ z) (flags_set t o q xs a d (omega arith) e)

-- a lane after flags were set: it is that lane, with these flags, or another, as it was
pub flagged_at : (t o : Bool) (q : ℕ) (ls : List Lane) (p : ℕ) (l : Lane) → get_elem? (flagged t o q ls) p ≡ some l
    → ((p ≡ q) × ((x : Lane) × (get_elem? ls q ≡ some x) × (record x { taken = t; out = o } ≡ l))) ⊎ ((p ≢ q) × (get_elem? ls p ≡ some l))
flagged_at t o q [] p l e = absurd (some-ne-none l (sym e))
flagged_at t o zero (x ∷ xs) zero l e = inl (refl, (x, refl, some-injective (record x { taken = t; out = o }) l e))
flagged_at t o zero (x ∷ xs) (suc p) l e = inr ((λ h. omega arith), e)
flagged_at t o (suc q) (x ∷ xs) zero l e = inr ((λ h. omega arith), e)
flagged_at t o (suc q) (x ∷ xs) (suc p) l e =
    ⊎_elim (λ (h : (p ≡ q) × ((y : Lane) × (get_elem? xs q ≡ some y) × (record y { taken = t; out = o } ≡ l))). inl (ap suc h.0, h.1)) (λ (h : (p ≢ q) × (get_elem? xs p ≡ some l)). let n = h.0 in inr ((λ k. n (omega arith)), h.1)) (flagged_at t o q xs p l e)

pub flagged_length : (t o : Bool) (q : ℕ) (ls : List Lane) → length (flagged t o q ls) ≡ length ls
flagged_length t o q [] = refl
flagged_length t o zero (x ∷ xs) = refl
flagged_length t o (suc q) (x ∷ xs) = ap suc (flagged_length t o q xs)

pub flagged_wide : (t o : Bool) (q : ℕ) (ls : List Lane) (x : Lane) → get_elem? ls q ≡ some x → wide (flagged t o q ls) + width x ≡ wide ls + (if o then x.count else 0)
flagged_wide t o q [] x e = absurd (some-ne-none x (sym e))
flagged_wide t o zero (y ∷ ys) x e = let s = some-injective y x e in let w = ap width s in let k = ap (λ (z : Lane). cond o z.count 0) s in omega arith
flagged_wide t o (suc q) (y ∷ ys) x e = let h = flagged_wide t o q ys x e in omega arith

-- a lane that was at home goes out, and one that was out comes home
pub wide_out : (t : Bool) (q : ℕ) (ls : List Lane) → (h : HasFlags false false q ls) → wide (flagged t true q ls) ≡ wide ls + h.lane.count
wide_out t q ls h = let w = flagged_wide t true q ls h.lane h.at in let e = home_width h.lane h.out in omega arith

pub wide_home : (t u : Bool) (q : ℕ) (ls : List Lane) → (h : HasFlags t true q ls) → wide (flagged u false q ls) + h.lane.count ≡ wide ls
wide_home t u q ls h = let w = flagged_wide u false q ls h.lane h.at in let e = out_width h.lane h.out in omega arith

pub flagged_twice : (t o u p : Bool) (q : ℕ) (ls : List Lane) → flagged t o q (flagged u p q ls) ≡ flagged t o q ls
flagged_twice t o u p q [] = refl
flagged_twice t o u p zero (x ∷ xs) = refl
flagged_twice t o u p (suc q) (x ∷ xs) = ap (λ (z : List Lane). x ∷ z) (flagged_twice t o u p q xs)

pub flagged_same : (q : ℕ) (ls : List Lane) (x : Lane) → get_elem? ls q ≡ some x → flagged x.taken x.out q ls ≡ ls
flagged_same q [] x e = absurd (some-ne-none x (sym e))
flagged_same zero (y ∷ ys) x e = λ i. record y { taken = (sym (some-injective y x e) i).taken; out = (sym (some-injective y x e) i).out } ∷ ys
flagged_same (suc q) (y ∷ ys) x e = ap (λ (z : List Lane). y ∷ z) (flagged_same q ys x e)

pub flagged_here : (t o : Bool) (q : ℕ) (ls : List Lane) (x : Lane) → get_elem? ls q ≡ some x → get_elem? (flagged t o q ls) q ≡ some (record x { taken = t; out = o })
flagged_here t o q [] x e = absurd (some-ne-none x (sym e))
flagged_here t o zero (y ∷ ys) x e = ap (λ (z : Lane). some (record z { taken = t; out = o })) (some-injective y x e)
flagged_here t o (suc q) (y ∷ ys) x e = flagged_here t o q ys x e

pub flagged_else : (t o : Bool) (q : ℕ) (ls : List Lane) (p : ℕ) → p ≢ q → get_elem? (flagged t o q ls) p ≡ get_elem? ls p
flagged_else t o q [] p n = refl
flagged_else t o zero (x ∷ xs) zero n = absurd (n refl)
flagged_else t o zero (x ∷ xs) (suc p) n = refl
flagged_else t o (suc q) (x ∷ xs) zero n = refl
flagged_else t o (suc q) (x ∷ xs) (suc p) n = flagged_else t o q xs p (λ e. n (ap suc e))

pub flagged_place : (t o : Bool) (q : ℕ) (ls : List Lane) → place (flagged t o q ls) q ≡ place ls q
flagged_place t o q [] = refl
flagged_place t o zero (x ∷ xs) = refl
flagged_place t o (suc q) (x ∷ xs) = ap (λ (n : ℕ). width x + n) (flagged_place t o q xs)

-- the flags of one lane after those of another, or its own, were set
pub flags_else : (t o u v : Bool) (p q : ℕ) (ls : List Lane) → p ≢ q → HasFlags t o p ls → HasFlags t o p (flagged u v q ls)
flags_else t o u v p q ls n h = record { lane = h.lane; at = flagged_else u v q ls p n ∙ h.at; taken = h.taken; out = h.out }

pub flags_here : (t o u v : Bool) (q : ℕ) (ls : List Lane) → HasFlags t o q ls → HasFlags u v q (flagged u v q ls)
flags_here t o u v q ls h = record { lane = record h.lane { taken = u; out = v }; at = flagged_here u v q ls h.lane h.at; taken = refl; out = refl }
