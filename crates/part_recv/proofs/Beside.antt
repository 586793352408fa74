-- The slots of a lane stay as they are, wherever they stand then, when another lane goes out or comes home.
use Rattle.std.proofs.Common.{◌≡◌, ◌≢◌, ◌⊎◌, inl, inr, ⊎_elim, ℕ, zero, suc, ◌+◌, ◌-◌, ◌≤◌, Bool, true, List, [], ◌∷◌, ◌++◌, length, take, drop, refl, sym, ap, ◌∙◌, arith, length-drop, drop_at, drop-drop}
use Rattle.std.specs.Prelude.{if◌then◌else◌}
use mathlib.Core.Option.{some, some-injective, some-ne-none}
use lib.ListN.{get_elem?}
use lib.Seq.{drop-append-le, take-append-le}
use Rattle.slot_rows.specs.declared.lane.Lane.{Lane}
use Rattle.slot_rows.specs.Lanes.{width, place, flagged}
use Rattle.slot_rows.proofs.Lanes.{out_width}
use Rattle.pair_rule.specs.Seats.{AreLanes, cells_of}
use Rattle.pair_rule.specs.declared.view.View.{View}

module _ {X : Type 0} where
  -- a block within A
  front : (A Y : List X) (b m : ℕ) → b + m ≤ length A → take m (drop b (A ++ Y)) ≡ take m (drop b A)
  front A Y b m h = ap (take m) (drop-append-le b A Y (omega arith)) ∙ take-append-le m (drop b A) Y (let d = length-drop b A in omega arith)

  -- a place behind A and R
  behind : (A R B : List X) (b : ℕ) → length A + length R ≤ b → drop b (A ++ (R ++ B)) ≡ drop (b - (length A + length R)) B
  behind A R B b h =
      let k : ℕ = length A + length R in let L : List X = A ++ (R ++ B) in
      let all : drop k L ≡ B = sym (drop-drop (length R) (length A) L) ∙ (ap (drop (length R)) (drop_at A (R ++ B) (length A) refl) ∙ drop_at R B (length R) refl) in
      ap (λ (z : ℕ). drop z L) (let e : b ≡ k + (b - k) = omega arith in e) ∙ (sym (drop-drop (b - k) k L) ∙ ap (drop (b - k)) all)

  -- R' stands in the place of R between A and B: what stands in A is where it was, and what stands in B as far behind it
  outside : (A R R' B : List X) (b b' m : ℕ) → ((b' ≡ b) × (b + m ≤ length A)) ⊎ ((length A + length R ≤ b) × (b' + length R ≡ b + length R'))
      → take m (drop b' (A ++ (R' ++ B))) ≡ take m (drop b (A ++ (R ++ B)))
  outside A R R' B b b' m =
      ⊎_elim (λ (h : (b' ≡ b) × (b + m ≤ length A)). ap (λ (z : ℕ). take m (drop z (A ++ (R' ++ B)))) h.0 ∙ (front A (R' ++ B) b m h.1 ∙ sym (front A (R ++ B) b m h.1)))
      (λ (h : (length A + length R ≤ b) × (b' + length R ≡ b + length R')).
      let low = h.0 in let far = h.1 in
      let e : b' - (length A + length R') ≡ b - (length A + length R) = omega arith in
      ap (take m) (behind A R' B b' (omega arith) ∙ (ap (λ (z : ℕ). drop z B) e ∙ sym (behind A R B b low))))

-- where the lane p stands after the lane q got other flags: where it was, if it is before q, and else as far behind q
place_beside : (t o : Bool) (p q : ℕ) (ls : List Lane) (x y : Lane) → p ≢ q → get_elem? ls q ≡ some x → get_elem? ls p ≡ some y
    → ((place (flagged t o q ls) p ≡ place ls p) × (place ls p + width y ≤ place ls q))
    ⊎ ((place ls q + width x ≤ place ls p) × (place (flagged t o q ls) p + width x ≡ place ls p + (if o then x.count else 0)))
place_beside t o p q [] x y n a b = absurd (some-ne-none x (sym a))
place_beside t o zero zero (z ∷ zs) x y n a b = absurd (n refl)
place_beside t o zero (suc q) (z ∷ zs) x y n a b = inl (refl, let w = ap width (some-injective z y b) in omega arith)
place_beside t o (suc p) zero (z ∷ zs) x y n a b =
    let s = some-injective z x a in let w = ap width s in let k = ap (λ (l : Lane). let c : ℕ = if o then l.count else 0 in c) s in inr (omega arith, omega arith)
place_beside t o (suc p) (suc q) (z ∷ zs) x y n a b =
    ⊎_elim (λ (h : (place (flagged t o q zs) p ≡ place zs p) × (place zs p + width y ≤ place zs q)). let h0 = h.0 in let h1 = h.1 in inl (omega arith, omega arith))
    (λ (h : (place zs q + width x ≤ place zs p) × (place (flagged t o q zs) p + width x ≡ place zs p + (if o then x.count else 0))). let h0 = h.0 in let h1 = h.1 in inr (omega arith, omega arith))
    (place_beside t o p q zs x y (λ e. n (ap suc e)) a b)

-- So the slots of a lane p that is out are the same, where R' came in the place of the slots R of the lane q, as its flags say.
pub kept_beside : {X : Type 0} (d : View) (n : ℕ) (ls : List Lane) (lanes : AreLanes d n ls) (t o : Bool) (p q : ℕ) (x y : Lane) → p ≢ q → get_elem? ls q ≡ some x → get_elem? ls p ≡ some y → y.out ≡ true
    → (A R R' B : List X) → length A ≡ place ls q → length R ≡ width x → length R' ≡ (if o then x.count else 0)
    → take (cells_of d.geometry p) (drop (place (flagged t o q ls) p) (A ++ (R' ++ B))) ≡ take (cells_of d.geometry p) (drop (place ls p) (A ++ (R ++ B)))
kept_beside d n ls lanes t o p q x y other a b out A R R' B before was is =
    let m : width y ≡ cells_of d.geometry p = out_width y out ∙ (lanes.each p y b).count in
    outside A R R' B (place ls p) (place (flagged t o q ls) p) (cells_of d.geometry p)
    (⊎_elim (λ (h : (place (flagged t o q ls) p ≡ place ls p) × (place ls p + width y ≤ place ls q)). let h1 = h.1 in inl (h.0, omega arith))
    (λ (h : (place ls q + width x ≤ place ls p) × (place (flagged t o q ls) p + width x ≡ place ls p + (if o then x.count else 0))). let h0 = h.0 in let h1 = h.1 in inr (omega arith, omega arith))
    (place_beside t o p q ls x y other a b))
