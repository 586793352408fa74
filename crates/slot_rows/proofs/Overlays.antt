-- Slots of a list whose values change one after another, from the first or from the last on: the list is `overlaid` by a row that grows by one.
use Rattle.std.proofs.Common.{◌≡◌, ℕ, zero, suc, ◌+◌, ◌<◌, ◌≤◌, List, [], ◌∷◌, ◌++◌, map, length, take, drop, set, Option, Some, None, refl, sym, ap, ◌∙◌, subst, arith, append_assoc, length-append, take-append-drop, length-take-le, take_at, drop_at, drop-drop}
use mathlib.Core.Option.{some, some-injective, some-ne-none}
use lib.ListN.{get_elem?, length-map}
use Rattle.std.proofs.Math.Seq.{set-append_seam}
use Rattle.slot_rows.specs.Lists.{row, spliced, overlaid}
use Rattle.slot_rows.proofs.Lists.{at_split, row_length}

module _ {X : Type 0} where
  -- what stands at n after n others, and the list with another in its place
  pub at_mid : (A D : List X) (n : ℕ) (x : X) → length A ≡ n → get_elem? (A ++ x ∷ D) n ≡ some x
  at_mid [] D zero x e = refl
  at_mid [] D (suc n) x e = absurd (omega arith)
  at_mid (a ∷ A) D zero x e = absurd (omega arith)
  at_mid (a ∷ A) D (suc n) x e = at_mid A D n x (omega arith)

  pub set_mid : (A D : List X) (n : ℕ) (x y : X) → length A ≡ n → set (A ++ x ∷ D) n y ≡ A ++ y ∷ D
  set_mid A D n x y e = ap (λ (m : ℕ). set (A ++ x ∷ D) m y) (sym e) ∙ set-append_seam A x D y

  pub take_next : (l : List X) (c : ℕ) (x : X) → get_elem? l c ≡ some x → take (suc c) l ≡ take c l ++ x ∷ []
  take_next [] c x e = absurd (some-ne-none x (sym e))
  take_next (y ∷ ys) zero x e = λ i. some-injective y x e i ∷ []
  take_next (y ∷ ys) (suc c) x e = ap (λ (z : List X). y ∷ z) (take_next ys c x e)

  pub at_drop : (p : ℕ) (l : List X) (c : ℕ) → get_elem? (drop p l) c ≡ get_elem? l (p + c)
  at_drop zero l c = ap (get_elem? l) (let e : c ≡ 0 + c = omega arith in e)
  at_drop (suc p) [] c = refl
  at_drop (suc p) (x ∷ xs) c = at_drop p xs c ∙ ap (get_elem? (x ∷ xs)) (let e : suc (p + c) ≡ suc p + c = omega arith in e)

  pub at_take : (n : ℕ) (l : List X) (c : ℕ) → c < n → get_elem? (take n l) c ≡ get_elem? l c
  at_take zero l c h = absurd (omega arith)
  at_take (suc n) [] c h = refl
  at_take (suc n) (x ∷ xs) zero h = refl
  at_take (suc n) (x ∷ xs) (suc c) h = at_take n xs c (omega arith)

  abbrev head_or : X → List X → X
  head_or d [] = d
  head_or d (z ∷ zs) = z

module _ {S : Type 0} where
  pub row_snoc : (k : ℕ) (ys : List S) (y : S) → row k (ys ++ y ∷ []) ≡ row k ys ++ (k + length ys, y) ∷ []
  row_snoc k [] y = ap (λ (n : ℕ). (n, y) ∷ []) (let e : k ≡ k + 0 = omega arith in e)
  row_snoc k (x ∷ xs) y = ap (λ (z : List (ℕ × S)). (k, x) ∷ z) (row_snoc (suc k) xs y ∙ ap (λ (n : ℕ). row (suc k) xs ++ (n, y) ∷ []) (let e : suc k + length xs ≡ k + suc (length xs) = omega arith in e))

  pub row_at : (k : ℕ) (ys : List S) (c : ℕ) (y : S) → get_elem? ys c ≡ some y → get_elem? (row k ys) c ≡ some (k + c, y)
  row_at k [] c y e = absurd (some-ne-none y (sym e))
  row_at k (x ∷ xs) zero y e = λ i. some ((let f : k ≡ k + 0 = omega arith in f) i, some-injective x y e i)
  row_at k (x ∷ xs) (suc c) y e = row_at (suc k) xs c y e ∙ ap (λ (n : ℕ). some (n, y)) (let f : suc k + c ≡ k + suc c = omega arith in f)

  -- at the end of the row that lies over a list, the list is as it was
  pub back_at : (p f : ℕ) (vs : List S) (l : List (ℕ × S)) (x : ℕ × S) → get_elem? l (p + length vs) ≡ some x → get_elem? (overlaid p f vs l) (p + length vs) ≡ some x
  back_at p f vs l x e =
      let m : ℕ = p + length vs in let s = at_split l m x e in let A : List (ℕ × S) = take p l ++ row f vs in
      let n : length A ≡ m = length-append (take p l) (row f vs) ∙ (let a = length-take-le p l (let h = s.0 in omega arith) in let b = row_length f vs in omega arith) in
      let P : List (ℕ × S) → Type 0 = λ d. get_elem? (take p l ++ (row f vs ++ d)) m ≡ some x in
      subst P (sym s.1) (ap (λ (z : List (ℕ × S)). get_elem? z m) (sym (append_assoc (take p l) (row f vs) (x ∷ drop (suc m) l))) ∙ at_mid A (drop (suc m) l) m x n)

  -- the row that lies over a list grows at its end
  pub back_set : (p f : ℕ) (vs : List S) (l : List (ℕ × S)) (x : ℕ × S) (v : S) → get_elem? l (p + length vs) ≡ some x → set (overlaid p f vs l) (p + length vs) (f + length vs, v) ≡ overlaid p f (vs ++ v ∷ []) l
  back_set p f vs l x v e =
      let m : ℕ = p + length vs in let s = at_split l m x e in let A : List (ℕ × S) = take p l ++ row f vs in let y : ℕ × S = (f + length vs, v) in let D : List (ℕ × S) = drop (suc m) l in
      let n : length A ≡ m = length-append (take p l) (row f vs) ∙ (let a = length-take-le p l (let h = s.0 in omega arith) in let b = row_length f vs in omega arith) in
      let k : suc m ≡ p + length (vs ++ v ∷ []) = let a = length-append vs (v ∷ []) in omega arith in
      ap (λ (d : List (ℕ × S)). set (take p l ++ (row f vs ++ d)) m y) s.1
      ∙ (ap (λ (z : List (ℕ × S)). set z m y) (sym (append_assoc (take p l) (row f vs) (x ∷ D))) ∙ (set_mid A D m x y n ∙ (append_assoc (take p l) (row f vs) (y ∷ D)
      ∙ ap (λ (z : List (ℕ × S)). take p l ++ z) (sym (append_assoc (row f vs) (y ∷ []) D) ∙ (λ i. sym (row_snoc f vs v) i ++ drop (k i) l)))))

  -- just before the row that lies over a list, the list is as it was
  pub front_at : (p f : ℕ) (vs : List S) (l : List (ℕ × S)) (x : ℕ × S) → get_elem? l p ≡ some x → get_elem? (overlaid (suc p) f vs l) p ≡ some x
  front_at p f vs l x e =
      let R : List (ℕ × S) = row f vs ++ drop (suc p + length vs) l in let s = at_split l p x e in
      ap (λ (z : List (ℕ × S)). get_elem? (z ++ R) p) (take_next l p x e) ∙ (ap (λ (z : List (ℕ × S)). get_elem? z p) (append_assoc (take p l) (x ∷ []) R) ∙ at_mid (take p l) R p x (length-take-le p l (let h = s.0 in omega arith)))

  -- the row that lies over a list grows at its front
  pub front_set : (p f : ℕ) (v : S) (vs : List S) (l : List (ℕ × S)) (x : ℕ × S) → get_elem? l p ≡ some x → set (overlaid (suc p) (suc f) vs l) p (f, v) ≡ overlaid p f (v ∷ vs) l
  front_set p f v vs l x e =
      let R : List (ℕ × S) = row (suc f) vs ++ drop (suc p + length vs) l in let s = at_split l p x e in
      let k : suc p + length vs ≡ p + suc (length vs) = omega arith in
      ap (λ (z : List (ℕ × S)). set (z ++ R) p (f, v)) (take_next l p x e) ∙ (ap (λ (z : List (ℕ × S)). set z p (f, v)) (append_assoc (take p l) (x ∷ []) R)
      ∙ (set_mid (take p l) R p x (f, v) (length-take-le p l (let h = s.0 in omega arith)) ∙ ap (λ (n : ℕ). take p l ++ ((f, v) ∷ (row (suc f) vs ++ drop n l))) k))

  -- the block at p, and the list without it
  mid_block : (A R B : List (ℕ × S)) (p n : ℕ) → length A ≡ p → length R ≡ n → (take n (drop p (A ++ (R ++ B))) ≡ R) × (take p (A ++ (R ++ B)) ++ drop (p + n) (A ++ (R ++ B)) ≡ A ++ B)
  mid_block A R B p n a b =
      let d : drop p (A ++ (R ++ B)) ≡ R ++ B = drop_at A (R ++ B) p a in (
        ap (take n) d ∙ take_at R B n b,
        (λ i. take_at A (R ++ B) p a i ++ (sym (drop-drop n p (A ++ (R ++ B))) ∙ (ap (drop n) d ∙ drop_at R B n b)) i),
      )

  -- what was put in stands at its place, and without it the list is as it was
  pub spliced_block : (p f n : ℕ) (ys : List S) (l : List (ℕ × S)) → p ≤ length l → length ys ≡ n → (take n (drop p (spliced p f ys l)) ≡ row f ys) × (take p (spliced p f ys l) ++ drop (p + n) (spliced p f ys l) ≡ l)
  spliced_block p f n ys l h e =
      let m = mid_block (take p l) (row f ys) (drop p l) p n (length-take-le p l h) (row_length f ys ∙ e) in (m.0, m.1 ∙ take-append-drop p l)

  -- the same of a row that lies over a list
  pub overlaid_block : (p f n : ℕ) (ys : List S) (l : List (ℕ × S)) → p ≤ length l → length ys ≡ n
      → (take n (drop p (overlaid p f ys l)) ≡ row f ys) × (take p (overlaid p f ys l) ++ drop (p + n) (overlaid p f ys l) ≡ take p l ++ drop (p + n) l)
  overlaid_block p f n ys l h e =
      let m = mid_block (take p l) (row f ys) (drop (p + length ys) l) p n (length-take-le p l h) (row_length f ys ∙ e) in (m.0, m.1 ∙ ap (λ (k : ℕ). take p l ++ drop (p + k) l) e)

  -- other values in the place of those that were put in
  pub over_spliced : (p f n : ℕ) (ys zs : List S) (l : List (ℕ × S)) → p ≤ length l → length ys ≡ n → length zs ≡ n → overlaid p f ys (spliced p f zs l) ≡ spliced p f ys l
  over_spliced p f n ys zs l h e g =
      let a : length (take p l) ≡ p = length-take-le p l h in let R : List (ℕ × S) = row f zs in
      let t : take p (spliced p f zs l) ≡ take p l = take_at (take p l) (R ++ drop p l) p a in
      let d : drop (p + length ys) (spliced p f zs l) ≡ drop p l = sym (drop-drop (length ys) p (spliced p f zs l)) ∙ (ap (drop (length ys)) (drop_at (take p l) (R ++ drop p l) p a) ∙ drop_at R (drop p l) (length ys) (row_length f zs ∙ (g ∙ sym e))) in
      λ i. t i ++ (row f ys ++ d i)

module _ {B : Type 0} where
  abbrev values : List (ℕ × Option B) → List B
  values [] = []
  values ((k, Some y) ∷ r) = y ∷ values r
  values ((k, None) ∷ r) = values r

  values_row : (k : ℕ) (ys : List B) → values (row k (map Some ys)) ≡ ys
  values_row k [] = refl
  values_row k (y ∷ ys) = ap (λ (z : List B). y ∷ z) (values_row (suc k) ys)

  -- rows of the same slots are of the same values
  pub same_row : (k : ℕ) (xs ys : List B) → row k (map Some xs) ≡ row k (map Some ys) → xs ≡ ys
  same_row k xs ys e = sym (values_row k xs) ∙ (ap values e ∙ values_row k ys)

  some_at : (k : ℕ) (ys : List B) (c : ℕ) → c < length ys → (y : B) × (get_elem? (row k (map Some ys)) c ≡ some (k + c, Some y))
  some_at k [] c h = absurd (omega arith)
  some_at k (x ∷ xs) zero h = (x, ap (λ (n : ℕ). some (n, Some x)) (let f : k ≡ k + 0 = omega arith in f))
  some_at k (x ∷ xs) (suc c) h = let r = some_at (suc k) xs c (omega arith) in (r.0, r.1 ∙ ap (λ (n : ℕ). some (n, Some r.0)) (let f : suc k + c ≡ k + suc c = omega arith in f))

  -- what stands in a block of full slots
  pub block_at : (p f n : ℕ) (ys : List B) (l : List (ℕ × Option B)) (c : ℕ) → length ys ≡ n → take n (drop p l) ≡ row f (map Some ys) → c < n → (y : B) × (get_elem? l (p + c) ≡ some (f + c, Some y))
  block_at p f n ys l c e b h =
      let r = some_at f ys c (omega arith) in
      (r.0, sym (at_drop p l c) ∙ (sym (at_take n (drop p l) c h) ∙ (ap (λ (z : List (ℕ × Option B)). get_elem? z c) b ∙ r.1)))

  -- what was put in, read by other numbers that are equal
  pub block_taken : (f n m p p' : ℕ) (ys : List B) (l l' : List (ℕ × Option B)) → m ≡ n → p' ≡ p → l' ≡ spliced p f (map Some ys) l → p ≤ length l → length ys ≡ n → take m (drop p' l') ≡ row f (map Some ys)
  block_taken f n m p p' ys l l' c e s h k = (λ i. take (c i) (drop (e i) (s i))) ∙ (spliced_block p f n (map Some ys) l h (length-map ys Some ∙ k)).0
