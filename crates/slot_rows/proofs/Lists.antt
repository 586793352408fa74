-- Lists that go round: turning a list by parts, and what a whole turn leaves. Each part is a `drop` and a `take`, and they are put together by `append_assoc`.
use Rattle.std.proofs.Common.{◌≡◌, ℕ, zero, suc, ◌+◌, ◌-◌, ◌<◌, ◌≤◌, List, [], ◌∷◌, ◌++◌, length, get_or, take, drop, set, refl, sym, ap, ◌∙◌, subst, arith, append_assoc, append-nil, length-append, length-drop, take-append-drop, length-take-le, take_at, drop_at, drop-drop, take-add, drop-cons, take-suc}
use mathlib.Core.Option.{some, some-injective, some-ne-none}
use lib.ListN.{get_elem?}
use lib.Seq.{set_split, drop-append-le, take-append-le}
use Rattle.atomic_table.specs.Table.{turned, rest}
use Rattle.slot_rows.specs.Lists.{row, rotated, spliced}

module _ {X : Type 0} where
  -- a list of two parts, turned by the first
  pub around : (A B : List X) (n : ℕ) → length A ≡ n → rotated n (A ++ B) ≡ B ++ A
  around A B n e = λ i. drop_at A B n e i ++ take_at A B n e i

  pub rotated_length : (n : ℕ) (l : List X) → n ≤ length l → length (rotated n l) ≡ length l
  rotated_length n l h = omega (arith, length-append (drop n l) (take n l), length-drop n l, length-take-le n l h)

  pub rotated_twice : (a b : ℕ) (l : List X) → a + b ≤ length l → rotated b (rotated a l) ≡ rotated (a + b) l
  rotated_twice a b l h =
      let d : length (drop a l) ≡ length l - a = length-drop a l in
      let e : drop b (drop a l ++ take a l) ≡ drop (a + b) l ++ take a l = drop-append-le b (drop a l) (take a l) (omega arith) ∙ ap (λ z. z ++ take a l) (drop-drop b a l) in
      let f : take b (drop a l ++ take a l) ≡ take b (drop a l) = take-append-le b (drop a l) (take a l) (omega arith) in
      (λ i. e i ++ f i) ∙ (append_assoc (drop (a + b) l) (take a l) (take b (drop a l)) ∙ ap (λ z. drop (a + b) l ++ z) (sym (take-add a b l)))

  -- the list from a place on, where x stands there
  pub at_split : (l : List X) (m : ℕ) (x : X) → get_elem? l m ≡ some x → (m < length l) × (drop m l ≡ x ∷ drop (suc m) l)
  at_split [] m x e = absurd (some-ne-none x (sym e))
  at_split (y ∷ ys) zero x e = (omega arith, λ i. some-injective y x e i ∷ ys)
  at_split (y ∷ ys) (suc m) x e = let r = at_split ys m x e in (omega (arith, r.0), r.1)

module _ {S : Type 0} where
  -- one turn more
  pub turned_on : (i : ℕ) (l : List (ℕ × S)) → i < length l → turned (rotated i l) ≡ rotated (suc i) l
  turned_on zero [] h = absurd (omega arith)
  turned_on zero (x ∷ xs) h = ap (λ z. z ++ x ∷ []) (append-nil xs)
  turned_on (suc i) [] h = absurd (omega arith)
  turned_on (suc i) (x ∷ xs) h =
      let d : ℕ × S = get_or xs i x in
      let e : drop i xs ≡ d ∷ drop (suc i) xs = drop-cons xs i x (omega arith) in
      let f : take (suc i) xs ≡ take i xs ++ d ∷ [] = take-suc xs i x (omega arith) in
      ap (λ (z : List (ℕ × S)). turned (z ++ x ∷ take i xs)) e ∙ (append_assoc (drop (suc i) xs) (x ∷ take i xs) (d ∷ []) ∙ ap (λ (z : List (ℕ × S)). drop (suc i) xs ++ x ∷ z) (sym f))

  -- what stands at m comes to the head
  pub to_head : (l : List (ℕ × S)) (m : ℕ) (x : ℕ × S) → get_elem? l m ≡ some x → rotated m l ≡ x ∷ rest (rotated m l)
  to_head l m x e = let s = (at_split l m x e).1 in let P : List (ℕ × S) → Type 0 = λ d. d ++ take m l ≡ x ∷ rest (d ++ take m l) in subst P (sym s) refl

  -- and is put back in its place
  pub and_back : (l : List (ℕ × S)) (m b : ℕ) (x z : ℕ × S) → get_elem? l m ≡ some x → m + b ≡ length l → rotated b (z ∷ rest (rotated m l)) ≡ set l m z
  and_back l m b x z e h =
      let s = at_split l m x e in let D : List (ℕ × S) = drop (suc m) l in
      let r : rest (rotated m l) ≡ D ++ take m l = ap (λ (d : List (ℕ × S)). rest (d ++ take m l)) s.1 in
      let d : length D ≡ length l - suc m = length-drop (suc m) l in
      ap (λ (t : List (ℕ × S)). rotated b (z ∷ t)) r ∙ (around (z ∷ D) (take m l) b (omega (arith, s.0)) ∙ sym (set_split l m z s.0))

  pub row_length : (k : ℕ) (ys : List S) → length (row k ys) ≡ length ys
  row_length k [] = refl
  row_length k (y ∷ ys) = ap suc (row_length (suc k) ys)

module _ {X : Type 0} where
  -- R came to the head of a list that stood turned between A and B, and goes to its place
  pub around_in : (A B R : List X) (n b : ℕ) → length R ≡ n → length B ≡ b → rotated b (rotated n (R ++ (B ++ A))) ≡ A ++ (R ++ B)
  around_in A B R n b en eb =
      ap (rotated b) (around R (B ++ A) n en ∙ append_assoc B A R) ∙ (around B (A ++ R) b eb ∙ append_assoc A R B)

  -- l without the n at p
  pub around_out : (l : List X) (p n b : ℕ) → p + n + b ≡ length l → rotated b (drop n (rotated p l)) ≡ take p l ++ drop (p + n) l
  around_out l p n b h =
      let d : length (drop p l) ≡ length l - p = length-drop p l in
      let e : drop n (rotated p l) ≡ drop (p + n) l ++ take p l = drop-append-le n (drop p l) (take p l) (omega arith) ∙ ap (λ (z : List X). z ++ take p l) (drop-drop n p l) in
      ap (rotated b) e ∙ around (drop (p + n) l) (take p l) b (omega (arith, length-drop (p + n) l))

  -- what stands at p comes to the head
  pub head_at : (l R : List X) (p n : ℕ) → take n (drop p l) ≡ R → rotated p l ≡ R ++ (drop (p + n) l ++ take p l)
  head_at l R p n e =
      let s : drop p l ≡ R ++ drop (p + n) l = sym (take-append-drop n (drop p l)) ∙ (λ i. e i ++ drop-drop n p l i) in
      ap (λ (z : List X). z ++ take p l) s ∙ append_assoc R (drop (p + n) l) (take p l)

  pub get_or_at : (l : List X) (i : ℕ) (a d : X) → get_elem? l i ≡ some a → get_or l i d ≡ a
  get_or_at [] i a d e = absurd (some-ne-none a (sym e))
  get_or_at (x ∷ xs) zero a d e = some-injective x a e
  get_or_at (x ∷ xs) (suc i) a d e = get_or_at xs i a d e

  -- the same for a value that is what a slice has at i
  pub at_same : (l : List X) (i : ℕ) (a b : X) → get_elem? l i ≡ some a → b ≡ get_or l i b → b ≡ a
  at_same [] i a b e f = absurd (some-ne-none a (sym e))
  at_same (x ∷ xs) zero a b e f = f ∙ some-injective x a e
  at_same (x ∷ xs) (suc i) a b e f = at_same xs i a b e f

  -- the way of a take: R comes in front of the list as it stands turned, and goes to the place p
  pub put_in : (l R : List X) (p n b : ℕ) → length R ≡ n → p + b ≡ length l → rotated b (rotated n (R ++ rotated p l)) ≡ take p l ++ (R ++ drop p l)
  put_in l R p n b en h = around_in (take p l) (drop p l) R n b en (omega (arith, length-drop p l))

module _ {S : Type 0} where
  -- the way of an exchange: what stands at p + c is changed
  pub changed : (l : List (ℕ × S)) (p c n w : ℕ) (x z : ℕ × S) → get_elem? l (p + c) ≡ some x → c ≤ n → p + (n + w) ≡ length l
      → rotated w (rotated (n - c) (z ∷ rest (rotated c (rotated p l)))) ≡ set l (p + c) z
  changed l p c n w x z e small h =
      let s = (at_split l (p + c) x e).0 in
      let t : rotated c (rotated p l) ≡ rotated (p + c) l = rotated_twice p c l (omega arith) in
      let r = to_head l (p + c) x e in
      let k : suc (length (rest (rotated (p + c) l))) ≡ length l = sym (ap length r) ∙ rotated_length (p + c) l (omega arith) in
      ap (λ (y : List (ℕ × S)). rotated w (rotated (n - c) (z ∷ rest y))) t ∙ (rotated_twice (n - c) w (z ∷ rest (rotated (p + c) l)) (omega arith) ∙ and_back l (p + c) ((n - c) + w) x z e (omega arith))

  -- the slot at p + c comes to the head, by two turns
  pub head_is : (l : List (ℕ × S)) (p c : ℕ) (x : ℕ × S) → get_elem? l (p + c) ≡ some x → p + c ≤ length l → rotated c (rotated p l) ≡ x ∷ rest (rotated c (rotated p l))
  head_is l p c x e h = let t = rotated_twice p c l h in let P : List (ℕ × S) → Type 0 = λ y. y ≡ x ∷ rest y in subst P (sym t) (to_head l (p + c) x e)

  -- another slot at the head leaves the list as long as it was
  pub same_length : (x z : ℕ × S) (l r : List (ℕ × S)) → l ≡ x ∷ r → length (z ∷ rest l) ≡ length l
  same_length x z l r e = let P : List (ℕ × S) → Type 0 = λ y. length (z ∷ rest y) ≡ length y in subst P (sym e) refl

  -- the exchanged slot leaves the list as long as it was
  pub swapped_length : (l l2 l3 : List (ℕ × S)) (m : ℕ) (x z : ℕ × S) → l2 ≡ rotated m l → l2 ≡ x ∷ rest l2 → l3 ≡ z ∷ rest l2 → m ≤ length l → length l3 ≡ length l
  swapped_length l l2 l3 m x z e f g h = ap length g ∙ (same_length x z l2 (rest l2) f ∙ (ap length e ∙ rotated_length m l h))

  -- two readings of one head
  pub same_head : (x y : ℕ × S) (l : List (ℕ × S)) → l ≡ x ∷ rest l → l ≡ y ∷ rest l → x.1 ≡ y.1
  same_head x y l e f = ap (head_or x) (sym e ∙ f)
    where
      head_or : ℕ × S → List (ℕ × S) → S
      head_or d [] = d.1
      head_or d (z ∷ zs) = z.1

  -- the same after two turns
  pub circle_length : (l l2 l3 : List (ℕ × S)) (p c : ℕ) (x z : ℕ × S) → l2 ≡ rotated c (rotated p l) → l2 ≡ x ∷ rest l2 → l3 ≡ z ∷ rest l2 → p + c ≤ length l → length l3 ≡ length l
  circle_length l l2 l3 p c x z e f g h =
      let a = rotated_length p l (omega arith) in
      ap length g ∙ (same_length x z l2 (rest l2) f ∙ (ap length e ∙ (rotated_length c (rotated p l) (omega arith) ∙ a)))

  pub spliced_length : (p k : ℕ) (ys : List S) (l : List (ℕ × S)) → length (spliced p k ys l) ≡ length ys + length l
  spliced_length p k ys l =
      let a = length-append (take p l) (row k ys ++ drop p l) in let b = length-append (row k ys) (drop p l) in let r = row_length k ys in
      let t = length-append (take p l) (drop p l) in let w = ap length (take-append-drop p l) in omega arith

  pub row_append : (k : ℕ) (xs ys : List S) → row k (xs ++ ys) ≡ row k xs ++ row (k + length xs) ys
  row_append k [] ys = ap (λ (n : ℕ). row n ys) (let e : k ≡ k + 0 = omega arith in e)
  row_append k (x ∷ xs) ys = ap (λ (l : List (ℕ × S)). (k, x) ∷ l) (row_append (suc k) xs ys ∙ ap (λ (n : ℕ). row (suc k) xs ++ row n ys) (let e : suc k + length xs ≡ k + suc (length xs) = omega arith in e))
