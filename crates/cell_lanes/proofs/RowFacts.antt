-- A row with ends. What lies in the ends follows from the row's own values, which storing the ends leaves as they are.
use Rattle.std.proofs.Common.{◌≡◌, ◌∙◌, refl, sym, ap, subst, ℕ, ◌+◌, ◌-◌, ◌<◌, ◌≤◌, ℤ, pos, negsuc, ◌-ℤ◌, List, ◌++◌, length, take, drop, int_div, length-take-le, get_or, set, get_or-set_same, get_or-set_other, Option, Some, None, IfSome, nat_lt, if◌then◌else◌, Bool, true, false, to_z, of_z, w64, arith}
use Rattle.std.proofs.lemmas.Int.{ints}
use Rattle.std.proofs.Math.Nat.{mod-lt, mod-eq_of_lt}
use Rattle.std.proofs.lemmas.List.Elements.{All-set}
use Rattle.std.specs.List.{All}
use Rattle.stencil_def.specs.declared.rule.Around.{Around}
use Rattle.stencil_def.specs.declared.rule.Around.TheVariants.{Fixed, Wrap}
use Rattle.stencil_def.specs.declared.rule.Rule.{Rule}
use Rattle.stencil_def.specs.Limits.{IsValue}
use Rattle.stencil_def.specs.Step.{place}
use Rattle.std.proofs.lemmas.Bool.{ltb-true, lt-ltb}
use Rattle.stencil_def.specs.Step.{clamped}
use Rattle.std.proofs.lemmas.Simd.{length-chunk}
use Rattle.std.proofs.lemmas.List.{get_or-append-add, get_or_append_left}
use Rattle.cell_lanes.specs.Padding.{or_edge, end_or, with_ends, new_at}
use Rattle.cell_lanes.specs.Window.{sum_at}
use Rattle.cell_lanes.proofs.LaneFacts.{back}
use Rattle.cell_lanes.proofs.WindowFacts.{below-or}

fixed-inside : (n z : ℕ) (b : Bool) → nat_lt z n ≡ b → IfSome (if b then Some z else None) (λ i. i < n)
fixed-inside n z true e = ltb-true z n e
fixed-inside n z false e = tt

-- a place that is there is one of the n
pub place-inside : (around : Around) (n : ℕ) (z : ℤ) → 0 < n → IfSome (place around n z) (λ i. i < n)
place-inside Fixed n (pos z) h = fixed-inside n z (nat_lt z n) refl
place-inside Fixed n (negsuc z) h = tt
place-inside Wrap n (pos z) h = mod-lt z h
place-inside Wrap n (negsuc z) h = omega arith

or-edge-same : (edge : ℤ) (f g : ℕ → ℤ) (n : ℕ) (o : Option ℕ) → IfSome o (λ i. i < n) → ((col : ℕ) → col < n → f col ≡ g col)
    → or_edge edge f o ≡ or_edge edge g o
or-edge-same edge f g n (Some col) h e = e col h
or-edge-same edge f g n None h e = refl

-- the ends follow from the row's own values
pub end-same : (rule : Rule) (cols x : ℕ) (f g : ℕ → ℤ) → 0 < cols → ((col : ℕ) → col < cols → f col ≡ g col)
    → end_or rule cols f x ≡ end_or rule cols g x
end-same rule cols x f g h e =
    or-edge-same rule.edge f g cols (place rule.around cols (pos x -ℤ pos rule.weights.reach)) (place-inside rule.around cols (pos x -ℤ pos rule.weights.reach) h) e

own-place : (around : Around) (cols col : ℕ) (edge : ℤ) (f : ℕ → ℤ) → col < cols → or_edge edge f (place around cols (pos col)) ≡ f col
own-place Fixed cols col edge f h = let t : nat_lt col cols ≡ true = lt-ltb col cols h in ap (λ b. or_edge edge f (if b then Some col else None)) t
own-place Wrap cols col edge f h = ap f (mod-eq_of_lt h)

-- a column of the row's own stands behind the reach
pub end-inside : (rule : Rule) (cols col : ℕ) (f : ℕ → ℤ) → col < cols → end_or rule cols f (rule.weights.reach + col) ≡ f col
end-inside rule cols col f h =
    let h' : pos (rule.weights.reach + col) -ℤ pos rule.weights.reach ≡ pos col = omega (arith, ints) in
    ap (λ z. or_edge rule.edge f (place rule.around cols z)) h' ∙ own-place rule.around cols col rule.edge f h

-- the places of a row from `from` up to n have what lies there, and the others are as they were
pub record EndsSet (rule : Rule) (cols from n : ℕ) (old row : List ℤ) : Type 0 where
  pub done : (k : ℕ) → from ≤ k → k < n → get_or row k (pos 0) ≡ end_or rule cols (λ col. get_or old (rule.weights.reach + col) (pos 0)) k
  pub below : (k : ℕ) → k < from → get_or row k (pos 0) ≡ get_or old k (pos 0)
  pub above : (k : ℕ) → n ≤ k → get_or row k (pos 0) ≡ get_or old k (pos 0)
  -- each value is in range
  pub values : All IsValue row

-- place n, of places among which no own one is, is set to what lies there: so those from `from` up to n + 1 have it
pub ends-next : (rule : Rule) (cols from to n : ℕ) (old row : List ℤ) (v : ℤ) → EndsSet rule cols from n old row
    → from ≤ n → n < to → n < length row → 0 < cols
    → ((x : ℕ) → x < cols → from ≤ rule.weights.reach + x → rule.weights.reach + x < to → ⊥)
    → v ≡ end_or rule cols (λ col. get_or row (rule.weights.reach + col) (pos 0)) n → IsValue v
    → EndsSet rule cols from (n + 1) old (set row n (to_z w64 (of_z w64 v)))
ends-next rule cols from to n old row v s order less room some outside e small =
    let new = to_z w64 (of_z w64 v) in
    let is : new ≡ v = back v (omega arith) in
    let own : (col : ℕ) → col < cols → get_or row (rule.weights.reach + col) (pos 0) ≡ get_or old (rule.weights.reach + col) (pos 0) =
    λ col h. below-or (rule.weights.reach + col) from (s.below (rule.weights.reach + col))
    (λ g. below-or (rule.weights.reach + col) to (λ t. absurd (outside col h g t)) (λ t. s.above (rule.weights.reach + col) (omega arith))) in
    let value : new ≡ end_or rule cols (λ col. get_or old (rule.weights.reach + col) (pos 0)) n =
    is ∙ (e ∙ end-same rule cols n (λ col. get_or row (rule.weights.reach + col) (pos 0)) (λ col. get_or old (rule.weights.reach + col) (pos 0)) some own) in
    record {
      done = λ k h g. below-or k n
          (λ l. get_or-set_other row n k new (pos 0) (omega arith) ∙ s.done k h l)
          (λ l. let same : n ≡ k = omega arith in
          subst (λ m. get_or (set row n new) m (pos 0) ≡ end_or rule cols (λ col. get_or old (rule.weights.reach + col) (pos 0)) m) same (get_or-set_same row n new (pos 0) room ∙ value));
      below = λ k h. get_or-set_other row n k new (pos 0) (omega arith) ∙ s.below k h;
      above = λ k h. get_or-set_other row n k new (pos 0) (omega arith) ∙ s.above k (omega arith);
      values = All-set IsValue row n new (subst IsValue (sym is) small) s.values;
    }

-- values in the middle, then the ends before them, then the ends behind them
pub row-cells : (rule : Rule) (cols r : ℕ) (f : ℕ → ℤ) (a b c : List ℤ) → 0 < cols → r ≡ rule.weights.reach
    → ((col : ℕ) → col < cols → get_or a (r + col) (pos 0) ≡ f col)
    → ((x : ℕ) → 0 ≤ x → x < r → get_or b x (pos 0) ≡ end_or rule cols (λ col. get_or a (rule.weights.reach + col) (pos 0)) x)
    → ((x : ℕ) → r ≤ x → get_or b x (pos 0) ≡ get_or a x (pos 0))
    → ((x : ℕ) → r + cols ≤ x → x < r + cols + r → get_or c x (pos 0) ≡ end_or rule cols (λ col. get_or b (rule.weights.reach + col) (pos 0)) x)
    → ((x : ℕ) → x < r + cols → get_or c x (pos 0) ≡ get_or b x (pos 0))
    → (x : ℕ) → x < with_ends rule cols → get_or c x (pos 0) ≡ end_or rule cols f x
row-cells rule cols r f a b c some e middle first kept last stays x less =
    let h = rule.weights.reach in
    let from-a : (col : ℕ) → col < cols → get_or a (h + col) (pos 0) ≡ f col = λ col l. subst (λ m. get_or a (m + col) (pos 0) ≡ f col) e (middle col l) in
    let from-b : (col : ℕ) → col < cols → get_or b (h + col) (pos 0) ≡ f col = λ col l. kept (h + col) (omega arith) ∙ from-a col l in
    below-or x r
    (λ l. stays x (omega arith) ∙ (first x (omega arith) l ∙ end-same rule cols x (λ col. get_or a (h + col) (pos 0)) f some from-a))
    (λ g. below-or x (r + cols)
    (λ l. let place : h + (x - h) ≡ x = omega arith in
    stays x l ∙ (kept x g ∙ (ap (λ k. get_or a k (pos 0)) (sym place) ∙ (from-a (x - h) (omega arith) ∙ (sym (end-inside rule cols (x - h) f (omega arith)) ∙ ap (end_or rule cols f) place)))))
    (λ t. last x t (omega arith) ∙ end-same rule cols x (λ col. get_or b (h + col) (pos 0)) f some from-b))

-- a part of a row, and what is put in its place
pub part-length : (row : List ℤ) (r n : ℕ) → r + n ≤ length row → length (take (r + n - r) (drop r row)) ≡ n
part-length row r n h = let same : r + n - r ≡ n = omega arith in rw same (length-chunk r n row h)

-- the values that are put behind the first r of a row stand from place r on
pub part-at : (row new rest : List ℤ) (r col : ℕ) → r ≤ length row → col < length new → get_or (take r row ++ (new ++ rest)) (r + col) (pos 0) ≡ get_or new col (pos 0)
part-at row new rest r col h less =
    let long : length (take r row) ≡ r = length-take-le r row h in
    ap (λ n. get_or (take r row ++ (new ++ rest)) (n + col) (pos 0)) (sym long)
    ∙ (get_or-append-add (take r row) (new ++ rest) col (pos 0) ∙ get_or_append_left new rest (pos 0) col less)

-- the new values of a row, in its width
pub new-values : (rule : Rule) (window : List ℤ) (cols r : ℕ) (d : ℤ) (new : List ℤ) → r ≡ rule.weights.reach → d ≡ rule.div
    → ((x : ℕ) → x < cols → get_or new x (pos 0) ≡ clamped (int_div (sum_at rule.weights window (r + cols + r) x) d))
    → (col : ℕ) → col < cols → get_or new col (pos 0) ≡ new_at rule window (with_ends rule cols) col
new-values rule window cols r d new e f each col less =
    let wide : r + cols + r ≡ with_ends rule cols = omega arith in
    each col less
    ∙ (ap (λ n. clamped (int_div (sum_at rule.weights window n col) d)) wide ∙ ap (λ z. clamped (int_div (sum_at rule.weights window (with_ends rule cols) col) z)) f)
