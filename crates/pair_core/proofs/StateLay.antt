-- A piece that a claim is laid into: what is left of the claim by a test of its other pieces, and what goes out by the
-- word.
use Rattle.std.proofs.Common.{◌≡◌, ◌≢◌, ◌∙◌, inl, inr, ℕ, zero, suc, length, ◌++◌, ◌-◌, ◌%◌, ◌^◌, ◌<◌, Bool, true, false, true≢false, ◌==◌, ◌&&◌, ◌||◌, List, [], ◌∷◌, Option, Some, None, bit_or, refl, sym, ap, subst, arith}
use Rattle.std.specs.Prelude.{not, IfSome, IfNone}
use Rattle.std.proofs.lemmas.Bool.{cases_Bool}
use Rattle.std.specs.List.{list_any}
use Rattle.part_geometry.specs.Shape.{Shape, IsShape}
use Rattle.part_geometry.specs.Cells.{send_of}
use Rattle.part_geometry.specs.Pieces.{pieces, piece_of, first_part, Touches}
use Rattle.pair_core.specs.Names.{Piece, put}
use Rattle.pair_core.specs.Core.{Core, Home, has}
use Rattle.pair_core.specs.Steps.{left_of, wrote, put_slots, lays_piece}
use Rattle.pair_core.specs.Reading.{IsFull, is_full}
use Rattle.pair_core.specs.History.{where_so, laid_entries, Out, Lay}
use Rattle.pair_core.specs.Events.{out_in, take_in}
use Rattle.pair_core.specs.declared.seat.Seat.{Seat}
use Rattle.pair_core.proofs.Full.{full_passes, passes_full}
use Rattle.pair_core.specs.State.{Plain, IsAt}
use Rattle.pair_core.specs.declared.view.Pending.{Pending}
use Rattle.pair_core.proofs.LayLists.{has_here, has_else, goes_on, on_from}

-- a list has a number where one of its own is that
pub has_any : (i : ℕ) (xs : List ℕ) → list_any (λ y. y == i) xs ≡ has xs i
has_any i [] = refl
has_any i (x ∷ xs) = ap (λ (b : Bool). (x == i) || b) (has_any i xs)

-- where the opposite is so, it isn't
pub not_yes : (b : Bool) → not b ≡ true → b ≡ false
not_yes true e = sym e
not_yes false e = refl

-- where each other piece that a claim touches has it, none is left
pub none_left : (g : Shape) → IsShape g → (i : ℕ) (x : Pending) → ((j : ℕ) → j < pieces g → j ≢ i → Touches g j x.partition → has x.laid j ≢ false) → left_of g i x ≡ None
none_left g v i x none = go (left_of g i x) refl
  where
    go : (o : Option Pending) → left_of g i x ≡ o → left_of g i x ≡ None
    go None e = e
    go (Some y) e =
        let h = (on_from g v i x y e).some in
        let other : h.0 ≢ i = (λ same. true≢false (sym (ap (has (i ∷ x.laid)) same ∙ has_here i x.laid) ∙ h.3)) in
        absurd (none h.0 h.1 other h.2 (sym (has_else i h.0 x.laid other) ∙ h.3))

-- and where one doesn't, the claim goes on
pub one_left : (g : Shape) → IsShape g → (i : ℕ) (x : Pending) (j : ℕ) → j < pieces g → j ≢ i → Touches g j x.partition → has x.laid j ≡ false
    → left_of g i x ≡ Some (record x { laid = i ∷ x.laid })
one_left g v i x j inside other t lacks = goes_on g v i x j inside t (has_else i j x.laid other ∙ lacks)

-- the piece's word after a lay
lay_word : (g : Shape) (s : Core Plain) (i k p w : ℕ) (x : Pending) → k ≡ x.round → x.partition ≡ p → w ≡ bit_or (s.word (Piece (k % g.depth) i)) (2 ^ (p - first_part g i))
    → w ≡ bit_or (s.word (Piece (x.round % g.depth) i)) (2 ^ (x.partition - first_part g i))
lay_word g s i k p w x round own is =
    is ∙ (ap (λ (z : ℕ). bit_or (s.word (Piece (z % g.depth) i)) (2 ^ (p - first_part g i))) round ∙ ap (λ (z : ℕ). bit_or (s.word (Piece (x.round % g.depth) i)) (2 ^ (z - first_part g i))) (sym own))

-- what is kept after a lay is what the lay makes of the core
pub lays_shown : (g : Shape) (Shown : Core Plain → Type 0) (s : Core Plain) (n i p k place v w : ℕ) (x : Pending) (o : Option Pending) → x.partition ≡ p → k ≡ x.round → place ≡ k % g.depth
    → v ≡ s.word (Piece (x.round % g.depth) i) → w ≡ bit_or v (2 ^ (p - first_part g i)) → left_of g i x ≡ o
    → Shown (wrote n (Piece place i) w (record s {
      slot = put_slots s.slot place (λ c. (send_of g c == p) && (piece_of g c == i)) (Home k);
      pending = put s.pending n o;
    })) → Shown (lays_piece g n i x s)
lays_shown g Shown s n i p k place v w x o own round there was is left shown =
    let d : ℕ = x.round % g.depth in
    let at : place ≡ d = there ∙ ap (λ (z : ℕ). z % g.depth) round in
    let word : w ≡ bit_or (s.word (Piece d i)) (2 ^ (x.partition - first_part g i)) = is ∙ (ap (λ (z : ℕ). bit_or z (2 ^ (p - first_part g i))) was ∙ ap (λ (z : ℕ). bit_or (s.word (Piece d i)) (2 ^ (z - first_part g i))) (sym own)) in
    subst (λ (z : ℕ). Shown (wrote n (Piece d i) (bit_or (s.word (Piece d i)) (2 ^ (x.partition - first_part g i))) (record s {
      slot = put_slots s.slot d (λ c. (send_of g c == z) && (piece_of g c == i)) (Home x.round);
      pending = put s.pending n (left_of g i x);
    }))) (sym own)
    (subst (λ (z : ℕ). Shown (wrote n (Piece d i) z (record s {
      slot = put_slots s.slot d (λ c. (send_of g c == p) && (piece_of g c == i)) (Home x.round);
      pending = put s.pending n (left_of g i x);
    }))) word
    (subst (λ (z : ℕ). Shown (wrote n (Piece z i) w (record s {
      slot = put_slots s.slot z (λ c. (send_of g c == p) && (piece_of g c == i)) (Home x.round);
      pending = put s.pending n (left_of g i x);
    }))) at
    (subst (λ (z : ℕ). Shown (wrote n (Piece place i) w (record s {
      slot = put_slots s.slot place (λ c. (send_of g c == p) && (piece_of g c == i)) (Home z);
      pending = put s.pending n (left_of g i x);
    }))) round
    (subst (λ (z : Option Pending). Shown (wrote n (Piece place i) w (record s {
      slot = put_slots s.slot place (λ c. (send_of g c == p) && (piece_of g c == i)) (Home k);
      pending = put s.pending n z;
    }))) (sym left) shown))))

-- what goes out by a lay, and that nothing is taken by it
pub lay_out : (g : Shape) → IsShape g → (s : Core Plain) (i k p w : ℕ) (x : Pending) (o : Option Pending) → o ≡ Some x → i < pieces g → k ≡ x.round → x.partition ≡ p
    → w ≡ bit_or (s.word (Piece (k % g.depth) i)) (2 ^ (p - first_part g i)) → IsFull g w k i → Some (k, i) ≡ out_in (laid_entries g i o s)
lay_out g v s i k p w x o pend inside round own is full =
    let W : ℕ = bit_or (s.word (Piece (x.round % g.depth) i)) (2 ^ (x.partition - first_part g i)) in
    let same : w ≡ W = lay_word g s i k p w x round own is in
    let yes : is_full g W x.round i ≡ true = full_passes g v W x.round i inside (subst (λ (z : ℕ). IsFull g z x.round i) same (subst (λ (z : ℕ). IsFull g w z i) round full)) in
    subst (λ (o : Option Pending). Some (k, i) ≡ out_in (laid_entries g i o s)) (sym pend)
    (subst (λ (b : Bool). Some (k, i) ≡ out_in (where_so b (Out x.round i) ++ Lay x.round x.partition i ∷ [])) (sym yes) (ap (λ (z : ℕ). Some (z, i)) round))

-- nothing goes out where the word isn't full then
pub lay_still : (g : Shape) → IsShape g → (s : Core Plain) (i k p w : ℕ) (x : Pending) (o : Option Pending) → o ≡ Some x → i < pieces g → k ≡ x.round → x.partition ≡ p
    → w ≡ bit_or (s.word (Piece (k % g.depth) i)) (2 ^ (p - first_part g i)) → ¬ IsFull g w k i → None ≡ out_in (laid_entries g i o s)
lay_still g v s i k p w x o pend inside round own is lacks =
    let W : ℕ = bit_or (s.word (Piece (x.round % g.depth) i)) (2 ^ (x.partition - first_part g i)) in
    let same : w ≡ W = lay_word g s i k p w x round own is in
    let no : is_full g W x.round i ≡ false = (elim (cases_Bool (is_full g W x.round i)) [
      | inl passes ↦ absurd (lacks (subst (λ (z : ℕ). IsFull g w z i) (sym round) (subst (λ (z : ℕ). IsFull g z x.round i) (sym same) (passes_full g v W x.round i inside passes))))
      | inr fails ↦ fails
    ]) in
    subst (λ (o : Option Pending). None ≡ out_in (laid_entries g i o s)) (sym pend)
    (subst (λ (b : Bool). None ≡ out_in (where_so b (Out x.round i) ++ Lay x.round x.partition i ∷ [])) (sym no) refl)

-- and nothing is taken by it
pub lay_takes : (g : Shape) (s : Core Plain) (i : ℕ) (o : Option Pending) → None ≡ take_in (laid_entries g i o s)
lay_takes g s i None = refl
lay_takes g s i (Some x) = go (is_full g (bit_or (s.word (Piece (x.round % g.depth) i)) (2 ^ (x.partition - first_part g i))) x.round i)
  where
    go : (b : Bool) → None ≡ take_in (where_so b (Out x.round i) ++ Lay x.round x.partition i ∷ [])
    go true = refl
    go false = refl

-- a place of the list has a seat
pub low_at : (seats : List Seat) (at : ℕ) → at < length seats → (n : ℕ) × IsAt seats at n
low_at [] at low = absurd (omega arith)
low_at (v ∷ vs) zero low = (v.seat, (v, refl, refl))
low_at (v ∷ vs) (suc at) low = let r = low_at vs at (omega arith) in (r.0, (r.1.0, r.1.1, r.1.2))

-- an option has one claim at most
pub some_one : (o : Option Pending) (x y : Pending) → o ≡ Some x → o ≡ Some y → x ≡ y
some_one o x y a b = let e : Some x ≡ Some y = sym a ∙ b in cc

-- where one thing follows of another for each value, it does for what an option has
pub some_map : {A : Type 0} (o : Option A) (P Q : A → Type 0) → ((x : A) → P x → Q x) → IfSome o P → IfSome o Q
some_map {A} (Some x) P Q f p = f x p
some_map {A} None P Q f p = p

-- and for an option that has nothing
pub none_map : {A : Type 0} (o : Option A) (P Q : Type 0) → (P → Q) → IfNone o P → IfNone o Q
none_map {A} (Some x) P Q f p = p
none_map {A} None P Q f p = f p
