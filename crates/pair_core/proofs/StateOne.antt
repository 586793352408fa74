-- An event is one move at most that is allowed: its kind says which sort of move it is, and its seat, its word, its
-- round and its partition say the rest.
use Rattle.std.proofs.Common.{◌≡◌, ◌∙◌, ℕ, zero, suc, ◌+◌, ◌*◌, ◌%◌, List, [], ◌∷◌, ◌++◌, Some, refl, sym, ap, subst, arith}
use Rattle.part_geometry.specs.Shape.{Shape}
use Rattle.part_geometry.specs.Pieces.{pieces}
use Rattle.pair_core.specs.Names.{Piece, number}
use Rattle.pair_core.specs.Core.{Core}
use Rattle.pair_core.specs.Moves.{Move, StorePiece, StoreClaim, LoadClaim, LoadPiece, LoadRelease, ShutClaim, TryClaim, LayPiece, StoreReturn, StoreTake, TakePart, ReturnPart, StoreRelease, Split, Rise, Join, IsAllowed, after}
use Rattle.pair_core.specs.History.{Entry, entries}
use Rattle.pair_core.specs.State.{Plain}
use Rattle.pair_core.specs.Events.{Reads}
use Rattle.pair_core.specs.Replaying.{IsOneMove, LeadToOne}
use Rattle.pair_core.specs.declared.view.Pending.{Pending}
use Rattle.pair_core.specs.declared.event.Event.{Event}
use Rattle.pair_core.proofs.StateNumbers.{row_one, cell_one}
use Rattle.pair_core.proofs.StateLay.{some_one}
use Rattle.pair_core.proofs.StateReads.{reads_1, reads_2, reads_3, reads_4, reads_5, reads_6, reads_7, reads_8, reads_9, reads_10, reads_11, reads_12, reads_13}

both : {A B C : Type 0} (f : A → B → C) (a b : A) (x y : B) → a ≡ b → x ≡ y → f a x ≡ f b y
both {A} {B} {C} f a b x y p q = ap (λ (z : A). f z x) p ∙ ap (f b) q

-- pieces at one place with one number
piece_one : (g : Shape) (d e i j w : ℕ) → d ≡ e → w ≡ number g (Piece d i) → w ≡ number g (Piece e j) → i ≡ j
piece_one g d e i j w same a b = let there : w ≡ number g (Piece d j) = subst (λ (z : ℕ). w ≡ number g (Piece z j)) (sym same) b in omega arith

-- two moves that an event is, both allowed, are the same
pub one_move : (g : Shape) → IsOneMove g
one_move g s e (StorePiece k i) n r a q b = reads_1 g s e (λ n. StorePiece k i ≡ n) r.0.kind_is
    (λ l j p. let same = sym r.1 ∙ p.1 in both StorePiece k l i j same (piece_one g (k % g.depth) (l % g.depth) i j e.word (ap (λ (z : ℕ). z % g.depth) same) r.0.on p.0.on)) n q
one_move g s e (StoreClaim k c) n r a q b = reads_2 g s e (λ n. StoreClaim k c ≡ n) r.0.kind_is (λ l d p. both StoreClaim k l c d (sym r.1 ∙ p.1) (sym r.0.on ∙ p.0.on)) n q
one_move g s e (LoadClaim v c) n r a q b = reads_3 g s e (λ n. LoadClaim v c ≡ n) r.kind_is (λ w d p. both LoadClaim v w c d (sym r.by ∙ p.by) (sym r.on ∙ p.on)) n q
one_move g s e (LoadPiece v d i) n r a q b = reads_4 g s e (λ n. IsAllowed g s n → LoadPiece v d i ≡ n) r.kind_is
    (λ w f j p c.
    let on = r.on in let at = p.on in let rows : d * pieces g + i ≡ f * pieces g + j = omega arith in
    let place = row_one d i f j (pieces g) a.2 c.2 rows in let piece = cell_one d i f j (pieces g) a.2 c.2 rows in
    ap (λ (z : ℕ). LoadPiece z d i) (sym r.by ∙ p.by) ∙ both (LoadPiece w) d f i j place piece) n q b
one_move g s e LoadRelease n r a q b = reads_5 g s e (λ n. LoadRelease ≡ n) r.kind_is (λ p. refl) n q
one_move g s e (ShutClaim c) n r a q b = reads_6 g s e (λ n. ShutClaim c ≡ n) r.kind_is (λ d p. ap ShutClaim (sym r.on ∙ p.on)) n q
one_move g s e (TryClaim v p x) n r a q b = reads_7 g s e (λ n. TryClaim v p x ≡ n) r.0.kind_is
    (λ w o y t. both (λ (z u : ℕ). TryClaim z u x) v w p o (sym r.0.by ∙ t.0.by) (sym r.1 ∙ t.1)) n q
one_move g s e (LayPiece v p i) n r a q b = reads_8 g s e (λ n. LayPiece v p i ≡ n) r.2.kind_is
    (λ w o j t.
    let seat : v ≡ w = sym r.2.by ∙ t.2.by in
    let same = some_one (s.pending v) r.0 t.0 r.1 (ap s.pending seat ∙ t.1) in
    let piece = piece_one g (r.0.round % g.depth) (t.0.round % g.depth) i j e.word (ap (λ (z : Pending). z.round % g.depth) same) r.2.on t.2.on in
    ap (λ (z : ℕ). LayPiece z p i) seat ∙ both (LayPiece w) p o i j (sym r.3 ∙ t.3) piece) n q
one_move g s e (StoreReturn k t) n r a q b = reads_9 g s e (λ n. StoreReturn k t ≡ n) r.0.kind_is
    (λ l u p. both StoreReturn k l t u (sym r.1 ∙ p.1) (let on = r.0.on in let at = p.0.on in omega arith)) n q
one_move g s e (StoreTake k t) n r a q b = reads_10 g s e (λ n. StoreTake k t ≡ n) r.0.kind_is
    (λ l u p. both StoreTake k l t u (sym r.1 ∙ p.1) (let on = r.0.on in let at = p.0.on in omega arith)) n q
one_move g s e (TakePart p x) n r a q b = reads_11 g s e (λ n. TakePart p x ≡ n) r.0.kind_is (λ o y t. ap (λ (z : ℕ). TakePart z x) (sym r.1 ∙ t.1)) n q
one_move g s e (ReturnPart p) n r a q b = reads_12 g s e (λ n. ReturnPart p ≡ n) r.0.kind_is (λ o t. ap ReturnPart (sym r.1 ∙ t.1)) n q
one_move g s e (StoreRelease k) n r a q b = reads_13 g s e (λ n. StoreRelease k ≡ n) r.0.kind_is (λ l p. ap StoreRelease (sym r.1 ∙ p.1)) n q
one_move g s e (Split v) n r a q b = absurd r
one_move g s e (Rise v w more) n r a q b = absurd r
one_move g s e (Join v) n r a q b = absurd r

-- and so some events lead to one core
pub lead_to_one : (g : Shape) → LeadToOne g
lead_to_one g events zero [] [] s t h k p q = (refl, p.0 ∙ sym q.0, p.1 ∙ sym q.1)
lead_to_one g events zero [] (n ∷ ns) s t h k p q = absurd q
lead_to_one g events zero (m ∷ ms) ns s t h k p q = absurd p
lead_to_one g events (suc l) [] ns s t h k p q = absurd p
lead_to_one g events (suc l) (m ∷ ms) [] s t h k p q = absurd q
lead_to_one g events (suc l) (m ∷ ms) (n ∷ ns) s t h k p q =
    let e : p.0 ≡ q.0 = (let z : Some p.0 ≡ Some q.0 = sym p.3 ∙ q.3 in cc) in
    let old = lead_to_one g events l ms ns p.1 q.1 p.2 q.2 p.4 q.4 in
    let reads : Reads g p.1 p.0 n = subst (λ (z : Core Plain). Reads g z p.0 n) (sym old.1) (subst (λ (z : Event). Reads g q.1 z n) (sym e) q.5) in
    let allowed : IsAllowed g p.1 n = subst (λ (z : Core Plain). IsAllowed g z n) (sym old.1) q.6 in
    let same : m ≡ n = one_move g p.1 p.0 m n p.5 p.6 reads allowed in (
      both (λ (z : Move Plain) (zs : List (Move Plain)). z ∷ zs) m n ms ns same old.0,
      p.7 ∙ (both (after g) p.1 q.1 m n old.1 same ∙ sym q.7),
      p.8 ∙ (both (λ (a b : List Entry). a ++ b) (entries g p.1 m) (entries g q.1 n) p.2 q.2 (both (entries g) p.1 q.1 m n old.1 same) old.2 ∙ sym q.8),
    )
