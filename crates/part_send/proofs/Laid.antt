-- A claim laid into the pieces over its partition, one after another: which pieces have it, and which of its buffers are still out.
use Rattle.std.proofs.Common.{◌≡◌, ◌≢◌, ℕ, ◌+◌, ◌-◌, ◌%◌, ◌<◌, ◌≤◌, Bool, true, false, true≢false, nat_le, nat_lt, List, [], ◌∷◌, length, map, take, drop, Contains, Option, Some, None, refl, sym, ap, ◌∙◌, subst, arith, inl, inr}
use Rattle.std.specs.Prelude.{count_by, if◌then◌else◌}
use Rattle.std.specs.List.{range_with_len}
use Rattle.std.proofs.lemmas.Bool.{cases_eq, cases_Bool, and_parts, and_from, leb-true, le-leb, ltb-true, lt-ltb}
use Rattle.part_geometry.specs.Shape.{Shape, IsShape}
use Rattle.part_geometry.specs.Pieces.{pieces, piece_of, first_part, need_count, Touches}
use Rattle.part_tables.specs.Parts.{first_sent, first_shared, after_shared}
use Rattle.part_tables.specs.Bytes.{cut}
use Rattle.part_tables.proofs.Facts.{touched, touched-some, shared-some, first_shared-first, after_shared-next, after_shared-last, first_sent-mono}
use Rattle.pair_core.specs.Core.{has}
use Rattle.pair_core.specs.Reading.{touches, pieces_over, is_full}
use Rattle.pair_core.specs.Names.{Name, Claim, Piece, Fits, claim_words}
use Rattle.pair_core.specs.Steps.{mark, left_of}
use Rattle.pair_core.specs.declared.view.Pending.{Pending}
use Rattle.pair_core.proofs.Cut.{touch_range, range_touch}
use Rattle.pair_core.proofs.LayLists.{has_here, has_else, goes_on, on_from}
use Rattle.pair_rule.specs.Buf.{Buf}
use Rattle.pair_rule.specs.Rule.{slot_number}
use Rattle.pair_rule.specs.Steps.{AreCuts}
use Rattle.pair_rule.specs.Seats.{MarkHeld}
use Rattle.pair_rule.specs.Marking.{IsFilled, shared_count, shared_slot, with_part, laid_at}
use Rattle.pair_rule.specs.Views.{seen, looks, saw}
use Rattle.pair_rule.specs.declared.view.View.{View}
use Rattle.part_send.specs.Ends.{IsWide}
use Rattle.part_send.specs.Marking.{AreFilled, HasLaid, full_over}
use Rattle.part_send.proofs.Ranges.{middle_kept, same_count, count_more}
use Rattle.part_send.proofs.Views.{seen_here, seen_else, looks_else, wide_saw}
use Rattle.part_send.proofs.Slots.{map_halves, drop_map, every_take, every_drop, take_size, drop_size}

-- the test of a piece and a partition that touch
touch_yes : (g : Shape) → IsShape g → (p i : ℕ) → i < pieces g → Touches g i p → touches g p i ≡ true
touch_yes g v p i inside t =
    let r = touch_range g v i p inside t in
    and_from (nat_le (first_part g i) p) (nat_lt p (first_part g i + need_count g i)) (le-leb (first_part g i) p r.low) (lt-ltb p (first_part g i + need_count g i) r.high)

touch_no : (g : Shape) → IsShape g → (p i : ℕ) → i < pieces g → ¬ Touches g i p → touches g p i ≡ false
touch_no g v p i inside apart = elim (cases_Bool (touches g p i)) [
  | inl on ↦
      let both = and_parts (nat_le (first_part g i) p) (nat_lt p (first_part g i + need_count g i)) on in
      absurd (apart (range_touch g v i p inside (leb-true (first_part g i) p both.0) (ltb-true p (first_part g i + need_count g i) both.1)))
  | inr off ↦ off
]

-- the pieces over partition p are those from `low` to `high`
pub record AreOver (g : Shape) (p low high : ℕ) : Type 0 where
  -- the geometry keeps its limits
  pub shape : IsShape g
  -- p is a partition of the pair
  pub part : p < g.send_parts
  -- `low` is the piece of p's first cell
  pub low_is : low ≡ piece_of g (first_sent g p)
  -- `high` is that of its last cell
  pub high_is : high ≡ piece_of g (first_sent g (p + 1) - 1)
  -- so it isn't before `low`
  pub order : low ≤ high
  -- and is a piece of the pair
  pub inside : high < pieces g

-- the pieces of the first and the last cell are such
pub are_over : (g : Shape) → IsShape g → (p low high : ℕ) → p < g.send_parts → low ≡ piece_of g (first_sent g p) → high ≡ piece_of g (first_sent g (p + 1) - 1) → AreOver g p low high
are_over g v p low high part l h =
    let some = touched-some g v p part in let order = some.0 in let most = some.1 in
    record { shape = v; part = part; low_is = l; high_is = h; order = omega arith; inside = omega arith }

module _ (g : Shape) (p low high : ℕ) (o : AreOver g p low high) where
  -- each of them touches p
  pub touch_in : (i : ℕ) → low ≤ i → i ≤ high → Touches g i p
  touch_in i a b =
      let l = o.low_is in let h = o.high_is in let most = o.inside in
      (touched g o.shape p i o.part (omega arith)).1 (omega arith, omega arith)

  -- and what touches p is one of them
  pub in_touch : (i : ℕ) → i < pieces g → Touches g i p → (low ≤ i) × (i ≤ high)
  in_touch i inside t =
      let l = o.low_is in let h = o.high_is in let r = (touched g o.shape p i o.part inside).0 t in let a = r.0 in let b = r.1 in (omega arith, omega arith)

  -- so they are the list of the pieces over p
  pub over_is : pieces_over g p ≡ range_with_len low (high + 1 - low)
  over_is =
      let most = o.inside in let order = o.order in
      middle_kept (touches g p) (pieces g) low (high + 1 - low) (omega arith)
      (λ i less. touch_no g o.shape p i (omega arith) (λ t. let r = in_touch i (omega arith) t in let a = r.0 in omega arith))
      (λ i a b. touch_yes g o.shape p i (omega arith) (touch_in i a (omega arith)))
      (λ i a b. touch_no g o.shape p i b (λ t. let r = in_touch i b t in let c = r.1 in omega arith))

-- the claim of partition p in round k pends until all of its pieces have it: those before piece i do
pub record Pends (k p low high i : ℕ) (pending : Option Pending) : Type 0 where
  -- up to the last piece it pends, with those before piece i laid and none from i on
  pub goes : i ≤ high → (x : Pending) × (pending ≡ Some x) × (x.round ≡ k) × (x.partition ≡ p)
      × ((j : ℕ) → low ≤ j → j < i → has x.laid j ≡ true) × ((j : ℕ) → i ≤ j → has x.laid j ≡ false)
  -- behind the last piece nothing pends
  pub done : high < i → pending ≡ None

-- a claim with nothing laid so far pends at the first piece
pub first_pends : (g : Shape) (k p low high : ℕ) → AreOver g p low high → Pends k p low high low (Some record { round = k; partition = p; laid = [] })
first_pends g k p low high o = record {
  goes = λ _. (record { round = k; partition = p; laid = [] }, refl, refl, refl, (λ j a b. absurd (omega arith)), (λ j a. refl));
  done = λ past. absurd (let order = o.order in omega arith);
}

-- what is left of it when piece i is laid pends at the next
pub next_pends : (g : Shape) (k p low high i : ℕ) (x : Pending) → AreOver g p low high → low ≤ i → i ≤ high → x.round ≡ k → x.partition ≡ p
    → ((j : ℕ) → low ≤ j → j < i → has x.laid j ≡ true) → ((j : ℕ) → i ≤ j → has x.laid j ≡ false) → Pends k p low high (i + 1) (left_of g i x)
next_pends g k p low high i x o a b round part before behind = record {
  goes = λ more.
      let t : Touches g (i + 1) x.partition = subst (Touches g (i + 1)) (sym part) (touch_in g p low high o (i + 1) (omega arith) more) in
      let missing : has (i ∷ x.laid) (i + 1) ≡ false = has_else i (i + 1) x.laid (omega arith) ∙ behind (i + 1) (omega arith) in
      let inside : i + 1 < pieces g = (let most = o.inside in omega arith) in (
        record x { laid = i ∷ x.laid },
        goes_on g o.shape i x (i + 1) inside t missing,
        round,
        part,
        (λ j low' less. elim (cases_eq j i) [
          | inl e ↦ ap (has (i ∷ x.laid)) e ∙ has_here i x.laid
          | inr other ↦ has_else i j x.laid other ∙ before j low' (omega arith)
        ]),
        (λ j past. has_else i j x.laid (omega arith) ∙ behind j (omega arith)),
      );
  done = λ past. last (left_of g i x) refl past;
}
  where
    last : (r : Option Pending) → left_of g i x ≡ r → high < i + 1 → left_of g i x ≡ None
    last None e past = e
    last (Some y) e past =
        let h = (on_from g o.shape i x y e).some in
        let r = in_touch g p low high o h.0 h.1 (subst (Touches g h.0) part h.2) in let up = r.1 in let down = r.0 in
        let there : has (i ∷ x.laid) h.0 ≡ true = elim (cases_eq h.0 i) [
          | inl e ↦ ap (has (i ∷ x.laid)) e ∙ has_here i x.laid
          | inr other ↦ has_else i h.0 x.laid other ∙ before h.0 down (omega arith)
        ] in
        absurd (true≢false (sym there ∙ h.3))

-- the filled buffers that are still out before piece i are those from `cell` on
pub record AreLeft (g : Shape) (k p high i : ℕ) (b : List ℕ) (first : ℕ) (out : List (Option Buf)) : Type 0 where
  -- the first cell of which a buffer is out
  pub cell : ℕ
  -- it is the first that p and piece i share
  pub here : i ≤ high → cell ≡ first_shared g p i
  -- behind the last piece, it is the one behind p's cells
  pub past : high < i → cell ≡ first_sent g (p + 1)
  -- the buffers
  pub bufs : List Buf
  -- each slot that is out has one
  pub is : out ≡ map Some bufs
  -- the first of these slots is that cell's
  pub starts : first ≡ slot_number g (k % g.depth) cell
  -- there is one for each of p's cells from that one on
  pub count : cell + length bufs ≡ first_sent g (p + 1)
  -- and each is filled with its part of the bytes
  pub cuts : AreCuts g k b cell bufs

-- before the first piece all of p's buffers are
pub first_left : (s : MarkHeld) (k p low high : ℕ) (b : List ℕ) → AreOver s.view.geometry p low high → AreFilled k p b s → AreLeft s.view.geometry k p high low b s.first s.out
first_left s k p low high b o f = record {
  cell = first_sent s.view.geometry p;
  here = λ _. sym (ap (first_shared s.view.geometry p) o.low_is ∙ first_shared-first s.view.geometry o.shape p o.part);
  past = λ past. absurd (let order = o.order in omega arith);
  bufs = f.bufs;
  is = f.out;
  starts = f.first;
  count = (let n = f.count in let up = first_sent-mono s.view.geometry o.shape p (p + 1) (omega arith) in omega arith);
  cuts = f.cuts;
}

module _ (g : Shape) (k p low high i : ℕ) (b : List ℕ) (first : ℕ) (out : List (Option Buf)) (o : AreOver g p low high) (a : low ≤ i) (h : i ≤ high) (l : AreLeft g k p high i b first out) where
  some_cells : first_shared g p i < after_shared g p i
  some_cells = (shared-some g o.shape p i (let most = o.inside in omega arith)).0 (touch_in g p low high o i a h)

  few_cells : shared_count g p i ≤ length l.bufs
  few_cells = let here = l.here h in let n = l.count in let some = some_cells in omega arith

  -- the first of them are those that p and piece i share, as a lay of the claim asks
  pub is_filled : (d : View) (x : Pending) → d.geometry ≡ g → d.pending ≡ Some x → x.round ≡ k → x.partition ≡ p → has x.laid i ≡ false → Contains d.marks (mark k p b)
      → IsFilled k p i d first out
  is_filled d x same pends round part lacks marked =
      let n : ℕ = shared_count g p i in
      record {
        pending = x;
        pends = pends;
        round = round;
        lays = record { partition = part; piece = subst (λ (z : Shape). i < pieces z) (sym same) (let most = o.inside in omega arith); touches = subst (λ (z : Shape). Touches z i p) (sym same) (touch_in g p low high o i a h); missing = lacks };
        bytes = b;
        marked = marked;
        starts = l.starts ∙ ap (slot_number g (k % g.depth)) (l.here h) ∙ ap (λ (z : Shape). shared_slot z k p i) (sym same);
        bufs = take n l.bufs;
        others = map Some (drop n l.bufs);
        slots = l.is ∙ sym (map_halves Some n l.bufs);
        count = take_size n l.bufs few_cells ∙ ap (λ (z : Shape). shared_count z p i) (sym same);
        cuts = subst (λ (z : Shape). AreCuts z k b (first_shared z p i) (take n l.bufs)) (sym same)
            (subst (λ (c : ℕ). AreCuts g k b c (take n l.bufs)) (l.here h) (every_take (λ c (y : Buf). (y.round ≡ k) × (y.bytes ≡ cut g c b)) l.cell n l.bufs l.cuts));
      }

  -- without those, the ones from the next piece on are left
  pub next_left : AreLeft g k p high (i + 1) b (first + shared_count g p i) (drop (shared_count g p i) out)
  next_left =
      let n : ℕ = shared_count g p i in let at = l.here h in let some = some_cells in let few = few_cells in
      let next : l.cell + n ≡ after_shared g p i = omega arith in
      record {
        cell = l.cell + n;
        here = λ more. next ∙ after_shared-next g o.shape p i (let most = o.inside in omega arith) (touch_in g p low high o i a h) (touch_in g p low high o (i + 1) (omega arith) more);
        past = λ past.
            let e : i ≡ piece_of g (first_sent g (p + 1) - 1) = (let up = o.high_is in omega arith) in
            next ∙ (ap (after_shared g p) e ∙ after_shared-last g o.shape p o.part);
        bufs = drop n l.bufs;
        is = ap (drop n) l.is ∙ drop_map Some n l.bufs;
        starts = (let s = l.starts in omega arith);
        count = (let c = l.count in let d = drop_size n l.bufs in omega arith);
        cuts = every_drop (λ c (y : Buf). (y.round ≡ k) × (y.bytes ≡ cut g c b)) l.cell n l.bufs l.cuts;
      }

-- behind the last piece none is left
pub none_left : (g : Shape) (k p high i : ℕ) (b : List ℕ) (first : ℕ) (out : List (Option Buf)) → high < i → AreLeft g k p high i b first out → out ≡ []
none_left g k p high i b first out past l = l.is ∙ ap (map Some) (empty l.bufs (let c = l.past past in let n = l.count in omega arith))
  where
    empty : (xs : List Buf) → length xs ≡ 0 → xs ≡ []
    empty [] e = refl
    empty (x ∷ xs) e = absurd (omega arith)

-- The seat t laid its claim into the pieces before piece i, and is s: nothing but what it has seen of piece words and the claim changed, and
-- `sent` of these pieces are full.
pub record AreLaid (t s : MarkHeld) (k p low high i sent : ℕ) : Type 0 where
  -- the seat is of the same table
  pub table : s.table ≡ t.table
  -- its view is the same but for what it has seen and the claim
  pub view : s.view ≡ record t.view { seen = s.view.seen; looks = s.view.looks; pending = s.view.pending }
  -- it has seen the same of the claim words, as often
  pub claims : (c : ℕ) → c < claim_words t.view.geometry → (seen s.view (Claim c) ≡ seen t.view (Claim c)) × (looks s.view (Claim c) ≡ looks t.view (Claim c))
  -- the view has all words
  pub wide : IsWide s.view
  -- the claim pends at piece i
  pub pends : Pends k p low high i s.view.pending
  -- the buffers of its mark that are out are those from piece i on
  pub left : (b : List ℕ) × Contains t.view.marks (mark k p b) × AreLeft t.view.geometry k p high i b s.first s.out
  -- `sent` counts the pieces laid so far that are seen full
  pub sent_is : sent ≡ count_by (λ j. is_full t.view.geometry (seen s.view (Piece (k % t.view.geometry.depth) j)) k j) (range_with_len low (i - low))
  -- so it is no more than they are
  pub few : sent + low ≤ i

-- before the first piece the seat t is so itself
pub none_laid : (t : MarkHeld) (k p low high : ℕ) → AreOver t.view.geometry p low high → IsWide t.view → t.view.pending ≡ Some record { round = k; partition = p; laid = [] }
    → (b : List ℕ) → Contains t.view.marks (mark k p b) → AreFilled k p b t → AreLaid t t k p low high low 0
none_laid t k p low high o wide pends b marked filled = record {
  table = refl;
  view = refl;
  claims = λ c low. (refl, refl);
  wide = wide;
  pends = subst (Pends k p low high low) (sym pends) (first_pends t.view.geometry k p low high o);
  left = (b, marked, first_left t k p low high b o filled);
  sent_is =
      let none : low - low ≡ 0 = omega arith in
      sym (ap (λ (n : ℕ). count_by (λ j. is_full t.view.geometry (seen t.view (Piece (k % t.view.geometry.depth) j)) k j) (range_with_len low n)) none);
  few = omega arith;
}

module _ (t s : MarkHeld) (k p low high i sent : ℕ) (o : AreOver t.view.geometry p low high) (a : low ≤ i) (h : i ≤ high) (inv : AreLaid t s k p low high i sent) where
  same : s.view.geometry ≡ t.view.geometry
  same = ap (λ (z : View). z.geometry) inv.view

  -- piece i may be laid now
  pub may_lay : IsFilled k p i s.view s.first s.out
  may_lay =
      let q = inv.pends.goes h in
      is_filled t.view.geometry k p low high i inv.left.0 s.first s.out o a h inv.left.2 s.view q.0 same q.1 q.2 q.3 (q.5 i (omega arith))
      (subst (λ (z : View). Contains z.marks (mark k p inv.left.0)) (sym inv.view) inv.left.1)

  -- and when it is, one more is laid, and counted where the word then is full
  pub next_laid : (w : ℕ) (full : Bool) (sent' : ℕ) → is_full t.view.geometry (with_part t.view.geometry i p w) k i ≡ full → sent' ≡ sent + (if full then 1 else 0)
      → AreLaid t (laid_at p i (inv.pends.goes h).0 w s) k p low high (i + 1) sent'
  next_laid w full sent' is count =
      let g : Shape = t.view.geometry in let q = inv.pends.goes h in let x : Pending = q.0 in
      let s' : MarkHeld = laid_at p i x w s in
      let e : ℕ = k % g.depth in let v : ℕ = with_part s.view.geometry i p w in
      let name : Piece (x.round % s.view.geometry.depth) i ≡ Piece e i = (λ j. Piece (q.2 j % (same j).depth) i) in
      let deep : e < g.depth = (let some = o.shape.depth.0 in omega arith) in
      let inside : i < pieces g = (let most = o.inside in omega arith) in
      let fits : Fits s.view.geometry (Piece e i) = subst (λ (z : Shape). (e < z.depth) × (i < pieces z)) (sym same) (deep, inside) in
      let sees : (y : Name) → seen s'.view y ≡ seen (saw (Piece e i) v s.view) y = λ y. ap (λ (n : Name). seen (saw n v s.view) y) name in
      let counts : (y : Name) → looks s'.view y ≡ looks (saw (Piece e i) v s.view) y = λ y. ap (λ (n : Name). looks (saw n v s.view) y) name in
      let wide = wide_saw s.view (Piece (x.round % s.view.geometry.depth) i) v inv.wide in
      let now : ℕ → Bool = λ j. is_full g (seen s'.view (Piece e j)) k j in
      let was : ℕ → Bool = λ j. is_full g (seen s.view (Piece e j)) k j in
      let here : now (low + (i - low)) ≡ full =
      let back : low + (i - low) ≡ i = omega arith in
      ap now back ∙ (ap (λ (z : ℕ). is_full g z k i) (sees (Piece e i) ∙ (seen_here s.view inv.wide (Piece e i) fits v ∙ ap (λ (z : Shape). with_part z i p w) same)) ∙ is) in
      let before : (j : ℕ) → low ≤ j → j < low + (i - low) → now j ≡ was j = λ j from to.
      let there : Fits s.view.geometry (Piece e j) = subst (λ (z : Shape). (e < z.depth) × (j < pieces z)) (sym same) (deep, (let z : j < pieces g = omega arith in z)) in
      ap (λ (z : ℕ). is_full g z k j) (sees (Piece e j) ∙ seen_else s.view (Piece e i) (Piece e j) v fits there (λ f. let u : j ≡ i = cc in absurd (omega arith))) in
      record {
        table = inv.table;
        view = ap (λ (z : View). record z { seen = s'.view.seen; looks = s'.view.looks; pending = s'.view.pending }) inv.view;
        claims = λ c there.
            let fit : Fits s.view.geometry (Claim c) = subst (λ (z : Shape). c < claim_words z) (sym same) there in
            let other : Claim c ≢ Piece e i = λ f. absurd (cc) in
            let old = inv.claims c there in (
              sees (Claim c) ∙ (seen_else s.view (Piece e i) (Claim c) v fits fit other ∙ old.0),
              counts (Claim c) ∙ (looks_else s.view (Piece e i) (Claim c) v fits fit other ∙ old.1),
            );
        wide = record { words = wide.words; counts = wide.counts };
        pends = subst (λ (z : Shape). Pends k p low high (i + 1) (left_of z i x)) (sym same) (next_pends g k p low high i x o a h q.2 q.3 q.4 q.5);
        left = (
          inv.left.0,
          inv.left.1,
          subst (λ (z : Shape). AreLeft g k p high (i + 1) inv.left.0 (s.first + shared_count z p i) (drop (shared_count z p i) s.out)) (sym same)
              (next_left g k p low high i inv.left.0 s.first s.out o a h inv.left.2),
        );
        sent_is =
            let more : i + 1 - low ≡ (i - low) + 1 = omega arith in
            count ∙ (ap (λ (z : ℕ). z + (if full then 1 else 0)) (inv.sent_is ∙ sym (same_count now was low (i - low) before))
            ∙ (sym (count_more now low (i - low) full here) ∙ ap (λ (n : ℕ). count_by now (range_with_len low n)) (sym more)));
        few = (let f = inv.few in let one = one_most full in omega arith);
      }
    where
      one_most : (b : Bool) → (if b then 1 else 0) ≤ 1
      one_most true = omega arith
      one_most false = omega arith

-- behind the last piece the claim is laid, no buffer is out, and `sent` counts all over p that are full
pub all_laid : (t s : MarkHeld) (k p low high i sent : ℕ) → AreOver t.view.geometry p low high → high + 1 ≡ i → AreLaid t s k p low high i sent
    → HasLaid t s × (s.out ≡ []) × (sent ≡ full_over s.view k p)
all_laid t s k p low high i sent o end inv =
    let none : s.view.pending ≡ None = inv.pends.done (omega arith) in
    let same : s.view.geometry ≡ t.view.geometry = ap (λ (z : View). z.geometry) inv.view in (
      record {
        table = inv.table;
        view = inv.view ∙ ap (λ (z : Option Pending). record t.view { seen = s.view.seen; looks = s.view.looks; pending = z }) none;
        claims = inv.claims;
      },
      none_left t.view.geometry k p high i inv.left.0 s.first s.out (omega arith) inv.left.2,
      inv.sent_is ∙ (ap (λ (n : ℕ). count_by (λ j. is_full t.view.geometry (seen s.view (Piece (k % t.view.geometry.depth) j)) k j) (range_with_len low (n - low))) (sym end)
          ∙ (ap (count_by (λ j. is_full t.view.geometry (seen s.view (Piece (k % t.view.geometry.depth) j)) k j)) (sym (over_is t.view.geometry p low high o))
          ∙ ap (λ (z : Shape). count_by (λ j. is_full z (seen s.view (Piece (k % z.depth) j)) k j) (pieces_over z p)) (sym same))),
    )
