-- One mark after another: the entries marked so far, and where a call stops. The first i entries are a list with one
-- more at its end for each mark.
use Rattle.std.proofs.Common.{◌≡◌, ℕ, ◌+◌, ◌-◌, ◌*◌, ◌<◌, ◌≤◌, Bool, true, ◌==◌, List, [], ◌∷◌, ◌++◌, length, get_or, take, Ok, Err, refl, sym, ap, ◌∙◌, subst, arith}
use Rattle.std.proofs.lemmas.Bool.{eqb-true}
use Rattle.std.proofs.lemmas.List.{take_all}
use Rattle.std.proofs.lemmas.List.FromFn.{take-map-range_with_len, map-range_with_len_more, length-map-range_with_len, get_or-range_with_len, length-range_with_len}
use Rattle.part_geometry.specs.declared.answers.Marked.{Marked}
use Rattle.part_geometry.specs.declared.answers.Marks.{Marks}
use Rattle.part_geometry.specs.Shape.{Shape}
use Rattle.pair_rule.specs.Rule.{MayStand}
use Rattle.pair_rule.specs.declared.view.View.{View}
use Rattle.part_send.specs.declared.answers.ReadyStop.{ReadyStop}
use Rattle.part_send.specs.Marking.{HasMarked, Tells}
use Rattle.part_send.specs.Many.{part_of, entries, range_parts, MayStandAll, AreMarked, Goes, HasStopped}

-- one more entry that was marked stands behind those before
pub marked_more : (k : ℕ) (d : View) (es : List (ℕ × List ℕ)) (sent : ℕ) (e f : View) (x : ℕ × List ℕ) (n : ℕ) (m : Marked)
    → AreMarked k d es sent e → HasMarked e f k x.0 x.1 n m → AreMarked k d (es ++ x ∷ []) (sent + m.sent) f
marked_more k d [] sent e f x n m h marked =
    (f, n, m, subst (λ (z : View). HasMarked z f k x.0 x.1 n m) h.0 marked, 0, (refl, refl), (let z = h.1 in omega arith))
marked_more k d (y ∷ ys) sent e f x n m h marked =
    (h.0, h.1, h.2, h.3, h.4 + m.sent, marked_more k h.0 ys h.4 e f x n m h.5 marked, (let z = h.6 in omega arith))

module _ (g : Shape) (parts bytes : List ℕ) where
  -- a call has an entry for each partition of its list
  pub entries_many : length (entries g parts bytes) ≡ length parts
  entries_many = length-map-range_with_len (λ i. (get_or parts i 0, part_of g bytes i)) 0 (length parts)

  -- the first i + 1 entries are the first i and the one with number i
  pub entries_next : (i : ℕ) → i < length parts → take (i + 1) (entries g parts bytes) ≡ take i (entries g parts bytes) ++ (get_or parts i 0, part_of g bytes i) ∷ []
  entries_next i low =
      let f : ℕ → ℕ × List ℕ = λ j. (get_or parts j 0, part_of g bytes j) in
      take-map-range_with_len f 0 (length parts) (i + 1) (omega arith)
      ∙ (map-range_with_len_more f 0 i i (omega arith) ∙ ap (λ (z : List (ℕ × List ℕ)). z ++ f i ∷ []) (sym (take-map-range_with_len f 0 (length parts) i (omega arith))))

  -- from the list's end on they are all
  pub entries_all : (i : ℕ) → length parts ≤ i → take i (entries g parts bytes) ≡ entries g parts bytes
  entries_all i past = let n = entries_many in take_all i (entries g parts bytes) (omega arith)

-- a call that has marked i entries of its list
module _ (old now : View) (k : ℕ) (parts bytes : List ℕ) (i p : ℕ) (marks : Marks) (same : now.geometry ≡ old.geometry) (round : marks.round ≡ k) (count : marks.count ≡ i)
    (inside : i < length parts) (part : p ≡ get_or parts i 0) (h : AreMarked k old (take i (entries old.geometry parts bytes)) marks.sent now) where
  entry : ◌≡◌ {A = ℕ × List ℕ} (p, part_of now.geometry bytes marks.count) (get_or parts i 0, part_of old.geometry bytes i)
  entry = (λ j. (part j, part_of (same j) bytes (count j)))

  -- where the next entry is marked, i + 1 are
  pub one_more : (new : View) (marks' : Marks) (u : Unit {0}) → Goes now new marks marks' (p, part_of now.geometry bytes marks.count) (Ok u)
      → AreMarked k old (take (i + 1) (entries old.geometry parts bytes)) marks'.sent new × (marks'.round ≡ k) × (marks'.count ≡ i + 1) × (new.geometry ≡ old.geometry)
  one_more new marks' u goes =
      let n : ℕ = goes.0 in let m : Marked = goes.1 in
      let x : ℕ × List ℕ = (get_or parts i 0, part_of old.geometry bytes i) in
      let marked : HasMarked now new k x.0 x.1 n m =
      subst (λ (z : ℕ × List ℕ). HasMarked now new k z.0 z.1 n m) entry (subst (λ (z : ℕ). HasMarked now new z p (part_of now.geometry bytes marks.count) n m) round goes.2) in (
        subst (λ (z : ℕ). AreMarked k old (take (i + 1) (entries old.geometry parts bytes)) z new) (sym (ap (λ (z : Marks). z.sent) goes.3))
            (subst (λ (z : List (ℕ × List ℕ)). AreMarked k old z (marks.sent + m.sent) new) (sym (entries_next old.geometry parts bytes i inside))
            (marked_more k old (take i (entries old.geometry parts bytes)) marks.sent now new x n m h marked)),
        ap (λ (z : Marks). z.round) goes.3 ∙ round,
        ap (λ (z : Marks). z.count) goes.3 ∙ ap (λ (z : ℕ). z + 1) count,
        ap (λ (z : View). z.geometry) goes.2.view ∙ same,
      )

  -- where it is refused, the call stops at it
  pub stops : (new : View) (marks' : Marks) (stop : ReadyStop) → Goes now new marks marks' (p, part_of now.geometry bytes marks.count) (Err stop)
      → HasStopped old new k (entries old.geometry parts bytes) stop
  stops new marks' stop goes =
      let at : i ≡ stop.at = sym (goes.0 ∙ count) in
      let es : List (ℕ × List ℕ) = entries old.geometry parts bytes in
      record {
        inside = (let n = entries_many old.geometry parts bytes in omega arith);
        between = now;
        sent = marks.sent;
        marked = subst (λ (z : ℕ). AreMarked k old (take z es) marks.sent now) at h;
        steps = goes.1.0;
        next = (get_or parts i 0, part_of old.geometry bytes i);
        next_is = subst (λ (z : ℕ). take (z + 1) es ≡ take z es ++ (get_or parts i 0, part_of old.geometry bytes i) ∷ []) at (entries_next old.geometry parts bytes i inside);
        refused = subst (λ (z : ℕ × List ℕ). Tells now new k z.0 z.1 goes.1.0 (Err stop.cause)) entry
            (subst (λ (z : ℕ). Tells now new z p (part_of now.geometry bytes marks.count) goes.1.0 (Err stop.cause)) round goes.1.1);
      }

  -- and its bytes may be marked where those of all entries may
  pub may_next : {T : Type 0} (may : T → ℕ → ℕ → ℕ → Type 0) (tag : T) → MayStandAll may tag old.geometry k parts bytes
      → p < now.geometry.send_parts → MayStand may tag marks.round (p * now.geometry.send_bytes) (part_of now.geometry bytes marks.count)
  may_next may tag all =
      subst (λ (z : ℕ). p < now.geometry.send_parts → MayStand may tag z (p * now.geometry.send_bytes) (part_of now.geometry bytes marks.count)) (sym round)
      (subst (λ (z : Shape × (ℕ × List ℕ)). z.1.0 < z.0.send_parts → MayStand may tag k (z.1.0 * z.0.send_bytes) z.1.1) (λ j. (sym same j, sym entry j)) (all i inside))

-- the partitions of a range
pub range_many : (low high : ℕ) → length (range_parts low high) ≡ high + 1 - low
range_many low high = length-range_with_len low (high + 1 - low)

-- and each one's number
pub range_at : (low high i : ℕ) → i < high + 1 - low → low + i ≡ get_or (range_parts low high) i 0
range_at low high i inside = sym (get_or-range_with_len low (high + 1 - low) i 0 inside)

-- the bytes are as many as the test says
pub as_many : (g h : Shape) (n m : ℕ) (bytes : List ℕ) (test : Bool) → g ≡ h → test ≡ (length bytes == n * h.send_bytes) → test ≡ true → n ≡ m → length bytes ≡ m * g.send_bytes
as_many g h n m bytes test same is holds count =
    eqb-true (length bytes) (n * h.send_bytes) (sym is ∙ holds) ∙ (λ j. count j * (sym same j).send_bytes)
