-- A pair is closed: the receive side is joined into the send side when both are idle and no other seat is left, and the view that
-- comes of it says what was marked and what was taken.
use Rattle.std.proofs.Common.{◌≡◌, ◌≢◌, ◌⊎◌, inl, inr, ⊎_elim, ℕ, zero, suc, ◌+◌, ◌-◌, ◌*◌, ◌/◌, ◌%◌, ◌<◌, ◌≤◌, Bool, true, false, ◌==◌, List, [], ◌∷◌, ◌++◌, map, length, get_or, set, Contains, refl, sym, ap, ◌∙◌, subst, arith}
use Rattle.std.specs.Prelude.{if◌then◌else◌}
use Rattle.std.specs.List.{range_with_len}
use Rattle.std.proofs.lemmas.Bool.{eqb-true}
use Rattle.std.proofs.lemmas.Nat.{div_below}
use Rattle.std.proofs.Math.Nat.{mul-le-mul_right}
use mathlib.Core.Option.{some, some-injective, some-ne-none}
use lib.ListN.{get_elem?}
use Rattle.atomic_table.specs.Table.{Joins, Splits}
use Rattle.atomic_table.proofs.Lists.{at_set, set_else}
use Rattle.gate_word.specs.Words.{round_in}
use Rattle.part_geometry.specs.Shape.{Shape, IsShape}
use Rattle.part_tables.specs.Bytes.{byte_at, part_bytes}
use Rattle.pair_core.specs.Names.{Claim, Release, claim_words}
use Rattle.pair_core.specs.Core.{IsMarker, IsWatcher, is_mark, times}
use Rattle.pair_core.specs.Moves.{IsSendIdle, IsRecvIdle}
use Rattle.pair_core.specs.Sound.{Counts, occurrences}
use Rattle.pair_core.specs.Facts.{StateFacts}
use Rattle.pair_core.specs.declared.view.Mark.{Mark}
use Rattle.pair_core.specs.declared.view.SendSide.{SendSide}
use Rattle.pair_core.specs.declared.view.RecvSide.{RecvSide}
use Rattle.pair_core.specs.declared.view.Life.{Life}
use Rattle.pair_core.specs.declared.view.Life.TheVariants.{Live}
use Rattle.pair_rule.specs.Addresses.{table_size}
use Rattle.pair_rule.specs.Rule.{At, Agrees, Rule, MayMark, bytes_of, IsWhole, AreCounted, Ended, Holds}
use Rattle.pair_rule.specs.First.{spent, closed}
use Rattle.pair_rule.specs.declared.view.View.{View}
use Rattle.pair_rule.specs.declared.view.Standing.TheVariants.{Seated, Closed}
use Rattle.pair_rule.specs.declared.rule.Key.{Key}
use Rattle.pair_rule.proofs.Core.{CoreLaws}
use Rattle.pair_rule.proofs.Marks.{in_rest, in_first, times_in, both_true, none_if, cases}
use Rattle.pair_rule.proofs.SideSteps.{of_running}
use Rattle.pair_rule.proofs.Splitting.{at_end}

-- where two functions give the same of each number of a run, the lists are the same
same_map : (f g : ℕ → ℕ) (n a : ℕ) → ((x : ℕ) → a ≤ x → x < a + n → f x ≡ g x) → map f (range_with_len a n) ≡ map g (range_with_len a n)
same_map f g zero a same = refl
same_map f g (suc n) a same = λ i. same a (omega arith) (omega arith) i ∷ same_map f g n (a + 1) (λ x low high. same x (omega arith) (omega arith)) i

-- a receive partition's bytes are told by those of the send partitions
pub part_bytes-same : (g : Shape) → IsShape g → (f h : ℕ → List ℕ) (q : ℕ) → q < g.recv_parts → ((p : ℕ) → p < g.send_parts → f p ≡ h p) → part_bytes g f q ≡ part_bytes g h q
part_bytes-same g v f h q inside same =
    let rows : (q + 1) * g.recv_bytes ≤ g.recv_parts * g.recv_bytes = mul-le-mul_right g.recv_bytes (omega arith) in
    let low : q * g.recv_bytes ≤ (q + 1) * g.recv_bytes = mul-le-mul_right g.recv_bytes (omega arith) in
    let all = v.same in let some' = v.send_bytes.0 in
    same_map (byte_at g f) (byte_at g h) ((q + 1) * g.recv_bytes - q * g.recv_bytes) (q * g.recv_bytes)
    (λ x from to. let p : ℕ = x / g.send_bytes in ap (λ (z : List ℕ). get_or z (x % g.send_bytes) 0) (same p (div_below x g.send_bytes g.send_parts (omega arith) (omega arith))))

abbrev either_bytes : Mark (List ℕ) → List ℕ → Bool → List ℕ
either_bytes m rest b = if b then m.with else rest

-- the bytes of a round and a partition that a list of marks has are those of a mark in it
pub bytes_in : (k p : ℕ) (ms : List (Mark (List ℕ))) → 1 ≤ times k p ms
    → (m : Mark (List ℕ)) × Contains ms m × (m.round ≡ k) × (m.partition ≡ p) × (bytes_of ms k p ≡ m.with)
bytes_in k p [] h = absurd (omega arith)
bytes_in k p (m ∷ ms) h = ⊎_elim
    (λ (e : is_mark k p m ≡ true). let both = both_true (m.round == k) (m.partition == p) e in
    (m, in_first m ms, eqb-true m.round k both.0, eqb-true m.partition p both.1, ap (either_bytes m (bytes_of ms k p)) e))
    (λ (e : is_mark k p m ≡ false). let z = none_if (is_mark k p m) e in let r = bytes_in k p ms (omega (arith, z)) in
    (r.0, in_rest m r.0 ms r.1, r.2, r.3, ap (either_bytes m (bytes_of ms k p)) e ∙ r.4))
    (cases (is_mark k p m))

marks_bytes : (bytes : ℕ → ℕ → List ℕ) (k p : ℕ) (ms : List (Mark (List ℕ))) → 1 ≤ times k p ms → ((m : Mark (List ℕ)) → Contains ms m → m.with ≡ bytes m.round m.partition)
    → bytes_of ms k p ≡ bytes k p
marks_bytes bytes k p ms h all = let m = bytes_in k p ms h in m.4 ∙ (all m.0 m.1 ∙ (λ i. bytes (m.2 i) (m.3 i)))

pub index_at : (l : List ℕ) (i x : ℕ) → get_elem? l i ≡ some x → get_or l i 0 ≡ x
index_at [] i x e = absurd (some-ne-none x (sym e))
index_at (y ∷ ys) zero x e = some-injective y x e
index_at (y ∷ ys) (suc i) x e = index_at ys i x e

-- where none of a sort is left
none_left : (sort : ℕ → Type 0) (life : ℕ → Life) (count n : ℕ) → Counts sort life count → count ≡ 0 → sort n → life n ≢ Live
none_left sort life count n counts none' is live = by counts.seats (counts.number ∙ none') (counts.all n is live) where
  by : (l : List ℕ) → length l ≡ 0 → occurrences n l ≡ 1 → ⊥
  by [] size one = omega arith
  by (x ∷ xs) size one = omega arith

module _ {T : Type 0} (may : T → ℕ → ℕ → ℕ → Type 0) (key : Key T) where
  abbrev G : Shape
  G = key.geometry

  module _ (L : CoreLaws G) (s : At) (r : Rule may key s) (id : ℕ) (d : View) (other : ℕ) (e : View)
      (at : get_elem? s.views id ≡ some d) (live : d.standing ≡ Seated) (zeroth : d.number ≡ 0)
      (there : get_elem? s.views other ≡ some e) (live' : e.standing ≡ Seated) (oneth : e.number ≡ 1)
      (idle : IsSendIdle G d.send) (none : d.send.markers ≡ 0) (rests : IsRecvIdle e.recv) (nobody : e.recv.watchers ≡ 0) where
    a : Agrees G r.core r.alone r.markers r.watchers r.seat id d
    a = r.seats id d at live

    b : Agrees G r.core r.alone r.markers r.watchers r.seat other e
    b = r.seats other e there live'

    send : d.send ≡ r.core.send
    send = a.send_is zeroth

    recv : e.recv ≡ r.core.recv
    recv = b.recv_is oneth

    marks : d.marks ≡ r.core.marks 0
    marks = a.marks_is ∙ ap r.core.marks zeroth

    takes : e.takes ≡ r.core.takes
    takes = b.takes_is oneth

    idle' : IsSendIdle G r.core.send
    idle' = sym (ap (λ (z : SendSide). z.shut) send) ∙ idle

    none' : r.core.send.markers ≡ 0
    none' = sym (ap (λ (z : SendSide). z.markers) send) ∙ none

    rests' : r.core.recv.released ≡ 1
    rests' = sym (ap (λ (z : RecvSide). z.released) recv) ∙ rests

    nobody' : r.core.recv.watchers ≡ 0
    nobody' = sym (ap (λ (z : RecvSide). z.watchers) recv) ∙ nobody

    -- each seat that is left is one of the two
    alone : (i : ℕ) (f : View) → get_elem? s.views i ≡ some f → f.standing ≡ Seated → (i ≡ id) ⊎ (i ≡ other)
    alone i f is alive =
        let k = r.seats i f is alive in
        ⊎_elim (λ (z : f.number ≡ 0). inl (sym k.seat_is ∙ (ap r.seat (z ∙ sym zeroth) ∙ a.seat_is)))
        (λ (y : ((f.number ≡ 1) × (r.alone ≡ false)) ⊎ (IsMarker f.number × (f.number < 2 + 2 * r.markers)) ⊎ (IsWatcher f.number × (f.number < 3 + 2 * r.watchers))).
        ⊎_elim (λ (z : (f.number ≡ 1) × (r.alone ≡ false)). inr (sym k.seat_is ∙ (ap r.seat (z.0 ∙ sym oneth) ∙ b.seat_is)))
        (λ (x : (IsMarker f.number × (f.number < 2 + 2 * r.markers)) ⊎ (IsWatcher f.number × (f.number < 3 + 2 * r.watchers))).
        ⊎_elim (λ (z : IsMarker f.number × (f.number < 2 + 2 * r.markers)). absurd (none_left IsMarker r.core.life r.core.send.markers f.number r.sound.lives.markers_out none' z.0 k.live))
        (λ (z : IsWatcher f.number × (f.number < 3 + 2 * r.watchers)). absurd (none_left IsWatcher r.core.life r.core.recv.watchers f.number r.sound.lives.watchers_out nobody' z.0 k.live)) x) y)
        k.given

    some_words : 1 ≤ claim_words G
    some_words = let h = r.shape.send_parts.0 in omega arith

    abbrev view : View
    view = closed d e

    counted : AreCounted may key s.words view
    counted = record {
      sent = ap round_in (r.words (Claim 0) some_words) ∙ ((r.sound.gates.is_shut 0 (let i = idle' in let w = some_words in omega arith)).0 ∙ sym (ap (λ (z : SendSide). z.round) send));
      received = ap round_in (r.words Release tt) ∙ ((let c = r.sound.progress.current in let n = rests' in omega arith) ∙ sym (ap (λ (z : RecvSide). z.round) recv));
    }

    whole : IsWhole may key view
    whole = record {
      behind = subst (λ (z : SendSide × RecvSide). z.1.round ≤ z.0.round) (λ i. (sym send i, sym recv i)) (f.received_sent r.core r.sound rests');
      all_marked = λ k p low high inside. ap (times k p) marks ∙ f.all_marked r.core k p r.sound none' idle' low (subst (λ (z : SendSide). k ≤ z.round) send high) inside;
      only_marked = λ k p h. subst (λ (z : SendSide). (1 ≤ k) × (k ≤ z.round) × (p < G.send_parts)) (sym send) (f.only_marked r.core 0 k p r.sound (subst (λ (z : List (Mark (List ℕ))). 1 ≤ times k p z) marks h));
      may_be = λ m held. (r.marks 0 m (subst (λ (z : List (Mark (List ℕ))). Contains z m) marks held)).may_be;
      all_taken = λ k q low high inside. ap (times k q) takes ∙ f.all_taken r.core k q r.sound rests' low (subst (λ (z : RecvSide). k ≤ z.round) recv high) inside;
      only_taken = taken;
      takes_are = λ t held.
          let of = r.takes t (subst (λ (z : List (Mark (List ℕ))). Contains z t) takes held) in
          let only = taken t.round t.partition (times_in t e.takes held) in
          of ∙ part_bytes-same G r.shape (r.bytes t.round) (bytes_of d.marks t.round) t.partition only.2 (λ p inside.
          sym (ap (λ (z : List (Mark (List ℕ))). bytes_of z t.round p) marks ∙ marks_bytes r.bytes t.round p (r.core.marks 0)
          (let low = only.0 in let high = only.1 in
          let w = f.received_sent r.core r.sound rests' in let x : e.recv.round ≡ r.core.recv.round = ap (λ (z : RecvSide). z.round) recv in
          let one = f.all_marked r.core t.round p r.sound none' idle' low (omega arith) inside in omega arith)
          (λ m in'. (r.marks 0 m in').bytes_are)));
    } where
      f : StateFacts (List ℕ) G
      f = L.facts

      taken : (k q : ℕ) → 1 ≤ times k q e.takes → (1 ≤ k) × (k ≤ e.recv.round) × (q < G.recv_parts)
      taken k q h = subst (λ (z : RecvSide). (1 ≤ k) × (k ≤ z.round) × (q < G.recv_parts)) (sym recv) (f.only_taken r.core k q r.sound (subst (λ (z : List (Mark (List ℕ))). 1 ≤ times k q z) takes h))

    ends : Ended may key record { words = s.words; homes = s.homes; views = set (set s.views id view) other spent }
    ends = record {
      over = λ i f is alive. ⊎_elim
          (λ (u : spent ≡ f). let no : spent.standing ≡ Seated = ap (λ (z : View). z.standing) u ∙ alive in absurd (cc))
          (λ (y : ((i ≡ id) × (view ≡ f)) ⊎ ((i ≢ id) × (i ≢ other) × (get_elem? s.views i ≡ some f))). ⊎_elim
          (λ (u : (i ≡ id) × (view ≡ f)). let no : view.standing ≡ Seated = ap (λ (z : View). z.standing) u.1 ∙ alive in absurd (cc))
          (λ (u : (i ≢ id) × (i ≢ other) × (get_elem? s.views i ≡ some f)). ⊎_elim (λ z. u.0 z) (λ z. u.1 z) (alone i f u.2 alive)) y)
          (which i f is);
      size = r.size;
      shape = r.shape;
      whole = λ i f is shut. ⊎_elim
          (λ (u : spent ≡ f). let no : spent.standing ≡ Closed = ap (λ (z : View). z.standing) u ∙ shut in absurd (cc))
          (λ (y : ((i ≡ id) × (view ≡ f)) ⊎ ((i ≢ id) × (i ≢ other) × (get_elem? s.views i ≡ some f))). ⊎_elim
          (λ (u : (i ≡ id) × (view ≡ f)). subst (IsWhole may key) u.1 whole)
          (λ (u : (i ≢ id) × (i ≢ other) × (get_elem? s.views i ≡ some f)). absurd (r.running i f u.2 shut)) y)
          (which i f is);
      counted = λ i f is shut. ⊎_elim
          (λ (u : spent ≡ f). let no : spent.standing ≡ Closed = ap (λ (z : View). z.standing) u ∙ shut in absurd (cc))
          (λ (y : ((i ≡ id) × (view ≡ f)) ⊎ ((i ≢ id) × (i ≢ other) × (get_elem? s.views i ≡ some f))). ⊎_elim
          (λ (u : (i ≡ id) × (view ≡ f)). subst (AreCounted may key s.words) u.1 counted)
          (λ (u : (i ≢ id) × (i ≢ other) × (get_elem? s.views i ≡ some f)). absurd (r.running i f u.2 shut)) y)
          (which i f is);
    } where
      which : (i : ℕ) (f : View) → get_elem? (set (set s.views id view) other spent) i ≡ some f
          → (spent ≡ f) ⊎ ((i ≡ id) × (view ≡ f)) ⊎ ((i ≢ id) × (i ≢ other) × (get_elem? s.views i ≡ some f))
      which i f is = ⊎_elim
          (λ (u : (i ≡ other) × (spent ≡ f)). inl u.1)
          (λ (u : (i ≢ other) × (get_elem? (set s.views id view) i ≡ some f)). ⊎_elim (λ (v : (i ≡ id) × (view ≡ f)). inr (inl v))
          (λ (v : (i ≢ id) × (get_elem? s.views i ≡ some f)). inr (inr (v.0, u.0, v.1))) (at_set s.views id i view f u.1))
          (at_set (set s.views id view) other i spent f is)

  pub recv_joins : CoreLaws G → (id : ℕ) (d : View) (other : ℕ) (e : View) → d.standing ≡ Seated → d.number ≡ 0 → e.standing ≡ Seated → e.number ≡ 1
      → IsSendIdle G d.send → d.send.markers ≡ 0 → IsRecvIdle e.recv → e.recv.watchers ≡ 0
      → Joins (Holds may key) id d other e (closed d e) spent
  recv_joins L id d other e live zeroth live' oneth idle none rests nobody s h at far there =
      inr (ends L s (of_running may key L s h id d at live) id d other e at live zeroth (sym (set_else s.views id other (closed d e) far) ∙ there) live' oneth idle none rests nobody)

  -- the view of a closed pair may be had twice
  pub closed_splits : (id : ℕ) (d : View) → d.standing ≡ Closed → Splits (Holds may key) id d d d
  closed_splits id d shut s (inl r) at = absurd (r.running id d at shut)
  closed_splits id d shut s (inr o) at = inr (record {
    over = λ i f is. o.over (from i f is).0 f (from i f is).1;
    size = o.size;
    shape = o.shape;
    whole = λ i f is. o.whole (from i f is).0 f (from i f is).1;
    counted = λ i f is. o.counted (from i f is).0 f (from i f is).1;
  }) where
    from : (i : ℕ) (f : View) → get_elem? (set s.views id d ++ d ∷ []) i ≡ some f → (j : ℕ) × (get_elem? s.views j ≡ some f)
    from i f is = ⊎_elim
        (λ (u : get_elem? (set s.views id d) i ≡ some f). ⊎_elim
        (λ (v : (i ≡ id) × (d ≡ f)). (id, at ∙ ap (λ (z : View). some z) v.1))
        (λ (v : (i ≢ id) × (get_elem? s.views i ≡ some f)). (i, v.1)) (at_set s.views id i d f u))
        (λ (u : (i ≡ length (set s.views id d)) × (d ≡ f)). (id, at ∙ ap (λ (z : View). some z) u.1))
        (at_end (set s.views id d) d f i is)

  -- what the table of a closed pair says of a view of it
  pub told_whole : (s : At) (i : ℕ) (d : View) → Holds may key s → get_elem? s.views i ≡ some d → d.standing ≡ Closed → IsWhole may key d × AreCounted may key s.words d × (length s.words ≡ table_size G)
  told_whole s i d (inl r) at shut = absurd (r.running i d at shut)
  told_whole s i d (inr o) at shut = (o.whole i d at shut, o.counted i d at shut, o.size)

  -- the bytes of a round and a partition were marked there
  pub round_bytes : (d : View) → IsWhole may key d → (k p : ℕ) → 1 ≤ k → k ≤ d.send.round → p < G.send_parts → MayMark may key k p (bytes_of d.marks k p)
  round_bytes d h k p low high inside =
      let one = h.all_marked k p low high inside in
      let m = bytes_in k p d.marks (omega (arith, one)) in
      subst (λ (z : (ℕ × ℕ) × List ℕ). MayMark may key z.0.0 z.0.1 z.1) (λ i. ((m.2 i, m.3 i), sym m.4 i)) (h.may_be m.0 m.1)
