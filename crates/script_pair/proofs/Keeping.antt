-- What is kept stays kept: through the calls that take and give back nothing, and beside a partition that is taken
-- or given back.
use Rattle.std.proofs.Common.{◌≡◌, ◌≢◌, ℕ, ◌<◌, ◌==◌, Bool, true, false, ◌&&◌, ◌||◌, not, if◌then◌else◌, Option, Some, None, Result, Ok, Err, is_some, List, [], ◌∷◌, fold, refl, sym, ap, ◌∙◌, subst, arith, tests, inl, inr}
use Rattle.std.specs.FinSet as parts
use Rattle.std.specs.Cmp.{nat_cmp_total}
use Rattle.std.specs.Option.{option_map_or}
use Rattle.std.specs.Ordering.{nat_cmp}
use Rattle.std.proofs.lemmas.Bool.{cases_Bool, ne_eqb, eq-eqb}
use Rattle.part_geometry.specs.declared.TheConstants.{LAST_ROUND}
use Rattle.part_geometry.specs.declared.answers.Marked.{Marked}
use Rattle.part_geometry.specs.declared.answers.RecvTest.{RecvTest}
use Rattle.part_geometry.specs.declared.answers.RecvTest.TheVariants as recv
use Rattle.part_geometry.specs.Shape.{Shape}
use Rattle.plain_pair.specs.declared.answers.PlainRefusal.{PlainRefusal}
use Rattle.plain_pair.specs.declared.answers.PlainSendTest.{PlainSendTest}
use Rattle.plain_pair.specs.declared.answers.PlainSendTest.TheVariants as send
use Rattle.plain_pair.specs.Record.{Record}
use Rattle.plain_pair.specs.Moves.{on_ok, started_send, start_send_answer, after_start_send, started_recv, after_start_recv, marked, pready_answer, after_pready, least_without, sent_done, test_recv_answer, received_done, took, gave_back}
use Rattle.plain_pair.specs.Many.{Progress, no_progress, counted, mark_one_more, progress_unless}
use Rattle.plain_pair.specs.Kept.{Kept, has}
use Rattle.plain_pair.specs.Looking.{IsOut}
use Rattle.plain_pair.specs.StandsFor.{StandsFor}
use Rattle.plain_pair.specs.Taken.{Taken}
use Rattle.plain_pair.proofs.Marks.{ties}
use Rattle.plain_pair.proofs.Overs.{find-nothing}
use Rattle.script_pair.specs.Held.{IsKeptAt}

-- nothing is taken or given back between two records
pub record SameTaking (r next : Record) : Type 0 where
  pub receiving : next.receiving ≡ r.receiving
  pub received : next.received ≡ r.received
  pub taken : next.taken ≡ r.taken
  pub back : next.back ≡ r.back

-- where nothing changes, nothing is taken or given back
pub same_refl : (r : Record) → SameTaking r r
same_refl r = record { receiving = refl; received = refl; taken = refl; back = refl }

same_then : (r s t : Record) → SameTaking r s → SameTaking s t → SameTaking r t
same_then r s t a b = record {
  receiving = b.receiving ∙ a.receiving;
  received = b.received ∙ a.received;
  taken = b.taken ∙ a.taken;
  back = b.back ∙ a.back;
}

on_ok_same : {A E : Type 0} (answer : Result A E) (next r : Record) → SameTaking r next → SameTaking r (on_ok answer next r)
on_ok_same (Ok a) next r same = same
on_ok_same (Err e) next r same = same_refl r

-- a mark takes and gives back nothing, accepted or refused
pub pready_same : (g : Shape) (r : Record) (k p : ℕ) (bytes : List ℕ) → SameTaking r (after_pready g r k p bytes)
pready_same g r k p bytes = on_ok_same (pready_answer g r k p bytes) (marked r p bytes) r record { receiving = refl; received = refl; taken = refl; back = refl }

-- a start of the send takes and gives back nothing, accepted or refused
pub start_send_same : (r : Record) → SameTaking r (after_start_send r)
start_send_same r = on_ok_same (start_send_answer r) (started_send r) r record { receiving = refl; received = refl; taken = refl; back = refl }

counted_same : (done : Progress) (next : Record) (answer : Result Marked PlainRefusal) → SameTaking done.after next → SameTaking done.after (counted done next answer).after
counted_same done next (Ok m) same = same
counted_same done next (Err cause) same = same_refl done.after

one_same : (g : Shape) (k : ℕ) (done : Progress) (e : ℕ × List ℕ) → SameTaking done.after (mark_one_more g k done e).after
one_same g k done e =
    elim (is_some done.refused) as (λ v. SameTaking done.after (if v then done else counted done (marked done.after e.0 e.1) (pready_answer g done.after k e.0 e.1)).after) [
      | true ↦ same_refl done.after
      | false ↦ counted_same done (marked done.after e.0 e.1) (pready_answer g done.after k e.0 e.1) record { receiving = refl; received = refl; taken = refl; back = refl }
    ]

fold_same : (g : Shape) (k : ℕ) (es : List (ℕ × List ℕ)) (done : Progress) → SameTaking done.after (fold (mark_one_more g k) done es).after
fold_same g k [] done = same_refl done.after
fold_same g k (e ∷ es) done = same_then _ _ _ (one_same g k done e) (fold_same g k es (mark_one_more g k done e))

-- the marks of a range or a list, as far as they come, take and give back nothing
pub progress_same : (o : Option PlainRefusal) (g : Shape) (r : Record) (k : ℕ) (es : List (ℕ × List ℕ)) → SameTaking r (progress_unless o g r k es).after
progress_same (Some cause) g r k es = same_refl r
progress_same None g r k es = fold_same g k es (no_progress r)

-- a test of the send takes and gives back nothing
pub sent_same : (a : PlainSendTest) (r : Record) → SameTaking r (sent_done a r)
sent_same send.Idle r = same_refl r
sent_same (send.Unmarked p) r = same_refl r
sent_same (send.Unreleased k) r = same_refl r
sent_same send.Done r = record { receiving = refl; received = refl; taken = refl; back = refl }

-- two pairs keep the same of partition q
pub record SameAt (old new : Kept) (q : ℕ) : Type 0 where
  pub receiving : new.receiving ≡ old.receiving
  pub received : new.received ≡ old.received
  pub shape : new.shape ≡ old.shape
  pub taken : has new.taken q ≡ has old.taken q
  pub back : has new.back q ≡ has old.back q

three_same : (a b c d e f : Bool) → a ≡ d → b ≡ e → c ≡ f → (d && e && not f) ≡ false → (a && b && not c) ≡ false
three_same a b c d e f x y z is = rw (x, y, z) is

out_same : (old new : Kept) (q : ℕ) (t : Taken) → SameAt old new q → t.partition ≡ q → IsOut old t → IsOut new t
out_same old new q t same at out = record {
  active = same.receiving ∙ out.active;
  round = out.round ∙ sym same.received;
  inside = rw same.shape out.inside;
  size = out.size ∙ ap (λ (g : Shape). g.recv_bytes) (sym same.shape);
  was_taken = ap (has new.taken) at ∙ same.taken ∙ ap (has old.taken) (sym at) ∙ out.was_taken;
  away = ap (has new.back) at ∙ same.back ∙ ap (has old.back) (sym at) ∙ out.away;
}

-- what is kept of a partition by one pair is what another keeps of it, where both keep the same of it
pub kept_same : (old new : Kept) (q : ℕ) (slot : Option Taken) → SameAt old new q → IsKeptAt old q slot → IsKeptAt new q slot
kept_same old new q None same is =
    three_same new.receiving (has new.taken q) (has new.back q) old.receiving (has old.taken q) (has old.back q) same.receiving same.taken same.back is
kept_same old new q (Some t) same is = (out_same old new q t same is.1 is.0, is.1)

-- a pair before a call and after it, with the records that it stands for
pub record Moved (old new : Kept) (r next : Record) : Type 0 where
  pub before : StandsFor old r
  pub after : StandsFor new next
  -- the geometry stays
  pub shape : new.shape ≡ old.shape

inside_new : (old new : Kept) (q : ℕ) → new.shape ≡ old.shape → q < old.shape.recv_parts → q < new.shape.recv_parts
inside_new old new q shape inside = rw shape inside

-- where nothing is taken or given back, the pair keeps the same of each partition
pub same_at : (old new : Kept) (r next : Record) (q : ℕ) → Moved old new r next → SameTaking r next → q < old.shape.recv_parts → SameAt old new q
same_at old new r next q m same inside = record {
  receiving = m.after.receiving ∙ same.receiving ∙ sym m.before.receiving;
  received = m.after.received ∙ same.received ∙ sym m.before.received;
  shape = m.shape;
  taken = m.after.taken q (inside_new old new q m.shape inside) ∙ ap (λ s. parts.contains s q) same.taken ∙ sym (m.before.taken q inside);
  back = m.after.back q (inside_new old new q m.shape inside) ∙ ap (λ s. parts.contains s q) same.back ∙ sym (m.before.back q inside);
}

-- what a set has beside one that is put in
beside : (s : parts.FinSet nat_cmp) (p q : ℕ) → q ≢ p → parts.contains (parts.insert s p) q ≡ parts.contains s q
beside s p q apart = parts.contains-insert nat_cmp_total s p q ∙ ap (λ b. b || parts.contains s q) (ties q p ∙ ne_eqb q p apart)

put_in : (s : parts.FinSet nat_cmp) (p : ℕ) → parts.contains (parts.insert s p) p ≡ true
put_in s p = parts.contains-insert nat_cmp_total s p p ∙ ap (λ b. b || parts.contains s p) (ties p p ∙ eq-eqb p p refl)

-- beside the partition that is taken, the pair keeps the same of each
pub took_at : (old new : Kept) (r : Record) (p q : ℕ) → Moved old new r (took r p) → q ≢ p → q < old.shape.recv_parts → SameAt old new q
took_at old new r p q m apart inside = record {
  receiving = m.after.receiving ∙ sym m.before.receiving;
  received = m.after.received ∙ sym m.before.received;
  shape = m.shape;
  taken = m.after.taken q (inside_new old new q m.shape inside) ∙ beside r.taken p q apart ∙ sym (m.before.taken q inside);
  back = m.after.back q (inside_new old new q m.shape inside) ∙ sym (m.before.back q inside);
}

-- beside the partition that is given back, the pair keeps the same of each
pub gave_at : (old new : Kept) (r : Record) (p q : ℕ) → Moved old new r (gave_back r p) → q ≢ p → q < old.shape.recv_parts → SameAt old new q
gave_at old new r p q m apart inside = record {
  receiving = m.after.receiving ∙ sym m.before.receiving;
  received = m.after.received ∙ sym m.before.received;
  shape = m.shape;
  taken = m.after.taken q (inside_new old new q m.shape inside) ∙ sym (m.before.taken q inside);
  back = m.after.back q (inside_new old new q m.shape inside) ∙ beside r.back p q apart ∙ sym (m.before.back q inside);
}

third_true : (a b c : Bool) → c ≡ true → (a && b && not c) ≡ false
third_true a b c e = grind (arith, tests)

second_false : (a b c : Bool) → b ≡ false → (a && b && not c) ≡ false
second_false a b c e = grind (arith, tests)

-- where the first of three tests fails, they don't all hold
pub first_false : (a b c : Bool) → a ≡ false → (a && b && not c) ≡ false
first_false a b c e = grind (arith, tests)

-- of a partition that is given back, nothing is kept
pub gave_here : (old new : Kept) (r : Record) (p : ℕ) → Moved old new r (gave_back r p) → p < old.shape.recv_parts → IsKeptAt new p None
gave_here old new r p m inside =
    third_true new.receiving (has new.taken p) (has new.back p) (m.after.back p (inside_new old new p m.shape inside) ∙ put_in r.back p)

-- an idle receiver keeps nothing
idle_none : (k : Kept) (q : ℕ) (slot : Option Taken) → k.receiving ≡ false → IsKeptAt k q slot → slot ≡ None
idle_none k q None idle is = refl
idle_none k q (Some t) idle is = absurd (let active = is.0.active in cc)

-- a start of the receive
started_cases : (old new : Kept) (r : Record) (q : ℕ) (slot : Option Taken) → Moved old new r (started_recv r) → r.receiving ≡ false
    → q < old.shape.recv_parts → IsKeptAt old q slot → IsKeptAt new q slot
started_cases old new r q slot m idle inside is =
    rw (idle_none old q slot (m.before.receiving ∙ idle) is)
    (second_false new.receiving (has new.taken q) (has new.back q) (m.after.taken q (inside_new old new q m.shape inside) ∙ parts.contains-empty nat_cmp q))

busy_start : (r : Record) → r.receiving ≡ true → after_start_recv r ≡ r
busy_start r busy = rw busy refl

spent_start : (r : Record) → r.receiving ≡ false → (r.received == LAST_ROUND) ≡ true → after_start_recv r ≡ r
spent_start r idle spent = rw (idle, spent) refl

idle_start : (r : Record) → r.receiving ≡ false → (r.received == LAST_ROUND) ≡ false → after_start_recv r ≡ started_recv r
idle_start r idle more = rw (idle, more) refl

moved_along : (old new : Kept) (r next other : Record) → next ≡ other → Moved old new r next → Moved old new r other
moved_along old new r next other e m = record { before = m.before; after = subst (StandsFor new) e m.after; shape = m.shape }

-- through a start of the receive, accepted or refused, what is kept of each partition stays
pub start_recv_kept : (old new : Kept) (r : Record) (q : ℕ) (slot : Option Taken) → Moved old new r (after_start_recv r)
    → q < old.shape.recv_parts → IsKeptAt old q slot → IsKeptAt new q slot
start_recv_kept old new r q slot m inside is =
    elim (cases_Bool r.receiving) [
      | inl busy ↦ kept_same old new q slot (same_at old new r r q (moved_along old new r _ r (busy_start r busy) m) (same_refl r) inside) is
      | inr idle ↦ elim (cases_Bool (r.received == LAST_ROUND)) [
        | inl spent ↦ kept_same old new q slot (same_at old new r r q (moved_along old new r _ r (spent_start r idle spent) m) (same_refl r) inside) is
        | inr more ↦ started_cases old new r q slot (moved_along old new r _ (started_recv r) (idle_start r idle more) m) idle inside is
      ]
    ]

-- a test of the receive
done_back : (receiving : Bool) (taken back : Option ℕ)
    → (if not receiving then recv.Idle else option_map_or recv.Untaken taken (option_map_or recv.Out back recv.Done)) ≡ recv.Done → back ≡ None
done_back false taken back is = absurd (cc)
done_back true (Some q) back is = absurd (cc)
done_back true None (Some q) is = absurd (cc)
done_back true None None is = refl

all_back : (g : Shape) (r : Record) (q : ℕ) → test_recv_answer g r ≡ recv.Done → q < g.recv_parts → parts.contains r.back q ≡ true
all_back g r q done inside =
    let none = done_back r.receiving (least_without g.recv_parts (parts.contains r.taken)) (least_without g.recv_parts (parts.contains r.back)) done in
    let nothing = find-nothing (λ x. not (parts.contains r.back x)) g.recv_parts 0 none q (omega arith) (omega arith) in
    back_is (parts.contains r.back q) nothing
  where
    back_is : (b : Bool) → not b ≡ false → b ≡ true
    back_is true e = refl
    back_is false e = absurd (cc)

done_kept : (old new : Kept) (r : Record) (q : ℕ) (slot : Option Taken) → Moved old new r (received_done recv.Done r) → test_recv_answer old.shape r ≡ recv.Done
    → q < old.shape.recv_parts → IsKeptAt old q slot → IsKeptAt new q slot
done_kept old new r q None m done inside is = first_false new.receiving (has new.taken q) (has new.back q) m.after.receiving
done_kept old new r q (Some t) m done inside is =
    let back : has old.back q ≡ true = m.before.back q inside ∙ all_back old.shape r q done inside in
    let away : has old.back q ≡ false = ap (has old.back) (sym is.1) ∙ is.0.away in
    absurd (cc)

-- through a test of the receive, whatever it answers, what is kept of each partition stays
pub received_kept : (old new : Kept) (r : Record) (a : RecvTest) (q : ℕ) (slot : Option Taken) → test_recv_answer old.shape r ≡ a → Moved old new r (received_done a r)
    → q < old.shape.recv_parts → IsKeptAt old q slot → IsKeptAt new q slot
received_kept old new r recv.Idle q slot e m inside is = kept_same old new q slot (same_at old new r r q m (same_refl r) inside) is
received_kept old new r (recv.Untaken p) q slot e m inside is = kept_same old new q slot (same_at old new r r q m (same_refl r) inside) is
received_kept old new r (recv.Out p) q slot e m inside is = kept_same old new q slot (same_at old new r r q m (same_refl r) inside) is
received_kept old new r recv.Done q slot e m inside is = done_kept old new r q slot m e inside is
