-- What the marks of a range or a list come to: by induction over the entries, they go through all of them, or stop at
-- one.
use Rattle.std.proofs.Common.{◌≡◌, ◌⊎◌, ℕ, suc, ◌+◌, Some, None, Ok, Err, Result, List, [], ◌∷◌, length, take, fold, refl, ap, sym, ◌∙◌, arith, inl, inr}
use Rattle.std.specs.List.{slice_get}
use Rattle.std.proofs.lemmas.List.Folds.{fold_stays}
use Rattle.part_geometry.specs.declared.answers.Marked.{Marked}
use Rattle.part_geometry.specs.declared.answers.Marks.{Marks}
use Rattle.part_geometry.specs.Shape.{Shape}
use Rattle.plain_pair.specs.declared.answers.PlainRefusal.{PlainRefusal}
use Rattle.plain_pair.specs.declared.answers.PlainStop.{PlainStop}
use Rattle.plain_pair.specs.Moves.{marked, pready_answer}
use Rattle.plain_pair.specs.Many.{Progress, no_progress, counted, mark_one_more, progress, told}
use Rattle.plain_pair.specs.ManyLaws.{with_marks, AcceptedMarkAll, RefusedKeepMarks}
use Rattle.plain_pair.proofs.ManyMarks.{more, stays}

-- all entries were marked from where the call stood
record GoesThrough (done end : Progress) (es : List (ℕ × List ℕ)) : Type 0 where
  going : end.refused ≡ None
  count : end.count ≡ done.count + length es
  after : end.after ≡ with_marks done.after es

-- or some were, and the next one was refused
record Stops (g : Shape) (k : ℕ) (done end : Progress) (es : List (ℕ × List ℕ)) : Type 0 where
  n : ℕ
  next : ℕ × List ℕ
  cause : PlainRefusal
  there : slice_get es n ≡ Some next
  stopped : end.refused ≡ Some cause
  count : end.count ≡ done.count + n
  after : end.after ≡ with_marks done.after (take n es)
  refused : ◌≡◌ {A = Result Marked PlainRefusal} (pready_answer g (with_marks done.after (take n es)) k next.0 next.1) (Err cause)

abbrev ends : Shape → ℕ → Progress → List (ℕ × List ℕ) → Progress
ends g k done es = fold (mark_one_more g k) done es

-- from where nothing is refused, marks go through all entries, or stop at one
run : (g : Shape) (k : ℕ) (es : List (ℕ × List ℕ)) (done : Progress) → done.refused ≡ None
    → GoesThrough done (ends g k done es) es ⊎ Stops g k done (ends g k done es) es
run g k [] done going = inl (record { going = going; count = (let z : done.count ≡ done.count + 0 = omega arith in z); after = refl })
run g k (e ∷ es) done going = by_answer (pready_answer g done.after k e.0 e.1) refl (λ done going. run g k es done going)
  where
    by_answer : (a : Result Marked PlainRefusal) → pready_answer g done.after k e.0 e.1 ≡ a
        → ((done : Progress) → done.refused ≡ None → GoesThrough done (ends g k done es) es ⊎ Stops g k done (ends g k done es) es)
        → GoesThrough done (ends g k done (e ∷ es)) (e ∷ es) ⊎ Stops g k done (ends g k done (e ∷ es)) (e ∷ es)
    by_answer (Ok m) is rest =
        let next : Progress = record { after = marked done.after e.0 e.1; count = done.count + 1; sent = done.sent + m.sent; refused = None } in
        let step : mark_one_more g k done e ≡ next = more g k done e.0 e.1 going ∙ ap (counted done (marked done.after e.0 e.1)) is in
        elim (rest next refl) [
          | inl h ↦ inl (record {
            going = ap (λ d. (ends g k d es).refused) step ∙ h.going;
            count = ap (λ d. (ends g k d es).count) step ∙ h.count ∙ (let z : done.count + 1 + length es ≡ done.count + suc (length es) = omega arith in z);
            after = ap (λ d. (ends g k d es).after) step ∙ h.after;
          })
          | inr h ↦ inr (record {
            n = suc h.n;
            next = h.next;
            cause = h.cause;
            there = h.there;
            stopped = ap (λ d. (ends g k d es).refused) step ∙ h.stopped;
            count = ap (λ d. (ends g k d es).count) step ∙ h.count ∙ (let z : done.count + 1 + h.n ≡ done.count + suc h.n = omega arith in z);
            after = ap (λ d. (ends g k d es).after) step ∙ h.after;
            refused = h.refused;
          })
        ]
    by_answer (Err cause) is rest =
        let last : Progress = record done { refused = Some cause } in
        let step : mark_one_more g k done e ≡ last = more g k done e.0 e.1 going ∙ ap (counted done (marked done.after e.0 e.1)) is in
        let end : ends g k done (e ∷ es) ≡ last = ap (λ d. ends g k d es) step ∙ fold_stays (mark_one_more g k) last (λ x. stays g k last x refl) es in
        inr (record {
          n = 0;
          next = e;
          cause = cause;
          there = refl;
          stopped = ap (λ (d : Progress). d.refused) end;
          count = ap (λ (d : Progress). d.count) end ∙ (let z : done.count ≡ done.count + 0 = omega arith in z);
          after = ap (λ (d : Progress). d.after) end;
          refused = is;
        })

-- where nothing is refused, the marks that were made are told
told_going : (k : ℕ) (done : Progress) → done.refused ≡ None → told k done ≡ Ok record { round = k; count = done.count; sent = done.sent }
told_going k done going = rw going refl

-- else the cause, and how many were made before
told_stopped : (k : ℕ) (done : Progress) (cause : PlainRefusal) → done.refused ≡ Some cause → told k done ≡ Err record { at = done.count; cause = cause }
told_stopped k done cause stopped = rw stopped refl

-- a call that is accepted marked all its entries, each with its bytes
pub accepted_mark_all : AcceptedMarkAll
accepted_mark_all g r k es marks is =
    let end = progress g r k es in
    elim (run g k es (no_progress r) refl) [
      | inl h ↦
          let e : Ok marks ≡ Ok record { round = k; count = end.count; sent = end.sent } = sym is ∙ told_going k end h.going in
          let same : marks ≡ record { round = k; count = end.count; sent = end.sent } = cc in
          record { count = ap (λ (m : Marks). m.count) same ∙ h.count ∙ (let z : 0 + length es ≡ length es = omega arith in z); after = h.after }
      | inr h ↦ let e : Ok marks ≡ Err record { at = end.count; cause = h.cause } = sym is ∙ told_stopped k end h.cause h.stopped in cc
    ]

-- a call that is refused keeps the marks before the refused one, which is refused as a single mark is
pub refused_keep_marks : RefusedKeepMarks
refused_keep_marks g r k es stop is =
    let end = progress g r k es in
    elim (run g k es (no_progress r) refl) [
      | inl h ↦ let e : Err stop ≡ Ok record { round = k; count = end.count; sent = end.sent } = sym is ∙ told_going k end h.going in cc
      | inr h ↦
          let e : Err stop ≡ Err record { at = end.count; cause = h.cause } = sym is ∙ told_stopped k end h.cause h.stopped in
          let same : stop ≡ record { at = end.count; cause = h.cause } = cc in
          let at : h.n ≡ stop.at = sym (ap (λ (s : PlainStop). s.at) same ∙ h.count ∙ (let z : 0 + h.n ≡ h.n = omega arith in z)) in
          let cause : h.cause ≡ stop.cause = sym (ap (λ (s : PlainStop). s.cause) same) in
          record {
            next = h.next;
            there = ap (slice_get es) (sym at) ∙ h.there;
            after = h.after ∙ ap (λ n. with_marks r (take n es)) at;
            refused = ap (λ n. pready_answer g (with_marks r (take n es)) k h.next.0 h.next.1) (sym at) ∙ h.refused ∙ ap (λ c. Err c) cause;
          }
    ]
