-- What is kept of a receive end's partitions is out of it after each call. A look changes neither the end's round nor its
-- lanes, and a take and a return change the lane of their own partition alone.
use Rattle.std.proofs.Common.{◌≡◌, ◌≢◌, ℕ, zero, suc, ◌<◌, Bool, true, false, List, [], ◌∷◌, ◌++◌, length, get_or, set, Option, Some, None, refl, sym, ap, ◌∙◌, subst, arith, inl, inr}
use lib.ListN.{get_elem?}
use Rattle.std.specs.List.{All}
use Rattle.std.proofs.lemmas.Bool.{cases_eq}
use Rattle.std.proofs.lemmas.Option.{none-some, same_Some}
use Rattle.std.proofs.lemmas.List.{get_or-set_same, get_or-set_other}
use Rattle.pair_core.specs.Names.{Piece}
use Rattle.pair_core.specs.declared.view.RecvSide.{RecvSide}
use Rattle.slot_rows.specs.declared.lane.Lane.{Lane}
use Rattle.slot_rows.specs.Lanes.{flagged, HasFlags}
use Rattle.pair_rule.specs.Views.{saw}
use Rattle.pair_rule.specs.declared.view.View.{View}
use Rattle.part_geometry.specs.declared.answers.RecvTest.{RecvTest}
use Rattle.part_geometry.specs.declared.answers.RecvTest.TheVariants.{Idle, Untaken, Out, Done}
use Rattle.part_recv.specs.Hearing.{Hears}
use Rattle.part_recv.specs.Receiving.{End, is_active, after_answer, after_start}
use Rattle.part_recv.specs.Seeing.{looked, place_in, first_piece}
use Rattle.part_recv.specs.Taking.{Arrived, IsOut, IsEndLook, IsRefused, Looked, LookedAll, Takes, gave_back}
use Rattle.part_recv.specs.declared.answers.EndLook.{EndLook}
use Rattle.part_recv.specs.declared.answers.EndLook.TheVariants as look
use Rattle.part_recv.specs.declared.answers.TakeRefusal.{TakeRefusal}
use Rattle.part_recv.specs.declared.answers.TakeRefusal.TheVariants as take
use Rattle.running_tests.specs.Held.{AreHeld}

-- the end has the geometry, the round and the lanes that it had
pub record Rests (s t : End) : Type 0 where
  pub geometry : t.view.geometry ≡ s.view.geometry
  pub round : t.view.recv.round ≡ s.view.recv.round
  pub lanes : t.lanes ≡ s.lanes

-- looks leave the geometry of a view
looked_geometry : (e i : ℕ) (ws : List ℕ) (d : View) → (looked e i ws d).geometry ≡ d.geometry
looked_geometry e i [] d = refl
looked_geometry e i (w ∷ ws) d = looked_geometry e (suc i) ws (saw (Piece e i) w d)

-- and its receive side
looked_side : (e i : ℕ) (ws : List ℕ) (d : View) → (looked e i ws d).recv ≡ d.recv
looked_side e i [] d = refl
looked_side e i (w ∷ ws) d = looked_side e (suc i) ws (saw (Piece e i) w d)

-- an end that is the same has them
same_rests : (s t : End) → t ≡ s → Rests s t
same_rests s t e = record {
  geometry = ap (λ (z : End). z.view.geometry) e;
  round = ap (λ (z : End). z.view.recv.round) e;
  lanes = ap (λ (z : End). z.lanes) e;
}

-- a look leaves them
look_rests : (e i : ℕ) (ws : List ℕ) (s t : End) (d : View) → d ≡ looked e i ws s.view → t ≡ record s { view = d } → Rests s t
look_rests e i ws s t d is end = record {
  geometry = ap (λ (z : End). z.view.geometry) end ∙ ap (λ (z : View). z.geometry) is ∙ looked_geometry e i ws s.view;
  round = ap (λ (z : End). z.view.recv.round) end ∙ ap (λ (z : View). z.recv.round) is ∙ ap (λ (z : RecvSide). z.round) (looked_side e i ws s.view);
  lanes = ap (λ (z : End). z.lanes) end;
}

-- a look that found a piece missing
pub missed_rests : (q i w : ℕ) (s t : End) → Looked q i w s t → Rests s t
missed_rests q i w s t h =
    look_rests (place_in s.view s.view.recv.round) (first_piece s.view.geometry q) (h.misses.before ++ w ∷ []) s t h.view h.misses.looks.view h.end

-- a look that found all of them
pub seen_rests : (q : ℕ) (s t : End) → LookedAll q s t → Rests s t
seen_rests q s t h =
    look_rests (place_in s.view s.view.recv.round) (first_piece s.view.geometry q) h.sees.words s t h.view h.sees.looks.view h.end

-- an end that was told something, and then looked at a word
pub told_rests : (d : View) (s t : End) → d.geometry ≡ s.view.geometry → d.recv ≡ s.view.recv → Hears d t.view → t ≡ record s { view = t.view } → Rests s t
told_rests d s t g r h end = record {
  geometry = ap (λ (z : View). z.geometry) h.view ∙ g;
  round = ap (λ (z : View). z.recv.round) h.view ∙ ap (λ (z : RecvSide). z.round) r;
  lanes = ap (λ (z : End). z.lanes) end;
}

-- an end that was tested
pub tested_rests : (r : RecvTest) (s : End) → Rests s (after_answer r s)
tested_rests Idle s = record { geometry = refl; round = refl; lanes = refl }
tested_rests (Untaken q) s = record { geometry = refl; round = refl; lanes = refl }
tested_rests (Out q) s = record { geometry = refl; round = refl; lanes = refl }
tested_rests Done s = record { geometry = refl; round = refl; lanes = refl }

-- an end that looked at a partition
pub answered_rests : (q : ℕ) (r : EndLook) (s t : End) → IsEndLook q r s t → Rests s t
answered_rests q look.Idle s t h = same_rests s t h.1
answered_rests q look.BadPartition s t h = same_rests s t h.2
answered_rests q (look.NotYet i w) s t h = missed_rests q i w s t h.1
answered_rests q look.Arrived s t h = seen_rests q s t h.1

-- an end that refused a take
pub refused_rests : (q : ℕ) (r : TakeRefusal) (s t : End) → IsRefused q r s t → Rests s t
refused_rests q take.Idle s t h = same_rests s t h.1
refused_rests q take.BadPartition s t h = same_rests s t h.2
refused_rests q (take.AlreadyTaken k) s t h = same_rests s t h.3
refused_rests q (take.NotYet i w) s t h = missed_rests q i w s t h.2

-- what is out stays out
pub out_rests : (a : Arrived) (s t : End) → Rests s t → IsOut a s → IsOut a t
out_rests a s t r h = record {
  geometry = h.geometry ∙ sym r.geometry;
  round = h.round ∙ sym r.round;
  out = subst (HasFlags true true a.partition) (sym r.lanes) h.out;
}

-- and so is what is kept of each partition
pub held_rests : (held : List (Option Arrived)) (s t : End) → Rests s t → AreHeld held s → AreHeld held t
held_rests held s t r h = λ q a at. let x = h q a at in (x.0, out_rests a s t r x.1)

-- another lane's flags don't matter
flagged_else : (t o : Bool) (q : ℕ) (ls : List Lane) (p : ℕ) → p ≢ q → get_elem? (flagged t o q ls) p ≡ get_elem? ls p
flagged_else t o q [] p n = refl
flagged_else t o zero (x ∷ xs) zero n = absurd (n refl)
flagged_else t o zero (x ∷ xs) (suc p) n = refl
flagged_else t o (suc q) (x ∷ xs) zero n = refl
flagged_else t o (suc q) (x ∷ xs) (suc p) n = flagged_else t o q xs p (λ e. n (ap suc e))

-- so a lane that is out has its flags still
flags_else : (t o : Bool) (q p : ℕ) (ls : List Lane) → p ≢ q → HasFlags true true p ls → HasFlags true true p (flagged t o q ls)
flags_else t o q p ls n h = record { lane = h.lane; at = flagged_else t o q ls p n ∙ h.at; taken = h.taken; out = h.out }

-- what is out stays so where another lane's flags changed
out_else : (t o : Bool) (q : ℕ) (a : Arrived) (s e : End) → e.view.geometry ≡ s.view.geometry → e.view.recv ≡ s.view.recv → e.lanes ≡ flagged t o q s.lanes → a.partition ≢ q → IsOut a s → IsOut a e
out_else t o q a s e g r l n h = record {
  geometry = h.geometry ∙ sym g;
  round = h.round ∙ sym (ap (λ (z : RecvSide). z.round) r);
  out = subst (HasFlags true true a.partition) (sym l) (flags_else t o q a.partition s.lanes n h.out);
}

-- a take keeps its arrival
pub held_took : (may : ℕ → ℕ → ℕ → Type 0) (q : ℕ) (a : Arrived) (held : List (Option Arrived)) (s t : End) → Takes may q a s t → IsOut a t → q < length held → AreHeld held s → AreHeld (set held q (Some a)) t
held_took may q a held s t takes out room h p b at =
    elim (cases_eq p q) [
      | inl same ↦
          let e : Some a ≡ Some b = sym (get_or-set_same held q (Some a) None room) ∙ ap (λ (z : ℕ). get_or (set held q (Some a)) z None) (sym same) ∙ at in
          let is : a ≡ b = same_Some a b e in
          (ap (λ (z : Arrived). z.partition) (sym is) ∙ ap (λ (z : Arrived). z.partition) takes.arrival ∙ sym same, subst (λ (z : Arrived). IsOut z t) is out)
      | inr apart ↦
          let x = h p b (sym (get_or-set_other held q p (Some a) None apart) ∙ at) in
          let r = seen_rests q s takes.at takes.looks in
          let y = out_rests b s takes.at r x.1 in
          (x.0, out_else true true q b takes.at t (ap (λ (z : End). z.view.geometry) takes.end) (ap (λ (z : End). z.view.recv) takes.end) (ap (λ (z : End). z.lanes) takes.end) (λ e. apart (sym x.0 ∙ e)) y)
    ]

-- a return keeps nothing of its partition, and the others are still out
pub held_gave : (q : ℕ) (held : List (Option Arrived)) (s : End) → q < length held → AreHeld held s → AreHeld (set held q None) (gave_back q s)
held_gave q held s room h p b at =
    elim (cases_eq p q) [
      | inl same ↦ absurd (none-some b (sym (get_or-set_same held q None None room) ∙ ap (λ (z : ℕ). get_or (set held q None) z None) (sym same) ∙ at))
      | inr apart ↦
          let x = h p b (sym (get_or-set_other held q p None None apart) ∙ at) in
          (x.0, out_else true false q b s (gave_back q s) refl refl refl (λ e. apart (sym x.0 ∙ e)) x.1)
    ]

-- a start that is refused since the end is active leaves all as it is
active_same : (s : End) → true ≡ is_active s.view → after_start s ≡ s
active_same s e = rw (← e) refl

-- so what is kept is out of it still
pub held_refused : (held : List (Option Arrived)) (s t : End) → true ≡ is_active s.view → t ≡ after_start s → AreHeld held s → AreHeld held t
held_refused held s t active end h = held_rests held s t (same_rests s t (end ∙ active_same s active)) h

-- what is kept of a partition may be dropped
pub held_dropped : (q : ℕ) (held : List (Option Arrived)) (s : End) → q < length held → AreHeld held s → AreHeld (set held q None) s
held_dropped q held s room h p b at =
    elim (cases_eq p q) [
      | inl same ↦ absurd (none-some b (sym (get_or-set_same held q None None room) ∙ ap (λ (z : ℕ). get_or (set held q None) z None) (sym same) ∙ at))
      | inr apart ↦ h p b (sym (get_or-set_other held q p None None apart) ∙ at)
    ]

-- nothing is kept where each place is empty
none_kept : (held : List (Option Arrived)) → All (λ (slot : Option Arrived). slot ≡ None) held → (q : ℕ) → get_or held q None ≡ None
none_kept [] none q = refl
none_kept (x ∷ xs) none zero = none 0 None (omega arith)
none_kept (x ∷ xs) none (suc q) = none_kept xs (λ k d h. none (suc k) d (omega arith)) q

-- so nothing that is kept has to be out
pub held_none : (held : List (Option Arrived)) (s : End) → All (λ (slot : Option Arrived). slot ≡ None) held → AreHeld held s
held_none held s none q a at = absurd (none-some a (sym (none_kept held none q) ∙ at))
