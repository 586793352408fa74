-- No call of the send side changes which geometry its seat has: each changes other parts of the view, and a start, a
-- range and a list do so step by step.
use Rattle.std.proofs.Common.{◌≡◌, ℕ, List, [], ◌∷◌, fold, take, Result, Ok, Err, refl, ap, ◌∙◌, subst}
use Rattle.std.specs.Prelude.{IfOk}
use Rattle.std.specs.List.{range_with_len}
use Rattle.part_geometry.specs.declared.answers.Marked.{Marked}
use Rattle.part_geometry.specs.declared.answers.Marks.{Marks}
use Rattle.part_geometry.specs.declared.answers.StartFault.{StartFault}
use Rattle.part_geometry.specs.Pieces.{pieces}
use Rattle.pair_core.specs.Names.{claim_words}
use Rattle.pair_rule.specs.Views.{stored_piece, stored_claim}
use Rattle.pair_rule.specs.declared.view.View.{View}
use Rattle.part_send.specs.Ends.{after_start, pieces_stored, claims_stored}
use Rattle.part_send.specs.Many.{AreMarked, TellsMany}
use Rattle.part_send.specs.Marking.{Tells}
use Rattle.part_send.specs.Testing.{TestTells}
use Rattle.part_send.specs.declared.answers.ReadyRefusal.{ReadyRefusal}
use Rattle.part_send.specs.declared.answers.ReadyRefusal.TheVariants.{BadPartition, BadLength, NotActive, AlreadyMarked, BadRange}
use Rattle.part_send.specs.declared.answers.ReadyStop.{ReadyStop}
use Rattle.part_send.specs.declared.answers.SendTest.{SendTest}
use Rattle.part_send.specs.declared.answers.SendTest.TheVariants.{Idle, Unmarked, Unsent, Unreleased, Done}

abbrev Same : View → View → Type 0
Same d e = e.geometry ≡ d.geometry

-- what holds of an accepted result holds of its value
pub ok_is : {T E : Type 0} (r : Result T E) (x : T) (P : T → Type 0) → r ≡ Ok x → IfOk r P → P x
ok_is r x P e h = subst (λ z. IfOk z P) e h

-- a mark
pub mark_same : (d e : View) (k p : ℕ) (b : List ℕ) (n : ℕ) (r : Result Marked ReadyRefusal) → Tells d e k p b n r → Same d e
mark_same d e k p b n (Ok m) h = ap (λ (z : View). z.geometry) h.view
mark_same d e k p b n (Err BadPartition) h = ap (λ (z : View). z.geometry) h.2
mark_same d e k p b n (Err BadLength) h = ap (λ (z : View). z.geometry) h.2
mark_same d e k p b n (Err (NotActive w)) h = ap (λ (z : View). z.geometry) h.view
mark_same d e k p b n (Err (AlreadyMarked w)) h = ap (λ (z : View). z.geometry) h.view
mark_same d e k p b n (Err BadRange) h = ap (λ (z : View). z.geometry) h.view

-- the marks of a range or a list
marks_same : (k : ℕ) (d : View) (es : List (ℕ × List ℕ)) (sent : ℕ) (f : View) → AreMarked k d es sent f → Same d f
marks_same k d [] sent f h = ap (λ (z : View). z.geometry) h.0
marks_same k d (x ∷ xs) sent f h = marks_same k h.0 xs h.4 f h.5 ∙ ap (λ (z : View). z.geometry) h.3.view

-- a range or a list, whether it was stopped or not
pub many_same : (d e : View) (k : ℕ) (es : List (ℕ × List ℕ)) (r : Result Marks ReadyStop) → TellsMany d e k es r → Same d e
many_same d e k es (Ok m) h = marks_same k d es m.sent e h.2
many_same d e k es (Err stop) h = mark_same h.between e k h.next.0 h.next.1 h.steps (Err stop.cause) h.refused ∙ marks_same k d (take stop.at es) h.sent h.between h.marked

-- a test
pub test_same : (d e : View) (r : SendTest) → TestTells d e r → Same d e
test_same d e Idle h = ap (λ (z : View). z.geometry) h.1
test_same d e (Unmarked p w) h = ap (λ (z : View). z.geometry) h.1.same
test_same d e (Unsent i w) h = ap (λ (z : View). z.geometry) h.1.same
test_same d e (Unreleased r) h = ap (λ (z : View). z.geometry) h.1.same
test_same d e Done h = ap (λ (z : View). z.geometry) h.1.view

-- steps that each leave it, one after another
fold_same : (f : View → ℕ → View) → ((d : View) (i : ℕ) → Same d (f d i)) → (xs : List ℕ) (d : View) → Same d (fold f d xs)
fold_same f h [] d = refl
fold_same f h (x ∷ xs) d = fold_same f h xs (f d x) ∙ h d x

-- the stores of piece words
pieces_same : (k n : ℕ) (d : View) → Same d (pieces_stored k n d)
pieces_same k n d = fold_same (λ e i. stored_piece k i e) (λ e i. refl) (range_with_len 0 n) d

-- and of claim words
claims_same : (n : ℕ) (d : View) → Same d (claims_stored n d)
claims_same n d = fold_same (λ e c. stored_claim c e) (λ e c. refl) (range_with_len 0 n) d

-- a start, refused or not
pub start_same : (d : View) (r : Result ℕ StartFault) → Same d (after_start d r)
start_same d (Ok k) =
    claims_same (claim_words d.geometry) (pieces_stored k (pieces d.geometry) d) ∙ pieces_same k (pieces d.geometry) d
start_same d (Err fault) = refl
