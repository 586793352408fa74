-- After a start the send end is still the pair's: the steps of a start don't change the geometry of a view, one after
-- another. And what threads promise that are still to be joined.
use Rattle.std.proofs.Common.{◌≡◌, ℕ, suc, List, [], ◌∷◌, fold, All, Result, Ok, Err, ap, refl, subst, arith, ◌∙◌}
use Rattle.std.specs.List.{range_with_len}
use Rattle.part_geometry.specs.Pieces.{pieces}
use Rattle.part_geometry.specs.declared.answers.StartFault.{StartFault}
use Rattle.pair_core.specs.Names.{claim_words}
use Rattle.pair_rule.specs.Seats.{Held, PairOf, IsOf}
use Rattle.pair_rule.specs.Views.{stored_piece, stored_claim}
use Rattle.pair_rule.specs.declared.view.View.{View}
use Rattle.part_send.specs.Ends.{after_start, pieces_stored}

-- steps that each keep the geometry keep it, one after another
fold_kept : (f : View → ℕ → View) → ((e : View) (i : ℕ) → (f e i).geometry ≡ e.geometry) → (xs : List ℕ) (d : View)
    → (fold f d xs).geometry ≡ d.geometry
fold_kept f keeps [] d = refl
fold_kept f keeps (x ∷ xs) d = fold_kept f keeps xs (f d x) ∙ keeps d x

-- a start keeps the geometry
start_kept : (d : View) (r : Result ℕ StartFault) → (after_start d r).geometry ≡ d.geometry
start_kept d (Ok k) =
    fold_kept (λ e c. stored_claim c e) (λ e c. refl) (range_with_len 0 (claim_words d.geometry))
    (pieces_stored k (pieces d.geometry) d)
    ∙ fold_kept (λ e i. stored_piece k i e) (λ e i. refl) (range_with_len 0 (pieces d.geometry)) d
start_kept d (Err _) = refl

-- an end that was the pair's before a start is the pair's after it
pub started_is_of : {T : Type 0} (pair : PairOf T) (old new : Held) (r : Result ℕ StartFault)
    → IsOf old.table old.view pair → new ≡ record old { view = after_start old.view r } → IsOf new.table new.view pair
started_is_of pair old new r is_of h = (
  ap (λ (s : Held). s.table) h ∙ is_of.0,
  ap (λ (s : Held). s.view.geometry) h ∙ (start_kept old.view r ∙ is_of.1),
)

-- what holds of all of a list holds of those behind the first
pub rest_all : {X : Type 0} (P : X → Type 0) (xs ys : List X) (x : X) → xs ≡ x ∷ ys → All P xs → All P ys
rest_all P xs ys x e all k d below = subst (All P) e all (suc k) d (omega arith)
