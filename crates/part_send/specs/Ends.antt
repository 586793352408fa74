-- The send end and its markers, each by the view of its seat, as they are between two calls.
use Rattle.std.specs.Prelude.{◌≡◌, ℕ, ◌+◌, ◌<◌, Bool, false, ◌==◌, ◌&&◌, if◌then◌else◌, [], length, fold, Result}
use Rattle.std.specs.Prelude.{Ok, Err, None}
use Rattle.std.specs.List.{range_with_len}
use Rattle.part_geometry.specs.Shape.{IsShape}
use Rattle.part_geometry.specs.Pieces.{pieces}
use Rattle.part_geometry.specs.declared.TheConstants.{LAST_ROUND}
use Rattle.part_geometry.specs.declared.answers.StartFault.{StartFault}
use Rattle.part_geometry.specs.declared.answers.StartFault.TheVariants.{AlreadyActive, RoundsSpent}
use Rattle.pair_core.specs.Names.{Claim, claim_words}
use Rattle.pair_core.specs.Core.{IsMarker}
use Rattle.pair_core.specs.Moves.{IsSendIdle}
use Rattle.pair_core.specs.State.{word_count}
use Rattle.pair_rule.specs.Seats.{MarkHeld}
use Rattle.pair_rule.specs.Views.{seen, stored_piece, stored_claim}
use Rattle.pair_rule.specs.declared.view.View.{View}

-- the send side is active: its round's claim words are open
abbrev pub is_active : View → Bool
is_active d = (d.send.opened == claim_words d.geometry) && (d.send.shut == 0)

-- a send end knows whether it is active, is idle where it isn't, and counts its markers
pub record IsEnd (d : View) (active : Bool) (out : ℕ) : Type 0 where
  pub shape : IsShape d.geometry
  pub active_is : active ≡ is_active d
  pub idle : active ≡ false → IsSendIdle d.geometry d.send
  pub markers : d.send.markers ≡ out

-- a view has a word and a count of looks for each word of the pair
pub record IsWide (d : View) : Type 0 where
  pub words : length d.seen ≡ word_count d.geometry
  pub counts : length d.looks ≡ word_count d.geometry

-- no claim of a marker pends, and no slot is out with it
pub record IsFree (s : MarkHeld) : Type 0 where
  pub shape : IsShape s.view.geometry
  pub marker : IsMarker s.view.number
  pub none : s.view.pending ≡ None
  pub home : s.out ≡ []
  pub wide : IsWide s.view

-- where n is the number of a claim word, the view has seen that word as w
abbrev pub IsTold : View → ℕ → ℕ → Type 0
IsTold d n w = n < claim_words d.geometry → seen d (Claim n) ≡ w

-- a start is refused where the side is active, or has had all rounds, and else gives the next round
abbrev pub start_answer : View → Result ℕ StartFault
start_answer d =
    if is_active d then Err (AlreadyActive d.send.round) else (
    if d.send.round == LAST_ROUND then Err RoundsSpent else Ok (d.send.round + 1))

-- the first n piece words are stored for round k, in order; then the first n claim words are stored for the side's
-- round
abbrev pub pieces_stored : ℕ → ℕ → View → View
pieces_stored k n d = fold (λ e i. stored_piece k i e) d (range_with_len 0 n)

abbrev pub claims_stored : ℕ → View → View
claims_stored n d = fold (λ e c. stored_claim c e) d (range_with_len 0 n)

-- round k is started: each piece word is stored for it, and then each claim word
abbrev pub started : ℕ → View → View
started k d = claims_stored (claim_words d.geometry) (pieces_stored k (pieces d.geometry) d)

-- the view after a start
abbrev pub after_start : View → Result ℕ StartFault → View
after_start d (Ok k) = started k d
after_start d (Err _) = d
