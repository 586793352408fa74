-- The words of a round that are stored one after another: one more store is one step more of the fold that says what is
-- stored.
use Rattle.std.proofs.Common.{◌≡◌, ℕ, ◌+◌, ◌%◌, ◌<◌, ap, ◌∙◌, sym, arith}
use Rattle.part_geometry.specs.Shape.{Shape, IsShape}
use Rattle.pair_rule.specs.Seats.{Held}
use Rattle.pair_rule.specs.Views.{stored_piece, stored_claim}
use Rattle.pair_rule.specs.declared.view.View.{View}
use Rattle.part_send.specs.Ends.{pieces_stored, claims_stored}
use Rattle.part_send.proofs.Ranges.{fold_more}

-- after the stores of i piece words, the next makes i + 1
pub one_more_piece : (k i : ℕ) (s t new : Held) → s ≡ record t { view = pieces_stored k i t.view } → new ≡ record s { view = stored_piece k i s.view }
    → new ≡ record t { view = pieces_stored k (i + 1) t.view }
one_more_piece k i s t new here step =
    step ∙ (ap (λ (z : Held). record z { view = stored_piece k i z.view }) here
    ∙ ap (λ (d : View). record t { view = d }) (sym (fold_more (λ (e : View) j. stored_piece k j e) t.view i)))

-- after those of c claim words, the next makes c + 1
pub one_more_claim : (c : ℕ) (s t new : Held) → s ≡ record t { view = claims_stored c t.view } → new ≡ record s { view = stored_claim c s.view }
    → new ≡ record t { view = claims_stored (c + 1) t.view }
one_more_claim c s t new here step =
    step ∙ (ap (λ (z : Held). record z { view = stored_claim c z.view }) here
    ∙ ap (λ (d : View). record t { view = d }) (sym (fold_more (λ (e : View) j. stored_claim j e) t.view c)))

-- the place of a round is below the depth
pub place_in : (k : ℕ) (g : Shape) → IsShape g → k % g.depth < g.depth
place_in k g v = let some = v.depth.0 in omega arith
