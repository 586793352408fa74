-- What holds of the send side's view holds after each of its steps: the release word that it has seen only rises, and the first claim
-- word of a round is shut where that word has room for the next round.
use Rattle.std.proofs.Common.{◌≡◌, ◌≢◌, ℕ, zero, suc, ◌+◌, ◌*◌, ◌%◌, ◌<◌, ◌≤◌, Bool, false, ◌==◌, ◌&&◌, nat_lt, List, [], length, get_or, inl, inr, refl, sym, ap, ◌∙◌, subst, arith, length-set}
use Rattle.std.specs.Prelude.{if◌then◌else◌}
use Rattle.std.proofs.lemmas.List.{get_or-set_same, length-replicate}
use Rattle.std.proofs.lemmas.List.FromFn.{length-map-range_with_len, get_or-map-range_with_len}
use Rattle.gate_word.specs.Words.{round_in}
use Rattle.gate_word.specs.Order.{IsLater, join_of}
use Rattle.gate_word.proofs.Laws.{least}
use Rattle.part_geometry.specs.declared.TheConstants.{LAST_ROUND}
use Rattle.part_geometry.specs.Shape.{Shape, IsShape}
use Rattle.part_geometry.specs.Pieces.{pieces}
use Rattle.pair_core.specs.Words.{empty}
use Rattle.pair_core.specs.Names.{Name, Claim, Release, Piece, Fits, number, claim_words, take_words}
use Rattle.pair_core.specs.Moves.{StorePiece, StoreClaim, ShutClaim}
use Rattle.pair_core.specs.State.{word_count}
use Rattle.pair_core.specs.declared.view.Mark.{Mark}
use Rattle.pair_core.specs.declared.view.SendSide.{SendSide}
use Rattle.pair_core.proofs.Facts.{number_lt}
use Rattle.pair_rule.specs.First.{first_view, in_company, with_marker, with_marker_back}
use Rattle.pair_rule.specs.Views.{seen, saw, told, told_word, is_own, stored_piece, stored_claim, shut_claim}
use Rattle.pair_rule.specs.Seats.{IsSendView}
use Rattle.pair_rule.specs.Steps.{MayMake, Seat}
use Rattle.pair_rule.specs.declared.view.View.{View}
use Rattle.pair_rule.specs.declared.view.Standing.TheVariants.{Seated}
use Rattle.pair_rule.proofs.FirstFacts.{first_words-length}
use Rattle.pair_rule.proofs.LanesStay.{seen_else}

-- what a send seat that keeps round k says of its seat of the table
abbrev pub IsSending : ℕ → Seat → Type 0
IsSending k z = (z.0.standing ≡ Seated) × (z.0.number ≡ 0) × (z.1 ≡ []) × (z.0.alone ≡ false) × IsSendView z.0 × (k ≡ z.0.send.round)

-- the round of a later word is no less
round_rises : (a b : ℕ) → IsLater a b → round_in a ≤ round_in b
round_rises a b (inl less) = omega arith
round_rises a b (inr same) = let e = same.round in omega arith

-- the same view, where it has seen these words, looked so often, made so many markers, come so far and has these marks
abbrev seeing : View → List ℕ → List ℕ → ℕ → SendSide → List (Mark (List ℕ)) → View
seeing d words often made side marks = record d { seen = words; looks = often; made = made; send = side; marks = marks }

send_seeing : (d : View) (words often : List ℕ) (made : ℕ) (side : SendSide) (marks : List (Mark (List ℕ))) → length words ≡ length d.seen → length often ≡ length d.looks → side.round ≤ LAST_ROUND
    → (1 ≤ side.shut → side.round < round_in (get_or words (number d.geometry Release) 0) + d.geometry.depth) → IsSendView d → IsSendView (seeing d words often made side marks)
send_seeing d words often made side marks size times small room v = record { number = v.number; words = size ∙ v.words; counts = times ∙ v.counts; limit = small; room = room }

-- it looked at a word or wrote one, and came so far in its round
send_saw : (d : View) (x : Name) (w : ℕ) (side : SendSide) → side.round ≤ LAST_ROUND → (1 ≤ side.shut → side.round < round_in (seen (saw x w d) Release) + d.geometry.depth)
    → IsSendView d → IsSendView (record (saw x w d) { send = side })
send_saw d x w side small room v =
    send_seeing d (saw x w d).seen (saw x w d).looks d.made side d.marks (length-set d.seen (number d.geometry x) w) (length-set d.looks (number d.geometry x) (get_or d.looks (number d.geometry x) 0 + 1)) small room v

-- another word than the release word leaves what it has seen of that one
send_room : (d : View) (x : Name) (w k : ℕ) → Fits d.geometry x → Release ≢ x → k < round_in (seen d Release) + d.geometry.depth → k < round_in (seen (saw x w d) Release) + d.geometry.depth
send_room d x w k fits other = subst (λ (z : ℕ). k < round_in z + d.geometry.depth) (sym (seen_else d x Release w fits tt other))

-- after a look at any other word
pub send_looks : (d : View) (x : Name) (w : ℕ) → Fits d.geometry x → Release ≢ x → IsSendView d → IsSendView (saw x w d)
send_looks d x w fits other v = send_saw d x w d.send v.limit (λ shut. send_room d x w d.send.round fits other (v.room shut)) v

-- after a look at a claim word
pub send_looks_claim : (d : View) (c w : ℕ) → c < claim_words d.geometry → IsSendView d → IsSendView (saw (Claim c) w d)
send_looks_claim d c w there = send_looks d (Claim c) w there (λ e. absurd (cc))

-- after a look at a piece's word
pub send_looks_piece : (d : View) (e i w : ℕ) → e < d.geometry.depth → i < pieces d.geometry → IsSendView d → IsSendView (saw (Piece e i) w d)
send_looks_piece d e i w deep there = send_looks d (Piece e i) w (deep, there) (λ e. absurd (cc))

-- after a look at the release word
pub send_learns : (d : View) (w : ℕ) → IsLater (seen d Release) w → IsSendView d → IsSendView (saw Release w d)
send_learns d w later v =
    let at = get_or-set_same d.seen (number d.geometry Release) w 0 (subst (λ (z : ℕ). number d.geometry Release < z) (sym v.words) (number_lt d.geometry Release tt)) in
    send_saw d Release w d.send v.limit (λ shut.
    subst (λ (z : ℕ). d.send.round < round_in z + d.geometry.depth) (sym at) (let r = v.room shut in let up = round_rises (seen d Release) w later in omega arith)) v

-- after a piece's word is stored
pub send_stores_piece : (d : View) (k i : ℕ) → MayMake d (StorePiece k i) → IsSendView d → IsSendView (stored_piece k i d)
send_stores_piece d k i h v = send_saw d (Piece (k % d.geometry.depth) i) (empty k) (stored_piece k i d).send h.2 (λ shut. absurd (omega (arith, shut))) v

-- after a claim word is stored
pub send_stores_claim : (d : View) (k c : ℕ) → MayMake d (StoreClaim k c) → IsSendView d → IsSendView (stored_claim c d)
send_stores_claim d k c h v =
    send_saw d (Claim c) (empty d.send.round) (stored_claim c d).send v.limit (λ shut. send_room d (Claim c) (empty d.send.round) d.send.round h.1 (λ e. absurd (cc)) (v.room shut)) v

-- the first word is shut where there is room, another one where one was shut before
shut_room : (d : View) (c : ℕ) → MayMake d (ShutClaim c) → IsSendView d → d.send.round < round_in (seen d Release) + d.geometry.depth
shut_room d zero h v = (h.4 refl).room
shut_room d (suc c) h v = v.room (let e = h.3 in omega arith)

-- after a claim word is shut
pub send_shuts : (d : View) (c w : ℕ) → MayMake d (ShutClaim c) → IsSendView d → IsSendView (shut_claim c w d)
send_shuts d c w h v = send_saw d (Claim c) w (shut_claim c w d).send v.limit (λ shut. send_room d (Claim c) w d.send.round h.1 (λ e. absurd (cc)) (shut_room d c h v)) v

-- what it is told of the release word is joined to what it has seen
told_release : (d e : View) → d.number ≡ 0 → seen (told d e) Release ≡ join_of (seen d Release) (get_or e.seen (number d.geometry Release) 0)
told_release d e zeroth =
    let n : ℕ = number d.geometry Release in
    let other : is_own d n ≡ false = ap (λ (z : ℕ). (z == 1) && (nat_lt (claim_words d.geometry) n && nat_lt n (claim_words d.geometry + 1 + 2 * take_words d.geometry))) zeroth in
    get_or-map-range_with_len (told_word d e) 0 (word_count d.geometry) n n 0 (number_lt d.geometry Release tt) (let z : 0 + n ≡ n = omega arith in z)
    ∙ ap (λ (b : Bool). if b then get_or d.seen n 0 else join_of (get_or d.seen n 0) (get_or e.seen n 0)) other

send_raised : (d e : View) (side : SendSide) (marks : List (Mark (List ℕ))) → side.round ≡ d.send.round → side.shut ≡ d.send.shut → IsSendView d → IsSendView (record (told d e) { send = side; marks = marks })
send_raised d e side marks same shut_same v =
    let up = round_rises (seen d Release) (seen (told d e) Release)
    (subst (IsLater (seen d Release)) (sym (told_release d e v.number)) (least (seen d Release) (get_or e.seen (number d.geometry Release) 0)).first) in
    send_seeing d (told d e).seen d.looks d.made side marks (length-map-range_with_len (told_word d e) 0 (word_count d.geometry) ∙ sym v.words) refl
    (let l = v.limit in omega arith) (λ shut. let r = v.room (omega arith) in omega arith) v

-- after it was told something
pub send_told : (d e : View) → IsSendView d → IsSendView (told d e)
send_told d e = send_raised d e d.send d.marks refl refl

-- after a marker was made
pub send_splits : (d : View) → IsSendView d → IsSendView (with_marker d)
send_splits d v = send_seeing d d.seen d.looks (with_marker d).made (with_marker d).send d.marks refl refl v.limit v.room v

-- after a marker was taken back
pub send_joins : (d e : View) → IsSendView d → IsSendView (with_marker_back d e)
send_joins d e = send_raised d e (with_marker_back d e).send (with_marker_back d e).marks refl refl

-- before the first step
pub first_send : (g : Shape) → IsShape g → IsSendView (in_company (first_view g))
first_send g v = record {
  number = refl;
  words = first_words-length g;
  counts = length-replicate (word_count g) 0;
  limit = omega arith;
  room = λ shut. let deep = v.depth.0 in omega arith;
}
