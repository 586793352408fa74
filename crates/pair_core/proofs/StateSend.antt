-- The sides as they stand after their steps. Of each step that stores, shuts, takes or gives back: what the code has
-- tested of the side that is kept allows it (`_allowed`), and what the code writes by its own values shows the core
-- after it (`_shown`).
use Rattle.std.proofs.Common.{◌≡◌, ◌⊎◌, ◌∙◌, ℕ, ◌+◌, ◌%◌, ◌<◌, ◌≤◌, ◌^◌, ◌/◌, ◌==◌, ◌∷◌, bit_or, ap, subst}
use Rattle.part_geometry.specs.declared.TheConstants.{LAST_ROUND}
use Rattle.part_geometry.specs.Shape.{Shape}
use Rattle.part_geometry.specs.Pieces.{pieces}
use Rattle.gate_word.specs.Words.{round_in}
use Rattle.pair_core.specs.Words.{empty}
use Rattle.pair_core.specs.Names.{Claim, Release, Take, Return, Piece, claim_words, take_words}
use Rattle.pair_core.specs.Core.{Core, Home, Out}
use Rattle.part_geometry.specs.Cells.{recv_of}
use Rattle.pair_core.specs.Moves.{IsAllowed, StorePiece, StoreClaim, StoreReturn, StoreTake, ShutClaim, StoreRelease, TakePart, ReturnPart, MayShut, AreSeen}
use Rattle.pair_core.specs.Reading.{part_bit}
use Rattle.pair_core.specs.Steps.{wrote, stores_piece, stores_claim, stores_return, stores_take, shuts_claim, releases, mark, put_slots, takes_part, returns_part}
use Rattle.pair_core.specs.State.{Plain}
use Rattle.pair_core.specs.declared.view.SendSide.{SendSide}
use Rattle.pair_core.specs.declared.view.RecvSide.{RecvSide}

-- the store of a piece word, the first of the next round or the next of this one
pub piece_allowed : (g : Shape) (s : Core Plain) (d : SendSide) (k i : ℕ) → d ≡ s.send → i < pieces g → k ≤ LAST_ROUND → k ≤ round_in (s.seen 0 Release) + g.depth
    → ((i ≡ 0) × (d.shut ≡ claim_words g) × (k ≡ d.round + 1)) ⊎ ((1 ≤ i) × (i ≡ d.pieces) × (k ≡ d.round)) → IsAllowed g s (StorePiece k i)
piece_allowed g s d k i e inside last room next =
    (inside, last, room, subst (λ (d : SendSide). ((i ≡ 0) × (d.shut ≡ claim_words g) × (k ≡ d.round + 1)) ⊎ ((1 ≤ i) × (i ≡ d.pieces) × (k ≡ d.round))) e next)

-- and the state after it
pub piece_shown : (g : Shape) (Shown : Core Plain → Type 0) (s : Core Plain) (d : SendSide) (place k i w : ℕ) → d ≡ s.send → w ≡ empty k → place ≡ k % g.depth
    → Shown (record (wrote 0 (Piece place i) w s) { send = record { round = k; pieces = i + 1; opened = 0; shut = 0; markers = d.markers } }) → Shown (stores_piece g k i s)
piece_shown g Shown s d place k i w e is there shown =
    subst (λ (d : SendSide). Shown (record (wrote 0 (Piece (k % g.depth) i) (empty k) s) { send = record { round = k; pieces = i + 1; opened = 0; shut = 0; markers = d.markers } })) e
    (subst (λ (z : ℕ). Shown (record (wrote 0 (Piece z i) (empty k) s) { send = record { round = k; pieces = i + 1; opened = 0; shut = 0; markers = d.markers } })) there
    (subst (λ (z : ℕ). Shown (record (wrote 0 (Piece place i) z s) { send = record { round = k; pieces = i + 1; opened = 0; shut = 0; markers = d.markers } })) is shown))

-- the store of a claim word
pub claim_allowed : (g : Shape) (s : Core Plain) (d : SendSide) (k c : ℕ) → d ≡ s.send → (c < claim_words g) × (k ≡ d.round) × (d.pieces ≡ pieces g) × (c ≡ d.opened) → IsAllowed g s (StoreClaim k c)
claim_allowed g s d k c e next = subst (λ (d : SendSide). (c < claim_words g) × (k ≡ d.round) × (d.pieces ≡ pieces g) × (c ≡ d.opened)) e next

-- and the state after it
pub claim_shown : (Shown : Core Plain → Type 0) (s : Core Plain) (d : SendSide) (k c w : ℕ) → d ≡ s.send → w ≡ empty k → k ≡ d.round
    → Shown (record (wrote 0 (Claim c) w s) { send = record d { opened = c + 1 } }) → Shown (stores_claim c s)
claim_shown Shown s d k c w e is now shown =
    subst (λ (d : SendSide). Shown (record (wrote 0 (Claim c) (empty s.send.round) s) { send = record d { opened = c + 1 } })) e
    (subst (λ (z : ℕ). Shown (record (wrote 0 (Claim c) z s) { send = record d { opened = c + 1 } })) (is ∙ ap empty (now ∙ ap (λ (z : SendSide). z.round) e)) shown)

-- the store of a return word, the first of the next round or the next of this one
pub return_allowed : (g : Shape) (s : Core Plain) (d : RecvSide) (k t : ℕ) → d ≡ s.recv → t < take_words g → k ≤ LAST_ROUND
    → ((t ≡ 0) × (d.released ≡ 1) × (k ≡ d.round + 1)) ⊎ ((1 ≤ t) × (t ≡ d.returns) × (k ≡ d.round)) → IsAllowed g s (StoreReturn k t)
return_allowed g s d k t e inside last next =
    (inside, last, subst (λ (d : RecvSide). ((t ≡ 0) × (d.released ≡ 1) × (k ≡ d.round + 1)) ⊎ ((1 ≤ t) × (t ≡ d.returns) × (k ≡ d.round))) e next)

-- and the state after it
pub return_shown : (Shown : Core Plain → Type 0) (s : Core Plain) (d : RecvSide) (k t w : ℕ) → d ≡ s.recv → w ≡ empty k
    → Shown (record (wrote 1 (Return t) w s) { recv = record { round = k; returns = t + 1; takes = 0; released = 0; watchers = d.watchers } }) → Shown (stores_return k t s)
return_shown Shown s d k t w e is shown =
    subst (λ (d : RecvSide). Shown (record (wrote 1 (Return t) (empty k) s) { recv = record { round = k; returns = t + 1; takes = 0; released = 0; watchers = d.watchers } })) e
    (subst (λ (z : ℕ). Shown (record (wrote 1 (Return t) z s) { recv = record { round = k; returns = t + 1; takes = 0; released = 0; watchers = d.watchers } })) is shown)

-- the store of a take word
pub take_allowed : (g : Shape) (s : Core Plain) (d : RecvSide) (k t : ℕ) → d ≡ s.recv → (t < take_words g) × (k ≡ d.round) × (d.returns ≡ take_words g) × (t ≡ d.takes) → IsAllowed g s (StoreTake k t)
take_allowed g s d k t e next = subst (λ (d : RecvSide). (t < take_words g) × (k ≡ d.round) × (d.returns ≡ take_words g) × (t ≡ d.takes)) e next

-- and the state after it
pub take_shown : (Shown : Core Plain → Type 0) (s : Core Plain) (d : RecvSide) (k t w : ℕ) → d ≡ s.recv → w ≡ empty k → k ≡ d.round
    → Shown (record (wrote 1 (Take t) w s) { recv = record d { takes = t + 1 } }) → Shown (stores_take t s)
take_shown Shown s d k t w e is now shown =
    subst (λ (d : RecvSide). Shown (record (wrote 1 (Take t) (empty s.recv.round) s) { recv = record d { takes = t + 1 } })) e
    (subst (λ (z : ℕ). Shown (record (wrote 1 (Take t) z s) { recv = record d { takes = t + 1 } })) (is ∙ ap empty (now ∙ ap (λ (z : RecvSide). z.round) e)) shown)

-- the shutting of a claim word: the first asks what the send side has seen
pub shut_allowed : (g : Shape) (s : Core Plain) (d : SendSide) (c : ℕ) → d ≡ s.send → (c < claim_words g) × (d.opened ≡ claim_words g) × (c ≡ d.shut) → (c ≡ 0 → MayShut g (s.seen 0) s.send.round)
    → IsAllowed g s (ShutClaim c)
shut_allowed g s d c e next may =
    let t = subst (λ (d : SendSide). (c < claim_words g) × (d.opened ≡ claim_words g) × (c ≡ d.shut)) e next in (t.0, t.1, t.2, may)

-- and the state after it
pub shut_shown : (Shown : Core Plain → Type 0) (s : Core Plain) (d : SendSide) (c v w : ℕ) → d ≡ s.send → v ≡ s.word (Claim c) → w ≡ bit_or v (2 ^ 32)
    → Shown (record (wrote 0 (Claim c) w s) { send = record d { shut = c + 1 } }) → Shown (shuts_claim c s)
shut_shown Shown s d c v w e was is shown =
    subst (λ (d : SendSide). Shown (record (wrote 0 (Claim c) (bit_or (s.word (Claim c)) (2 ^ 32)) s) { send = record d { shut = c + 1 } })) e
    (subst (λ (z : ℕ). Shown (record (wrote 0 (Claim c) z s) { send = record d { shut = c + 1 } })) (is ∙ ap (λ (z : ℕ). bit_or z (2 ^ 32)) was) shown)

-- the release, where each partition is taken and given back
pub release_allowed : (g : Shape) (s : Core Plain) (d : RecvSide) (k : ℕ) → d ≡ s.recv → k ≡ d.round → (d.takes ≡ take_words g) × (d.released ≡ 0)
    → ((q : ℕ) → q < g.recv_parts → (part_bit (λ t. s.word (Take t)) q ≡ 1) × (part_bit (λ t. s.word (Return t)) q ≡ 1)) → IsAllowed g s (StoreRelease k)
release_allowed g s d k e now active back =
    (now ∙ ap (λ (z : RecvSide). z.round) e, subst (λ (z : RecvSide). (z.takes ≡ take_words g) × (z.released ≡ 0)) e active, back)

-- and the state after it
pub release_shown : (Shown : Core Plain → Type 0) (s : Core Plain) (d : RecvSide) (k w : ℕ) → d ≡ s.recv → w ≡ empty k → k ≡ d.round
    → Shown (record (wrote 1 Release w s) { recv = record d { released = 1 } }) → Shown (releases s)
release_shown Shown s d k w e is now shown =
    subst (λ (d : RecvSide). Shown (record (wrote 1 Release (empty s.recv.round) s) { recv = record d { released = 1 } })) e
    (subst (λ (z : ℕ). Shown (record (wrote 1 Release z s) { recv = record d { released = 1 } })) (is ∙ ap empty (now ∙ ap (λ (z : RecvSide). z.round) e)) shown)

-- the take of a partition that isn't taken, whose pieces were seen full
pub taken_allowed : (g : Shape) (s : Core Plain) (d : RecvSide) (q : ℕ) → d ≡ s.recv → q < g.recv_parts → (d.takes ≡ take_words g) × (d.released ≡ 0) → part_bit (λ t. s.word (Take t)) q ≡ 0
    → AreSeen g (s.seen 1) d.round q → IsAllowed g s (TakePart q tt)
taken_allowed g s d q e low active free seen =
    (low, subst (λ (z : RecvSide). (z.takes ≡ take_words g) × (z.released ≡ 0)) e active, free, subst (λ (z : RecvSide). AreSeen g (s.seen 1) z.round q) e seen)

-- and the state after it
pub taken_shown : (g : Shape) (Shown : Core Plain → Type 0) (s : Core Plain) (d : RecvSide) (place q v w : ℕ) → d ≡ s.recv → place ≡ d.round % g.depth → v ≡ s.word (Take (q / 32)) → w ≡ bit_or v (2 ^ (q % 32))
    → Shown (wrote 1 (Take (q / 32)) w (record s { slot = put_slots s.slot place (λ c. recv_of g c == q) (Out 1); takes = mark d.round q tt ∷ s.takes })) → Shown (takes_part g q tt s)
taken_shown g Shown s d place q v w e there was is shown =
    subst (λ (d : RecvSide). Shown (wrote 1 (Take (q / 32)) (bit_or (s.word (Take (q / 32))) (2 ^ (q % 32))) (record s { slot = put_slots s.slot (d.round % g.depth) (λ c. recv_of g c == q) (Out 1); takes = mark d.round q tt ∷ s.takes }))) e
    (subst (λ (z : ℕ). Shown (wrote 1 (Take (q / 32)) (bit_or (s.word (Take (q / 32))) (2 ^ (q % 32))) (record s { slot = put_slots s.slot z (λ c. recv_of g c == q) (Out 1); takes = mark d.round q tt ∷ s.takes }))) there
    (subst (λ (z : ℕ). Shown (wrote 1 (Take (q / 32)) z (record s { slot = put_slots s.slot place (λ c. recv_of g c == q) (Out 1); takes = mark d.round q tt ∷ s.takes }))) (is ∙ ap (λ (z : ℕ). bit_or z (2 ^ (q % 32))) was) shown))

-- the giving back of a partition that is taken and isn't given back
pub back_allowed : (g : Shape) (s : Core Plain) (d : RecvSide) (q : ℕ) → d ≡ s.recv → q < g.recv_parts → (d.takes ≡ take_words g) × (d.released ≡ 0) → part_bit (λ t. s.word (Take t)) q ≡ 1
    → part_bit (λ t. s.word (Return t)) q ≡ 0 → IsAllowed g s (ReturnPart q)
back_allowed g s d q e low active taken free = (low, subst (λ (z : RecvSide). (z.takes ≡ take_words g) × (z.released ≡ 0)) e active, taken, free)

-- and the state after it
pub back_shown : (g : Shape) (Shown : Core Plain → Type 0) (s : Core Plain) (d : RecvSide) (place q v w : ℕ) → d ≡ s.recv → place ≡ d.round % g.depth → v ≡ s.word (Return (q / 32)) → w ≡ bit_or v (2 ^ (q % 32))
    → Shown (wrote 1 (Return (q / 32)) w (record s { slot = put_slots s.slot place (λ c. recv_of g c == q) (Home d.round) })) → Shown (returns_part g q s)
back_shown g Shown s d place q v w e there was is shown =
    subst (λ (d : RecvSide). Shown (wrote 1 (Return (q / 32)) (bit_or (s.word (Return (q / 32))) (2 ^ (q % 32))) (record s { slot = put_slots s.slot (d.round % g.depth) (λ c. recv_of g c == q) (Home d.round) }))) e
    (subst (λ (z : ℕ). Shown (wrote 1 (Return (q / 32)) (bit_or (s.word (Return (q / 32))) (2 ^ (q % 32))) (record s { slot = put_slots s.slot z (λ c. recv_of g c == q) (Home d.round) }))) there
    (subst (λ (z : ℕ). Shown (wrote 1 (Return (q / 32)) z (record s { slot = put_slots s.slot place (λ c. recv_of g c == q) (Home d.round) }))) (is ∙ ap (λ (z : ℕ). bit_or z (2 ^ (q % 32))) was) shown))
