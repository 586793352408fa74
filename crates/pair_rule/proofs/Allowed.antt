-- What a seat may do by its own view, the core allows: the view shows the core's view of its number.
use Rattle.std.proofs.Common.{◌≡◌, ◌⊎◌, ℕ, ◌+◌, ◌%◌, ◌/◌, ◌<◌, ◌≤◌, Bool, List, get_or, sym, ap, ◌∙◌, subst, arith}
use Rattle.gate_word.specs.Words.{round_in}
use Rattle.part_geometry.specs.Shape.{Shape, IsShape}
use Rattle.part_geometry.specs.Pieces.{pieces}
use Rattle.pair_core.specs.Words.{bit}
use Rattle.pair_core.specs.Names.{Name, Claim, Release, Take, Return, Piece, Fits, number, claim_words, take_words}
use Rattle.pair_core.specs.Reading.{part_bit, IsFull}
use Rattle.pair_core.specs.Moves.{Move, StorePiece, StoreClaim, LoadClaim, LoadPiece, LoadRelease, ShutClaim, TryClaim, LayPiece, StoreReturn, StoreTake, TakePart, ReturnPart, StoreRelease, Split, Rise, Join, IsAllowed, IsSendIdle, IsRecvIdle, IsRecvActive, MayShut, MayClaim, AreSeen}
use Rattle.pair_core.specs.Sound.{Sound}
use Rattle.pair_core.specs.declared.view.SendSide.{SendSide}
use Rattle.pair_core.specs.declared.view.RecvSide.{RecvSide}
use Rattle.pair_core.specs.declared.view.Life.TheVariants.{Live, Spent}
use Rattle.pair_rule.specs.Rule.{Shown, Agrees}
use Rattle.pair_rule.specs.Views.{seen}
use Rattle.pair_rule.specs.Steps.{MayMake}
use Rattle.pair_rule.specs.declared.view.View.{View}

-- the word of a partition is one of the pair's
pub word_there : (p n : ℕ) → p < n → p / 32 < (n + 31) / 32
word_there p n h = omega arith

-- the place of a round is one of the depth's
pub place_there : (k depth : ℕ) → 1 ≤ depth → k % depth < depth
place_there k depth positive = omega arith

module _ (g : Shape) (v : IsShape g) (c : Shown) (alone : Bool) (markers watchers : ℕ) (seat : ℕ → ℕ) (id : ℕ) (d : View) (a : Agrees g c alone markers watchers seat id d) where
  -- what the view has seen is what the core's view has seen
  pub seen_same : (x : Name) → Fits g x → seen d x ≡ c.seen d.number x
  seen_same x fits = ap (λ (z : Shape). get_or d.seen (number z x) 0) a.geometry ∙ a.seen_is x fits

  -- the same, by its number
  pub seen_of : (n : ℕ) → d.number ≡ n → (x : Name) → Fits g x → seen d x ≡ c.seen n x
  seen_of n e x fits = seen_same x fits ∙ ap (λ (z : ℕ). c.seen z x) e

  -- a seat of the table isn't spent
  pub unspent : (n : ℕ) → d.number ≡ n → (c.life n ≡ Spent) → ⊥
  unspent n e gone = let l : c.life n ≡ Live = ap c.life (sym e) ∙ a.live in absurd (cc)

  -- the claim word, take word and piece word of what the geometry has are there
  pub claim_there : (p : ℕ) → p < g.send_parts → Fits g (Claim (p / 32))
  claim_there p h = word_there p g.send_parts h

  pub take_there : (q : ℕ) → q < g.recv_parts → q / 32 < take_words g
  take_there q h = word_there q g.recv_parts h

  pub piece_there : (k i : ℕ) → i < pieces g → Fits g (Piece (k % g.depth) i)
  piece_there k i h = (place_there k g.depth v.depth.0, h)

  module _ (m : ℕ) (e : d.number ≡ m) where
    claims_same : (p : ℕ) → p < g.send_parts → seen d (Claim (p / 32)) ≡ c.seen m (Claim (p / 32))
    claims_same p h = seen_of m e (Claim (p / 32)) (claim_there p h)

    may_shut : (k : ℕ) → MayShut g (seen d) k → MayShut g (c.seen m) k
    may_shut k h = record {
      claimed = λ p inside. let b = h.claimed p inside in let s = claims_same p inside in (sym (ap round_in s) ∙ b.0, sym (ap (λ (z : ℕ). bit z (p % 32)) s) ∙ b.1);
      full = λ i inside. subst (λ (z : ℕ). IsFull g z k i) (seen_of m e (Piece (k % g.depth) i) (piece_there k i inside)) (h.full i inside);
      room = subst (λ (z : ℕ). k < round_in z + g.depth) (seen_of m e Release tt) h.room;
    }

    are_seen : (k q : ℕ) → AreSeen g (seen d) k q → AreSeen g (c.seen m) k q
    are_seen k q h i inside touch = subst (λ (z : ℕ). IsFull g z k i) (seen_of m e (Piece (k % g.depth) i) (piece_there k i inside)) (h i inside touch)

    may_claim : (p : ℕ) → p < g.send_parts → MayClaim (seen d) p → MayClaim (c.seen m) p
    may_claim p inside h = let s = claims_same p inside in (sym (ap (λ (z : ℕ). bit z 32) s) ∙ h.0, sym (ap (λ (z : ℕ). bit z (p % 32)) s) ∙ h.1)

module _ (c : Shown) (alone : Bool) (markers watchers : ℕ) (seat : ℕ → ℕ) (id : ℕ) (d : View) (v : IsShape d.geometry) (sound : Sound d.geometry c) (a : Agrees d.geometry c alone markers watchers seat id d) where
  abbrev G : Shape
  G = d.geometry

  -- the receive side has seen its own words as they are
  own_take : (q : ℕ) → d.number ≡ 1 → q < G.recv_parts → part_bit (λ t. seen d (Take t)) q ≡ part_bit (λ t. c.word (Take t)) q
  own_take q e h = ap (λ (z : ℕ). bit z (q % 32)) (seen_of G v c alone markers watchers seat id d a 1 e (Take (q / 32)) (word_there q G.recv_parts h) ∙ sound.owns.takes (q / 32) (word_there q G.recv_parts h))

  own_return : (q : ℕ) → d.number ≡ 1 → q < G.recv_parts → part_bit (λ t. seen d (Return t)) q ≡ part_bit (λ t. c.word (Return t)) q
  own_return q e h = ap (λ (z : ℕ). bit z (q % 32)) (seen_of G v c alone markers watchers seat id d a 1 e (Return (q / 32)) (word_there q G.recv_parts h) ∙ sound.owns.returns (q / 32) (word_there q G.recv_parts h))

  send : d.number ≡ 0 → (P : SendSide → Type 0) → P d.send → P c.send
  send e P h = subst P (a.send_is e) h

  recv : d.number ≡ 1 → (P : RecvSide → Type 0) → P d.recv → P c.recv
  recv e P h = subst P (a.recv_is e) h

  -- what a seat may make by its view the core allows
  pub allowed_by : (m : Move (List ℕ)) → MayMake d m → IsAllowed G c m
  allowed_by (StorePiece k i) h = (
    h.1,
    h.2,
    subst (λ (z : ℕ). k ≤ round_in z + G.depth) (seen_of G v c alone markers watchers seat id d a 0 h.0 Release tt) h.3,
    send h.0 (λ z. ((i ≡ 0) × IsSendIdle G z × (k ≡ z.round + 1)) ⊎ ((1 ≤ i) × (i ≡ z.pieces) × (k ≡ z.round))) h.4,
  )
  allowed_by (StoreClaim k b) h = send h.0 (λ z. (b < claim_words G) × (k ≡ z.round) × (z.pieces ≡ pieces G) × (b ≡ z.opened)) (h.1, h.2, h.3, h.4)
  allowed_by (LoadClaim n b) h = (unspent G v c alone markers watchers seat id d a n h.0, h.1)
  allowed_by (LoadPiece n e i) h = (unspent G v c alone markers watchers seat id d a n h.0, h.1, h.2)
  allowed_by LoadRelease h = tt
  allowed_by (ShutClaim b) h = (
    h.1,
    send h.0 (λ z. z.opened ≡ claim_words G) h.2,
    send h.0 (λ z. b ≡ z.shut) h.3,
    λ none. may_shut G v c alone markers watchers seat id d a 0 h.0 c.send.round (send h.0 (λ z. MayShut G (seen d) z.round) (h.4 none)),
  )
  allowed_by (TryClaim n p b) h = (
    h.1,
    ap c.life (sym h.0) ∙ a.live,
    h.2,
    ap c.pending (sym h.0) ∙ (sym a.pending_is ∙ h.3),
    may_claim G v c alone markers watchers seat id d a n h.0 p h.2 h.4,
  )
  allowed_by (LayPiece n p i) h = let x = h.1 in (x.0, ap c.pending (sym h.0) ∙ (sym a.pending_is ∙ x.1), x.2)
  allowed_by (StoreReturn k t) h = (
    h.1,
    h.2,
    recv h.0 (λ z. ((t ≡ 0) × IsRecvIdle z × (k ≡ z.round + 1)) ⊎ ((1 ≤ t) × (t ≡ z.returns) × (k ≡ z.round))) h.3,
  )
  allowed_by (StoreTake k t) h = recv h.0 (λ z. (t < take_words G) × (k ≡ z.round) × (z.returns ≡ take_words G) × (t ≡ z.takes)) (h.1, h.2, h.3, h.4)
  allowed_by (TakePart q b) h = (
    h.1,
    recv h.0 (IsRecvActive G) h.2,
    sym (own_take q h.0 h.1) ∙ h.3,
    are_seen G v c alone markers watchers seat id d a 1 h.0 c.recv.round q (recv h.0 (λ z. AreSeen G (seen d) z.round q) h.4),
  )
  allowed_by (ReturnPart q) h = (h.1, recv h.0 (IsRecvActive G) h.2, sym (own_take q h.0 h.1) ∙ h.3, sym (own_return q h.0 h.1) ∙ h.4)
  allowed_by (StoreRelease k) h = (
    recv h.0 (λ z. k ≡ z.round) h.1,
    recv h.0 (IsRecvActive G) h.2,
    λ q inside. let b = h.3 q inside in (sym (own_take q h.0 inside) ∙ b.0, sym (own_return q h.0 inside) ∙ b.1),
  )
  allowed_by (Split n) h = absurd h
  allowed_by (Rise n w more) h = absurd h
  allowed_by (Join n) h = absurd h

-- where the table has the geometry of the view
pub may_make : (g : Shape) → IsShape g → (c : Shown) (alone : Bool) (markers watchers : ℕ) (seat : ℕ → ℕ) (id : ℕ) (d : View) → Sound g c → Agrees g c alone markers watchers seat id d
    → (m : Move (List ℕ)) → MayMake d m → IsAllowed g c m
may_make g v c alone markers watchers seat id d sound a m h =
    let here : g ≡ d.geometry = sym a.geometry in
    subst (λ (z : Shape). IsAllowed z c m) a.geometry
    (allowed_by c alone markers watchers seat id d (subst IsShape here v) (subst (λ (z : Shape). Sound z c) here sound)
    (subst (λ (z : Shape). Agrees z c alone markers watchers seat id d) here a) m h)
