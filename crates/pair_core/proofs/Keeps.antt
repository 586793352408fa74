-- Every allowed move keeps soundness, and every list of them leads to a state that tells its history: kind by kind, and
-- then move by move.
use Rattle.std.proofs.Common.{◌≡◌, ℕ, ◌+◌, ◌-◌, ◌/◌, ◌%◌, ◌≤◌, Bool, true, false, ◌==◌, List, [], ◌∷◌, refl, sym, subst, arith}
use Rattle.gate_word.specs.Words.{round_in}
use Rattle.part_geometry.specs.Shape.{Shape, IsShape}
use Rattle.pair_core.specs.Names.{Claim, Release, Take, Piece}
use Rattle.pair_core.specs.Core.{Core}
use Rattle.pair_core.specs.Steps.{enters, entered, counted}
use Rattle.pair_core.specs.Reading.{laid, is_full}
use Rattle.part_geometry.specs.Pieces.{pieces}
use Rattle.pair_core.specs.Moves.{first_word, Move, StorePiece, StoreClaim, LoadClaim, LoadPiece, LoadRelease, ShutClaim, TryClaim, LayPiece, StoreReturn, StoreTake, TakePart, ReturnPart, StoreRelease, Split, Rise, Join, IsAllowed, after, first_state, joins, joined}
use Rattle.pair_core.specs.Sound.{Sound}
use Rattle.pair_core.specs.History as entry
use Rattle.pair_core.specs.History.{Entry, Has, IsInOrder, Happened, entries}
use Rattle.pair_core.specs.declared.view.Life.{Life}
use Rattle.pair_core.specs.declared.view.Life.TheVariants.{Blank, Live, Spent}
use Rattle.pair_core.proofs.Start.{starts_sound, part_round, part_there, piece_full, zero_word}
use Rattle.pair_core.proofs.SendPiece.{stores_piece_keeps}
use Rattle.pair_core.proofs.SendClaim.{stores_claim_keeps, shuts_claim_keeps}
use Rattle.pair_core.proofs.Claims.{tries_claim_keeps}
use Rattle.pair_core.proofs.Lays.{lays_piece_keeps}
use Rattle.pair_core.proofs.ReceiveOpens.{stores_return_keeps, stores_take_keeps}
use Rattle.pair_core.proofs.ReceiveTakes.{take_part_keeps}
use Rattle.pair_core.proofs.ReceiveEnds.{return_part_keeps, store_release_keeps}
use Rattle.pair_core.proofs.Enters.{split_keeps, load_claim_keeps, load_piece_keeps, load_release_keeps, rise_keeps}
use Rattle.pair_core.proofs.Joining.{join_keeps}
use Rattle.pair_core.proofs.Cut.{some_claims, some_takes}
use Rattle.pair_core.proofs.Told.{Upto, Told, Tells, one_if, stored_is, one_most}
use Rattle.pair_core.proofs.HistorySend.{Adds, stores_piece_adds, stores_claim_adds, shuts_claim_adds}
use Rattle.pair_core.proofs.HistoryMark.{tries_claim_adds, lays_piece_adds}
use Rattle.pair_core.proofs.HistoryRecv.{stores_return_adds, stores_take_adds, takes_part_adds, stores_release_adds}

-- a history without entries
none_upto : (sort : ℕ → Entry) (b : ℕ) → b ≤ 1 → Upto [] sort b
none_upto sort b low k = ((λ has. absurd has), (λ x. let y = x.0 in let z = x.1 in absurd (omega arith)))

module _ {A : Type 0} where
  -- whichever the move is, the state after it is sound
  pub keeps : (g : Shape) → IsShape g → (s : Core A) (m : Move A) → Sound g s → IsAllowed g s m → Sound g (after g s m)
  keeps g v s (StorePiece k i) r a = stores_piece_keeps g v s k i r a
  keeps g v s (StoreClaim k c) r a = stores_claim_keeps g v s k c r a
  keeps g v s (LoadClaim n c) r a = load_claim_keeps g s n c r a
  keeps g v s (LoadPiece n d i) r a = load_piece_keeps g s n d i r a
  keeps g v s LoadRelease r a = load_release_keeps g s r a
  keeps g v s (ShutClaim c) r a = shuts_claim_keeps g v s c r a
  keeps g v s (TryClaim n p x) r a = tries_claim_keeps g v s n p x r a
  keeps g v s (LayPiece n p i) r a = lays_piece_keeps g v s n p i r a
  keeps g v s (StoreReturn k t) r a = stores_return_keeps g v s k t r a
  keeps g v s (StoreTake k t) r a = stores_take_keeps g v s k t r a
  keeps g v s (TakePart q x) r a = take_part_keeps g v s q x r a
  keeps g v s (ReturnPart q) r a = return_part_keeps g v s q r a
  keeps g v s (StoreRelease k) r a = store_release_keeps g v s k r a
  keeps g v s (Split n) r a = split_keeps g s n r a
  keeps g v s (Rise n w more) r a = rise_keeps g s n w more r a
  keeps g v s (Join n) r a = join_keeps g v s n r a

  -- how many seats are out is no part of the history
  counts_told : (g : Shape) (s : Core A) (m w : ℕ) (h : List Entry) → Tells g s h
      → Told g (λ c. s.word (Claim c)) (λ t. s.word (Take t)) (λ d i. s.word (Piece d i)) (round_in (s.word Release)) (record s.send { markers = m }) (record s.recv { watchers = w }) h
  counts_told g s m w h t = record {
    opens = t.opens;
    shuts = t.shuts;
    listens = t.listens;
    releases = t.releases;
    marks = t.marks;
    lays = t.lays;
    outs = t.outs;
    takes = t.takes;
    within = t.within;
  }

  -- the moves of which the history keeps nothing
  enters_tells : (g : Shape) (s : Core A) (n : ℕ) (h : List Entry) → Tells g s h → Tells g (enters n s) h
  enters_tells g s n h t = go (s.life n)
    where
      counts : (b : Bool) → Tells g (counted b n s) h
      counts true = counts_told g s (s.send.markers + 1) s.recv.watchers h t
      counts false = counts_told g s s.send.markers (s.recv.watchers + 1) h t

      go : (l : Life) → Tells g (entered l n s) h
      go Blank = counts (n % 2 == 0)
      go Live = t
      go Spent = t

  joins_tells : (g : Shape) (s : Core A) (n : ℕ) (h : List Entry) → Tells g s h → Tells g (joins g n s) h
  joins_tells g s n h t = go (n % 2 == 0)
    where
      go : (b : Bool) → Tells g (joined b g n s) h
      go true = counts_told g s (s.send.markers - 1) s.recv.watchers h t
      go false = counts_told g s s.send.markers (s.recv.watchers - 1) h t

  quiet : (g : Shape) (s : Core A) (h : List Entry) → Tells g s h → Adds g s h []
  quiet g s h t = record { tells = t; order = λ o. o }

  -- whichever the move is, its entries follow the history and the state after it tells them
  pub adds : (g : Shape) → IsShape g → (s : Core A) (m : Move A) (h : List Entry) → Sound g s → IsAllowed g s m → Tells g s h → Adds g (after g s m) h (entries g s m)
  adds g v s (StorePiece k i) h r a t = stores_piece_adds g v s k i h r a t
  adds g v s (StoreClaim k c) h r a t = stores_claim_adds g v s k c h r a t
  adds g v s (LoadClaim n c) h r a t = quiet g _ h (enters_tells g s n h t)
  adds g v s (LoadPiece n d i) h r a t = quiet g _ h (enters_tells g s n h t)
  adds g v s LoadRelease h r a t = quiet g _ h t
  adds g v s (ShutClaim c) h r a t = shuts_claim_adds g v s c h r a t
  adds g v s (TryClaim n p x) h r a t = tries_claim_adds g v s n p x h r a t
  adds g v s (LayPiece n p i) h r a t = lays_piece_adds g v s n p i h r a t
  adds g v s (StoreReturn k n) h r a t = stores_return_adds g v s k n h r a t
  adds g v s (StoreTake k n) h r a t = stores_take_adds g v s k n h r a t
  adds g v s (TakePart q x) h r a t = takes_part_adds g v s q x h r a t
  adds g v s (ReturnPart q) h r a t = quiet g _ h t
  adds g v s (StoreRelease k) h r a t = stores_release_adds g v s k h r a t
  adds g v s (Split n) h r a t = quiet g _ h (enters_tells g s n h t)
  adds g v s (Rise n w more) h r a t = quiet g _ h t
  adds g v s (Join n) h r a t = quiet g _ h (joins_tells g s n h t)

  -- the first state tells of nothing
  pub first_tells : (g : Shape) → IsShape g → (s : Core A) → s ≡ first_state g → Tells g s []
  first_tells g v s e = subst (λ (z : Core A). Tells g z []) (sym e) (
      let words = some_claims g v in let words' = some_takes g v in let release = zero_word.round in
      record {
        opens = none_upto entry.Open _ (omega arith);
        shuts = none_upto entry.Shut _ (omega arith);
        listens = none_upto entry.Listen _ (omega arith);
        releases = none_upto entry.Release _ (omega arith);
        marks = λ p l. none_upto (λ k. entry.Mark k p) _ (let a = part_round true g.send_parts (p / 32) in let b = part_there true g.send_parts p l in omega arith);
        lays = λ i p l t. none_upto (λ k. entry.Lay k p i) _ (let f = (piece_full g v (0 % g.depth) i l).all p t in let b = stored_is i (pieces g) 0 (laid g (first_word g (Piece (0 % g.depth) i)) i p) l in omega arith);
        outs = λ i l. none_upto (λ k. entry.Out k i) _ (let b = stored_is i (pieces g) 0 (one_if (is_full g (first_word g (Piece (0 % g.depth) i)) 0 i)) l in let m = one_most (is_full g (first_word g (Piece (0 % g.depth) i)) 0 i) in omega arith);
        takes = λ q l. none_upto (λ k. entry.Take k q) _ (let a = part_round false g.recv_parts (q / 32) in let b = part_there false g.recv_parts q l in omega arith);
        within = record { marks = λ k p h. absurd h; lays = λ k p i h. absurd h; outs = λ k i h. absurd h; takes = λ k q h. absurd h };
      })

  -- a list of moves from the first state
  pub record Reaches (g : Shape) (s : Core A) (h : List Entry) : Type 0 where
    -- the state that they lead to is sound
    pub sound : Sound g s
    -- it tells the history
    pub tells : Tells g s h
    -- whose entries each follow what came before
    pub order : IsInOrder g h

  -- each list of allowed moves leads to such a state, move by move
  pub reaches : (g : Shape) → IsShape g → (ms : List (Move A)) (s : Core A) (h : List Entry) → Happened g ms s h → Reaches g s h
  reaches g v [] s h o = subst (λ (z : Core A × List Entry). Reaches g z.0 z.1) (λ i. (sym o.0 i, sym o.1 i))
      (record { sound = starts_sound g v; tells = first_tells g v (first_state g) refl; order = tt })
  reaches g v (m ∷ ms) s h o =
      let old = reaches g v ms o.0 o.1 o.2 in
      let new = adds g v o.0 m o.1 old.sound o.3 old.tells in
      subst (λ (z : Core A × List Entry). Reaches g z.0 z.1) (λ i. (sym o.4 i, sym o.5 i))
      (record { sound = keeps g v o.0 m old.sound o.3; tells = new.tells; order = new.order old.order })
