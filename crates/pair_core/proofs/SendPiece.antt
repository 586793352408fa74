-- Storing a piece word keeps soundness: the word that is stored over is of the round `depth` before, which is released.
use Rattle.std.proofs.Common.{◌≡◌, ◌≢◌, ⊎_elim, ℕ, ◌+◌, ◌-◌, ◌/◌, ◌%◌, ◌<◌, List, Option, refl, sym, ap, subst, arith}
use Rattle.gate_word.specs.Words.{round_in}
use Rattle.part_geometry.specs.Shape.{Shape, IsShape}
use Rattle.part_geometry.specs.Cells.{send_of}
use Rattle.part_geometry.specs.Pieces.{pieces, piece_of, first_part, Touches}
use Rattle.pair_core.specs.Words.{empty}
use Rattle.pair_core.specs.Names.{Claim, Release, Take, Return, Piece, put_pair}
use Rattle.pair_core.specs.Core.{Core, Slot}
use Rattle.pair_core.specs.Reading.{part_bit, laid, IsFull, last_round}
use Rattle.pair_core.specs.Moves.{IsAllowed, StorePiece, after}
use Rattle.pair_core.specs.Sound.{Sound, Progress, Gates, Pieces, Arrived, Claims, Slots, Takes, HasRound}
use Rattle.pair_core.specs.declared.view.Mark.{Mark}
use Rattle.pair_core.specs.declared.view.Pending.{Pending}
use Rattle.pair_core.specs.declared.view.Life.{Life}
use Rattle.pair_core.specs.declared.view.SendSide.{SendSide}
use Rattle.pair_core.specs.declared.view.RecvSide.{RecvSide}
use Rattle.pair_core.proofs.Words.{bit_lt, empty_round, empty_bit, later_newer}
use Rattle.pair_core.proofs.Puts.{put_pair_else, put_pair_at}
use Rattle.pair_core.proofs.Rounds.{place_lt}
use Rattle.pair_core.proofs.Cut.{bit_small, cell_piece, cell_touches}
use Rattle.pair_core.proofs.Frames.{sees, news_else, live_not_blank, owns_else, unused_empty}
use Rattle.pair_core.proofs.SendFacts.{live_unspent, seen_release, IsNext, next_first, next_more}

-- the send side with piece i of round k stored
abbrev stored : ℕ → ℕ → SendSide → SendSide
stored k i send = record { round = k; pieces = i + 1; opened = 0; shut = 0; markers = send.markers }

-- the pieces with this one stored
abbrev with_piece : Shape → (ℕ → ℕ → ℕ) → ℕ → ℕ → ℕ → ℕ → ℕ
with_piece g piece k i = put_pair piece (k % g.depth) i (empty k)

progress_piece : (g : Shape) (claim : ℕ → ℕ) (piece : ℕ → ℕ → ℕ) (send : SendSide) (recv : RecvSide) (released k i : ℕ)
    → i < pieces g → IsNext g claim piece send released k i → Progress g released send recv → Progress g released (stored k i send) recv
progress_piece g claim piece send recv released k i inside n h = record {
  some = omega arith;
  pieces_most = omega arith;
  opened = omega arith;
  shut = omega arith;
  opens_last = λ e. absurd (omega arith);
  shuts_last = λ e. absurd (omega arith);
  begun = λ e. let a = n.some in absurd (omega arith);
  behind = n.behind;
  ahead = n.room;
  some_return = h.some_return;
  returns = h.returns;
  takes = h.takes;
  takes_last = h.takes_last;
  ends_last = h.ends_last;
  ends_once = h.ends_once;
  current = h.current;
}

gates_piece : (g : Shape) (claim : ℕ → ℕ) (piece : ℕ → ℕ → ℕ) (send : SendSide) (released k i : ℕ) → IsNext g claim piece send released k i → Gates g claim (stored k i send)
gates_piece g claim piece send released k i n = record {
  is_shut = λ c h. absurd (omega arith);
  is_open = λ c l h. absurd (omega arith);
  is_past = λ c _ h. n.past c h;
  all_ended = λ p h e. absurd (omega arith);
  all_past = λ p h _. n.all p h;
}

-- a piece that was stored for round k has no partition
no_part : (g : Shape) → IsShape g → (k i p : ℕ) → i < pieces g → Touches g i p → laid g (empty k) i p ≡ 0
no_part g v k i p inside t = let j = bit_small g v i p inside t in empty_bit k (p - first_part g i) (omega arith)

pieces_piece : (g : Shape) → IsShape g → (claim : ℕ → ℕ) (piece : ℕ → ℕ → ℕ) (send : SendSide) (released k i : ℕ) → i < pieces g → IsNext g claim piece send released k i
    → Pieces g claim (with_piece g piece k i) (stored k i send)
pieces_piece g v claim piece send released k i inside n =
    let place : ℕ = k % g.depth in let w : ℕ = empty k in
    record {
      other = λ d j h l o. subst (λ (z : ℕ). IsFull g z (last_round g.depth k d) j) (sym (put_pair_else piece place i w d j (λ b. o b.0))) (n.other d j h l o);
      waiting = λ j h l. subst (λ (z : ℕ). IsFull g z (k - g.depth) j) (sym (put_pair_else piece place i w place j (λ b. let e = b.1 in omega arith))) (n.waiting j h l);
      current = λ j h. put_pair_at piece place i w (λ z. round_in z ≡ k) place j (λ _ _. empty_round k) (λ o. n.current j (let x : j ≢ i = (λ e. o (refl, e)) in omega arith));
      ended = λ j p h e. absurd (omega arith);
      claimed = λ j p h _ t. put_pair_at piece place i w (λ z. laid g z j p ≡ 1 → (p / 32 < 0) × (part_bit claim p ≡ 1)) place j
          (λ _ e one. let l : j < pieces g = omega arith in let z = no_part g v k j p l t in absurd (omega arith))
          (λ o one. let x : j ≢ i = (λ e. o (refl, e)) in let z = n.empty j p (omega arith) t in absurd (omega arith));
    }

-- what was taken is in another word
arrived_piece : (g : Shape) → IsShape g → (claim take : ℕ → ℕ) (piece : ℕ → ℕ → ℕ) (send : SendSide) (recv : RecvSide) (released k i : ℕ)
    → recv.round + recv.released ≡ released + 1 → IsNext g claim piece send released k i → Arrived g take piece recv → Arrived g take (with_piece g piece k i) recv
arrived_piece g v claim take piece send recv released k i current n h q j a b act taken t =
    let f = h q j a b act taken t in
    put_pair_at piece (k % g.depth) i (empty k) (λ z. IsFull g z recv.round j) (recv.round % g.depth) j
    (λ e same. let round = f.round in let older = n.older in let room = n.room in let active = act.1 in let low = v.depth.0 in
    let is : round_in (piece (recv.round % g.depth) j) ≡ round_in (piece (k % g.depth) i) = ap (λ (z : ℕ × ℕ). round_in (piece z.0 z.1)) (λ x. (e x, same x)) in
    absurd (omega arith))
    (λ _. f)

claims_piece : (g : Shape) (claim : ℕ → ℕ) (piece : ℕ → ℕ → ℕ) (send : SendSide) (life : ℕ → Life) (pending : ℕ → Option Pending) (who : ℕ → ℕ → ℕ) (released k i : ℕ)
    → IsNext g claim piece send released k i → Claims g claim piece send life pending who → Claims g claim (with_piece g piece k i) (stored k i send) life pending who
claims_piece g claim piece send life pending who released k i n h = record {
  each = λ m x e. absurd (n.unclaimed x.partition (h.each m x e).claimed);
  all = λ p j a b t o. let z = o.0.1 in absurd (omega arith);
}

slots_piece : (g : Shape) → IsShape g → (claim take ret : ℕ → ℕ) (piece : ℕ → ℕ → ℕ) (send : SendSide) (recv : RecvSide) (slot : ℕ → ℕ → Slot) (who : ℕ → ℕ → ℕ) (released k i : ℕ)
    → IsNext g claim piece send released k i → Slots g claim take ret piece send recv slot who → Slots g claim take ret (with_piece g piece k i) (stored k i send) recv slot who
slots_piece g v claim take ret piece send recv slot who released k i n h = record {
  lent = λ c a l. let z = l.0.1 in absurd (omega arith);
  held = h.held;
  home = λ d c a b _ held. h.home d c a b (λ both. n.unclaimed (send_of g c) both.1.0) held;
  tied = λ d c j a b at.
      put_pair_at piece (k % g.depth) i (empty k) (λ z. HasRound g ret z c → j ≡ round_in z) d (piece_of g c)
      (λ _ e has. let one = has.laid in let z = no_part g v k (piece_of g c) (send_of g c) (cell_piece g c b) (cell_touches g c b) in absurd (omega arith))
      (λ _. h.tied d c j a b at);
}

takes_piece : {A : Type 0} (g : Shape) → IsShape g → (claim take : ℕ → ℕ) (piece : ℕ → ℕ → ℕ) (send : SendSide) (takes : List (Mark A)) (released k i : ℕ)
    → IsNext g claim piece send released k i → Takes g take piece takes → Takes g take (with_piece g piece k i) takes
takes_piece {A} g v claim take piece send takes released k i n h = record {
  own = h.own;
  all = h.all;
  out = λ m q j p has a b t. let old = h.out m q j p has a b t in
      put_pair_at piece (k % g.depth) i (empty k) (λ z. m < round_in z + laid g z j p) (m % g.depth) j
      (λ e same. let now = empty_round k in let older = n.older in let some = n.some in let low = v.depth.0 in
      let small = bit_lt (piece (m % g.depth) j) (p - first_part g j) in
      let is : round_in (piece (m % g.depth) j) ≡ round_in (piece (k % g.depth) i) = ap (λ (z : ℕ × ℕ). round_in (piece z.0 z.1)) (λ x. (e x, same x)) in
      omega arith)
      (λ _. old);
}

module _ {A : Type 0} where
  keeps : (g : Shape) → IsShape g → (s : Core A) (k i : ℕ) → i < pieces g → Sound g s
      → IsNext g (λ c. s.word (Claim c)) (λ d j. s.word (Piece d j)) s.send (round_in (s.word Release)) k i → Sound g (after g s (StorePiece k i))
  keeps g v s k i inside r n =
      let claim : ℕ → ℕ = λ c. s.word (Claim c) in let take : ℕ → ℕ = λ t. s.word (Take t) in let ret : ℕ → ℕ = λ t. s.word (Return t) in
      let piece : ℕ → ℕ → ℕ = λ d j. s.word (Piece d j) in let released : ℕ = round_in (s.word Release) in
      let place = place_lt g.depth k v.depth.0 v.depth.1 in
      record {
        who = r.who;
        progress = progress_piece g claim piece s.send s.recv released k i inside n r.progress;
        gates = gates_piece g claim piece s.send released k i n;
        pieces = pieces_piece g v claim piece s.send released k i inside n;
        receiving = r.receiving;
        arrived = arrived_piece g v claim take piece s.send s.recv released k i r.progress.current n r.arrived;
        claims = claims_piece g claim piece s.send s.life s.pending r.who released k i n r.claims;
        slots = slots_piece g v claim take ret piece s.send s.recv s.slot r.who released k i n r.slots;
        marks = r.marks;
        takes = takes_piece g v claim take piece s.send s.takes released k i n r.takes;
        unused = unused_empty g s.word (Piece (k % g.depth) i) k r.unused;
        seen = sees g s.word s.life s.seen 0 (Piece (k % g.depth) i) (empty k) r.lives.send r.seen
            (λ _. later_newer (s.word (Piece (k % g.depth) i)) (empty k) (let a = n.older in let b = n.some in let c = empty_round k in let d = v.depth.0 in omega arith));
        opened = λ c _ low. absurd (omega arith);
        news = news_else g s.life s.seen s.looks s.pending s.marks 0 _ _ (live_not_blank (s.life 0) r.lives.send) r.news;
        owns = owns_else g take ret s.seen 0 _ (λ e. omega arith) r.owns;
        lives = r.lives;
      }

  -- the move keeps soundness
  pub stores_piece_keeps : (g : Shape) → IsShape g → (s : Core A) (k i : ℕ) → Sound g s → IsAllowed g s (StorePiece k i) → Sound g (after g s (StorePiece k i))
  stores_piece_keeps g v s k i r a =
      let claim : ℕ → ℕ = λ c. s.word (Claim c) in let piece : ℕ → ℕ → ℕ = λ d j. s.word (Piece d j) in let released : ℕ = round_in (s.word Release) in
      let saw = seen_release g s 0 r (live_unspent (s.life 0) r.lives.send) in
      ⊎_elim
      (λ first. keeps g v s k i a.0 r (subst (IsNext g claim piece s.send released k) (sym first.0)
      (next_first g v claim piece s.send s.recv released (round_in (s.seen 0 Release)) k r.progress r.gates r.pieces first.1 first.2 saw a.2 (let x = a.0 in omega arith))))
      (λ more. keeps g v s k i a.0 r (subst (λ (z : ℕ). IsNext g claim piece s.send released z i) (sym more.2)
      (next_more g v claim piece s.send s.recv released i r.progress r.gates r.pieces a.0 more.1)))
      a.3
