-- The steps that open a round of the receive side keep soundness: return words are stored first, then take words, and
-- until all are stored no partition counts as held.
use Rattle.std.proofs.Common.{◌≡◌, ◌⊎◌, inl, inr, ℕ, ◌+◌, ◌/◌, ◌%◌, ◌<◌, ◌≤◌, List, refl, sym, ap, ◌∙◌, arith}
use Rattle.std.proofs.lemmas.Bool.{cases_lt}
use Rattle.gate_word.specs.Words.{round_in}
use Rattle.part_geometry.specs.Shape.{Shape, IsShape}
use Rattle.part_geometry.specs.Cells.{cells, recv_of}
use Rattle.pair_core.specs.Words.{bit, empty}
use Rattle.pair_core.specs.Names.{Name, Claim, Release, Take, Return, Piece, take_words, put, put_word}
use Rattle.pair_core.specs.Core.{Core, Slot}
use Rattle.pair_core.specs.Reading.{part_bit, next_round}
use Rattle.pair_core.specs.Moves.{IsRecvActive, IsRecvIdle, IsAllowed, after, StoreReturn, StoreTake}
use Rattle.pair_core.specs.Sound.{Progress, Receiving, Slots, Takes, IsHeld, Owns, Sound}
use Rattle.pair_core.specs.declared.view.SendSide.{SendSide}
use Rattle.pair_core.specs.declared.view.RecvSide.{RecvSide}
use Rattle.pair_core.specs.declared.view.Mark.{Mark}
use Rattle.pair_core.proofs.Words.{empty_round, empty_bit, later_newer}
use Rattle.pair_core.proofs.Puts.{put_cases, put_cases_both}
use Rattle.pair_core.proofs.Cut.{some_takes, cell_recv}
use Rattle.pair_core.proofs.Frames.{sees, opened_else, news_else, live_not_blank, owns_here, unused_empty}
use Rattle.pair_core.proofs.ReceiveFacts.{part_cases, next_same}

-- where nothing is held before and after, and no next round changes, the slots are where they were
pub slots_none : (g : Shape) (claim take ret take' ret' : ℕ → ℕ) (piece : ℕ → ℕ → ℕ) (send : SendSide) (recv recv' : RecvSide) (slot : ℕ → ℕ → Slot) (who : ℕ → ℕ → ℕ)
    → ((c : ℕ) → c < cells g → ¬ IsHeld g take ret recv c) → ((c : ℕ) → c < cells g → ¬ IsHeld g take' ret' recv' c)
    → ((c : ℕ) → c < cells g → next_round ret' (recv_of g c) ≡ next_round ret (recv_of g c))
    → Slots g claim take ret piece send recv slot who → Slots g claim take' ret' piece send recv' slot who
slots_none g claim take ret take' ret' piece send recv recv' slot who none none' same h = record {
  lent = h.lent;
  held = λ c inside x. absurd (none' c inside x);
  home = λ d c low inside l _. h.home d c low inside l (λ x. none c inside x.1);
  tied = λ d c k low inside at has. h.tied d c k low inside at record { laid = has.laid; kept = let e = same c inside in let l = has.kept in omega arith };
}

-- before return word t is stored for round k
record Begins (g : Shape) (take ret : ℕ → ℕ) (released : ℕ) (recv : RecvSide) (k t : ℕ) : Type 0 where
  now : (j : ℕ) → j < t → round_in (ret j) ≡ k
  past : (j : ℕ) → t ≤ j → j < take_words g → round_in (ret j) + 1 ≡ k
  takes : (j : ℕ) → j < take_words g → round_in (take j) + 1 ≡ k
  returned : (q : ℕ) → q < g.recv_parts → t ≤ q / 32 → part_bit ret q ≡ 1
  taken : (q : ℕ) → q < g.recv_parts → part_bit take q ≡ 1
  fresh : (q : ℕ) → q < g.recv_parts → q / 32 < t → part_bit ret q ≡ 0
  inactive : ¬ IsRecvActive g recv
  round : k ≡ released + 1

begins : (g : Shape) (take ret : ℕ → ℕ) (released : ℕ) (send : SendSide) (recv : RecvSide) (k t : ℕ) → t < take_words g → Progress g released send recv → Receiving g take ret recv
    → ((t ≡ 0) × IsRecvIdle recv × (k ≡ recv.round + 1)) ⊎ ((1 ≤ t) × (t ≡ recv.returns) × (k ≡ recv.round)) → Begins g take ret released recv k t
begins g take ret released send recv k t small p r (inl x) =
    let first = x.0 in let idle : recv.released ≡ 1 = x.1 in let next = x.2 in
    let all_takes = p.ends_last (omega arith) in let all_returns = p.takes_last (omega arith) in let current = p.current in
    record {
      now = λ j low. absurd (omega arith);
      past = λ j low inside. let e = r.return_now j (omega arith) in omega arith;
      takes = λ j inside. let e = r.take_now j (omega arith) in omega arith;
      returned = λ q inside low. (r.done q inside idle).1;
      taken = λ q inside. (r.done q inside idle).0;
      fresh = λ q inside low. absurd (omega arith);
      inactive = λ a. let e = a.1 in omega arith;
      round = omega arith;
    }
begins g take ret released send recv k t small p r (inr x) =
    let some = x.0 in let at = x.1 in let same = x.2 in
    let none : recv.takes ≡ 0 = elim (cases_lt 0 recv.takes) [ inl h ↦ let e = p.takes_last h in absurd (omega arith) | inr h ↦ omega arith ] in
    let unreleased : recv.released ≡ 0 = elim (cases_lt 0 recv.released) [ inl h ↦ let e = p.ends_last h in absurd (omega arith) | inr h ↦ omega arith ] in
    let current = p.current in
    record {
      now = λ j low. let e = r.return_now j (omega arith) in omega arith;
      past = λ j low inside. let e = r.return_past j (omega arith) inside in omega arith;
      takes = λ j inside. let e = r.take_past j (omega arith) inside in omega arith;
      returned = λ q inside low. r.all_returned q inside (omega arith);
      taken = λ q inside. r.all_taken q inside (omega arith);
      fresh = λ q inside low. r.none_returned q inside (omega arith) (omega arith);
      inactive = λ a. let e = a.0 in omega arith;
      round = omega arith;
    }

receiving_return : (g : Shape) → IsShape g → (take ret : ℕ → ℕ) (released : ℕ) (recv : RecvSide) (k t w : ℕ) → t < take_words g → Begins g take ret released recv k t
    → Receiving g take (put ret t (empty k)) record { round = k; returns = t + 1; takes = 0; released = 0; watchers = w }
receiving_return g v take ret released recv k t w small b = let some = some_takes g v in record {
  return_now = put_cases ret t (empty k) (λ m z. m < t + 1 → round_in z ≡ k) (λ _. empty_round k) (λ m other low. b.now m (omega arith));
  return_past = put_cases ret t (empty k) (λ m z. t + 1 ≤ m → m < take_words g → round_in z + 1 ≡ k) (λ low. absurd (omega arith)) (λ m other low inside. b.past m (omega arith) inside);
  take_now = λ j low. absurd (omega arith);
  take_past = λ j _ inside. b.takes j inside;
  all_returned = λ q inside low. part_cases ret t (empty k) q (λ z. z ≡ 1) (λ e. absurd (omega arith)) (λ _. b.returned q inside (omega arith));
  all_taken = λ q inside _. b.taken q inside;
  none_returned = λ q inside _ low. part_cases ret t (empty k) q (λ z. z ≡ 0) (λ _. empty_bit k (q % 32) (omega arith)) (λ other. b.fresh q inside (omega arith));
  none_taken = λ q inside _ low. absurd (omega arith);
  within = λ q inside all. absurd (omega arith);
  done = λ q inside e. absurd (omega arith);
}

progress_return : (g : Shape) (released : ℕ) (send : SendSide) (recv : RecvSide) (k t w : ℕ) → t < take_words g → k ≡ released + 1 → Progress g released send recv
    → Progress g released send record { round = k; returns = t + 1; takes = 0; released = 0; watchers = w }
progress_return g released send recv k t w small round p = record {
  some = p.some;
  pieces_most = p.pieces_most;
  opened = p.opened;
  shut = p.shut;
  opens_last = p.opens_last;
  shuts_last = p.shuts_last;
  begun = p.begun;
  behind = p.behind;
  ahead = p.ahead;
  some_return = omega arith;
  returns = omega arith;
  takes = omega arith;
  takes_last = λ e. absurd (omega arith);
  ends_last = λ e. absurd (omega arith);
  ends_once = omega arith;
  current = omega arith;
}

-- what the receive side wrote it has seen
pub owns_return : (g : Shape) (seen word : Name → ℕ) (t w : ℕ) → Owns g (λ j. word (Take j)) (λ j. word (Return j)) seen
    → Owns g (λ j. word (Take j)) (λ j. put_word (Return t) w word (Return j)) (put_word (Return t) w seen)
owns_return g seen word t w o = record {
  takes = o.takes;
  returns = put_cases_both (λ j. seen (Return j)) (λ j. word (Return j)) t w w (λ j a b. j < take_words g → a ≡ b) (λ _. refl) o.returns;
}

-- the same of a take word
pub owns_take : (g : Shape) (seen word : Name → ℕ) (t w : ℕ) → Owns g (λ j. word (Take j)) (λ j. word (Return j)) seen
    → Owns g (λ j. put_word (Take t) w word (Take j)) (λ j. word (Return j)) (put_word (Take t) w seen)
owns_take g seen word t w o = record {
  takes = put_cases_both (λ j. seen (Take j)) (λ j. word (Take j)) t w w (λ j a b. j < take_words g → a ≡ b) (λ _. refl) o.takes;
  returns = o.returns;
}

-- while not all take words are stored no partition is taken in the receiver's round
record Opens (g : Shape) (take ret : ℕ → ℕ) (recv : RecvSide) (t : ℕ) : Type 0 where
  now : (j : ℕ) → j < t → round_in (take j) ≡ recv.round
  past : (j : ℕ) → t ≤ j → j < take_words g → round_in (take j) + 1 ≡ recv.round
  taken : (q : ℕ) → q < g.recv_parts → t ≤ q / 32 → part_bit take q ≡ 1
  fresh : (q : ℕ) → q < g.recv_parts → q / 32 < t → part_bit take q ≡ 0
  kept : (q : ℕ) → q < g.recv_parts → part_bit ret q ≡ 0
  unreleased : recv.released ≡ 0

opens : (g : Shape) (take ret : ℕ → ℕ) (released : ℕ) (send : SendSide) (recv : RecvSide) (t : ℕ) → t < take_words g → recv.returns ≡ take_words g → t ≡ recv.takes
    → Progress g released send recv → Receiving g take ret recv → Opens g take ret recv t
opens g take ret released send recv t small all at p r = record {
  now = λ j low. r.take_now j (omega arith);
  past = λ j low inside. r.take_past j (omega arith) inside;
  taken = λ q inside low. r.all_taken q inside (omega arith);
  fresh = λ q inside low. r.none_taken q inside (omega arith) (omega arith);
  kept = λ q inside. r.none_returned q inside (omega arith) (omega arith);
  unreleased = elim (cases_lt 0 recv.released) [ inl h ↦ let e = p.ends_last h in absurd (omega arith) | inr h ↦ omega arith ];
}

receiving_take : (g : Shape) (take ret : ℕ → ℕ) (recv : RecvSide) (t : ℕ) → t < take_words g → recv.returns ≡ take_words g → Opens g take ret recv t → Receiving g take ret recv
    → Receiving g (put take t (empty recv.round)) ret (record recv { takes = t + 1 })
receiving_take g take ret recv t small all b r = let open' = b.unreleased in let k : ℕ = recv.round in record {
  return_now = r.return_now;
  return_past = r.return_past;
  take_now = put_cases take t (empty k) (λ m z. m < t + 1 → round_in z ≡ k) (λ _. empty_round k) (λ m other low. b.now m (omega arith));
  take_past = put_cases take t (empty k) (λ m z. t + 1 ≤ m → m < take_words g → round_in z + 1 ≡ k) (λ low. absurd (omega arith)) (λ m other low inside. b.past m (omega arith) inside);
  all_returned = r.all_returned;
  all_taken = λ q inside low. part_cases take t (empty k) q (λ z. z ≡ 1) (λ e. absurd (omega arith)) (λ _. b.taken q inside (omega arith));
  none_returned = λ q inside _ _. b.kept q inside;
  none_taken = λ q inside _ low. part_cases take t (empty k) q (λ z. z ≡ 0) (λ _. empty_bit k (q % 32) (omega arith)) (λ other. b.fresh q inside (omega arith));
  within = λ q inside _. let e = b.kept q inside in omega arith;
  done = λ q inside e. absurd (omega arith);
}

progress_take : (g : Shape) (released : ℕ) (send : SendSide) (recv : RecvSide) (t : ℕ) → t < take_words g → recv.returns ≡ take_words g → recv.released ≡ 0 → Progress g released send recv
    → Progress g released send (record recv { takes = t + 1 })
progress_take g released send recv t small all open' p = record {
  some = p.some;
  pieces_most = p.pieces_most;
  opened = p.opened;
  shut = p.shut;
  opens_last = p.opens_last;
  shuts_last = p.shuts_last;
  begun = p.begun;
  behind = p.behind;
  ahead = p.ahead;
  some_return = p.some_return;
  returns = p.returns;
  takes = omega arith;
  takes_last = λ _. all;
  ends_last = λ e. absurd (omega arith);
  ends_once = p.ends_once;
  current = p.current;
}

-- once they are all stored, none is taken so far
none_taken : (g : Shape) (take ret : ℕ → ℕ) (recv : RecvSide) (t q : ℕ) → q < g.recv_parts → t + 1 ≡ take_words g → Opens g take ret recv t → part_bit (put take t (empty recv.round)) q ≡ 0
none_taken g take ret recv t q inside all b =
    part_cases take t (empty recv.round) q (λ z. z ≡ 0) (λ _. empty_bit recv.round (q % 32) (omega arith)) (λ other. b.fresh q inside (omega arith))

-- the takes, where no next round changes
takes_same : {A : Type 0} (g : Shape) (take take' : ℕ → ℕ) (piece : ℕ → ℕ → ℕ) (takes : List (Mark A)) → ((q : ℕ) → q < g.recv_parts → next_round take' q ≡ next_round take q)
    → Takes g take piece takes → Takes g take' piece takes
takes_same {A} g take take' piece takes same h = record {
  own = λ k q some. let o = h.own k q some in let inside = o.1 in let low = o.2 in let e = same q inside in (o.0, o.1, omega arith);
  all = λ k q some inside low. h.all k q some inside (let e = same q inside in omega arith);
  out = h.out;
}

module _ {A : Type 0} where
  -- no next round of a return changes when a return word is stored
  pub return_next : (g : Shape) (s : Core A) (k t : ℕ) → Sound g s → IsAllowed g s (StoreReturn k t)
      → (q : ℕ) → q < g.recv_parts → next_round (put (λ j. s.word (Return j)) t (empty k)) q ≡ next_round (λ j. s.word (Return j)) q
  return_next g s k t r allowed q inside =
      let small : t < take_words g = allowed.0 in
      let b = begins g (λ j. s.word (Take j)) (λ j. s.word (Return j)) (round_in (s.word Release)) s.send s.recv k t small r.progress r.receiving allowed.2 in
      next_same (λ j. s.word (Return j)) t (empty k) q (λ e.
      let a = empty_round k in let b' = empty_bit k (q % 32) (omega arith) in
      let c' = b.past t (omega arith) small in let d = b.returned q inside (omega arith) in
      let d' : bit (s.word (Return t)) (q % 32) ≡ 1 = ap (λ (z : ℕ). bit (s.word (Return z)) (q % 32)) (sym e) ∙ d in omega arith)

  -- storing a return word keeps soundness
  pub stores_return_keeps : (g : Shape) → IsShape g → (s : Core A) (k t : ℕ) → Sound g s → IsAllowed g s (StoreReturn k t) → Sound g (after g s (StoreReturn k t))
  stores_return_keeps g v s k t r allowed =
      let small : t < take_words g = allowed.0 in let some = some_takes g v in
      let b = begins g (λ j. s.word (Take j)) (λ j. s.word (Return j)) (round_in (s.word Release)) s.send s.recv k t small r.progress r.receiving allowed.2 in
      record {
        who = r.who;
        progress = progress_return g (round_in (s.word Release)) s.send s.recv k t s.recv.watchers small b.round r.progress;
        gates = r.gates;
        pieces = r.pieces;
        receiving = receiving_return g v (λ j. s.word (Take j)) (λ j. s.word (Return j)) (round_in (s.word Release)) s.recv k t s.recv.watchers small b;
        arrived = λ q i _ _ active. absurd (let e = active.0 in omega arith);
        claims = r.claims;
        slots = slots_none g (λ c. s.word (Claim c)) (λ j. s.word (Take j)) (λ j. s.word (Return j)) (λ j. s.word (Take j)) (put (λ j. s.word (Return j)) t (empty k))
            (λ d i. s.word (Piece d i)) s.send s.recv record { round = k; returns = t + 1; takes = 0; released = 0; watchers = s.recv.watchers } s.slot r.who
            (λ c inside held. b.inactive held.0) (λ c inside held. let e = held.0.0 in absurd (omega arith))
            (λ c inside. return_next g s k t r allowed (recv_of g c) (cell_recv g v c inside))
            r.slots;
        marks = r.marks;
        takes = r.takes;
        unused = unused_empty g s.word (Return t) k r.unused;
        seen = sees g s.word s.life s.seen 1 (Return t) (empty k) r.lives.send r.seen (λ _. later_newer (s.word (Return t)) (empty k) (let a = empty_round k in let c = b.past t (omega arith) small in omega arith));
        opened = opened_else s.send s.seen 1 _ (λ e. omega arith) r.opened;
        news = news_else g s.life s.seen s.looks s.pending s.marks 1 _ _ (live_not_blank (s.life 1) r.lives.recv) r.news;
        owns = owns_here g (λ j. s.word (Take j)) (put (λ j. s.word (Return j)) t (empty k)) s.seen (put_word (Return t) (empty k) (s.seen 1)) (owns_return g (s.seen 1) s.word t (empty k) r.owns);
        lives = r.lives;
      }

  -- storing a take word keeps soundness
  pub stores_take_keeps : (g : Shape) → IsShape g → (s : Core A) (k t : ℕ) → Sound g s → IsAllowed g s (StoreTake k t) → Sound g (after g s (StoreTake k t))
  stores_take_keeps g v s k t r allowed =
      let small : t < take_words g = allowed.0 in let all : s.recv.returns ≡ take_words g = allowed.2 in let at : t ≡ s.recv.takes = allowed.3 in
      let b = opens g (λ j. s.word (Take j)) (λ j. s.word (Return j)) (round_in (s.word Release)) s.send s.recv t small all at r.progress r.receiving in
      let n : ℕ = s.recv.round in
      let same : (q : ℕ) → q < g.recv_parts → next_round (put (λ j. s.word (Take j)) t (empty n)) q ≡ next_round (λ j. s.word (Take j)) q =
      λ q inside. next_same (λ j. s.word (Take j)) t (empty n) q (λ e.
      let a = empty_round n in let b' = empty_bit n (q % 32) (omega arith) in
      let c' = b.past t (omega arith) small in let d = b.taken q inside (omega arith) in
      let d' : bit (s.word (Take t)) (q % 32) ≡ 1 = ap (λ (z : ℕ). bit (s.word (Take z)) (q % 32)) (sym e) ∙ d in omega arith) in
      record {
        who = r.who;
        progress = progress_take g (round_in (s.word Release)) s.send s.recv t small all b.unreleased r.progress;
        gates = r.gates;
        pieces = r.pieces;
        receiving = receiving_take g (λ j. s.word (Take j)) (λ j. s.word (Return j)) s.recv t small all b r.receiving;
        arrived = λ q i inside _ active taken. absurd (let none = none_taken g (λ j. s.word (Take j)) (λ j. s.word (Return j)) s.recv t q inside active.0 b in omega arith);
        claims = r.claims;
        slots = slots_none g (λ c. s.word (Claim c)) (λ j. s.word (Take j)) (λ j. s.word (Return j)) (put (λ j. s.word (Take j)) t (empty n)) (λ j. s.word (Return j))
            (λ d i. s.word (Piece d i)) s.send s.recv (record s.recv { takes = t + 1 }) s.slot r.who
            (λ c inside held. let e = held.0.0 in omega arith)
            (λ c inside held. let one = held.1 in let none = none_taken g (λ j. s.word (Take j)) (λ j. s.word (Return j)) s.recv t (recv_of g c) (cell_recv g v c inside) held.0.0 b in omega arith)
            (λ c inside. refl) r.slots;
        marks = r.marks;
        takes = takes_same g (λ j. s.word (Take j)) (put (λ j. s.word (Take j)) t (empty n)) (λ d i. s.word (Piece d i)) s.takes same r.takes;
        unused = unused_empty g s.word (Take t) n r.unused;
        seen = sees g s.word s.life s.seen 1 (Take t) (empty n) r.lives.send r.seen (λ _. later_newer (s.word (Take t)) (empty n) (let a = empty_round n in let c = b.past t (omega arith) small in omega arith));
        opened = opened_else s.send s.seen 1 _ (λ e. omega arith) r.opened;
        news = news_else g s.life s.seen s.looks s.pending s.marks 1 _ _ (live_not_blank (s.life 1) r.lives.recv) r.news;
        owns = owns_here g (put (λ j. s.word (Take j)) t (empty n)) (λ j. s.word (Return j)) s.seen (put_word (Take t) (empty n) (s.seen 1)) (owns_take g (s.seen 1) s.word t (empty n) r.owns);
        lives = r.lives;
      }
