-- What holds of every list of moves from the first state, in the terms of its history.
use Rattle.std.specs.Prelude.{◌≡◌, ℕ, zero, suc, ◌-◌, ◌%◌, ◌<◌, ◌≤◌, List, [], ◌∷◌, ◌++◌, Option, Some}
use Rattle.std.specs.Prelude.{None}
use Rattle.part_geometry.specs.Shape.{Shape}
use Rattle.part_geometry.specs.Cells.{cells, recv_of}
use Rattle.part_geometry.specs.Pieces.{pieces, Touches, TouchesRecv}
use Rattle.pair_core.specs.Core.{Core, Home}
use Rattle.pair_core.specs.Moves.{Move, TakePart, IsAllowed, after, first_state}
use Rattle.pair_core.specs.Sound.{Sound}
use Rattle.pair_core.specs.History.{Entry, Open, Mark, Lay, Out, Listen, Take, Release, Shut, Has, Happened}

-- soundness: the first state has it, each allowed move keeps it from any state that has it, and so each list of allowed
-- moves from the first state leads to a state that has it; whatever a layer above keeps with a mark
pub record StaysSound (A : Type 0) (g : Shape) : Type 0 where
  pub first : Sound g (first_state {A = A} g)
  pub kept : (s : Core A) (m : Move A) → Sound g s → IsAllowed g s m → Sound g (after g s m)
  pub always : (ms : List (Move A)) (s : Core A) (h : List Entry) → Happened g ms s h → Sound g s

-- wherever an entry stands in a history, this holds of what came before it
abbrev pub Where : List Entry → Entry → (List Entry → Type 0) → Type 0
Where h e Says = (newer older : List Entry) → h ≡ newer ++ e ∷ older → Says older

-- the rounds of some sort of entry, the newest first
abbrev pub with_round : Option ℕ → List ℕ → List ℕ
with_round (Some k) ks = k ∷ ks
with_round None ks = ks

abbrev pub rounds : (Entry → Option ℕ) → List Entry → List ℕ
rounds sort [] = []
rounds sort (e ∷ h) = with_round (sort e) (rounds sort h)

abbrev pub opened : Entry → Option ℕ
opened (Open k) = Some k
opened _ = None

abbrev pub shut : Entry → Option ℕ
shut (Shut k) = Some k
shut _ = None

abbrev pub listened : Entry → Option ℕ
listened (Listen k) = Some k
listened _ = None

abbrev pub released : Entry → Option ℕ
released (Release k) = Some k
released _ = None

-- n, n - 1 and so on down to 1
abbrev pub down : ℕ → List ℕ
down zero = []
down (suc n) = suc n ∷ down n

abbrev pub AreInOrder : List ℕ → Type 0
AreInOrder ks = (n : ℕ) × (ks ≡ down n)

-- each sentence of what a history keeps
pub record KeepsOrder (g : Shape) (h : List Entry) : Type 0 where
  -- what is marked, taken or goes out is a partition or a piece of the pair, and a partition is laid into a piece that
  -- it touches
  pub marks_a_part : (k p : ℕ) → Has h (Mark k p) → p < g.send_parts
  pub lays_where_they_touch : (k p i : ℕ) → Has h (Lay k p i) → (i < pieces g) × Touches g i p
  pub sends_a_piece : (k i : ℕ) → Has h (Out k i) → i < pieces g
  pub takes_a_part : (k q : ℕ) → Has h (Take k q) → q < g.recv_parts
  -- nothing comes twice
  pub piece_goes_out_once : (k i : ℕ) → Where h (Out k i) (λ past. ¬ Has past (Out k i))
  pub part_is_marked_once : (k p : ℕ) → Where h (Mark k p) (λ past. ¬ Has past (Mark k p))
  pub part_is_laid_once : (k p i : ℕ) → Where h (Lay k p i) (λ past. ¬ Has past (Lay k p i))
  pub part_is_taken_once : (k q : ℕ) → Where h (Take k q) (λ past. ¬ Has past (Take k q))
  -- a piece goes out right after the last of its partitions was laid, and each of them was marked before
  pub out_right_after_a_lay : (k i : ℕ)
      → Where h (Out k i) (λ past. (p : ℕ) × (before : List Entry) × Touches g i p × (past ≡ Lay k p i ∷ before))
  pub out_after_all_lays : (k i : ℕ) → Where h (Out k i) (λ past. (p : ℕ) → Touches g i p → Has past (Lay k p i))
  pub lay_after_its_mark : (k p i : ℕ) → Where h (Lay k p i) (λ past. Has past (Mark k p))
  pub out_after_all_marks : (k i : ℕ) → Where h (Out k i) (λ past. (p : ℕ) → Touches g i p → Has past (Mark k p))
  -- a mark stands between its round's opening and shutting, and a round is shut when all of its pieces are out
  pub mark_after_open : (k p : ℕ) → Where h (Mark k p) (λ past. Has past (Open k))
  pub mark_before_shut : (k p : ℕ) → Where h (Mark k p) (λ past. ¬ Has past (Shut k))
  pub shut_after_all_outs : (k : ℕ) → Where h (Shut k) (λ past. (i : ℕ) → i < pieces g → Has past (Out k i))
  -- a take follows its round's listening and every piece over its partition; a release follows all takes of its round
  pub take_after_listen : (k q : ℕ) → Where h (Take k q) (λ past. Has past (Listen k))
  pub take_after_all_outs : (k q : ℕ)
      → Where h (Take k q) (λ past. (i : ℕ) → i < pieces g → TouchesRecv g i q → Has past (Out k i))
  pub release_after_all_takes : (k : ℕ) → Where h (Release k) (λ past. (q : ℕ) → q < g.recv_parts → Has past (Take k q))
  -- rounds open, shut, listen and release in order 1, 2, 3; those of pieces and of takes never fall
  pub opens_in_order : AreInOrder (rounds opened h)
  pub shuts_in_order : AreInOrder (rounds shut h)
  pub listens_in_order : AreInOrder (rounds listened h)
  pub releases_in_order : AreInOrder (rounds released h)
  pub outs_never_fall : (k i : ℕ) → Where h (Out k i) (λ past. (j n : ℕ) → Has past (Out j n) → j ≤ k)
  pub takes_never_fall : (k q : ℕ) → Where h (Take k q) (λ past. (j n : ℕ) → Has past (Take j n) → j ≤ k)
  -- a round opens only after the release of the round `depth` before it
  pub open_after_release : (k : ℕ) → g.depth < k → Where h (Open k) (λ past. Has past (Release (k - g.depth)))

abbrev pub KeepsOrderAlways : Type 0 → Shape → Type 0
KeepsOrderAlways A g = (ms : List (Move A)) (s : Core A) (h : List Entry) → Happened g ms s h → KeepsOrder g h

-- the slots that a take takes have its round
abbrev pub TakesItsRound : Type 0 → Shape → Type 0
TakesItsRound A g =
    (s : Core A) (q c : ℕ) (a : A) → Sound g s → IsAllowed g s (TakePart q a) → c < cells g → recv_of g c ≡ q
    → s.slot (s.recv.round % g.depth) c ≡ Home s.recv.round
