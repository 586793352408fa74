-- What a history has, as the state shows it: of each sort of entry and each partition or piece, the rounds from 1 on below
-- a bound that the state has.
use Rattle.std.proofs.Common.{◌≡◌, ◌≢◌, ◌↔◌, inl, inr, ⊎_elim, ℕ, ◌+◌, ◌-◌, ◌%◌, ◌<◌, ◌≤◌, min, Bool, true, false, List, ◌∷◌, refl, sym, ap, subst, arith}
use Rattle.std.specs.Prelude.{nat_lt, if◌then◌else◌}
use Rattle.std.proofs.lemmas.Bool.{cases_eq, lt-ltb, le-ltb}
use Rattle.gate_word.specs.Words.{round_in}
use Rattle.part_geometry.specs.Shape.{Shape}
use Rattle.part_geometry.specs.Pieces.{pieces, Touches}
use Rattle.pair_core.specs.Names.{Claim, Release, Take, Piece, take_words}
use Rattle.pair_core.specs.Core.{Core}
use Rattle.pair_core.specs.Reading.{next_round, laid, is_full}
use Rattle.pair_core.specs.History as entry
use Rattle.pair_core.specs.History.{Entry, Has}
use Rattle.pair_core.specs.declared.view.SendSide.{SendSide}
use Rattle.pair_core.specs.declared.view.RecvSide.{RecvSide}

-- the history has the entries of the rounds from 1 on below the bound, and of no other round
abbrev pub Upto : List Entry → (ℕ → Entry) → ℕ → Type 0
Upto h sort bound = (k : ℕ) → Has h (sort k) ↔ ((1 ≤ k) × (k < bound))

-- the bounds: a piece that isn't stored for the sender's round yet has what it had before
abbrev pub if_stored : ℕ → ℕ → ℕ → ℕ → ℕ
if_stored i stored round more = if nat_lt i stored then round + more else round

abbrev pub lay_bound : Shape → (ℕ → ℕ → ℕ) → SendSide → ℕ → ℕ → ℕ
lay_bound g piece send i p = if_stored i send.pieces send.round (laid g (piece (send.round % g.depth) i) i p)

abbrev pub one_if : Bool → ℕ
one_if b = if b then 1 else 0

abbrev pub out_bound : Shape → (ℕ → ℕ → ℕ) → SendSide → ℕ → ℕ
out_bound g piece send i = if_stored i send.pieces send.round (one_if (is_full g (piece (send.round % g.depth) i) send.round i))

abbrev pub listen_bound : Shape → RecvSide → ℕ
listen_bound g recv = recv.round + (recv.takes + 1 - take_words g)

-- the numbers in the entries are those of partitions and pieces
pub record Within (g : Shape) (h : List Entry) : Type 0 where
  -- a mark is of a send partition of the pair
  pub marks : (k p : ℕ) → Has h (entry.Mark k p) → p < g.send_parts
  -- a lay is into a piece that the partition touches
  pub lays : (k p i : ℕ) → Has h (entry.Lay k p i) → (i < pieces g) × Touches g i p
  -- what goes out is a piece of the pair
  pub outs : (k i : ℕ) → Has h (entry.Out k i) → i < pieces g
  -- a take is of a receive partition of the pair
  pub takes : (k q : ℕ) → Has h (entry.Take k q) → q < g.recv_parts

pub record Told (g : Shape) (claim take : ℕ → ℕ) (piece : ℕ → ℕ → ℕ) (released : ℕ) (send : SendSide) (recv : RecvSide) (h : List Entry) : Type 0 where
  -- the rounds that were opened: those before the sender's, and it once one of its claim words is open
  pub opens : Upto h entry.Open (send.round + min 1 send.opened)
  -- the rounds that were shut: those before the sender's, and it once one of its claim words is shut
  pub shuts : Upto h entry.Shut (send.round + min 1 send.shut)
  -- the rounds that were listened in: those before the receiver's, and it once all take words are stored
  pub listens : Upto h entry.Listen (listen_bound g recv)
  -- the rounds that were released: up to the one in the release word
  pub releases : Upto h entry.Release (released + 1)
  -- each partition was marked in the rounds before its next one
  pub marks : (p : ℕ) → p < g.send_parts → Upto h (λ k. entry.Mark k p) (next_round claim p)
  -- each partition was laid into each piece that it touches, in the rounds below the bound
  pub lays : (i p : ℕ) → i < pieces g → Touches g i p → Upto h (λ k. entry.Lay k p i) (lay_bound g piece send i p)
  -- each piece went out in the rounds below its bound
  pub outs : (i : ℕ) → i < pieces g → Upto h (λ k. entry.Out k i) (out_bound g piece send i)
  -- each receive partition was taken in the rounds before its next one
  pub takes : (q : ℕ) → q < g.recv_parts → Upto h (λ k. entry.Take k q) (next_round take q)
  -- the numbers in the entries are those of the pair
  pub within : Within g h

-- the state tells this history
abbrev pub Tells : {A : Type 0} → Shape → Core A → List Entry → Type 0
Tells {A} g s h = Told g (λ c. s.word (Claim c)) (λ t. s.word (Take t)) (λ d i. s.word (Piece d i)) (round_in (s.word Release)) s.send s.recv h

-- an entry of another sort changes nothing
pub upto_skip : (h : List Entry) (e : Entry) (sort : ℕ → Entry) (b : ℕ) → ((k : ℕ) → e ≢ sort k) → Upto h sort b → Upto (e ∷ h) sort b
upto_skip h e sort b other u k = (
  (λ has. ⊎_elim (λ same. absurd (other k same)) (λ old. (u k).0 old) has),
  (λ low. inr ((u k).1 low)),
)

-- the entry of the next round
pub upto_add : (h : List Entry) (sort : ℕ → Entry) (b : ℕ) → 1 ≤ b → ((k : ℕ) → sort b ≡ sort k → b ≡ k) → Upto h sort b → Upto (sort b ∷ h) sort (b + 1)
upto_add h sort b some same u k = (
  (λ has. ⊎_elim (λ e. let x = same k e in (omega arith, omega arith)) (λ old. let x = (u k).0 old in let a = x.0 in let c = x.1 in (a, omega arith)) has),
  (λ low. elim (cases_eq k b) [
    | inl e ↦ inl (ap sort (sym e))
    | inr other ↦ inr ((u k).1 (low.0, let x = low.1 in omega arith))
  ]),
)

-- a bound that is the same number
pub upto_same : (h : List Entry) (sort : ℕ → Entry) (a b : ℕ) → a ≡ b → Upto h sort a → Upto h sort b
upto_same h sort a b e u = subst (Upto h sort) e u

-- the entries are there, or aren't
pub has_below : (h : List Entry) (sort : ℕ → Entry) (b k : ℕ) → Upto h sort b → 1 ≤ k → k < b → Has h (sort k)
has_below h sort b k u low high = (u k).1 (low, high)

-- this is that they aren't
pub not_above : (h : List Entry) (sort : ℕ → Entry) (b k : ℕ) → Upto h sort b → b ≤ k → ¬ Has h (sort k)
not_above h sort b k u high has = let x = ((u k).0 has).1 in omega arith

-- the bounds of a piece
pub stored_is : (i stored round more : ℕ) → i < stored → if_stored i stored round more ≡ round + more
stored_is i stored round more h = rw (lt-ltb i stored h) refl

-- that of one that isn't stored yet is the round
pub waiting_is : (i stored round more : ℕ) → stored ≤ i → if_stored i stored round more ≡ round
waiting_is i stored round more h = rw (le-ltb i stored h) refl

-- what is so counts 1
pub one_true : (b : Bool) → b ≡ true → one_if b ≡ 1
one_true b e = rw e refl

-- what isn't counts 0
pub one_false : (b : Bool) → b ≡ false → one_if b ≡ 0
one_false b e = rw e refl

-- and nothing counts more
pub one_most : (b : Bool) → one_if b ≤ 1
one_most true = omega arith
one_most false = omega arith
