-- An event as a move: which move it is, and what is told of it.
use Rattle.std.specs.Prelude.{◌≡◌, ℕ, ◌/◌, ◌%◌, List, [], ◌∷◌, Option, Some, None}
use Rattle.part_geometry.specs.Shape.{Shape}
use Rattle.pair_core.specs.Names.{Claim, Release, Take, Return, Piece, number}
use Rattle.pair_core.specs.Core.{Core}
use Rattle.pair_core.specs.Moves.{Move, StorePiece, StoreClaim, LoadClaim, LoadPiece, LoadRelease, ShutClaim, TryClaim}
use Rattle.pair_core.specs.Moves.{LayPiece, StoreReturn, StoreTake, TakePart, ReturnPart, StoreRelease, Split, Rise}
use Rattle.pair_core.specs.Moves.{Join, IsAllowed, after}
use Rattle.pair_core.specs.History.{Entry, Out, entries}
use Rattle.pair_core.specs.History.{Take as Taken}
use Rattle.pair_core.specs.State.{Plain}
use Rattle.pair_core.specs.declared.view.Pending.{Pending}
use Rattle.pair_core.specs.declared.event.Event.{Event}
use Rattle.pair_core.specs.declared.event.Applied.{Applied}
use Rattle.pair_core.specs.declared.event.Applied.TheVariants.{Done, NotAllowed}

-- the seat, the kind and the number of the word that an event has
pub record Has (e : Event) (seat kind word : ℕ) : Type 0 where
  pub by : e.seat ≡ seat
  pub kind_is : e.kind ≡ kind
  pub on : e.word ≡ word

-- an event is a move: the kinds have the numbers 1 to 13. A field that isn't named may hold anything. No event is a
-- move that changes views alone.
abbrev pub Reads : {A : Type 0} → Shape → Core A → Event → Move A → Type 0
Reads g s e (StorePiece k i) = Has e 0 1 (number g (Piece (k % g.depth) i)) × (e.round ≡ k)
Reads g s e (StoreClaim k c) = Has e 0 2 (number g (Claim c)) × (e.round ≡ k)
Reads g s e (LoadClaim n c) = Has e n 3 (number g (Claim c))
Reads g s e (LoadPiece n d i) = Has e n 4 (number g (Piece d i))
Reads g s e LoadRelease = Has e 0 5 (number g Release)
Reads g s e (ShutClaim c) = Has e 0 6 (number g (Claim c))
Reads g s e (TryClaim n p a) = Has e n 7 (number g (Claim (p / 32))) × (e.partition ≡ p)
Reads g s e (LayPiece n p i) =
    (x : Pending) × (s.pending n ≡ Some x) × Has e n 8 (number g (Piece (x.round % g.depth) i)) × (e.partition ≡ p)
Reads g s e (StoreReturn k t) = Has e 1 9 (number g (Return t)) × (e.round ≡ k)
Reads g s e (StoreTake k t) = Has e 1 10 (number g (Take t)) × (e.round ≡ k)
Reads g s e (TakePart q a) = Has e 1 11 (number g (Take (q / 32))) × (e.partition ≡ q)
Reads g s e (ReturnPart q) = Has e 1 12 (number g (Return (q / 32))) × (e.partition ≡ q)
Reads g s e (StoreRelease k) = Has e 1 13 (number g Release) × (e.round ≡ k)
Reads g s e (Split n) = ⊥
Reads g s e (Rise n w more) = ⊥
Reads g s e (Join n) = ⊥

-- the piece that goes out by some entries, and the partition that is taken by them
abbrev pub out_in : List Entry → Option (ℕ × ℕ)
out_in [] = None
out_in (Out k i ∷ es) = Some (k, i)
out_in (e ∷ es) = out_in es

abbrev pub take_in : List Entry → Option (ℕ × ℕ)
take_in [] = None
take_in (Taken k q ∷ es) = Some (k, q)
take_in (e ∷ es) = take_in es

-- What became of an event. Where it was made, it is a move that was allowed, the new state shows the core after it, and
-- what went out or was taken is told. Where it isn't allowed, it is no move that is, and the new state shows the same
-- core.
abbrev pub Becomes : Shape → Event → (Core Plain → Type 0) → Core Plain → Applied → Type 0
Becomes g e Shown s (Done out take) =
    (m : Move Plain) × Reads g s e m × IsAllowed g s m × Shown (after g s m) × (out ≡ out_in (entries g s m))
    × (take ≡ take_in (entries g s m))
Becomes g e Shown s NotAllowed = ((m : Move Plain) → Reads g s e m → ¬ IsAllowed g s m) × Shown s

abbrev pub quiet : Applied
quiet = Done None None
