-- A message through a pair of one thread in one round.
use Rattle.std.specs.Prelude.{◌≡◌, ℕ, ◌+◌, ◌*◌, ◌<◌, ◌≤◌, true, false, nat_lt, Some, List, slice_range}
use Rattle.std.specs.FinMap as rounds
use Rattle.std.specs.FinSet as parts
use Rattle.part_geometry.specs.Shape.{Shape}
use Rattle.plain_pair.specs.Kept.{Kept}
use Rattle.plain_pair.specs.Record.{Record, is_marked, round_of, send_round}
use Rattle.plain_pair.specs.StandsFor.{StandsFor}

-- a pair of this geometry stands for some history of which this holds
pub record Stands (g : Shape) (pair : Kept) (Holds : Record → Type 0) : Type 0 where
  pub shape : pair.shape ≡ g
  pub history : Record
  pub stands : StandsFor pair history
  pub holds : Holds history

-- k rounds were sent, received and released, and both sides are inactive
pub record Rests (k : ℕ) (r : Record) : Type 0 where
  pub sent : send_round r ≡ k
  pub received : r.received ≡ k
  pub released : r.released ≡ k
  pub sending : r.sending ≡ false
  pub receiving : r.receiving ≡ false

-- a pair that rests after k rounds
abbrev pub RestsAt : Shape → ℕ → Kept → Type 0
RestsAt g k pair = Stands g pair (Rests k)

-- the part of a message that send partition p has
abbrev pub sent_part : Shape → List ℕ → ℕ → List ℕ
sent_part g message p = slice_range message (p * g.send_bytes) (p * g.send_bytes + g.send_bytes)

-- the part that receive partition q has
abbrev pub received_part : Shape → List ℕ → ℕ → List ℕ
received_part g message q = slice_range message (q * g.recv_bytes) (q * g.recv_bytes + g.recv_bytes)

-- the sender is in round k, of which the first n partitions are marked with their parts of the message; the receiver
-- has had the rounds before
pub record IsMarking (g : Shape) (k : ℕ) (message : List ℕ) (n : ℕ) (r : Record) : Type 0 where
  pub sent : send_round r ≡ k
  pub received : r.received + 1 ≡ k
  pub released : r.released + 1 ≡ k
  pub sending : r.sending ≡ true
  pub receiving : r.receiving ≡ false
  pub marked : (p : ℕ) → p < n → rounds.get (round_of r k) p ≡ Some (sent_part g message p)
  pub free : (p : ℕ) → n ≤ p → is_marked (round_of r k) p ≡ false

-- both sides are in round k, of which all is marked, and the first n partitions were taken and given back
pub record IsTaking (g : Shape) (k : ℕ) (message : List ℕ) (n : ℕ) (r : Record) : Type 0 where
  pub sent : send_round r ≡ k
  pub received : r.received ≡ k
  pub released : r.released + 1 ≡ k
  pub sending : r.sending ≡ true
  pub receiving : r.receiving ≡ true
  pub marked : (p : ℕ) → p < g.send_parts → rounds.get (round_of r k) p ≡ Some (sent_part g message p)
  pub taken : (q : ℕ) → parts.contains r.taken q ≡ nat_lt q n
  pub back : (q : ℕ) → parts.contains r.back q ≡ nat_lt q n
