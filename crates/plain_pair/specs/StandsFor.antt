-- Which records a pair stands for.
use Rattle.std.specs.Prelude.{◌≡◌, ℕ, ◌/◌, ◌<◌, ◌≤◌, true, false}
use Rattle.std.specs.FinSet as parts
use Rattle.part_geometry.specs.Shape.{send_total}
use Rattle.plain_pair.specs.Record.{Record, send_round, round_of, is_marked, pieces_out, byte_at}
use Rattle.plain_pair.specs.Kept.{Kept, has, kept_mark, kept_byte, was_taken, kept_out}

-- the numbers, truth values and sets agree, and so does the number of pieces out; of each round after the
-- released one the marked partitions agree, and at each marked place that wasn't taken the pair keeps the byte
pub record StandsFor (kept : Kept) (r : Record) : Type 0 where
  pub sent : kept.sent ≡ send_round r
  pub received : kept.received ≡ r.received
  pub released : kept.released ≡ r.released
  pub sending : kept.sending ≡ r.sending
  pub receiving : kept.receiving ≡ r.receiving
  pub taken : (q : ℕ) → q < kept.shape.recv_parts → has kept.taken q ≡ parts.contains r.taken q
  pub back : (q : ℕ) → q < kept.shape.recv_parts → has kept.back q ≡ parts.contains r.back q
  pub out : kept_out kept ≡ pieces_out kept.shape r
  pub marks : (k p : ℕ) → r.released < k → k ≤ send_round r → p < kept.shape.send_parts
      → kept_mark kept k p ≡ is_marked (round_of r k) p
  pub bytes : (k x : ℕ) → r.released < k → k ≤ send_round r → x < send_total kept.shape
      → is_marked (round_of r k) (x / kept.shape.send_bytes) ≡ true → was_taken kept k x ≡ false
      → kept_byte kept k x ≡ byte_at kept.shape (round_of r k) x

-- the call answers as every record says that the pair stood for, and then stands for the record after it
abbrev pub Follows : {A : Type 0} → Kept → Kept → A → (Record → A) → (Record → Record) → Type 0
Follows old new result answer next = (r : Record) → StandsFor old r → (result ≡ answer r) × StandsFor new (next r)
