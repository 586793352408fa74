-- What has arrived, by what is kept, and what a take does.
use Rattle.std.specs.Prelude.{◌≡◌, ℕ, ◌<◌, Bool, true, false, ◌&&◌, ◌||◌, ◌==◌, not, nat_lt, if◌then◌else◌, Option, Result, Ok, Err, find, length}
use Rattle.std.specs.List.{range_with_len}
use Rattle.std.specs.Option.{option_map_or}
use Rattle.part_geometry.specs.Pieces.{pieces, is_over}
use Rattle.plain_pair.specs.declared.answers.PlainTake.{PlainTake}
use Rattle.plain_pair.specs.declared.answers.PlainTake.TheVariants.{Idle, BadPartition, AlreadyTaken, NotYet}
use Rattle.plain_pair.specs.Taken.{Taken}
use Rattle.plain_pair.specs.Record.{Record}
use Rattle.plain_pair.specs.Moves.{taken_of, took}
use Rattle.plain_pair.specs.Kept.{Kept, has, is_whole}
use Rattle.plain_pair.specs.StandsFor.{StandsFor}

-- a piece is out in the receiver's round: the sender is past that round, or in it with the piece whole
abbrev pub kept_piece_out : Kept → ℕ → Bool
kept_piece_out kept i =
    nat_lt kept.received kept.sent || ((kept.received == kept.sent) && is_whole kept.shape kept.marked i)

-- the least piece over receive partition q that isn't out
unfoldable pub kept_missing : Kept → ℕ → Option ℕ
kept_missing kept q =
    find (λ i. is_over kept.shape q i && not (kept_piece_out kept i)) (range_with_len 0 (pieces kept.shape))

-- the first cause against a take, by what is kept
abbrev pub take_refusal : Kept → ℕ → Result (Unit {0}) PlainTake
take_refusal kept q =
    if not kept.receiving then Err Idle else (
    if not (nat_lt q kept.shape.recv_parts) then Err BadPartition else (
    if has kept.taken q then Err (AlreadyTaken kept.received) else
    option_map_or (λ i. Err (NotYet i)) (kept_missing kept q) (Ok tt)))

-- a take that may be made
pub record CanTake (k : Kept) (q : ℕ) : Type 0 where
  pub active : k.receiving ≡ true
  pub inside : q < k.shape.recv_parts
  pub free : has k.taken q ≡ false

-- the take gives what the records say, and the pair stands for the records with the take
abbrev pub Takes : Kept → Kept → ℕ → Taken → Type 0
Takes old new q taken = (r : Record) → StandsFor old r → (taken ≡ taken_of old.shape r q) × StandsFor new (took r q)

-- what may be given back: it was taken in the receiver's round, and isn't back yet
pub record IsOut (k : Kept) (taken : Taken) : Type 0 where
  pub active : k.receiving ≡ true
  pub round : taken.round ≡ k.received
  pub inside : taken.partition < k.shape.recv_parts
  pub size : length taken.bytes ≡ k.shape.recv_bytes
  pub was_taken : has k.taken taken.partition ≡ true
  pub away : has k.back taken.partition ≡ false
