-- When a mark may be made, by what is kept, and what it does.
use Rattle.std.specs.Prelude.{◌≡◌, ℕ, ◌-◌, ◌<◌, true, false, ◌&&◌, ◌==◌, not, nat_lt, if◌then◌else◌, Result, Ok, Err, List}
use Rattle.plain_pair.specs.declared.answers.PlainRefusal.{PlainRefusal}
use Rattle.plain_pair.specs.declared.answers.PlainRefusal.TheVariants.{BadPartition, BadLength, NotActive, AlreadyMarked}
use Rattle.part_geometry.specs.Shape.{Shape}
use Rattle.plain_pair.specs.Record.{Record, send_round, round_of, is_marked, pieces_out}
use Rattle.plain_pair.specs.Moves.{marked}
use Rattle.plain_pair.specs.Kept.{Kept, has}
use Rattle.plain_pair.specs.StandsFor.{StandsFor}

-- the first cause against a mark of `size` bytes
abbrev pub refusal : Kept → ℕ → ℕ → ℕ → Result (Unit {0}) PlainRefusal
refusal kept k p size =
    if not (nat_lt p kept.shape.send_parts) then Err BadPartition else (
    if not (size == kept.shape.send_bytes) then Err BadLength else (
    if not (kept.sending && (k == kept.sent)) then Err NotActive else (
    if has kept.marked p then Err AlreadyMarked else Ok tt)))

-- the same by a record that the pair stands for
abbrev pub record_refusal : Shape → Record → ℕ → ℕ → ℕ → Result (Unit {0}) PlainRefusal
record_refusal g r k p size =
    if not (nat_lt p g.send_parts) then Err BadPartition else (
    if not (size == g.send_bytes) then Err BadLength else (
    if not (r.sending && (k == send_round r)) then Err NotActive else (
    if is_marked (round_of r k) p then Err AlreadyMarked else Ok tt)))

-- a mark that may be made
pub record CanMark (k : Kept) (p : ℕ) : Type 0 where
  pub active : k.sending ≡ true
  pub inside : p < k.shape.send_parts
  pub free : has k.marked p ≡ false

-- the pair stands for the records with the mark, and the mark sent out as many pieces as they say
abbrev pub Marks : Kept → Kept → ℕ → List ℕ → ℕ → Type 0
Marks old new p bytes sent =
    (r : Record) → StandsFor old r
    → (sent ≡ pieces_out old.shape (marked r p bytes) - pieces_out old.shape r) × StandsFor new (marked r p bytes)
