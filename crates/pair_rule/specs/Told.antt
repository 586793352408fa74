-- What a look tells the seat that makes it, beside the word that it found.
use Rattle.std.specs.Prelude.{◌≡◌, ℕ, ◌/◌, ◌%◌, ◌<◌, List, Contains}
use Rattle.gate_word.specs.Words.{round_in}
use Rattle.gate_word.specs.Order.{IsLater}
use Rattle.pair_core.specs.Words.{bit, next}
use Rattle.pair_core.specs.Names.{Name, Claim, Piece, claim_words}
use Rattle.pair_core.specs.Core.{times}
use Rattle.pair_core.specs.Reading.{part_bit, IsFull}
use Rattle.pair_core.specs.Moves.{IsSendActive}
use Rattle.pair_core.specs.declared.view.Mark.{Mark}
use Rattle.pair_rule.specs.Views.{seen, saw}
use Rattle.pair_rule.specs.declared.view.View.{View}

-- the seat's own marks stand in a claim word
abbrev pub HasMarks : View → Name → ℕ → Type 0
HasMarks d (Claim c) w = (m : Mark (List ℕ)) → Contains d.marks m → m.partition / 32 ≡ c
    → m.round < next w (m.partition % 32)
HasMarks d _ w = Unit {0}

-- The word of a piece that the receive side has seen full in its round is full in it still. Where no marker is out,
-- and the send side has seen all partitions claimed in its round, each piece is full in it.
abbrev pub IsFullStill : View → Name → ℕ → Type 0
IsFullStill d (Piece e i) w =
    (d.number ≡ 1 → d.recv.released ≡ 0 → e ≡ d.recv.round % d.geometry.depth
    → IsFull d.geometry (seen d (Piece e i)) d.recv.round i
    → IsFull d.geometry w d.recv.round i)
    × (d.number ≡ 0 → d.send.markers ≡ 0 → IsSendActive d.geometry d.send → e ≡ d.send.round % d.geometry.depth
    → ((p : ℕ) → p < d.geometry.send_parts → part_bit (λ c. seen d (Claim c)) p ≡ 1)
    → IsFull d.geometry w d.send.round i)
IsFullStill d _ w = Unit {0}

-- each claim word, as the send side has last seen it, is open in its round
abbrev pub AreOpen : View → Type 0
AreOpen d = (c : ℕ) → c < claim_words d.geometry → (round_in (seen d (Claim c)) ≡ d.send.round)
    × (bit (seen d (Claim c)) 32 ≡ 0)

-- the send side has the mark in its round of each partition that it has seen claimed
abbrev pub KnowsMarks : View → Type 0
KnowsMarks d = (p : ℕ) → p < d.geometry.send_parts → part_bit (λ c. seen d (Claim c)) p ≡ 1
    → times d.send.round p d.marks ≡ 1

-- what the send side knows after a look, while it is active; and where no marker is out
pub record Knows (d : View) : Type 0 where
  pub opened : d.number ≡ 0 → IsSendActive d.geometry d.send → AreOpen d
  pub known : d.number ≡ 0 → IsSendActive d.geometry d.send → d.send.markers ≡ 0 → KnowsMarks d

-- the word found is the one that the seat has last seen, or later
pub record Learns (d : View) (x : Name) (w : ℕ) : Type 0 where
  pub later : IsLater (seen d x) w
  pub marks : HasMarks d x w
  pub full : IsFullStill d x w
  pub after : Knows (saw x w d)
