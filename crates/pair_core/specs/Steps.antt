-- What each kind of atomic step makes of the state. A step is a load, a store, an or or an exchange on one word.
use Rattle.std.specs.Prelude.{ℕ, ◌+◌, ◌-◌, ◌/◌, ◌%◌, ◌^◌, ◌==◌, ◌&&◌, Bool, true, false, if◌then◌else◌, []}
use Rattle.std.specs.Prelude.{◌∷◌, bit_or, Option, Some, None}
use Rattle.std.specs.List.{list_all}
use Rattle.part_geometry.specs.Shape.{Shape}
use Rattle.part_geometry.specs.Cells.{send_of, recv_of}
use Rattle.part_geometry.specs.Pieces.{piece_of, first_part}
use Rattle.pair_core.specs.Words.{empty}
use Rattle.pair_core.specs.Names.{Name, Claim, Release, Take, Return, Piece, put, put_word}
use Rattle.pair_core.specs.Core.{Slot, Home, Out, Core, has}
use Rattle.pair_core.specs.Reading.{pieces_over}
use Rattle.pair_core.specs.declared.view.Mark.{Mark}
use Rattle.pair_core.specs.declared.view.Pending.{Pending}
use Rattle.pair_core.specs.declared.view.SendSide.{SendSide}
use Rattle.pair_core.specs.declared.view.RecvSide.{RecvSide}
use Rattle.pair_core.specs.declared.view.Life.{Life}
use Rattle.pair_core.specs.declared.view.Life.TheVariants.{Blank, Live, Spent}

-- one more, or one fewer, of the seats of the parity of n is out: markers are even, watchers odd
abbrev pub marker_more : SendSide → SendSide
marker_more d = record d { markers = d.markers + 1 }

abbrev pub marker_less : SendSide → SendSide
marker_less d = record d { markers = d.markers - 1 }

abbrev pub watcher_more : RecvSide → RecvSide
watcher_more d = record d { watchers = d.watchers + 1 }

abbrev pub watcher_less : RecvSide → RecvSide
watcher_less d = record d { watchers = d.watchers - 1 }

-- the slots of some cells at a place become x
abbrev pub put_slots : (ℕ → ℕ → Slot) → ℕ → (ℕ → Bool) → Slot → ℕ → ℕ → Slot
put_slots slot place these x d c = if (d == place) && these c then x else slot d c

-- what is left of a claim when piece i has its partition: nothing, where that was the last of its pieces
abbrev pub left_of : Shape → ℕ → Pending → Option Pending
left_of g i x =
    if list_all (has (i ∷ x.laid)) (pieces_over g x.partition) then None else Some (record x { laid = i ∷ x.laid })

module _ {A : Type 0} where
  abbrev pub mark : ℕ → ℕ → A → Mark A
  mark k p a = record { round = k; partition = p; with = a }

  -- the seat n looked at the word x, and saw w
  abbrev pub saw : ℕ → Name → ℕ → Core A → Core A
  saw n x w s = record s {
    seen = put s.seen n (put_word x w (s.seen n));
    looks = put s.looks n (put_word x (s.looks n x + 1) (s.looks n));
  }

  -- the word x becomes w, and the seat n saw it so
  abbrev pub wrote : ℕ → Name → ℕ → Core A → Core A
  wrote n x w s = saw n x w (record s { word = put_word x w s.word })

  -- a seat that has no view gets the blank one, and its side counts it as out
  abbrev pub counted : Bool → ℕ → Core A → Core A
  counted true n s = record s { life = put s.life n Live; send = marker_more s.send }
  counted false n s = record s { life = put s.life n Live; recv = watcher_more s.recv }

  abbrev pub entered : Life → ℕ → Core A → Core A
  entered Blank n s = counted (n % 2 == 0) n s
  entered Live n s = s
  entered Spent n s = s

  abbrev pub enters : ℕ → Core A → Core A
  enters n s = entered (s.life n) n s

  -- a load
  abbrev pub loads : ℕ → Name → Core A → Core A
  loads n x s = saw n x (s.word x) s

  -- the send side stores piece word i, empty for round k
  abbrev pub stores_piece : Shape → ℕ → ℕ → Core A → Core A
  stores_piece g k i s = record (wrote 0 (Piece (k % g.depth) i) (empty k) s) {
    send = record { round = k; pieces = i + 1; opened = 0; shut = 0; markers = s.send.markers };
  }

  -- the send side stores claim word c, empty for its round
  abbrev pub stores_claim : ℕ → Core A → Core A
  stores_claim c s = record (wrote 0 (Claim c) (empty s.send.round) s) { send = record s.send { opened = c + 1 } }

  -- the send side shuts claim word c
  abbrev pub shuts_claim : ℕ → Core A → Core A
  shuts_claim c s =
      record (wrote 0 (Claim c) (bit_or (s.word (Claim c)) (2 ^ 32)) s) { send = record s.send { shut = c + 1 } }

  -- the marker n claims partition p in the sender's round: the slots of its cells go out to n
  abbrev pub claims : Shape → ℕ → ℕ → A → Core A → Core A
  claims g n p a s = record (wrote n (Claim (p / 32)) (bit_or (s.word (Claim (p / 32))) (2 ^ (p % 32))) s) {
    slot = put_slots s.slot (s.send.round % g.depth) (λ c. send_of g c == p) (Out n);
    pending = put s.pending n (Some record { round = s.send.round; partition = p; laid = [] });
    marks = put s.marks n (mark s.send.round p a ∷ s.marks n);
  }

  -- it wins where the word is the one that the marker has last seen, and else is a load
  abbrev pub tries_claim : Shape → ℕ → ℕ → A → Core A → Core A
  tries_claim g n p a s =
      if s.word (Claim (p / 32)) == s.seen n (Claim (p / 32)) then claims g n p a s else loads n (Claim (p / 32)) s

  -- the marker n lays its pending partition into piece i: the slots of the cells that both have come home
  abbrev pub lays_piece : Shape → ℕ → ℕ → Pending → Core A → Core A
  lays_piece g n i x s =
      let d : ℕ = x.round % g.depth in
      record (wrote n (Piece d i) (bit_or (s.word (Piece d i)) (2 ^ (x.partition - first_part g i))) s) {
        slot = put_slots s.slot d (λ c. (send_of g c == x.partition) && (piece_of g c == i)) (Home x.round);
        pending = put s.pending n (left_of g i x);
      }

  -- the receive side stores return word t, empty for round k
  abbrev pub stores_return : ℕ → ℕ → Core A → Core A
  stores_return k t s = record (wrote 1 (Return t) (empty k) s) {
    recv = record { round = k; returns = t + 1; takes = 0; released = 0; watchers = s.recv.watchers };
  }

  -- the receive side stores take word t, empty for its round
  abbrev pub stores_take : ℕ → Core A → Core A
  stores_take t s = record (wrote 1 (Take t) (empty s.recv.round) s) { recv = record s.recv { takes = t + 1 } }

  -- the receive side takes partition q of its round: the slots of its cells go out to it
  abbrev pub takes_part : Shape → ℕ → A → Core A → Core A
  takes_part g q a s = record (wrote 1 (Take (q / 32)) (bit_or (s.word (Take (q / 32))) (2 ^ (q % 32))) s) {
    slot = put_slots s.slot (s.recv.round % g.depth) (λ c. recv_of g c == q) (Out 1);
    takes = mark s.recv.round q a ∷ s.takes;
  }

  -- the receive side gives partition q back: those slots come home
  abbrev pub returns_part : Shape → ℕ → Core A → Core A
  returns_part g q s = record (wrote 1 (Return (q / 32)) (bit_or (s.word (Return (q / 32))) (2 ^ (q % 32))) s) {
    slot = put_slots s.slot (s.recv.round % g.depth) (λ c. recv_of g c == q) (Home s.recv.round);
  }

  -- the receive side releases its round
  abbrev pub releases : Core A → Core A
  releases s = record (wrote 1 Release (empty s.recv.round) s) { recv = record s.recv { released = 1 } }

  -- the words that the seat n has seen rise to w; where it looked at word 0, that is one look more
  abbrev pub rises : ℕ → (Name → ℕ) → ℕ → Core A → Core A
  rises n w more s = record s {
    seen = put s.seen n w;
    looks = put s.looks n (put_word (Claim 0) (s.looks n (Claim 0) + more) (s.looks n));
  }
