-- The rule of the table: it shows a sound state of the core, and its buffers have the bytes of the marks.
use Rattle.std.specs.Prelude.{◌≡◌, ◌≢◌, ◌⊎◌, ℕ, ◌+◌, ◌-◌, ◌*◌, ◌<◌, ◌≤◌, Bool, true, false, List, [], ◌∷◌, length}
use Rattle.std.specs.Prelude.{slice_index, Contains, Option, Some, None, if◌then◌else◌}
use mathlib.Core.Option.{some, none}
use mathlib.Core.Option as maybe
use lib.ListN.{get_elem?}
use Rattle.atomic_table.specs.Table.{State}
use Rattle.gate_word.specs.Words.{round_in}
use Rattle.gate_word.specs.Order.{IsLater}
use Rattle.part_geometry.specs.Shape.{Shape, IsShape}
use Rattle.part_geometry.specs.Cells.{cells, start, end}
use Rattle.part_tables.specs.Bytes.{cell_bytes, part_bytes}
use Rattle.pair_core.specs.Names.{Name, Claim, Release, Fits, number}
use Rattle.pair_core.specs.Core.{Core, Slot, Home, Out, IsMarker, IsWatcher, is_mark, times}
use Rattle.pair_core.specs.Moves.{first_word, first_state}
use Rattle.pair_core.specs.Sound.{Sound}
use Rattle.pair_core.specs.State.{word_count, ListsWords}
use Rattle.pair_rule.specs.Addresses.{address, table_size, HasWords}
use Rattle.pair_core.specs.Facts.{piece_word, IsKept}
use Rattle.pair_core.specs.declared.view.Mark.{Mark}
use Rattle.pair_core.specs.declared.view.Life.TheVariants.{Blank, Live}
use Rattle.pair_rule.specs.declared.TheConstants.{FREE_SLOTS}
use Rattle.pair_rule.specs.Buf.{Buf}
use Rattle.pair_rule.specs.declared.view.View.{View}
use Rattle.pair_rule.specs.declared.view.Standing.TheVariants.{Seated, Told, Closed}
use Rattle.pair_rule.specs.declared.rule.Key.{Key}

abbrev pub At : Type 0
At = State (Option Buf) View

-- the state of a core whose marks and takes keep their bytes
abbrev pub Shown : Type 0
Shown = Core (List ℕ)

-- The slots of a place stand in a row: one for each cell, and behind them free ones, which always are empty.
abbrev pub slot_row : Shape → ℕ
slot_row g = cells g + FREE_SLOTS

-- the number of the slot of cell c at place d
abbrev pub slot_number : Shape → ℕ → ℕ → ℕ
slot_number g d c = d * slot_row g + c

-- how many bytes cell c has
abbrev pub cell_length : Shape → ℕ → ℕ
cell_length g c = end g c - start g c

-- what the table has at the slot of cell c: a buffer with the round and the cell's length, or nothing where it is out
abbrev pub Stands : Shape → ℕ → maybe.Option (maybe.Option (Option Buf)) → Slot → Type 0
Stands g c h (Home k) = (b : Buf) × (h ≡ some (some (Some b))) × (b.round ≡ k) × (length b.bytes ≡ cell_length g c)
Stands g c h (Out n) = h ≡ some none

-- The numbers that were given so far, where so many markers and watchers were made: both sides have theirs, the receive
-- side once it is made.
abbrev pub Given : Bool → ℕ → ℕ → ℕ → Type 0
Given alone markers watchers n =
    (n ≡ 0) ⊎ ((n ≡ 1) × (alone ≡ false)) ⊎ (IsMarker n × (n < 2 + 2 * markers))
    ⊎ (IsWatcher n × (n < 3 + 2 * watchers))

-- The view of the table's seat i shows the core's view of its number, part by part. `seat` is the table's seat of each
-- number, so no two views have one.
pub record Agrees (g : Shape) (core : Shown) (alone : Bool) (markers watchers : ℕ) (seat : ℕ
    → ℕ) (i : ℕ) (d : View) : Type 0 where
  pub geometry : d.geometry ≡ g
  pub seat_is : seat d.number ≡ i
  pub given : Given alone markers watchers d.number
  pub live : core.life d.number ≡ Live
  pub seen_size : length d.seen ≡ word_count g
  pub looks_size : length d.looks ≡ word_count g
  pub seen_is : ListsWords g d.seen (core.seen d.number)
  pub looks_is : ListsWords g d.looks (core.looks d.number)
  pub pending_is : d.pending ≡ core.pending d.number
  pub marks_is : d.marks ≡ core.marks d.number
  pub send_is : d.number ≡ 0 → d.send ≡ core.send
  pub markers_is : d.number ≡ 0 → (d.made ≡ markers) × (d.alone ≡ alone)
  pub recv_is : d.number ≡ 1 → d.recv ≡ core.recv
  pub takes_is : d.number ≡ 1 → d.takes ≡ core.takes
  pub watchers_is : d.number ≡ 1 → d.made ≡ watchers

-- a note has been told of words that were so
pub record Tells (g : Shape) (core : Shown) (d : View) : Type 0 where
  pub geometry : d.geometry ≡ g
  pub seen_size : length d.seen ≡ word_count g
  pub seen_is : (x : Name) → Fits g x → IsLater (slice_index d.seen (number g x)) (core.word x)

-- until the receive side is made its view is the first one
pub record IsFirst (g : Shape) (core : Shown) : Type 0 where
  pub recv : core.recv ≡ (first_state {A = List ℕ} g).recv
  pub seen : (x : Name) → Fits g x → core.seen 1 x ≡ first_word g x
  pub looks : (x : Name) → Fits g x → core.looks 1 x ≡ 0
  pub pending : core.pending 1 ≡ None
  pub marks : core.marks 1 ≡ []
  pub takes : core.takes ≡ []

-- these bytes may stand in round k from a place of the message on, by the tag: each is allowed at its place
abbrev pub MayStand : {T : Type 0} → (T → ℕ → ℕ → ℕ → Type 0) → T → ℕ → ℕ → List ℕ → Type 0
MayStand may tag k from b = (j : ℕ) → j < length b → may tag k (from + j) (slice_index b j)

module _ {T : Type 0} (may : T → ℕ → ℕ → ℕ → Type 0) where
  -- bytes may be marked in round k by partition p: as many as it has, each allowed at its place
  pub record MayMark (key : Key T) (k p : ℕ) (b : List ℕ) : Type 0 where
    pub long : length b ≡ key.geometry.send_bytes
    pub allowed : MayStand may key.tag k (p * key.geometry.send_bytes) b

  -- a mark has the bytes that were marked in its round, and they may be
  pub record IsMarked (key : Key T) (bytes : ℕ → ℕ → List ℕ) (m : Mark (List ℕ)) : Type 0 where
    pub bytes_are : m.with ≡ bytes m.round m.partition
    pub may_be : MayMark key m.round m.partition m.with

  -- `core` is the state that is shown, `seat` the table's seat of each number given so far, and `bytes` what was
  -- marked by each partition in each round.
  pub record Rule (key : Key T) (s : At) : Type 0 where
    pub core : Shown
    pub seat : ℕ → ℕ
    pub alone : Bool
    pub markers : ℕ
    pub watchers : ℕ
    pub bytes : ℕ → ℕ → List ℕ
    pub shape : IsShape key.geometry
    pub sound : Sound key.geometry core
    pub size : length s.words ≡ table_size key.geometry
    pub room : length s.homes ≡ key.geometry.depth * slot_row key.geometry
    pub words : HasWords key.geometry s.words core.word
    pub slots : (d c : ℕ) → d < key.geometry.depth → c < cells key.geometry
        → Stands key.geometry c (get_elem? s.homes (slot_number key.geometry d c)) (core.slot d c)
    -- a buffer that is home and has the round of its piece's word has the bytes marked in that round
    pub kept : (d c : ℕ) (b : Buf) → d < key.geometry.depth → c < cells key.geometry
        → get_elem? s.homes (slot_number key.geometry d c) ≡ some (some (Some b))
        → IsKept key.geometry core d c → 1 ≤ round_in (piece_word key.geometry core d c)
        → b.bytes ≡ cell_bytes key.geometry (bytes (round_in (piece_word key.geometry core d c))) c
    pub seats : (i : ℕ) (d : View) → get_elem? s.views i ≡ some d → d.standing ≡ Seated
        → Agrees key.geometry core alone markers watchers seat i d
    pub notes : (i : ℕ) (d : View) → get_elem? s.views i ≡ some d → d.standing ≡ Told → Tells key.geometry core d
    pub running : (i : ℕ) (d : View) → get_elem? s.views i ≡ some d → d.standing ≢ Closed
    pub first : alone ≡ true → IsFirst key.geometry core
    pub unwatched : alone ≡ true → watchers ≡ 0
    pub new : (n : ℕ) → ¬ Given alone markers watchers n → n ≢ 1 → core.life n ≡ Blank
    -- each seat of the core that has a view has it in the table
    pub here : (n : ℕ) → core.life n ≡ Live → (n ≡ 1 → alone ≡ false)
        → (d : View) × (get_elem? s.views (seat n) ≡ some d) × (d.standing ≡ Seated) × (d.number ≡ n)
    pub marks : (n : ℕ) (m : Mark (List ℕ)) → Contains (core.marks n) m → IsMarked key bytes m
    pub takes : (m : Mark (List ℕ)) → Contains core.takes m
        → m.with ≡ part_bytes key.geometry (bytes m.round) m.partition

-- the bytes of the mark of a round and a partition in a list of marks
abbrev pub bytes_of : List (Mark (List ℕ)) → ℕ → ℕ → List ℕ
bytes_of [] k p = []
bytes_of (m ∷ ms) k p = if is_mark k p m then m.with else bytes_of ms k p

module _ {T : Type 0} (may : T → ℕ → ℕ → ℕ → Type 0) where
  -- What the view of a closed pair says: each partition of each round up to the sender's was marked once, with bytes
  -- that may be, and each one of each round up to the receiver's was taken once, with the bytes that were marked there.
  pub record IsWhole (key : Key T) (d : View) : Type 0 where
    pub behind : d.recv.round ≤ d.send.round
    pub all_marked : (k p : ℕ) → 1 ≤ k → k ≤ d.send.round → p < key.geometry.send_parts → times k p d.marks ≡ 1
    pub only_marked : (k p : ℕ) → 1 ≤ times k p d.marks → (1 ≤ k) × (k ≤ d.send.round) × (p < key.geometry.send_parts)
    pub may_be : (m : Mark (List ℕ)) → Contains d.marks m → MayMark may key m.round m.partition m.with
    pub all_taken : (k q : ℕ) → 1 ≤ k → k ≤ d.recv.round → q < key.geometry.recv_parts → times k q d.takes ≡ 1
    pub only_taken : (k q : ℕ) → 1 ≤ times k q d.takes → (1 ≤ k) × (k ≤ d.recv.round) × (q < key.geometry.recv_parts)
    pub takes_are : (t : Mark (List ℕ)) → Contains d.takes t
        → t.with ≡ part_bytes key.geometry (bytes_of d.marks t.round) t.partition

  -- the sides' rounds stand in claim word 0 and in the release word
  pub record AreCounted (key : Key T) (words : List ℕ) (d : View) : Type 0 where
    pub sent : round_in (slice_index words (address key.geometry (Claim 0))) ≡ d.send.round
    pub received : round_in (slice_index words (address key.geometry Release)) ≡ d.recv.round

  -- the table of a pair that was closed: no seat steps any more
  pub record Ended (key : Key T) (s : At) : Type 0 where
    pub over : (i : ℕ) (d : View) → get_elem? s.views i ≡ some d → d.standing ≢ Seated
    pub shape : IsShape key.geometry
    pub size : length s.words ≡ table_size key.geometry
    pub whole : (i : ℕ) (d : View) → get_elem? s.views i ≡ some d → d.standing ≡ Closed → IsWhole key d
    pub counted : (i : ℕ) (d : View) → get_elem? s.views i ≡ some d → d.standing ≡ Closed → AreCounted key s.words d

  -- the rule of the table, of a running pair or of one that was closed
  abbrev pub Holds : Key T → At → Type 0
  Holds key s = Rule may key s ⊎ Ended key s
