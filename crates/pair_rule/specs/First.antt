-- Views as they are made, and how two become one.
use Rattle.std.specs.Prelude.{ℕ, ◌+◌, ◌-◌, ◌*◌, ◌%◌, true, false, if◌then◌else◌, nat_lt, List, [], ◌++◌, map}
use Rattle.std.specs.Prelude.{replicate, Option, Some, None}
use Rattle.std.specs.List.{range_with_len}
use Rattle.part_geometry.specs.Shape.{Shape}
use Rattle.part_geometry.specs.Cells.{cells}
use Rattle.part_geometry.specs.Pieces.{pieces, need}
use Rattle.gate_word.specs.Words.{word_of}
use Rattle.pair_core.specs.Names.{claim_words, take_words}
use Rattle.pair_core.specs.Moves.{part_mask, first_state}
use Rattle.pair_core.specs.State.{word_count}
use Rattle.pair_rule.specs.Addresses.{table_size}
use Rattle.pair_rule.specs.Buf.{Buf, buf}
use Rattle.pair_rule.specs.Rule.{cell_length, slot_row}
use Rattle.pair_rule.specs.Views.{told}
use Rattle.pair_rule.specs.declared.TheConstants.{FREE_WORDS}
use Rattle.pair_rule.specs.declared.view.View.{View}
use Rattle.pair_rule.specs.declared.view.Standing.TheVariants.{Seated, Told, Spent, Closed}

-- the word of a number before the first step: claim words, the release word, take words, return words, and the
-- piece words of each place
abbrev pub first_at : Shape → ℕ → ℕ
first_at g n =
    if nat_lt n (claim_words g) then word_of 0 true (part_mask g.send_parts n) else (
    if nat_lt n (claim_words g + 1) then word_of 0 false 0 else (
    if nat_lt n (claim_words g + 1 + take_words g)
    then word_of 0 false (part_mask g.recv_parts (n - (claim_words g + 1))) else (
    if nat_lt n (claim_words g + 1 + 2 * take_words g)
    then word_of 0 false (part_mask g.recv_parts (n - (claim_words g + 1 + take_words g))) else
    word_of 0 false (need g ((n - (claim_words g + 1 + 2 * take_words g)) % pieces g)))))

-- the words before the first step, in order
unfoldable pub first_words : Shape → List ℕ
first_words g = map (first_at g) (range_with_len 0 (word_count g))

-- the word at a place of the table before the first step, where a free word before a row has the first one of the row
abbrev pub first_in_table : Shape → ℕ → ℕ
first_in_table g n =
    if nat_lt n (FREE_WORDS + claim_words g) then word_of 0 true (part_mask g.send_parts (n - FREE_WORDS)) else (
    if nat_lt n (2 * FREE_WORDS + claim_words g + 1) then word_of 0 false 0 else (
    if nat_lt n (3 * FREE_WORDS + claim_words g + 1 + take_words g)
    then word_of 0 false (part_mask g.recv_parts (n - (3 * FREE_WORDS + claim_words g + 1))) else (
    if nat_lt n (4 * FREE_WORDS + claim_words g + 1 + 2 * take_words g)
    then word_of 0 false (part_mask g.recv_parts (n - (4 * FREE_WORDS + claim_words g + 1 + take_words g))) else
    word_of 0 false (need g
    ((n - (4 * FREE_WORDS + claim_words g + 1 + 2 * take_words g)) % (pieces g + FREE_WORDS) - FREE_WORDS)))))

-- the words of the table before the first step, in order
unfoldable pub first_table : Shape → List ℕ
first_table g = map (first_in_table g) (range_with_len 0 (table_size g))

-- the buffer of a cell before the first step: of round 0, with as many zeros as the cell has bytes
abbrev pub first_buf : Shape → ℕ → Buf
first_buf g c = buf 0 (replicate (cell_length g c) 0)

-- what a slot has before the first step: its cell's buffer, or nothing where it is a free one
abbrev pub first_in_slot : Shape → ℕ → Option Buf
first_in_slot g n = if nat_lt (n % slot_row g) (cells g) then Some (first_buf g (n % slot_row g)) else None

-- the slots before the first step, in order
unfoldable pub first_bufs : Shape → List (Option Buf)
first_bufs g = map (first_in_slot g) (range_with_len 0 (g.depth * slot_row g))

-- a view of the seat n that has seen these words and did nothing
abbrev pub fresh : Shape → ℕ → List ℕ → View
fresh g n words = record {
  standing = Seated;
  number = n;
  geometry = g;
  made = 0;
  alone = false;
  send = (first_state {A = List ℕ} g).send;
  recv = (first_state {A = List ℕ} g).recv;
  seen = words;
  looks = replicate (word_count g) 0;
  pending = None;
  marks = [];
  takes = [];
}

-- the view of the send side before the first step, while it is alone
abbrev pub first_view : Shape → View
first_view g = record (fresh g 0 (first_words g)) { alone = true }

-- the receive side is made
abbrev pub in_company : View → View
in_company d = record d { alone = false }

abbrev pub receiver : View → View
receiver d = fresh d.geometry 1 (first_words d.geometry)

-- a side makes a marker or a watcher, which has seen all that the side has seen
abbrev pub with_marker : View → View
with_marker d = record d { made = d.made + 1; send = record d.send { markers = d.send.markers + 1 } }

abbrev pub marker : View → View
marker d = fresh d.geometry (2 + 2 * d.made) d.seen

abbrev pub with_watcher : View → View
with_watcher d = record d { made = d.made + 1; recv = record d.recv { watchers = d.recv.watchers + 1 } }

abbrev pub watcher : View → View
watcher d = fresh d.geometry (3 + 2 * d.made) d.seen

-- a seat makes a note of what it has seen
abbrev pub note : View → View
note d = record (fresh d.geometry 0 d.seen) { standing = Told }

-- a view that was joined into another
abbrev pub no_shape : Shape
no_shape = record { send_parts = 0; send_bytes = 0; recv_parts = 0; recv_bytes = 0; grain = 0; depth = 0 }

abbrev pub spent : View
spent = record (fresh no_shape 0 []) { standing = Spent }

-- the send side takes in a marker, and the receive side a watcher
abbrev pub with_marker_back : View → View → View
with_marker_back d e = record (told d e) {
  send = record d.send { markers = d.send.markers - 1 };
  marks = e.marks ++ d.marks;
}

abbrev pub with_watcher_back : View → View → View
with_watcher_back d e = record (told d e) { recv = record d.recv { watchers = d.recv.watchers - 1 } }

-- the receive side is joined into the send side, and the pair is closed
abbrev pub closed : View → View → View
closed d e = record d { standing = Closed; recv = e.recv; takes = e.takes }
