-- What a step makes of the view of the seat that makes it. It mirrors what the core's step makes of its state, part
-- by part.
use Rattle.std.specs.Prelude.{ℕ, ◌+◌, ◌*◌, ◌/◌, ◌%◌, Bool, ◌==◌, ◌&&◌, if◌then◌else◌, nat_lt, List, [], ◌∷◌, map}
use Rattle.std.specs.Prelude.{slice_index, slice_set, Some}
use Rattle.std.specs.List.{range_with_len}
use Rattle.gate_word.specs.Order.{join_of}
use Rattle.pair_core.specs.Words.{empty}
use Rattle.pair_core.specs.Names.{Name, Claim, Release, Take, Return, Piece, number, claim_words, take_words}
use Rattle.pair_core.specs.Steps.{mark, left_of}
use Rattle.pair_core.specs.State.{word_count}
use Rattle.pair_core.specs.declared.view.Pending.{Pending}
use Rattle.pair_rule.specs.declared.view.View.{View}

-- the last seen word of a name, and how often the seat has stepped on it
abbrev pub seen : View → Name → ℕ
seen d x = slice_index d.seen (number d.geometry x)

abbrev pub looks : View → Name → ℕ
looks d x = slice_index d.looks (number d.geometry x)

-- the seat stepped on the word x, and saw w as the step left it
abbrev pub saw : Name → ℕ → View → View
saw x w d = record d {
  seen = slice_set d.seen (number d.geometry x) w;
  looks = slice_set d.looks (number d.geometry x) (looks d x + 1);
}

-- the send side stores piece word i, empty for round k; it stores and shuts claim word c
abbrev pub stored_piece : ℕ → ℕ → View → View
stored_piece k i d = record (saw (Piece (k % d.geometry.depth) i) (empty k) d) {
  send = record { round = k; pieces = i + 1; opened = 0; shut = 0; markers = d.send.markers };
}

abbrev pub stored_claim : ℕ → View → View
stored_claim c d = record (saw (Claim c) (empty d.send.round) d) { send = record d.send { opened = c + 1 } }

abbrev pub shut_claim : ℕ → ℕ → View → View
shut_claim c w d = record (saw (Claim c) w d) { send = record d.send { shut = c + 1 } }

-- a marker claims partition p with these bytes in round k, and lays its claim into piece i; w is the word then
abbrev pub claimed : ℕ → ℕ → List ℕ → ℕ → View → View
claimed k p b w d = record (saw (Claim (p / 32)) w d) {
  pending = Some record { round = k; partition = p; laid = [] };
  marks = mark k p b ∷ d.marks;
}

abbrev pub laid : ℕ → Pending → ℕ → View → View
laid i x w d = record (saw (Piece (x.round % d.geometry.depth) i) w d) { pending = left_of d.geometry i x }

-- the receive side stores return word t, empty for round k, and take word t; takes partition q with these bytes;
-- releases
abbrev pub stored_return : ℕ → ℕ → View → View
stored_return k t d = record (saw (Return t) (empty k) d) {
  recv = record { round = k; returns = t + 1; takes = 0; released = 0; watchers = d.recv.watchers };
}

abbrev pub stored_take : ℕ → View → View
stored_take t d = record (saw (Take t) (empty d.recv.round) d) { recv = record d.recv { takes = t + 1 } }

abbrev pub taken : ℕ → List ℕ → ℕ → View → View
taken q b w d = record (saw (Take (q / 32)) w d) { takes = mark d.recv.round q b ∷ d.takes }

abbrev pub given_back : ℕ → ℕ → View → View
given_back q w d = saw (Return (q / 32)) w d

abbrev pub released : View → View
released d = record (saw Release (empty d.recv.round) d) { recv = record d.recv { released = 1 } }

-- the receive side alone writes the take and the return words, and keeps what it has seen of them
abbrev pub is_own : View → ℕ → Bool
is_own d n =
    (d.number == 1)
    && (nat_lt (claim_words d.geometry) n && nat_lt n (claim_words d.geometry + 1 + 2 * take_words d.geometry))

-- the word with a number that d has seen once it is told what e has seen: of any word that isn't its own, the join
abbrev pub told_word : View → View → ℕ → ℕ
told_word d e n = if is_own d n then slice_index d.seen n else join_of (slice_index d.seen n) (slice_index e.seen n)

abbrev pub told : View → View → View
told d e = record d { seen = map (told_word d e) (range_with_len 0 (word_count d.geometry)) }
