-- Initialisations, and which of them are of one side and one key (MPI 4.0, 4.2.1).
use Rattle.std.specs.Prelude.{ℕ, ◌*◌, Bool, true, false, ◌&&◌, ◌==◌, List, filter, map}
use Rattle.std.specs.List.{enumerate_from}
use Rattle.part_geometry.specs.declared.answers.Side.{Side}
use Rattle.part_geometry.specs.declared.answers.Side.TheVariants.{SendSide, RecvSide}
use Rattle.init_match.specs.declared.keys.Key.{Key}
use Rattle.init_match.specs.declared.keys.Call.{Call}

abbrev pub same_side : Side → Side → Bool
same_side SendSide SendSide = true
same_side RecvSide RecvSide = true
same_side _ _ = false

-- the other side
abbrev pub facing : Side → Side
facing SendSide = RecvSide
facing RecvSide = SendSide

abbrev pub same_key : Key → Key → Bool
same_key a b = (a.comm == b.comm) && ((a.from == b.from) && ((a.to == b.to) && (a.tag == b.tag)))

-- whether a call is of a side and a key
abbrev pub is_of : Side → Key → Call → Bool
is_of side key c = same_side side c.side && same_key key c.key

-- the bytes of a call in all
abbrev pub total : Call → ℕ
total c = c.parts * c.bytes

-- the calls of a side and a key among those accepted, in order, each with its slot
unfoldable pub of_key : Side → Key → List Call → List (ℕ × Call)
of_key side key calls = filter (λ e. is_of side key e.1) (enumerate_from 0 calls)

-- their slots
abbrev pub slots_of : Side → Key → List Call → List ℕ
slots_of side key calls = map (λ e. e.0) (of_key side key calls)
