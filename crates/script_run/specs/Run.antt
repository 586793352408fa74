-- What a script answers: its calls in order, each by what the calls before it made, and the report of `end`.
use Rattle.std.specs.Prelude.{ℕ, Bool, true, false, is_some, if◌then◌else◌, codes, List, [], ◌∷◌, ◌++◌, length, map, slice_get, slice_index_or, slice_set, Option, Some, None, Result, Ok, Err}
use Rattle.std.specs.List.{filter, flat_map}
use Rattle.init_match.specs.declared.answers.InitFault.{InitFault}
use Rattle.init_match.specs.declared.answers.InitFault.TheVariants.{NoMemory}
use Rattle.init_match.specs.declared.answers.Matched.{Matched}
use Rattle.init_match.specs.World.{WorldState, send_call, recv_call, init_answer, after_init, matched_pairs}
use Rattle.part_geometry.specs.declared.answers.Side.{Side}
use Rattle.part_geometry.specs.declared.answers.Side.TheVariants.{SendSide, RecvSide}
use Rattle.plain_pair.specs.Closing.{closed_answer}
use Rattle.script_pair.specs.Answers.{is_wrong_side, answer, after}
use Rattle.script_pair.specs.Desk.{first_desk}
use Rattle.script_pair.specs.Texts.{closed_text}
use Rattle.script_text.specs.declared.call.Action.{Action}
use Rattle.script_text.specs.declared.call.Action.TheVariants.{Test}
use Rattle.script_text.specs.declared.call.Call.{Call}
use Rattle.script_text.specs.declared.call.Call.TheVariants.{Send, Recv, Request}
use Rattle.script_text.specs.declared.call.Init.{Init}
use Rattle.script_text.specs.Script.{Contents}
use Rattle.script_run.specs.State.{Known, Pair, State, first_state, slot_of, is_waiting}
use Rattle.script_run.specs.Texts.{init_text}

-- memory ran out, which ends the run
abbrev pub is_no_memory : Result ℕ InitFault → Bool
is_no_memory (Err NoMemory) = true
is_no_memory _ = false

-- what the world answers to an initialisation, and the world after that answer
abbrev pub world_answer : WorldState → Side → Init → Result ℕ InitFault
world_answer w SendSide i = init_answer w (send_call i.from i.to i.tag i.comm i.parts i.bytes)
world_answer w RecvSide i = init_answer w (recv_call i.from i.to i.tag i.comm i.parts i.bytes)

abbrev pub after_world : WorldState → Side → Init → Result ℕ InitFault → WorldState
after_world w SendSide i answer = after_init w (send_call i.from i.to i.tag i.comm i.parts i.bytes) answer
after_world w RecvSide i answer = after_init w (recv_call i.from i.to i.tag i.comm i.parts i.bytes) answer

-- a request that is in a pair
abbrev pub in_pair : ℕ → Known → Known
in_pair n r = record r { pair = Some n }

abbrev pub with_pair : ℕ → ℕ → List Known → Option Known → List Known
with_pair n slot requests None = requests
with_pair n slot requests (Some r) = slice_set requests slot (in_pair n r)

abbrev pub matched_at : ℕ → ℕ → List Known → List Known
matched_at n slot requests = with_pair n slot requests (slice_get requests slot)

-- the name of the request in a slot
abbrev pub name_at : List Known → ℕ → List ℕ
name_at requests slot = slice_index_or (map (λ r. r.name) requests) slot []

-- a pair that the world completed begins
abbrev pub begun : State → Option Matched → State
begun st None = st
begun st (Some m) = record st {
  requests = matched_at (length st.pairs) m.recv_slot (matched_at (length st.pairs) m.send_slot st.requests);
  pairs = st.pairs ++ record {
    send = name_at st.requests m.send_slot;
    recv = name_at st.requests m.recv_slot;
    shape = m.geometry;
    desk = first_desk;
  } ∷ [];
}

-- the first pair of the world that hasn't begun
abbrev pub next_pair : State → Option Matched
next_pair st = slice_get (matched_pairs st.world) (length st.pairs)

-- a request more, and the pair that it completed begins
abbrev pub with_request : State → List ℕ → Side → State
with_request st name side =
    record st { requests = st.requests ++ record { name = name; side = side; pair = None } ∷ [] }

abbrev pub joined : State → State
joined st = begun st (next_pair st)

-- the initialisation stands in the world
abbrev pub with_world : State → Side → Init → Result ℕ InitFault → State
with_world st side i answer = record st { world = after_world st.world side i answer }

abbrev pub initialised : State → Side → Init → Result ℕ InitFault → State
initialised st side i (Ok slot) = joined (with_request (with_world st side i (Ok slot)) i.name side)
initialised st side i (Err fault) = st

-- `send` and `recv`: a name is given once
abbrev pub init_answer_of : State → Side → Init → List ℕ
init_answer_of st side i =
    if is_some (slot_of st.requests i.name) then codes "refused NameTaken" else init_text (world_answer st.world side i)

abbrev pub after_init_of : State → Side → Init → State
after_init_of st side i =
    if is_some (slot_of st.requests i.name) then st else initialised st side i (world_answer st.world side i)

-- an action on a request that isn't matched: one of the other side is refused, and a test finds it idle
abbrev pub unmatched_text : Action → List ℕ
unmatched_text Test = codes "idle"
unmatched_text _ = codes "refused Unmatched"

abbrev pub waiting_text : Side → Action → List ℕ
waiting_text side a = if is_wrong_side side a then codes "refused WrongSide" else unmatched_text a

-- an action on a pair, by the pair
abbrev pub pair_text : Option Pair → Side → Action → List ℕ
pair_text None side a = []
pair_text (Some p) side a = answer p.shape side p.desk a

abbrev pub after_pair : List Pair → ℕ → Option Pair → Side → Action → List Pair
after_pair pairs n None side a = pairs
after_pair pairs n (Some p) side a = slice_set pairs n (record p { desk = after p.shape side p.desk a })

-- an action on a request
abbrev pub request_text : State → Side → Option ℕ → Action → List ℕ
request_text st side None a = waiting_text side a
request_text st side (Some n) a = pair_text (slice_get st.pairs n) side a

abbrev pub after_request : State → Side → Option ℕ → Action → State
after_request st side None a = st
after_request st side (Some n) a = record st { pairs = after_pair st.pairs n (slice_get st.pairs n) side a }

abbrev pub known_text : State → Option Known → Action → List ℕ
known_text st None a = codes "refused NoRequest"
known_text st (Some r) a = request_text st r.side r.pair a

abbrev pub after_known : State → Option Known → Action → State
after_known st None a = st
after_known st (Some r) a = after_request st r.side r.pair a

-- the request of a name
abbrev pub at_slot : List Known → Option ℕ → Option Known
at_slot requests None = None
at_slot requests (Some slot) = slice_get requests slot

abbrev pub known_as : State → List ℕ → Option Known
known_as st name = at_slot st.requests (slot_of st.requests name)

-- what a call answers, and what there is after it
abbrev pub call_text : State → Call → List ℕ
call_text st (Send i) = init_answer_of st SendSide i
call_text st (Recv i) = init_answer_of st RecvSide i
call_text st (Request name a) = known_text st (known_as st name) a

abbrev pub after_call : State → Call → State
after_call st (Send i) = after_init_of st SendSide i
after_call st (Recv i) = after_init_of st RecvSide i
after_call st (Request name a) = after_known st (known_as st name) a

-- the report: a line for each pair, and then one for each request that waits
abbrev pub names_text : List ℕ → List ℕ → List ℕ
names_text send recv = codes "pair " ++ send ++ codes " " ++ recv

abbrev pub pair_line : Pair → List ℕ
pair_line p = names_text p.send p.recv ++ closed_text (closed_answer p.shape p.desk.record_) ++ 10 ∷ []

abbrev pub waiting_line : Known → List ℕ
waiting_line r = codes "unmatched " ++ r.name ++ 10 ∷ []

abbrev pub report : State → List ℕ
report st = flat_map pair_line st.pairs ++ flat_map waiting_line (filter is_waiting st.requests)

-- what calls answer, each line ended by LF, and then the report
abbrev pub answers_from : State → List Call → List ℕ
answers_from st [] = report st
answers_from st (c ∷ rest) = call_text st c ++ 10 ∷ answers_from (after_call st c) rest

-- what a whole script answers
abbrev pub answers_of : Contents → List ℕ
answers_of script = codes "ok" ++ 10 ∷ answers_from (first_state script.world) script.calls
