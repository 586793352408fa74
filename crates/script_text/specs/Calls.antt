-- What the words of a line call.
use Rattle.std.specs.Prelude.{ℕ, bytes_eq, codes, if◌then◌else◌, List, [], ◌∷◌, Option, Some, None}
use Rattle.script_text.specs.Words.{◌>>=◌, name_of, bytes_of, numbers_of}
use Rattle.text_words.specs.Numbers.{number_of}
use Rattle.script_text.specs.declared.call.Init.{Init}
use Rattle.script_text.specs.declared.call.Call.{Call}
use Rattle.script_text.specs.declared.call.Call.TheVariants.{Send, Recv, Request}
use Rattle.script_text.specs.declared.call.Action.TheVariants.{Start, Ready, ReadyRange, ReadyList, Arrived, Take, Back, Test, Free}

-- the words behind `send` and `recv`
abbrev pub init_of : List (List ℕ) → Option Init
init_of (name ∷ from ∷ to ∷ tag ∷ comm ∷ parts ∷ bytes ∷ []) = do
  n ← name_of name
  f ← number_of from
  t ← number_of to
  g ← number_of tag
  c ← number_of comm
  p ← number_of parts
  b ← number_of bytes
  Some record { name = n; from = f; to = t; tag = g; comm = c; parts = p; bytes = b }
init_of _ = None

abbrev pub send_of : List (List ℕ) → Option Call
send_of words = do
  i ← init_of words
  Some (Send i)

abbrev pub recv_of : List (List ℕ) → Option Call
recv_of words = do
  i ← init_of words
  Some (Recv i)

-- the word behind `start`, `test` and `free`
abbrev pub named_of : List (List ℕ) → Option (List ℕ)
named_of (name ∷ []) = name_of name
named_of _ = None

abbrev pub start_of : List (List ℕ) → Option Call
start_of words = do
  n ← named_of words
  Some (Request n Start)

abbrev pub test_of : List (List ℕ) → Option Call
test_of words = do
  n ← named_of words
  Some (Request n Test)

abbrev pub free_of : List (List ℕ) → Option Call
free_of words = do
  n ← named_of words
  Some (Request n Free)

-- the words behind `arrived`, `take` and `back`
abbrev pub placed_of : List (List ℕ) → Option (List ℕ × ℕ)
placed_of (name ∷ q ∷ []) = do
  n ← name_of name
  m ← number_of q
  Some (n, m)
placed_of _ = None

abbrev pub arrived_of : List (List ℕ) → Option Call
arrived_of words = do
  p ← placed_of words
  Some (Request p.0 (Arrived p.1))

abbrev pub take_of : List (List ℕ) → Option Call
take_of words = do
  p ← placed_of words
  Some (Request p.0 (Take p.1))

abbrev pub back_of : List (List ℕ) → Option Call
back_of words = do
  p ← placed_of words
  Some (Request p.0 (Back p.1))

-- the words behind `ready`
abbrev pub mark_of : List ℕ → List ℕ → List ℕ → List ℕ → Option Call
mark_of name round partition bytes = do
  n ← name_of name
  r ← number_of round
  p ← number_of partition
  b ← bytes_of bytes
  Some (Request n (Ready r p b))

abbrev pub ready_of : List (List ℕ) → Option Call
ready_of (name ∷ round ∷ partition ∷ bytes ∷ []) = mark_of name round partition bytes
ready_of _ = None

-- the words behind `range`
abbrev pub range_mark_of : List ℕ → List ℕ → List ℕ → List ℕ → List ℕ → Option Call
range_mark_of name round low high bytes = do
  n ← name_of name
  r ← number_of round
  l ← number_of low
  h ← number_of high
  b ← bytes_of bytes
  Some (Request n (ReadyRange r l h b))

abbrev pub range_of : List (List ℕ) → Option Call
range_of (name ∷ round ∷ low ∷ high ∷ bytes ∷ []) = range_mark_of name round low high bytes
range_of _ = None

-- the words behind `list`
abbrev pub list_mark_of : List ℕ → List ℕ → List ℕ → List ℕ → Option Call
list_mark_of name round parts bytes = do
  n ← name_of name
  r ← number_of round
  p ← numbers_of parts
  b ← bytes_of bytes
  Some (Request n (ReadyList r p b))

abbrev pub list_of : List (List ℕ) → Option Call
list_of (name ∷ round ∷ parts ∷ bytes ∷ []) = list_mark_of name round parts bytes
list_of _ = None

-- a command that isn't a mark, and the words behind it
abbrev pub request_call_of : List ℕ → List (List ℕ) → Option Call
request_call_of command words =
    if bytes_eq command (codes "send") then send_of words
    else if bytes_eq command (codes "recv") then recv_of words
    else if bytes_eq command (codes "start") then start_of words
    else if bytes_eq command (codes "arrived") then arrived_of words
    else if bytes_eq command (codes "take") then take_of words
    else if bytes_eq command (codes "back") then back_of words
    else if bytes_eq command (codes "test") then test_of words
    else if bytes_eq command (codes "free") then free_of words
    else None

-- any command
abbrev pub mark_call_of : List ℕ → List (List ℕ) → Option Call
mark_call_of command words =
    if bytes_eq command (codes "ready") then ready_of words
    else if bytes_eq command (codes "range") then range_of words
    else if bytes_eq command (codes "list") then list_of words
    else request_call_of command words

-- what a line's words call
abbrev pub call_of : List (List ℕ) → Option Call
call_of [] = None
call_of (command ∷ words) = mark_call_of command words
