-- What a run stands for after a step: each part of the run that a call changes goes with the same part of the state.
use Rattle.std.proofs.Common.{◌≡◌, ◌≢◌, ℕ, ◌+◌, ◌≤◌, Bool, true, false, nat_lt, is_some, if◌then◌else◌, bytes_eq, codes, List, [], ◌∷◌, ◌++◌, length, Option, Some, None, Result, Ok, Err, refl, sym, ◌∙◌, append_assoc, arith}
use Rattle.std.specs.Option.{option_map_or}
use Rattle.std.specs.Prelude.{slice_get}
use Rattle.std.proofs.lemmas.List.{length-map}
use Rattle.std.proofs.Math.ListN.{length-append}
use Rattle.std.proofs.lemmas.Option.{slice_get_past}
use Rattle.init_match.specs.declared.TheConstants.{MAX_VOLUME}
use Rattle.init_match.specs.declared.answers.InitFault.{InitFault}
use Rattle.init_match.specs.declared.answers.InitFault.TheVariants.{NoMemory, WorldFull}
use Rattle.init_match.specs.declared.answers.Matched.{Matched}
use Rattle.init_match.specs.Calls.{total}
use Rattle.init_match.specs.Matching.{completed_by, pairs_of}
use Rattle.init_match.specs.World.{WorldState, matched_as, matched_pairs, send_call, recv_call, number_fault, size_fault, volume}
use Rattle.part_geometry.specs.declared.answers.Side.{Side}
use Rattle.part_geometry.specs.declared.answers.Side.TheVariants.{SendSide, RecvSide}
use Rattle.script_text.specs.declared.call.Action.{Action}
use Rattle.script_text.specs.declared.call.Call.{Call}
use Rattle.script_text.specs.declared.call.Call.TheVariants.{Send, Recv, Request}
use Rattle.script_text.specs.declared.call.Init.{Init}
use Rattle.script_run.specs.declared.run.Run.{Run}
use Rattle.script_run.specs.Pairs.{StandsPair, IsNew}
use Rattle.script_run.specs.Names.{lookup}
use Rattle.script_run.specs.declared.pairs.NamedPair.{NamedPair}
use Rattle.script_run.specs.Run.{is_no_memory, matched_at, name_at, init_answer_of, world_answer, begun, next_pair, joined, with_request, with_world, initialised, after_init_of, after_request, after_known, known_as, call_text, after_call}
use Rattle.script_run.specs.Running.{StandsFor, GoesOn}
use Rattle.script_run.specs.State.{Known, State, slot_of, HasSlots}
use Rattle.script_run.proofs.Slots.{slot_of-push, slot_of-matched_at, length-matched_at}
use Rattle.script_run.proofs.Zips.{zip_length, zip_push}

-- no pair was completed
pub joined_none : (r : Run) (st : State) → StandsFor r st → length (pairs_of r.world.calls) ≤ length r.pairs.items → joined st ≡ st
joined_none r st stands few =
    let none : next_pair st ≡ None = slice_get_past (matched_pairs st.world) (length st.pairs) (below r st stands few) in
    rw none refl
  where
    below : (r : Run) (st : State) → StandsFor r st → length (pairs_of r.world.calls) ≤ length r.pairs.items → length (matched_pairs st.world) ≤ length st.pairs
    below r st stands few =
        let few_pairs : length (pairs_of st.world.calls) ≤ length r.pairs.items = rw (← stands.world) few in
        omega (arith, length-map (pairs_of st.world.calls) (matched_as st.world.grain st.world.depth), zip_length StandsPair r.pairs.items st.pairs stands.pairs)

-- the pair that was completed
pub joined_some : (r : Run) (st : State) (m : Matched) → StandsFor r st → slice_get (matched_pairs r.world) (length r.pairs.items) ≡ Some m → joined st ≡ begun st (Some m)
joined_some r st m stands is =
    let e : next_pair st ≡ Some m = rw (← stands.world, ← zip_length StandsPair r.pairs.items st.pairs stands.pairs) is in
    rw e refl

-- an accepted initialisation has the slot behind those before
ok_slot : (a b : Option InitFault) (t : Bool) (f : InitFault) (n slot : ℕ) → Ok slot ≡ option_map_or Err a (option_map_or Err b (if t then Err f else Ok n)) → slot ≡ n
ok_slot (Some x) b t f n slot is = absurd (cc)
ok_slot None (Some x) t f n slot is = absurd (cc)
ok_slot None None true f n slot is = absurd (cc)
ok_slot None None false f n slot is = cc

-- the slot of an accepted initialisation is the number of those that were accepted before it
pub slot_is : (w : WorldState) (side : Side) (i : Init) (slot : ℕ) → Ok slot ≡ world_answer w side i → slot ≡ length w.calls
slot_is w SendSide i slot is = let c = send_call i.from i.to i.tag i.comm i.parts i.bytes in
    ok_slot (number_fault w.ranks c) (size_fault (completed_by w.calls c)) (nat_lt MAX_VOLUME (volume w.calls + total c)) (WorldFull (volume w.calls + total c)) (length w.calls) slot is
slot_is w RecvSide i slot is = let c = recv_call i.from i.to i.tag i.comm i.parts i.bytes in
    ok_slot (number_fault w.ranks c) (size_fault (completed_by w.calls c)) (nat_lt MAX_VOLUME (volume w.calls + total c)) (WorldFull (volume w.calls + total c)) (length w.calls) slot is

-- an answer of which the test says that it isn't want of memory isn't that
pub not_no_memory : (a : Result ℕ InitFault) → is_no_memory a ≡ false → a ≢ Err NoMemory
not_no_memory a differs is = let e : is_no_memory a ≡ true = rw is refl in absurd (cc)

-- each accepted initialisation keeps its request
joined_slots : (st : State) (o : Option Matched) → HasSlots st → HasSlots (begun st o)
joined_slots st None slots = slots
joined_slots st (Some m) slots = length-matched_at _ m.recv_slot _ ∙ length-matched_at _ m.send_slot st.requests ∙ slots

one_more : {A B : Type 0} (xs : List A) (ys : List B) (x : A) (y : B) → length xs ≡ length ys → length (xs ++ x ∷ []) ≡ length (ys ++ y ∷ [])
one_more xs ys x y same = omega (arith, length-append xs (x ∷ []), length-append ys (y ∷ []))

asked_slots : (st : State) (side : Side) (i : Init) (slot : ℕ) → HasSlots st → HasSlots (with_request (with_world st side i (Ok slot)) i.name side)
asked_slots st SendSide i slot slots = one_more st.requests st.world.calls _ _ slots
asked_slots st RecvSide i slot slots = one_more st.requests st.world.calls _ _ slots

initialised_slots : (st : State) (side : Side) (i : Init) (a : Result ℕ InitFault) → HasSlots st → HasSlots (initialised st side i a)
initialised_slots st side i (Ok slot) slots =
    let s = with_request (with_world st side i (Ok slot)) i.name side in joined_slots s (next_pair s) (asked_slots st side i slot slots)
initialised_slots st side i (Err f) slots = slots

init_slots : (st : State) (side : Side) (i : Init) → HasSlots st → HasSlots (after_init_of st side i)
init_slots st side i slots =
    elim (is_some (slot_of st.requests i.name)) as (λ v. HasSlots (if v then st else initialised st side i (world_answer st.world side i))) [
      | true ↦ slots
      | false ↦ initialised_slots st side i (world_answer st.world side i) slots
    ]

request_slots : (st : State) (side : Side) (o : Option ℕ) (a : Action) → HasSlots st → HasSlots (after_request st side o a)
request_slots st side None a slots = slots
request_slots st side (Some n) a slots = slots

known_slots : (st : State) (o : Option Known) (a : Action) → HasSlots st → HasSlots (after_known st o a)
known_slots st None a slots = slots
known_slots st (Some r) a slots = request_slots st r.side r.pair a slots

-- where each accepted initialisation has its request, it's so after a call, too
pub call_slots : (st : State) (c : Call) → HasSlots st → HasSlots (after_call st c)
call_slots st (Send i) slots = init_slots st SendSide i slots
call_slots st (Recv i) slots = init_slots st RecvSide i slots
call_slots st (Request name a) slots = known_slots st (known_as st name) a slots

-- once a call's answer and its LF are written, and the run stands for the state after it, the run goes on behind it
pub steps_on : (old new : Run) (front text next : List ℕ) (c : Call) (rest : List Call) (whole : List ℕ) (so_far : GoesOn old front (c ∷ rest) whole)
    → (text ≡ call_text so_far.here c) × StandsFor new (after_call so_far.here c) → next ≡ front ++ text ++ 10 ∷ [] → GoesOn new next rest whole
steps_on old new front text next c rest whole so_far did is = record {
  here = after_call so_far.here c;
  stands = did.1;
  slots = call_slots so_far.here c so_far.slots;
  written = rw (is, did.0) (simp append_assoc so_far.written);
}

-- a pair that was completed begins
pub begun_stands : (old new : Run) (st : State) (m : Matched) (n : ℕ) (pair : NamedPair) (send recv : List ℕ) → StandsFor old st → n ≡ length old.pairs.items
    → new.world ≡ old.world → new.names ≡ old.names
    → new.requests.items ≡ matched_at n m.recv_slot (matched_at n m.send_slot old.requests.items)
    → new.pairs.items ≡ old.pairs.items ++ pair ∷ [] → IsNew pair send recv m.geometry
    → send ≡ name_at old.requests.items m.send_slot → recv ≡ name_at old.requests.items m.recv_slot → StandsFor new (begun st (Some m))
begun_stands old new st m n pair send recv stands n_is world names requests pairs is_new send_is recv_is =
    let count : n ≡ length st.pairs = n_is ∙ zip_length StandsPair old.pairs.items st.pairs stands.pairs in
    let send_named : send ≡ name_at st.requests m.send_slot = rw (← stands.requests) send_is in
    let recv_named : recv ≡ name_at st.requests m.recv_slot = rw (← stands.requests) recv_is in
    record {
      world = world ∙ stands.world;
      requests = rw (← count, ← stands.requests) requests;
      names = λ q. rw names (stands.names q ∙ sym (slot_of-matched_at (length st.pairs) m.recv_slot (matched_at (length st.pairs) m.send_slot st.requests) q
          ∙ slot_of-matched_at (length st.pairs) m.send_slot st.requests q));
      pairs = rw pairs (zip_push StandsPair old.pairs.items st.pairs pair _ stands.pairs (rw (← send_named, ← recv_named) is_new));
    }

-- a request more
pub request_stands : (old new : Run) (st : State) (name : List ℕ) (side : Side) (slot : ℕ) → StandsFor old st → slot_of st.requests name ≡ None → slot ≡ length st.requests
    → new.world ≡ old.world → new.requests.items ≡ old.requests.items ++ record { name = name; side = side; pair = None } ∷ []
    → ((q : List ℕ) → lookup new.names q ≡ (if bytes_eq name q then Some slot else lookup old.names q)) → new.pairs.items ≡ old.pairs.items
    → StandsFor new (with_request st name side)
request_stands old new st name side slot stands free slot_at world requests names pairs = record {
  world = world ∙ stands.world;
  requests = rw (← stands.requests) requests;
  names = λ q. names q ∙ rw (slot_at, stands.names q) (sym (slot_of-push st.requests record { name = name; side = side; pair = None } q free));
  pairs = rw pairs stands.pairs;
}

-- an initialisation that was accepted
pub init_ok : (st : State) (side : Side) (i : Init) (slot : ℕ) (new : Run) → slot_of st.requests i.name ≡ None → Ok slot ≡ world_answer st.world side i
    → StandsFor new (joined (with_request (with_world st side i (Ok slot)) i.name side)) → (codes "ok" ≡ init_answer_of st side i) × StandsFor new (after_init_of st side i)
init_ok st side i slot new free is stands = rw (free, ← is) (refl, stands)

-- a number that isn't there is `None`
pub not_some : (o : Option ℕ) → is_some o ≡ false → o ≡ None
not_some None no_one = refl
not_some (Some x) no_one = absurd (cc)
