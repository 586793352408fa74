-- What a matched pair keeps through each of its calls: its requests go with the sides of the pair, and what is kept of
-- a partition changes only where it is taken or given back.
use Rattle.std.proofs.Common.{◌≡◌, ℕ, ◌<◌, nat_lt, Bool, true, false, ◌&&◌, not, Option, Some, None, Result, Ok, Err, List, length, get_or, set, refl, sym, ap, ◌∙◌, subst, arith, tests, inl, inr}
use Rattle.std.specs.FinSet as parts
use Rattle.std.specs.List.{All}
use Rattle.std.proofs.lemmas.Bool.{cases_eq}
use Rattle.std.proofs.lemmas.Grind.{common_steps}
use Rattle.std.proofs.lemmas.List.{length-set, get_or-set_same, get_or-set_other}
use Rattle.part_geometry.specs.declared.answers.RecvTest.{RecvTest}
use Rattle.part_geometry.specs.declared.answers.RecvTest.TheVariants as recv
use Rattle.part_geometry.specs.Shape.{Shape}
use Rattle.part_api.specs.declared.faults.Freed.{Freed}
use Rattle.part_api.specs.declared.faults.ReqFault.{ReqFault}
use Rattle.part_api.specs.declared.request.ReqState.{ReqState}
use Rattle.part_api.specs.declared.request.ReqState.TheVariants as state
use Rattle.part_geometry.specs.declared.answers.Side.{Side}
use Rattle.part_geometry.specs.declared.answers.Side.TheVariants.{SendSide, RecvSide}
use Rattle.part_api.specs.Req.{Req}
use Rattle.part_api.specs.States.{Agrees, is_in_use, completed, state_started, state_sent, state_received, free_answer, state_freed}
use Rattle.plain_pair.specs.declared.answers.PlainSendTest.{PlainSendTest}
use Rattle.plain_pair.specs.declared.answers.PlainSendTest.TheVariants as send
use Rattle.plain_pair.specs.declared.answers.PlainTake.{PlainTake}
use Rattle.plain_pair.specs.Record.{Record, first_record}
use Rattle.plain_pair.specs.Moves.{took, taken_of, take_answer, after_take, gave_back, after_start_recv, received_done, test_recv_answer}
use Rattle.plain_pair.specs.Kept.{Kept, has}
use Rattle.plain_pair.specs.Looking.{IsOut}
use Rattle.plain_pair.specs.Sides.{SideState, send_side, recv_side, SameSides}
use Rattle.plain_pair.specs.StandsFor.{StandsFor}
use Rattle.plain_pair.specs.Taken.{Taken}
use Rattle.script_pair.specs.Desk.{Desk, state_of, is_freed, is_kept}
use Rattle.script_pair.specs.Answers.{with_record, after_back}
use Rattle.script_pair.specs.Held.{Held, request_of, kept_at, IsKeptAt, is_matched, IsRequest, IsHeld, Stands}
use Rattle.script_pair.proofs.Keeping.{SameTaking, same_refl, first_false, Moved, same_at, kept_same, took_at, gave_at, gave_here, start_recv_kept, received_kept}

-- a matched pair, where its pair has changed and its requests may have
abbrev pub changed : Held → Kept → Req → Req → Held
changed h new s r = record { pair = new; send = s; recv = r; kept = h.kept }

-- what is kept agrees with the pair
abbrev pub KeepsEach : Kept → List (Option Taken) → Type 0
KeepsEach k kept = (q : ℕ) → q < k.shape.recv_parts → IsKeptAt k q (get_or kept q None)

-- the requests agree with the pair
pub record AreRequests (s r : Req) (k : Kept) : Type 0 where
  -- each is matched, and of its side
  pub send : IsRequest SendSide s
  pub recv : IsRequest RecvSide r
  -- the state of each agrees with its side of the pair
  pub send_agrees : Agrees s.state (send_side k)
  pub recv_agrees : Agrees r.state (recv_side k)

-- a pair, requests that agree with it, and what it keeps of each partition, make a matched pair
pub holds : (h : Held) (new : Kept) (s r : Req) (kept : List (Option Taken)) (next : Record) → AreRequests s r new → length kept ≡ new.shape.recv_parts → KeepsEach new kept
    → StandsFor new next → IsHeld record { pair = new; send = s; recv = r; kept = kept }
holds h new s r kept next requests room each known = record {
  send = requests.send;
  recv = requests.recv;
  send_agrees = requests.send_agrees;
  recv_agrees = requests.recv_agrees;
  room = room;
  each = each;
  here = next;
  known = known;
}

-- the requests stay as they are where the sides do
pub requests_same : (h : Held) (new : Kept) → IsHeld h → SameSides h.pair new → AreRequests h.send h.recv new
requests_same h new i same = record {
  send = i.send;
  recv = i.recv;
  send_agrees = subst (Agrees h.send.state) (sym same.send) i.send_agrees;
  recv_agrees = subst (Agrees h.recv.state) (sym same.recv) i.recv_agrees;
}

moved_here : (h : Held) (new : Kept) (next : Record) (i : IsHeld h) → StandsFor new next → new.shape ≡ h.pair.shape → Moved h.pair new i.here next
moved_here h new next i known shape = record { before = i.known; after = known; shape = shape }

room_same : (h : Held) (new : Kept) → IsHeld h → new.shape ≡ h.pair.shape → length h.kept ≡ new.shape.recv_parts
room_same h new i shape = i.room ∙ ap (λ (g : Shape). g.recv_parts) (sym shape)

inside_old : (old new : Kept) (q : ℕ) → new.shape ≡ old.shape → q < new.shape.recv_parts → q < old.shape.recv_parts
inside_old old new q shape inside = rw (← shape) inside

-- a call that takes and gives back nothing
pub held_same : (h : Held) (new : Kept) (s r : Req) (next : Record) (i : IsHeld h) → AreRequests s r new → StandsFor new next → new.shape ≡ h.pair.shape
    → SameTaking i.here next → IsHeld (changed h new s r)
held_same h new s r next i requests known shape same =
    holds h new s r h.kept next requests (room_same h new i shape)
    (λ q inside. kept_same h.pair new q (kept_at h q)
    (same_at h.pair new i.here next q (moved_here h new next i known shape) same (inside_old h.pair new q shape inside))
    (i.each q (inside_old h.pair new q shape inside)))
    known

-- a call that takes and gives back nothing and leaves both sides as they are, as a mark
pub held_marked : (h : Held) (new : Kept) (next : Record) (i : IsHeld h) → StandsFor new next → new.shape ≡ h.pair.shape → SameSides h.pair new
    → SameTaking i.here next → IsHeld (changed h new h.send h.recv)
held_marked h new next i known shape sides same = held_same h new h.send h.recv next i (requests_same h new i sides) known shape same

-- a start of the receive, and its test
pub held_started : (h : Held) (new : Kept) (r : Req) (i : IsHeld h) → AreRequests h.send r new → StandsFor new (after_start_recv i.here) → new.shape ≡ h.pair.shape
    → IsHeld (changed h new h.send r)
held_started h new r i requests known shape =
    holds h new h.send r h.kept (after_start_recv i.here) requests (room_same h new i shape)
    (λ q inside. start_recv_kept h.pair new i.here q (kept_at h q) (moved_here h new _ i known shape) (inside_old h.pair new q shape inside)
    (i.each q (inside_old h.pair new q shape inside)))
    known

-- a test of the receive
pub held_tested : (h : Held) (new : Kept) (r : Req) (i : IsHeld h) → AreRequests h.send r new
    → StandsFor new (received_done (test_recv_answer h.pair.shape i.here) i.here) → new.shape ≡ h.pair.shape → IsHeld (changed h new h.send r)
held_tested h new r i requests known shape =
    holds h new h.send r h.kept _ requests (room_same h new i shape)
    (λ q inside. received_kept h.pair new i.here (test_recv_answer h.pair.shape i.here) q (kept_at h q) refl (moved_here h new _ i known shape)
    (inside_old h.pair new q shape inside) (i.each q (inside_old h.pair new q shape inside)))
    known

-- a take
pub taken_is : (g : Shape) (r : Record) (q : ℕ) (t : Taken) → Ok t ≡ take_answer g r q → t ≡ taken_of g r q
taken_is g r q t is = grind (arith, tests, common_steps)

after_is : (g : Shape) (r : Record) (q : ℕ) (t : Taken) → Ok t ≡ take_answer g r q → after_take g r q ≡ took r q
after_is g r q t is = rw (← is) refl

after_none : (g : Shape) (r : Record) (q : ℕ) (cause : PlainTake) → Err cause ≡ take_answer g r q → after_take g r q ≡ r
after_none g r q cause is = rw (← is) refl

takes_each : (h : Held) (new : Kept) (q : ℕ) (t : Taken) (i : IsHeld h) → Moved h.pair new i.here (took i.here q) → IsOut new t → t.partition ≡ q → q < length h.kept
    → KeepsEach new (set h.kept q (Some t))
takes_each h new q t i m out at room p inside =
    elim (cases_eq p q) [
      | inl same ↦ rw (same, get_or-set_same h.kept q (Some t) None room) (out, at)
      | inr apart ↦ rw (get_or-set_other h.kept q p (Some t) None apart)
          (kept_same h.pair new p (kept_at h p) (took_at h.pair new i.here q p m apart (inside_old h.pair new p m.shape inside))
          (i.each p (inside_old h.pair new p m.shape inside)))
    ]

-- a partition is taken, and what was taken is kept at its place
pub held_took : (h : Held) (new : Kept) (q : ℕ) (t : Taken) (i : IsHeld h) → StandsFor new (after_take h.pair.shape i.here q) → Ok t ≡ take_answer h.pair.shape i.here q
    → new.shape ≡ h.pair.shape → SameSides h.pair new → IsOut new t
    → IsHeld record { pair = new; send = h.send; recv = h.recv; kept = set h.kept q (Some t) }
held_took h new q t i known is shape sides out =
    let at : t.partition ≡ q = ap (λ (x : Taken). x.partition) (taken_is h.pair.shape i.here q t is) in
    let took_known : StandsFor new (took i.here q) = subst (StandsFor new) (after_is h.pair.shape i.here q t is) known in
    let room : q < length h.kept = (let r = room_same h new i shape in let o : t.partition < new.shape.recv_parts = out.inside in omega arith) in
    holds h new h.send h.recv (set h.kept q (Some t)) (took i.here q) (requests_same h new i sides)
    (length-set h.kept q (Some t) ∙ room_same h new i shape)
    (takes_each h new q t i (moved_here h new (took i.here q) i took_known shape) out at room) took_known

-- a take that is refused leaves what is kept as it is
pub held_untaken : (h : Held) (new : Kept) (q : ℕ) (cause : PlainTake) (i : IsHeld h) → StandsFor new (after_take h.pair.shape i.here q)
    → Err cause ≡ take_answer h.pair.shape i.here q → new.shape ≡ h.pair.shape → SameSides h.pair new → IsHeld (changed h new h.send h.recv)
held_untaken h new q cause i known is shape sides =
    held_marked h new i.here i (subst (StandsFor new) (after_none h.pair.shape i.here q cause is) known) shape sides (same_refl i.here)

-- a return
gives_each : (h : Held) (new : Kept) (q : ℕ) (i : IsHeld h) → Moved h.pair new i.here (gave_back i.here q) → q < length h.kept → KeepsEach new (set h.kept q None)
gives_each h new q i m room p inside =
    elim (cases_eq p q) [
      | inl same ↦ rw (same, get_or-set_same h.kept q None None room)
          (gave_here h.pair new i.here q m (inside_old h.pair new q m.shape (rw (← same) inside)))
      | inr apart ↦ rw (get_or-set_other h.kept q p None None apart)
          (kept_same h.pair new p (kept_at h p) (gave_at h.pair new i.here q p m apart (inside_old h.pair new p m.shape inside))
          (i.each p (inside_old h.pair new p m.shape inside)))
    ]

-- what is kept at a place that holds an arrival
pub arrival_at : (h : Held) (q : ℕ) (t : Taken) (i : IsHeld h) → q < length h.kept → Some t ≡ kept_at h q → IsKeptAt h.pair q (Some t)
arrival_at h q t i room is = let inside : q < h.pair.shape.recv_parts = (let r = i.room in omega arith) in
    subst (IsKeptAt h.pair q) (sym is) (i.each q inside)

-- what is kept at a place is given back, and the place is emptied
pub held_gave : (h : Held) (new : Kept) (q : ℕ) (t : Taken) (i : IsHeld h) → StandsFor new (gave_back i.here t.partition) → q < length h.kept → Some t ≡ kept_at h q
    → new.shape ≡ h.pair.shape → SameSides h.pair new → IsHeld record { pair = new; send = h.send; recv = h.recv; kept = set h.kept q None }
held_gave h new q t i known room is shape sides =
    let at : t.partition ≡ q = (arrival_at h q t i room is).1 in
    let back_known : StandsFor new (gave_back i.here q) = subst (λ p. StandsFor new (gave_back i.here p)) at known in
    holds h new h.send h.recv (set h.kept q None) (gave_back i.here q) (requests_same h new i sides)
    (length-set h.kept q None ∙ room_same h new i shape)
    (gives_each h new q i (moved_here h new (gave_back i.here q) i back_known shape) room) back_known

none_each : (h : Held) (q : ℕ) (i : IsHeld h) → q < length h.kept → None ≡ kept_at h q → KeepsEach h.pair (set h.kept q None)
none_each h q i room is p inside =
    elim (cases_eq p q) [
      | inl same ↦ rw (same, get_or-set_same h.kept q None None room) (subst (IsKeptAt h.pair q) (sym is) (i.each q (rw (← same) inside)))
      | inr apart ↦ rw (get_or-set_other h.kept q p None None apart) (i.each p inside)
    ]

-- a place at which nothing is kept is emptied, which changes nothing
pub held_none : (h : Held) (q : ℕ) (i : IsHeld h) → q < length h.kept → None ≡ kept_at h q
    → IsHeld record { pair = h.pair; send = h.send; recv = h.recv; kept = set h.kept q None }
held_none h q i room is = record {
  send = i.send;
  recv = i.recv;
  send_agrees = i.send_agrees;
  recv_agrees = i.recv_agrees;
  room = length-set h.kept q None ∙ i.room;
  each = none_each h q i room is;
  here = i.here;
  known = i.known;
}

-- an arrival that is kept is so by the record
four_true : (a b c d : Bool) → a ≡ true → b ≡ true → c ≡ true → d ≡ false → (a && (b && c && not d)) ≡ true
four_true a b c d w x y z = grind (arith, tests)

-- where an arrival is kept at a place, each record that the pair stands for says that it is kept
pub kept_is : (h : Held) (q : ℕ) (t : Taken) (i : IsHeld h) (r : Record) → StandsFor h.pair r → q < length h.kept → Some t ≡ kept_at h q → is_kept h.pair.shape r q ≡ true
kept_is h q t i r st room is =
    let here = arrival_at h q t i room is in
    let out : IsOut h.pair t = here.0 in
    let at : t.partition ≡ q = here.1 in
    let inside : q < h.pair.shape.recv_parts = (let n = i.room in omega arith) in
    four_true (nat_lt q h.pair.shape.recv_parts) r.receiving (parts.contains r.taken q) (parts.contains r.back q)
    (grind (arith, tests)) (sym st.receiving ∙ out.active)
    (sym (st.taken q inside) ∙ ap (has h.pair.taken) (sym at) ∙ out.was_taken)
    (sym (st.back q inside) ∙ ap (has h.pair.back) (sym at) ∙ out.away)

-- a matched request is still matched after a start
pub matched_started : (res : Result ℕ ReqFault) (s : ReqState) → is_matched s ≡ true → is_matched (state_started res s) ≡ true
matched_started (Ok k) s m = refl
matched_started (Err f) s m = m

matched_completed : (s : ReqState) → is_matched s ≡ true → is_matched (completed s) ≡ true
matched_completed state.Unmatched m = m
matched_completed state.Inactive m = m
matched_completed (state.Started k) m = refl
matched_completed (state.Complete k) m = m
matched_completed state.Freed m = m

-- a matched request is still matched after a test of the send
pub matched_sent : (res : Result PlainSendTest Freed) (s : ReqState) → is_matched s ≡ true → is_matched (state_sent res s) ≡ true
matched_sent (Ok send.Idle) s m = m
matched_sent (Ok (send.Unmarked p)) s m = m
matched_sent (Ok (send.Unreleased k)) s m = m
matched_sent (Ok send.Done) s m = matched_completed s m
matched_sent (Err f) s m = m

-- a matched request is still matched after a test of the receive
pub matched_received : (res : Result RecvTest Freed) (s : ReqState) → is_matched s ≡ true → is_matched (state_received res s) ≡ true
matched_received (Ok recv.Idle) s m = m
matched_received (Ok (recv.Untaken p)) s m = m
matched_received (Ok (recv.Out k)) s m = m
matched_received (Ok recv.Done) s m = matched_completed s m
matched_received (Err f) s m = m

-- a matched request is still matched after a call that frees it, or refuses to
pub matched_freed : (s : ReqState) → is_matched s ≡ true → is_matched (state_freed (free_answer s) s) ≡ true
matched_freed state.Unmatched m = m
matched_freed state.Inactive m = refl
matched_freed (state.Started k) m = refl
matched_freed (state.Complete k) m = refl
matched_freed state.Freed m = refl

-- a request that agrees with its side still does so after a call that frees it, or refuses to
pub agrees_freed : (s : ReqState) (side : SideState) → Agrees s side → Agrees (state_freed (free_answer s) s) side
agrees_freed state.Unmatched side a = tt
agrees_freed state.Inactive side a = tt
agrees_freed (state.Started k) side a = a
agrees_freed (state.Complete k) side a = tt
agrees_freed state.Freed side a = tt

-- what a return tells, and the desk after it
pub back_stands : (h : Held) (new : Kept) (q : ℕ) (t : Taken) (i : IsHeld h) (d : Desk) (kept : List (Option Taken)) → Stands h d → q < length h.kept → Some t ≡ kept_at h q
    → ((r : Record) → StandsFor h.pair r → StandsFor new (gave_back r t.partition))
    → (true ≡ is_kept h.pair.shape d.record_ q)
    × Stands record { pair = new; send = h.send; recv = h.recv; kept = kept } (with_record d (after_back h.pair.shape d.record_ q))
back_stands h new q t i d kept st room is back =
    let yes = kept_is h q t i d.record_ st.record_ room is in
    let at : t.partition ≡ q = (arrival_at h q t i room is).1 in
    (sym yes, rw yes record { record_ = subst (λ p. StandsFor new (gave_back d.record_ p)) at (back d.record_ st.record_); send = st.send; recv = st.recv })

-- a new pair
first_kept : (k : Kept) (q : ℕ) (slot : Option Taken) → StandsFor k first_record → slot ≡ None → IsKeptAt k q slot
first_kept k q None st none = first_false k.receiving (has k.taken q) (has k.back q) st.receiving
first_kept k q (Some t) st none = absurd (cc)

-- the pair that stands for the first record, with inactive requests and nothing kept
pub held_first : (k : Kept) (s r : Req) (kept : List (Option Taken)) → StandsFor k first_record → length kept ≡ k.shape.recv_parts → All (λ slot. slot ≡ None) kept
    → s ≡ record { side = SendSide; state = state.Inactive } → r ≡ record { side = RecvSide; state = state.Inactive }
    → IsHeld record { pair = k; send = s; recv = r; kept = kept }
held_first k s r kept st room none s_is r_is =
    rw (s_is, r_is) record {
      send = record { side_is = refl; matched = refl };
      recv = record { side_is = refl; matched = refl };
      send_agrees = (st.sending, st.sent);
      recv_agrees = (st.receiving, st.received);
      room = room;
      each = λ q inside. first_kept k q (get_or kept q None) st (none q None (rw room inside));
      here = first_record;
      known = st;
    }

-- a matched request that isn't freed is in use
pub in_use : (s : ReqState) → is_matched s ≡ true → is_freed s ≡ false → is_in_use s ≡ true
in_use state.Unmatched m f = absurd (cc)
in_use state.Inactive m f = refl
in_use (state.Started k) m f = refl
in_use (state.Complete k) m f = refl
in_use state.Freed m f = absurd (cc)

-- where a pair stands for a desk, the request of a side is in the state that the desk has for it
pub state_is : (h : Held) (d : Desk) (side : Side) → Stands h d → (request_of side h).state ≡ state_of side d
state_is h d SendSide st = st.send
state_is h d RecvSide st = st.recv
