-- What a matched pair of a script holds, and which desks it stands for.
use Rattle.std.specs.Prelude.{◌≡◌, ℕ, ◌<◌, Bool, true, false, ◌&&◌, not, List, length, Option, Some, None, slice_index_or, Result, IfOk, String, string_bytes}
use Rattle.std.specs.declared.alloc.Global.{Global}
use Rattle.std.specs.declared.alloc.AllocError.{AllocError}
use Rattle.part_api.specs.declared.request.ReqState.{ReqState}
use Rattle.part_api.specs.declared.request.ReqState.TheVariants as state
use Rattle.part_geometry.specs.declared.answers.Side.{Side}
use Rattle.part_geometry.specs.declared.answers.Side.TheVariants.{SendSide, RecvSide}
use Rattle.part_api.specs.Req.{Req}
use Rattle.part_api.specs.States.{Agrees}
use Rattle.plain_pair.specs.Record.{Record}
use Rattle.plain_pair.specs.Kept.{Kept, has}
use Rattle.plain_pair.specs.Looking.{IsOut}
use Rattle.plain_pair.specs.Sides.{send_side, recv_side}
use Rattle.plain_pair.specs.StandsFor.{StandsFor}
use Rattle.plain_pair.specs.Taken.{Taken}
use Rattle.script_pair.specs.Desk.{Desk}

-- the pair, its requests, and for each receive partition the arrival that is kept
pub record Held : Type 0 where
  pub pair : Kept
  pub send : Req
  pub recv : Req
  pub kept : List (Option Taken)

-- the request of a side
abbrev pub request_of : Side → Held → Req
request_of SendSide h = h.send
request_of RecvSide h = h.recv

abbrev pub kept_at : Held → ℕ → Option Taken
kept_at h q = slice_index_or h.kept q None

-- what is kept of partition q: an arrival exactly where it is out
abbrev pub IsKeptAt : Kept → ℕ → Option Taken → Type 0
IsKeptAt k q None = (k.receiving && has k.taken q && not (has k.back q)) ≡ false
IsKeptAt k q (Some t) = IsOut k t × (t.partition ≡ q)

-- a request that is matched
abbrev pub is_matched : ReqState → Bool
is_matched state.Unmatched = false
is_matched _ = true

-- a request of this side, matched, whose state agrees with its side of the pair
pub record IsRequest (side : Side) (r : Req) : Type 0 where
  pub side_is : r.side ≡ side
  pub matched : is_matched r.state ≡ true

-- what every matched pair keeps
pub record IsHeld (h : Held) : Type 0 where
  pub send : IsRequest SendSide h.send
  pub recv : IsRequest RecvSide h.recv
  pub send_agrees : Agrees h.send.state (send_side h.pair)
  pub recv_agrees : Agrees h.recv.state (recv_side h.pair)
  pub room : length h.kept ≡ h.pair.shape.recv_parts
  pub each : (q : ℕ) → q < h.pair.shape.recv_parts → IsKeptAt h.pair q (kept_at h q)
  pub here : Record
  pub known : StandsFor h.pair here

-- a matched pair stands for a desk: its pair for the record, and its requests are in the desk's states
pub record Stands (h : Held) (d : Desk) : Type 0 where
  pub record_ : StandsFor h.pair d.record_
  pub send : h.send.state ≡ d.send
  pub recv : h.recv.state ≡ d.recv

-- the call answers as every desk says that the pair stood for, and then stands for the desk after it
abbrev pub Follows : {A : Type 0} → Held → Held → A → (Desk → A) → (Desk → Desk) → Type 0
Follows old new result answer next = (d : Desk) → Stands old d → (result ≡ answer d) × Stands new (next d)

-- the same of a text
abbrev pub Tells : Held → Held → Result (String Global) AllocError → (Desk → List ℕ) → (Desk → Desk) → Type 0
Tells old new result text next =
    (d : Desk) → Stands old d → IfOk result (λ s. string_bytes s ≡ text d) × Stands new (next d)
