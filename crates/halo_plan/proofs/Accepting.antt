-- The calls of a plan's edges are within the limits of a world, also together, so none is refused but for want of memory.
use Rattle.std.proofs.Common.{◌≡◌, ◌≢◌, ◌∙◌, refl, sym, ap, subst, ℕ, ◌+◌, ◌*◌, ◌/◌, ◌<◌, ◌≤◌, nat_lt, ◌==◌, true, false, Some, None, Result, Ok, Err, List, [], ◌∷◌, ◌++◌, length, take, drop, arith, inl, inr, append_assoc}
use Rattle.std.specs.Prelude.{IfOk, IsOk, IsOkUnless, if◌then◌else◌, slice_get}
use Rattle.std.specs.List.{flat_map}
use Rattle.std.specs.Option.{option_map_or}
use Rattle.std.specs.declared.alloc.AllocError.{AllocError}
use Rattle.std.proofs.lemmas.Bool.{eq-eqb, le-leb, le-ltb, lt-ltb}
use Rattle.std.proofs.lemmas.List.{length-take-le, take-append-drop, take_more}
use Rattle.std.proofs.lemmas.List.Sums.{sum_by-cons, sum_by_push}
use Rattle.std.proofs.lemmas.Nat.{mul-le}
use Rattle.std.proofs.lemmas.Option.{get_or_from_slice_get, slice_get_within}
use Rattle.part_geometry.specs.declared.TheConstants.{MAX_PARTS, MAX_PART_BYTES, MAX_TOTAL}
use Rattle.part_geometry.specs.Shape.{IsShape, IsWithin, Shape, recv_total, send_total}
use Rattle.init_match.specs.declared.TheConstants.{MAX_TAG, MAX_COMM, MAX_VOLUME}
use Rattle.init_match.specs.declared.answers.InitFault.{InitFault}
use Rattle.init_match.specs.declared.answers.InitFault.TheVariants.{NoMemory, SizeMismatch, WorldFull}
use Rattle.init_match.specs.declared.keys.Call.{Call}
use Rattle.init_match.specs.Calls.{total}
use Rattle.init_match.specs.Matching.{completed_by}
use Rattle.init_match.specs.World.{WorldState, after_init, init_answer, number_fault, recv_call, send_call, size_fault, volume}
use Rattle.halo_message.specs.Message as message
use Rattle.halo_message.specs.Message.{Message}
use Rattle.halo_plan.specs.declared.edge.Edge.{Edge}
use Rattle.halo_plan.specs.Plan.{IsPlan, Plan, elements, message_of, shape_of}
use Rattle.halo_plan.specs.Edges.{edges}
use Rattle.halo_plan.specs.Worlds.{HasCalls, recv_of, send_of}
use Rattle.halo_plan.proofs.EdgeFacts.{behind, down, up, edge-even, edge-odd, few-edges}
use Rattle.halo_plan.proofs.WorldFacts.{AreApart, Others, calls-next, edges-apart, key_of, others-from, recv-pairs, send-alone, tag-even, two_calls}

-- an edge's tag is 1 or 2
edge-tag : (p : Plan) (e : ℕ) (d : Edge) → slice_get (edges p) e ≡ Some d → d.tag ≤ 2
edge-tag p e d at =
    let less = slice_get_within (edges p) e d at in
    elim (tag-even e) [
      | inl even ↦ one-of d (down p (e / 2) (behind p (e / 2))) (sym at ∙ edge-even p e (e / 2) less even) (omega arith)
      | inr odd ↦ one-of d (up p (e / 2) (behind p (e / 2))) (sym at ∙ edge-odd p e (e / 2) less odd) (omega arith)
    ]
  where
    one-of : (a b : Edge) → Some a ≡ Some b → b.tag ≤ 2 → a.tag ≤ 2
    one-of a b is few = let same : a ≡ b = cc in subst (λ (x : Edge). x.tag ≤ 2) (sym same) few

-- the calls of the edges have twice the bytes of a message each
calls-volume : (p : Plan) (es : List Edge) → volume (flat_map (two_calls p) es) ≡ length es * (send_total (shape_of p) + recv_total (shape_of p))
calls-volume p [] = omega arith
calls-volume p (e ∷ es) =
    let more = calls-volume p es in
    let step : volume (flat_map (two_calls p) (e ∷ es)) ≡ send_total (shape_of p) + (recv_total (shape_of p) + volume (flat_map (two_calls p) es)) =
    sum_by-cons total (send_of p e) (recv_of p e ∷ flat_map (two_calls p) es) ∙ ap (λ (n : ℕ). send_total (shape_of p) + n) (sum_by-cons total (recv_of p e) (flat_map (two_calls p) es)) in
    omega arith

-- a call within the limits has no fault in its numbers
numbers-fine : (ranks : ℕ) (c : Call) → c.key.from < ranks → c.key.to < ranks → c.key.tag ≤ 2 → c.key.comm ≡ 0 → IsWithin 1 MAX_PARTS c.parts → IsWithin 1 MAX_PART_BYTES c.bytes
    → total c ≤ MAX_TOTAL → number_fault ranks c ≡ None
numbers-fine ranks c from to tag comm parts bytes size =
    rw (
      lt-ltb c.key.from ranks from,
      lt-ltb c.key.to ranks to,
      le-leb c.key.tag MAX_TAG (omega arith),
      le-leb c.key.comm MAX_COMM (omega arith),
      le-leb 1 c.parts parts.0,
      le-leb c.parts MAX_PARTS parts.1,
      le-leb 1 c.bytes bytes.0,
      le-leb c.bytes MAX_PART_BYTES bytes.1,
      le-leb (total c) MAX_TOTAL size,
    ) refl

-- what is known of a plan's message and of an edge that comes behind others
pub record IsNext (p : Plan) (before : List Edge) (e : Edge) : Type 0 where
  pub shape : IsShape (shape_of p)
  pub short : send_total (shape_of p) ≤ 131072
  pub few : length before < 128
  pub from : e.from < p.ranks
  pub to : e.to < p.ranks
  pub tag : e.tag ≤ 2
  pub others : Others (key_of e) before

-- its send is accepted
pub send-fine : (p : Plan) (before : List Edge) (e : Edge) (w : WorldState) → IsNext p before e → HasCalls p before w → init_answer w (send_of p e) ≡ Ok (length w.calls)
send-fine p before e w n h =
    let c = send_of p e in let cut = shape_of p in let s = n.shape in let short = n.short in let same = s.same in
    let numbers : number_fault w.ranks c ≡ None = ap (λ r. number_fault r c) h.ranks ∙ numbers-fine p.ranks c n.from n.to n.tag refl s.send_parts s.send_bytes s.length in
    let size : size_fault (completed_by w.calls c) ≡ None = ap size_fault (ap (λ cs. completed_by cs c) h.calls ∙ send-alone p before e n.others) in
    let sum : volume w.calls ≡ length before * (send_total cut + recv_total cut) = ap volume h.calls ∙ calls-volume p before in
    let most = mul-le (length before) (send_total cut + recv_total cut) 127 262144 (let f = n.few in omega arith) (omega arith) in
    let room : nat_lt MAX_VOLUME (volume w.calls + total c) ≡ false = le-ltb MAX_VOLUME (volume w.calls + total c) (omega arith) in
    λ i. option_map_or Err (numbers i) (option_map_or Err (size i) (if room i then Err (WorldFull (volume w.calls + total c)) else Ok (length w.calls)))

-- and so is its receive
pub recv-fine : (p : Plan) (before : List Edge) (e : Edge) (w : WorldState) → IsNext p before e → HasCalls p before w
    → init_answer (record w { calls = w.calls ++ send_of p e ∷ [] }) (recv_of p e) ≡ Ok (length (w.calls ++ send_of p e ∷ []))
recv-fine p before e w n h =
    let c = recv_of p e in let cut = shape_of p in let s = n.shape in let short = n.short in let same = s.same in
    let calls = w.calls ++ send_of p e ∷ [] in
    let numbers : number_fault w.ranks c ≡ None = ap (λ r. number_fault r c) h.ranks ∙ numbers-fine p.ranks c n.from n.to n.tag refl s.recv_parts s.recv_bytes (omega arith) in
    let pair = ap (λ cs. completed_by (cs ++ send_of p e ∷ []) c) h.calls ∙ recv-pairs p before e n.others in
    let alike : (send_total cut == recv_total cut) ≡ true = eq-eqb (send_total cut) (recv_total cut) same in
    let size : size_fault (completed_by calls c) ≡ None = ap size_fault pair ∙ (λ i. if alike i then None else Some (SizeMismatch (send_total cut) (recv_total cut))) in
    let sum : volume w.calls ≡ length before * (send_total cut + recv_total cut) = ap volume h.calls ∙ calls-volume p before in
    let all : volume calls ≡ volume w.calls + send_total cut = sum_by_push total w.calls (send_of p e) in
    let most = mul-le (length before) (send_total cut + recv_total cut) 127 262144 (let f = n.few in omega arith) (omega arith) in
    let room : nat_lt MAX_VOLUME (volume calls + total c) ≡ false = le-ltb MAX_VOLUME (volume calls + total c) (omega arith) in
    λ i. option_map_or Err (numbers i) (option_map_or Err (size i) (if room i then Err (WorldFull (volume calls + total c)) else Ok (length calls)))

-- a message has few bytes
short-message : (p : Plan) (n : ℕ) → IsPlan p → n < p.reach * p.cols + 8192 → n ≡ elements p → send_total (shape_of p) ≡ elements p * 8 → send_total (shape_of p) ≤ 131072
short-message p n s few is whole =
    let reach = s.reach in let cols = s.cols in
    let most = mul-le p.reach p.cols 2 4096 reach.1 cols.1 in
    omega arith

-- edge e comes behind those before it; n is the number of elements of the plan's message, and the cut is the message's
pub next-edge : (p : Plan) (e n : ℕ) (d : Edge) (m : Message) (cut : Shape) → IsPlan p → slice_get (edges p) e ≡ Some d → (d.from < p.ranks) × (d.to < p.ranks) → m ≡ message_of p
    → n ≡ message.elements m → n < m.values + 8192 → cut ≡ shape_of p → IsShape cut → send_total cut ≡ elements p * 8 → IsNext p (take e (edges p)) d
next-edge p e n d m cut s at ranks one is short same shape whole =
    let es = edges p in
    let less = slice_get_within es e d at in
    let few = few-edges p s in let most = s.ranks in
    let long = length-take-le e es (omega arith) in
    let there = get_or_from_slice_get es e d d at in
    let split : es ≡ take e es ++ d ∷ drop (e + 1) es =
    sym (take-append-drop (e + 1) es) ∙ (ap (λ xs. xs ++ drop (e + 1) es) (take_more es e d less ∙ ap (λ x. take e es ++ x ∷ []) there)
    ∙ append_assoc (take e es) (d ∷ []) (drop (e + 1) es)) in
    record {
      shape = subst IsShape same shape;
      short = short-message p n s (subst (λ (x : Message). n < x.values + 8192) one short) (is ∙ ap message.elements one) (sym (ap send_total same) ∙ whole);
      few = omega arith;
      from = ranks.0;
      to = ranks.1;
      tag = edge-tag p e d at;
      others = others-from [] (take e es) d (drop (e + 1) es) (subst AreApart split (edges-apart p));
    }

-- the calls that the cut gives are those of the edge
pub send-known : (p : Plan) (d : Edge) (cut : Shape) (parts bytes : ℕ) → cut ≡ shape_of p → parts ≡ cut.send_parts → bytes ≡ cut.send_bytes → send_call d.from d.to d.tag 0 parts bytes ≡ send_of p d
send-known p d cut parts bytes is one two = λ i. send_call d.from d.to d.tag 0 ((one ∙ ap (λ s. s.send_parts) is) i) ((two ∙ ap (λ s. s.send_bytes) is) i)

pub recv-known : (p : Plan) (d : Edge) (cut : Shape) (parts bytes : ℕ) → cut ≡ shape_of p → parts ≡ cut.recv_parts → bytes ≡ cut.recv_bytes → recv_call d.from d.to d.tag 0 parts bytes ≡ recv_of p d
recv-known p d cut parts bytes is one two = λ i. recv_call d.from d.to d.tag 0 ((one ∙ ap (λ s. s.recv_parts) is) i) ((two ∙ ap (λ s. s.recv_bytes) is) i)

-- an answer that is accepted where memory isn't wanting
pub unless-memory : (answer : Result ℕ InitFault) (n : ℕ) → (answer ≢ Err NoMemory → answer ≡ Ok n) → IsOkUnless answer NoMemory
unless-memory (Ok k) n h = tt
unless-memory (Err NoMemory) n h = refl
unless-memory (Err fault) n h = absurd (let e = h (λ x. cc) in cc)

-- an accepted call stands behind the others
after-ok : (w : WorldState) (c : Call) (answer : Result ℕ InitFault) → IsOk answer → after_init w c answer ≡ record w { calls = w.calls ++ c ∷ [] }
after-ok w c (Ok n) ok = refl
after-ok w c (Err fault) ok = absurd cc

-- the world after the send of an edge was accepted
pub sent-is : (p : Plan) (d : Edge) (w new : WorldState) (answer : Result ℕ InitFault) (c : Call) → c ≡ send_of p d → IsOk answer → new ≡ after_init w c answer
    → new ≡ record w { calls = w.calls ++ send_of p d ∷ [] }
sent-is p d w new answer c is ok after = after ∙ (after-ok w c answer ok ∙ ap (λ (x : Call). record w { calls = w.calls ++ x ∷ [] }) is)

-- and after its receive was accepted too
pub joined-is : (p : Plan) (es : List Edge) (e : ℕ) (d : Edge) (w mid new : WorldState) (answer : Result ℕ InitFault) (c : Call) → HasCalls p (take e es) w → slice_get es e ≡ Some d
    → mid ≡ record w { calls = w.calls ++ send_of p d ∷ [] } → c ≡ recv_of p d → new ≡ after_init mid c answer → IsOk answer → HasCalls p (take (e + 1) es) new
joined-is p es e d w mid new answer c h at sent is after ok =
    calls-next p es e d w new h at
    (after ∙ (after-ok mid c answer ok
    ∙ ((λ i. record (sent i) { calls = (sent i).calls ++ is i ∷ [] })
    ∙ ap (λ cs. record w { calls = cs }) (append_assoc w.calls (send_of p d ∷ []) (recv_of p d ∷ [])))))

-- what holds of an accepted call holds where its answer is passed on
pub passed-on : (answer : Result (Unit {0}) AllocError) (P H : Type 0) → IfOk answer (λ _. P) → (P → H) → IfOk answer (λ _. H)
passed-on (Ok x) P H so then' = then' so
passed-on (Err e) P H so then' = tt
