-- The pairs of a plan's world are its edges. No two edges have one key, so a send finds no receive of its key, and the
-- receive behind it finds that send and nothing else.
use Rattle.std.proofs.Common.{◌≡◌, ◌∙◌, refl, sym, ap, subst, ℕ, ◌+◌, ◌*◌, ◌/◌, ◌%◌, true, false, ◌&&◌, Some, None, List, [], ◌∷◌, ◌++◌, length, map, take, arith, inl, inr, length-append, append_assoc}
use Rattle.std.specs.Prelude.{◌⊎◌, ◌==◌, filter, slice_get}
use Rattle.std.specs.List.{flat_map, enumerate_from}
use Rattle.std.proofs.lemmas.Bool.{and_parts, cases_Bool, cases_lt, eq-eqb, eqb-true}
use Rattle.std.proofs.lemmas.Grind.{flat_map-append}
use Rattle.std.proofs.lemmas.List.{append-nil, flat_map_more, take_more}
use Rattle.std.proofs.lemmas.Option.{get_or_from_slice_get, slice_get_within}
use Rattle.part_geometry.specs.declared.answers.Side.{Side}
use Rattle.part_geometry.specs.declared.answers.Side.TheVariants.{SendSide, RecvSide}
use Rattle.init_match.specs.declared.keys.Key.{Key}
use Rattle.init_match.specs.declared.keys.Call.{Call}
use Rattle.init_match.specs.Calls.{is_of, of_key, same_key, same_side}
use Rattle.init_match.specs.Matching.{Pair, completed_by, pairs_after, pairs_of}
use Rattle.init_match.specs.World.{WorldState, matched_as, matched_pairs}
use Rattle.init_match.specs.World as worlds
use Rattle.init_match.specs.declared.answers.Matched.{Matched}
use Rattle.part_geometry.specs.Shape.{Shape}
use Rattle.halo_plan.specs.declared.edge.Edge.{Edge}
use Rattle.halo_plan.specs.Plan.{Plan}
use Rattle.halo_plan.specs.Edges.{edges}
use Rattle.halo_plan.specs.Worlds.{HasCalls, IsWorldOf, calls_of_edge, calls_of_pair, recv_of, send_of}
use Rattle.halo_plan.proofs.EdgeFacts.{behind, down, up, edge-even, edge-odd}

-- the calls of an edge, and its key
abbrev pub two_calls : Plan → Edge → List Call
two_calls p e = send_of p e ∷ recv_of p e ∷ []

abbrev pub key_of : Edge → Key
key_of e = record { comm = 0; from = e.from; to = e.to; tag = e.tag }

-- ---- calls of one key

-- no edge of a list has this key
abbrev pub Others : Key → List Edge → Type 0
Others key [] = Unit {0}
Others key (e ∷ es) = (same_key key (key_of e) ≡ false) × Others key es

-- a call of another key
other-key : (side : Side) (key : Key) (c : Call) → same_key key c.key ≡ false → is_of side key c ≡ false
other-key SendSide key c apart = elim (cases_Bool (same_side SendSide c.side)) [ inl yes' ↦ rw (yes', apart) refl | inr no' ↦ rw no' refl ]
other-key RecvSide key c apart = elim (cases_Bool (same_side RecvSide c.side)) [ inl yes' ↦ rw (yes', apart) refl | inr no' ↦ rw no' refl ]

-- edges of other keys have no call of a key
none-before : (p : Plan) (side : Side) (key : Key) (es : List Edge) (rest : List Call) (n : ℕ) → Others key es
    → filter (λ (x : ℕ × Call). is_of side key x.1) (enumerate_from n (flat_map (two_calls p) es ++ rest))
    ≡ filter (λ (x : ℕ × Call). is_of side key x.1) (enumerate_from (n + length (flat_map (two_calls p) es)) rest)
none-before p side key [] rest n others = ap (λ m. filter (λ (x : ℕ × Call). is_of side key x.1) (enumerate_from m rest)) (omega arith)
none-before p side key (e ∷ es) rest n others =
    let more = none-before p side key es rest (n + 1 + 1) others.1 in
    let place : n + 1 + 1 + length (flat_map (two_calls p) es) ≡ n + length (two_calls p e ++ flat_map (two_calls p) es) = omega arith in
    rw (other-key side key (send_of p e) others.0, other-key side key (recv_of p e) others.0)
    (more ∙ ap (λ m. filter (λ (x : ℕ × Call). is_of side key x.1) (enumerate_from m rest)) place)

-- a key is the same as itself
same-self : (k : Key) → same_key k k ≡ true
same-self k = rw (eq-eqb k.comm k.comm refl, eq-eqb k.from k.from refl, eq-eqb k.to k.to refl, eq-eqb k.tag k.tag refl) refl

-- ---- the pairs

-- an edge's send completes no pair: no receive of its key stands before it
pub send-alone : (p : Plan) (before : List Edge) (e : Edge) → Others (key_of e) before → completed_by (flat_map (two_calls p) before) (send_of p e) ≡ None
unfolding of_key
send-alone p before e others =
    let none : of_key RecvSide (key_of e) (flat_map (two_calls p) before) ≡ [] =
    ap (λ xs. filter (λ (x : ℕ × Call). is_of RecvSide (key_of e) x.1) (enumerate_from 0 xs)) (sym (append-nil (flat_map (two_calls p) before)))
    ∙ none-before p RecvSide (key_of e) before [] 0 others in
    rw none refl

-- the pair of an edge whose send is call n
abbrev pair_at : Plan → ℕ → Edge → Pair
pair_at p n e = record { send = (n, send_of p e); recv = (n + 1, recv_of p e) }

-- its receive completes a pair with that send
pub recv-pairs : (p : Plan) (before : List Edge) (e : Edge) → Others (key_of e) before
    → completed_by (flat_map (two_calls p) before ++ send_of p e ∷ []) (recv_of p e) ≡ Some (pair_at p (length (flat_map (two_calls p) before)) e)
unfolding of_key
recv-pairs p before e others =
    let b = flat_map (two_calls p) before in
    let own = same-self (key_of e) in
    let none : of_key RecvSide (key_of e) (b ++ send_of p e ∷ []) ≡ [] = none-before p RecvSide (key_of e) before (send_of p e ∷ []) 0 others in
    let one : of_key SendSide (key_of e) (b ++ send_of p e ∷ []) ≡ (length b, send_of p e) ∷ [] =
    none-before p SendSide (key_of e) before (send_of p e ∷ []) 0 others ∙ rw own (ap (λ (n : ℕ). (n, send_of p e) ∷ []) (omega arith)) in
    let sum : length (b ++ send_of p e ∷ []) ≡ length b + 1 = length-append b (send_of p e ∷ []) in
    rw (none, one, sum) refl

-- edges with one key are one
abbrev pub AreApart : List Edge → Type 0
AreApart es = (i j : ℕ) (a b : Edge) → slice_get es i ≡ Some a → slice_get es j ≡ Some b → key_of a ≡ key_of b → i ≡ j

-- keys that test the same are one
same-keys : (a b : Key) → same_key a b ≡ true → a ≡ b
same-keys a b is =
    let one = and_parts (a.comm == b.comm) ((a.from == b.from) && ((a.to == b.to) && (a.tag == b.tag))) is in
    let two = and_parts (a.from == b.from) ((a.to == b.to) && (a.tag == b.tag)) one.1 in
    let three = and_parts (a.to == b.to) (a.tag == b.tag) two.1 in
    let comm = eqb-true a.comm b.comm one.0 in let from = eqb-true a.from b.from two.0 in
    let to = eqb-true a.to b.to three.0 in let tag = eqb-true a.tag b.tag three.1 in
    λ i. record { comm = comm i; from = from i; to = to i; tag = tag i }

-- the edge behind a list
get-behind : (xs : List Edge) (e : Edge) (ys : List Edge) → slice_get (xs ++ e ∷ ys) (length xs) ≡ Some e
get-behind [] e ys = refl
get-behind (x ∷ xs) e ys = get-behind xs e ys

-- where edges with one key are one, those before an edge have other keys
pub others-from : (front before : List Edge) (e : Edge) (es : List Edge) → AreApart (front ++ (before ++ e ∷ es)) → Others (key_of e) before
others-from front [] e es apart = tt
others-from front (f ∷ before) e es apart = (
  elim (cases_Bool (same_key (key_of e) (key_of f))) [
    | inl same ↦
        let here = get-behind front f (before ++ e ∷ es) in
        let there : slice_get (front ++ (f ∷ before ++ e ∷ es)) (length (front ++ f ∷ before)) ≡ Some e =
        ap (λ xs. slice_get xs (length (front ++ f ∷ before))) (sym (append_assoc front (f ∷ before) (e ∷ es))) ∙ get-behind (front ++ f ∷ before) e es in
        let at = apart (length front) (length (front ++ f ∷ before)) f e here there (sym (same-keys (key_of e) (key_of f) same)) in
        let sum = length-append front (f ∷ before) in
        absurd (omega arith)
    | inr fine ↦ fine
  ],
  others-from (front ++ f ∷ []) before e es (subst AreApart (sym (append_assoc front (f ∷ []) (before ++ e ∷ es))) apart),
)

-- the calls of further edges complete those edges' pairs, in order
pairs-behind : (p : Plan) (before es : List Edge) → AreApart (before ++ es)
    → map calls_of_pair (pairs_after (flat_map (two_calls p) before) (flat_map (two_calls p) es)) ≡ map (calls_of_edge p) es
pairs-behind p before [] apart = refl
pairs-behind p before (e ∷ es) apart =
    let b = flat_map (two_calls p) before in
    let rest = flat_map (two_calls p) es in
    let others = others-from [] before e es apart in
    let next : b ++ send_of p e ∷ [] ++ recv_of p e ∷ [] ≡ flat_map (two_calls p) (before ++ e ∷ []) =
    append_assoc b (send_of p e ∷ []) (recv_of p e ∷ []) ∙ sym (flat_map-append (two_calls p) before (e ∷ [])) in
    let more = pairs-behind p (before ++ e ∷ []) es (subst AreApart (sym (append_assoc before (e ∷ []) es)) apart) in
    rw (send-alone p before e others, recv-pairs p before e others)
    (ap (λ xs. (send_of p e, recv_of p e) ∷ map calls_of_pair (pairs_after xs rest)) next ∙ ap (λ xs. (send_of p e, recv_of p e) ∷ xs) more)

-- ---- the edges of a plan have keys of their own

-- a number is even or odd
pub tag-even : (e : ℕ) → (e ≡ 2 * (e / 2)) ⊎ (e ≡ 2 * (e / 2) + 1)
tag-even e = elim (cases_lt 0 (e % 2)) [ inl more ↦ inr (omega arith) | inr none ↦ inl (omega arith) ]

-- equal places with equal keys have edges with equal keys
key-down : (a b c d : Edge) → Some a ≡ Some b → Some c ≡ Some d → key_of a ≡ key_of c → key_of b ≡ key_of d
key-down a b c d x y is = cc

-- edges of a plan with one key are one
pub edges-apart : (p : Plan) → AreApart (edges p)
edges-apart p i j a b at bt same =
    let x = slice_get_within (edges p) i a at in
    let y = slice_get_within (edges p) j b bt in
    elim (tag-even i) [
      | inl even ↦ elim (tag-even j) [
        | inl even' ↦ let k = key-down a (down p (i / 2) (behind p (i / 2))) b (down p (j / 2) (behind p (j / 2))) (sym at ∙ edge-even p i (i / 2) x even) (sym bt ∙ edge-even p j (j / 2) y even') same in
            let h : i / 2 ≡ j / 2 = ap (λ (q : Key). q.from) k in omega arith
        | inr odd' ↦ let k = key-down a (down p (i / 2) (behind p (i / 2))) b (up p (j / 2) (behind p (j / 2))) (sym at ∙ edge-even p i (i / 2) x even) (sym bt ∙ edge-odd p j (j / 2) y odd') same in
            let h : ◌≡◌ {A = ℕ} 1 2 = ap (λ (q : Key). q.tag) k in absurd (omega arith)
      ]
      | inr odd ↦ elim (tag-even j) [
        | inl even' ↦ let k = key-down a (up p (i / 2) (behind p (i / 2))) b (down p (j / 2) (behind p (j / 2))) (sym at ∙ edge-odd p i (i / 2) x odd) (sym bt ∙ edge-even p j (j / 2) y even') same in
            let h : ◌≡◌ {A = ℕ} 2 1 = ap (λ (q : Key). q.tag) k in absurd (omega arith)
        | inr odd' ↦ let k = key-down a (up p (i / 2) (behind p (i / 2))) b (up p (j / 2) (behind p (j / 2))) (sym at ∙ edge-odd p i (i / 2) x odd) (sym bt ∙ edge-odd p j (j / 2) y odd') same in
            let h : i / 2 ≡ j / 2 = ap (λ (q : Key). q.to) k in omega arith
      ]
    ]

-- ---- the world

-- one map after another
map-map : {A B C : Type 0} (f : B → C) (g : A → B) (xs : List A) → map f (map g xs) ≡ map (λ x. f (g x)) xs
map-map f g [] = refl
map-map f g (x ∷ xs) = ap (λ ys. f (g x) ∷ ys) (map-map f g xs)

-- a world with the calls of the edges is the world of the plan
pub world-of : (p : Plan) (w : WorldState) → HasCalls p (edges p) w → IsWorldOf p w
unfolding pairs_of
world-of p w h =
    let pairs : map calls_of_pair (pairs_of w.calls) ≡ map (calls_of_edge p) (edges p) =
    ap (λ cs. map calls_of_pair (pairs_of cs)) h.calls ∙ pairs-behind p [] (edges p) (edges-apart p) in
    let cut : Call × Call → Shape = λ c. worlds.shape_of w.grain w.depth c.0 c.1 in
    record {
      made = h;
      pairs = pairs;
      geometries =
          map-map (λ (m : Matched). m.geometry) (matched_as w.grain w.depth) (pairs_of w.calls)
          ∙ sym (map-map cut calls_of_pair (pairs_of w.calls))
          ∙ ap (map cut) pairs
          ∙ map-map cut (calls_of_edge p) (edges p)
          ∙ rw (h.grain, h.depth) refl;
    }

-- the calls of an edge more
pub calls-next : (p : Plan) (es : List Edge) (e : ℕ) (d : Edge) (w new : WorldState) → HasCalls p (take e es) w → slice_get es e ≡ Some d
    → new ≡ record w { calls = w.calls ++ send_of p d ∷ recv_of p d ∷ [] } → HasCalls p (take (e + 1) es) new
calls-next p es e d w new h at is =
    let less = slice_get_within es e d at in
    let there = get_or_from_slice_get es e d d at in
    record {
      ranks = ap (λ (x : WorldState). x.ranks) is ∙ h.ranks;
      grain = ap (λ (x : WorldState). x.grain) is ∙ h.grain;
      depth = ap (λ (x : WorldState). x.depth) is ∙ h.depth;
      calls = ap (λ (x : WorldState). x.calls) is ∙ ap (λ cs. cs ++ two_calls p d) h.calls ∙ flat_map_more (two_calls p) [] (take e es) d
          ∙ ap (flat_map (two_calls p)) (sym (take_more es e d less ∙ ap (λ x. take e es ++ x ∷ []) there));
    }
