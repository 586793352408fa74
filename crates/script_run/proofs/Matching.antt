-- The pairs and the requests of a script go with its world, by induction over the calls: an initialisation completes
-- one pair at most, whose two slots are the newest one and one that was in no pair before.
use Rattle.std.proofs.Common.{◌≡◌, ◌≢◌, ◌⊎◌, ℕ, zero, suc, ◌+◌, ◌<◌, ◌≤◌, true, false, if◌then◌else◌, is_some, List, [], ◌∷◌, ◌++◌, length, map, set, fold, get_or, Option, Some, None, Result, Ok, Err, refl, sym, ap, subst, ◌∙◌, length-append, arith, inl, inr}
use Rattle.std.specs.Prelude.{slice_get}
use Rattle.std.specs.Option.{option_map, option_to_list}
use Rattle.std.proofs.lemmas.Bool.{cases_lt}
use Rattle.std.proofs.lemmas.List.{length-map, map-append}
use Rattle.std.proofs.lemmas.Option.{slice_get_within, slice_get_past}
use Rattle.part_geometry.specs.declared.answers.Side.{Side}
use Rattle.part_geometry.specs.declared.answers.Side.TheVariants.{SendSide, RecvSide}
use Rattle.init_match.specs.declared.answers.InitFault.{InitFault}
use Rattle.init_match.specs.declared.answers.Matched.{Matched}
use Rattle.init_match.specs.declared.keys.Call as initial
use Rattle.init_match.specs.Calls.{facing}
use Rattle.init_match.specs.Matching as matching
use Rattle.init_match.specs.Matching.{ArePaired, partner_before, turn_of, pair_with, completed_by, pairs_of, partner_of}
use Rattle.init_match.specs.World.{WorldState, matched_as, matched_pairs, send_call, recv_call}
use Rattle.init_match.proofs.PairFacts.{pairs_more, append_none}
use Rattle.init_match.proofs.Pairing.{get_front, get_back, paired_stays, completed_paired}
use Rattle.init_match.proofs.PairLaws.{the_pairs}
use Rattle.init_match.proofs.PartnerLaws.{the_partner}
use Rattle.init_match.proofs.Placing.{stands_at}
use Rattle.script_text.specs.declared.call.Action.{Action}
use Rattle.script_text.specs.declared.call.Call.{Call}
use Rattle.script_text.specs.declared.call.Call.TheVariants.{Send, Recv, Request}
use Rattle.script_text.specs.declared.call.Init.{Init}
use Rattle.script_run.specs.Laws.{Face, face, matched_face, names_of, IsIn, IsMatched, PairsAreMatched}
use Rattle.script_run.specs.Run.{in_pair, with_pair, matched_at, begun, next_pair, joined, world_answer, initialised, after_init_of, after_pair, after_request, after_known, known_as, after_call}
use Rattle.script_run.specs.State.{Known, Pair, State, first_state, slot_of, HasSlots}
use Rattle.script_run.proofs.Steps.{call_slots}

-- an optional value behind a map
some_of : {A B : Type 0} (f : A → B) (o : Option A) (b : B) → option_map f o ≡ Some b → (a : A) × (o ≡ Some a) × (f a ≡ b)
some_of f None b is = cc
some_of f (Some a) b is = (a, refl, (let e : Some (f a) ≡ Some b = is in cc))

get_map : {A B : Type 0} (f : A → B) (xs : List A) (n : ℕ) (y : B) → slice_get (map f xs) n ≡ Some y → (x : A) × (slice_get xs n ≡ Some x) × (f x ≡ y)
get_map f [] n y is = cc
get_map f (x ∷ xs) zero y is = (x, refl, (let e : Some (f x) ≡ Some y = is in cc))
get_map f (x ∷ xs) (suc n) y is = get_map f xs n y is

map_same : (f g : Matched → Face) (ms : List Matched) → ((n : ℕ) (m : Matched) → slice_get ms n ≡ Some m → f m ≡ g m) → map f ms ≡ map g ms
map_same f g [] each = refl
map_same f g (m ∷ ms) each =
    let rest = map_same f g ms (λ n x is. each (suc n) x is) in rw (each 0 m refl, rest) refl

get_or_front : (xs ys : List (List ℕ)) (i : ℕ) → i < length xs → get_or (xs ++ ys) i [] ≡ get_or xs i []
get_or_front [] ys i inside = absurd (omega arith)
get_or_front (x ∷ xs) ys zero inside = refl
get_or_front (x ∷ xs) ys (suc i) inside = get_or_front xs ys i (omega arith)

-- what stands at a place of a list with one more at its end
last_or_front : (rs : List Known) (x : Known) (i : ℕ) (r : Known) → slice_get (rs ++ x ∷ []) i ≡ Some r → (slice_get rs i ≡ Some r) ⊎ ((i ≡ length rs) × (r ≡ x))
last_or_front [] x zero r is = inr (refl, (let e : Some x ≡ Some r = is in cc))
last_or_front [] x (suc i) r is = cc
last_or_front (y ∷ rs) x zero r is = inl is
last_or_front (y ∷ rs) x (suc i) r is =
    elim (last_or_front rs x i r is) [ inl front ↦ inl front | inr last ↦ inr (ap suc last.0, last.1) ]

-- what stands at a place of a list after one was set
get_set : (rs : List Known) (s : ℕ) (x y : Known) → slice_get rs s ≡ Some x → (i : ℕ) (r : Known) → slice_get (set rs s y) i ≡ Some r
    → ((i ≡ s) × (r ≡ y)) ⊎ ((i ≢ s) × (slice_get rs i ≡ Some r))
get_set [] s x y there i r is = cc
get_set (z ∷ rs) zero x y there zero r is = inl (refl, (let e : Some y ≡ Some r = is in cc))
get_set (z ∷ rs) zero x y there (suc i) r is = inr ((λ e. absurd (omega arith)), is)
get_set (z ∷ rs) (suc s) x y there zero r is = inr ((λ e. absurd (omega arith)), is)
get_set (z ∷ rs) (suc s) x y there (suc i) r is =
    elim (get_set rs s x y there i r is) [
      | inl here ↦ inl (ap suc here.0, here.1)
      | inr other ↦ inr ((λ e. other.0 (omega arith)), other.1)
    ]

-- a request that is in pair n now was so in its slot, or is as before
record IsAt (n s : ℕ) (rs : List Known) (i : ℕ) (r : Known) : Type 0 where
  old : Known
  there : slice_get rs i ≡ Some old
  is : ((i ≡ s) × (r.pair ≡ Some n)) ⊎ ((i ≢ s) × (r.pair ≡ old.pair))

get_matched : (n s : ℕ) (rs : List Known) (i : ℕ) (r : Known) → slice_get (matched_at n s rs) i ≡ Some r → IsAt n s rs i r
get_matched n s rs i r is =
    elim (slice_get rs s) as (λ o. slice_get rs s ≡ o → slice_get (with_pair n s rs o) i ≡ Some r → IsAt n s rs i r) [
      | None ↦ λ none got. record {
        old = r;
        there = got;
        is = inr ((λ same. let e : None ≡ Some r = sym none ∙ ap (slice_get rs) (sym same) ∙ got in cc), refl);
      }
      | Some x ↦ λ there got. elim (get_set rs s x (in_pair n x) there i r got) [
        | inl here ↦ record {
          old = x;
          there = ap (slice_get rs) here.0 ∙ there;
          is = inl (here.0, ap (λ (k : Known). k.pair) here.1);
        }
        | inr other ↦ record { old = r; there = other.1; is = inr (other.0, refl) }
      ]
    ] refl is

-- matching keeps the names
set_names : (n : ℕ) (rs : List Known) (s : ℕ) (x : Known) → slice_get rs s ≡ Some x → names_of (set rs s (in_pair n x)) ≡ names_of rs
set_names n [] s x there = cc
set_names n (z ∷ rs) zero x there = let e : z ≡ x = cc in rw e refl
set_names n (z ∷ rs) (suc s) x there = ap (λ ns. z.name ∷ ns) (set_names n rs s x there)

matched_names : (n s : ℕ) (rs : List Known) → names_of (matched_at n s rs) ≡ names_of rs
matched_names n s rs =
    elim (slice_get rs s) as (λ o. slice_get rs s ≡ o → names_of (with_pair n s rs o) ≡ names_of rs) [
      | None ↦ λ none. refl
      | Some x ↦ λ there. set_names n rs s x there
    ] refl

-- an action keeps what its pair is
set_faces : (ps : List Pair) (n : ℕ) (p q : Pair) → slice_get ps n ≡ Some p → face q ≡ face p → map face (set ps n q) ≡ map face ps
set_faces [] n p q there same = cc
set_faces (x ∷ ps) zero p q there same = let e : x ≡ p = cc in rw (same, e) refl
set_faces (x ∷ ps) (suc n) p q there same = ap (λ fs. face x ∷ fs) (set_faces ps n p q there same)

-- the pairs of a world, each with its two calls
record IsNth (w : WorldState) (n : ℕ) (m : Matched) : Type 0 where
  pair : matching.Pair
  paired : ArePaired w.calls pair
  send : m.send_slot ≡ pair.send.0
  recv : m.recv_slot ≡ pair.recv.0
  send_inside : pair.send.0 < length w.calls
  recv_inside : pair.recv.0 < length w.calls

nth : (w : WorldState) (n : ℕ) (m : Matched) → slice_get (matched_pairs w) n ≡ Some m → IsNth w n m
nth w n m is =
    let found = get_map (matched_as w.grain w.depth) (pairs_of w.calls) n m is in
    let paired = (the_pairs w.calls).only n found.0 found.1 in
    record {
      pair = found.0;
      paired = paired;
      send = ap (λ (x : Matched). x.send_slot) (sym found.2);
      recv = ap (λ (x : Matched). x.recv_slot) (sym found.2);
      send_inside = slice_get_within w.calls found.0.send.0 found.0.send.1 (stands_at SendSide paired.key w.calls paired.turn found.0.send paired.send).0;
      recv_inside = slice_get_within w.calls found.0.recv.0 found.0.recv.1 (stands_at RecvSide paired.key w.calls paired.turn found.0.recv paired.recv).0;
    }

-- a pair that a call completes has the slot of this call, and one before it
newest : (calls : List initial.Call) (c : initial.Call) (p : matching.Pair) → completed_by calls c ≡ Some p
    → ((p.send.0 ≡ length calls) × (p.recv.0 < length calls)) ⊎ ((p.recv.0 ≡ length calls) × (p.send.0 < length calls))
newest calls c p is =
    let found = some_of (pair_with c.side (length calls, c)) (partner_before calls c) p is in
    let there = stands_at (facing c.side) c.key calls (turn_of calls c) found.0 found.1 in
    let less = slice_get_within calls found.0.0 found.0.1 there.0 in
    by_side c.side found.0 found.2 less
  where
    by_side : (side : Side) (other : ℕ × initial.Call) → pair_with side (length calls, c) other ≡ p → other.0 < length calls
        → ((p.send.0 ≡ length calls) × (p.recv.0 < length calls)) ⊎ ((p.recv.0 ≡ length calls) × (p.send.0 < length calls))
    by_side SendSide other same less = inl (ap (λ (q : matching.Pair). q.send.0) (sym same), subst (λ (q : matching.Pair). q.recv.0 < length calls) same less)
    by_side RecvSide other same less = inr (ap (λ (q : matching.Pair). q.recv.0) (sym same), subst (λ (q : matching.Pair). q.send.0 < length calls) same less)

-- a slot in a pair before is in none that a later call completes
apart : (calls : List initial.Call) (c : initial.Call) (p q : matching.Pair) (slot : ℕ) → completed_by calls c ≡ Some p → ArePaired calls q
    → q.send.0 < length calls → q.recv.0 < length calls → (q.send.0 ≡ slot) ⊎ (q.recv.0 ≡ slot) → (p.send.0 ≡ slot) ⊎ (p.recv.0 ≡ slot) → ⊥
apart calls c p q slot is paired send_in recv_in old new =
    let all = calls ++ c ∷ [] in
    let stays = paired_stays calls (c ∷ []) q paired in
    let whole = completed_paired calls c p is in
    let before : (j : ℕ) × (j < length calls) × (partner_of all slot ≡ Some j) × (slot < length calls) = elim old [
      | inl s ↦ (q.recv.0, recv_in, (the_partner all slot q.recv.0).1 (record { pair = q; paired = stays; slots = inl (s, refl) }), (let z = s in omega arith))
      | inr r ↦ (q.send.0, send_in, (the_partner all slot q.send.0).1 (record { pair = q; paired = stays; slots = inr (r, refl) }), (let z = r in omega arith))
    ] in
    let now : partner_of all slot ≡ Some (length calls) = elim (newest calls c p is) [
      | inl s ↦ elim new [
        | inl here ↦ absurd (let a = s.0 in let b = before.3 in omega arith)
        | inr here ↦ (the_partner all slot (length calls)).1 (record { pair = p; paired = whole; slots = inr (here, s.0) })
      ]
      | inr r ↦ elim new [
        | inl here ↦ (the_partner all slot (length calls)).1 (record { pair = p; paired = whole; slots = inl (here, r.0) })
        | inr here ↦ absurd (let a = r.0 in let b = before.3 in omega arith)
      ]
    ] in
    let same : Some before.0 ≡ Some (length calls) = sym before.2 ∙ now in
    let e : before.0 ≡ length calls = cc in
    absurd (let b = before.1 in omega arith)

-- the world with one call more, and its pairs
abbrev grown : WorldState → initial.Call → WorldState
grown w c = record w { calls = w.calls ++ c ∷ [] }

grown_none : (w : WorldState) (c : initial.Call) → completed_by w.calls c ≡ None → matched_pairs (grown w c) ≡ matched_pairs w
grown_none w c none =
    ap (map (matched_as w.grain w.depth)) (pairs_more w.calls c ∙ ap (λ o. pairs_of w.calls ++ option_to_list o) none ∙ sym (append_none (pairs_of w.calls)))

grown_some : (w : WorldState) (c : initial.Call) (p : matching.Pair) → completed_by w.calls c ≡ Some p
    → matched_pairs (grown w c) ≡ matched_pairs w ++ matched_as w.grain w.depth p ∷ []
grown_some w c p is =
    ap (map (matched_as w.grain w.depth)) (pairs_more w.calls c ∙ ap (λ o. pairs_of w.calls ++ option_to_list o) is)
    ∙ map-append (matched_as w.grain w.depth) (pairs_of w.calls) (p ∷ [])

-- one request more
abbrev request_of : List ℕ → Side → Known
request_of name side = record { name = name; side = side; pair = None }

-- the faces of the pairs before stay with one name more
faces_stay : (st : State) (name : List ℕ) → HasSlots st
    → map (matched_face (names_of st.requests ++ name ∷ [])) (matched_pairs st.world) ≡ map (matched_face (names_of st.requests)) (matched_pairs st.world)
faces_stay st name slots =
    map_same (matched_face (names_of st.requests ++ name ∷ [])) (matched_face (names_of st.requests)) (matched_pairs st.world) (λ n m is.
    let h = nth st.world n m is in
    let many = length-map st.requests (λ (r : Known). r.name) in
    let s = h.send in let r = h.recv in let si = h.send_inside in let ri = h.recv_inside in
    rw (get_or_front (names_of st.requests) (name ∷ []) m.send_slot (omega arith), get_or_front (names_of st.requests) (name ∷ []) m.recv_slot (omega arith)) refl)

names_more : (rs : List Known) (name : List ℕ) (side : Side) → names_of (rs ++ request_of name side ∷ []) ≡ names_of rs ++ name ∷ []
names_more rs name side = map-append (λ (r : Known). r.name) rs (request_of name side ∷ [])

-- a slot that the world before has no call in is in none of its pairs
is_in_before : (w : WorldState) (slot n : ℕ) → IsIn w slot n → slot < length w.calls
is_in_before w slot n (m, is, slots) =
    let h = nth w n m is in let s = h.send in let r = h.recv in let si = h.send_inside in let ri = h.recv_inside in
    elim slots [ inl e ↦ omega arith | inr e ↦ omega arith ]

-- the state with an accepted initialisation, before its pair begins
abbrev asked : State → initial.Call → List ℕ → Side → State
asked st c name side = record { world = grown st.world c; requests = st.requests ++ request_of name side ∷ []; pairs = st.pairs }

none_matched : (st : State) (c : initial.Call) (name : List ℕ) (side : Side) → HasSlots st → IsMatched st → completed_by st.world.calls c ≡ None → IsMatched (asked st c name side)
none_matched st c name side slots h none =
    let same = grown_none st.world c none in
    record {
      pairs = h.pairs ∙ sym (faces_stay st name slots) ∙ ap (λ ns. map (matched_face ns) (matched_pairs st.world)) (sym (names_more st.requests name side))
          ∙ ap (map (matched_face (names_of (st.requests ++ request_of name side ∷ [])))) (sym same);
      requests = λ slot n r got. elim (last_or_front st.requests (request_of name side) slot r got) [
        | inl front ↦
            let old = h.requests slot n r front in (
              (λ e. let i = old.0 e in (i.0, ap (λ ms. slice_get ms n) same ∙ i.1, i.2)),
              λ i. old.1 (i.0, ap (λ ms. slice_get ms n) (sym same) ∙ i.1, i.2),
            )
        | inr last ↦ (
          (λ e. let z : None ≡ Some n = ap (λ (k : Known). k.pair) (sym last.1) ∙ e in cc),
          λ i. absurd (let b = is_in_before st.world slot n (i.0, ap (λ ms. slice_get ms n) (sym same) ∙ i.1, i.2) in let l = last.0 in let s = slots in omega arith),
        )
      ];
    }

-- the requests after both slots of a new pair were matched
both : (n a b : ℕ) (rs : List Known) (i : ℕ) (r : Known) → slice_get (matched_at n b (matched_at n a rs)) i ≡ Some r
    → (old : Known) × (slice_get rs i ≡ Some old) × ((((a ≡ i) ⊎ (b ≡ i)) × (r.pair ≡ Some n)) ⊎ ((a ≢ i) × (b ≢ i) × (r.pair ≡ old.pair)))
both n a b rs i r got =
    let second = get_matched n b (matched_at n a rs) i r got in
    let first = get_matched n a rs i second.old second.there in (
      first.old,
      first.there,
      elim second.is [
        | inl here ↦ inl (inr (sym here.0), here.1)
        | inr other ↦ elim first.is [
          | inl here ↦ inl (inl (sym here.0), other.1 ∙ here.1)
          | inr apart ↦ inr ((λ e. apart.0 (sym e)), (λ e. other.0 (sym e)), other.1 ∙ apart.1)
        ]
      ],
    )

some_matched : (st : State) (c : initial.Call) (name : List ℕ) (side : Side) (p : matching.Pair) → HasSlots st → IsMatched st → completed_by st.world.calls c ≡ Some p
    → IsMatched (begun (asked st c name side) (Some (matched_as st.world.grain st.world.depth p)))
some_matched st c name side p slots h is =
    let w = st.world in
    let m : Matched = matched_as w.grain w.depth p in
    let rs = st.requests ++ request_of name side ∷ [] in
    let k = length st.pairs in
    let rs' = matched_at k m.recv_slot (matched_at k m.send_slot rs) in
    let more = grown_some w c p is in
    let count : k ≡ length (matched_pairs w) = sym (length-map st.pairs face) ∙ ap length h.pairs ∙ length-map (matched_pairs w) (matched_face (names_of st.requests)) in
    let names : names_of rs' ≡ names_of rs = matched_names k m.recv_slot (matched_at k m.send_slot rs) ∙ matched_names k m.send_slot rs in
    let here : slice_get (matched_pairs (grown w c)) k ≡ Some m = ap (λ ms. slice_get ms k) more ∙ ap (slice_get (matched_pairs w ++ m ∷ [])) count ∙ get_back (matched_pairs w) m [] in
    let front : (n : ℕ) (x : Matched) → slice_get (matched_pairs w) n ≡ Some x → slice_get (matched_pairs (grown w c)) n ≡ Some x =
    λ n x there. ap (λ ms. slice_get ms n) more ∙ get_front (matched_pairs w) (m ∷ []) n x there in
    record {
      pairs =
          map-append face st.pairs _
          ∙ ap (λ fs. fs ++ matched_face (names_of rs) m ∷ []) (h.pairs ∙ sym (faces_stay st name slots) ∙ ap (λ ns. map (matched_face ns) (matched_pairs w)) (sym (names_more st.requests name side)))
          ∙ sym (map-append (matched_face (names_of rs)) (matched_pairs w) (m ∷ []))
          ∙ ap (map (matched_face (names_of rs))) (sym more)
          ∙ ap (λ ns. map (matched_face ns) (matched_pairs (grown w c))) (sym names);
      requests = λ slot n r got.
          let b = both k m.send_slot m.recv_slot rs slot r got in
          elim b.2 [
            | inl now ↦ (
              (λ e. let z : Some k ≡ Some n = sym now.1 ∙ e in let same : k ≡ n = cc in (m, subst (λ j. slice_get (matched_pairs (grown w c)) j ≡ Some m) same here, now.0)),
              λ i. elim (cases_lt n k) [
                | inl before ↦
                    let there = get_before w c p n i.0 is (omega arith) i.1 in
                    let q = nth w n i.0 there in
                    let sq = q.send in let rq = q.recv in
                    absurd (apart w.calls c p q.pair slot is q.paired q.send_inside q.recv_inside (elim i.2 [ inl e ↦ inl (sym sq ∙ e) | inr e ↦ inr (sym rq ∙ e) ]) now.0)
                | inr after ↦
                    let size : length (matched_pairs (grown w c)) ≡ length (matched_pairs w) + 1 = ap length more ∙ length-append (matched_pairs w) (m ∷ []) in
                    let inside = slice_get_within (matched_pairs (grown w c)) n i.0 i.1 in
                    now.1 ∙ ap Some (let e : k ≡ n = omega arith in e)
              ],
            )
            | inr stays ↦ elim (last_or_front st.requests (request_of name side) slot b.0 b.1) [
              | inl old ↦
                  let was = h.requests slot n b.0 old in (
                    (λ e. let i = was.0 (sym stays.2 ∙ e) in (i.0, front n i.0 i.1, i.2)),
                    λ i. stays.2 ∙ was.1 (elim (cases_lt n k) [
                      | inl before ↦ (i.0, get_before w c p n i.0 is (omega arith) i.1, i.2)
                      | inr after ↦ absurd (not_new w c p n k slot i is count here (omega arith) stays.0 stays.1)
                    ]),
                  )
              | inr last ↦
                  let new = newest w.calls c p is in let s = slots in let l = last.0 in
                  absurd (elim new [
                    | inl e ↦ stays.0 (let z = e.0 in omega arith)
                    | inr e ↦ stays.1 (let z = e.0 in omega arith)
                  ])
            ]
          ];
    }
  where
    get_before : (w : WorldState) (c : initial.Call) (p : matching.Pair) (n : ℕ) (x : Matched) → completed_by w.calls c ≡ Some p → n < length (matched_pairs w)
        → slice_get (matched_pairs (grown w c)) n ≡ Some x → slice_get (matched_pairs w) n ≡ Some x
    get_before w c p n x is inside got = back (matched_pairs w) (matched_as w.grain w.depth p) n x inside (ap (λ ms. slice_get ms n) (sym (grown_some w c p is)) ∙ got)
      where
        back : (xs : List Matched) (y : Matched) (n : ℕ) (x : Matched) → n < length xs → slice_get (xs ++ y ∷ []) n ≡ Some x → slice_get xs n ≡ Some x
        back [] y n x inside got = absurd (omega arith)
        back (z ∷ xs) y zero x inside got = got
        back (z ∷ xs) y (suc n) x inside got = back xs y n x (omega arith) got

    not_new : (w : WorldState) (c : initial.Call) (p : matching.Pair) (n k slot : ℕ) → (i : IsIn (grown w c) slot n) → completed_by w.calls c ≡ Some p → k ≡ length (matched_pairs w)
        → slice_get (matched_pairs (grown w c)) k ≡ Some (matched_as w.grain w.depth p) → k ≤ n → p.send.0 ≢ slot → p.recv.0 ≢ slot → ⊥
    not_new w c p n k slot i is count here after not_send not_recv =
        let m : Matched = matched_as w.grain w.depth p in
        let size : length (matched_pairs (grown w c)) ≡ length (matched_pairs w) + 1 = ap length (grown_some w c p is) ∙ length-append (matched_pairs w) (m ∷ []) in
        let inside = slice_get_within (matched_pairs (grown w c)) n i.0 i.1 in
        let at : n ≡ k = omega arith in
        let e : Some i.0 ≡ Some m = sym i.1 ∙ ap (slice_get (matched_pairs (grown w c))) at ∙ here in
        let same : i.0 ≡ m = cc in
        elim i.2 [
          | inl s ↦ not_send (ap (λ (x : Matched). x.send_slot) (sym same) ∙ s)
          | inr r ↦ not_recv (ap (λ (x : Matched). x.recv_slot) (sym same) ∙ r)
        ]

joined_matched : (st : State) (c : initial.Call) (name : List ℕ) (side : Side) → HasSlots st → IsMatched st → IsMatched (joined (asked st c name side))
joined_matched st c name side slots h = by_pair (completed_by st.world.calls c) refl
  where
    count : length st.pairs ≡ length (matched_pairs st.world)
    count = sym (length-map st.pairs face) ∙ ap length h.pairs ∙ length-map (matched_pairs st.world) (matched_face (names_of st.requests))

    by_pair : (o : Option matching.Pair) → completed_by st.world.calls c ≡ o → IsMatched (joined (asked st c name side))
    by_pair None is =
        let none : next_pair (asked st c name side) ≡ None =
        ap (λ ms. slice_get ms (length st.pairs)) (grown_none st.world c is) ∙ slice_get_past (matched_pairs st.world) (length st.pairs) (let e = count in omega arith) in
        subst (λ o. IsMatched (begun (asked st c name side) o)) (sym none) (none_matched st c name side slots h is)
    by_pair (Some p) is =
        let m : Matched = matched_as st.world.grain st.world.depth p in
        let some : next_pair (asked st c name side) ≡ Some m =
        ap (λ ms. slice_get ms (length st.pairs)) (grown_some st.world c p is) ∙ ap (slice_get (matched_pairs st.world ++ m ∷ [])) count ∙ get_back (matched_pairs st.world) m [] in
        subst (λ o. IsMatched (begun (asked st c name side) o)) (sym some) (some_matched st c name side p slots h is)

initialised_matched : (st : State) (side : Side) (i : Init) (a : Result ℕ InitFault) → HasSlots st → IsMatched st → IsMatched (initialised st side i a)
initialised_matched st SendSide i (Ok slot) slots h = joined_matched st (send_call i.from i.to i.tag i.comm i.parts i.bytes) i.name SendSide slots h
initialised_matched st RecvSide i (Ok slot) slots h = joined_matched st (recv_call i.from i.to i.tag i.comm i.parts i.bytes) i.name RecvSide slots h
initialised_matched st side i (Err f) slots h = h

init_matched : (st : State) (side : Side) (i : Init) → HasSlots st → IsMatched st → IsMatched (after_init_of st side i)
init_matched st side i slots h =
    elim (is_some (slot_of st.requests i.name)) as (λ v. IsMatched (if v then st else initialised st side i (world_answer st.world side i))) [
      | true ↦ h
      | false ↦ initialised_matched st side i (world_answer st.world side i) slots h
    ]

pair_matched : (st : State) (n : ℕ) (o : Option Pair) (side : Side) (a : Action) → slice_get st.pairs n ≡ o → IsMatched st
    → IsMatched (record st { pairs = after_pair st.pairs n o side a })
pair_matched st n None side a is h = h
pair_matched st n (Some p) side a is h = record { pairs = set_faces st.pairs n p _ is refl ∙ h.pairs; requests = h.requests }

known_matched : (st : State) (o : Option Known) (a : Action) → IsMatched st → IsMatched (after_known st o a)
known_matched st None a h = h
known_matched st (Some r) a h = request_matched r.side r.pair
  where
    request_matched : (side : Side) (o : Option ℕ) → IsMatched (after_request st side o a)
    request_matched side None = h
    request_matched side (Some n) = pair_matched st n (slice_get st.pairs n) side a refl h

call_matched : (st : State) (call : Call) → HasSlots st → IsMatched st → IsMatched (after_call st call)
call_matched st (Send i) slots h = init_matched st SendSide i slots h
call_matched st (Recv i) slots h = init_matched st RecvSide i slots h
call_matched st (Request name a) slots h = known_matched st (known_as st name) a h

calls_matched : (calls : List Call) (st : State) → HasSlots st → IsMatched st → IsMatched (fold after_call st calls)
calls_matched [] st slots h = h
calls_matched (call ∷ calls) st slots h = calls_matched calls (after_call st call) (call_slots st call slots) (call_matched st call slots h)

-- after any calls of a script its pairs are those of its world, and each request is in the pair that its slot is in
pub pairs_are_matched : PairsAreMatched
unfolding pairs_of
pairs_are_matched world calls =
    calls_matched calls (first_state world) refl (record {
      pairs = refl;
      requests = λ slot n r got. let e : None ≡ Some r = got in cc;
    })
