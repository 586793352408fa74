-- One mark after another, by the record. A loop keeps that the pair stands for the record after the entries so far,
-- with the same counts; each entry goes on from there, or ends the call.
use Rattle.std.proofs.Common.{◌≡◌, ℕ, ◌+◌, ◌-◌, ◌*◌, ◌<◌, ◌≤◌, ◌==◌, ◌||◌, not, nat_lt, Bool, true, false, is_some, Some, None, Option, Ok, Err, Result, List, [], length, get_or, take, refl, ap, sym, subst, ◌∙◌, arith}
use Rattle.std.specs.Option.{option_map_or}
use Rattle.std.proofs.lemmas.Bool.{le-ltb, lt-ltb}
use Rattle.std.proofs.lemmas.List.{take_all}
use Rattle.std.proofs.lemmas.List.Folds.{fold_stuck}
use Rattle.std.proofs.lemmas.List.FromFn.{get_or-map-range_with_len, length-map-range_with_len, get_or-range_with_len, length-range_with_len}
use Rattle.std.proofs.lemmas.List.Sums.{fold_more}
use Rattle.part_geometry.specs.declared.answers.Marked.{Marked}
use Rattle.part_geometry.specs.declared.answers.Marks.{Marks}
use Rattle.part_geometry.specs.Shape.{Shape}
use Rattle.plain_pair.specs.declared.answers.PlainRefusal.{PlainRefusal}
use Rattle.plain_pair.specs.declared.answers.PlainRefusal.TheVariants.{BadLength}
use Rattle.plain_pair.specs.declared.answers.PlainStop.{PlainStop}
use Rattle.plain_pair.specs.Record.{Record}
use Rattle.plain_pair.specs.Moves.{marked, pready_answer, after_pready}
use Rattle.plain_pair.specs.Kept.{Kept}
use Rattle.plain_pair.specs.Sides.{SameSides}
use Rattle.plain_pair.specs.StandsFor.{StandsFor, Follows}
use Rattle.plain_pair.specs.Many.{Progress, no_progress, counted, mark_one_more, part_of, entries, progress, progress_unless, told, whole_length, whole_range, range_parts}
use Rattle.plain_pair.specs.Growing.{IsAt, GoesOn}

-- where nothing was refused yet, one more is what its answer says
pub more : (g : Shape) (k : ℕ) (done : Progress) (p : ℕ) (bytes : List ℕ) → done.refused ≡ None
    → mark_one_more g k done (p, bytes) ≡ counted done (marked done.after p bytes) (pready_answer g done.after k p bytes)
more g k done p bytes going = rw going refl

-- an accepted mark goes on with one mark more, and with the pieces that it sent out
pub goes_on_marked : (old new : Kept) (k count sent : ℕ) (p : ℕ) (bytes : List ℕ) (m : Marked)
    → Follows {A = Result Marked PlainRefusal} old new (Ok m) (λ r. pready_answer old.shape r k p bytes) (λ r. after_pready old.shape r k p bytes)
    → (done : Progress) → IsAt old record { round = k; count = count; sent = sent } done
    → GoesOn new record { round = k; count = count + 1; sent = sent + m.sent } (Ok tt) (mark_one_more old.shape k done (p, bytes))
goes_on_marked old new k count sent p bytes m follows done at =
    let f = follows done.after at.stands in
    let e : mark_one_more old.shape k done (p, bytes) ≡ record { after = marked done.after p bytes; count = done.count + 1; sent = done.sent + m.sent; refused = None } =
    more old.shape k done p bytes at.going ∙ ap (counted done (marked done.after p bytes)) (sym f.0) in
    let next : after_pready old.shape done.after k p bytes ≡ marked done.after p bytes = rw (← f.0) refl in
    let stands = subst (StandsFor new) next f.1 in
    rw e (stands, record { stands = stands; count = ap (λ n. n + 1) at.count; sent = ap (λ n. n + m.sent) at.sent; going = refl })

-- a refused mark ends the call with its cause, and with how many were marked
pub goes_on_refused : (old new : Kept) (k count sent : ℕ) (p : ℕ) (bytes : List ℕ) (cause : PlainRefusal)
    → Follows {A = Result Marked PlainRefusal} old new (Err cause) (λ r. pready_answer old.shape r k p bytes) (λ r. after_pready old.shape r k p bytes)
    → (done : Progress) → IsAt old record { round = k; count = count; sent = sent } done
    → GoesOn new record { round = k; count = count; sent = sent } (Err record { at = count; cause = cause }) (mark_one_more old.shape k done (p, bytes))
goes_on_refused old new k count sent p bytes cause follows done at =
    let f = follows done.after at.stands in
    let e : mark_one_more old.shape k done (p, bytes) ≡ record done { refused = Some cause } =
    more old.shape k done p bytes at.going ∙ ap (counted done (marked done.after p bytes)) (sym f.0) in
    let next : after_pready old.shape done.after k p bytes ≡ done.after = rw (← f.0) refl in
    let stands = subst (StandsFor new) next f.1 in
    rw e (stands, ap (λ n. Err record { at = n; cause = cause }) (sym at.count))

-- the sides stay over one mark more
pub sides_stay : {a b c : Kept} → SameSides a b → SameSides b c → SameSides a c
sides_stay h g = record { send = g.send ∙ h.send; recv = g.recv ∙ h.recv }

-- the i-th entry
entry_at : (g : Shape) (parts bytes : List ℕ) (i p : ℕ) → i < length parts → p ≡ get_or parts i 0 → get_or (entries g parts bytes) i (0, []) ≡ (p, part_of g bytes i)
entry_at g parts bytes i p inside is =
    get_or-map-range_with_len (λ i. (get_or parts i 0, part_of g bytes i)) 0 (length parts) i i (0, []) inside (omega arith) ∙ ap (λ q. (q, part_of g bytes i)) (sym is)

-- there are as many entries as partitions
entries_many : (g : Shape) (parts bytes : List ℕ) → length (entries g parts bytes) ≡ length parts
entries_many g parts bytes = length-map-range_with_len (λ i. (get_or parts i 0, part_of g bytes i)) 0 (length parts)

-- the progress over one entry more
next_progress : (g : Shape) (r : Record) (k : ℕ) (parts bytes : List ℕ) (i p : ℕ) → i < length parts → p ≡ get_or parts i 0
    → progress g r k (take (i + 1) (entries g parts bytes)) ≡ mark_one_more g k (progress g r k (take i (entries g parts bytes))) (p, part_of g bytes i)
next_progress g r k parts bytes i p inside is =
    let size = entries_many g parts bytes in
    fold_more (mark_one_more g k) (no_progress r) (entries g parts bytes) i (0, []) (omega arith)
    ∙ ap (mark_one_more g k (progress g r k (take i (entries g parts bytes)))) (entry_at g parts bytes i p inside is)

-- what ends with a refusal was refused
told_refused : (k : ℕ) (done : Progress) (stop : PlainStop) → told k done ≡ Err stop → is_some done.refused ≡ true
told_refused k done stop is = refused done.refused is
  where
    refused : (o : Option PlainRefusal)
        → option_map_or {U = Result Marks PlainStop} (λ cause. Err record { at = done.count; cause = cause }) o (Ok record { round = k; count = done.count; sent = done.sent }) ≡ Err stop
        → is_some o ≡ true
    refused None e = cc
    refused (Some cause) e = refl

-- nothing follows a refusal
pub stays : (g : Shape) (k : ℕ) (done : Progress) (e : ℕ × List ℕ) → is_some done.refused ≡ true → mark_one_more g k done e ≡ done
stays g k done e refused = rw refused refl

-- where a call stands in its loop: i of its entries are marked, and nothing is refused
abbrev pub AtEntry : Kept → Kept → Marks → ℕ → List ℕ → List ℕ → ℕ → Type 0
AtEntry old now marks k parts bytes i =
    (r : Record) → StandsFor old r → IsAt now marks (progress old.shape r k (take i (entries old.shape parts bytes)))

-- what one more entry leaves
abbrev pub Goes : Kept → Kept → Marks → Marks → Result (Unit {0}) PlainStop → ℕ → List ℕ → Type 0
Goes now new marks marks' result p bytes =
    (done : Progress) → IsAt now marks done → GoesOn new marks' result (mark_one_more now.shape marks.round done (p, part_of now.shape bytes marks.count))

-- one more entry leads from where a call stands to the progress over that entry
goes_there : (old now new : Kept) (marks marks' : Marks) (k : ℕ) (parts bytes : List ℕ) (i p : ℕ) (result : Result (Unit {0}) PlainStop)
    → now.shape ≡ old.shape → marks.round ≡ k → marks.count ≡ i → i < length parts → p ≡ get_or parts i 0
    → AtEntry old now marks k parts bytes i → Goes now new marks marks' result p bytes
    → (r : Record) → StandsFor old r → GoesOn new marks' result (progress old.shape r k (take (i + 1) (entries old.shape parts bytes)))
goes_there old now new marks marks' k parts bytes i p result shape round count inside is at goes r st =
    let next = next_progress old.shape r k parts bytes i p inside is in
    rw next (rw (shape, round, count) at (goes _ (at r st)))

-- before its first entry a call stands where it began, with no counts
pub at_first : (old : Kept) (k : ℕ) (parts bytes : List ℕ) → AtEntry old old record { round = k; count = 0; sent = 0 } k parts bytes 0
at_first old k parts bytes r st = record { stands = st; count = refl; sent = refl; going = refl }

-- an entry that is marked leads from its place to the next one
pub at_next : (old now new : Kept) (marks marks' : Marks) (k : ℕ) (parts bytes : List ℕ) (i p : ℕ) (u : Unit {0})
    → now.shape ≡ old.shape → marks.round ≡ k → marks.count ≡ i → i < length parts → p ≡ get_or parts i 0
    → AtEntry old now marks k parts bytes i → Goes now new marks marks' (Ok u) p bytes → AtEntry old new marks' k parts bytes (i + 1)
at_next old now new marks marks' k parts bytes i p u shape round count inside is at goes r st =
    (goes_there old now new marks marks' k parts bytes i p (Ok u) shape round count inside is at goes r st).1

-- the answers of a call
abbrev pub FollowsMany : Kept → Kept → Result Marks PlainStop → ℕ → Option PlainRefusal → List ℕ → List ℕ → Type 0
FollowsMany old new result k whole parts bytes =
    Follows old new result (λ r. told k (progress_unless whole old.shape r k (entries old.shape parts bytes))) (λ r. (progress_unless whole old.shape r k (entries old.shape parts bytes)).after)

-- a call that is refused as a whole answers as each record says, and changes nothing
pub follows_whole : (old : Kept) (k : ℕ) (whole : Option PlainRefusal) (cause : PlainRefusal) (parts bytes : List ℕ) → whole ≡ Some cause
    → FollowsMany old old (Err record { at = 0; cause = cause }) k whole parts bytes
follows_whole old k whole cause parts bytes is r st = rw is (refl, st)

-- a call that came through all its entries answers as each record says, and leaves the record after them
pub follows_all : (old new : Kept) (marks : Marks) (k : ℕ) (whole : Option PlainRefusal) (parts bytes : List ℕ) (i : ℕ) → whole ≡ None → i ≡ length parts → marks.round ≡ k
    → AtEntry old new marks k parts bytes i → FollowsMany old new (Ok marks) k whole parts bytes
follows_all old new marks k whole parts bytes i none all round at r st =
    let size = entries_many old.shape parts bytes in
    let e : take i (entries old.shape parts bytes) ≡ entries old.shape parts bytes = take_all i _ (omega arith) in
    let here = rw e at (at r st) in
    rw none (made (progress old.shape r k (entries old.shape parts bytes)) here.count here.sent here.going, here.stands)
  where
    made : (done : Progress) → marks.count ≡ done.count → marks.sent ≡ done.sent → done.refused ≡ None → ◌≡◌ {A = Result Marks PlainStop} (Ok marks) (told k done)
    made done count sent going = rw (going, ← count, ← sent, ← round) refl

-- so does a call that stopped at an entry
pub follows_stopped : (old now new : Kept) (marks marks' : Marks) (k : ℕ) (whole : Option PlainRefusal) (parts bytes : List ℕ) (i p : ℕ) (stop : PlainStop)
    → whole ≡ None → now.shape ≡ old.shape → marks.round ≡ k → marks'.round ≡ k → marks.count ≡ i → i < length parts → p ≡ get_or parts i 0
    → AtEntry old now marks k parts bytes i → Goes now new marks marks' (Err stop) p bytes → FollowsMany old new (Err stop) k whole parts bytes
follows_stopped old now new marks marks' k whole parts bytes i p stop none shape round round' count inside is at goes r st =
    let g = old.shape in
    let es = entries g parts bytes in
    let size = entries_many g parts bytes in
    let there = goes_there old now new marks marks' k parts bytes i p (Err stop) shape round count inside is at goes r st in
    let told_is : told k (progress g r k (take (i + 1) es)) ≡ Err stop = subst (λ n. told n (progress g r k (take (i + 1) es)) ≡ Err stop) round' there.1 in
    let refused = told_refused k (progress g r k (take (i + 1) es)) stop told_is in
    let last : progress g r k (take (i + 1) es) ≡ progress g r k es =
    fold_stuck (mark_one_more g k) (progress g r k (take (i + 1) es)) (λ e. stays g k _ e refused) (no_progress r) es i (0, []) (omega arith)
    (sym (fold_more (mark_one_more g k) (no_progress r) es i (0, []) (omega arith))) in
    rw none (sym (rw last at told_is), rw last at there.0)

-- a list whose bytes are as many as its entries have isn't refused as a whole
pub list_fits : (g : Shape) (parts bytes : List ℕ) (test : Bool) → test ≡ (length bytes == length parts * g.send_bytes) → test ≡ true → whole_length g parts bytes ≡ None
list_fits g parts bytes test is holds = rw (← is, holds) refl

-- it has high + 1 - low partitions
pub range_many : (low high : ℕ) → length (range_parts low high) ≡ high + 1 - low
range_many low high = length-range_with_len low (high + 1 - low)

-- of which the i-th is low + i
pub range_at : (low high i : ℕ) → i < high + 1 - low → low + i ≡ get_or (range_parts low high) i 0
range_at low high i inside = sym (get_or-range_with_len low (high + 1 - low) i 0 inside)

-- a range from low to high within the sender's partitions is one
inside_range : (g : Shape) (low high : ℕ) → low ≤ high → high < g.send_parts → (nat_lt high low || not (nat_lt high g.send_parts)) ≡ false
inside_range g low high some inside = rw (le-ltb high low some, lt-ltb high g.send_parts inside) refl

-- such a range whose bytes are as many as its partitions have isn't refused as a whole
pub range_fits : (g : Shape) (low high count : ℕ) (bytes : List ℕ) (test : Bool) → low ≤ high → high < g.send_parts → count ≡ high + 1 - low
    → test ≡ (length bytes == count * g.send_bytes) → test ≡ true → whole_range g low high (range_parts low high) bytes ≡ None
range_fits g low high count bytes test some inside is e holds =
    rw (inside_range g low high some inside)
    (list_fits g (range_parts low high) bytes test (e ∙ ap (λ n. length bytes == n * g.send_bytes) (is ∙ sym (range_many low high))) holds)

-- with another number of bytes it is, for their length
pub range_misfits : (g : Shape) (low high count : ℕ) (bytes : List ℕ) (test : Bool) → low ≤ high → high < g.send_parts → count ≡ high + 1 - low
    → test ≡ (length bytes == count * g.send_bytes) → test ≡ false → whole_range g low high (range_parts low high) bytes ≡ Some BadLength
range_misfits g low high count bytes test some inside is e fails =
    rw (inside_range g low high some inside, ← (e ∙ ap (λ n. length bytes == n * g.send_bytes) (is ∙ sym (range_many low high))), fails) refl
