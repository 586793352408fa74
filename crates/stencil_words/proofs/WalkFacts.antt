-- The steps of `clap`'s walk over words that have the two forms.
use Rattle.std.proofs.Common.{◌≡◌, ◌∙◌, Bool, true, false, List, [], ◌∷◌, map, Option, Some, None, refl, ap}
use Rattle.std.specs.Prelude.{option_map}
use Rattle.std.specs.List.{fold}
use Rattle.stencil_words.specs.Options.{◌>>=◌, Pair, Text, when}
use Rattle.clap.specs.Faults.{settle_fault, turn_fault, use_fault, walk_fault}
use Rattle.clap.specs.Kinds.{Kinds, or_else}
use Rattle.clap.specs.Walk.{Held, Row, Walk, idle, option, settled_rows, used, walked}
use Rattle.stencil_words.proofs.FormFacts.{IsJoined, IsPaired}
use Rattle.stencil_words.proofs.RowFacts.{known, shape, self-text, is_among, long-found, id-found, index-none, rows, is_nil, add, after_use, use-once}

-- ---- what waits to be used

abbrev pub as_pending : Option Pair → Option (Text × List Text)
as_pending = option_map (λ p. (p.0, p.1 ∷ []))

abbrev pub held : List Row → Option (Text × List Text) → Held
held rs pending = record { rows = rs; pending = pending; skip = 0 }

-- between two options
abbrev pub between : List Row → Option (Text × List Text) → Walk
between rs pending = record {
  held = held rs pending;
  waiting = idle;
  position = 1;
  is_trailing = false;
  stopped = None;
}

abbrev pub settles : List Text → Held → Option (List Row)
settles ns h = when (is_nil (settle_fault (map known ns) false h)) (settled_rows (map known ns) h.pending h.rows)

-- the options so far, with further ones
abbrev pub accepted : List Text → List Pair → List Pair → Option (List Pair)
accepted ns done [] = Some done
accepted ns done (p ∷ rest) = when (is_among ns p.0) done >>= λ d. add d p >>= λ more. accepted ns more rest

abbrev pub listed : Option Pair → List Pair
listed None = []
listed (Some p) = p ∷ []

abbrev pub is_known : List Text → Option Pair → Bool
is_known ns None = true
is_known ns (Some p) = is_among ns p.0

bind-some : {A : Type 0} (o : Option A) → o ≡ (o >>= λ x. Some x)
bind-some None = refl
bind-some (Some x) = refl

-- where the option that waits is known, or none waits, using it makes the rows of the options so far with it, if its
-- name is new
pub settles-is : (ns : List Text) (done : List Pair) (p : Option Pair) → is_known ns p ≡ true
    → settles ns (held (rows done) (as_pending p)) ≡ option_map rows (accepted ns done (listed p))
settles-is ns done None e = refl
settles-is ns done (Some p) e =
    rw (id-found ns p.0, e) (use-once done p.0 p.1 ∙ ap (option_map rows) (bind-some (add done p)))

-- ---- the walk

abbrev pub end_of : List Text → Walk → List Text → Held
end_of ns w words = (fold (walked (map known ns) []) w words).held

abbrev pub faults : List Text → Walk → List Text → Kinds
faults ns w words = or_else (walk_fault (shape ns) [] w words) (settle_fault (map known ns) false (end_of ns w words))

-- the rows after the words, where nothing is refused
abbrev pub outcome : List Text → Walk → List Text → Option (List Row)
outcome ns w words = when (is_nil (faults ns w words)) (settled_rows (map known ns) (end_of ns w words).pending (end_of ns w words).rows)

turn-by : {A : Type 0} (turn more last : Kinds) (x : A)
    → when (is_nil (or_else (or_else turn more) last)) x ≡ (when (is_nil turn) x >>= λ y. when (is_nil (or_else more last)) y)
turn-by [] more last x = refl
turn-by (k ∷ ks) more last x = refl

-- a word that is refused, and one that isn't
stops : (ns : List Text) (w : Walk) (word : Text) (rest : List Text) → is_nil (turn_fault (shape ns) [] w word) ≡ false
    → outcome ns w (word ∷ rest) ≡ None
unfolding walk_fault
stops ns w word rest e =
    turn-by (turn_fault (shape ns) [] w word) (walk_fault (shape ns) [] (walked (map known ns) [] w word) rest)
    (settle_fault (map known ns) false (end_of ns w (word ∷ rest)))
    (settled_rows (map known ns) (end_of ns w (word ∷ rest)).pending (end_of ns w (word ∷ rest)).rows)
    ∙ rw e refl

goes-on : (ns : List Text) (w after : Walk) (word : Text) (rest : List Text) → walked (map known ns) [] w word ≡ after
    → outcome ns w (word ∷ rest) ≡ (when (is_nil (turn_fault (shape ns) [] w word)) after >>= λ v. outcome ns v rest)
unfolding walk_fault
goes-on ns w after word rest e = rw (← e) (by (turn_fault (shape ns) [] w word))
  where
    next : Walk
    next = walked (map known ns) [] w word

    by : (turn : Kinds)
        → when (is_nil (or_else (or_else turn (walk_fault (shape ns) [] next rest)) (settle_fault (map known ns) false (end_of ns next rest))))
        (settled_rows (map known ns) (end_of ns next rest).pending (end_of ns next rest).rows)
        ≡ (when (is_nil turn) next >>= λ v. outcome ns v rest)
    by [] = refl
    by (k ∷ ks) = refl

react-by : {A B C : Type 0} (settle : Kinds) (uses : A → Kinds) (now : A) (u : A → A) (g : A → B) (f : B → Option C)
    → (when (is_nil (or_else (or_else settle (uses now)) [])) (g (u now)) >>= f)
    ≡ (when (is_nil settle) now >>= λ r. when (is_nil (uses r)) (u r) >>= λ x. f (g x))
react-by (k ∷ ks) uses now u g f = refl
react-by [] uses now u g f = by (uses now)
  where
    by : (ks : Kinds) → (when (is_nil (or_else ks [])) (g (u now)) >>= f) ≡ (when (is_nil ks) (u now) >>= λ x. f (g x))
    by [] = refl
    by (k ∷ ks) = refl

-- ---- the two forms

-- with an unknown name, `--NAME=VALUE` is refused
pub joined-unknown : (ns : List Text) (rs : List Row) (pending : Option (Text × List Text)) (word : Text) (p : Pair) (rest : List Text) → IsJoined word p
    → is_among ns p.0 ≡ false → outcome ns (between rs pending) (word ∷ rest) ≡ None
joined-unknown ns rs pending word p rest j e =
    stops ns (between rs pending) word rest (rw (j.dashes, j.long, long-found ns p.0, e) refl)

-- with a known name, `--NAME=VALUE` first lets the option that waits be used, then is used, and none waits behind it
pub joined-known : (ns : List Text) (rs : List Row) (pending : Option (Text × List Text)) (word : Text) (p : Pair) (rest : List Text) → IsJoined word p
    → is_among ns p.0 ≡ true → outcome ns (between rs pending) (word ∷ rest)
    ≡ (settles ns (held rs pending) >>= λ r. after_use r p.0 p.1 >>= λ u. outcome ns (between u None) rest)
unfolding walked
joined-known ns rs pending word p rest j e =
    goes-on ns (between rs pending)
    (between (used (known p.0) (p.1 ∷ []) (settled_rows (map known ns) pending rs)) None) word rest
    (rw (j.dashes, j.long, long-found ns p.0, e) refl)
    ∙ rw (j.dashes, j.long, long-found ns p.0, e)
    (react-by (settle_fault (map known ns) false (held rs pending)) (use_fault false (known p.0) (p.1 ∷ []))
    (settled_rows (map known ns) pending rs) (used (known p.0) (p.1 ∷ [])) (λ r. between r None) (λ w. outcome ns w rest))

-- with an unknown name, `--NAME VALUE` is refused
pub paired-unknown : (ns : List Text) (rs : List Row) (pending : Option (Text × List Text)) (word next : Text) (p : Pair) (rest : List Text) → IsPaired word next p
    → is_among ns p.0 ≡ false → outcome ns (between rs pending) (word ∷ rest) ≡ None
paired-unknown ns rs pending word next p rest j e =
    stops ns (between rs pending) word rest (rw (j.dashes, j.long, long-found ns p.0, e) refl)

-- behind `--NAME`
abbrev waiting_for : Text → List Row → Walk
waiting_for n rs = record {
  held = held rs (Some (n, []));
  waiting = option n;
  position = 1;
  is_trailing = false;
  stopped = None;
}

value-next : (ns : List Text) (rs : List Row) (word next : Text) (p : Pair) (rest : List Text) → IsPaired word next p → is_among ns p.0 ≡ true
    → outcome ns (waiting_for p.0 rs) (next ∷ rest) ≡ outcome ns (between rs (as_pending (Some p))) rest
unfolding walked
value-next ns rs word next p rest j e =
    goes-on ns (waiting_for p.0 rs) (between rs (as_pending (Some p))) next rest
    (rw (j.no_dashes, j.no_long, j.no_short, id-found ns p.0, e, self-text p.0, j.value) refl)
    ∙ rw (j.no_dashes, j.no_long, j.no_short) refl

-- with a known name, `--NAME VALUE` first lets the option that waits be used, and then waits itself
pub paired-known : (ns : List Text) (rs : List Row) (pending : Option (Text × List Text)) (word next : Text) (p : Pair) (rest : List Text) → IsPaired word next p
    → is_among ns p.0 ≡ true → outcome ns (between rs pending) (word ∷ next ∷ rest)
    ≡ (settles ns (held rs pending) >>= λ r. outcome ns (between r (as_pending (Some p))) rest)
unfolding walked
paired-known ns rs pending word next p rest j e =
    goes-on ns (between rs pending) (waiting_for p.0 (settled_rows (map known ns) pending rs)) word (next ∷ rest)
    (rw (j.dashes, j.long, long-found ns p.0, e) refl)
    ∙ rw (j.dashes, j.long, long-found ns p.0, e)
    (by (settle_fault (map known ns) false (held rs pending)) (settled_rows (map known ns) pending rs) (λ r. value-next ns r word next p rest j e))
  where
    by : (settle : Kinds) (now : List Row)
        → ((r : List Row) → outcome ns (waiting_for p.0 r) (next ∷ rest) ≡ outcome ns (between r (as_pending (Some p))) rest)
        → (when (is_nil (or_else settle [])) (waiting_for p.0 now) >>= λ w. outcome ns w (next ∷ rest))
        ≡ (when (is_nil settle) now >>= λ r. outcome ns (between r (as_pending (Some p))) rest)
    by [] now h = h now
    by (k ∷ ks) now h = refl

-- behind `--` no word is taken
pub dashes-refused : (ns : List Text) (rs : List Row) (pending : Option (Text × List Text)) (next : Text) (rest : List Text)
    → outcome ns (between rs pending) ((45 ∷ 45 ∷ []) ∷ next ∷ rest) ≡ None
unfolding walked
dashes-refused ns rs pending next rest =
    goes-on ns (between rs pending) (record (between rs pending) { is_trailing = true }) (45 ∷ 45 ∷ []) (next ∷ rest) refl
    ∙ stops ns (record (between rs pending) { is_trailing = true }) next rest (rw (index-none ns 1) refl)
