-- What `clap` makes of all words, where they have the two forms.
use Rattle.std.proofs.Common.{◌≡◌, ◌∙◌, Bool, true, false, not, ◌&&◌, ◌||◌, cond, List, [], ◌∷◌, ◌++◌, map, Option, Some, None, refl, sym, ap, ap₂, ◌⊎◌, inl, inr, append-nil, append_assoc}
use Rattle.std.specs.Prelude.{bytes_eq, is_some, drop, option_map}
use Rattle.std.specs.List.{fold, list_any, list_all}
use Rattle.std.proofs.lemmas.List.Folds.{list_any-append}
use Rattle.stencil_words.specs.Options.{or_else as or_other, ◌>>=◌, Pair, Text, are_sound, before, has, is_name, joined, names, options_of, paired, value, when}
use Rattle.stencil_words.specs.Command.{stencil_app}
use Rattle.clap.specs.Faults.{defaults_fault, entered_fault, fault_of, given_default_fault, level_fault, walk_fault}
use Rattle.clap.specs.Kinds.{Kinds, or_else}
use Rattle.clap.specs.Simple.{built, entered, matches_of}
use Rattle.clap.specs.Takes.{is_given}
use Rattle.clap.specs.Walk.{finished, first_of, nothing_held, walk, with_default, Row, has_row, settled_rows}
use Rattle.stencil_words.proofs.FormFacts.{IsJoined, IsPaired, joined-is, paired-is}
use Rattle.stencil_words.proofs.RowFacts.{known, shape, swap-text, is_among, rows, is_nil, add, after_use, use-once, row-value}
use Rattle.stencil_words.proofs.WalkFacts.{as_pending, between, accepted, listed, is_known, settles-is, end_of, faults, outcome, joined-unknown, joined-known, paired-unknown, paired-known, dashes-refused}

-- ---- options so far

accepted-more : (ns : List Text) (done : List Pair) (p : Option Pair) (rest : List Pair)
    → accepted ns done (listed p ++ rest) ≡ (accepted ns done (listed p) >>= λ d. accepted ns d rest)
accepted-more ns done None rest = refl
accepted-more ns done (Some p) rest = by (when (is_among ns p.0) done)
  where
    next : (o : Option (List Pair)) → (o >>= λ more. accepted ns more rest) ≡ ((o >>= λ more. Some more) >>= λ d. accepted ns d rest)
    next None = refl
    next (Some x) = refl

    by : (o : Option (List Pair)) → (o >>= λ d. add d p >>= λ more. accepted ns more rest)
        ≡ ((o >>= λ d. add d p >>= λ more. Some more) >>= λ d. accepted ns d rest)
    by None = refl
    by (Some d) = next (add d p)

-- ---- all words

-- no word is left
main-none : (ns : List Text) (done : List Pair) (p : Option Pair) → is_known ns p ≡ true
    → outcome ns (between (rows done) (as_pending p)) [] ≡ option_map rows (accepted ns done (listed p ++ []))
unfolding walk_fault
main-none ns done p k = settles-is ns done p k ∙ ap (λ l. option_map rows (accepted ns done l)) (sym (append-nil (listed p)))

-- a name that isn't known
refused-name : (ns : List Text) (done : List Pair) (p : Option Pair) (q : Pair) (more : List Pair) → is_among ns q.0 ≡ false
    → None ≡ option_map rows (accepted ns done (listed p ++ q ∷ more))
refused-name ns done p q more e = rw (accepted-more ns done p (q ∷ more), e) (by (accepted ns done (listed p)))
  where
    by : (o : Option (List Pair)) → None ≡ option_map rows (o >>= λ d. when false d >>= λ d2. add d2 q >>= λ d3. accepted ns d3 more)
    by None = refl
    by (Some d) = refl

-- one more option
joined-next : (ns : List Text) (done : List Pair) (p : Option Pair) (word : Text) (q : Pair) (rest : List Text) (more : List Pair) → is_known ns p ≡ true → IsJoined word q
    → ((now : List Pair) → outcome ns (between (rows now) None) rest ≡ option_map rows (accepted ns now more))
    → outcome ns (between (rows done) (as_pending p)) (word ∷ rest) ≡ option_map rows (accepted ns done (listed p ++ q ∷ more))
joined-next ns done p word q rest more k j h = by (is_among ns q.0) refl
  where
    each : (o : Option (List Pair))
        → (option_map rows o >>= λ u. outcome ns (between u None) rest) ≡ option_map rows (o >>= λ now. accepted ns now more)
    each None = refl
    each (Some now) = h now

    all : (o : Option (List Pair))
        → (option_map rows o >>= λ r. after_use r q.0 q.1 >>= λ u. outcome ns (between u None) rest)
        ≡ option_map rows (o >>= λ d. add d q >>= λ now. accepted ns now more)
    all None = refl
    all (Some d) = ap (λ o. o >>= λ u. outcome ns (between u None) rest) (use-once d q.0 q.1) ∙ each (add d q)

    by : (b : Bool) → is_among ns q.0 ≡ b
        → outcome ns (between (rows done) (as_pending p)) (word ∷ rest) ≡ option_map rows (accepted ns done (listed p ++ q ∷ more))
    by false e =
        joined-unknown ns (rows done) (as_pending p) word q rest j e
        ∙ refused-name ns done p q more e
    by true e =
        joined-known ns (rows done) (as_pending p) word q rest j e
        ∙ ap (λ o. o >>= λ r. after_use r q.0 q.1 >>= λ u. outcome ns (between u None) rest) (settles-is ns done p k)
        ∙ rw (accepted-more ns done p (q ∷ more), e) (all (accepted ns done (listed p)))

paired-next : (ns : List Text) (done : List Pair) (p : Option Pair) (word next : Text) (q : Pair) (rest : List Text) (more : List Pair) → is_known ns p ≡ true
    → IsPaired word next q
    → (is_among ns q.0 ≡ true → (now : List Pair) → outcome ns (between (rows now) (as_pending (Some q))) rest ≡ option_map rows (accepted ns now (q ∷ more)))
    → outcome ns (between (rows done) (as_pending p)) (word ∷ next ∷ rest) ≡ option_map rows (accepted ns done (listed p ++ q ∷ more))
paired-next ns done p word next q rest more k j h = by (is_among ns q.0) refl
  where
    all : ((now : List Pair) → outcome ns (between (rows now) (as_pending (Some q))) rest ≡ option_map rows (accepted ns now (q ∷ more))) → (o : Option (List Pair))
        → (option_map rows o >>= λ r. outcome ns (between r (as_pending (Some q))) rest) ≡ option_map rows (o >>= λ d. accepted ns d (q ∷ more))
    all g None = refl
    all g (Some d) = g d

    by : (b : Bool) → is_among ns q.0 ≡ b
        → outcome ns (between (rows done) (as_pending p)) (word ∷ next ∷ rest) ≡ option_map rows (accepted ns done (listed p ++ q ∷ more))
    by false e =
        paired-unknown ns (rows done) (as_pending p) word next q (next ∷ rest) j e
        ∙ refused-name ns done p q more e
    by true e =
        paired-known ns (rows done) (as_pending p) word next q rest j e
        ∙ ap (λ o. o >>= λ r. outcome ns (between r (as_pending (Some q))) rest) (settles-is ns done p k)
        ∙ all (h e) (accepted ns done (listed p)) ∙ ap (option_map rows) (sym (accepted-more ns done p (q ∷ more)))

before-is : (q : Pair) (o : Option (List Pair)) (options : List Pair) → before q o ≡ Some options
    → (more : List Pair) × (o ≡ Some more) × (options ≡ q ∷ more)
before-is q None options e = cc e
before-is q (Some more) options e = let same : q ∷ more ≡ options = cc in (more, refl, sym same)

outcome-is : (ns : List Text) (done : List Pair) (p : Option Pair) (words : List Text) (options : List Pair) → is_among ns [] ≡ false → is_known ns p ≡ true
    → options_of words ≡ Some options
    → outcome ns (between (rows done) (as_pending p)) words ≡ option_map rows (accepted ns done (listed p ++ options))
unfolding options_of
outcome-is ns done p [] options n k e = let same : [] ≡ options = cc in rw (← same) (main-none ns done p k)
outcome-is ns done p (word ∷ []) options n k e = by (joined word) refl e (λ now. outcome-is ns now None [] [] n refl refl)
  where
    by : (o : Option Pair) → joined word ≡ o → or_other o (Some []) None ≡ Some options
        → ((now : List Pair) → outcome ns (between (rows now) None) [] ≡ option_map rows (accepted ns now []))
        → outcome ns (between (rows done) (as_pending p)) (word ∷ []) ≡ option_map rows (accepted ns done (listed p ++ options))
    by None f g h = cc g
    by (Some q) f g h =
        let same : q ∷ [] ≡ options = cc in
        rw (← same) (joined-next ns done p word q [] [] k (joined-is word q f) h)
outcome-is ns done p (word ∷ next ∷ rest) options n k e =
    by (joined word) refl (paired word next) refl e (λ now more. outcome-is ns now None (next ∷ rest) more n refl)
    (λ now q more. outcome-is ns now (Some q) rest more n)
  where
    Goal : Type 0
    Goal = outcome ns (between (rows done) (as_pending p)) (word ∷ next ∷ rest) ≡ option_map rows (accepted ns done (listed p ++ options))

    two : (q : Pair) (more : List Pair) → options ≡ q ∷ more → ((word ≡ 45 ∷ 45 ∷ []) × (q.0 ≡ [])) ⊎ IsPaired word next q
        → ((now : List Pair) → is_among ns q.0 ≡ true → outcome ns (between (rows now) (as_pending (Some q))) rest ≡ option_map rows (accepted ns now (q ∷ more)))
        → Goal
    two q more o (inl w) h =
        rw (o, w.0) (dashes-refused ns (rows done) (as_pending p) next rest ∙ refused-name ns done p q more (ap (is_among ns) w.1 ∙ n))
    two q more o (inr j) h = rw o (paired-next ns done p word next q rest more k j (λ a now. h now a))

    by : (o : Option Pair) → joined word ≡ o → (o2 : Option Pair) → paired word next ≡ o2
        → or_other o (options_of (next ∷ rest)) (or_other o2 (options_of rest) None) ≡ Some options
        → ((now more : List Pair) → options_of (next ∷ rest) ≡ Some more
        → outcome ns (between (rows now) None) (next ∷ rest) ≡ option_map rows (accepted ns now more))
        → ((now : List Pair) (q : Pair) (more : List Pair) → is_among ns q.0 ≡ true → options_of rest ≡ Some more
        → outcome ns (between (rows now) (as_pending (Some q))) rest ≡ option_map rows (accepted ns now (q ∷ more)))
        → Goal
    by (Some q) f o2 f2 g h1 h2 =
        let b = before-is q (options_of (next ∷ rest)) options g in
        rw b.2 (joined-next ns done p word q (next ∷ rest) b.0 k (joined-is word q f) (λ now. h1 now b.0 b.1))
    by None f (Some q) f2 g h1 h2 =
        let b = before-is q (options_of rest) options g in
        two q b.0 b.2 (paired-is word next q f2) (λ now a. h2 now q b.0 a b.1)
    by None f None f2 g h1 h2 = cc g

-- ---- the options of the definition

-- each of the later names is new
abbrev apart : List Pair → List Pair → Bool
apart done options = list_all (λ q. not (has q.0 done)) options

apart-none : (options : List Pair) → apart [] options ≡ true
apart-none [] = refl
apart-none (q ∷ rest) = apart-none rest

apart-more : (done : List Pair) (p : Pair) (options : List Pair) → apart (done ++ p ∷ []) options ≡ (apart done options && not (has p.0 options))
apart-more done p [] = refl
apart-more done p (q ∷ rest) =
    rw (list_any-append (λ x. bytes_eq x.0 q.0) done (p ∷ []), apart-more done p rest, swap-text p.0 q.0)
    (by (has q.0 done) (bytes_eq q.0 p.0) (apart done rest) (has p.0 rest))
  where
    by : (a b c d : Bool) → (not (a || (b || false)) && (c && not d)) ≡ ((not a && c) && not (b || d))
    by true b c d = refl
    by false true true d = refl
    by false true false d = refl
    by false false c d = refl

accepted-is : (ns : List Text) → ((n : Text) → is_among ns n ≡ is_name n) → (done options : List Pair)
    → accepted ns done options ≡ when (are_sound options && apart done options) (done ++ options)
accepted-is ns named done [] = ap Some (sym (append-nil done))
accepted-is ns named done (p ∷ rest) =
    rw (named p.0) (known-first (is_name p.0) (new-first (has p.0 done)
    (accepted-is ns named (done ++ p ∷ []) rest
    ∙ ap₂ (λ (b : Bool) (l : List Pair). when (are_sound rest && b) l) (apart-more done p rest) (append_assoc done (p ∷ []) rest))))
  where
    off : (c s : Bool) → None ≡ when ((not c && s) && false) (done ++ p ∷ rest)
    off true s = refl
    off false true = refl
    off false false = refl

    on : (c s d : Bool) → when (s && (d && not c)) (done ++ p ∷ rest) ≡ when ((not c && s) && d) (done ++ p ∷ rest)
    on true true true = refl
    on true true false = refl
    on true false d = refl
    on false true true = refl
    on false true false = refl
    on false false d = refl

    new-first : (b : Bool)
        → accepted ns (done ++ p ∷ []) rest ≡ when (are_sound rest && (apart done rest && not (has p.0 rest))) (done ++ p ∷ rest)
        → (when (not b) (done ++ p ∷ []) >>= λ more. accepted ns more rest)
        ≡ when ((not (has p.0 rest) && are_sound rest) && (not b && apart done rest)) (done ++ p ∷ rest)
    new-first true h = off (has p.0 rest) (are_sound rest)
    new-first false h = h ∙ on (has p.0 rest) (are_sound rest) (apart done rest)

    known-first : (a : Bool)
        → (add done p >>= λ more. accepted ns more rest)
        ≡ when ((not (has p.0 rest) && are_sound rest) && (not (has p.0 done) && apart done rest)) (done ++ p ∷ rest)
        → (when a done >>= λ d. add d p >>= λ more. accepted ns more rest)
        ≡ when ((a && not (has p.0 rest) && are_sound rest) && (not (has p.0 done) && apart done rest)) (done ++ p ∷ rest)
    known-first false h = refl
    known-first true h = h

names-are : (n : Text) → is_among names n ≡ is_name n
names-are n = refl

-- ---- after the walk

no-defaults : (rs : List Row) (ns : List Text) → fold with_default rs (map known ns) ≡ rs
no-defaults rs [] = refl
no-defaults rs (n ∷ ns) = by (has_row n rs) (no-defaults rs ns)
  where
    by : (b : Bool) → fold with_default rs (map known ns) ≡ rs → fold with_default (cond b rs rs) (map known ns) ≡ rs
    by true h = h
    by false h = h

no-faults : (rs : List Row) (ns : List Text) → defaults_fault rs (map known ns) ≡ []
unfolding defaults_fault
no-faults rs [] = refl
no-faults rs (n ∷ ns) = by (has_row n rs) (no-faults rs ns)
  where
    by : (b : Bool) → defaults_fault rs (map known ns) ≡ []
        → or_else (cond (b || true) [] (given_default_fault (known n) [])) (defaults_fault (cond b rs rs) (map known ns)) ≡ []
    by true h = h
    by false h = h

none-required : (rs : List Row) (ns : List Text) → list_any (λ a. a.required && not (is_given a.id rs)) (map known ns) ≡ false
none-required rs [] = refl
none-required rs (n ∷ ns) = none-required rs ns

or-else-nil : (ks : Kinds) → or_else ks [] ≡ ks
or-else-nil [] = refl
or-else-nil (k ∷ ks) = refl

level-is : (ns words : List Text) → level_fault (shape ns) [] nothing_held words false [] ≡ faults ns (between [] None) words
level-is ns words =
    let end = end_of ns (between [] None) words in
    let rs = settled_rows (map known ns) end.pending end.rows in
    rw (no-faults rs ns, none-required (finished (map known ns) end) ns, or-else-nil) refl

faults-are : (words : List Text) → fault_of stencil_app words ≡ faults names (between [] None) (drop 1 words)
faults-are words = by (walk (map known names) [] nothing_held (drop 1 words)).stopped ∙ level-is names (drop 1 words)
  where
    by : (stop : Option (Text × List Text))
        → level_fault (shape names) [] nothing_held (drop 1 words) (is_some (entered (built stencil_app) stop)) (entered_fault (built stencil_app) stop)
        ≡ level_fault (shape names) [] nothing_held (drop 1 words) false []
    by None = refl
    by (Some p) = refl

rows-are : (words : List Text) → matches_of stencil_app words
    ≡ settled_rows (map known names) (end_of names (between [] None) (drop 1 words)).pending (end_of names (between [] None) (drop 1 words)).rows
rows-are words = no-defaults _ names

-- what `clap` answers to words of the two forms
pub record Takes (words : List Text) (options : List Pair) : Type 0 where
  -- it finds no fault
  pub faultless : fault_of stencil_app words ≡ []
  -- the options are sound
  pub sound : are_sound options ≡ true
  -- its matches have their values
  pub values : (n : Text) → first_of n (matches_of stencil_app words) ≡ value options n

pub record Refuses (words : List Text) (options : List Pair) : Type 0 where
  -- it finds a fault
  pub faulty : fault_of stencil_app words ≡ [] → ⊥
  -- the options aren't sound
  pub unsound : are_sound options ≡ false

-- `clap` takes words of the two forms, with sound options, or refuses them, with options that aren't sound
pub reads : (words : List Text) (options : List Pair) → options_of (drop 1 words) ≡ Some options → Takes words options ⊎ Refuses words options
reads words options e =
    let all : when (is_nil (faults names (between [] None) (drop 1 words))) (matches_of stencil_app words) ≡ option_map rows (when (are_sound options) options) =
    ap (when (is_nil (faults names (between [] None) (drop 1 words)))) (rows-are words)
    ∙ outcome-is names [] None (drop 1 words) options refl refl e
    ∙ ap (option_map rows) (accepted-is names names-are [] options ∙ (rw (apart-none options) (by (are_sound options)))) in
    from (fault_of stencil_app words) refl (are_sound options) refl (ap (λ ks. when (is_nil ks) (matches_of stencil_app words)) (faults-are words) ∙ all)
  where
    by : (b : Bool) → when (b && true) options ≡ when b options
    by true = refl
    by false = refl

    from : (ks : Kinds) → fault_of stencil_app words ≡ ks → (b : Bool) → are_sound options ≡ b
        → when (is_nil ks) (matches_of stencil_app words) ≡ option_map rows (when b options) → Takes words options ⊎ Refuses words options
    from [] f true t e =
        let same : matches_of stencil_app words ≡ rows options = cc in
        inl record { faultless = f; sound = t; values = λ n. ap (first_of n) same ∙ row-value options n }
    from [] f false t e = cc e
    from (k ∷ ks) f true t e = cc e
    from (k ∷ ks) f false t e = inr record { faulty = λ none. cc; unsound = t }
