-- What a fault says of the line that it names.
use Rattle.std.proofs.Common.{◌≡◌, ◌≢◌, ℕ, suc, ◌+◌, ◌-◌, ◌<◌, ◌≤◌, true, false, List, [], ◌∷◌, length, drop, get_or, Some, None, Result, Ok, Err, bytes_eq, codes, if◌then◌else◌, refl, sym, ◌∙◌, subst, inl, inr, arith, tests}
use Rattle.std.proofs.lemmas.Bool.{cases_eq}
use Rattle.std.specs.Str.Lines.{strip_carriage_return}
use Rattle.text_words.specs.Lines.{parts_of, words_of, is_skipped, sentences_from, HasLine}
use Rattle.script_text.specs.Calls.{call_of}
use Rattle.script_text.specs.Script.{World, world_of, is_end, is_headed, after_end, with_call, calls_of, with_world, first_of, contents_of, script_of, IsFaultOf}
use Rattle.script_text.specs.declared.call.Call.{Call}
use Rattle.script_text.specs.declared.fault.ScriptFault.{ScriptFault}
use Rattle.script_text.specs.declared.fault.ScriptFault.TheVariants.{NoWorld, BadWorld, AfterEnd, BadLine, NoEnd, NoMemory}

-- the words of a line
abbrev pub said : List ℕ → List (List ℕ)
said line = words_of (strip_carriage_return line)

-- the words of line k of these, where the first has the number n
abbrev pub words_in : ℕ → List (List ℕ) → ℕ → List (List ℕ)
words_in n lines k = said (get_or lines (k - n) [])

-- one of them has the number k, and isn't skipped
pub record Has (n : ℕ) (lines : List (List ℕ)) (k : ℕ) : Type 0 where
  pub least : n ≤ k
  pub most : k < n + length lines
  pub read : is_skipped (words_in n lines k) ≡ false

words_here : (n : ℕ) (line : List ℕ) (rest : List (List ℕ)) → words_in n (line ∷ rest) n ≡ said line
words_here n line rest = let e : n - n ≡ 0 = omega arith in rw e refl

words_behind : (n : ℕ) (line : List ℕ) (rest : List (List ℕ)) (k : ℕ) → n + 1 ≤ k → words_in n (line ∷ rest) k ≡ words_in (n + 1) rest k
words_behind n line rest k above = let e : k - n ≡ suc (k - (n + 1)) = omega arith in rw e refl

has_here : (n : ℕ) (line : List ℕ) (rest : List (List ℕ)) → is_skipped (said line) ≡ false → Has n (line ∷ rest) n
has_here n line rest read = record { least = omega arith; most = omega arith; read = rw (words_here n line rest) read }

has_behind : (n : ℕ) (line : List ℕ) (rest : List (List ℕ)) (k : ℕ) → Has (n + 1) rest k → Has n (line ∷ rest) k
has_behind n line rest k has = let above : n + 1 ≤ k = has.least in let below : k < n + 1 + length rest = has.most in
    record { least = omega arith; most = omega arith; read = rw (words_behind n line rest k above) has.read }

-- what a fault says of these lines
abbrev pub Says : ℕ → List (List ℕ) → ScriptFault → Type 0
Says n lines (NoWorld k) = Has n lines k × (is_headed (words_in n lines k) ≡ false)
Says n lines (BadWorld k) = Has n lines k × (is_headed (words_in n lines k) ≡ true) × (world_of (drop 1 (words_in n lines k)) ≡ None)
Says n lines (AfterEnd k) = Has n lines k × (m : ℕ) × Has n lines m × (m < k) × (is_end (words_in n lines m) ≡ true)
Says n lines (BadLine k) = Has n lines k × (call_of (words_in n lines k) ≡ None)
Says n lines NoEnd = (k : ℕ) → Has n lines k → is_end (words_in n lines k) ≡ false
Says n lines NoMemory = Unit {0}

-- the line itself is no `end`, unless it is skipped
abbrev pub IsNoEnd : List ℕ → Type 0
IsNoEnd line = is_skipped (said line) ≡ false → is_end (said line) ≡ false

no_end_in : (n : ℕ) (line : List ℕ) (rest : List (List ℕ)) → IsNoEnd line → ((k : ℕ) → Has (n + 1) rest k → is_end (words_in (n + 1) rest k) ≡ false)
    → (k : ℕ) → Has n (line ∷ rest) k → is_end (words_in n (line ∷ rest) k) ≡ false
no_end_in n line rest here later k has =
    let least : n ≤ k = has.least in let most : k < n + length (line ∷ rest) = has.most in
    elim (cases_eq k n) as (λ w. is_end (words_in n (line ∷ rest) k) ≡ false) [
      | inl e ↦ let at : words_in n (line ∷ rest) k ≡ said line = rw (e, words_here n line rest) refl in rw at (here (rw at at has.read))
      | inr ne ↦ let above : n + 1 ≤ k = omega arith in let behind = words_behind n line rest k above in
          rw behind (later k record { least = above; most = omega arith; read = rw behind at has.read })
    ]

says_behind : (n : ℕ) (line : List ℕ) (rest : List (List ℕ)) (f : ScriptFault) → IsNoEnd line → Says (n + 1) rest f → Says n (line ∷ rest) f
says_behind n line rest (NoWorld k) here s =
    let above : n + 1 ≤ k = s.0.least in (has_behind n line rest k s.0, rw (words_behind n line rest k above) s.1)
says_behind n line rest (BadWorld k) here s =
    let above : n + 1 ≤ k = s.0.least in
    (has_behind n line rest k s.0, rw (words_behind n line rest k above) s.1, rw (words_behind n line rest k above) s.2)
says_behind n line rest (AfterEnd k) here s =
    let above : n + 1 ≤ s.1 = s.2.least in
    (has_behind n line rest k s.0, s.1, has_behind n line rest s.1 s.2, s.3, rw (words_behind n line rest s.1 above) s.4)
says_behind n line rest (BadLine k) here s =
    let above : n + 1 ≤ k = s.0.least in (has_behind n line rest k s.0, rw (words_behind n line rest k above) s.1)
says_behind n line rest NoEnd here s = no_end_in n line rest here s
says_behind n line rest NoMemory here s = tt

skipped_no_end : (words : List (List ℕ)) → is_skipped words ≡ true → is_skipped words ≡ false → is_end words ≡ false
skipped_no_end words skipped read = absurd (cc)

no_lines : (n : ℕ) → Says n [] NoEnd
no_lines n k has = let least : n ≤ k = has.least in let most : k < n + length {A = List ℕ} [] = has.most in absurd (omega arith)

-- the first line that isn't skipped, where something is to stand behind `end`
record First (n : ℕ) (lines : List (List ℕ)) (f : ScriptFault) : Type 0 where
  at : ℕ
  is : AfterEnd at ≡ f
  has : Has n lines at

first_behind : (n : ℕ) (line : List ℕ) (rest : List (List ℕ)) (f : ScriptFault) → First (n + 1) rest f → First n (line ∷ rest) f
first_behind n line rest f first = record { at = first.at; is = first.is; has = has_behind n line rest first.at first.has }

first_is : (n : ℕ) (lines : List (List ℕ)) (f : ScriptFault) → after_end (sentences_from n lines) ≡ Err f → First n lines f
first_is n [] f is = absurd (cc)
first_is n (line ∷ rest) f is =
    elim (is_skipped (said line)) as (λ v. is_skipped (said line) ≡ v
    → after_end (if v then sentences_from (n + 1) rest else record { number = n; words = said line } ∷ sentences_from (n + 1) rest) ≡ Err f
    → First n (line ∷ rest) f) [
      | true ↦ λ skipped tells. first_behind n line rest f (first_is (n + 1) rest f tells)
      | false ↦ λ read tells. record { at = n; is = cc; has = has_here n line rest read }
    ] refl is

end_says : (n : ℕ) (line : List ℕ) (rest : List (List ℕ)) (f : ScriptFault) → is_skipped (said line) ≡ false → is_end (said line) ≡ true
    → First (n + 1) rest f → Says n (line ∷ rest) f
end_says n line rest f read ends first =
    let least : n + 1 ≤ first.at = first.has.least in
    subst (Says n (line ∷ rest)) first.is
    (has_behind n line rest first.at first.has, n, has_here n line rest read, omega arith, rw (words_here n line rest) ends)

with_some : (n : ℕ) (call : Call) (others : Result (List Call) ScriptFault) (f : ScriptFault) → with_call n (Some call) others ≡ Err f → others ≡ Err f
with_some n call (Ok calls) f is = absurd (cc)
with_some n call (Err g) f is = is

bad_line : (n : ℕ) (line : List ℕ) (rest : List (List ℕ)) (f : ScriptFault) → is_skipped (said line) ≡ false → call_of (said line) ≡ None
    → BadLine n ≡ f → Says n (line ∷ rest) f
bad_line n line rest f read none is = subst (Says n (line ∷ rest)) is (has_here n line rest read, rw (words_here n line rest) none)

call_says : (n : ℕ) (line : List ℕ) (rest : List (List ℕ)) (f : ScriptFault) → is_skipped (said line) ≡ false → is_end (said line) ≡ false
    → with_call n (call_of (said line)) (calls_of (sentences_from (n + 1) rest)) ≡ Err f
    → (calls_of (sentences_from (n + 1) rest) ≡ Err f → Says (n + 1) rest f) → Says n (line ∷ rest) f
call_says n line rest f read no_end is later =
    elim (call_of (said line)) as (λ v. call_of (said line) ≡ v → with_call n v (calls_of (sentences_from (n + 1) rest)) ≡ Err f → Says n (line ∷ rest) f) [
      | None ↦ λ none tells. bad_line n line rest f read none (cc)
      | Some call ↦ λ some tells. says_behind n line rest f (λ r. no_end) (later (with_some n call _ f tells))
    ] refl is

calls_say : (n : ℕ) (lines : List (List ℕ)) (f : ScriptFault) → calls_of (sentences_from n lines) ≡ Err f → Says n lines f
calls_say n [] f is = let e : NoEnd ≡ f = cc in subst (Says n []) e (no_lines n)
calls_say n (line ∷ rest) f is =
    elim (is_skipped (said line)) as (λ v. is_skipped (said line) ≡ v
    → calls_of (if v then sentences_from (n + 1) rest else record { number = n; words = said line } ∷ sentences_from (n + 1) rest) ≡ Err f
    → Says n (line ∷ rest) f) [
      | true ↦ λ skipped tells. says_behind n line rest f (skipped_no_end (said line) skipped) (calls_say (n + 1) rest f tells)
      | false ↦ λ read tells. elim (is_end (said line)) as (λ v. is_end (said line) ≡ v
          → (if v then after_end (sentences_from (n + 1) rest) else with_call n (call_of (said line)) (calls_of (sentences_from (n + 1) rest))) ≡ Err f
          → Says n (line ∷ rest) f) [
            | true ↦ λ ends after. end_says n line rest f read ends (first_is (n + 1) rest f after)
            | false ↦ λ no_end calls. call_says n line rest f read no_end calls (calls_say (n + 1) rest f)
          ] refl tells
    ] refl is

with_world_some : (n : ℕ) (world : World) (calls : Result (List Call) ScriptFault) (f : ScriptFault) → with_world n (Some world) calls ≡ Err f → calls ≡ Err f
with_world_some n world (Ok calls) f is = absurd (cc)
with_world_some n world (Err g) f is = cc

no_world : (n : ℕ) (line : List ℕ) (rest : List (List ℕ)) (f : ScriptFault) → is_skipped (said line) ≡ false → is_headed (said line) ≡ false
    → NoWorld n ≡ f → Says n (line ∷ rest) f
no_world n line rest f read not_headed is =
    subst (Says n (line ∷ rest)) is (has_here n line rest read, rw (words_here n line rest) not_headed)

bad_world : (n : ℕ) (line : List ℕ) (rest : List (List ℕ)) (f : ScriptFault) → is_skipped (said line) ≡ false → is_headed (said line) ≡ true
    → world_of (drop 1 (said line)) ≡ None → BadWorld n ≡ f → Says n (line ∷ rest) f
bad_world n line rest f read headed none is =
    subst (Says n (line ∷ rest)) is (has_here n line rest read, rw (words_here n line rest) headed, rw (words_here n line rest) none)

-- `world` is no `end`
other_word : (word : List ℕ) → bytes_eq word (codes "world") ≡ true → bytes_eq word (codes "end") ≡ false
other_word [] is = refl
other_word (c ∷ rest) is = grind (arith, tests)

headed_no_end : (words : List (List ℕ)) → is_headed words ≡ true → is_end words ≡ false
headed_no_end [] headed = refl
headed_no_end (word ∷ []) headed = other_word word headed
headed_no_end (word ∷ next ∷ rest) headed = refl

world_says : (n : ℕ) (line : List ℕ) (rest : List (List ℕ)) (f : ScriptFault) → is_skipped (said line) ≡ false → is_headed (said line) ≡ true
    → with_world n (world_of (drop 1 (said line))) (calls_of (sentences_from (n + 1) rest)) ≡ Err f → Says n (line ∷ rest) f
world_says n line rest f read headed is =
    elim (world_of (drop 1 (said line))) as (λ v. world_of (drop 1 (said line)) ≡ v → with_world n v (calls_of (sentences_from (n + 1) rest)) ≡ Err f → Says n (line ∷ rest) f) [
      | None ↦ λ none tells. bad_world n line rest f read headed none (cc)
      | Some world ↦ λ some tells. says_behind n line rest f (λ r. headed_no_end (said line) headed)
          (calls_say (n + 1) rest f (with_world_some n world _ f tells))
    ] refl is

-- the first line, by whether it begins with `world`
first_by : (n : ℕ) (words : List (List ℕ)) (calls : Result (List Call) ScriptFault)
    → first_of n words calls ≡ (if is_headed words then with_world n (world_of (drop 1 words)) calls else Err (NoWorld n))
first_by n [] calls = refl
first_by n (word ∷ words) calls = refl

line_says : (n : ℕ) (line : List ℕ) (rest : List (List ℕ)) (f : ScriptFault) → is_skipped (said line) ≡ false
    → first_of n (said line) (calls_of (sentences_from (n + 1) rest)) ≡ Err f → Says n (line ∷ rest) f
line_says n line rest f read is =
    elim (is_headed (said line)) as (λ v. is_headed (said line) ≡ v
    → (if v then with_world n (world_of (drop 1 (said line))) (calls_of (sentences_from (n + 1) rest)) else Err (NoWorld n)) ≡ Err f
    → Says n (line ∷ rest) f) [
      | true ↦ λ headed tells. world_says n line rest f read headed tells
      | false ↦ λ not_headed tells. no_world n line rest f read not_headed (cc)
    ] refl (sym (first_by n (said line) (calls_of (sentences_from (n + 1) rest))) ∙ is)

contents_say : (n : ℕ) (lines : List (List ℕ)) (f : ScriptFault) → contents_of (sentences_from n lines) ≡ Err f → Says n lines f
contents_say n [] f is = let e : NoEnd ≡ f = cc in subst (Says n []) e (no_lines n)
contents_say n (line ∷ rest) f is =
    elim (is_skipped (said line)) as (λ v. is_skipped (said line) ≡ v
    → contents_of (if v then sentences_from (n + 1) rest else record { number = n; words = said line } ∷ sentences_from (n + 1) rest) ≡ Err f
    → Says n (line ∷ rest) f) [
      | true ↦ λ skipped tells. says_behind n line rest f (skipped_no_end (said line) skipped) (contents_say (n + 1) rest f tells)
      | false ↦ λ read tells. line_says n line rest f read tells
    ] refl is

has_line : (text : List ℕ) (k : ℕ) → Has 1 (parts_of text) k → HasLine text k
has_line text k has = let most : k < 1 + length (parts_of text) = has.most in
    record { least = has.least; most = omega arith; read = has.read }

line_has : (text : List ℕ) (k : ℕ) → HasLine text k → Has 1 (parts_of text) k
line_has text k has = let most : k ≤ length (parts_of text) = has.most in
    record { least = has.least; most = omega arith; read = has.read }

tells : (text : List ℕ) (f : ScriptFault) → Says 1 (parts_of text) f → IsFaultOf text f
tells text (NoWorld k) s = (has_line text k s.0, s.1)
tells text (BadWorld k) s = (has_line text k s.0, s.1, s.2)
tells text (AfterEnd k) s = (has_line text k s.0, s.1, has_line text s.1 s.2, s.3, s.4)
tells text (BadLine k) s = (has_line text k s.0, s.1)
tells text NoEnd s = λ k has. s k (line_has text k has)
tells text NoMemory s = tt

-- the first fault of a text is one of the line that it names
pub fault_says : (text : List ℕ) (f : ScriptFault) → script_of text ≡ Err f → IsFaultOf text f
fault_says text f is = tells text f (contents_say 1 (parts_of text) f is)

-- the same where the fault is told unless memory ran out
pub answer_says : (text : List ℕ) (f : ScriptFault) → (f ≢ NoMemory → script_of text ≡ Err f) → IsFaultOf text f
answer_says text (NoWorld k) told = fault_says text (NoWorld k) (told (λ e. cc))
answer_says text (BadWorld k) told = fault_says text (BadWorld k) (told (λ e. cc))
answer_says text (AfterEnd k) told = fault_says text (AfterEnd k) (told (λ e. cc))
answer_says text (BadLine k) told = fault_says text (BadLine k) (told (λ e. cc))
answer_says text NoEnd told = fault_says text NoEnd (told (λ e. cc))
answer_says text NoMemory told = tt
