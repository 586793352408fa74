-- A mark is refused by what is kept exactly as by the record: the four causes are tried in one order, and each test
-- says the same by both.
use Rattle.std.proofs.Common.{◌≡◌, ℕ, ◌-◌, ◌<◌, ◌==◌, nat_lt, true, ◌&&◌, Ok, Err, Result, List, length, refl, ap, sym, ◌∙◌, inl, inr}
use Rattle.std.proofs.lemmas.Bool.{cases_Bool, eqb-true, ltb-true, and_parts}
use Rattle.part_geometry.specs.declared.answers.Marked.{Marked}
use Rattle.part_geometry.specs.Shape.{Shape}
use Rattle.plain_pair.specs.declared.answers.PlainRefusal.{PlainRefusal}
use Rattle.plain_pair.specs.Record.{Record, send_round, round_of, is_marked, pieces_out}
use Rattle.plain_pair.specs.Moves.{marked, pready_answer, after_pready}
use Rattle.plain_pair.specs.Kept.{Kept, has}
use Rattle.plain_pair.specs.Sound.{IsSound}
use Rattle.plain_pair.specs.Marking.{refusal, record_refusal, Marks}
use Rattle.plain_pair.specs.StandsFor.{StandsFor, Follows}
use Rattle.plain_pair.proofs.Agree.{marks_now}

-- the last test of both
last_test : (k : Kept) (missing : List ℕ) (r : Record) (round p : ℕ) → IsSound k missing → StandsFor k r → p < k.shape.send_parts → k.sending ≡ true → round ≡ k.sent
    → has k.marked p ≡ is_marked (round_of r round) p
last_test k missing r round p s st inside active here =
    marks_now k missing r s st (s.rounds.begun active) p inside ∙ ap (λ n. is_marked (round_of r n) p) (sym here)

-- the first cause against a mark is the same by what is kept and by the record
pub same_refusal : (k : Kept) (missing : List ℕ) (r : Record) (round p size : ℕ) → IsSound k missing → StandsFor k r → refusal k round p size ≡ record_refusal k.shape r round p size
same_refusal k missing r round p size s st =
    let sending = st.sending in let sent = st.sent in
    let test : (k.sending && (round == k.sent)) ≡ (r.sending && (round == send_round r)) = ap (λ b. b && (round == k.sent)) sending ∙ ap (λ n. r.sending && (round == n)) sent in
    elim (cases_Bool (nat_lt p k.shape.send_parts)) [
      | inr outside ↦ rw outside refl
      | inl inside ↦ elim (cases_Bool (k.sending && (round == k.sent))) [
        | inr idle ↦ rw (← test, idle) refl
        | inl active ↦
            let h = and_parts k.sending (round == k.sent) active in
            let e = last_test k missing r round p s st (ltb-true _ _ inside) h.0 (eqb-true _ _ h.1) in
            rw (← test, e) refl
      ]
    ]

-- what a mark answers, by its refusal
abbrev pub answer_by : Result (Unit {0}) PlainRefusal → Marked → Result Marked PlainRefusal
answer_by (Ok u) m = Ok m
answer_by (Err e) m = Err e

-- a mark answers the first cause against it, or where there is none how many pieces it sent out
pub pready_by : (g : Shape) (r : Record) (k p : ℕ) (bytes : List ℕ)
    → pready_answer g r k p bytes ≡ answer_by (record_refusal g r k p (length bytes)) record { round = k; partition = p; sent = pieces_out g (marked r p bytes) - pieces_out g r }
pready_by g r k p bytes =
    elim (cases_Bool (nat_lt p g.send_parts)) [
      | inr a ↦ rw a refl
      | inl a ↦ elim (cases_Bool (length bytes == g.send_bytes)) [
        | inr b ↦ rw (a, b) refl
        | inl b ↦ elim (cases_Bool (r.sending && (k == send_round r))) [
          | inr c ↦ rw (a, b, c) refl
          | inl c ↦ elim (cases_Bool (is_marked (round_of r k) p)) [
            | inr d ↦ rw (a, b, c, d) refl
            | inl d ↦ rw (a, b, c, d) refl
          ]
        ]
      ]
    ]

-- a refused mark answers as each record says, and changes nothing
pub follows_refused : (k : Kept) (round p : ℕ) (bytes : List ℕ) (e : PlainRefusal) → ((r : Record) → StandsFor k r → Err e ≡ record_refusal k.shape r round p (length bytes))
    → Follows {A = Result Marked PlainRefusal} k k (Err e) (λ r. pready_answer k.shape r round p bytes) (λ r. after_pready k.shape r round p bytes)
follows_refused k round p bytes e refused r st =
    let is = sym (refused r st) in
    let answer : pready_answer k.shape r round p bytes ≡ Err e = pready_by k.shape r round p bytes ∙ rw is refl in
    let next : after_pready k.shape r round p bytes ≡ r = rw answer refl in
    (sym answer, rw next st)

-- a mark that is made answers as each record says, and leaves the record with the mark
pub follows_marked : (k new : Kept) (round p sent : ℕ) (bytes : List ℕ) (u : Unit {0}) → ((r : Record) → StandsFor k r → Ok u ≡ record_refusal k.shape r round p (length bytes))
    → Marks k new p bytes sent
    → Follows {A = Result Marked PlainRefusal} k new (Ok record { round = round; partition = p; sent = sent }) (λ r. pready_answer k.shape r round p bytes) (λ r. after_pready k.shape r round p bytes)
follows_marked k new round p sent bytes u free marks r st =
    let is = sym (free r st) in
    let h = marks r st in
    let answer : pready_answer k.shape r round p bytes ≡ Ok record { round = round; partition = p; sent = pieces_out k.shape (marked r p bytes) - pieces_out k.shape r } = pready_by k.shape r round p bytes ∙ rw is refl in
    let next : after_pready k.shape r round p bytes ≡ marked r p bytes = rw answer refl in
    (ap (λ n. Ok record { round = round; partition = p; sent = n }) h.0 ∙ sym answer, rw next h.1)
