-- A pair at rest by what it keeps. A pair that rests stands for a history, whose numbers it keeps; and where the numbers
-- are those of a pair at rest, it stands for some history: full rounds, and a last one with the marks that are kept.
use Rattle.std.proofs.Common.{◌≡◌, ◌∙◌, refl, sym, ap, subst, ℕ, zero, suc, ◌+◌, ◌-◌, ◌*◌, ◌<◌, ◌≤◌, ◌==◌, Bool, true, false, cond, List, [], ◌∷◌, ◌++◌, length, length-append, replicate, count_by, arith, inl, inr}
use Rattle.std.specs.Prelude.{◌||◌}
use Rattle.std.specs.FinSet as parts
use Rattle.std.specs.FinMap as rounds
use Rattle.std.specs.Cmp.{nat_cmp_total}
use Rattle.std.specs.Ordering.{nat_cmp}
use Rattle.std.specs.List.{range_with_len}
use Rattle.std.proofs.lemmas.Bool.{cases_Bool, cases_eq, eq-eqb, ne_eqb}
use Rattle.std.proofs.lemmas.List.{length-replicate}
use Rattle.std.proofs.lemmas.List.Folds.{sum_by-replicate}
use Rattle.std.proofs.lemmas.List.Sums.{sum_by_push}
use Rattle.part_geometry.specs.Shape.{IsShape, Shape}
use Rattle.part_geometry.specs.Pieces.{first_part, need_count, needed, pieces}
use Rattle.plain_pair.specs.Kept.{Kept, has, is_whole, kept_out}
use Rattle.plain_pair.specs.Record.{Parts, Record, Round, is_marked, is_out, no_marks, no_parts, pieces_out, round_out}
use Rattle.plain_pair.proofs.Agree.{list_all-same}
use Rattle.plain_pair.proofs.Counts.{count-all, count-same, list_all-range}
use Rattle.plain_pair.proofs.Marks.{is_marked-insert, ties}
use Rattle.plain_pair.proofs.Rounds.{is_marked-none, needed_below}
use Rattle.halo_message.specs.Passing.{RestsAt}
use Rattle.rank_task.specs.Blocks.{IsResting}

-- what it keeps are the numbers of its history
pub resting-from : (g : Shape) (k : ℕ) (pair : Kept) → RestsAt g k pair → IsResting g k pair
resting-from g k pair s = record {
  shape = s.shape;
  sent = s.stands.sent ∙ s.holds.sent;
  received = s.stands.received ∙ s.holds.received;
  released = s.stands.released ∙ s.holds.released;
  sending = s.stands.sending ∙ s.holds.sending;
  receiving = s.stands.receiving ∙ s.holds.receiving;
}

-- a round with the marks that pass a test, among the first n
marks_of : (ℕ → Bool) → ℕ → Round
marks_of f zero = no_marks
marks_of f (suc n) = cond (f n) (rounds.insert (marks_of f n) n []) (marks_of f n)

-- those from n on are not marked, and of those below n the test says it
none-above : (f : ℕ → Bool) (n p : ℕ) → n ≤ p → is_marked (marks_of f n) p ≡ false
unfolding marks_of
none-above f zero p above = is_marked-none p
none-above f (suc n) p above =
    elim (cases_Bool (f n)) [
      | inl on ↦ rw on (is_marked-insert (marks_of f n) n p [] ∙ rw (ne_eqb p n (λ e. omega arith)) (none-above f n p (omega arith)))
      | inr off ↦ rw off (none-above f n p (omega arith))
    ]

marks-are : (f : ℕ → Bool) (n p : ℕ) → p < n → is_marked (marks_of f n) p ≡ f p
unfolding marks_of
marks-are f zero p less = absurd (omega arith)
marks-are f (suc n) p less =
    elim (cases_Bool (f n)) [
      | inl on ↦ rw on (is_marked-insert (marks_of f n) n p [] ∙ elim (cases_eq p n) [
        | inl same ↦ rw (eq-eqb p n same) (sym (ap f same ∙ on))
        | inr apart ↦ rw (ne_eqb p n apart) (marks-are f n p (omega arith))
      ])
      | inr off ↦ rw off (elim (cases_eq p n) [
        | inl same ↦ none-above f n p (omega arith) ∙ sym (ap f same ∙ off)
        | inr apart ↦ marks-are f n p (omega arith)
      ])
    ]

-- the set of those that pass a test, among the first n
set_of : (ℕ → Bool) → ℕ → Parts
set_of f zero = no_parts
set_of f (suc n) = cond (f n) (parts.insert (set_of f n) n) (set_of f n)

-- the set with one number more
contains-more : (s : Parts) (n q : ℕ) → parts.contains (parts.insert s n) q ≡ ((q == n) || parts.contains s q)
contains-more s n q = parts.contains-insert nat_cmp_total s n q ∙ ap (λ b. b || parts.contains s q) (ties q n)

-- those from n on are not among them, and of those below n the test says it
set-above : (f : ℕ → Bool) (n q : ℕ) → n ≤ q → parts.contains (set_of f n) q ≡ false
unfolding set_of
set-above f zero q above = parts.contains-empty nat_cmp q
set-above f (suc n) q above =
    elim (cases_Bool (f n)) [
      | inl on ↦ rw on (contains-more (set_of f n) n q ∙ rw (ne_eqb q n (λ e. omega arith)) (set-above f n q (omega arith)))
      | inr off ↦ rw off (set-above f n q (omega arith))
    ]

set-is : (f : ℕ → Bool) (n q : ℕ) → q < n → parts.contains (set_of f n) q ≡ f q
unfolding set_of
set-is f zero q less = absurd (omega arith)
set-is f (suc n) q less =
    elim (cases_Bool (f n)) [
      | inl on ↦ rw on (contains-more (set_of f n) n q ∙ elim (cases_eq q n) [
        | inl same ↦ rw (eq-eqb q n same) (sym (ap f same ∙ on))
        | inr apart ↦ rw (ne_eqb q n apart) (set-is f n q (omega arith))
      ])
      | inr off ↦ rw off (elim (cases_eq q n) [
        | inl same ↦ set-above f n q (omega arith) ∙ sym (ap f same ∙ off)
        | inr apart ↦ set-is f n q (omega arith)
      ])
    ]

-- the pieces that are out of such rounds
out-all : (g : Shape) → IsShape g → round_out g (marks_of (λ _. true) g.send_parts) ≡ pieces g
unfolding round_out is_out needed
out-all g v =
    count-all (is_out g (marks_of (λ _. true) g.send_parts)) 0 (pieces g)
    (λ i low high. list_all-range (is_marked (marks_of (λ _. true) g.send_parts)) (first_part g i) (need_count g i)
    (λ p above below. marks-are (λ _. true) g.send_parts p (needed_below g v i p (omega arith) below above)))

-- of a round with the marks that are kept, those that are whole
out-kept : (g : Shape) (marks : List Bool) → IsShape g → round_out g (marks_of (has marks) g.send_parts) ≡ count_by (is_whole g marks) (range_with_len 0 (pieces g))
unfolding round_out is_out is_whole needed
out-kept g marks v =
    count-same (is_out g (marks_of (has marks) g.send_parts)) (is_whole g marks) 0 (pieces g)
    (λ i low high. list_all-same (is_marked (marks_of (has marks) g.send_parts)) (has marks) (first_part g i) (need_count g i)
    (λ p above below. marks-are (has marks) g.send_parts p (needed_below g v i p (omega arith) below above)))

-- k rounds, of which the last has the marks that are kept
rounds_of : Shape → ℕ → List Bool → List Round
rounds_of g zero marks = []
rounds_of g (suc n) marks = replicate n (marks_of (λ _. true) g.send_parts) ++ marks_of (has marks) g.send_parts ∷ []

-- there are k of them
rounds-many : (g : Shape) (k : ℕ) (marks : List Bool) → length (rounds_of g k marks) ≡ k
unfolding rounds_of
rounds-many g zero marks = refl
rounds-many g (suc n) marks =
    length-append (replicate n (marks_of (λ _. true) g.send_parts)) (marks_of (has marks) g.send_parts ∷ [])
    ∙ ap (λ m. m + 1) (length-replicate n (marks_of (λ _. true) g.send_parts)) ∙ omega arith

-- the history of a pair that rests after k rounds, by what it keeps
rested : Kept → ℕ → Record
rested pair k = record {
  rounds = rounds_of pair.shape k pair.marked;
  received = k;
  released = k;
  sending = false;
  receiving = false;
  taken = set_of (has pair.taken) pair.shape.recv_parts;
  back = set_of (has pair.back) pair.shape.recv_parts;
}

-- as many pieces are out of it as the pair keeps
out-rested : (pair : Kept) (k : ℕ) → IsShape pair.shape → pair.sent ≡ k → kept_out pair ≡ pieces_out pair.shape (rested pair k)
unfolding kept_out pieces_out rested rounds_of
out-rested pair zero v sent = rw sent refl
out-rested pair (suc n) v sent =
    let g = pair.shape in
    let full = marks_of (λ _. true) g.send_parts in
    let last = marks_of (has pair.marked) g.send_parts in
    let some : (pair.sent == 0) ≡ false = ne_eqb pair.sent 0 (λ e. omega arith) in
    let before : pair.sent - 1 ≡ n = omega arith in
    let count = count_by (is_whole g pair.marked) (range_with_len 0 (pieces g)) in
    rw some
    (ap (λ m. m * pieces g + count) before
    ∙ sym (sum_by_push (round_out g) (replicate n full) last
    ∙ (λ i. sum_by-replicate (round_out g) n full i + out-kept g pair.marked v i)
    ∙ ap (λ m. n * m + count) (out-all g v)))

-- a pair with these numbers stands for that history
pub rests-from : (g : Shape) (k : ℕ) (pair : Kept) → IsShape g → IsResting g k pair → RestsAt g k pair
unfolding rested
rests-from g k pair v s =
    let fine = subst IsShape (sym s.shape) v in
    let many = rounds-many pair.shape k pair.marked in
    record {
      shape = s.shape;
      history = rested pair k;
      stands = record {
        sent = s.sent ∙ sym many;
        received = s.received;
        released = s.released;
        sending = s.sending;
        receiving = s.receiving;
        taken = λ q less. sym (set-is (has pair.taken) pair.shape.recv_parts q less);
        back = λ q less. sym (set-is (has pair.back) pair.shape.recv_parts q less);
        out = out-rested pair k fine s.sent;
        marks = λ n p above below less. absurd (omega arith);
        bytes = λ n x above below less marked free. absurd (omega arith);
      };
      holds = record { sent = many; received = refl; released = refl; sending = refl; receiving = refl };
    }
