-- What follows from the rule of the pieces: their first and last cells, and the piece of a cell. Each fact is first
-- proved of any division, run by run, and then of the list of pieces, which is one.
use Rattle.std.proofs.Common.{◌≡◌, ℕ, zero, suc, ◌+◌, ◌-◌, ◌*◌, ◌<◌, ◌≤◌, true, false, cond, nat_lt, List, [], ◌∷◌, length, get_or, count_by, refl, ap, sym, subst, add-one, arith, inl, inr}
use Rattle.std.proofs.lemmas.Bool.{cases_lt, cases_order, or_parts, leb-false, lt-ltb, le-ltb}
use Rattle.std.proofs.lemmas.List.Sums.{sum_by-cons}
use Rattle.part_geometry.specs.Shape.{Shape, IsShape}
use Rattle.part_geometry.specs.Cells.{cells, end, send_of}
use Rattle.part_geometry.specs.Pieces.{Run, closes, touched, IsRun, IsDivisionFrom, IsDivision, runs_from, pieces_of, pieces, first_cell, last_cell, piece_of, IsPieceOf, first_part, last_part, need_count, Touches}
use Rattle.part_geometry.proofs.Division.{the_division}
use Rattle.part_geometry.proofs.Parts.{send-mono, send-next-same, send-next-more, send_end-le}

at : List Run → ℕ → Run
at runs i = get_or runs i (0, 0)

-- the i-th run of a division is a run, not before the division's first cell
run_at : (g : Shape) (f : ℕ) (runs : List Run) → IsDivisionFrom g f runs → (i : ℕ) → i < length runs → IsRun g (at runs i).0 (at runs i) × (f ≤ (at runs i).0)
unfolding at
run_at g f [] d i inside = absurd (omega arith)
run_at g f (run ∷ runs) d zero inside = (subst (λ x. IsRun g x run) (sym d.0.first) d.0, let e = d.0.first in omega arith)
run_at g f (run ∷ runs) d (suc i) inside =
    let later = run_at g (run.1 + 1) runs d.1 i (omega arith) in
    (later.0, let o = d.0.ordered in let l = later.1 in omega arith)

-- the next run begins behind it
run_after : (g : Shape) (f : ℕ) (runs : List Run) → IsDivisionFrom g f runs → (i : ℕ) → i + 1 < length runs → (at runs (i + 1)).0 ≡ (at runs i).1 + 1
unfolding at
run_after g f [] d i inside = absurd (omega arith)
run_after g f (run ∷ []) d i inside = absurd (omega arith)
run_after g f (run ∷ next ∷ runs) d zero inside = d.1.0.first
run_after g f (run ∷ next ∷ runs) d (suc i) inside = rw add-one (rw add-one at (run_after g (run.1 + 1) (next ∷ runs) d.1 i (omega arith)))

-- the last run has the last cell
run_last : (g : Shape) (f : ℕ) (runs : List Run) → IsDivisionFrom g f runs → (i : ℕ) → i + 1 ≡ length runs → (at runs i).1 + 1 ≡ cells g
unfolding at
run_last g f [] d i inside = absurd (omega arith)
run_last g f (run ∷ []) d zero inside = d.1
run_last g f (run ∷ []) d (suc i) inside = absurd (omega arith)
run_last g f (run ∷ next ∷ runs) d zero inside = absurd (omega arith)
run_last g f (run ∷ next ∷ runs) d (suc i) inside = run_last g (run.1 + 1) (next ∷ runs) d.1 i (omega arith)

-- each cell is in a run
run_holds : (g : Shape) (f : ℕ) (runs : List Run) → IsDivisionFrom g f runs → (x : ℕ) → f ≤ x → x < cells g
    → (i : ℕ) × (i < length runs) × ((at runs i).0 ≤ x) × (x ≤ (at runs i).1)
unfolding at
run_holds g f [] d x low high = absurd (omega arith)
run_holds g f (run ∷ runs) d x low high =
    let e = d.0.first in
    elim (cases_lt run.1 x) [
      | inl above ↦ let later = run_holds g (run.1 + 1) runs d.1 x (omega arith) high in (suc later.0, (let h = later.1 in omega arith), later.2, later.3)
      | inr below ↦ (0, omega arith, (let z = e in omega arith), below)
    ]

-- no run from cell f on ends before it
none_ended : (g : Shape) (f x : ℕ) (runs : List Run) → IsDivisionFrom g f runs → x ≤ f → count_by (λ run. nat_lt run.1 x) runs ≡ 0
none_ended g f x [] d below = refl
none_ended g f x (run ∷ runs) d below =
    let o = d.0.ordered in
    let rest = none_ended g (run.1 + 1) x runs d.1 (omega arith) in
    rw (sum_by-cons, le-ltb run.1 x (omega arith), rest) refl

-- as many runs end before a cell as the number of its run
ended : (g : Shape) (f : ℕ) (runs : List Run) → IsDivisionFrom g f runs → (i x : ℕ) → i < length runs → (at runs i).0 ≤ x → x ≤ (at runs i).1
    → count_by (λ run. nat_lt run.1 x) runs ≡ i
unfolding at
ended g f [] d i x inside low high = absurd (omega arith)
ended g f (run ∷ runs) d zero x inside low high =
    rw (sum_by-cons, le-ltb run.1 x high, none_ended g (run.1 + 1) x runs d.1 (omega arith)) refl
ended g f (run ∷ runs) d (suc i) x inside low high =
    let later = run_at g (run.1 + 1) runs d.1 i (omega arith) in
    rw (sum_by-cons, lt-ltb run.1 x (let h = later.1 in omega arith), ended g (run.1 + 1) runs d.1 i x (omega arith) low high) (omega arith)

-- the list of pieces is a division of all cells
divided : (g : Shape) → IsDivision g (pieces_of g)
divided g = (the_division g).divides

-- a piece is a run of cells of the message
pub piece-run : (g : Shape) (i : ℕ) → i < pieces g → IsRun g (first_cell g i) (first_cell g i, last_cell g i)
unfolding pieces first_cell last_cell at
piece-run g i inside = (run_at g 0 (pieces_of g) (divided g) i inside).0

-- a piece's first cell is not behind its last, which is a cell of the message
pub piece-ordered : (g : Shape) (i : ℕ) → i < pieces g → (first_cell g i ≤ last_cell g i) × (last_cell g i < cells g)
piece-ordered g i inside = let r = piece-run g i inside in (r.ordered, r.inside)

-- each piece begins behind the last cell of the one before
pub piece-next : (g : Shape) (i : ℕ) → i + 1 < pieces g → first_cell g (i + 1) ≡ last_cell g i + 1
unfolding pieces first_cell last_cell at
piece-next g i inside = run_after g 0 (pieces_of g) (divided g) i inside

-- the last piece has the last cell
pub piece-last : (g : Shape) (i : ℕ) → i + 1 ≡ pieces g → last_cell g i + 1 ≡ cells g
unfolding pieces last_cell at
piece-last g i is = run_last g 0 (pieces_of g) (divided g) i is

-- the piece of each cell from a piece's first to its last
pub piece_of-inside : (g : Shape) (i c : ℕ) → i < pieces g → first_cell g i ≤ c → c ≤ last_cell g i → piece_of g c ≡ i
unfolding pieces first_cell last_cell piece_of at
piece_of-inside g i c inside low high = ended g 0 (pieces_of g) (divided g) i c inside low high

-- each cell has a piece, and lies in it
pub piece_of-holds : (g : Shape) (c : ℕ) → c < cells g → IsPieceOf g c (piece_of g c)
unfolding pieces first_cell last_cell at
piece_of-holds g c inside =
    let h = run_holds g 0 (pieces_of g) (divided g) c (omega arith) inside in
    let e : piece_of g c ≡ h.0 = piece_of-inside g h.0 c h.1 h.2 h.3 in
    rw e (record { inside = h.1; low = h.2; high = h.3 })

-- later pieces have later cells
pieces-apart : (g : Shape) (i k : ℕ) → i + suc k < pieces g → last_cell g i < first_cell g (i + suc k)
pieces-apart g i zero inside =
    let n = piece-next g i (omega arith) in
    let e : i + 1 ≡ i + suc zero = omega arith in rw (← e) (omega arith)
pieces-apart g i (suc k) inside =
    let before = pieces-apart g i k (omega arith) in
    let o = (piece-ordered g (i + suc k) (omega arith)).0 in
    let n = piece-next g (i + suc k) (omega arith) in
    let e : i + suc k + 1 ≡ i + suc (suc k) = omega arith in rw (← e) (omega arith)

-- each piece ends before any later one begins
pub pieces-order : (g : Shape) (i j : ℕ) → i < j → j < pieces g → last_cell g i < first_cell g j
pieces-order g i j below inside =
    let e : i + suc (j - i - 1) ≡ j = omega arith in
    rw e at (pieces-apart g i (j - i - 1) (omega arith))

-- the cells before a piece are those of earlier pieces
pub before-piece : (g : Shape) (i c : ℕ) → i < pieces g → c < cells g → (c < first_cell g i → piece_of g c < i) × (piece_of g c < i → c < first_cell g i)
before-piece g i c inside cell =
    let h = piece_of-holds g c cell in (
      (λ below. elim (cases_order (piece_of g c) i) [
        | inl same ↦ let l = h.low in let e = ap (first_cell g) same in absurd (omega arith)
        | inr other ↦ elim other [
          | inl less ↦ less
          | inr more ↦ let o = pieces-order g i (piece_of g c) more h.inside in let l = h.low in let q = (piece-ordered g i inside).0 in absurd (omega arith)
        ]
      ]),
      λ less. let o = pieces-order g (piece_of g c) i less inside in let u = h.high in omega arith,
    )

-- the cells up to a piece's last are those of no later piece
pub upto-piece : (g : Shape) (i c : ℕ) → i < pieces g → c < cells g → (c ≤ last_cell g i → piece_of g c ≤ i) × (piece_of g c ≤ i → c ≤ last_cell g i)
upto-piece g i c inside cell =
    let h = piece_of-holds g c cell in (
      (λ within. elim (cases_lt i (piece_of g c)) [
        | inl more ↦ let o = pieces-order g i (piece_of g c) more h.inside in let l = h.low in absurd (omega arith)
        | inr ok ↦ ok
      ]),
      λ le. elim (cases_order (piece_of g c) i) [
        | inl same ↦ let u = h.high in let e = ap (last_cell g) same in omega arith
        | inr other ↦ elim other [
          | inl less ↦ let o = pieces-order g (piece_of g c) i less inside in let u = h.high in let q = (piece-ordered g i inside).0 in omega arith
          | inr more ↦ absurd (omega arith)
        ]
      ],
    )

-- a piece touches at least one send partition
pub need_count-pos : (g : Shape) (v : IsShape g) (i : ℕ) → i < pieces g → 1 ≤ need_count g i
unfolding first_part last_part
need_count-pos g v i inside =
    let o = piece-ordered g i inside in
    let m = send-mono g v (first_cell g i) (last_cell g i) o.0 (let h = o.1 in omega arith) in omega arith

-- from a cell to the next the send partition goes up by at most 1
pub send-step : (g : Shape) (v : IsShape g) (c : ℕ) → c < cells g → send_of g (c + 1) ≤ send_of g c + 1
send-step g v c inside =
    elim (cases_lt (end g c) ((send_of g c + 1) * g.send_bytes)) [
      | inl below ↦ let e = send-next-same g v c inside below in omega arith
      | inr above ↦ let e = send-next-more g v c (let h = send_end-le g v c inside in omega arith) in omega arith
    ]

-- a piece touches at most 32 send partitions, since it is closed at the first cell where it touches that many
pub need_count-le : (g : Shape) (v : IsShape g) (i : ℕ) → i < pieces g → need_count g i ≤ 32
unfolding first_part last_part
need_count-le g v i inside =
    let r = piece-run g i inside in
    elim (cases_lt (first_cell g i) (last_cell g i)) [
      | inl more ↦
          let c = last_cell g i - 1 in
          let n = r.open_before c (omega arith) (omega arith) in
          let few : touched g (first_cell g i) c < 32 = leb-false _ _ (or_parts _ _ (or_parts _ _ n).0).1 in
          let e : c + 1 ≡ last_cell g i = omega arith in
          let step = rw e at (send-step g v c (let h = r.inside in omega arith)) in
          omega arith
      | inr h ↦
          let same : first_cell g i ≡ last_cell g i = (let o = r.ordered in omega arith) in
          let e = ap (send_of g) same in omega arith
    ]

-- between two cells, each partition between theirs has a cell
send-hits : (g : Shape) (v : IsShape g) (f k p : ℕ) → f + k < cells g → send_of g f ≤ p → p ≤ send_of g (f + k)
    → (c : ℕ) × (f ≤ c) × (c ≤ f + k) × (send_of g c ≡ p)
send-hits g v f zero p inside low high =
    let e : send_of g (f + zero) ≡ send_of g f = ap (send_of g) (let z : f + zero ≡ f = omega arith in z) in
    (f, omega arith, omega arith, omega arith)
send-hits g v f (suc k) p inside low high =
    elim (cases_lt (send_of g (f + k)) p) [
      | inl above ↦
          let e : f + k + 1 ≡ f + suc k = omega arith in
          let step = rw e at (send-step g v (f + k) (omega arith)) in
          (f + suc k, omega arith, omega arith, omega arith)
      | inr below ↦ let h = send-hits g v f k p (omega arith) low below in (h.0, h.1, (let u = h.2 in omega arith), h.3)
    ]

-- the partitions that a piece touches are those from its first to its last
pub Touches-range : (g : Shape) (v : IsShape g) (i p : ℕ) → i < pieces g → (Touches g i p → (first_part g i ≤ p) × (p ≤ last_part g i)) × (first_part g i ≤ p → p ≤ last_part g i → Touches g i p)
unfolding first_part last_part
Touches-range g v i p inside =
    let o = piece-ordered g i inside in (
      (λ t.
          let low = send-mono g v (first_cell g i) t.0 t.1 (let h = t.2 in let l = o.1 in omega arith) in
          let high = send-mono g v t.0 (last_cell g i) t.2 (let l = o.1 in omega arith) in
          let e = t.3 in (omega arith, omega arith)),
      (λ low high.
          let e : first_cell g i + (last_cell g i - first_cell g i) ≡ last_cell g i = (let l = o.0 in omega arith) in
          let h = send-hits g v (first_cell g i) (last_cell g i - first_cell g i) p (rw e o.1) low (rw e high) in
          (h.0, h.1, (let u = h.2 in omega arith), h.3)),
    )

-- n cells make at most n runs
length-runs_from : (g : Shape) (n f c : ℕ) → length (runs_from g f c n) ≤ n
unfolding runs_from
length-runs_from g zero f c = omega arith
length-runs_from g (suc n) f c =
    elim (closes g f c) as (λ b. length (cond b ((f, c) ∷ runs_from g (c + 1) (c + 1) n) (runs_from g f (c + 1) n)) ≤ suc n) [
      | true ↦ let h = length-runs_from g n (c + 1) (c + 1) in omega arith
      | false ↦ let h = length-runs_from g n f (c + 1) in omega arith
    ]

-- there are no more pieces than cells
pub pieces-le : (g : Shape) → pieces g ≤ cells g
unfolding pieces pieces_of
pieces-le g = length-runs_from g (cells g) 0 0
