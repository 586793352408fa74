-- A join keeps soundness: a marker's marks go to the send side. Who had the mark of a round and a partition is the seat
-- 0 from then on, and the seat is left out of the list that counts those that are out.
use Rattle.std.proofs.Common.{◌≡◌, ◌≢◌, ◌⊎◌, inl, inr, ⊎_elim, ℕ, ◌+◌, ◌-◌, ◌%◌, ◌<◌, ◌≤◌, Bool, ◌==◌, List, [], ◌∷◌, ◌++◌, length, Some, None, refl, sym, ap, ◌∙◌, subst, arith}
use Rattle.std.specs.Prelude.{if◌then◌else◌}
use mathlib.Core.Logic.{dite}
use native.Mathlib.Decide.{ℕ_discrete}
use Rattle.std.proofs.lemmas.Bool.{cases_lt, cases_eq, eq-eqb, ne_eqb}
use Rattle.gate_word.specs.Words.{round_in}
use Rattle.gate_word.specs.Order.{IsLater}
use Rattle.part_geometry.specs.Shape.{Shape, IsShape}
use Rattle.part_geometry.specs.Cells.{send_of}
use Rattle.part_geometry.specs.Pieces.{piece_of}
use Rattle.pair_core.specs.Names.{Name, Claim, Release, Take, Return, Piece, Fits, pick, put}
use Rattle.pair_core.specs.Core.{Core, IsMarker, IsWatcher, times}
use Rattle.pair_core.specs.Reading.{next_round}
use Rattle.pair_core.specs.Moves.{IsAllowed, after, joined, joins, first_word, Join}
use Rattle.pair_core.specs.Sound.{Marks, Seen, occurrences, Counts, Sound}
use Rattle.pair_core.specs.declared.view.Mark.{Mark}
use Rattle.pair_core.specs.declared.view.Pending.{Pending}
use Rattle.pair_core.specs.declared.view.Life.{Life}
use Rattle.pair_core.specs.declared.view.Life.TheVariants.{Blank, Live, Spent}
use Rattle.pair_core.proofs.Puts.{put_here, put_else, put_cases}
use Rattle.pair_core.proofs.Cut.{cell_send, cell_piece, cell_touches}
use Rattle.pair_core.proofs.Words.{later_refl}
use Rattle.pair_core.proofs.Frames.{opened_else, news_kept, owns_else}
use Rattle.pair_core.proofs.Enters.{progress_counts, gates_counts, pieces_counts, claims_counts, slots_counts, occurs_here, occurs_else, counts_else, recounted}

-- who has what the seat n had: the seat 0
unfoldable pub handed : ℕ → (ℕ → ℕ → ℕ) → ℕ → ℕ → ℕ
handed n who k p = pick (ℕ_discrete (who k p) n) 0 (who k p)

-- what holds of 0 where n had it, and else of who had it, holds of who has it
pub handed_cases : (n : ℕ) (who : ℕ → ℕ → ℕ) (k p : ℕ) (P : ℕ → Type 0) → (who k p ≡ n → P 0) → (who k p ≢ n → P (who k p)) → P (handed n who k p)
unfolding handed
handed_cases n who k p P here rest = go (ℕ_discrete (who k p) n)
  where
    go : (d : Dec (who k p ≡ n)) → P (pick d 0 (who k p))
    go (yes e) = here e
    go (no o) = rest o

-- a list without the first place of a number
pub without : ℕ → List ℕ → List ℕ
without n [] = []
without n (m ∷ ms) = if m == n then ms else m ∷ without n ms

-- at the list's head the number is left out, and no other is
without_cases : (n m : ℕ) (ms : List ℕ) (P : List ℕ → Type 0) → (m ≡ n → P ms) → (m ≢ n → P (m ∷ without n ms)) → P (without n (m ∷ ms))
unfolding without
without_cases n m ms P here rest = elim (cases_eq m n) [
  | inl e ↦ subst (λ (b : Bool). P (if b then ms else m ∷ without n ms)) (sym (eq-eqb m n e)) (here e)
  | inr o ↦ subst (λ (b : Bool). P (if b then ms else m ∷ without n ms)) (sym (ne_eqb m n o)) (rest o)
]

-- it is shorter by one where it had the number
pub without_length : (n : ℕ) (l : List ℕ) → 1 ≤ occurrences n l → length (without n l) + 1 ≡ length l
without_length n [] some = absurd (omega arith)
without_length n (m ∷ ms) some = without_cases n m ms (λ z. length z + 1 ≡ length (m ∷ ms)) (λ _. omega arith)
    (λ o. let h = without_length n ms (let e = occurs_else n m ms o in omega arith) in omega arith)

-- it has the number once less
pub without_here : (n : ℕ) (l : List ℕ) → 1 ≤ occurrences n l → occurrences n (without n l) + 1 ≡ occurrences n l
without_here n [] some = absurd (omega arith)
without_here n (m ∷ ms) some = without_cases n m ms (λ z. occurrences n z + 1 ≡ occurrences n (m ∷ ms))
    (λ e. subst (λ (z : ℕ). occurrences n ms + 1 ≡ occurrences n (z ∷ ms)) (sym e) (let h = occurs_here n ms in omega arith))
    (λ o. let e = occurs_else n m ms o in let f = occurs_else n m (without n ms) o in let h = without_here n ms (omega arith) in omega arith)

-- and any other as often
pub without_else : (n k : ℕ) (l : List ℕ) → k ≢ n → occurrences k (without n l) ≡ occurrences k l
unfolding without
without_else n k [] other = refl
without_else n k (m ∷ ms) other = without_cases n m ms (λ z. occurrences k z ≡ occurrences k (m ∷ ms))
    (λ e. sym (occurs_else k m ms (λ f. other (sym f ∙ e))))
    (λ o. let h = without_else n k ms other in ap (λ (z : ℕ). (if m == k then 1 else 0) + z) h)

-- a seat of the sort gives its view up
pub counts_less : (IsSort : ℕ → Type 0) (life : ℕ → Life) (n count : ℕ) → IsSort n → life n ≡ Live → Counts IsSort life count → Counts IsSort (put life n Spent) (count - 1)
counts_less IsSort life n count sort alive h =
    let once = h.all n sort alive in let long = without_length n h.seats (omega arith) in let left = without_here n h.seats (omega arith) in
    record {
      seats = without n h.seats;
      number = let e = h.number in omega arith;
      all = put_cases life n Spent (λ m z. IsSort m → z ≡ Live → occurrences m (without n h.seats) ≡ 1) (λ _ e. absurd (cc))
          (λ m other is here. without_else n m h.seats other ∙ h.all m is here);
      only = put_cases life n Spent (λ m z. 1 ≤ occurrences m (without n h.seats) → IsSort m × (z ≡ Live)) (λ some. absurd (omega arith))
          (λ m other some. h.only m (let e = without_else n m h.seats other in omega arith));
    }

module _ {A : Type 0} where
  -- two lists together have a mark as often as the one and the other
  pub times_both : (k p : ℕ) (a b : List (Mark A)) → times k p (a ++ b) ≡ times k p a + times k p b
  times_both k p [] b = omega arith
  times_both k p (x ∷ a) b = let h = times_both k p a b in omega arith

  -- the marks after those of n went to 0
  abbrev pub moved : (ℕ → List (Mark A)) → ℕ → ℕ → List (Mark A)
  moved marks n = put (put marks 0 (marks n ++ marks 0)) n []

  -- what holds of none at n, of both lists at 0 and of each other seat's own holds at each seat
  pub moved_cases : (marks : ℕ → List (Mark A)) (n : ℕ) → 0 ≢ n → (P : ℕ → List (Mark A) → Type 0) → P n [] → P 0 (marks n ++ marks 0) → ((m : ℕ) → m ≢ n → m ≢ 0 → P m (marks m)) → (m : ℕ) → P m (moved marks n m)
  moved_cases marks n two P gone first rest = put_cases (put marks 0 (marks n ++ marks 0)) n [] P gone (λ m other.
      put_cases marks 0 (marks n ++ marks 0) (λ j l. j ≢ n → P j l) (λ _. first) (λ j o o'. rest j o' o) m other)

  marks_moved : (g : Shape) (claim : ℕ → ℕ) (life life' : ℕ → Life) (marks : ℕ → List (Mark A)) (who : ℕ → ℕ → ℕ) (n : ℕ) → 0 ≢ n
      → ((m : ℕ) → m ≢ n → life m ≡ Live → life' m ≡ Live) → Marks g claim life marks who → Marks g claim life' (moved marks n) (handed n who)
  marks_moved g claim life life' marks who n two alive h = record {
    own = λ m k p. moved_cases marks n two (λ j l. 1 ≤ times k p l → (handed n who k p ≡ j) × (1 ≤ k) × (p < g.send_parts) × (k < next_round claim p) × ((j ≡ 0) ⊎ (IsMarker j × (life' j ≡ Live))))
        (λ some. absurd (omega arith))
        (λ some. elim (cases_lt 0 (times k p (marks n))) [
          | inl have ↦ let o = h.own n k p have in
              (handed_cases n who k p (λ z. z ≡ 0) (λ _. refl) (λ no. absurd (no o.0)), o.1, o.2, o.3, inl refl)
          | inr not_have ↦ let o = h.own 0 k p (let e = times_both k p (marks n) (marks 0) in omega arith) in
              (handed_cases n who k p (λ z. z ≡ 0) (λ _. refl) (λ _. o.0), o.1, o.2, o.3, inl refl)
        ])
        (λ j other o some. let old = h.own j k p some in (
          handed_cases n who k p (λ z. z ≡ j) (λ e. absurd (other (sym old.0 ∙ e))) (λ _. old.0),
          old.1,
          old.2,
          old.3,
          ⊎_elim (λ (z : j ≡ 0). inl z) (λ (z : IsMarker j × (life j ≡ Live)). inr (z.0, alive j other z.1)) old.4,
        ))
        m;
    all = λ k p low inside early. let once = h.all k p low inside early in let both = times_both k p (marks n) (marks 0) in
        let here : times k p (marks n ++ marks 0) ≡ 1 → times k p (moved marks n 0) ≡ 1 =
        λ e. moved_cases marks n two (λ j l. j ≡ 0 → times k p l ≡ 1) (λ f. absurd (two (sym f))) (λ _. e) (λ j _ o f. absurd (o f)) 0 refl in
        handed_cases n who k p (λ z. times k p (moved marks n z) ≡ 1)
        (λ e. here (
        let a : times k p (marks n) ≡ 1 = ap (λ (z : ℕ). times k p (marks z)) (sym e) ∙ once in
        let b : times k p (marks 0) ≡ 0 = elim (cases_lt 0 (times k p (marks 0))) [ inl have ↦ absurd (two (sym (h.own 0 k p have).0 ∙ e)) | inr not_have ↦ omega arith ] in omega arith))
        (λ o. moved_cases marks n two (λ j l. who k p ≡ j → times k p l ≡ 1) (λ f. absurd (o f))
        (λ f. let a : times k p (marks 0) ≡ 1 = ap (λ (z : ℕ). times k p (marks z)) (sym f) ∙ once in
        let b : times k p (marks n) ≡ 0 = elim (cases_lt 0 (times k p (marks n))) [ inl have ↦ absurd (o (h.own n k p have).0) | inr not_have ↦ omega arith ] in omega arith)
        (λ j _ _ f. ap (λ (z : ℕ). times k p (marks z)) (sym f) ∙ once) (who k p) refl);
  }

  -- what all joins change: the seat's life and what it has seen
  joins_keeps : (g : Shape) → IsShape g → (s : Core A) (n : ℕ) → Sound g s → 2 ≤ n → s.life n ≡ Live → s.pending n ≡ None → Sound g (joins g n s)
  joins_keeps g v s n r two live free =
      let life' : ℕ → Life = put s.life n Spent in
      let seen' : ℕ → Name → ℕ = put s.seen n (first_word g) in
      let looks' : ℕ → Name → ℕ = put s.looks n (λ x. 0) in
      let zero_other : 0 ≢ n = λ e. omega arith in
      let alive : (m : ℕ) → m ≢ n → s.life m ≡ Live → life' m ≡ Live = λ m other e. put_else s.life n Spent m other ∙ e in
      let seen : Seen g s.word life' seen' = record {
        present = λ m x unspent fits. dite (ℕ_discrete m n)
            (λ e. absurd (unspent (ap life' e ∙ put_here s.life n Spent)))
            (λ o. subst (λ (f : Name → ℕ). IsLater (f x) (s.word x)) (sym (put_else s.seen n (first_word g) m o)) (r.seen.present m x (λ h. unspent (put_else s.life n Spent m o ∙ h)) fits));
        first = put_cases s.seen n (first_word g) (λ m f. (x : Name) → Fits g x → IsLater (first_word g x) (f x)) (λ x _. later_refl (first_word g x)) (λ m _. r.seen.first m);
      } in
      let opened = opened_else s.send s.seen n (first_word g) (λ e. omega arith) r.opened in
      -- a seat without a view is neither n nor the send side
      let apart : (m : ℕ) → life' m ≡ Blank → m ≢ n = λ m blank e. (let f : Spent ≡ Blank = sym (put_here s.life n Spent) ∙ (ap life' (sym e) ∙ blank) in absurd (cc)) in
      let was : (m : ℕ) → life' m ≡ Blank → s.life m ≡ Blank = λ m blank. sym (put_else s.life n Spent m (apart m blank)) ∙ blank in
      let not_first : (m : ℕ) → life' m ≡ Blank → m ≢ 0 = λ m blank e. (let f : Live ≡ Blank = sym (ap s.life e ∙ r.lives.send) ∙ was m blank in absurd (cc)) in
      let owns = owns_else g (λ t. s.word (Take t)) (λ t. s.word (Return t)) s.seen n (first_word g) (λ e. omega arith) r.owns in
      let send = alive 0 zero_other r.lives.send in let recv = alive 1 (λ e. omega arith) r.lives.recv in
      let claim : ℕ → ℕ = λ c. s.word (Claim c) in let take : ℕ → ℕ = λ t. s.word (Take t) in let ret : ℕ → ℕ = λ t. s.word (Return t) in let piece : ℕ → ℕ → ℕ = λ d i. s.word (Piece d i) in
      -- a seat that has a pending claim isn't n
      let kept : (k p : ℕ) (x : Pending) → s.pending (r.who k p) ≡ Some x → handed n r.who k p ≡ r.who k p = λ k p x at. handed_cases n r.who k p (λ z. z ≡ r.who k p)
      (λ e. let f : s.pending n ≡ Some x = ap s.pending (sym e) ∙ at in absurd (cc)) (λ _. refl) in
      elim (cases_eq (n % 2) 0) [
        | inl e ↦ subst (λ (b : Bool). Sound g (joined b g n s)) (sym (eq-eqb (n % 2) 0 e)) record {
          who = handed n r.who;
          progress = progress_counts g (round_in (s.word Release)) s.send s.recv (s.send.markers - 1) s.recv.watchers r.progress;
          gates = gates_counts g claim s.send (s.send.markers - 1) r.gates;
          pieces = pieces_counts g claim piece s.send (s.send.markers - 1) r.pieces;
          receiving = r.receiving;
          arrived = r.arrived;
          claims = claims_counts g claim piece s.send s.life life' s.pending r.who (handed n r.who) (s.send.markers - 1)
              (λ m x at here _. alive m (λ f. let h : s.pending n ≡ Some x = ap s.pending (sym f) ∙ at in absurd (cc)) here) kept r.claims;
          slots = slots_counts g claim take ret piece s.send s.recv s.slot r.who (handed n r.who) (s.send.markers - 1) s.recv.watchers
              (λ c inside lent. let x = r.claims.all (send_of g c) (piece_of g c) (cell_send g v c inside) (cell_piece g c inside) (cell_touches g c inside) lent in
              kept s.send.round (send_of g c) x.0 x.1) r.slots;
          marks = marks_moved g claim s.life life' s.marks r.who n zero_other alive r.marks;
          takes = r.takes;
          unused = r.unused;
          seen = seen;
          opened = opened;
          news = news_kept g s.life life' s.seen seen' s.looks looks' s.pending s.pending s.marks (moved s.marks n)
              (λ m blank. (
                was m blank,
                put_else s.seen n (first_word g) m (apart m blank),
                put_else s.looks n (λ x. 0) m (apart m blank),
                refl,
                put_else (put s.marks 0 (s.marks n ++ s.marks 0)) n [] m (apart m blank) ∙ put_else s.marks 0 (s.marks n ++ s.marks 0) m (not_first m blank),
              )) r.news;
          owns = owns;
          lives = record {
            send = send;
            recv = recv;
            markers_out = counts_less IsMarker s.life n s.send.markers (two, e) live r.lives.markers_out;
            watchers_out = counts_else IsWatcher s.life n s.recv.watchers Spent (λ odd. let o = odd.1 in omega arith) r.lives.watchers_out;
          };
        }
        | inr o ↦ subst (λ (b : Bool). Sound g (joined b g n s)) (sym (ne_eqb (n % 2) 0 o))
            (recounted g s life' seen' looks' s.send.markers (s.recv.watchers - 1) r (λ m is here. alive m (λ e. o (ap (λ (z : ℕ). z % 2) (sym e) ∙ is.1)) here) seen opened
            (news_kept g s.life life' s.seen seen' s.looks looks' s.pending s.pending s.marks s.marks
            (λ m blank. (was m blank, put_else s.seen n (first_word g) m (apart m blank), put_else s.looks n (λ x. 0) m (apart m blank), refl, refl)) r.news) owns record {
              send = send;
              recv = recv;
              markers_out = counts_else IsMarker s.life n s.send.markers Spent (λ even. o even.1) r.lives.markers_out;
              watchers_out = counts_less IsWatcher s.life n s.recv.watchers (two, omega arith) live r.lives.watchers_out;
            })
      ]

  -- the move keeps soundness
  pub join_keeps : (g : Shape) → IsShape g → (s : Core A) (n : ℕ) → Sound g s → IsAllowed g s (Join n) → Sound g (after g s (Join n))
  join_keeps g v s n r allowed = joins_keeps g v s n r allowed.0 allowed.1 allowed.2
