-- What has arrived, by what is kept and by the record. A piece is out of the receiver's round where the sender is past
-- it, or in it with the piece whole: by both, so the least piece that is missing is the same.
use Rattle.std.proofs.Common.{◌≡◌, ℕ, ◌+◌, ◌-◌, ◌*◌, ◌/◌, ◌<◌, ◌≤◌, ◌==◌, nat_lt, Bool, true, false, ◌&&◌, not, Some, None, List, get_or, find, refl, ap, sym, subst, ◌∙◌, arith, inl, inr}
use Rattle.std.specs.List.{range_with_len}
use Rattle.std.proofs.Math.Nat.{div-eq_of_lt-le}
use Rattle.std.proofs.lemmas.Bool.{cases_order, eq-eqb, ne_eqb, lt-ltb, le-ltb, eqb-true, or_left, or_cases, and_parts, and_left, not-false}
use Rattle.std.proofs.lemmas.List.{get_or_past}
use Rattle.part_geometry.specs.Shape.{Shape, send_total}
use Rattle.part_geometry.specs.Cells.{start, end, send_of, recv_of}
use Rattle.part_geometry.specs.Pieces.{pieces, piece_of, first_part, need_count, needed, is_over}
use Rattle.part_geometry.proofs.Bounds.{end-start}
use Rattle.part_geometry.proofs.Parts.{send_end-le, recv_end-le}
use Rattle.part_geometry.proofs.PieceFacts.{piece_of-holds, Touches-range, need_count-pos}
use Rattle.std.specs.Option.{option_map_or}
use Rattle.plain_pair.specs.declared.answers.PlainLook.TheVariants as look
use Rattle.plain_pair.specs.Tables.{ArePiecesOver}
use Rattle.plain_pair.specs.Moves.{parrived_answer}
use Rattle.plain_pair.specs.Record.{Record, no_marks, round_of, is_marked, is_out, missing_piece}
use Rattle.plain_pair.specs.Kept.{Kept, has, is_whole, kept_mark}
use Rattle.plain_pair.specs.Sound.{IsSound}
use Rattle.plain_pair.specs.Looking.{kept_piece_out, kept_missing}
use Rattle.plain_pair.specs.StandsFor.{StandsFor}
use Rattle.plain_pair.proofs.Counts.{list_all-range, list_all-each}
use Rattle.plain_pair.proofs.Outs.{whole-missing}
use Rattle.plain_pair.proofs.Rounds.{is_out-none, needed_below}
use Rattle.plain_pair.proofs.Agree.{out_now}
use Rattle.plain_pair.proofs.Marks.{kept_mark-here}
use Rattle.plain_pair.proofs.Starts.{kept_mark-before}
use Rattle.part_geometry.proofs.Overs.{cell-over}
use Rattle.plain_pair.proofs.Overs.{find-none, find-some, find-same, find-nothing, find-window, cell_of_place}

-- a piece is out of the receiver's round by what is kept exactly where it is by the record
pub piece_out_now : (k : Kept) (missing : List ℕ) (r : Record) → IsSound k missing → StandsFor k r → k.receiving ≡ true → (i : ℕ) → i < pieces k.shape
    → kept_piece_out k i ≡ is_out k.shape (round_of r r.received) i
unfolding is_out needed
piece_out_now k missing r s st busy i inside =
    let g = k.shape in
    let received = s.rounds.busy busy in
    let received_is = st.received in let released_is = st.released in let sent_is = st.sent in
    elim (cases_order k.received k.sent) [
      | inl same ↦
          rw (le-ltb k.received k.sent (omega arith), eq-eqb k.received k.sent same) (out_now k missing r s st (omega arith) i inside
          ∙ ap (λ n. is_out g (round_of r n) i) (sym same ∙ received_is))
      | inr other ↦ elim other [
        | inl before ↦
            or_left _ _ (lt-ltb k.received k.sent before)
            ∙ sym (list_all-range (is_marked (round_of r r.received)) (first_part g i) (need_count g i) (λ p low high.
            sym (ap (λ n. is_marked (round_of r n) p) received_is) ∙ sym (st.marks k.received p (omega arith) (omega arith) (needed_below g s.shape i p inside high low))
            ∙ kept_mark-before k k.received p before))
        | inr after ↦
            let past : round_of r r.received ≡ no_marks = get_or_past r.rounds (r.received - 1) no_marks (omega arith) in
            rw (le-ltb k.received k.sent (omega arith), ne_eqb k.received k.sent (λ e. omega arith), past) (sym (is_out-none g s.shape i inside))
      ]
    ]

-- so the least piece over a partition that is missing is the same by both
pub missing_now : (k : Kept) (missing : List ℕ) (r : Record) → IsSound k missing → StandsFor k r → k.receiving ≡ true → (q : ℕ)
    → kept_missing k q ≡ missing_piece k.shape (round_of r r.received) q
unfolding kept_missing missing_piece
missing_now k missing r s st busy q =
    find-same (λ i. is_over k.shape q i && not (kept_piece_out k i)) (λ i. is_over k.shape q i && not (is_out k.shape (round_of r r.received) i)) (pieces k.shape) 0
    (λ i low high. ap (λ b. is_over k.shape q i && not b) (piece_out_now k missing r s st busy i (omega arith)))

-- where the sender is past the receiver's round, none is missing
pub missing_before : (k : Kept) (q : ℕ) → k.received < k.sent → kept_missing k q ≡ None
unfolding kept_missing
missing_before k q before =
    find-none (λ i. is_over k.shape q i && not (kept_piece_out k i)) (pieces k.shape) 0
    (λ i low high. ap (λ b. is_over k.shape q i && not b) (or_left (nat_lt k.received k.sent) ((k.received == k.sent) && is_whole k.shape k.marked i) (lt-ltb k.received k.sent before)) ∙ and_right_false (is_over k.shape q i))
  where
    and_right_false : (b : Bool) → (b && not true) ≡ false
    and_right_false true = refl
    and_right_false false = refl

-- where the sender hasn't come to it, the first piece over the partition is missing
pub missing_after : (k : Kept) (q first end : ℕ) → k.sent < k.received → ArePiecesOver k.shape q first end → kept_missing k q ≡ Some first
unfolding kept_missing
missing_after k q first end after over =
    let some = over.some in let within = over.inside in
    let out : (i : ℕ) → (is_over k.shape q i && not (kept_piece_out k i)) ≡ is_over k.shape q i = λ i.
    rw (le-ltb k.received k.sent (omega arith), ne_eqb k.received k.sent (λ e. omega arith)) (and_true_right (is_over k.shape q i)) in
    find-some (λ i. is_over k.shape q i && not (kept_piece_out k i)) (pieces k.shape) 0 first (omega arith) (omega arith)
    (out first ∙ over.over first (omega arith) some)
    (λ y low below. out y ∙ over.apart y (omega arith) (inl below))
  where
    and_true_right : (b : Bool) → (b && not false) ≡ b
    and_true_right true = refl
    and_true_right false = refl

-- where both are in one round, it is the first over the partition of which a count of what is missing is left
pub missing_same : (k : Kept) (missing : List ℕ) (q first end : ℕ) → IsSound k missing → k.received ≡ k.sent → ArePiecesOver k.shape q first end
    → kept_missing k q ≡ find (λ i. not (get_or missing i 0 == 0)) (range_with_len first (end - first))
unfolding kept_missing
missing_same k missing q first end s same over =
    let some = over.some in let within = over.inside in
    find-window (λ i. is_over k.shape q i && not (kept_piece_out k i)) (λ i. not (get_or missing i 0 == 0)) (pieces k.shape) first end (omega arith) within
    (λ i inside out. and_left _ _ (over.apart i inside out))
    (λ i low high.
    let e : (get_or missing i 0 == 0) ≡ is_whole k.shape k.marked i = ap (λ n. n == 0) (s.counts i (omega arith)) ∙ whole-missing k.shape k.marked i in
    rw (over.over i low high, le-ltb k.received k.sent (omega arith), eq-eqb k.received k.sent same) (ap not (sym e)))

-- each partition of a whole piece is marked
whole_has : (g : Shape) (marks : List Bool) (i p : ℕ) → is_whole g marks i ≡ true → first_part g i ≤ p → p < first_part g i + need_count g i → has marks p ≡ true
unfolding is_whole needed
whole_has g marks i p whole low high = list_all-each (has marks) (first_part g i) (need_count g i) whole p low high

-- where nothing of q is missing, each of its places was marked
pub place_marked : (k : Kept) (missing : List ℕ) (q x : ℕ) → IsSound k missing → kept_missing k q ≡ None → x < send_total k.shape → x / k.shape.recv_bytes ≡ q
    → kept_mark k k.received (x / k.shape.send_bytes) ≡ true
unfolding kept_missing send_of recv_of
place_marked k missing q x s none inside there =
    let g = k.shape in
    let v = s.shape in
    let c = cell_of_place g v x inside in
    let e = end-start g c.0 in
    let rl = recv_end-le g v c.0 c.1 in
    let sl = send_end-le g v c.0 c.1 in
    let rp : 0 < g.recv_bytes = omega (arith, v.recv_bytes.0) in
    let sp : 0 < g.send_bytes = omega (arith, v.send_bytes.0) in
    let low = c.2 in let high = c.3 in
    let rs : start g c.0 / g.recv_bytes * g.recv_bytes ≤ start g c.0 = omega arith in
    let ss : start g c.0 / g.send_bytes * g.send_bytes ≤ start g c.0 = omega arith in
    let recv : x / g.recv_bytes ≡ start g c.0 / g.recv_bytes = div-eq_of_lt-le g.recv_bytes (omega arith) (omega arith) in
    let send : x / g.send_bytes ≡ start g c.0 / g.send_bytes = div-eq_of_lt-le g.send_bytes (omega arith) (omega arith) in
    let h = piece_of-holds g c.0 c.1 in
    let i = piece_of g c.0 in
    let over = cell-over g v q i c.0 h.inside h.low h.high (sym recv ∙ there) in
    let found = find-nothing (λ j. is_over g q j && not (kept_piece_out k j)) (pieces g) 0 none i (omega arith) (let z = h.inside in omega arith) in
    let out : kept_piece_out k i ≡ true = not-false (kept_piece_out k i) (sym (ap (λ b. b && not (kept_piece_out k i)) over) ∙ found) in
    let t = (Touches-range g v i (start g c.0 / g.send_bytes) h.inside).0 (c.0, h.low, h.high, refl) in
    let pos = need_count-pos g v i h.inside in
    ap (kept_mark k k.received) send ∙ (elim (or_cases (nat_lt k.received k.sent) ((k.received == k.sent) && is_whole g k.marked i) out) [
      | inl before ↦ or_left _ _ before
      | inr now ↦
          let a = and_parts (k.received == k.sent) (is_whole g k.marked i) now in
          ap (λ n. kept_mark k n (start g c.0 / g.send_bytes)) (eqb-true _ _ a.0) ∙ kept_mark-here k (start g c.0 / g.send_bytes)
          ∙ whole_has g k.marked i (start g c.0 / g.send_bytes) a.1 t.0 (let z = t.1 in omega arith)
    ])

-- what a look answers, where the receiver is active and has the partition
pub looked : (k now : Kept) (missing : List ℕ) (r : Record) (q : ℕ) → k ≡ now → IsSound k missing → StandsFor now r → k.receiving ≡ true → q < k.shape.recv_parts
    → option_map_or look.NotYet (kept_missing now q) look.Arrived ≡ parrived_answer now.shape r q
looked k now missing r q is s st busy inside =
    let sound : IsSound now missing = subst (λ k. IsSound k missing) is s in
    let here : now.receiving ≡ true = ap (λ k. k.receiving) (sym is) ∙ busy in
    let part : q < now.shape.recv_parts = subst (λ k. q < k.shape.recv_parts) is inside in
    let active : r.receiving ≡ true = sym st.receiving ∙ here in
    rw (active, lt-ltb q now.shape.recv_parts part) (ap (λ o. option_map_or look.NotYet o look.Arrived) (missing_now now missing r sound st here q))
