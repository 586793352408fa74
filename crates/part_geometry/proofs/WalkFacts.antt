-- What a walk knows of the cell that it stands before: where both sides' partitions end, and which run is open. Each
-- step keeps this, as each side goes to its next partition exactly where the cell ends with its partition.
use Rattle.std.proofs.Common.{◌≡◌, ◌≢◌, ℕ, zero, suc, add-zero, ◌+◌, ◌-◌, ◌*◌, ◌<◌, ◌≤◌, min, true, false, nat_le, if◌then◌else◌, ◌==◌, Some, None, List, ◌∷◌, length, get_or, drop, refl, ap, sym, ◌∙◌, arith, inl, inr}
use Rattle.std.proofs.lemmas.Bool.{le-ltb, lt-ltb, le-leb, lt-leb, cases_Bool, cases_lt, cases_eq, eq-eqb, ne_eqb, cond-true, cond-false}
use Rattle.std.proofs.lemmas.Nat.{mul-le}
use Rattle.std.proofs.lemmas.List.{get_or-drop, length-drop, drop-drop}
use Rattle.part_geometry.specs.declared.TheConstants.{MAX_PARTS, MAX_PART_BYTES, MAX_TOTAL}
use Rattle.part_geometry.specs.declared.walk.SidePart.{SidePart}
use Rattle.part_geometry.specs.declared.walk.Position.{Position}
use Rattle.part_geometry.specs.Shape.{Shape, IsShape, send_total}
use Rattle.part_geometry.specs.Cells.{cells, start, end, send_of, recv_of}
use Rattle.part_geometry.specs.Pieces.{Run, closes, touched, runs_from, pieces_of, pieces, first_cell, last_cell, piece_of}
use Rattle.part_geometry.specs.Walk.{IsSide, IsBefore, cell_at, next_cell, passed}
use Rattle.part_geometry.proofs.Bounds.{start-below, start-last, start-rises, start-within, cells-le, end-start, start-zero}
use Rattle.part_geometry.proofs.Parts.{send_end-le, recv_end-le, end-min, send-next-same, send-next-more, recv-next-same, recv-next-more, start-le, send-mono, send-below, recv-below, send-zero, recv-zero}
use Rattle.part_geometry.proofs.PieceFacts.{piece_of-inside, piece_of-holds, pieces-le}
use Rattle.part_geometry.proofs.Division.{last_closes}

-- where a cell closes the open run, the runs from it on are that run and then those from the next cell on
runs-close : (g : Shape) (n f c : ℕ) → closes g f c ≡ true → runs_from g f c (suc n) ≡ (f, c) ∷ runs_from g (c + 1) (c + 1) n
unfolding runs_from
runs-close g n f c closed = cond-true _ _ _ closed

-- where it doesn't, they are those from the next cell on, with the run still open
runs-open : (g : Shape) (n f c : ℕ) → closes g f c ≡ false → runs_from g f c (suc n) ≡ runs_from g f (c + 1) n
unfolding runs_from
runs-open g n f c unclosed = cond-false _ _ _ unclosed

-- they begin with one that is open from f and ends at that cell or behind it
run_head : (g : Shape) (n f c : ℕ) → c + suc n ≡ cells g
    → (l : ℕ) × (rest : List Run) × (c ≤ l) × (runs_from g f c (suc n) ≡ (f, l) ∷ rest)
run_head g zero f c left = (c, _, omega arith, runs-close g zero f c (last_closes g f c (omega arith)))
run_head g (suc n) f c left =
    elim (cases_Bool (closes g f c)) [
      | inl closed ↦ (c, _, omega arith, runs-close g (suc n) f c closed)
      | inr unclosed ↦
          let h = run_head g n f (c + 1) (omega arith) in
          (h.0, h.1, (let u = h.2 in omega arith), runs-open g (suc n) f c unclosed ∙ h.3)
    ]

-- the number of the open run is the piece of the cell
pub piece-before : (g : Shape) (p : Position) → IsBefore g p → p.place < cells g → p.piece ≡ piece_of g p.place
unfolding pieces first_cell last_cell
piece-before g p b inside =
    let n = cells g - p.place - 1 in
    let count : cells g - p.place ≡ suc n = omega arith in
    let h = run_head g n p.first p.place (omega arith) in
    let left : drop p.piece (pieces_of g) ≡ (p.first, h.0) ∷ h.1 = b.runs ∙ ap (runs_from g p.first p.place) count ∙ h.3 in
    let there : get_or (pieces_of g) p.piece (0, 0) ≡ (p.first, h.0) =
    sym (get_or-drop p.piece (pieces_of g) 0 (0, 0) ∙ ap (λ k. get_or (pieces_of g) k (0, 0)) (add-zero p.piece)) ∙ ap (λ xs. get_or xs 0 (0, 0)) left in
    let some : length (drop p.piece (pieces_of g)) ≡ suc (length h.1) = ap length left in
    let size = length-drop p.piece (pieces_of g) in
    let low : (get_or (pieces_of g) p.piece (0, 0)).0 ≤ p.place = rw there b.opened in
    let high : p.place ≤ (get_or (pieces_of g) p.piece (0, 0)).1 = rw there h.2 in
    sym (piece_of-inside g p.piece p.place (omega arith) low high)

-- a walk that stands at the end of the message is behind the last cell
pub at_total : (g : Shape) (p : Position) → IsBefore g p → p.start ≡ send_total g → p.place ≡ cells g
at_total g p b total =
    elim (cases_lt p.place (cells g)) [
      | inl before ↦ let h = start-below g b.shape p.place before in let e = b.starts in absurd (omega arith)
      | inr h ↦ let i = b.inside in omega arith
    ]

-- a walk that stands elsewhere is before a cell
pub before_total : (g : Shape) (p : Position) → IsBefore g p → p.start ≢ send_total g → p.place < cells g
before_total g p b other =
    elim (cases_lt p.place (cells g)) [
      | inl before ↦ before
      | inr h ↦
          let last : p.place ≡ cells g = (let i = b.inside in omega arith) in
          absurd (other (b.starts ∙ ap (start g) last ∙ start-last g b.shape))
    ]

-- the cell ends at the nearer of the two sides' ends
pub end-before : (g : Shape) (p : Position) → IsBefore g p → p.place < cells g → min p.send.end p.recv.end ≡ end g p.place
end-before g p b inside =
    let s = send_end-le g b.shape p.place inside in
    let r = recv_end-le g b.shape p.place inside in
    let se = b.sends.ends in let re = b.recvs.ends in
    elim (end-min g b.shape p.place inside) [ inl h ↦ omega arith | inr h ↦ omega arith ]

-- a side behind a place up to its end
abbrev pub side_after : ℕ → SidePart → SidePart
side_after place side = if place == side.end
    then record { part = side.part + 1; end = side.end + side.bytes; bytes = side.bytes }
    else side

-- where the next cell's partition is one more if the cell ends with its partition, and else the same, a side goes on to
-- it
side_next : (at next bytes place : ℕ) (side : SidePart) → IsSide at bytes side
    → (place ≡ (at + 1) * bytes → next ≡ at + 1) → (place ≢ (at + 1) * bytes → next ≡ at) → IsSide next bytes (side_after place side)
side_next at next bytes place side is more same =
    elim (cases_eq place side.end) [
      | inl there ↦
          let e = more (there ∙ is.ends) in let a = is.stands in let b = is.size in let c = is.ends in
          rw (cond-true _ _ _ (eq-eqb place side.end there)) (record { stands = omega arith; size = b; ends = rw e (omega arith) })
      | inr other ↦
          let e = same (λ h. other (h ∙ sym is.ends)) in
          rw (cond-false _ _ _ (ne_eqb place side.end other), e) is
    ]

-- behind the cell, the send side stands at the send partition of the next one
pub send_next : (g : Shape) (p : Position) → IsBefore g p → p.place < cells g → IsSide (send_of g (p.place + 1)) g.send_bytes (side_after (end g p.place) p.send)
send_next g p b inside = side_next _ _ _ _ _ b.sends (send-next-more g b.shape p.place)
    (λ other. send-next-same g b.shape p.place inside (let h = send_end-le g b.shape p.place inside in omega arith))

-- and the receive side at its receive partition
pub recv_next : (g : Shape) (p : Position) → IsBefore g p → p.place < cells g → IsSide (recv_of g (p.place + 1)) g.recv_bytes (side_after (end g p.place) p.recv)
recv_next g p b inside = side_next _ _ _ _ _ b.recvs (recv-next-more g b.shape p.place)
    (λ other. recv-next-same g b.shape p.place inside (let h = recv_end-le g b.shape p.place inside in omega arith))

-- the position behind the cell, where its run stays open
abbrev pub next_of : Shape → Position → Position
next_of g p = record p {
  place = p.place + 1;
  start = end g p.place;
  send = side_after (end g p.place) p.send;
  recv = side_after (end g p.place) p.recv;
}

abbrev pub opened_of : Position → Position
opened_of p = record p { piece = p.piece + 1; first = p.place; first_start = p.start; first_send = p.send.part }

runs_left : (g : Shape) (p : Position) → p.place < cells g → cells g - p.place ≡ suc (cells g - (p.place + 1))
runs_left g p inside = omega arith

-- where the cell leaves the run open, the position behind it is right with the same run
pub before_open : (g : Shape) (p : Position) → IsBefore g p → p.place < cells g → closes g p.first p.place ≡ false → IsBefore g (next_of g p)
before_open g p b inside unclosed = record {
  shape = b.shape;
  inside = omega arith;
  starts = end-start g p.place;
  sends = send_next g p b inside;
  recvs = recv_next g p b inside;
  runs = b.runs ∙ ap (runs_from g p.first p.place) (runs_left g p inside) ∙ runs-open g _ p.first p.place unclosed;
  opened = (let h = b.opened in omega arith);
  opened_start = b.opened_start;
  opened_send = b.opened_send;
}

-- where it closes the run, the position behind it is right with a run that begins there
pub before_closed : (g : Shape) (p : Position) → IsBefore g p → p.place < cells g → closes g p.first p.place ≡ true → IsBefore g (opened_of (next_of g p))
before_closed g p b inside closed = record {
  shape = b.shape;
  inside = omega arith;
  starts = end-start g p.place;
  sends = send_next g p b inside;
  recvs = recv_next g p b inside;
  runs = sym (drop-drop 1 p.piece (pieces_of g)) ∙ ap (drop 1) (b.runs ∙ ap (runs_from g p.first p.place) (runs_left g p inside) ∙ runs-close g _ p.first p.place closed);
  opened = omega arith;
  opened_start = end-start g p.place;
  opened_send = (send_next g p b inside).stands;
}

-- a position with all at 0 and each side in its first partition is before the first cell
pub first_before : (g : Shape) (p : Position) → IsShape g → p.place ≡ 0 → p.start ≡ 0 → IsSide 0 g.send_bytes p.send → IsSide 0 g.recv_bytes p.recv
    → p.piece ≡ 0 → p.first ≡ 0 → p.first_start ≡ 0 → p.first_send ≡ 0 → IsBefore g p
unfolding pieces_of
first_before g p v place start send recv piece first first_start first_send = record {
  shape = v;
  inside = omega arith;
  starts = rw (start, place) (sym (start-zero g));
  sends = rw (place, send-zero g) send;
  recvs = rw (place, recv-zero g) recv;
  runs = rw (place, piece, first) (ap (runs_from g 0 0) (let e : cells g ≡ cells g - 0 = omega arith in e));
  opened = omega arith;
  opened_start = rw (first_start, first) (sym (start-zero g));
  opened_send = rw (first_send, first) (sym (send-zero g));
}

-- numbers stay small
pub record IsSmall (g : Shape) (p : Position) : Type 0 where
  pub place : p.place < MAX_TOTAL
  pub piece : p.piece < MAX_TOTAL
  pub start : p.start < end g p.place
  pub end : end g p.place ≤ MAX_TOTAL
  pub send : p.send.part < MAX_PARTS
  pub recv : p.recv.part < MAX_PARTS
  pub send_end : p.send.end ≤ MAX_TOTAL
  pub recv_end : p.recv.end ≤ MAX_TOTAL
  pub send_bytes : p.send.bytes ≤ MAX_PART_BYTES
  pub recv_bytes : p.recv.bytes ≤ MAX_PART_BYTES
  pub first_start : p.first_start ≤ p.start
  pub first_send : p.first_send ≤ p.send.part

-- before a cell, the numbers of a position keep these limits, so that no sum wraps
pub small : (g : Shape) (p : Position) → IsBefore g p → p.place < cells g → IsSmall g p
small g p b inside =
    let v = b.shape in let l = v.length in let same = v.same in
    let few = cells-le g v in
    let rise = start-rises g v p.place inside in
    let e = end-start g p.place in
    let within = start-within g v (p.place + 1) (omega arith) in
    let starts = b.starts in
    let s = send-below g v p.place inside in let r = recv-below g v p.place inside in
    let sp = v.send_parts.1 in let rp = v.recv_parts.1 in
    let ss = b.sends.stands in let rs = b.recvs.stands in
    let se = b.sends.ends in let re = b.recvs.ends in
    let send_in : (send_of g p.place + 1) * g.send_bytes ≤ g.send_parts * g.send_bytes = mul-le _ g.send_bytes _ g.send_bytes (omega arith) (omega arith) in
    let recv_in : (recv_of g p.place + 1) * g.recv_bytes ≤ g.recv_parts * g.recv_bytes = mul-le _ g.recv_bytes _ g.recv_bytes (omega arith) (omega arith) in
    let before = start-le g v p.first p.place b.opened b.inside in
    let earlier = send-mono g v p.first p.place b.opened b.inside in
    let fs = b.opened_start in let fp = b.opened_send in
    let number = piece-before g p b inside in
    let piece_in = (piece_of-holds g p.place inside).inside in
    let pieces_few = pieces-le g in
    let sb = b.sends.size in let rb = b.recvs.size in let sm = v.send_bytes.1 in let rm = v.recv_bytes.1 in
    record {
      place = omega arith;
      piece = omega arith;
      start = omega arith;
      end = omega arith;
      send = omega arith;
      recv = omega arith;
      send_end = omega arith;
      recv_end = omega arith;
      send_bytes = omega arith;
      recv_bytes = omega arith;
      first_start = omega arith;
      first_send = omega arith;
    }

-- the last cell is the one that ends at the total
pub total-closes : (g : Shape) (v : IsShape g) (c : ℕ) → c < cells g → (end g c == send_total g) ≡ (c + 1 == cells g)
total-closes g v c inside =
    let e = end-start g c in
    elim (cases_eq (c + 1) (cells g)) [
      | inl last ↦ eq-eqb _ _ (e ∙ ap (start g) last ∙ start-last g v) ∙ sym (eq-eqb _ _ last)
      | inr other ↦ ne_eqb _ _ (let h = start-below g v (c + 1) (omega arith) in λ z. absurd (omega arith)) ∙ sym (ne_eqb _ _ other)
    ]

-- a side made at place 0 stands in its first partition
pub first_side : (bytes n : ℕ) (side : SidePart) → side ≡ record { part = 0; end = n; bytes = n } → n ≡ bytes → IsSide 0 bytes side
first_side bytes n side is same = rw (is, same) (record { stands = refl; size = refl; ends = omega arith })

-- a walk behind the last cell gives none
pub no_next : (g : Shape) (c : ℕ) → c ≡ cells g → next_cell record { shape = g; place = c } ≡ None
no_next g c last = cond-false _ _ _ (le-ltb c (cells g) (omega arith))

-- and stays where it is
pub stays : (g : Shape) (c : ℕ) → c ≡ cells g → passed record { shape = g; place = c } ≡ record { shape = g; place = c }
stays g c last = rw (le-ltb c (cells g) (omega arith)) refl

-- a walk before a cell gives that cell
pub some_next : (g : Shape) (c : ℕ) → c < cells g → next_cell record { shape = g; place = c } ≡ Some (cell_at g c)
some_next g c inside = cond-true _ _ _ (lt-ltb c (cells g) inside)

-- and goes on behind it
pub goes : (g : Shape) (c : ℕ) → c < cells g → passed record { shape = g; place = c } ≡ record { shape = g; place = c + 1 }
goes g c inside = rw (lt-ltb c (cells g) inside) refl

-- a run of `grain` bytes is closed
pub closes-long : (g : Shape) (f c : ℕ) → g.grain ≤ end g c - start g f → closes g f c ≡ true
closes-long g f c long = rw (le-leb _ _ long) refl

-- a run that touches 32 send partitions is closed
pub closes-wide : (g : Shape) (f c : ℕ) → 32 ≤ touched g f c → closes g f c ≡ true
closes-wide g f c wide = let e = le-leb 32 (touched g f c) wide in
    elim (cases_Bool (nat_le g.grain (end g c - start g f))) [ inl y ↦ rw y refl | inr n ↦ rw (n, e) refl ]

-- a shorter and narrower run is closed exactly where its last cell ends at the end of the message
pub closes-total : (g : Shape) (v : IsShape g) (f c : ℕ) → c < cells g → end g c - start g f < g.grain → touched g f c < 32
    → (end g c == send_total g) ≡ closes g f c
closes-total g v f c inside short narrow = rw (lt-leb _ _ short, lt-leb _ _ narrow) (total-closes g v c inside)
