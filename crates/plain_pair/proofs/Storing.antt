-- A send partition's bytes are stored cell by cell. A cell lies in one receive partition, so it is one copy into one
-- buffer; the places stored so far are those from the partition's start to the cell's.
use Rattle.std.proofs.Common.{◌≡◌, ◌≢◌, ◌⊎◌, ℕ, ◌+◌, ◌-◌, ◌*◌, ◌/◌, ◌%◌, ◌<◌, ◌≤◌, List, [], length, drop, get_or, refl, ap, sym, ◌∙◌, arith, inl, inr}
use Rattle.std.proofs.Math.Nat.{mul-div_left, zero-div, zero-mul, div-eq_of_lt-le}
use Rattle.std.proofs.lemmas.Bool.{cases_lt, cases_eq}
use Rattle.std.proofs.lemmas.List.{length-set, get_or-set_same, get_or-set_other, get_or-take, get_or-drop, length-take-le, length-drop}
use Rattle.part_geometry.specs.Shape.{Shape, IsShape}
use Rattle.part_geometry.specs.Cells.{cells, start, end, send_of, recv_of}
use Rattle.part_geometry.proofs.Bounds.{start-zero, start-rises, end-start}
use Rattle.part_geometry.proofs.Parts.{send_end-le, send-next-same, send-last, recv_end-le, recv-below, start-le, send-mono}
use Rattle.part_geometry.proofs.PieceFacts.{send-step}
use Rattle.part_geometry.proofs.Rows.{send-row}
use Rattle.plain_pair.specs.declared.tables.Row.TheVariants.{Send}
use Rattle.plain_pair.specs.Tables.{AreCellsOf}
use Rattle.plain_pair.specs.Written.{written}
use Rattle.plain_pair.specs.Stored.{byte_in, Stores, HasRoom, CanStore, cell_piece, cell_offset, cell_stored}
use Rattle.plain_pair.proofs.Writing.{length-written, written-inside, written-before, written-behind}

-- the first cell of a send partition starts where the partition does
start-of : (g : Shape) (v : IsShape g) (c : ℕ) → c ≤ cells g → (0 < c → send_of g (c - 1) < send_of g c) → start g c ≡ send_of g c * g.send_bytes
unfolding send_of
start-of g v c inside new =
    elim (cases_lt 0 c) [
      | inl some ↦
          let less = new some in
          let p = c - 1 in
          let e : p + 1 ≡ c = omega arith in
          let there : end g p ≡ start g c = end-start g p ∙ ap (start g) e in
          let le = send_end-le g v p (omega arith) in
          elim (cases_lt (end g p) ((send_of g p + 1) * g.send_bytes)) [
            | inl below ↦
                let same = send-next-same g v p (omega arith) below in
                let z : send_of g (p + 1) ≡ send_of g c = ap (send_of g) e in absurd (omega arith)
            | inr at_end ↦
                let is : start g c ≡ (send_of g p + 1) * g.send_bytes = omega arith in
                let low : (start g p / g.send_bytes + 1) * g.send_bytes ≤ start g c = omega arith in
                let quotient : start g c / g.send_bytes ≡ send_of g p + 1 = ap (λ n. n / g.send_bytes) is ∙ mul-div_left (send_of g p + 1) (omega (arith, v.send_bytes.0)) in
                is ∙ ap (λ n. n * g.send_bytes) (sym quotient)
          ]
      | inr none ↦
          let z : c ≡ 0 = omega arith in
          let s = start-zero g in
          let e : start g c ≡ 0 = ap (start g) z ∙ s in
          e ∙ sym (ap (λ n. n / g.send_bytes * g.send_bytes) e ∙ ap (λ n. n * g.send_bytes) (zero-div g.send_bytes) ∙ zero-mul g.send_bytes)
    ]

-- where the cells of a send partition begin and end
pub part_places : (g : Shape) (v : IsShape g) (p first next : ℕ) → p < g.send_parts → AreCellsOf Send g p first next
    → (start g first ≡ p * g.send_bytes) × (start g next ≡ (p + 1) * g.send_bytes)
part_places g v p first next inside is =
    let some = is.some in let within = is.inside in
    let here = is.numbered first (omega arith) some in
    let last = is.numbered (next - 1) (omega arith) (omega arith) in
    let before : 0 < first → send_of g (first - 1) < send_of g first = λ pos.
    let up = send-mono g v (first - 1) first (omega arith) (omega arith) in
    elim (cases_lt (send_of g (first - 1)) (send_of g first)) [
      | inl ok ↦ ok
      | inr same ↦ let a = is.all (first - 1) (omega arith) (omega arith) in let low = a.0 in absurd (omega arith)
    ] in
    let number : send_of g next ≡ p + 1 =
    elim (cases_lt next (cells g)) [
      | inl more ↦
          let e : next - 1 + 1 ≡ next = omega arith in
          let step = send-step g v (next - 1) (omega arith) in
          let z : send_of g (next - 1 + 1) ≡ send_of g next = ap (send_of g) e in
          let up = send-mono g v (next - 1) next (omega arith) within in
          elim (cases_lt p (send_of g next)) [
            | inl ok ↦ omega arith
            | inr same ↦ let a = is.all next more (omega arith) in let high = a.1 in absurd (omega arith)
          ]
      | inr none ↦
          let e : next ≡ cells g = omega arith in
          let l = ap (send_of g) e ∙ send-last g v in
          let row = send-row g v in
          let z : send_of g (next - 1) ≡ send_of g (cells g - 1) = ap (λ n. send_of g (n - 1)) e in
          let count = row.last in omega arith
    ] in
    let a = start-of g v first (omega arith) before in
    let b = start-of g v next within (λ pos. omega arith) in
    (a ∙ ap (λ n. n * g.send_bytes) here, b ∙ ap (λ n. n * g.send_bytes) number)

-- before the first cell nothing is stored
pub stored_none : (g : Shape) (base low : ℕ) (bytes : List ℕ) (old : List (List ℕ)) → Stores g base low low bytes old old
stored_none g base low bytes old = record {
  size = refl;
  sizes = λ j. refl;
  here = λ x low_ high. absurd (omega arith);
  elsewhere = λ x inside out. refl;
  apart = λ j out. refl;
}

-- the numbers of a cell's write
pub record Numbers (g : Shape) (base low c : ℕ) (bytes : List ℕ) (mid : List (List ℕ)) : Type 0 where
  pub rises : start g c < end g c
  pub starts : recv_of g c * g.recv_bytes ≤ start g c
  pub ends : end g c ≤ (recv_of g c + 1) * g.recv_bytes
  pub next : (recv_of g c + 1) * g.recv_bytes ≡ recv_of g c * g.recv_bytes + g.recv_bytes
  pub size : length (cell_piece g low c bytes) ≡ end g c - start g c
  pub fits : cell_offset g c + length (cell_piece g low c bytes) ≤ length (get_or mid (base + recv_of g c) [])

-- what is cut out for a cell is as long as the cell, and fits into its buffer at the cell's place
pub numbers : (g : Shape) (base low c : ℕ) (bytes : List ℕ) (mid : List (List ℕ)) → CanStore g base low c bytes mid → Numbers g base low c bytes mid
unfolding recv_of
numbers g base low c bytes mid w =
    let v = w.shape in
    let rise = start-rises g v c w.cell in let e = end-start g c in
    let pos : 0 < g.recv_bytes = omega (arith, v.recv_bytes.0) in
    let starts : start g c / g.recv_bytes * g.recv_bytes ≤ start g c = omega arith in
    let le = recv_end-le g v c w.cell in
    let split : (start g c / g.recv_bytes + 1) * g.recv_bytes ≡ start g c / g.recv_bytes * g.recv_bytes + g.recv_bytes = omega arith in
    let hl = w.high_le in let ll = w.low_le in
    let t = length-take-le (end g c - low - (start g c - low)) (drop (start g c - low) bytes) (let d = length-drop (start g c - low) bytes in omega arith) in
    let size : length (cell_piece g low c bytes) ≡ end g c - start g c = t ∙ (let z : end g c - low - (start g c - low) ≡ end g c - start g c = omega arith in z) in
    let room = w.room in
    record { rises = omega arith; starts = starts; ends = le; next = split; size = size; fits = omega arith }

-- a place in another receive partition is in another buffer
quotient_is : (x q r : ℕ) → 0 < r → q * r ≤ x → x < (q + 1) * r → x / r ≡ q
quotient_is x q r pos low high = div-eq_of_lt-le r low high

-- a place of the cell has the byte that is written for it
inside_cell : (g : Shape) (base low c : ℕ) (bytes : List ℕ) (mid : List (List ℕ)) → CanStore g base low c bytes mid → (x : ℕ) → start g c ≤ x → x < end g c
    → byte_in g (cell_stored g base low c bytes mid) base x ≡ get_or bytes (x - low) 0
inside_cell g base low c bytes mid w x from to =
    let n = numbers g base low c bytes mid w in
    let v = w.shape in
    let pos : 0 < g.recv_bytes = omega (arith, v.recv_bytes.0) in
    let ns = n.starts in let ne = n.ends in let nn = n.next in let nz = n.size in let nf = n.fits in
    let q : x / g.recv_bytes ≡ recv_of g c = quotient_is x (recv_of g c) g.recv_bytes pos (omega arith) (omega arith) in
    let o : x % g.recv_bytes ≡ x - recv_of g c * g.recv_bytes = (let m = ap (λ z. z * g.recv_bytes) q in omega arith) in
    let there = get_or-set_same mid (base + recv_of g c) (written (get_or mid (base + recv_of g c) []) (cell_offset g c) (cell_piece g low c bytes)) [] w.index in
    let byte = written-inside (get_or mid (base + recv_of g c) []) (cell_piece g low c bytes) (cell_offset g c) (x - recv_of g c * g.recv_bytes) nf (omega arith) (omega arith) in
    let place : x - recv_of g c * g.recv_bytes - cell_offset g c ≡ x - start g c = omega arith in
    let ll = w.low_le in
    rw (q, o, there, byte, place)
    (get_or-take (end g c - low - (start g c - low)) (drop (start g c - low) bytes) (x - start g c) 0 (omega arith)
    ∙ get_or-drop (start g c - low) bytes (x - start g c) 0 ∙ ap (λ z. get_or bytes z 0) (let z : start g c - low + (x - start g c) ≡ x - low = omega arith in z))

-- and each other place keeps its byte
outside_cell : (g : Shape) (base low c : ℕ) (bytes : List ℕ) (mid : List (List ℕ)) → CanStore g base low c bytes mid → (x : ℕ) → (x < start g c) ⊎ (end g c ≤ x)
    → byte_in g (cell_stored g base low c bytes mid) base x ≡ byte_in g mid base x
outside_cell g base low c bytes mid w x out =
    let n = numbers g base low c bytes mid w in
    let v = w.shape in
    let pos : 0 < g.recv_bytes = omega (arith, v.recv_bytes.0) in
    let ns = n.starts in let ne = n.ends in let nn = n.next in let nz = n.size in let nf = n.fits in let nr = n.rises in
    let B = get_or mid (base + recv_of g c) [] in
    elim (cases_eq (x / g.recv_bytes) (recv_of g c)) [
      | inl q ↦
          let o : x % g.recv_bytes ≡ x - recv_of g c * g.recv_bytes = (let m = ap (λ z. z * g.recv_bytes) q in omega arith) in
          let low_is : recv_of g c * g.recv_bytes ≤ x = (let m = ap (λ z. z * g.recv_bytes) q in omega arith) in
          let there = get_or-set_same mid (base + recv_of g c) (written B (cell_offset g c) (cell_piece g low c bytes)) [] w.index in
          let byte : get_or (written B (cell_offset g c) (cell_piece g low c bytes)) (x % g.recv_bytes) 0 ≡ get_or B (x % g.recv_bytes) 0 =
          elim out [
            | inl below ↦ written-before B (cell_piece g low c bytes) (cell_offset g c) (x % g.recv_bytes) nf (omega arith)
            | inr above ↦ written-behind B (cell_piece g low c bytes) (cell_offset g c) (x % g.recv_bytes) nf (omega arith)
          ] in
          ap (λ j. get_or (get_or (cell_stored g base low c bytes mid) (base + j) []) (x % g.recv_bytes) 0) q
          ∙ ap (λ buffer. get_or buffer (x % g.recv_bytes) 0) there ∙ byte
          ∙ ap (λ j. get_or (get_or mid (base + j) []) (x % g.recv_bytes) 0) (sym q)
      | inr other ↦
          let apart : base + x / g.recv_bytes ≢ base + recv_of g c = λ e. other (omega arith) in
          ap (λ buffer. get_or buffer (x % g.recv_bytes) 0) (get_or-set_other mid (base + recv_of g c) (base + x / g.recv_bytes) _ [] apart)
    ]

-- after one cell more all is stored up to its end
pub stored_more : (g : Shape) (base low c : ℕ) (bytes : List ℕ) (old mid : List (List ℕ)) → CanStore g base low c bytes mid
    → Stores g base low (start g c) bytes old mid → Stores g base low (end g c) bytes old (cell_stored g base low c bytes mid)
stored_more g base low c bytes old mid w s =
    let n = numbers g base low c bytes mid w in
    let nr = n.rises in
    let B = get_or mid (base + recv_of g c) [] in
    record {
      size = length-set mid (base + recv_of g c) _ ∙ s.size;
      sizes = λ j. elim (cases_eq j (base + recv_of g c)) [
        | inl same ↦ ap (λ k. length (get_or (cell_stored g base low c bytes mid) k [])) same
            ∙ ap length (get_or-set_same mid (base + recv_of g c) (written B (cell_offset g c) (cell_piece g low c bytes)) [] w.index)
            ∙ length-written B (cell_piece g low c bytes) (cell_offset g c) n.fits ∙ ap (λ k. length (get_or mid k [])) (sym same) ∙ s.sizes j
        | inr other ↦ ap length (get_or-set_other mid (base + recv_of g c) j _ [] other) ∙ s.sizes j
      ];
      here = λ x from to. elim (cases_lt x (start g c)) [
        | inl before ↦ outside_cell g base low c bytes mid w x (inl before) ∙ s.here x from before
        | inr inside ↦ inside_cell g base low c bytes mid w x inside to
      ];
      elsewhere = λ x inside out.
          let ll = w.low_le in
          let apart : (x < start g c) ⊎ (end g c ≤ x) = elim out [ inl below ↦ inl (omega arith) | inr above ↦ inr above ] in
          let before : (x < low) ⊎ (start g c ≤ x) = elim out [ inl below ↦ inl below | inr above ↦ inr (omega arith) ] in
          outside_cell g base low c bytes mid w x apart ∙ s.elsewhere x inside before;
      apart = λ j out.
          let q = recv-below g w.shape c w.cell in
          get_or-set_other mid (base + recv_of g c) j _ [] (λ e. elim out [ inl below ↦ absurd (omega arith) | inr above ↦ absurd (omega arith) ]) ∙ s.apart j out;
    }

-- each cell of the partition can be stored in its turn
pub can_store : (g : Shape) (v : IsShape g) (p first next c base low : ℕ) (bytes : List ℕ) (old mid : List (List ℕ)) → p < g.send_parts
    → AreCellsOf Send g p first next → first ≤ c → c < next → length bytes ≡ g.send_bytes → base + g.recv_parts ≤ length old
    → HasRoom g base (p * g.send_bytes) ((p + 1) * g.send_bytes) old → Stores g base (p * g.send_bytes) (start g c) bytes old mid
    → low ≡ start g first → CanStore g base low c bytes mid
unfolding recv_of
can_store g v p first next c base low bytes old mid inside is from to size enough room s low_is =
    let places = part_places g v p first next inside is in
    let within = is.inside in
    let cell : c < cells g = omega arith in
    let a = start-le g v first c from (omega arith) in
    let b = start-le g v (c + 1) next (omega arith) within in
    let rise = start-rises g v c cell in
    let e = end-start g c in
    let z : (p + 1) * g.send_bytes ≡ p * g.send_bytes + g.send_bytes = omega arith in
    let p0 = places.0 in let p1 = places.1 in
    let q = recv-below g v c cell in
    let sz = s.size in
    record {
      shape = v;
      cell = cell;
      low_le = omega arith;
      high_le = omega arith;
      index = omega arith;
      room = s.sizes (base + start g c / g.recv_bytes) ∙ room (start g c) (omega arith) (omega arith);
    }
