-- The bytes of cells in a row, put together: those of a receive partition's cells are the partition's, and cuts of a
-- send partition's bytes are those bytes. By induction over the list, as each cell starts where the one before ends.
-- `Each k xs` says of a list what its items have of the cells k, k + 1 and so on.
use Rattle.std.proofs.Common.{◌≡◌, ℕ, suc, add-zero, ◌+◌, ◌-◌, ◌*◌, ◌<◌, ◌≤◌, List, [], ◌∷◌, ◌++◌, length, refl, ap, sym, ◌∙◌, arith}
use Rattle.std.specs.List.{flat_map}
use Rattle.part_geometry.specs.Shape.{Shape, IsShape}
use Rattle.part_geometry.specs.Cells.{cells, start, end, send_of, recv_of}
use Rattle.part_geometry.proofs.Bounds.{end-start}
use Rattle.part_geometry.proofs.Parts.{start-le}
use Rattle.part_geometry.proofs.Rows.{send-row, recv-row}
use Rattle.part_tables.specs.Parts.{first_sent, first_received}
use Rattle.part_tables.specs.Bytes.{bytes_between, byte_at, cell_bytes, part_bytes, cut}
use Rattle.part_tables.proofs.CountFacts.{before-le, before-mono}
use Rattle.part_tables.proofs.PartFacts.{send_side, recv_side, start-first}
use Rattle.part_tables.proofs.ByteFacts.{bytes_between-joined, bytes_between-nothing, cut-is_lem, sent_bytes_lem}

-- if each item of a list has the bytes of its cell, the items for the cells from k on have, put together, the bytes
-- from the start of cell k to the start of the cell behind them
pub row-bytes : {X : Type 0} (content : X → List ℕ) (g : Shape) → IsShape g → (f : ℕ → ℕ) (low high : ℕ) → high ≤ cells g → (Each : ℕ → List X → Type 0)
    → ((k : ℕ) (x : X) (xs : List X) → low ≤ k → k < high → Each k (x ∷ xs) → (content x ≡ bytes_between f (start g k) (end g k)) × Each (suc k) xs)
    → (k : ℕ) (xs : List X) → low ≤ k → k + length xs ≤ high → Each k xs → flat_map content xs ≡ bytes_between f (start g k) (start g (k + length xs))
row-bytes {X} content g v f low high within Each step k [] from upto each =
    sym (bytes_between-nothing f (start g k) (start g (k + length {A = X} [])) (ap (start g) (sym (add-zero k))))
row-bytes {X} content g v f low high within Each step k (x ∷ xs) from upto each =
    let h = step k x xs from (omega arith) each in
    let rest = row-bytes content g v f low high within Each step (suc k) xs (omega arith) (omega arith) h.1 in
    let after : end g k ≡ start g (suc k) = end-start g k ∙ ap (start g) (let z : k + 1 ≡ suc k = omega arith in z) in
    let last : suc k + length xs ≡ k + suc (length xs) = omega arith in
    let up = start-le g v k (suc k) (omega arith) (omega arith) in
    let upper = start-le g v (suc k) (suc k + length xs) (omega arith) (omega arith) in
    ap (λ ys. ys ++ flat_map content xs) h.0
    ∙ ap (λ ys. bytes_between f (start g k) (end g k) ++ ys) rest
    ∙ ap (λ z. bytes_between f (start g k) z ++ bytes_between f (start g (suc k)) (start g (suc k + length xs))) after
    ∙ bytes_between-joined f (start g k) (start g (suc k)) (start g (suc k + length xs)) up upper
    ∙ ap (λ n. bytes_between f (start g k) (start g n)) last

-- items for all cells of a receive partition, each with its cell's bytes, have the partition's bytes together
pub received-row_lem : {X : Type 0} (content : X → List ℕ) (g : Shape) → IsShape g → (marked : ℕ → List ℕ) (q : ℕ) → q < g.recv_parts → (Each : ℕ → List X → Type 0)
    → ((k : ℕ) (x : X) (xs : List X) → first_received g q ≤ k → k < first_received g (q + 1) → Each k (x ∷ xs) → (content x ≡ cell_bytes g marked k) × Each (suc k) xs)
    → (xs : List X) → length xs ≡ first_received g (q + 1) - first_received g q → Each (first_received g q) xs
    → flat_map content xs ≡ part_bytes g marked q
unfolding first_received
received-row_lem content g v marked q inside Each step xs size each =
    let row = recv-row g v in
    let first = first_received g q in
    let after = first_received g (q + 1) in
    let order = before-mono (recv_of g) (cells g) g.recv_parts row q (q + 1) (omega arith) in
    let few = before-le (recv_of g) (cells g) g.recv_parts row (q + 1) in
    let last : first + length xs ≡ after = omega arith in
    let from = start-first g (recv_of g) g.recv_parts g.recv_bytes (recv_side g v) q (omega arith) in
    let upto = start-first g (recv_of g) g.recv_parts g.recv_bytes (recv_side g v) (q + 1) (omega arith) in
    row-bytes content g v (byte_at g marked) first after few Each step first xs (omega arith) (omega arith) each
    ∙ ap (λ z. bytes_between (byte_at g marked) z (start g (first + length xs))) from
    ∙ ap (λ n. bytes_between (byte_at g marked) (q * g.recv_bytes) (start g n)) last
    ∙ ap (λ z. bytes_between (byte_at g marked) (q * g.recv_bytes) z) upto

-- items for all cells of a send partition, each with its cell's cut of b, have b together
pub sent-row_lem : {X : Type 0} (content : X → List ℕ) (g : Shape) → IsShape g → (p : ℕ) (b : List ℕ) → p < g.send_parts → length b ≡ g.send_bytes → (Each : ℕ → List X → Type 0)
    → ((k : ℕ) (x : X) (xs : List X) → first_sent g p ≤ k → k < first_sent g (p + 1) → Each k (x ∷ xs) → (content x ≡ cut g k b) × Each (suc k) xs)
    → (xs : List X) → length xs ≡ first_sent g (p + 1) - first_sent g p → Each (first_sent g p) xs
    → flat_map content xs ≡ b
unfolding first_sent
sent-row_lem {X} content g v p b inside size Each step xs count each =
    let row = send-row g v in
    let marked : ℕ → List ℕ = λ _. b in
    let first = first_sent g p in
    let after = first_sent g (p + 1) in
    let order = before-mono (send_of g) (cells g) g.send_parts row p (p + 1) (omega arith) in
    let few = before-le (send_of g) (cells g) g.send_parts row (p + 1) in
    let last : first + length xs ≡ after = omega arith in
    let from = start-first g (send_of g) g.send_parts g.send_bytes (send_side g v) p (omega arith) in
    let upto = start-first g (send_of g) g.send_parts g.send_bytes (send_side g v) (p + 1) (omega arith) in
    row-bytes content g v (byte_at g marked) first after few Each
    (λ (k : ℕ) (x : X) (ys : List X) low high now. let h = step k x ys low high now in (h.0 ∙ cut-is_lem g v marked k b (omega arith) refl size, h.1))
    first xs (omega arith) (omega arith) each
    ∙ ap (λ z. bytes_between (byte_at g marked) z (start g (first + length xs))) from
    ∙ ap (λ n. bytes_between (byte_at g marked) (p * g.send_bytes) (start g n)) last
    ∙ ap (λ z. bytes_between (byte_at g marked) (p * g.send_bytes) z) upto
    ∙ sent_bytes_lem g v marked p size
