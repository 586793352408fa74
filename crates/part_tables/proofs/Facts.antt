-- The facts that a pair uses of its geometry: the cells of partitions and pieces, and the bytes of cells. All hold of a
-- geometry within its limits. They are put together here, in one form for both sides, from what the other files prove
-- of rows of cells and of bytes by place.
use Rattle.std.proofs.Common.{◌≡◌, ◌↔◌, ℕ, suc, add-zero, ◌+◌, ◌-◌, ◌*◌, ◌<◌, ◌≤◌, List, [], ◌∷◌, ◌++◌, length, get_or, ap, ◌∙◌, arith}
use Rattle.std.specs.List.{flat_map}
use Rattle.std.proofs.lemmas.List.FromFn.{length-map-range_with_len, get_or-map-range_with_len}
use Rattle.part_geometry.specs.Shape.{Shape, IsShape}
use Rattle.part_geometry.specs.Cells.{cells, start, end, send_of, recv_of}
use Rattle.part_geometry.specs.Pieces.{pieces, piece_of, first_cell, last_cell, Touches}
use Rattle.part_geometry.proofs.Rows.{row-le, row-below, send-row, recv-row, piece-row}
use Rattle.part_tables.specs.Parts.{first_sent, first_received, first_shared, after_shared}
use Rattle.part_tables.specs.Bytes.{bytes_between, byte_at, cell_bytes, part_bytes, cut}
use Rattle.part_tables.proofs.CountFacts.{in_part, before-none, before-all, before-le, before-mono, before-rises, before-first}
use Rattle.part_tables.proofs.PartFacts.{send_side, recv_side, start-first, end-last}
use Rattle.part_tables.proofs.ShareFacts.{in_piece_lem, in_shared_lem, shared-some_lem, touched-range, shared-next_lem, shared-first_lem, shared-last_lem}
use Rattle.part_tables.proofs.ByteFacts.{bytes_between-joined, length-cut_lem, cut-is_lem, cell_bytes-agree_lem, sent_bytes_lem}
use Rattle.part_tables.proofs.RowFacts.{received-row_lem, sent-row_lem}
pub use Rattle.part_tables.proofs.ByteFacts.{IsInside, cell-inside, byte_in}

-- ---- the cells of a send partition

-- the cells of a send partition are those from its first up to and without the first of the next partition
pub in_sent : (g : Shape) → IsShape g → (p c : ℕ) → c < cells g → (send_of g c ≡ p) ↔ ((first_sent g p ≤ c) × (c < first_sent g (p + 1)))
unfolding first_sent
in_sent g v p c inside = in_part (send_of g) (cells g) g.send_parts (send-row g v) p c inside

-- send partition 0 begins with cell 0
pub first_sent-zero : (g : Shape) → first_sent g 0 ≡ 0
unfolding first_sent
first_sent-zero g = before-none (send_of g) (cells g)

-- behind the last send partition stands the number of cells
pub first_sent-all : (g : Shape) → IsShape g → first_sent g g.send_parts ≡ cells g
unfolding first_sent
first_sent-all g v = before-all (send_of g) (cells g) g.send_parts (send-row g v)

-- no send partition begins behind the number of cells
pub first_sent-le : (g : Shape) → IsShape g → (p : ℕ) → first_sent g p ≤ cells g
unfolding first_sent
first_sent-le g v p = before-le (send_of g) (cells g) g.send_parts (send-row g v) p

-- a later send partition begins no earlier
pub first_sent-mono : (g : Shape) → IsShape g → (p q : ℕ) → p ≤ q → first_sent g p ≤ first_sent g q
unfolding first_sent
first_sent-mono g v p q order = before-mono (send_of g) (cells g) g.send_parts (send-row g v) p q order

-- each send partition has a cell: it begins before the next one does
pub first_sent-rises : (g : Shape) → IsShape g → (p : ℕ) → p < g.send_parts → first_sent g p < first_sent g (p + 1)
unfolding first_sent
first_sent-rises g v p inside = before-rises (send_of g) (cells g) g.send_parts (send-row g v) p inside

-- a send partition's first cell lies in it
pub send_of-first_sent : (g : Shape) → IsShape g → (p : ℕ) → p < g.send_parts → send_of g (first_sent g p) ≡ p
unfolding first_sent
send_of-first_sent g v p inside = before-first (send_of g) (cells g) g.send_parts (send-row g v) p inside

-- a send partition's first cell starts where the partition does; behind the last one, at the end of the message
pub start-first_sent : (g : Shape) → IsShape g → (p : ℕ) → p ≤ g.send_parts → start g (first_sent g p) ≡ p * g.send_bytes
unfolding first_sent
start-first_sent g v p inside = start-first g (send_of g) g.send_parts g.send_bytes (send_side g v) p inside

-- its last cell ends where the partition does
pub end-last_sent : (g : Shape) → IsShape g → (p : ℕ) → p < g.send_parts → end g (first_sent g (p + 1) - 1) ≡ (p + 1) * g.send_bytes
unfolding first_sent
end-last_sent g v p inside = end-last g (send_of g) g.send_parts g.send_bytes (send_side g v) p inside

-- ---- the cells of a receive partition

-- the cells of a receive partition are those from its first up to and without the first of the next partition
pub in_received : (g : Shape) → IsShape g → (q c : ℕ) → c < cells g → (recv_of g c ≡ q) ↔ ((first_received g q ≤ c) × (c < first_received g (q + 1)))
unfolding first_received
in_received g v q c inside = in_part (recv_of g) (cells g) g.recv_parts (recv-row g v) q c inside

-- receive partition 0 begins with cell 0
pub first_received-zero : (g : Shape) → first_received g 0 ≡ 0
unfolding first_received
first_received-zero g = before-none (recv_of g) (cells g)

-- behind the last receive partition stands the number of cells
pub first_received-all : (g : Shape) → IsShape g → first_received g g.recv_parts ≡ cells g
unfolding first_received
first_received-all g v = before-all (recv_of g) (cells g) g.recv_parts (recv-row g v)

-- no receive partition begins behind the number of cells
pub first_received-le : (g : Shape) → IsShape g → (q : ℕ) → first_received g q ≤ cells g
unfolding first_received
first_received-le g v q = before-le (recv_of g) (cells g) g.recv_parts (recv-row g v) q

-- a later receive partition begins no earlier
pub first_received-mono : (g : Shape) → IsShape g → (p q : ℕ) → p ≤ q → first_received g p ≤ first_received g q
unfolding first_received
first_received-mono g v p q order = before-mono (recv_of g) (cells g) g.recv_parts (recv-row g v) p q order

-- each receive partition has a cell: it begins before the next one does
pub first_received-rises : (g : Shape) → IsShape g → (q : ℕ) → q < g.recv_parts → first_received g q < first_received g (q + 1)
unfolding first_received
first_received-rises g v q inside = before-rises (recv_of g) (cells g) g.recv_parts (recv-row g v) q inside

-- a receive partition's first cell lies in it
pub recv_of-first_received : (g : Shape) → IsShape g → (q : ℕ) → q < g.recv_parts → recv_of g (first_received g q) ≡ q
unfolding first_received
recv_of-first_received g v q inside = before-first (recv_of g) (cells g) g.recv_parts (recv-row g v) q inside

-- a receive partition's first cell starts where the partition does; behind the last one, at the end of the message
pub start-first_received : (g : Shape) → IsShape g → (q : ℕ) → q ≤ g.recv_parts → start g (first_received g q) ≡ q * g.recv_bytes
unfolding first_received
start-first_received g v q inside = start-first g (recv_of g) g.recv_parts g.recv_bytes (recv_side g v) q inside

-- its last cell ends where the partition does
pub end-last_received : (g : Shape) → IsShape g → (q : ℕ) → q < g.recv_parts → end g (first_received g (q + 1) - 1) ≡ (q + 1) * g.recv_bytes
unfolding first_received
end-last_received g v q inside = end-last g (recv_of g) g.recv_parts g.recv_bytes (recv_side g v) q inside

-- ---- the cells that a send partition and a piece share

-- the cells of a piece are those from its first to its last
pub in_piece : (g : Shape) → IsShape g → (i c : ℕ) → c < cells g → i < pieces g → (piece_of g c ≡ i) ↔ ((first_cell g i ≤ c) × (c ≤ last_cell g i))
in_piece g v i c cell inside = in_piece_lem g i c cell inside

-- a cell lies in the partition and in the piece exactly where it is one of the row that they are said to share
pub in_shared : (g : Shape) → IsShape g → (p i c : ℕ) → c < cells g → i < pieces g
    → ((send_of g c ≡ p) × (piece_of g c ≡ i)) ↔ ((first_shared g p i ≤ c) × (c < after_shared g p i))
in_shared g v p i c cell inside = in_shared_lem g v p i c cell inside

-- they share a cell exactly where they touch
pub shared-some : (g : Shape) → IsShape g → (p i : ℕ) → i < pieces g → Touches g i p ↔ (first_shared g p i < after_shared g p i)
shared-some g v p i inside = shared-some_lem g v p i inside

-- that row ends with the last cell, or before
pub after_shared-le : (g : Shape) → IsShape g → (p i : ℕ) → after_shared g p i ≤ cells g
after_shared-le g v p i = let few = first_sent-le g v (p + 1) in omega arith

-- the pieces that a partition touches are those from the piece of its first cell to that of its last
pub touched : (g : Shape) → IsShape g → (p i : ℕ) → p < g.send_parts → i < pieces g
    → Touches g i p ↔ ((piece_of g (first_sent g p) ≤ i) × (i ≤ piece_of g (first_sent g (p + 1) - 1)))
touched g v p i part inside = touched-range g v p i part inside

-- the piece of a partition's last cell is a piece, and not before that of its first cell
pub touched-some : (g : Shape) → IsShape g → (p : ℕ) → p < g.send_parts
    → (piece_of g (first_sent g p) ≤ piece_of g (first_sent g (p + 1) - 1)) × (piece_of g (first_sent g (p + 1) - 1) < pieces g)
touched-some g v p part =
    let row = piece-row g v in
    let rise = first_sent-rises g v p part in
    let few = first_sent-le g v (p + 1) in
    let first = first_sent g p in let last = first_sent g (p + 1) - 1 in (
      row-le (piece_of g) (cells g) (pieces g) row first last (omega arith) (omega arith),
      row-below (piece_of g) (cells g) (pieces g) row last (omega arith),
    )

-- what it shares with the first of them begins with its first cell
pub first_shared-first : (g : Shape) → IsShape g → (p : ℕ) → p < g.send_parts → first_shared g p (piece_of g (first_sent g p)) ≡ first_sent g p
first_shared-first g v p part = shared-first_lem g v p part

-- what it shares with the next begins where that with the one before ends
pub after_shared-next : (g : Shape) → IsShape g → (p i : ℕ) → i + 1 < pieces g → Touches g i p → Touches g (i + 1) p → after_shared g p i ≡ first_shared g p (i + 1)
after_shared-next g v p i inside here next = shared-next_lem g v p i inside here next

-- what it shares with the last of them ends with its last cell
pub after_shared-last : (g : Shape) → IsShape g → (p : ℕ) → p < g.send_parts → after_shared g p (piece_of g (first_sent g (p + 1) - 1)) ≡ first_sent g (p + 1)
after_shared-last g v p part = shared-last_lem g v p part

-- ---- bytes

-- the bytes from a to b and those from b to c, put together, are the bytes from a to c
pub bytes_between-append : (f : ℕ → ℕ) (a b c : ℕ) → a ≤ b → b ≤ c → bytes_between f a b ++ bytes_between f b c ≡ bytes_between f a c
bytes_between-append f a b c low high = bytes_between-joined f a b c low high

-- from a to b there are b - a bytes
pub length-bytes_between : (f : ℕ → ℕ) (a b : ℕ) → length (bytes_between f a b) ≡ b - a
length-bytes_between f a b = length-map-range_with_len f a (b - a)

-- the byte at x of them is that of the place a + x
pub get_or-bytes_between : (f : ℕ → ℕ) (a b x : ℕ) → x < b - a → get_or (bytes_between f a b) x 0 ≡ f (a + x)
get_or-bytes_between f a b x inside = get_or-map-range_with_len f a (b - a) x (a + x) 0 inside (omega arith)

-- a cell has as many bytes as places
pub length-cell_bytes : (g : Shape) (marked : ℕ → List ℕ) (c : ℕ) → length (cell_bytes g marked c) ≡ end g c - start g c
length-cell_bytes g marked c = length-bytes_between (byte_at g marked) (start g c) (end g c)

-- a cell's cut of its send partition's bytes is as long as the cell
pub length-cut : (g : Shape) → IsShape g → (c : ℕ) (b : List ℕ) → c < cells g → length b ≡ g.send_bytes → length (cut g c b) ≡ end g c - start g c
length-cut g v c b inside size = length-cut_lem g v c b inside size

-- the bytes of a cell are cut out of those of its send partition
pub cut-is : (g : Shape) → IsShape g → (marked : ℕ → List ℕ) (c : ℕ) (b : List ℕ) → c < cells g → marked (send_of g c) ≡ b → length b ≡ g.send_bytes
    → cut g c b ≡ cell_bytes g marked c
cut-is g v marked c b inside is size = cut-is_lem g v marked c b inside is size

-- and depend on that partition alone
pub cell_bytes-agree : (g : Shape) → IsShape g → (marked others : ℕ → List ℕ) (c : ℕ) → c < cells g → marked (send_of g c) ≡ others (send_of g c)
    → cell_bytes g marked c ≡ cell_bytes g others c
cell_bytes-agree g v marked others c inside same = cell_bytes-agree_lem g v marked others c inside same

-- the bytes of a send partition by place
pub sent_bytes : (g : Shape) → IsShape g → (marked : ℕ → List ℕ) (p : ℕ) → length (marked p) ≡ g.send_bytes
    → bytes_between (byte_at g marked) (p * g.send_bytes) ((p + 1) * g.send_bytes) ≡ marked p
sent_bytes g v marked p size = sent_bytes_lem g v marked p size

-- a receive partition has `recv_bytes` bytes
pub length-part_bytes : (g : Shape) (marked : ℕ → List ℕ) (q : ℕ) → length (part_bytes g marked q) ≡ g.recv_bytes
length-part_bytes g marked q =
    length-bytes_between (byte_at g marked) (q * g.recv_bytes) ((q + 1) * g.recv_bytes) ∙ (let z : (q + 1) * g.recv_bytes - q * g.recv_bytes ≡ g.recv_bytes = omega arith in z)

-- the byte at x of a receive partition is that of the place x behind the partition's start
pub get_or-part_bytes : (g : Shape) (marked : ℕ → List ℕ) (q x : ℕ) → x < g.recv_bytes → get_or (part_bytes g marked q) x 0 ≡ byte_at g marked (q * g.recv_bytes + x)
get_or-part_bytes g marked q x inside =
    get_or-bytes_between (byte_at g marked) (q * g.recv_bytes) ((q + 1) * g.recv_bytes) x (let z : (q + 1) * g.recv_bytes ≡ q * g.recv_bytes + g.recv_bytes = omega arith in omega arith)

-- ---- cells in a row, put together: `Each k xs` says of a list what its items have of the cells k, k + 1 and so on

-- the cells of a receive partition one after another have its bytes
pub received-row : {X : Type 0} (content : X → List ℕ) (g : Shape) → IsShape g → (marked : ℕ → List ℕ) (q : ℕ) → q < g.recv_parts → (Each : ℕ → List X → Type 0)
    → ((k : ℕ) (x : X) (xs : List X) → first_received g q ≤ k → k < first_received g (q + 1) → Each k (x ∷ xs) → (content x ≡ cell_bytes g marked k) × Each (suc k) xs)
    → (xs : List X) → length xs ≡ first_received g (q + 1) - first_received g q → Each (first_received g q) xs
    → flat_map content xs ≡ part_bytes g marked q
received-row {X} content g v marked q inside Each step xs size each = received-row_lem {X = X} content g v marked q inside Each step xs size each

-- cuts of a send partition's bytes, one for each of its cells, have those bytes
pub sent-row : {X : Type 0} (content : X → List ℕ) (g : Shape) → IsShape g → (p : ℕ) (b : List ℕ) → p < g.send_parts → length b ≡ g.send_bytes → (Each : ℕ → List X → Type 0)
    → ((k : ℕ) (x : X) (xs : List X) → first_sent g p ≤ k → k < first_sent g (p + 1) → Each k (x ∷ xs) → (content x ≡ cut g k b) × Each (suc k) xs)
    → (xs : List X) → length xs ≡ first_sent g (p + 1) - first_sent g p → Each (first_sent g p) xs
    → flat_map content xs ≡ b
sent-row {X} content g v p b inside size Each step xs count each = sent-row_lem {X = X} content g v p b inside size Each step xs count each

-- the same of a list of byte lists, of which each is that of its cell by its place in the list
pub received-cells : (g : Shape) → IsShape g → (marked : ℕ → List ℕ) (q : ℕ) → q < g.recv_parts → (ys : List (List ℕ))
    → length ys ≡ first_received g (q + 1) - first_received g q
    → ((j : ℕ) → j < length ys → get_or ys j [] ≡ cell_bytes g marked (first_received g q + j))
    → flat_map (λ y. y) ys ≡ part_bytes g marked q
received-cells g v marked q inside ys size each =
    received-row (λ y. y) g v marked q inside
    (λ (k : ℕ) (xs : List (List ℕ)). (j : ℕ) → j < length xs → get_or xs j [] ≡ cell_bytes g marked (k + j))
    (λ (k : ℕ) (x : List ℕ) (xs : List (List ℕ)) low high now. (
      now 0 (omega arith) ∙ ap (cell_bytes g marked) (add-zero k),
      λ (j : ℕ) (below : j < length xs). now (suc j) (omega arith) ∙ ap (cell_bytes g marked) (let z : k + suc j ≡ suc k + j = omega arith in z),
    ))
    ys size each

-- and of a list of cuts of a send partition, of which each is that of its cell by its place in the list
pub sent-cells : (g : Shape) → IsShape g → (p : ℕ) (b : List ℕ) → p < g.send_parts → length b ≡ g.send_bytes → (ys : List (List ℕ))
    → length ys ≡ first_sent g (p + 1) - first_sent g p
    → ((j : ℕ) → j < length ys → get_or ys j [] ≡ cut g (first_sent g p + j) b)
    → flat_map (λ y. y) ys ≡ b
sent-cells g v p b inside size ys count each =
    sent-row (λ y. y) g v p b inside size
    (λ (k : ℕ) (xs : List (List ℕ)). (j : ℕ) → j < length xs → get_or xs j [] ≡ cut g (k + j) b)
    (λ (k : ℕ) (x : List ℕ) (xs : List (List ℕ)) low high now. (
      now 0 (omega arith) ∙ ap (λ c. cut g c b) (add-zero k),
      λ (j : ℕ) (below : j < length xs). now (suc j) (omega arith) ∙ ap (λ c. cut g c b) (let z : k + suc j ≡ suc k + j = omega arith in z),
    ))
    ys count each
