-- The bytes of a message by place: those of a cell lie in one send partition, so they can be cut out of its bytes, and
-- rows of places join.
use Rattle.std.proofs.Common.{◌≡◌, ℕ, zero, suc, zero-add, add-zero, ◌+◌, ◌-◌, ◌*◌, ◌/◌, ◌%◌, ◌<◌, ◌≤◌, List, ◌∷◌, ◌++◌, length, get_or, drop, map, refl, ap, sym, ◌∙◌, arith}
use Rattle.std.specs.List.{range_with_len}
use Rattle.std.proofs.Math.Nat.{div-eq_of_lt-le, suc-add}
use Rattle.std.proofs.lemmas.List.{ext_get_or, get_or-take, get_or-drop, length-take-le, length-drop}
use Rattle.std.proofs.lemmas.List.FromFn.{length-map-range_with_len, get_or-map-range_with_len}
use Rattle.part_geometry.specs.Shape.{Shape, IsShape}
use Rattle.part_geometry.specs.Cells.{cells, start, end, send_of}
use Rattle.part_geometry.proofs.Bounds.{start-rises, end-start}
use Rattle.part_geometry.proofs.Parts.{send_end-le}
use Rattle.part_geometry.proofs.ReaderFacts.{send-starts}
use Rattle.part_tables.specs.Bytes.{bytes_between, byte_at, cell_bytes, cut}

-- the values of f at m places and at the n behind them, put together, are those at m + n places
map-range-append : (f : ℕ → ℕ) (m n a : ℕ) → map f (range_with_len a m) ++ map f (range_with_len (a + m) n) ≡ map f (range_with_len a (m + n))
map-range-append f zero n a = rw (add-zero, zero-add) refl
map-range-append f (suc m) n a =
    let e : a + suc m ≡ a + 1 + m = omega arith in
    rw (suc-add, e) (ap (λ xs. f a ∷ xs) (map-range-append f m n (a + 1)))

-- the bytes from a to b and those from b to c, put together, are the bytes from a to c
pub bytes_between-joined : (f : ℕ → ℕ) (a b c : ℕ) → a ≤ b → b ≤ c → bytes_between f a b ++ bytes_between f b c ≡ bytes_between f a c
bytes_between-joined f a b c low high =
    let there : a + (b - a) ≡ b = omega arith in
    let size : b - a + (c - b) ≡ c - a = omega arith in
    ap (λ x. map f (range_with_len a (b - a)) ++ map f (range_with_len x (c - b))) (sym there)
    ∙ map-range-append f (b - a) (c - b) a ∙ ap (λ n. map f (range_with_len a n)) size

-- from a place to itself there are no bytes, which is said by a range of length 0
pub bytes_between-nothing : (f : ℕ → ℕ) (a b : ℕ) → a ≡ b → bytes_between f a b ≡ map f (range_with_len a 0)
bytes_between-nothing f a b same = ap (λ n. map f (range_with_len a n)) (let z : b - a ≡ 0 = omega arith in z)

-- the bytes of one row are those of another where each place has one byte
map-range-agree : (f h : ℕ → ℕ) (n a : ℕ) → ((x : ℕ) → a ≤ x → x < a + n → f x ≡ h x) → map f (range_with_len a n) ≡ map h (range_with_len a n)
map-range-agree f h zero a same = refl
map-range-agree f h (suc n) a same =
    let here = same a (omega arith) (omega arith) in
    let rest = map-range-agree f h n (a + 1) (λ x low high. same x (omega arith) (omega arith)) in
    ap (λ x. x ∷ map f (range_with_len (a + 1) n)) here ∙ ap (λ xs. h a ∷ xs) rest

-- the byte of a place in send partition p
pub byte_in : (g : Shape) → IsShape g → (marked : ℕ → List ℕ) (p x : ℕ) → p * g.send_bytes ≤ x → x < (p + 1) * g.send_bytes
    → byte_at g marked x ≡ get_or (marked p) (x - p * g.send_bytes) 0
byte_in g v marked p x low high =
    let quotient : x / g.send_bytes ≡ p = div-eq_of_lt-le g.send_bytes low high in
    let rest : x % g.send_bytes ≡ x - p * g.send_bytes = (let m = ap (λ z. z * g.send_bytes) quotient in omega arith) in
    ap (λ q. get_or (marked q) (x % g.send_bytes) 0) quotient ∙ ap (λ r. get_or (marked p) r 0) rest

-- the places of a cell lie in its send partition
pub record IsInside (g : Shape) (c : ℕ) : Type 0 where
  pub low : send_of g c * g.send_bytes ≤ start g c
  pub rises : start g c < end g c
  pub high : end g c ≤ (send_of g c + 1) * g.send_bytes
  pub next : (send_of g c + 1) * g.send_bytes ≡ send_of g c * g.send_bytes + g.send_bytes

-- the places of each cell lie in its send partition
pub cell-inside : (g : Shape) → IsShape g → (c : ℕ) → c < cells g → IsInside g c
cell-inside g v c inside = record {
  low = (send-starts g v c).0;
  rises = (let r = start-rises g v c inside in let e = end-start g c in omega arith);
  high = send_end-le g v c inside;
  next = omega arith;
}

-- a cell's cut of its send partition's bytes is as long as the cell
pub length-cut_lem : (g : Shape) → IsShape g → (c : ℕ) (b : List ℕ) → c < cells g → length b ≡ g.send_bytes → length (cut g c b) ≡ end g c - start g c
length-cut_lem g v c b inside size =
    let h = cell-inside g v c inside in
    let base = send_of g c * g.send_bytes in
    let low = h.low in let rises = h.rises in let high = h.high in let next = h.next in
    length-take-le (end g c - base - (start g c - base)) (drop (start g c - base) b) (let d = length-drop (start g c - base) b in omega arith)
    ∙ (let z : end g c - base - (start g c - base) ≡ end g c - start g c = omega arith in z)

-- where b is what the message has in the cell's send partition, the cut of b is what it has in the cell
pub cut-is_lem : (g : Shape) → IsShape g → (marked : ℕ → List ℕ) (c : ℕ) (b : List ℕ) → c < cells g → marked (send_of g c) ≡ b → length b ≡ g.send_bytes
    → cut g c b ≡ cell_bytes g marked c
cut-is_lem g v marked c b inside is size =
    let h = cell-inside g v c inside in
    let p = send_of g c in
    let base = p * g.send_bytes in
    let low = h.low in let rises = h.rises in let high = h.high in let next = h.next in
    let n = end g c - start g c in
    let left = length-cut_lem g v c b inside size in
    let right : length (cell_bytes g marked c) ≡ n = length-map-range_with_len (byte_at g marked) (start g c) n in
    ext_get_or 0 (cut g c b) (cell_bytes g marked c) (left ∙ sym right) (λ k below.
    let byte = byte_in g v marked p (start g c + k) (omega arith) (omega arith) in
    get_or-take (end g c - base - (start g c - base)) (drop (start g c - base) b) k 0 (omega arith)
    ∙ get_or-drop (start g c - base) b k 0
    ∙ ap (λ x. get_or b x 0) (let z : start g c - base + k ≡ start g c + k - base = omega arith in z)
    ∙ ap (λ ys. get_or ys (start g c + k - base) 0) (sym is)
    ∙ sym byte
    ∙ sym (get_or-map-range_with_len (byte_at g marked) (start g c) n k (start g c + k) 0 (omega arith) (omega arith)))

-- messages with the same bytes in a cell's send partition have the same bytes in the cell
pub cell_bytes-agree_lem : (g : Shape) → IsShape g → (marked others : ℕ → List ℕ) (c : ℕ) → c < cells g → marked (send_of g c) ≡ others (send_of g c)
    → cell_bytes g marked c ≡ cell_bytes g others c
cell_bytes-agree_lem g v marked others c inside same =
    let h = cell-inside g v c inside in
    let p = send_of g c in
    let low = h.low in let rises = h.rises in let high = h.high in
    map-range-agree (byte_at g marked) (byte_at g others) (end g c - start g c) (start g c) (λ x from to.
    byte_in g v marked p x (omega arith) (omega arith) ∙ ap (λ ys. get_or ys (x - p * g.send_bytes) 0) same
    ∙ sym (byte_in g v others p x (omega arith) (omega arith)))

-- the places of a send partition have its bytes
pub sent_bytes_lem : (g : Shape) → IsShape g → (marked : ℕ → List ℕ) (p : ℕ) → length (marked p) ≡ g.send_bytes
    → bytes_between (byte_at g marked) (p * g.send_bytes) ((p + 1) * g.send_bytes) ≡ marked p
sent_bytes_lem g v marked p size =
    let base = p * g.send_bytes in
    let width : (p + 1) * g.send_bytes ≡ p * g.send_bytes + g.send_bytes = omega arith in
    let n = (p + 1) * g.send_bytes - base in
    let left = length-map-range_with_len (byte_at g marked) base n in
    ext_get_or 0 (bytes_between (byte_at g marked) base ((p + 1) * g.send_bytes)) (marked p) (omega arith) (λ k below.
    get_or-map-range_with_len (byte_at g marked) base n k (base + k) 0 (omega arith) (omega arith)
    ∙ byte_in g v marked p (base + k) (omega arith) (omega arith)
    ∙ ap (λ x. get_or (marked p) x 0) (let z : base + k - base ≡ k = omega arith in z))
