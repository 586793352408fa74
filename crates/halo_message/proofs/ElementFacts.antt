-- Values as elements and back. An element has 8 bytes, so the element at place i of a row of elements is that of value i.
use Rattle.std.proofs.Common.{◌≡◌, ◌∙◌, refl, sym, ap, subst, ℕ, zero, suc, ◌+◌, ◌-◌, ◌*◌, ◌/◌, ◌<◌, ◌≤◌, ◌^◌, ℤ, pos, negsuc, List, [], ◌∷◌, ◌++◌, length, take, drop, get_or, set, map, replicate, arith, append_assoc, length-append, to_z, of_z, w64}
use Rattle.std.specs.Prelude.{min, slice_range}
use Rattle.std.specs.Int.{from_le_bytes}
use Rattle.std.specs.List.{All, flat_map, range_with_len}
use Rattle.std.proofs.lemmas.Int.{to_z-of_z}
use Rattle.std.proofs.lemmas.Nat.{div-mul-add, from_le_bytes-to_le_bytes_8, mul-le}
use Rattle.std.proofs.lemmas.List.{drop_at, take_at, drop-drop, drop-take, take-take, take_more, take_more_set, flat_map_more, length-take-le, length-drop, length-replicate, replicate-append-replicate, append-nil, drop_all, get_or-take, get_or-drop, get_or_append_left, ext_get_or}
use Rattle.std.proofs.lemmas.List.FromFn.{get_or-map-range_with_len, length-map-range_with_len, map-range_with_len_more}
use Rattle.std.proofs.lemmas.Slice.{take-put_mid}
use borrow.Rule.Slice.PartMut.{put_mid}
use Rattle.std.proofs.lemmas.Grind.{flat_map-append}
use Rattle.std.proofs.lemmas.List.Elements.{All-get_or}
use Rattle.part_geometry.specs.Shape.{IsShape, Shape, recv_total, send_total}
use Rattle.halo_message.specs.Message.{Message, elements, shape_of}
use Rattle.halo_message.specs.Elements.{IsWord, decoded, element, encoded, part_bytes, part_end, part_start, value_at}

-- an element has 8 bytes
pub element-long : (z : ℤ) → length (element z) ≡ 8
element-long z = refl

-- elements have 8 bytes each
pub elements-long : (xs : List ℤ) → length (flat_map element xs) ≡ length xs * 8
elements-long [] = refl
elements-long (x ∷ xs) = let more = elements-long xs in let sum = length-append (element x) (flat_map element xs) in omega arith

-- ---- writing and reading, an element at a time

-- an element more is written behind those of the first values
pub encode-next : (vs : List ℤ) (out e : List ℕ) (i k : ℕ) (d : ℤ) → i < length vs → i * 8 ≤ length out → take (i * 8) out ≡ flat_map element (take i vs)
    → e ≡ element (get_or vs i d) → take ((i + 1) * 8) (put_mid (i * 8) k out e) ≡ flat_map element (take (i + 1) vs)
encode-next vs out e i k d less room so is =
    let long : length e ≡ 8 = ap length is in
    take-put_mid (i * 8) k out e ((i + 1) * 8) (omega arith) room
    ∙ ap (λ xs. xs ++ e) so ∙ ap (λ ys. flat_map element (take i vs) ++ ys) is
    ∙ flat_map_more element [] (take i vs) (get_or vs i d) ∙ ap (flat_map element) (sym (take_more vs i d less))

-- a value more is read behind the first values
pub decode-next : (bytes : List ℕ) (out : List ℤ) (i : ℕ) (z : ℤ) → i < length out → take i out ≡ decoded i bytes → z ≡ value_at bytes i
    → take (i + 1) (set out i z) ≡ decoded (i + 1) bytes
unfolding decoded
decode-next bytes out i z less so is =
    take_more_set out i z less ∙ ap (λ xs. xs ++ z ∷ []) so ∙ ap (λ y. map (value_at bytes) (range_with_len 0 i) ++ y ∷ []) is
    ∙ sym (map-range_with_len_more (value_at bytes) 0 i i (omega arith))

-- ---- reading what was written

-- an element behind others
pub element-at : (ys : List ℤ) (k : ℕ) → k < length ys → take 8 (drop (k * 8) (flat_map element ys)) ≡ element (get_or ys k (pos 0))
element-at [] k less = absurd (omega arith)
element-at (y ∷ ys) zero less = take_at (element y) (flat_map element ys) 8 refl
element-at (y ∷ ys) (suc k) less =
    let place : suc k * 8 ≡ 8 + k * 8 = omega arith in
    ap (λ n. take 8 (drop n (element y ++ flat_map element ys))) place
    ∙ ap (take 8) (sym (drop-drop (k * 8) 8 (element y ++ flat_map element ys)) ∙ ap (drop (k * 8)) (drop_at (element y) (flat_map element ys) 8 refl))
    ∙ element-at ys k (omega arith)

-- the value of an element
pub value-back : (z : ℤ) → IsWord z → to_z w64 (from_le_bytes w64 (element z)) ≡ z
value-back z word = ap (to_z w64) (from_le_bytes-to_le_bytes_8 (of_z w64 z) (of_z-fits z word)) ∙ to_z-of_z w64 z word
  where
    of_z-fits : (x : ℤ) → IsWord x → of_z w64 x < 2 ^ 64
    of_z-fits (pos n) word = let s = word.sfits in omega arith
    of_z-fits (negsuc n) word = omega arith

-- a part of a part
pub inner : {X : Type 0} (xs : List X) (a n b m : ℕ) → b + m ≤ n → take m (drop b (take n (drop a xs))) ≡ take m (drop (a + b) xs)
inner xs a n b m fits =
    let e : n ≡ b + (n - b) = omega arith in
    ap (λ k. take m (drop b (take k (drop a xs)))) e
    ∙ ap (take m) (drop-take b (n - b) (drop a xs))
    ∙ take-take m (n - b) (drop b (drop a xs)) (omega arith)
    ∙ ap (take m) (drop-drop b a xs)

-- the values of a part of a message, where n elements are in a part
pub part-back : (sent : List ℤ) (rest : List ℤ) (q n : ℕ) → All IsWord sent → (q * n) + n ≤ length sent + length rest
    → decoded (min (q * n + n) (length sent) - min (q * n) (length sent)) (take (n * 8) (drop (q * (n * 8)) (flat_map element (sent ++ rest))))
    ≡ take (min (q * n + n) (length sent) - min (q * n) (length sent)) (drop (min (q * n) (length sent)) sent)
unfolding decoded
part-back sent rest q n words whole =
    let v = length sent in
    let start = min (q * n) v in
    let k = min (q * n + n) v - start in
    let bytes = take (n * 8) (drop (q * (n * 8)) (flat_map element (sent ++ rest))) in
    let sum = length-append sent rest in
    ext_get_or (pos 0) (map (value_at bytes) (range_with_len 0 k)) (take k (drop start sent))
    (length-map-range_with_len (value_at bytes) 0 k ∙ sym (length-take-le k (drop start sent) (omega (arith, length-drop start sent))))
    (λ i h.
    let less : i < k = subst (λ m. i < m) (length-map-range_with_len (value_at bytes) 0 k) h in
    let there : start ≡ q * n = omega arith in
    let inside : q * n + i < v = omega arith in
    let place : q * (n * 8) + i * 8 ≡ (q * n + i) * 8 = omega arith in
    let eight : i * 8 + 8 - i * 8 ≡ 8 = omega arith in
    let d = get_or sent (q * n + i) (pos 0) in
    let is : take 8 (drop (i * 8) bytes) ≡ element d =
    inner (flat_map element (sent ++ rest)) (q * (n * 8)) (n * 8) (i * 8) 8 (omega arith)
    ∙ ap (λ m. take 8 (drop m (flat_map element (sent ++ rest)))) place
    ∙ element-at (sent ++ rest) (q * n + i) (omega arith)
    ∙ ap element (get_or_append_left sent rest (pos 0) (q * n + i) inside) in
    get_or-map-range_with_len (value_at bytes) 0 k i i (pos 0) less (omega arith)
    ∙ ap (λ m. to_z w64 (from_le_bytes w64 (take m (drop (i * 8) bytes)))) eight
    ∙ ap (λ (xs : List ℕ). to_z w64 (from_le_bytes w64 xs)) is
    ∙ value-back d (All-at sent (q * n + i) (pos 0) words inside)
    ∙ ap (λ m. get_or sent (m + i) (pos 0)) (sym there)
    ∙ sym (get_or-take k (drop start sent) i (pos 0) less ∙ get_or-drop start sent i (pos 0)))
  where
    All-at : (xs : List ℤ) (i : ℕ) (d : ℤ) → All IsWord xs → i < length xs → IsWord (get_or xs i d)
    All-at xs i d all less = All-get_or IsWord xs i d less all

-- ---- reading by chunks

-- an element of a part of bytes that begins at element d
value-behind : (bytes : List ℕ) (d n k : ℕ) → n < k → value_at (take (k * 8) (drop (d * 8) bytes)) n ≡ value_at bytes (d + n)
value-behind bytes d n k less =
    let here : n * 8 + 8 - n * 8 ≡ 8 = omega arith in
    let there : (d + n) * 8 + 8 - (d + n) * 8 ≡ 8 = omega arith in
    let place : d * 8 + n * 8 ≡ (d + n) * 8 = omega arith in
    ap (λ (xs : List ℕ). to_z w64 (from_le_bytes w64 xs))
    (ap (λ m. take m (drop (n * 8) (take (k * 8) (drop (d * 8) bytes)))) here
    ∙ inner bytes (d * 8) (k * 8) (n * 8) 8 (omega arith)
    ∙ ap (λ m. take 8 (drop m bytes)) place
    ∙ sym (ap (λ m. take m (drop ((d + n) * 8) bytes)) there))

-- the first d elements, and then n elements of the part that begins behind them
decoded-behind : (bytes : List ℕ) (d n k : ℕ) → n ≤ k → decoded (d + n) bytes ≡ decoded d bytes ++ decoded n (take (k * 8) (drop (d * 8) bytes))
unfolding decoded
decoded-behind bytes d zero k less = ap (λ x. map (value_at bytes) (range_with_len 0 x)) (let z : d + 0 ≡ d = omega arith in z) ∙ sym (append-nil (map (value_at bytes) (range_with_len 0 d)))
decoded-behind bytes d (suc n) k less =
    let chunk = take (k * 8) (drop (d * 8) bytes) in
    let one : suc n ≡ n + 1 = omega arith in
    let all : d + suc n ≡ d + n + 1 = omega arith in
    ap (λ x. map (value_at bytes) (range_with_len 0 x)) all
    ∙ map-range_with_len_more (value_at bytes) 0 (d + n) (d + n) (omega arith)
    ∙ ap (λ xs. xs ++ value_at bytes (d + n) ∷ []) (decoded-behind bytes d n k (omega arith))
    ∙ append_assoc (map (value_at bytes) (range_with_len 0 d)) (map (value_at chunk) (range_with_len 0 n)) (value_at bytes (d + n) ∷ [])
    ∙ ap (λ xs. map (value_at bytes) (range_with_len 0 d) ++ xs)
    (ap (λ z. map (value_at chunk) (range_with_len 0 n) ++ z ∷ []) (sym (value-behind bytes d n k (omega arith)))
    ∙ sym (map-range_with_len_more (value_at chunk) 0 n n (omega arith))
    ∙ ap (λ x. map (value_at chunk) (range_with_len 0 x)) (sym one))

-- a chunk's values behind those that were read before
pub chunk-next : (bytes chunk : List ℕ) (out new : List ℤ) (done count k : ℕ) → done + count ≤ length out → take done out ≡ decoded done bytes → new ≡ decoded count chunk
    → chunk ≡ take (count * 8) (drop (done * 8) bytes) → take (done + count) (put_mid done k out new) ≡ decoded (done + count) bytes
unfolding decoded
chunk-next bytes chunk out new done count k fits so is cut =
    let long : length new ≡ count = ap length is ∙ length-map-range_with_len (value_at chunk) 0 count in
    take-put_mid done k out new (done + count) (omega arith) (omega arith)
    ∙ ap (λ xs. xs ++ new) so ∙ ap (λ ys. decoded done bytes ++ ys) (is ∙ ap (decoded count) cut)
    ∙ sym (decoded-behind bytes done count count (omega arith))

-- ---- the bytes of a message

-- zero elements are zero bytes
zero-elements : (n : ℕ) → flat_map element (replicate n (pos 0)) ≡ replicate (n * 8) 0
zero-elements zero = refl
zero-elements (suc n) =
    ap (λ xs. element (pos 0) ++ xs) (zero-elements n) ∙ replicate-append-replicate 8 (n * 8) 0 ∙ ap (λ (m : ℕ). replicate m 0) (omega arith)

-- what is behind the front
pub behind-long : (front old : List ℕ) (v e : ℕ) → length front ≡ v * 8 → length old ≡ e * 8 → v ≤ e
    → length (take (length (front ++ drop (v * 8) old) - v * 8) (drop (v * 8) (front ++ drop (v * 8) old))) ≡ (e - v) * 8
behind-long front old v e long all few =
    let sum = length-append front (drop (v * 8) old) in
    let rest = length-drop (v * 8) old in
    let cut = length-drop (v * 8) (front ++ drop (v * 8) old) in
    length-take-le _ (drop (v * 8) (front ++ drop (v * 8) old)) (omega arith) ∙ omega arith

-- zeros behind the values' elements make the elements of the values with zeros behind them
pub zeros-behind : (sent : List ℤ) (front old ys : List ℕ) (a k n : ℕ) → front ≡ flat_map element sent → a ≡ length sent * 8 → k ≡ length (front ++ old) - a
    → ys ≡ replicate (n * 8) 0 → put_mid a k (front ++ old) ys ≡ flat_map element (sent ++ replicate n (pos 0))
zeros-behind sent front old ys a k n is place rest zeros =
    let long : length front ≡ a = ap length is ∙ elements-long sent ∙ sym place in
    let sum = length-append front old in
    let cut = length-drop a (front ++ old) in
    ap (λ xs. xs ++ (ys ++ drop k (drop a (front ++ old)))) (take_at front old a long)
    ∙ ap (λ xs. front ++ (ys ++ xs)) (drop_all k (drop a (front ++ old)) (omega arith))
    ∙ ap (λ xs. front ++ xs) (append-nil ys ∙ zeros ∙ sym (zero-elements n))
    ∙ ap (λ xs. xs ++ flat_map element (replicate n (pos 0))) is
    ∙ sym (flat_map-append element sent (replicate n (pos 0)))

-- ---- the parts of a message

-- the receive partitions have all elements, as many each
pub whole-parts : (m : Message) (g : Shape) → g ≡ shape_of m → send_total g ≡ elements m * 8 → IsShape g → elements m / m.recv_parts * m.recv_parts ≡ elements m
whole-parts m g is whole s =
    let same : recv_total (shape_of m) ≡ elements m * 8 = sym (ap recv_total is) ∙ sym s.same ∙ whole in
    let t : m.recv_parts * (elements m / m.recv_parts * 8) ≡ elements m / m.recv_parts * m.recv_parts * 8 = omega arith in
    omega arith

-- q parts of n elements each begin at the same place, whether the parts or all elements are multiplied
pub times-part : (q e n parts : ℕ) → 0 < parts → n * parts ≡ e → q * e / parts ≡ q * n
times-part q e n parts some is =
    let t : q * e ≡ q * n * parts + 0 = ap (λ x. q * x) (sym is) ∙ omega arith in
    ap (λ x. x / parts) t ∙ div-mul-add (q * n) parts 0 some

-- a partition's first value by the number of elements that a partition has
pub part-starts : (m : Message) (q own v : ℕ) → elements m / m.recv_parts * m.recv_parts ≡ elements m → 0 < m.recv_parts → own ≡ elements m / m.recv_parts * 8 / 8 → v ≡ m.values
    → min (q * own) v ≡ part_start m q
part-starts m q own v whole some is all =
    let n : own ≡ elements m / m.recv_parts = is ∙ omega arith in
    ap (λ x. min (q * x) v) n ∙ ap (min (q * (elements m / m.recv_parts))) all ∙ ap (λ x. min x m.values) (sym (times-part q (elements m) (elements m / m.recv_parts) m.recv_parts some whole))

-- the values that were sent come back from the bytes of a receive partition
pub values-back : (m : Message) (q : ℕ) (sent : List ℤ) (bytes : List ℕ) → elements m / m.recv_parts * m.recv_parts ≡ elements m → q < m.recv_parts → m.values ≤ elements m
    → length sent ≡ m.values → All IsWord sent → bytes ≡ part_bytes m q (encoded m sent)
    → decoded (part_end m q - part_start m q) bytes ≡ slice_range sent (part_start m q) (part_end m q)
unfolding encoded
values-back m q sent bytes whole inside enough long words is =
    let n = elements m / m.recv_parts in
    let v = m.values in
    let zeros = replicate (elements m - length sent) (pos 0) in
    let few = mul-le (q + 1) n m.recv_parts n (omega arith) (omega arith) in
    let all = length-replicate (elements m - length sent) (pos 0) in
    let start : part_start m q ≡ min (q * n) (length sent) = ap (λ x. min x v) (times-part q (elements m) n m.recv_parts (omega arith) whole) ∙ ap (min (q * n)) (sym long) in
    let next : (q + 1) * n ≡ q * n + n = omega arith in
    let end : part_end m q ≡ min (q * n + n) (length sent) = ap (λ x. min x v) (times-part (q + 1) (elements m) n m.recv_parts (omega arith) whole ∙ next) ∙ ap (min (q * n + n)) (sym long) in
    let size : q * (n * 8) + n * 8 - q * (n * 8) ≡ n * 8 = omega arith in
    let cut : bytes ≡ take (n * 8) (drop (q * (n * 8)) (flat_map element (sent ++ zeros))) = is ∙ ap (λ k. take k (drop (q * (n * 8)) (flat_map element (sent ++ zeros)))) size in
    rw (start, end) (ap (decoded (min (q * n + n) (length sent) - min (q * n) (length sent))) cut ∙ part-back sent zeros q n words (omega arith))
