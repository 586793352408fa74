-- The bytes of buffers, one after another, read and copied buffer by buffer, all of them or a part.
use Rattle.std.proofs.Common.{◌≡◌, ℕ, suc, ◌+◌, ◌-◌, ◌<◌, ◌≤◌, List, [], ◌∷◌, ◌++◌, length, get_or, take, drop, refl, sym, ap, ◌∙◌, arith, append_assoc, append-nil, inl, inr, length-append, take-append-drop, take_at, length-take-le}
use borrow.Rule.Slice.PartMut.{put_mid, post_of}
use mathlib.Core.Option.{some}
use lib.ListN.{get_elem?}
use Rattle.std.specs.Prelude.{◌⊎◌, min}
use Rattle.std.proofs.lemmas.Bool.{cases_lt}
use Rattle.std.proofs.lemmas.List.{get_or_append_left, get_or-append_right, drop-drop, drop_at, drop-append-le, take-append-le, take_all, length-drop}
use Rattle.std.proofs.lemmas.Slice.{take-put_mid}
use Rattle.std.proofs.Math.Seq.{take-add}
use Rattle.slot_rows.proofs.Lists.{at_split}
use Rattle.slot_rows.proofs.Overlays.{take_next}
use Rattle.pair_rule.specs.Buf.{Buf}
use Rattle.part_recv.specs.Taking.{bytes_in}

-- the bytes of two lists of buffers are those of the one and then those of the other
pub bytes_in-append : (a b : List Buf) → bytes_in (a ++ b) ≡ bytes_in a ++ bytes_in b
bytes_in-append [] b = refl
bytes_in-append (x ∷ a) b = ap (λ (z : List ℕ). x.bytes ++ z) (bytes_in-append a b) ∙ sym (append_assoc x.bytes (bytes_in a) (bytes_in b))

-- byte i of all is byte `at` of the buffers from number n on
pub record IsByte (bufs : List Buf) (i at n : ℕ) : Type 0 where
  -- there is such a byte
  pub inside : at < length (bytes_in (drop n bufs))
  -- and it is the same one
  pub same : get_or (bytes_in bufs) i 0 ≡ get_or (bytes_in (drop n bufs)) at 0

-- the bytes of the buffers from number n on, where b is that one
pub bytes_from : (bufs : List Buf) (n : ℕ) (b : Buf) → get_elem? bufs n ≡ some b → bytes_in (drop n bufs) ≡ b.bytes ++ bytes_in (drop (n + 1) bufs)
bytes_from bufs n b e = ap bytes_in (at_split bufs n b e).1 ∙ ap (λ (z : ℕ). b.bytes ++ bytes_in (drop z bufs)) (let o : suc n ≡ n + 1 = omega arith in o)

-- where `at` is within buffer n, it is the buffer's own byte
pub byte_here : (bufs : List Buf) (i at n : ℕ) (b : Buf) → IsByte bufs i at n → get_elem? bufs n ≡ some b → at < length b.bytes → get_or b.bytes at 0 ≡ get_or (bytes_in bufs) i 0
byte_here bufs i at n b h e low =
    sym (h.same ∙ (ap (λ (z : List ℕ). get_or z at 0) (bytes_from bufs n b e) ∙ get_or_append_left b.bytes (bytes_in (drop (n + 1) bufs)) 0 at low))

-- where it is behind buffer n, it is a byte of the buffers from n + 1 on
pub byte_next : (bufs : List Buf) (i at n : ℕ) (b : Buf) → IsByte bufs i at n → get_elem? bufs n ≡ some b → length b.bytes ≤ at → IsByte bufs i (at - length b.bytes) (n + 1)
byte_next bufs i at n b h e high =
    let s = bytes_from bufs n b e in
    let size : length (bytes_in (drop n bufs)) ≡ length b.bytes + length (bytes_in (drop (n + 1) bufs)) = ap length s ∙ length-append b.bytes (bytes_in (drop (n + 1) bufs)) in
    let inside = h.inside in
    record {
      inside = omega arith;
      same = h.same ∙ (ap (λ (z : List ℕ). get_or z at 0) s ∙ get_or-append_right b.bytes (bytes_in (drop (n + 1) bufs)) (length b.bytes) at 0 refl high);
    }

-- the bytes of the first n buffers, and of the next
pub bytes_upto : (bufs : List Buf) (n : ℕ) (b : Buf) → get_elem? bufs n ≡ some b → bytes_in (take (n + 1) bufs) ≡ bytes_in (take n bufs) ++ b.bytes
bytes_upto bufs n b e =
    ap (λ (z : ℕ). bytes_in (take z bufs)) (let o : n + 1 ≡ suc n = omega arith in o)
    ∙ (ap bytes_in (take_next bufs n b e) ∙ (bytes_in-append (take n bufs) (b ∷ []) ∙ ap (λ (z : List ℕ). bytes_in (take n bufs) ++ z) (append-nil b.bytes)))

-- what is behind the first n buffers' bytes
pub bytes_behind : (bufs : List Buf) (n : ℕ) (b : Buf) → get_elem? bufs n ≡ some b → drop (length (bytes_in (take n bufs))) (bytes_in bufs) ≡ b.bytes ++ bytes_in (drop (n + 1) bufs)
bytes_behind bufs n b e =
    ap (drop (length (bytes_in (take n bufs)))) (ap bytes_in (sym (take-append-drop n bufs)) ∙ bytes_in-append (take n bufs) (drop n bufs))
    ∙ (drop_at (bytes_in (take n bufs)) (bytes_in (drop n bufs)) (length (bytes_in (take n bufs))) refl ∙ bytes_from bufs n b e)

-- they are no more than all
pub bytes_few : (bufs : List Buf) (n : ℕ) → length (bytes_in (take n bufs)) ≤ length (bytes_in bufs)
bytes_few bufs n =
    let e : length (bytes_in bufs) ≡ length (bytes_in (take n bufs)) + length (bytes_in (drop n bufs)) =
    ap (λ (z : List Buf). length (bytes_in z)) (sym (take-append-drop n bufs)) ∙ (ap length (bytes_in-append (take n bufs) (drop n bufs)) ∙ length-append (bytes_in (take n bufs)) (bytes_in (drop n bufs))) in
    omega arith

-- one more buffer is copied behind what stands
pub copied_more : (out new : List ℕ) (at n : ℕ) → at ≤ length out → length new ≡ n → take (at + n) (put_mid at (at + n - at) out new) ≡ take at out ++ new
copied_more out new at n fits size =
    let post : List ℕ = post_of at (at + n - at) out in
    let long : length (take at out ++ new) ≡ at + n = let a = length-take-le at out fits in let b = length-append (take at out) new in omega arith in
    ap (take (at + n)) (sym (append_assoc (take at out) new post)) ∙ take_at (take at out ++ new) post (at + n) long

-- ---- a part

-- Of all bytes, n from `start` on are wanted. Those among the first p bytes are copied to the front: `at` of them. As
-- many as `skip` lie before the first that is wanted, and aren't among the first p.
pub record IsCopied (all out : List ℕ) (n start p skip at : ℕ) : Type 0 where
  pub before : skip ≡ start - p
  pub done : at ≡ min n (p - start)
  pub same : take at out ≡ take at (drop start all)

-- at first nothing is copied
pub copied_first : (all out : List ℕ) (n start : ℕ) → IsCopied all out n start 0 start 0
copied_first all out n start = record { before = omega arith; done = omega arith; same = refl }

-- what is wanted of the next buffer is copied behind what stands
pub copied_next : (all b rest out new : List ℕ) (n start p skip at first count k : ℕ) → IsCopied all out n start p skip at → n ≡ length out → drop p all ≡ b ++ rest
    → first ≡ min skip (length b) → count ≡ min (length b - first) (length out - at) → new ≡ take (first + count - first) (drop first b)
    → IsCopied all (put_mid at k out new) n start (p + length b) (skip - first) (at + count)
copied_next all b rest out new n start p skip at first count k h size here low few is =
    let before = h.before in let done = h.done in
    let behind = length-drop first b in
    let cut : first + count - first ≡ count = omega arith in
    let long : length new ≡ count = ap length is ∙ (length-take-le (first + count - first) (drop first b) (omega arith) ∙ cut) in
    record {
      before = omega arith;
      done = omega arith;
      same = take-put_mid at k out new (at + count) (omega arith) (omega arith)
          ∙ ((λ i. h.same i ++ part (cases_lt 0 count) cut i) ∙ sym (take-add at count (drop start all)));
    }
  where
    part : ((0 < count) ⊎ (count ≤ 0)) → first + count - first ≡ count → new ≡ take count (drop at (drop start all))
    part (inl more) cut =
        let before = h.before in let done = h.done in
        let behind = length-drop first b in
        let place : start + at ≡ p + first = omega arith in
        is ∙ (ap (λ m. take m (drop first b)) cut
        ∙ (sym (take-append-le count (drop first b) rest (omega arith))
        ∙ (sym (ap (take count) (drop-append-le first b rest (omega arith)))
        ∙ (sym (ap (λ xs. take count (drop first xs)) here)
        ∙ (ap (take count) (drop-drop first p all) ∙ (sym (ap (λ m. take count (drop m all)) place) ∙ sym (ap (take count) (drop-drop at start all))))))))
    part (inr none) cut =
        let zero : count ≡ 0 = omega arith in
        is ∙ (ap (λ m. take m (drop first b)) (cut ∙ zero) ∙ sym (ap (λ m. take m (drop at (drop start all))) zero))

-- where as many are copied as are wanted, all that are wanted are there
pub copied_all : (all out : List ℕ) (n start p skip at : ℕ) → IsCopied all out n start p skip at → n ≡ length out → n ≤ p - start → out ≡ take (start + n - start) (drop start all)
copied_all all out n start p skip at h size enough =
    let done : at ≡ n = h.done ∙ omega arith in
    let cut : at ≡ start + n - start = omega arith in
    sym (take_all at out (omega arith)) ∙ (h.same ∙ ap (λ m. take m (drop start all)) cut)
