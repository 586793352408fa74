-- What the views of a table with the rule say of each other. Each shows a view of one sound state of the core, and marks and
-- takes have the bytes of one function of round and partition. And where each step of a seat leads: the lemmas of the kinds of
-- step, put together, with what they do to the slots.
use Rattle.std.proofs.Common.{◌≡◌, ◌≢◌, inl, inr, ⊎_elim, ℕ, zero, suc, ◌+◌, ◌-◌, ◌*◌, ◌/◌, ◌%◌, ◌<◌, ◌≤◌, Bool, List, [], ◌∷◌, length, map, get_or, set, Contains, Some, refl, sym, ap, ◌∙◌, subst, arith, length-set}
use Rattle.std.specs.Prelude.{if◌then◌else◌}
use Rattle.std.proofs.lemmas.Bool.{cases_lt, ne_eqb}
use Rattle.std.proofs.Math.Nat.{mul-le-mul_right}
use mathlib.Core.Option.{some, none}
use lib.ListN.{get_elem?, length-map, length-replicate}
use Rattle.atomic_table.proofs.Lists.{set_here, set_else}
use Rattle.gate_word.specs.Words.{round_in}
use Rattle.part_geometry.specs.Shape.{Shape, IsShape}
use Rattle.part_geometry.specs.Cells.{cells, start, end, send_of, recv_of}
use Rattle.part_geometry.specs.Pieces.{pieces, piece_of, Touches, TouchesRecv}
use Rattle.part_tables.specs.Parts.{first_sent, first_received, first_shared}
use Rattle.part_tables.specs.Bytes.{byte_at}
use Rattle.part_tables.proofs.Facts.{in_received, first_sent-le, first_sent-mono, first_received-le, first_received-mono, start-first_received, after_shared-le, shared-some, get_or-part_bytes, cell-inside, byte_in}
use Rattle.pair_core.specs.Names.{Name, Claim, Release, Take, Return, Piece, Fits}
use Rattle.pair_core.specs.Core.{IsMarker, times}
use Rattle.pair_core.specs.Reading.{next_round, laid}
use Rattle.pair_core.specs.Steps.{claims, loads}
use Rattle.pair_core.specs.Moves.{Move, StorePiece, StoreClaim, LoadClaim, LoadPiece, LoadRelease, ShutClaim, TryClaim, LayPiece, StoreReturn, StoreTake, TakePart, ReturnPart, StoreRelease, Split, Rise, Join, after}
use Rattle.pair_core.specs.Facts.{StateFacts}
use Rattle.pair_core.specs.Sound.{Sound}
use Rattle.pair_core.specs.declared.view.Mark.{Mark}
use Rattle.pair_core.specs.declared.view.Pending.{Pending}
use Rattle.pair_core.specs.declared.view.Life.TheVariants.{Live}
use Rattle.pair_core.proofs.Facts.{facts, bit_lt, touch_part}
use Rattle.pair_core.proofs.Rounds.{place_lt}
use Rattle.pair_core.proofs.Cut.{cell_piece, cell_touches, cell_touches_recv}
use Rattle.pair_core.proofs.ReceiveFacts.{piece_le}
use Rattle.pair_core.proofs.ReceiveMarks.{claim_past, full_claimed}
use Rattle.slot_rows.proofs.Acts.{cleared, cleared_here, cleared_else, stocked, stocked_else}
use Rattle.pair_rule.specs.Addresses.{address}
use Rattle.pair_rule.specs.Buf.{Buf}
use Rattle.pair_rule.specs.Rule.{At, Shown, slot_number, slot_row, Agrees, MayMark, Rule}
use Rattle.pair_rule.specs.Views.{seen}
use Rattle.pair_rule.specs.Steps.{MayMake}
use Rattle.pair_rule.specs.Seats.{cells_of}
use Rattle.pair_rule.specs.Marking.{sent_count, sent_slot, shared_count, shared_slot}
use Rattle.pair_rule.specs.Parts.{first_slot}
use Rattle.pair_rule.specs.Laws.{HasView, LiesIn, byte_for, Shares, AreConsistent, Row, at_home, all_out, RowBecomes, MovesNoSlot, AreFilled, AreReturned, claim_word, seen_claim, LeadsTo, LeadOn}
use Rattle.pair_rule.specs.declared.view.View.{View}
use Rattle.pair_rule.specs.declared.rule.Key.{Key}
use Rattle.pair_rule.proofs.Core.{CoreLaws, laws}
use Rattle.pair_rule.proofs.Bridge.{Held}
use Rattle.pair_rule.proofs.Allowed.{may_make, seen_same, word_there, place_there}
use Rattle.pair_rule.proofs.Marks.{times_in, in_times}
use Rattle.pair_rule.proofs.SideSteps.{store_piece_leads, store_claim_leads, shut_claim_leads, store_return_leads, store_take_leads, store_release_leads, load_claim_leads, load_piece_leads, load_release_leads}
use Rattle.pair_rule.proofs.Claiming.{claim_leads}
use Rattle.pair_rule.proofs.Laying.{lay_leads}
use Rattle.pair_rule.proofs.Taking.{take_leads}
use Rattle.pair_rule.proofs.Returning.{return_leads}

-- a cell ends where the next one starts
end-next : (g : Shape) (c : ℕ) → end g c ≡ start g (c + 1)
unfolding start end
end-next g c = refl

-- a place from the start of one cell on and before that of a later one lies in a cell between
between : (g : Shape) (a n x : ℕ) → start g a ≤ x → x < start g (a + n) → (c : ℕ) × (a ≤ c) × (c < a + n) × (start g c ≤ x) × (x < end g c)
between g a zero x low high = let e : start g (a + 0) ≡ start g a = ap (start g) (let z : a + 0 ≡ a = omega arith in z) in absurd (omega arith)
between g a (suc n) x low high = elim (cases_lt x (start g (a + n))) [
  | inl before ↦ let c = between g a n x low before in (c.0, c.1, let h = c.2 in omega arith, c.3, c.4)
  | inr behind ↦
      let e : end g (a + n) ≡ start g (a + suc n) = end-next g (a + n) ∙ ap (start g) (let z : a + n + 1 ≡ a + suc n = omega arith in z) in
      (a + n, omega arith, omega arith, omega arith, omega arith)
]

module _ (g : Shape) (v : IsShape g) where
  -- each place of a receive partition lies in one of its cells, and so in the send partition of that cell
  cell_at : (q x : ℕ) → q < g.recv_parts → LiesIn g.recv_bytes q x → (c : ℕ) × (c < cells g) × (recv_of g c ≡ q) × LiesIn g.send_bytes (send_of g c) x
  cell_at q x inside there =
      let first : ℕ = first_received g q in let count : ℕ = first_received g (q + 1) - first in
      let order : first ≤ first_received g (q + 1) = first_received-mono g v q (q + 1) (omega arith) in
      let from : start g first ≡ q * g.recv_bytes = start-first_received g v q (omega arith) in
      let to : start g (first + count) ≡ (q + 1) * g.recv_bytes = ap (start g) (let e : first + count ≡ first_received g (q + 1) = omega arith in e) ∙ start-first_received g v (q + 1) (omega arith) in
      let low = there.0 in let high = there.1 in
      let c = between g first count x (omega arith) (omega arith) in
      let a = c.1 in let b = c.2 in let low' = c.3 in let high' = c.4 in
      let most = first_received-le g v (q + 1) in
      let within : c.0 < cells g = omega arith in
      let h = cell-inside g v c.0 within in let l = h.low in let u = h.high in
      (c.0, within, (in_received g v q c.0 within).1 (a, omega arith), (omega arith, omega arith))

  -- What was taken was marked: of a cell whose receive partition was taken in a round, some seat that has a view has the mark in it.
  -- The cell's piece was full in the round, or went on.
  take_marked : (c : Shown) → Sound g c → (k q i : ℕ) → 1 ≤ times k q c.takes → i < cells g → recv_of g i ≡ q
      → (n : ℕ) × (1 ≤ times k (send_of g i) (c.marks n)) × (c.life n ≡ Live) × (n ≢ 1)
  take_marked c sound k q i some' within of =
      let p : ℕ = send_of g i in let j : ℕ = piece_of g i in
      let claim : ℕ → ℕ = λ b. c.word (Claim b) in let piece : ℕ → ℕ → ℕ = λ e b. c.word (Piece e b) in
      let word : ℕ = c.word (Piece (k % g.depth) j) in
      let own = sound.takes.own k q some' in let positive = own.0 in
      let inside : j < pieces g = cell_piece g i within in
      let touch : Touches g j p = cell_touches g i within in
      let over : TouchesRecv g j q = subst (TouchesRecv g j) of (cell_touches_recv g i within) in
      let part : p < g.send_parts = touch_part g v j p inside touch in
      let out : (m : ℕ) → Touches g j m → k < round_in word + laid g word j m = λ m t. sound.takes.out k q j m some' inside over t in
      let early : k < next_round claim p = elim (cases_lt k (round_in word)) [
        | inl later ↦
            let most = piece_le g claim piece c.send sound.pieces (k % g.depth) j (place_lt g.depth k v.depth.0 v.depth.1) inside in
            let least = claim_past g claim c.send sound.gates p part in omega arith
        | inr now ↦ full_claimed g v c sound k j p positive inside record {
          round = let h = out p touch in let b = bit_of word j p in omega arith;
          all = λ m t. (let h = out m t in let b = bit_of word j m in let l = laid g word j m in omega arith);
        } touch
      ] in
      let one = sound.marks.all k p positive part early in
      let n : ℕ = sound.who k p in
      let who = (sound.marks.own n k p (omega arith)).4 in (
        n,
        omega arith,
        ⊎_elim (λ (e : n ≡ 0). ap c.life e ∙ sound.lives.send) (λ (z : IsMarker n × (c.life n ≡ Live)). z.1) who,
        λ first. ⊎_elim (λ (e : n ≡ 0). let z : n ≡ 1 = first in absurd (omega arith)) (λ (z : IsMarker n × (c.life n ≡ Live)). let low = z.0.0 in absurd (omega arith)) who,
      )
    where
      bit_of : (w i m : ℕ) → laid g w i m < 2
      bit_of w i m = bit_lt w _

-- a row that goes out, and one that comes home
out_at : (n j : ℕ) → j < n → get_elem? (all_out n) j ≡ some none
out_at zero j low = absurd (omega arith)
out_at (suc n) zero low = refl
out_at (suc n) (suc j) low = out_at n j (omega arith)

goes_out : (hs : Row) (k n : ℕ) → k + n ≤ length hs → RowBecomes hs (cleared hs k n) k (all_out n)
goes_out hs k n deep =
    let size : length (all_out n) ≡ n = length-replicate n none in
    record {
      here = λ j low. (let less : j < n = omega arith in cleared_here hs k n (k + j) (omega arith) (omega arith) deep ∙ sym (out_at n j less));
      elsewhere = λ j o. cleared_else hs k n j (⊎_elim (λ (l : j < k). inl l) (λ (l : k + length (all_out n) ≤ j). inr (omega arith)) o);
    }

home_at : (hs : Row) (k : ℕ) (ys : List Buf) (j : ℕ) → k + length ys ≤ length hs → j < length ys → get_elem? (stocked hs k (map Some ys)) (k + j) ≡ get_elem? (at_home ys) j
home_at hs k [] j deep low = absurd (omega arith)
home_at hs k (y ∷ ys) zero deep low =
    let next : Row = set hs k (some (Some y)) in
    ap (get_elem? (stocked next (suc k) (map Some ys))) (let e : k + 0 ≡ k = omega arith in e)
    ∙ (stocked_else next (suc k) (map Some ys) k (inl (omega arith)) ∙ set_here hs k (some (Some y)) (omega arith))
home_at hs k (y ∷ ys) (suc j) deep low =
    let next : Row = set hs k (some (Some y)) in
    ap (get_elem? (stocked next (suc k) (map Some ys))) (let e : k + suc j ≡ suc k + j = omega arith in e)
    ∙ home_at next (suc k) ys j (omega (arith, length-set hs k (some (Some y)))) (omega arith)

comes_home : (hs : Row) (k : ℕ) (ys : List Buf) → k + length ys ≤ length hs → RowBecomes hs (stocked hs k (map Some ys)) k (at_home ys)
comes_home hs k ys deep =
    let size : length (at_home ys) ≡ length ys = length-map ys (λ (y : Buf). some (Some y)) in
    let size' : length (map Some ys) ≡ length ys = length-map ys Some in
    record {
      here = λ j low. home_at hs k ys j deep (omega arith);
      elsewhere = λ j o. stocked_else hs k (map Some ys) j (⊎_elim (λ (l : j < k). inl l) (λ (l : k + length (at_home ys) ≤ j). inr (omega arith)) o);
    }

stays : (hs : Row) → RowBecomes hs hs 0 []
stays hs = record { here = λ j low. absurd (omega arith); elsewhere = λ j o. refl }

module _ {T : Type 0} (may : T → ℕ → ℕ → ℕ → Type 0) (key : Key T) (s : At) (r : Rule may key s) where
  abbrev G : Shape
  G = key.geometry

  state : StateFacts (List ℕ) G
  state = facts G r.shape

  agrees : (i : ℕ) (d : View) → HasView s i d → Agrees G r.core r.alone r.markers r.watchers r.seat i d
  agrees i d h = r.seats i d h.0 h.1

  numbers : (i j : ℕ) (d e : View) → HasView s i d → HasView s j e → d.number ≡ e.number → i ≡ j
  numbers i j d e here there same = sym (agrees i d here).seat_is ∙ (ap r.seat same ∙ (agrees j e there).seat_is)

  often : (i : ℕ) (d : View) (k p : ℕ) → HasView s i d → times k p d.marks ≡ times k p (r.core.marks d.number)
  often i d k p here = ap (times k p) (agrees i d here).marks_is

  once : (i : ℕ) (d : View) (k p : ℕ) → HasView s i d → times k p d.marks ≤ 1
  once i d k p here = subst (λ (z : ℕ). z ≤ 1) (sym (often i d k p here)) (state.marked_once r.core d.number k p r.sound)

  one_view : (i j : ℕ) (d e : View) (k p : ℕ) → HasView s i d → HasView s j e → 1 ≤ times k p d.marks → 1 ≤ times k p e.marks → i ≡ j
  one_view i j d e k p here there a b = numbers i j d e here there
      (state.one_view r.core d.number e.number k p r.sound (subst (λ (z : ℕ). 1 ≤ z) (often i d k p here) a) (subst (λ (z : ℕ). 1 ≤ z) (often j e k p there) b))

  mark_is : (n : ℕ) (m : Mark (List ℕ)) → Contains (r.core.marks n) m → m.with ≡ r.bytes m.round m.partition
  mark_is n m has = (r.marks n m has).bytes_are

  -- the byte of a take for a place is that which was marked there
  take_is : (t : Mark (List ℕ)) (p x : ℕ) → Contains r.core.takes t → LiesIn G.send_bytes p x → LiesIn G.recv_bytes t.partition x
      → byte_for G.recv_bytes t x ≡ get_or (r.bytes t.round p) (x - p * G.send_bytes) 0
  take_is t p x has sent received =
      let q : ℕ = t.partition in let y : ℕ = x - q * G.recv_bytes in let b : ℕ → List ℕ = r.bytes t.round in
      let low = received.0 in let high = received.1 in
      let next : (q + 1) * G.recv_bytes ≡ q * G.recv_bytes + G.recv_bytes = omega arith in
      let at : q * G.recv_bytes + y ≡ x = omega arith in
      ap (λ (z : List ℕ). get_or z y 0) (r.takes t has)
      ∙ (get_or-part_bytes G b q y (omega arith) ∙ (ap (byte_at G b) at ∙ byte_in G r.shape b p x sent.0 sent.1))

  same_byte : (i : ℕ) (m t : Mark (List ℕ)) (x : ℕ) → Contains (r.core.marks i) m → Contains r.core.takes t → m.round ≡ t.round
      → LiesIn G.send_bytes m.partition x → LiesIn G.recv_bytes t.partition x → byte_for G.recv_bytes t x ≡ byte_for G.send_bytes m x
  same_byte i m t x marked taken same sent received =
      take_is t m.partition x taken sent received
      ∙ ap (λ (z : List ℕ). get_or z (x - m.partition * G.send_bytes) 0) ((λ z. r.bytes (sym same z) m.partition) ∙ sym (mark_is i m marked))

  in_core : (i : ℕ) (d : View) (m : Mark (List ℕ)) → HasView s i d → Contains d.marks m → Contains (r.core.marks d.number) m
  in_core i d m here has = subst (λ (z : List (Mark (List ℕ))). Contains z m) (agrees i d here).marks_is has

  in_takes : (j : ℕ) (e : View) (t : Mark (List ℕ)) → HasView s j e → e.number ≡ 1 → Contains e.takes t → Contains r.core.takes t
  in_takes j e t there one has = subst (λ (z : List (Mark (List ℕ))). Contains z t) ((agrees j e there).takes_is one) has

  all_marked : (t : Mark (List ℕ)) (x : ℕ) → Contains r.core.takes t → LiesIn G.recv_bytes t.partition x
      → (i : ℕ) × (d : View) × (m : Mark (List ℕ)) × HasView s i d × Contains d.marks m × Shares G m t x
  all_marked t x has received =
      let some' : 1 ≤ times t.round t.partition r.core.takes = times_in t r.core.takes has in
      let inside = (r.sound.takes.own t.round t.partition some').1 in
      let cell = cell_at G r.shape t.partition x inside received in
      let p : ℕ = send_of G cell.0 in
      let by = take_marked G r.shape r.core r.sound t.round t.partition cell.0 some' cell.1 cell.2 in
      let view = r.here by.0 by.2 (λ one. absurd (by.3 one)) in
      let m = in_times t.round p (r.core.marks by.0) by.1 in
      let here : HasView s (r.seat by.0) view.0 = (view.1, view.2) in
      let marks : r.core.marks by.0 ≡ view.0.marks = ap r.core.marks (sym view.3) ∙ sym (agrees (r.seat by.0) view.0 here).marks_is in
      let place : LiesIn G.send_bytes m.0.partition x = subst (λ (z : ℕ). LiesIn G.send_bytes z x) (sym m.3) cell.3 in (
        r.seat by.0,
        view.0,
        m.0,
        here,
        subst (λ (z : List (Mark (List ℕ))). Contains z m.0) marks m.1,
        record { round = m.2; place = place; byte = same_byte by.0 m.0 t x m.1 has m.2 place received },
      )

  pub consistent : AreConsistent G s
  consistent = record {
    numbers = numbers;
    one_view = one_view;
    once = once;
    same_byte = λ i j d e m t x here there one marked taken same sent received. same_byte d.number m t x (in_core i d m here marked) (in_takes j e t there one taken) same sent received;
    all_marked = λ j e t x there one taken received. all_marked t x (in_takes j e t there one taken) received;
  }

  module _ (id : ℕ) (d : View) (view : HasView s id d) where
    L : CoreLaws G
    L = laws G r.shape

    mine : Agrees G r.core r.alone r.markers r.watchers r.seat id d
    mine = r.seats id d view.0 view.1

    -- the slots of so many cells of a place are slots of the table
    room : (k f n : ℕ) → f + n ≤ cells G → slot_number G (k % G.depth) f + n ≤ length s.homes
    room k f n whole =
        let there = place_there k G.depth r.shape.depth.0 in let size = r.room in
        let rows = mul-le-mul_right {m = k % G.depth + 1} {n = G.depth} (slot_row G) (omega arith) in omega (arith, rows)

    sent_room : (k p : ℕ) → sent_slot G k p + sent_count G p ≤ length s.homes
    sent_room k p = let low = first_sent-mono G r.shape p (p + 1) (omega arith) in let most = first_sent-le G r.shape (p + 1) in
        room k (first_sent G p) (sent_count G p) (omega arith)

    received_room : (k q : ℕ) → first_slot G (k % G.depth) q + cells_of G q ≤ length s.homes
    received_room k q = let low = first_received-mono G r.shape q (q + 1) (omega arith) in let most = first_received-le G r.shape (q + 1) in
        room k (first_received G q) (cells_of G q) (omega arith)

    shared_room : (k p i : ℕ) → i < pieces G → Touches G i p → shared_slot G k p i + shared_count G p i ≤ length s.homes
    shared_room k p i inside touch = let some' = (shared-some G r.shape p i inside).0 touch in let most = after_shared-le G r.shape p i in
        room k (first_shared G p i) (shared_count G p i) (omega arith)

    -- where a step leads that leads to a state of the core
    led : (m : Move (List ℕ)) (first : ℕ) (row : Row) (words : List ℕ) (homes : Row) (d' : View)
        → Held may key record { words = words; homes = homes; views = set s.views id d' } (after G r.core m) → RowBecomes s.homes homes first row → LeadsTo may key s r id m first row
    led m first row words homes d' held moved = record {
      to = record { words = words; homes = homes; views = set s.views id d' };
      rule = held.0;
      shows = held.1;
      others = λ j other. set_else s.views id j d' other;
      slots = moved;
    }

    quiet : (m : Move (List ℕ)) → MayMake d m → MovesNoSlot m → LeadsTo may key s r id m 0 []
    quiet (StorePiece k i) h still = led (StorePiece k i) 0 [] _ _ _ (store_piece_leads may key L s r id d view.0 view.1 k i h) (stays s.homes)
    quiet (StoreClaim k c) h still = led (StoreClaim k c) 0 [] _ _ _ (store_claim_leads may key L s r id d view.0 view.1 k c h) (stays s.homes)
    quiet (LoadClaim n c) h still = led (LoadClaim n c) 0 [] _ _ _ (load_claim_leads may key L s r id d view.0 view.1 n c (get_or s.words (address G (Claim c)) 0) refl h).0 (stays s.homes)
    quiet (LoadPiece n e i) h still = led (LoadPiece n e i) 0 [] _ _ _ (load_piece_leads may key L s r id d view.0 view.1 n e i (get_or s.words (address G (Piece e i)) 0) refl h).0 (stays s.homes)
    quiet LoadRelease h still = led LoadRelease 0 [] _ _ _ (load_release_leads may key L s r id d view.0 view.1 (get_or s.words (address G Release) 0) refl h).0 (stays s.homes)
    quiet (ShutClaim c) h still = led (ShutClaim c) 0 [] _ _ _ (shut_claim_leads may key L s r id d view.0 view.1 c (get_or s.words (address G (Claim c)) 0) refl h) (stays s.homes)
    quiet (TryClaim n p b) h moved = absurd moved
    quiet (LayPiece n p i) h moved = absurd moved
    quiet (StoreReturn k t) h still = led (StoreReturn k t) 0 [] _ _ _ (store_return_leads may key L s r id d view.0 view.1 k t h) (stays s.homes)
    quiet (StoreTake k t) h still = led (StoreTake k t) 0 [] _ _ _ (store_take_leads may key L s r id d view.0 view.1 k t h) (stays s.homes)
    quiet (TakePart q b) h moved = absurd moved
    quiet (ReturnPart q) h moved = absurd moved
    quiet (StoreRelease k) h still = led (StoreRelease k) 0 [] _ _ _ (store_release_leads may key L s r id d view.0 view.1 k h) (stays s.homes)
    quiet (Split n) h still = absurd h
    quiet (Rise n w more) h still = absurd h
    quiet (Join n) h still = absurd h

    claim_won : (n p : ℕ) (b : List ℕ) → MayMake d (TryClaim n p b) → claim_word G s p ≡ seen_claim d p → MayMark may key (round_in (seen_claim d p)) p b
        → LeadsTo may key s r id (TryClaim n p b) (sent_slot G (round_in (seen_claim d p)) p) (all_out (sent_count G p))
    claim_won n p b h found ok =
        let k : ℕ = round_in (seen_claim d p) in
        let l = claim_leads may key L s r id d (seen_claim d p) n p b view.0 view.1 h refl found ok in
        led (TryClaim n p b) (sent_slot G k p) (all_out (sent_count G p)) _ _ _ l.4 (goes_out s.homes (sent_slot G k p) (sent_count G p) (sent_room k p))

    -- an exchange that finds another word is a look
    claim_lost : (n p : ℕ) (b : List ℕ) → MayMake d (TryClaim n p b) → claim_word G s p ≢ seen_claim d p → LeadsTo may key s r id (TryClaim n p b) 0 []
    claim_lost n p b h differs =
        let x : Name = Claim (p / 32) in let c : Shown = r.core in
        let allowed = may_make G r.shape c r.alone r.markers r.watchers r.seat id d r.sound mine (TryClaim n p b) h in
        let fits : Fits G x = word_there p G.send_parts allowed.2 in
        let saw : c.seen n x ≡ seen d x = ap (λ (z : ℕ). c.seen z x) (sym h.0) ∙ sym (seen_same G r.shape c r.alone r.markers r.watchers r.seat id d mine x fits) in
        let apart : c.word x ≢ c.seen n x = λ e. differs (r.words x fits ∙ (e ∙ saw)) in
        let look = (load_claim_leads may key L s r id d view.0 view.1 n (p / 32) (get_or s.words (address G x) 0) refl (h.0, word_there p d.geometry.send_parts h.2)).0 in
        let is : after G c (LoadClaim n (p / 32)) ≡ after G c (TryClaim n p b) =
        ap (loads n x) (L.facts.enters_live c n allowed.1) ∙ sym (ap (λ (z : Bool). if z then claims G n p b c else loads n x c) (ne_eqb (c.word x) (c.seen n x) apart)) in
        led (TryClaim n p b) 0 [] _ _ _ (look.0, look.1 ∙ is) (stays s.homes)

    lay : (n p i : ℕ) (x : Pending) (bufs : List Buf) → MayMake d (LayPiece n p i) → AreFilled G d p i x bufs → LeadsTo may key s r id (LayPiece n p i) (shared_slot G x.round p i) (at_home bufs)
    lay n p i x bufs h f =
        let l = lay_leads may key L s r id d n p i (get_or s.words (address G (Piece (x.round % G.depth) i)) 0) x f.bytes bufs view.0 view.1 h f.pends f.marked f.count f.cuts refl in
        let inside : i < pieces G = subst (λ (z : Shape). i < pieces z) mine.geometry h.1.2.piece in
        let touch : Touches G i p = subst (λ (z : Shape). Touches z i p) mine.geometry h.1.2.touches in
        let count = f.count in let deep = shared_room x.round p i inside touch in
        led (LayPiece n p i) (shared_slot G x.round p i) (at_home bufs) _ _ _ l (comes_home s.homes (shared_slot G x.round p i) bufs (omega arith))

    part_taken : (q : ℕ) → MayMake d (TakePart q []) → (b : List ℕ) × LeadsTo may key s r id (TakePart q b) (first_slot G (d.recv.round % G.depth) q) (all_out (cells_of G q))
    part_taken q h =
        let t = take_leads may key L s r id d q (get_or s.words (address G (Take (q / 32))) 0) view.0 view.1 h refl in
        let first : ℕ = first_slot G (d.recv.round % G.depth) q in
        (t.with, led (TakePart q t.with) first (all_out (cells_of G q)) _ _ _ t.led (goes_out s.homes first (cells_of G q) (received_room d.recv.round q)))

    part_returned : (q : ℕ) (bufs : List Buf) → MayMake d (ReturnPart q) → AreReturned G d q bufs → LeadsTo may key s r id (ReturnPart q) (first_slot G (d.recv.round % G.depth) q) (at_home bufs)
    part_returned q bufs h f =
        let l = return_leads may key L s r id d q (get_or s.words (address G (Return (q / 32))) 0) bufs view.0 view.1 h f.count f.of refl in
        let first : ℕ = first_slot G (d.recv.round % G.depth) q in
        let count = f.count in let deep = received_room d.recv.round q in
        led (ReturnPart q) first (at_home bufs) _ _ _ l (comes_home s.homes first bufs (omega arith))

    pub leads_on : LeadOn may key s r id d
    leads_on = record {
      quiet = quiet;
      claim_won = claim_won;
      claim_lost = claim_lost;
      lay = lay;
      part_taken = part_taken;
      part_returned = part_returned;
    }
