-- What a take by the receive end's seat says of the end and of the arrival: the end is the seat without its slots and
-- shelves.
use Rattle.std.proofs.Common.{◌≡◌, ℕ, ◌+◌, ◌*◌, ◌%◌, ◌<◌, ◌≤◌, true, false, length, get_or, refl, sym, ap, ◌∙◌, subst, arith}
use Rattle.part_geometry.specs.Shape.{Shape, IsShape}
use Rattle.part_tables.specs.Parts.{first_received}
use Rattle.pair_core.specs.Names.{Piece, number}
use Rattle.pair_core.specs.Reading.{IsFull}
use Rattle.pair_core.specs.State.{word_count}
use Rattle.pair_core.specs.Moves.{AreSeen}
use Rattle.pair_core.specs.declared.view.RecvSide.{RecvSide}
use Rattle.slot_rows.specs.Lanes.{HasFlags}
use Rattle.pair_rule.specs.Steps.{AreOf}
use Rattle.pair_rule.specs.Seats.{RecvHeld, Room, cells_of}
use Rattle.pair_rule.specs.Views.{seen}
use Rattle.pair_rule.specs.declared.view.View.{View}
use Rattle.part_recv.specs.Seeing.{SeesAll, first_piece, place_in}
use Rattle.part_recv.specs.Receiving.{End, end_of}
use Rattle.part_recv.specs.Taking.{Arrived, IsArrival, IsOut, LookedAll, MayLook, Takes, bytes_in}
use Rattle.part_recv.specs.Parting.{PartTaken}
use Rattle.part_recv.proofs.Pieces.{the_pieces, some_pieces}
use Rattle.part_recv.proofs.Walking.{looked_is, looked_geometry, looked_size, seen_full}
use Rattle.part_recv.proofs.Lending.{flags_out}

-- a look changes what was seen, and neither the geometry nor the side
pub sees_geometry : (k q : ℕ) (old new : View) → SeesAll k q old new → new.geometry ≡ old.geometry
sees_geometry k q old new h = ap (λ (z : View). z.geometry) h.looks.view ∙ looked_geometry _ _ h.words old

-- nor does it change the side
pub sees_recv : (k q : ℕ) (old new : View) → SeesAll k q old new → new.recv ≡ old.recv
sees_recv k q old new h = ap (λ (z : View). z.recv) h.looks.view ∙ ap (λ (z : View). z.recv) (looked_is _ _ h.words old)

-- each piece that touches the partition is seen full
pub sees_all : (k q : ℕ) (old new : View) → IsShape old.geometry → q < old.geometry.recv_parts → k % old.geometry.depth < old.geometry.depth → length new.seen ≡ word_count new.geometry
    → SeesAll k q old new → AreSeen new.geometry (seen new) k q
sees_all k q old new v part place size h =
    let g : Shape = old.geometry in
    let same : new.geometry ≡ g = sees_geometry k q old new h in
    let few = some_pieces g v q part in
    let long : length old.seen ≡ word_count g = sym (looked_size (place_in old k) (first_piece g q) h.words old) ∙ (sym (ap (λ (z : View). length z.seen) h.looks.view) ∙ (size ∙ ap word_count same)) in
    subst (λ (z : Shape). AreSeen z (λ x. get_or new.seen (number z x) 0) k q) (sym same) (λ i inside touches.
    let both = (the_pieces g q i v part inside).0 touches in
    let all = h.all in let low = both.0 in let high = both.1 in
    subst (λ (z : View). IsFull g (get_or z.seen (number g (Piece (k % g.depth) i)) 0) k i) (sym h.looks.view)
    (seen_full k (k % g.depth) (first_piece g q) h.words old place (let few1 = few.1 in omega arith) long h.full i low (omega arith)))

-- the seat after a look that found all full, beside the end before it
module _ (q : ℕ) (s : RecvHeld) (o : End) (looks : LookedAll q o (end_of s)) where
  view_is : s.view ≡ looks.view
  view_is = ap (λ (z : End). z.view) looks.end

  -- the seat has the end's geometry
  pub same_geometry : s.view.geometry ≡ o.view.geometry
  same_geometry = ap (λ (z : View). z.geometry) view_is ∙ sees_geometry o.view.recv.round q o.view looks.view looks.sees

  -- its side
  pub same_recv : s.view.recv ≡ o.view.recv
  same_recv = ap (λ (z : View). z.recv) view_is ∙ sees_recv o.view.recv.round q o.view looks.view looks.sees

  -- its lanes
  pub same_lanes : s.lanes ≡ o.lanes
  same_lanes = ap (λ (z : End). z.lanes) looks.end

  -- and its round
  pub same_round : s.view.recv.round ≡ o.view.recv.round
  same_round = ap (λ (z : RecvSide). z.round) same_recv

  -- all pieces over the partition are seen full in its round
  pub are_seen : IsShape o.view.geometry → q < o.view.geometry.recv_parts → o.view.recv.round % o.view.geometry.depth < o.view.geometry.depth → length s.view.seen ≡ word_count s.view.geometry
      → AreSeen s.view.geometry (seen s.view) s.view.recv.round q
  are_seen v part place size =
      subst (λ (z : ℕ). AreSeen s.view.geometry (seen s.view) z q) (sym same_round)
      (sees_all o.view.recv.round q o.view s.view v part place size (subst (λ (z : View). SeesAll o.view.recv.round q o.view z) (sym view_is) looks.sees))

  abbrev pub arrived : Room → Arrived
  arrived shelf = record { geometry = o.view.geometry; round = o.view.recv.round; partition = q; bytes = bytes_in shelf.bufs }

  module _ (may : ℕ → ℕ → ℕ → Type 0) (shelf : Room) (t : RecvHeld) (h : PartTaken may q shelf s t) where
    -- the shelf has what is kept of an arrival of the partition in that round
    pub arrival_is : q < o.view.geometry.recv_parts → IsArrival o.view.geometry o.view.recv.round q shelf
    arrival_is part = record {
      part = part;
      size = h.are.size ∙ ap (λ (z : Shape). cells_of z q) same_geometry;
      of = subst (λ (z : Shape × ℕ). AreOf z.0 z.1 (first_received z.0 q) shelf.bufs) (λ i. (same_geometry i, same_round i)) h.are.of;
      long = h.are.long ∙ ap (λ (z : Shape). z.recv_bytes) same_geometry;
      room = subst (λ (z : Shape). cells_of z q ≤ shelf.room) same_geometry h.room;
    }

    -- the end has taken the partition with the bytes of the arrival
    pub taken_says : MayLook q o → HasFlags false false q o.lanes → (a : Arrived) → a ≡ arrived shelf → Takes may q a o (end_of t)
    taken_says active free a is =
        let one : Takes may q (arrived shelf) o (end_of t) = record {
          active = active;
          free = free;
          at = end_of s;
          looks = looks;
          arrival = refl;
          end = ap end_of h.seat;
          long = h.are.long ∙ ap (λ (z : Shape). z.recv_bytes) same_geometry;
          allowed = λ j low. subst (λ (z : ℕ × ℕ). may z.0 (q * z.1 + j) (get_or (bytes_in shelf.bufs) j 0)) (λ i. (same_round i, (same_geometry i).recv_bytes)) (h.are.allowed j low);
        } in
        subst (λ (z : Arrived). Takes may q z o (end_of t)) (sym is) one

    -- and the arrival is out of it
    pub taken_out : q < length s.lanes → (a : Arrived) → a ≡ arrived shelf → IsOut a (end_of t)
    taken_out inside a is =
        let one : IsOut (arrived shelf) (end_of t) = subst (λ (z : RecvHeld). IsOut (arrived shelf) (end_of z)) (sym h.seat) record {
          geometry = sym same_geometry;
          round = sym same_round;
          out = flags_out true true q s.lanes inside;
        } in
        subst (λ (z : Arrived). IsOut z (end_of t)) (sym is) one
