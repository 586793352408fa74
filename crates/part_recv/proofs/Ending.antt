-- What the receive end keeps of its seat holds after each of its calls.
use Rattle.std.proofs.Common.{◌≡◌, ◌≢◌, ⊎_elim, ℕ, zero, suc, ◌+◌, ◌/◌, ◌%◌, ◌<◌, ◌≤◌, ◌==◌, Bool, true, false, List, [], ◌∷◌, ◌++◌, length, take, drop, set, Option, Some, None, refl, sym, ap, ◌∙◌, subst, arith, true≢false, length-drop, length-take-le, take-append-drop, drop-drop}
use mathlib.Core.Option.{some, some-injective, some-ne-none}
use lib.ListN.{get_elem?}
use Rattle.std.proofs.lemmas.Bool.{eq-eqb}
use Rattle.atomic_table.proofs.Lists.{set_here, set_else}
use Rattle.part_geometry.specs.Shape.{Shape}
use Rattle.part_tables.specs.Parts.{first_received}
use Rattle.pair_core.specs.Moves.{IsRecvIdle, IsRecvActive}
use Rattle.pair_core.specs.Reading.{part_bit}
use Rattle.pair_core.specs.Names.{Take, Return}
use Rattle.pair_core.specs.declared.view.RecvSide.{RecvSide}
use Rattle.slot_rows.specs.declared.lane.Lane.{Lane}
use Rattle.slot_rows.specs.Lists.{row, spliced}
use Rattle.slot_rows.specs.Lanes.{place, flagged, HasFlags}
use Rattle.slot_rows.proofs.Lists.{at_split, row_length}
use Rattle.slot_rows.proofs.Lanes.{flagged_at, flagged_place, home_width, out_width}
use Rattle.slot_rows.proofs.Overlays.{spliced_block}
use Rattle.pair_rule.specs.Buf.{Buf}
use Rattle.pair_rule.specs.Views.{seen}
use Rattle.pair_rule.specs.Seats.{RecvHeld, Room, AreLanes, flag, cells_of}
use Rattle.pair_rule.specs.Parts.{HasLeft, MayBeOf, part_slots, place_of, first_slot, own_slot, taken_from, returned_from}
use Rattle.pair_rule.specs.declared.view.View.{View}
use Rattle.pair_rule.proofs.Leaving.{lane_room, left_length, left_of}
use Rattle.part_recv.specs.Receiving.{IsEnd, IsSide, IsAtRest, is_active, all_untaken}
use Rattle.part_recv.specs.Taking.{bytes_in}
use Rattle.part_recv.specs.Parting.{PartTaken, part_returned, AreHome}
use Rattle.part_recv.proofs.Lending.{lane_at, place_fits}
use Rattle.part_recv.proofs.Beside.{kept_beside}

-- ---- the side

-- a view of the same geometry and side is active or idle as the other is
pub side_same : (a : Bool) (d e : View) → d.geometry ≡ e.geometry → d.recv ≡ e.recv → IsSide a d → IsSide a e
side_same true d e g r h = subst (λ (z : Shape × RecvSide). IsRecvActive z.0 z.1) (λ i. (g i, r i)) h
side_same false d e g r h = subst IsRecvIdle r h

-- the flag that the end keeps says whether the side is active
pub side_flag : (a : Bool) (d : View) → IsSide a d → is_active d ≡ a
side_flag true d h = eq-eqb d.recv.released 0 h.1
side_flag false d h = ap (λ (n : ℕ). n == 0) h

-- a side that a view says to be active is
pub side_active : (a : Bool) (d : View) → IsSide a d → is_active d ≡ true → IsRecvActive d.geometry d.recv
side_active true d h e = h
side_active false d h e = absurd (true≢false (sym e ∙ side_flag false d h))

-- a lane that is out tells that the side is active
pub out_active : (a : Bool) (d : View) (n q : ℕ) (t : Bool) (ls : List Lane) → IsSide a d → AreLanes d n ls → HasFlags t true q ls → a ≡ true
out_active true d n q t ls h lanes flags = refl
out_active false d n q t ls h lanes flags =
    let home = (lanes.each q flags.lane flags.at).home (λ active. let b = active.1 in absurd (omega (arith, h))) in
    absurd (true≢false (sym flags.out ∙ home))

-- no lane of an idle side is out
pub idle_home : (d : View) (n : ℕ) (ls : List Lane) → AreLanes d n ls → IsRecvIdle d.recv → AreHome ls
idle_home d n ls lanes idle = λ q l at. (lanes.each q l at).home (λ active. let b = active.1 in absurd (omega (arith, idle)))

-- ---- another view, with the same geometry and round

left_view : (s : RecvHeld) (d : View) → d.geometry ≡ s.view.geometry → d.recv.round ≡ s.view.recv.round → (q : ℕ) → HasLeft (place_of s.view) q s → HasLeft (place_of d) q (record s { view = d })
left_view s d g r q h = record {
  values = h.values;
  out = record {
    size = h.out.size ∙ sym (ap (λ (z : Shape). cells_of z q) g);
    stand = (λ i. part_slots (g i) s.lanes q s.slots) ∙ (h.out.stand ∙ (λ i. row (first_slot (sym g i) (sym r i % (sym g i).depth) q) h.values));
  };
  of = subst (λ (z : Shape × ℕ). MayBeOf z.0 z.1 (first_received z.0 q) h.values) (λ i. (sym g i, sym r i)) h.of;
}

-- the seat with such a view keeps what the end has
pub end_view : (a b : Bool) (w v : ℕ) (s : RecvHeld) (d : View) → d.geometry ≡ s.view.geometry → d.recv.round ≡ s.view.recv.round → IsSide b d → v ≡ d.recv.watchers → IsEnd a w s → IsEnd b v (record s { view = d })
end_view a b w v s d g r side out h = record {
  side = side;
  out = out;
  slots = λ q l at away. left_view s d g r q (h.slots q l at away);
  shelves = λ q l at home.
      let x = h.shelves q l at home in
      record { room = x.room; there = x.there; wide = subst (λ (z : Shape). cells_of z q ≤ x.room) (sym g) x.wide };
}

-- ---- a seat at rest

-- one at rest may be an idle end's, with no watcher out
pub end_begins : (s : RecvHeld) → AreLanes s.view (length s.slots) s.lanes → IsAtRest s → IsEnd false 0 s
end_begins s lanes h = record {
  side = h.idle;
  out = sym h.alone;
  slots = λ q l at away. absurd (true≢false (sym away ∙ idle_home s.view (length s.slots) s.lanes lanes h.idle q l at));
  shelves = λ q l at home. h.shelves q (subst (λ (z : ℕ). q < z) lanes.parts (at_split s.lanes q l at).0);
}

-- an idle end's with no watcher out is at rest
pub end_rests : (a : Bool) (w : ℕ) (s : RecvHeld) → AreLanes s.view (length s.slots) s.lanes → IsEnd a w s → is_active s.view ≡ false → s.view.recv.watchers ≡ 0 → IsAtRest s
end_rests true w s lanes h idle alone = absurd (true≢false (sym (side_flag true s.view h.side) ∙ idle))
end_rests false w s lanes h idle alone = record {
  idle = h.side;
  alone = alone;
  shelves = λ q inside.
      let l = lane_at s.lanes q (subst (λ (z : ℕ). q < z) (sym lanes.parts) inside) in
      h.shelves q l.0 l.1 (idle_home s.view (length s.slots) s.lanes lanes h.side q l.0 l.1);
}

-- ---- a start

untaken_at : (ls : List Lane) (q : ℕ) (l : Lane) → get_elem? (all_untaken ls) q ≡ some l → ((x : Lane) × (get_elem? ls q ≡ some x)) × (l.out ≡ false)
untaken_at [] q l e = absurd (some-ne-none l (sym e))
untaken_at (x ∷ xs) zero l e = ((x, refl), sym (ap (λ (z : Lane). z.out) (some-injective (record x { taken = false; out = false }) l e)))
untaken_at (x ∷ xs) (suc q) l e = untaken_at xs q l e

-- the end is active with all lanes untaken, where all were home
pub end_starts : (a : Bool) (w : ℕ) (s : RecvHeld) (d : View) → d.geometry ≡ s.view.geometry → IsSide true d → w ≡ d.recv.watchers → AreHome s.lanes → IsEnd a w s → IsEnd true w (record s { view = d; lanes = all_untaken s.lanes })
end_starts a w s d g side out home h = record {
  side = side;
  out = out;
  slots = λ q l at away. absurd (true≢false (sym away ∙ (untaken_at s.lanes q l at).1));
  shelves = λ q l at still.
      let y = (untaken_at s.lanes q l at).0 in
      let x = h.shelves q y.0 y.1 (home q y.0 y.1) in
      record { room = x.room; there = x.there; wide = subst (λ (z : Shape). cells_of z q ≤ x.room) (sym g) x.wide };
}

-- ---- a take

module _ (may : ℕ → ℕ → ℕ → Type 0) (a : Bool) (w q : ℕ) (shelf : Room) (s t : RecvHeld) (lanes : AreLanes s.view (length s.slots) s.lanes) (free : HasFlags false false q s.lanes) (h : PartTaken may q shelf s t) (end : IsEnd a w s) where
  -- the seat then
  abbrev away : RecvHeld
  away = record s {
    view = taken_from q (bytes_in shelf.bufs) (seen s.view (Take (q / 32))) s.view;
    lanes = flagged true true q s.lanes;
    slots = spliced (place s.lanes q) (own_slot s.view q) h.left s.slots;
    shelves = set s.shelves q None;
  }

  -- as many slots as the partition has cells
  size : length h.left ≡ cells_of s.view.geometry q
  size = left_length shelf.bufs h.left h.leaves ∙ h.are.size

  -- the partition's own slots
  own_left : HasLeft (place_of s.view) q away
  own_left = record {
    values = h.left;
    out = record {
      size = size;
      stand = (λ i. take (cells_of s.view.geometry q) (drop (flagged_place true true q s.lanes i) away.slots))
          ∙ (spliced_block (place s.lanes q) (own_slot s.view q) (cells_of s.view.geometry q) h.left s.slots (place_fits s q lanes) size).0;
    };
    of = left_of s.view.geometry s.view.recv.round (first_received s.view.geometry q) shelf.bufs h.left h.leaves h.are.of;
  }

  -- those of another partition
  else_left : (p : ℕ) (l : Lane) → p ≢ q → get_elem? s.lanes p ≡ some l → l.out ≡ true → HasLeft (place_of s.view) p away
  else_left p l other at out =
      let x = end.slots p l at out in
      let kept = kept_beside s.view (length s.slots) s.lanes lanes true true p q free.lane l other free.at at out (take (place s.lanes q) s.slots) [] (row (own_slot s.view q) h.left) (drop (place s.lanes q) s.slots)
      (length-take-le (place s.lanes q) s.slots (place_fits s q lanes)) (sym (home_width free.lane free.out))
      (row_length (own_slot s.view q) h.left ∙ (size ∙ sym (lanes.each q free.lane free.at).count)) in
      record {
        values = x.values;
        out = record {
          size = x.out.size;
          stand = kept ∙ (ap (part_slots s.view.geometry s.lanes p) (take-append-drop (place s.lanes q) s.slots) ∙ x.out.stand);
        };
        of = x.of;
      }

  -- after it what the end keeps holds: the partition's slots are out, and its shelf is away
  pub end_takes : IsEnd a w t
  end_takes =
      let e : IsEnd a w away = record {
        side = side_same a s.view away.view refl refl end.side;
        out = end.out;
        slots = λ p l at out.
            ⊎_elim (λ (y : (p ≡ q) × ((x : Lane) × (get_elem? s.lanes q ≡ some x) × (record x { taken = true; out = true } ≡ l))).
            subst (λ (z : ℕ). HasLeft (place_of s.view) z away) (sym y.0) own_left)
            (λ (y : (p ≢ q) × (get_elem? s.lanes p ≡ some l)). else_left p l y.0 y.1 out)
            (flagged_at true true q s.lanes p l at);
        shelves = λ p l at home.
            ⊎_elim (λ (y : (p ≡ q) × ((x : Lane) × (get_elem? s.lanes q ≡ some x) × (record x { taken = true; out = true } ≡ l))).
            absurd (true≢false (ap (λ (z : Lane). z.out) y.1.2 ∙ home)))
            (λ (y : (p ≢ q) × (get_elem? s.lanes p ≡ some l)).
            let x = end.shelves p l y.1 home in record { room = x.room; there = set_else s.shelves q p None y.0 ∙ x.there; wide = x.wide })
            (flagged_at true true q s.lanes p l at);
      } in
      subst (λ (z : RecvHeld). IsEnd a w z) (sym h.seat) e

-- ---- a return

module _ (a : Bool) (w q : ℕ) (s : RecvHeld) (lanes : AreLanes s.view (length s.slots) s.lanes) (h : HasFlags true true q s.lanes) (end : IsEnd a w s) (shelf : Room) where
  -- the slots of another partition, where those of q are home
  back_left : (p : ℕ) (l : Lane) → p ≢ q → get_elem? s.lanes p ≡ some l → l.out ≡ true → HasLeft (place_of s.view) p (part_returned q shelf s)
  back_left p l other at out =
      let x = end.slots p l at out in let m : ℕ = place s.lanes q in let n : ℕ = cells_of s.view.geometry q in
      let R : List (ℕ × Option Buf) = take n (drop m s.slots) in let B : List (ℕ × Option Buf) = drop (m + n) s.slots in
      let long : length R ≡ n = length-take-le n (drop m s.slots) (let r = lane_room s.view (length s.slots) q s.lanes lanes h in let d = length-drop m s.slots in omega arith) in
      let all : take m s.slots ++ (R ++ B) ≡ s.slots =
      (λ i. take m s.slots ++ (R ++ sym (drop-drop n m s.slots) i)) ∙ (ap (λ (z : List (ℕ × Option Buf)). take m s.slots ++ z) (take-append-drop n (drop m s.slots)) ∙ take-append-drop m s.slots) in
      let kept = kept_beside s.view (length s.slots) s.lanes lanes true false p q h.lane l other h.at at out (take m s.slots) R [] B
      (length-take-le m s.slots (place_fits s q lanes)) (long ∙ sym (out_width h.lane h.out ∙ (lanes.each q h.lane h.at).count)) refl in
      record {
        values = x.values;
        out = record {
          size = x.out.size;
          stand = kept ∙ (ap (part_slots s.view.geometry s.lanes p) all ∙ x.out.stand);
        };
        of = x.of;
      }

  -- after it what the end keeps holds: the partition's slots are home, and its shelf is empty
  pub end_returns : length s.shelves ≡ s.view.geometry.recv_parts → cells_of s.view.geometry q ≤ shelf.room → IsEnd a w (part_returned q shelf s)
  end_returns size room = record {
    side = side_same a s.view (returned_from q (seen s.view (Return (q / 32))) s.view) refl refl end.side;
    out = end.out;
    slots = λ p l at out.
        ⊎_elim (λ (y : (p ≡ q) × ((x : Lane) × (get_elem? s.lanes q ≡ some x) × (record x { taken = true; out = false } ≡ l))).
        absurd (true≢false (sym out ∙ sym (ap (λ (z : Lane). z.out) y.1.2))))
        (λ (y : (p ≢ q) × (get_elem? s.lanes p ≡ some l)). back_left p l y.0 y.1 out)
        (flagged_at true false q s.lanes p l at);
    shelves = λ p l at home.
        let empty : Room = record { bufs = []; room = shelf.room } in
        let inside : q < length s.shelves = let x = (at_split s.lanes q h.lane h.at).0 in let parts = lanes.parts in omega arith in
        ⊎_elim (λ (y : (p ≡ q) × ((x : Lane) × (get_elem? s.lanes q ≡ some x) × (record x { taken = true; out = false } ≡ l))).
        record {
          room = shelf.room;
          there = ap (get_elem? (set s.shelves q (Some empty))) y.0 ∙ set_here s.shelves q (Some empty) inside;
          wide = subst (λ (z : ℕ). cells_of s.view.geometry z ≤ shelf.room) (sym y.0) room;
        })
        (λ (y : (p ≢ q) × (get_elem? s.lanes p ≡ some l)).
        let x = end.shelves p l y.1 home in record { room = x.room; there = set_else s.shelves q p (Some empty) y.0 ∙ x.there; wide = x.wide })
        (flagged_at true false q s.lanes p l at);
  }

-- ---- what the flags of a lane say of the words

-- the take word has a partition whose lane is taken
pub taken_bit : (d : View) (n q : ℕ) (o : Bool) (ls : List Lane) → AreLanes d n ls → HasFlags true o q ls → part_bit (λ t. seen d (Take t)) q ≡ 1
taken_bit d n q o ls lanes h = (lanes.each q h.lane h.at).taken ∙ ap flag h.taken

-- and lacks one whose lane isn't
pub free_bit : (d : View) (n q : ℕ) (o : Bool) (ls : List Lane) → AreLanes d n ls → HasFlags false o q ls → part_bit (λ t. seen d (Take t)) q ≡ 0
free_bit d n q o ls lanes h = (lanes.each q h.lane h.at).taken ∙ ap flag h.taken

-- in an active side the return word lacks a partition that is out
pub out_bit : (d : View) (n q : ℕ) (ls : List Lane) → AreLanes d n ls → IsRecvActive d.geometry d.recv → HasFlags true true q ls → part_bit (λ t. seen d (Return t)) q ≡ 0
out_bit d n q ls lanes active h =
    let e = (lanes.each q h.lane h.at).out active in let a = ap flag h.taken in let b = ap flag h.out in omega arith

-- and has one that is taken and isn't out
pub back_bit : (d : View) (n q : ℕ) (ls : List Lane) → AreLanes d n ls → IsRecvActive d.geometry d.recv → HasFlags true false q ls → part_bit (λ t. seen d (Return t)) q ≡ 1
back_bit d n q ls lanes active h =
    let e = (lanes.each q h.lane h.at).out active in let a = ap flag h.taken in let b = ap flag h.out in omega arith

-- a lane that isn't taken isn't out
pub free_flags : (d : View) (n q : ℕ) (ls : List Lane) (l : Lane) → AreLanes d n ls → IsRecvActive d.geometry d.recv → get_elem? ls q ≡ some l → l.taken ≡ false → HasFlags false false q ls
free_flags d n q ls l lanes active at free = record { lane = l; at = at; taken = free; out = none l.out (let e = (lanes.each q l at).out active in let a = ap flag free in omega arith) }
  where
    none : (b : Bool) → flag b ≡ 0 → b ≡ false
    none true e = absurd (omega arith)
    none false e = refl
