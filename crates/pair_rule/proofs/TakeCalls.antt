-- What a take and a return ask of the table, and what they tell: the slots of a receive partition go out in one row, in front of
-- the seat's others, and come home in one.
use Rattle.std.proofs.Common.{◌≡◌, inl, ℕ, ◌+◌, ◌*◌, ◌%◌, ◌/◌, ◌^◌, ◌<◌, List, [], ◌++◌, length, map, drop, get_or, set, bit_or, Option, Some, refl, sym, ap, ◌∙◌, subst, length-append}
use Rattle.std.proofs.lemmas.List.{length-map}
use mathlib.Core.Option.{some, none, some-injective}
use mathlib.Core.Option as maybe
use lib.ListN.{get_elem?}
use Rattle.atomic_table.specs.Table.{Allows, Step, step, homes_after}
use Rattle.part_geometry.specs.Shape.{Shape, IsShape}
use Rattle.part_tables.specs.Parts.{first_received}
use Rattle.pair_core.specs.Names.{Take, Return, take_words}
use Rattle.pair_core.specs.Moves.{TakePart, ReturnPart}
use Rattle.slot_rows.specs.Lists.{row}
use Rattle.slot_rows.proofs.Lists.{row_length}
use Rattle.slot_rows.proofs.Acts.{takes_row, gives_row, cleared, stocked, taking_carries, taking_homes, taking_valid, giving_homes, giving_valid, giving_drops}
use Rattle.pair_rule.specs.Addresses.{address}
use Rattle.pair_rule.specs.Buf.{Buf}
use Rattle.pair_rule.specs.Rule.{At, Holds, Rule}
use Rattle.pair_rule.specs.Views.{seen, taken, given_back}
use Rattle.pair_rule.specs.Steps.{MayMake, Seat, AreOf}
use Rattle.pair_rule.specs.Seats.{cells_of}
use Rattle.pair_rule.specs.Parts.{first_slot, place_of, AreTaken, takes_out, gives_home}
use Rattle.pair_rule.specs.declared.view.View.{View}
use Rattle.pair_rule.specs.declared.view.Standing.TheVariants.{Seated}
use Rattle.pair_rule.specs.declared.rule.Key.{Key}
use Rattle.pair_rule.proofs.Core.{CoreLaws, laws}
use Rattle.pair_rule.proofs.Allowed.{seen_of, word_there}
use Rattle.pair_rule.proofs.SideSteps.{of_running}
use Rattle.pair_rule.proofs.Taking.{Takes, take_leads}
use Rattle.pair_rule.proofs.Returning.{return_leads}

pub none_said : Step (Option Buf)
none_said = step 0 0 0 0 none

module _ {T : Type 0} (may : T → ℕ → ℕ → ℕ → Type 0) (key : Key T) (v : IsShape key.geometry) (slots id : ℕ) (d : View) (live : d.standing ≡ Seated) (q : ℕ) where
  abbrev G : Shape
  G = key.geometry

  abbrev L : CoreLaws G
  L = laws G v

  -- the seat has seen its own words as they are
  own_take : (s : At) (r : Rule may key s) → get_elem? s.views id ≡ some d → d.number ≡ 1 → q < d.geometry.recv_parts → get_or s.words (address G (Take (q / 32))) 0 ≡ seen d (Take (q / 32))
  own_take s r at who h =
      let a = r.seats id d at live in let fits : q / 32 < take_words G = word_there q G.recv_parts (subst (λ (z : Shape). q < z.recv_parts) a.geometry h) in
      r.words (Take (q / 32)) fits ∙ sym (seen_of G v r.core r.alone r.markers r.watchers r.seat id d a 1 who (Take (q / 32)) fits ∙ r.sound.owns.takes (q / 32) fits)

  own_return : (s : At) (r : Rule may key s) → get_elem? s.views id ≡ some d → d.number ≡ 1 → q < d.geometry.recv_parts → get_or s.words (address G (Return (q / 32))) 0 ≡ seen d (Return (q / 32))
  own_return s r at who h =
      let a = r.seats id d at live in let fits : q / 32 < take_words G = word_there q G.recv_parts (subst (λ (z : Shape). q < z.recv_parts) a.geometry h) in
      r.words (Return (q / 32)) fits ∙ sym (seen_of G v r.core r.alone r.markers r.watchers r.seat id d a 1 who (Return (q / 32)) fits ∙ r.sound.owns.returns (q / 32) fits)

  taking : (held : List (ℕ × Option Buf)) (ok : ℕ → ℕ → ℕ → Type 0) → MayMake d (TakePart q []) → ((k i b : ℕ) → may key.tag k i b → ok k i b)
      → Allows (Holds may key) slots id (d, held) (address G (Take (q / 32))) (λ n. bit_or n (2 ^ (q % 32))) (takes_out ok q none_said (d, held))
  taking held ok h weaker s holds deep at small =
      let r = of_running may key L s holds id d at live in let geo = (r.seats id d at live).geometry in
      let n : ℕ = get_or s.words (address G (Take (q / 32))) 0 in let w : ℕ = bit_or n (2 ^ (q % 32)) in
      let t : Takes may key L s id d q n d.recv.round r.core = take_leads may key L s r id d q n at live h refl in
      let k : ℕ = first_slot G (d.recv.round % G.depth) q in let ys : List (Option Buf) = map Some t.bufs in
      let homes : homes_after s.homes held (takes_row k ys) ≡ cleared s.homes k (cells_of G q) = taking_homes s.homes held k ys ∙ ap (cleared s.homes k) (length-map t.bufs Some ∙ t.size) in (
        taken q t.with w d,
        takes_row k ys,
        taking_valid s.homes held k ys t.home,
        inl (subst (λ (z : List (maybe.Option (Option Buf))). Rule may key record { words = set s.words (address G (Take (q / 32))) w; homes = z; views = set s.views id (taken q t.with w d) }) (sym homes) t.led.0),
        (
          own_take s r at h.0 h.1,
          t.bufs,
          t.with,
          record {
            size = t.size ∙ sym (ap (λ (z : Shape). cells_of z q) geo);
            of = subst (λ (z : Shape). AreOf z d.recv.round (first_received z q) t.bufs) (sym geo) t.of;
            bytes = t.bytes;
            long = t.long ∙ sym (ap (λ (z : Shape). z.recv_bytes) geo);
            allowed = λ j low. weaker d.recv.round (q * d.geometry.recv_bytes + j) (get_or t.with j 0)
                (subst (λ (z : Shape). may key.tag d.recv.round (q * z.recv_bytes + j) (get_or t.with j 0)) (sym geo) (t.may_stand j low));
          },
          (λ i. (taken q t.with w d, (taking_carries k ys held ∙ ap (λ (z : Shape). row (first_slot z (d.recv.round % z.depth) q) ys ++ held) (sym geo)) i)),
        ),
      )

  giving : (bufs : List Buf) (others : List (ℕ × Option Buf)) → MayMake d (ReturnPart q) → length bufs ≡ cells_of d.geometry q → AreOf d.geometry d.recv.round (first_received d.geometry q) bufs
      → Allows (Holds may key) slots id (d, row (first_slot d.geometry (place_of d) q) (map Some bufs) ++ others) (address G (Return (q / 32))) (λ n. bit_or n (2 ^ (q % 32)))
      (gives_home q none_said (d, row (first_slot d.geometry (place_of d) q) (map Some bufs) ++ others))
  giving bufs others h size of s holds deep at small =
      let r = of_running may key L s holds id d at live in let geo = (r.seats id d at live).geometry in
      let n : ℕ = get_or s.words (address G (Return (q / 32))) 0 in let w : ℕ = bit_or n (2 ^ (q % 32)) in
      let k : ℕ = first_slot d.geometry (place_of d) q in let ys : List (Option Buf) = map Some bufs in
      let held : List (ℕ × Option Buf) = row k ys ++ others in
      let led = return_leads may key L s r id d q n bufs at live h (size ∙ ap (λ (z : Shape). cells_of z q) geo) (subst (λ (z : Shape). AreOf z d.recv.round (first_received z q) bufs) geo of) refl in
      let homes : homes_after s.homes held (gives_row (length ys)) ≡ stocked s.homes (first_slot G (d.recv.round % G.depth) q) ys =
      giving_homes s.homes ys k others ∙ ap (λ (z : Shape). stocked s.homes (first_slot z (d.recv.round % z.depth) q) ys) geo in (
        given_back q w d,
        gives_row (length ys),
        giving_valid (length ys) s.homes held,
        inl (subst (λ (z : List (maybe.Option (Option Buf))). Rule may key record { words = set s.words (address G (Return (q / 32))) w; homes = z; views = set s.views id (given_back q w d) }) (sym homes) led.0),
        (own_return s r at h.0 h.1, λ i. (given_back q w d, (giving_drops (length ys) held ∙ ap (λ (z : ℕ). drop z held) (length-map bufs Some ∙ size)) i)),
      )

  -- the same with the numbers of a call
  pub may_take_out : (seat : Seat) (held : List (ℕ × Option Buf)) (ok : ℕ → ℕ → ℕ → Type 0) (part n m : ℕ) → seat ≡ (d, held) → MayMake d (TakePart q []) → ((k i b : ℕ) → may key.tag k i b → ok k i b)
      → q ≡ part → n ≡ address G (Take (q / 32)) → m ≡ 2 ^ (q % 32) → Allows (Holds may key) slots id seat n (λ z. bit_or z m) (takes_out ok part none_said seat)
  may_take_out seat held ok part n m is h weaker same at bit =
      subst (λ (z : Seat × (ℕ × (ℕ × ℕ))). Allows (Holds may key) slots id z.0 z.1.1.0 (λ x. bit_or x z.1.1.1) (takes_out ok z.1.0 none_said z.0))
      (λ i. (sym is i, (same i, (sym at i, sym bit i)))) (taking held ok h weaker)

  pub may_give_home : (seat : Seat) (bufs : List Buf) (others : List (ℕ × Option Buf)) (part n m : ℕ) → seat ≡ (d, row (first_slot d.geometry (place_of d) q) (map Some bufs) ++ others) → MayMake d (ReturnPart q)
      → length bufs ≡ cells_of d.geometry q → AreOf d.geometry d.recv.round (first_received d.geometry q) bufs
      → q ≡ part → n ≡ address G (Return (q / 32)) → m ≡ 2 ^ (q % 32) → Allows (Holds may key) slots id seat n (λ z. bit_or z m) (gives_home part none_said seat)
  may_give_home seat bufs others part n m is h size of same at bit =
      subst (λ (z : Seat × (ℕ × (ℕ × ℕ))). Allows (Holds may key) slots id z.0 z.1.1.0 (λ x. bit_or x z.1.1.1) (gives_home z.1.0 none_said z.0))
      (λ i. (sym is i, (same i, (sym at i, sym bit i)))) (giving bufs others h size of)

-- what the step told, of the list before the turn
pub took : (ok : ℕ → ℕ → ℕ → Type 0) (st : Step (Option Buf)) (q part found : ℕ) (me seat seat' : Seat) → seat ≡ me → q ≡ part → takes_out ok part st seat found seat' → takes_out ok q none_said me found seat'
took ok st q part found me seat seat' is same t = subst (λ (z : Seat × ℕ). takes_out ok z.1 none_said z.0 found seat') (λ i. (is i, sym same i)) t

pub gave : (st : Step (Option Buf)) (q part found : ℕ) (me seat seat' : Seat) → seat ≡ me → q ≡ part → gives_home part st seat found seat' → gives_home q none_said me found seat'
gave st q part found me seat seat' is same t = subst (λ (z : Seat × ℕ). gives_home z.1 none_said z.0 found seat') (λ i. (is i, sym same i)) t

-- how long the row is that went out, and the seat's list with it
pub taken_row : (ok : ℕ → ℕ → ℕ → Type 0) (d : View) (q : ℕ) (bufs : List Buf) (with : List ℕ) (k : ℕ) → AreTaken ok d q bufs with → length (row k (map Some bufs)) ≡ cells_of d.geometry q
taken_row ok d q bufs with k a = row_length k (map Some bufs) ∙ (length-map bufs Some ∙ a.size)

pub taken_length : (ok : ℕ → ℕ → ℕ → Type 0) (d : View) (l : List (ℕ × Option Buf)) (q found : ℕ) (seat' : Seat) → takes_out ok q none_said (d, l) found seat' → length seat'.1 ≡ cells_of d.geometry q + length l
taken_length ok d l q found seat' t =
    let R : List (ℕ × Option Buf) = row (first_slot d.geometry (place_of d) q) (map Some t.1) in
    ap (λ (m : Seat). length m.1) t.4 ∙ (length-append R l ∙ ap (λ (z : ℕ). z + length l) (taken_row ok d q t.1 t.2 (first_slot d.geometry (place_of d) q) t.3))

-- two readings of one slot
pub same_value : (k : ℕ) (a b : Option Buf) → ◌≡◌ {A = maybe.Option (ℕ × Option Buf)} (some (k, a)) (some (k, b)) → a ≡ b
same_value k a b e = let x : ℕ × Option Buf = (k, a) in let y : ℕ × Option Buf = (k, b) in ap (λ (z : ℕ × Option Buf). z.1) (some-injective x y e)
