-- The two steps of a marker that move slots, as the table asks for them: the try of a claim, which takes the partition's slots
-- where it wins and else is a look, and the lay, which gives the first of its slots back.
use Rattle.std.proofs.Common.{◌≡◌, inl, ℕ, zero, suc, ◌-◌, ◌%◌, ◌/◌, ◌^◌, ◌<◌, Bool, true, false, List, [], ◌++◌, length, map, get_or, set, drop, Contains, Option, Some, refl, sym, ap, ◌∙◌, subst, arith, bit_or, append-nil}
use Rattle.std.specs.Prelude.{eqb}
use Rattle.std.proofs.lemmas.List.{length-map}
use mathlib.Core.Option.{some, none}
use mathlib.Core.Option as maybe
use prog.Atomic.{either}
use lib.ListN.{get_elem?}
use Rattle.gate_word.specs.Words.{round_in}
use Rattle.gate_word.specs.Order.{IsLater}
use Rattle.atomic_table.specs.Table.{step, Act, keeps, Valid, homes_after, carried_after, stepped, Allows}
use Rattle.atomic_table.proofs.Lists.{exchanged}
use Rattle.part_geometry.specs.Shape.{Shape}
use Rattle.part_geometry.specs.Pieces.{pieces, first_part, Touches}
use Rattle.part_tables.specs.Parts.{first_sent, first_shared}
use Rattle.pair_core.specs.Names.{Name, Claim, Piece, Fits}
use Rattle.pair_core.specs.Core.{has}
use Rattle.pair_core.specs.Reading.{laid}
use Rattle.pair_core.specs.Steps.{mark}
use Rattle.pair_core.specs.Moves.{TryClaim, MayLay}
use Rattle.pair_core.specs.declared.view.Pending.{Pending}
use Rattle.pair_core.proofs.Facts.{bit_lt, later_refl}
use Rattle.slot_rows.specs.Lists.{row}
use Rattle.slot_rows.proofs.Acts.{takes_row, gives_row, cleared, stocked, taking_carries, taking_homes, taking_valid, giving_valid, giving_drops, giving_part_homes}
use Rattle.pair_rule.specs.Addresses.{address}
use Rattle.pair_rule.specs.Buf.{Buf}
use Rattle.pair_rule.specs.Views as view
use Rattle.pair_rule.specs.Rule.{At, Shown, slot_number, Rule, Holds, MayMark}
use Rattle.pair_rule.specs.Seats.{values}
use Rattle.pair_rule.specs.Steps.{Seat, MayMake, AreLong, AreCuts}
use Rattle.pair_rule.specs.Marking.{sent_count, shared_count, IsFilled, tries, lays}
use Rattle.pair_rule.specs.declared.view.View.{View}
use Rattle.pair_rule.specs.declared.view.Standing.TheVariants.{Seated}
use Rattle.pair_rule.specs.declared.rule.Key.{Key}
use Rattle.pair_rule.proofs.Core.{CoreLaws}
use Rattle.pair_rule.proofs.Allowed.{word_there, place_there, seen_same, unspent}
use Rattle.pair_rule.proofs.SideSteps.{of_running, load_claim_leads}
use Rattle.pair_rule.proofs.Claiming.{claim_leads}
use Rattle.pair_rule.proofs.Laying.{lay_leads}

pend_one : (x y : Pending) → Some x ≡ Some y → x ≡ y
pend_one x y e = cc

abbrev as_seat : Seat → Seat
as_seat x = x

-- a bit that isn't 1 is 0
no_bit : (b : Bool) (n : ℕ) → b ≡ false → n < 2 → (n ≡ 1 → b ≡ true) → n ≡ 0
no_bit b zero is small one = refl
no_bit b (suc zero) is small one = let t = one refl in absurd (cc)
no_bit b (suc (suc n)) is small one = absurd (omega arith)

module _ {T : Type 0} (may : T → ℕ → ℕ → ℕ → Type 0) (key : Key T) (L : CoreLaws key.geometry) where
  abbrev G : Shape
  G = key.geometry

  pub claim_allowed : (slots id shown p new a i y : ℕ) (d : View) (held : List (ℕ × Option Buf)) (b : List ℕ) → d.standing ≡ Seated → d.geometry ≡ G → MayMake d (TryClaim d.number p b)
      → view.seen d (Claim (p / 32)) ≡ shown → MayMark may key (round_in shown) p b → bit_or shown (2 ^ (p % 32)) ≡ new
      → Allows (Holds may key) slots id (d, held) (address G (Claim (p / 32))) (λ n. either (eqb n shown) new n) (tries p b (step a i shown y none) (d, held))
  claim_allowed slots id shown p new a i y d held b live same h saw ok is s holds deep at small =
      let r = of_running may key L s holds id d at live in
      let x : Name = Claim (p / 32) in let v : ℕ = get_or s.words (address G x) 0 in
      let F : ℕ → Type 0 = λ z. (w : View) × (act : Act (Option Buf)) × Valid s.homes held act × Holds may key (stepped s (address G x) z id held w act)
      × tries p b (step a i shown y none) (d, held) v (w, carried_after held act) in
      exchanged v shown new F
      (λ e.
      let l = claim_leads may key L s r id d shown d.number p b at live h saw e ok in
      let ys : List Buf = l.0 in let zs : List (Option Buf) = map Some ys in
      let k : ℕ = slot_number G (round_in shown % G.depth) (first_sent G p) in
      let w : View = view.claimed (round_in shown) p b (bit_or shown (2 ^ (p % 32))) d in
      let home : cleared s.homes k (sent_count G p) ≡ homes_after s.homes held (takes_row k zs) = sym (taking_homes s.homes held k zs ∙ ap (cleared s.homes k) (length-map ys Some ∙ l.1)) in
      let rule : Rule may key (stepped s (address G x) new id held w (takes_row k zs)) =
      subst (λ (z : ℕ × List (maybe.Option (Option Buf))). Rule may key record { words = set s.words (address G x) z.0; homes = z.1; views = set s.views id w }) (λ j. (is j, home j)) l.4.0 in
      let out : (carried_after held (takes_row k zs) ≡ row (slot_number d.geometry (round_in shown % d.geometry.depth) (first_sent d.geometry p)) zs ++ held) × (length ys ≡ sent_count d.geometry p) × AreLong d.geometry (first_sent d.geometry p) ys =
      subst (λ (z : Shape). (carried_after held (takes_row k zs) ≡ row (slot_number z (round_in shown % z.depth) (first_sent z p)) zs ++ held) × (length ys ≡ sent_count z p) × AreLong z (first_sent z p) ys) (sym same)
      (taking_carries k zs held, l.1, l.3) in
      (w, takes_row k zs, taking_valid s.homes held k zs l.2, inl rule, ((λ _. (refl, (ys, out.0, out.1, out.2))), (λ ne. absurd (ne e)), subst (IsLater shown) (sym e) (later_refl shown))))
      (λ ne.
      let led = load_claim_leads may key L s r id d at live d.number (p / 32) v refl (refl, word_there p d.geometry.send_parts h.2) in
      (view.saw x v d, keeps, tt, inl led.0.0, ((λ e. absurd (ne e)), (λ _. refl), subst (λ (z : ℕ). IsLater z v) saw led.1.later)))

  pub lay_allowed : (slots id k p i one a j u y : ℕ) (d : View) (held : List (ℕ × Option Buf)) → d.standing ≡ Seated → d.geometry ≡ G
      → IsFilled k p i d (slot_number d.geometry (k % d.geometry.depth) (first_shared d.geometry p i)) (values held)
      → held ≡ row (slot_number d.geometry (k % d.geometry.depth) (first_shared d.geometry p i)) (values held) → 2 ^ (p - first_part d.geometry i) ≡ one
      → Allows (Holds may key) slots id (d, held) (address G (Piece (k % G.depth) i)) (λ n. bit_or n one) (lays p i (step a j u y none) (d, held))
  lay_allowed slots id k p i one a j u y d held live same f stands is s holds deep at small =
      let r = of_running may key L s holds id d at live in
      let x : Pending = f.pending in let xs : List Buf = f.bufs in let zs : List (Option Buf) = map Some xs in
      let v : ℕ = get_or s.words (address G (Piece (k % G.depth) i)) 0 in
      let m : ℕ = length zs in
      let first : ℕ = slot_number G (k % G.depth) (first_shared G p i) in
      let led = lay_leads may key L s r id d d.number p i v x f.bytes xs at live (refl, (x, f.pends, f.lays)) f.pends
      (subst (λ (z : ℕ). Contains d.marks (mark z p f.bytes)) (sym f.round) f.marked)
      (f.count ∙ ap (λ (z : Shape). shared_count z p i) same)
      (subst (λ (z : ℕ × Shape). AreCuts z.1 z.0 f.bytes (first_shared z.1 p i) xs) (λ q. (sym f.round q, same q)) f.cuts)
      (ap (λ (z : ℕ). get_or s.words (address G (Piece (z % G.depth) i)) 0) (sym f.round)) in
      let w : View = view.laid i x (bit_or v (2 ^ (p - first_part d.geometry i))) d in
      let in_row : held ≡ row first (zs ++ f.others) ++ [] =
      stands ∙ ((λ q. row (slot_number (same q) (k % (same q).depth) (first_shared (same q) p i)) (f.slots q)) ∙ sym (append-nil (row first (zs ++ f.others)))) in
      let home : stocked s.homes (slot_number G (x.round % G.depth) (first_shared G p i)) zs ≡ homes_after s.homes held (gives_row m) =
      ap (λ (z : ℕ). stocked s.homes (slot_number G (z % G.depth) (first_shared G p i)) zs) f.round
      ∙ (sym (giving_part_homes s.homes first zs f.others []) ∙ ap (λ (z : List (ℕ × Option Buf)). homes_after s.homes z (gives_row m)) (sym in_row)) in
      let bits : 2 ^ (p - first_part G i) ≡ 2 ^ (p - first_part d.geometry i) = ap (λ (z : Shape). 2 ^ (p - first_part z i)) (sym same) in
      let rule : Rule may key (stepped s (address G (Piece (k % G.depth) i)) (bit_or v one) id held w (gives_row m)) =
      subst (λ (z : ℕ × ℕ × List (maybe.Option (Option Buf)) × ℕ). Rule may key record { words = set s.words (address G (Piece (z.0 % G.depth) i)) (bit_or v z.1); homes = z.2; views = set s.views id (view.laid i x (bit_or v z.3) d) })
      (λ q. (f.round q, (bits ∙ is) q, home q, bits q)) led.0 in
      let gone : carried_after held (gives_row m) ≡ drop (shared_count d.geometry p i) held = giving_drops m held ∙ ap (λ (z : ℕ). drop z held) (length-map xs Some ∙ f.count) in
      let after : as_seat (w, carried_after held (gives_row m)) ≡ as_seat (w, drop (shared_count d.geometry p i) held) = (λ q. (w, gone q)) in
      let told = tells s r id d at live k p i x f.pends f.round same f.lays in (
        w,
        gives_row m,
        giving_valid m s.homes held,
        inl rule,
        λ z e.
            subst (λ (q : Pending). ((w, carried_after held (gives_row m)) ≡ (view.laid i q (bit_or v (2 ^ (p - first_part d.geometry i))) d, drop (shared_count d.geometry p i) held))
            × (round_in v ≡ q.round) × (laid d.geometry v i p ≡ 0) × IsLater (view.seen d (Piece (q.round % d.geometry.depth) i)) v) (pend_one x z (sym f.pends ∙ e))
            (after, told.0, told.1, told.2),
      )
    where
      -- the word found is of the claim's round, lacks the partition, and is the one that was seen, or later
      tells : (s : At) (r : Rule may key s) (id : ℕ) (d : View) → get_elem? s.views id ≡ some d → d.standing ≡ Seated → (k p i : ℕ) (x : Pending) → d.pending ≡ Some x → x.round ≡ k → d.geometry ≡ G → MayLay d.geometry x p i
          → (round_in (get_or s.words (address G (Piece (k % G.depth) i)) 0) ≡ x.round) × (laid d.geometry (get_or s.words (address G (Piece (k % G.depth) i)) 0) i p ≡ 0)
          × IsLater (view.seen d (Piece (x.round % d.geometry.depth) i)) (get_or s.words (address G (Piece (k % G.depth) i)) 0)
      tells s r id d at live k p i x pends round same may_lay =
          let c : Shown = r.core in let a' = r.seats id d at live in
          let lay : MayLay G x p i = subst (λ (z : Shape). MayLay z x p i) same may_lay in
          let is = r.sound.claims.each d.number x (sym a'.pending_is ∙ pends) in
          let now : k ≡ c.send.round = sym round ∙ is.round in
          let opened = is.claimed.1 in
          let all : c.send.pieces ≡ pieces G = r.sound.progress.opens_last (omega arith) in
          let piece = lay.piece in
          let fits : Fits G (Piece (k % G.depth) i) = (place_there k G.depth r.shape.depth.0, piece) in
          let word : get_or s.words (address G (Piece (k % G.depth) i)) 0 ≡ c.word (Piece (c.send.round % G.depth) i) = r.words (Piece (k % G.depth) i) fits ∙ ap (λ (z : ℕ). c.word (Piece (z % G.depth) i)) now in
          let touch : Touches G i x.partition = subst (Touches G i) (sym lay.partition) lay.touches in
          let missing : laid G (c.word (Piece (c.send.round % G.depth) i)) i x.partition ≡ 0 =
          no_bit (has x.laid i) (laid G (c.word (Piece (c.send.round % G.depth) i)) i x.partition) lay.missing
          (bit_lt (c.word (Piece (c.send.round % G.depth) i)) (x.partition - first_part G i)) ((is.laid i piece touch).1) in
          let y : Name = Piece (k % G.depth) i in
          let seen = seen_same G r.shape c r.alone r.markers r.watchers r.seat id d a' y fits in
          let later : IsLater (view.seen d y) (get_or s.words (address G y) 0) =
          subst (λ (z : ℕ × ℕ). IsLater z.0 z.1) (λ q. (sym seen q, sym (r.words y fits) q))
          (r.sound.seen.present d.number y (unspent G r.shape c r.alone r.markers r.watchers r.seat id d a' d.number refl) fits) in (
            ap round_in word ∙ (r.sound.pieces.current i (omega arith) ∙ sym is.round),
            (λ q. laid (same q) (word q) i (sym lay.partition q)) ∙ missing,
            subst (λ (z : ℕ × Shape). IsLater (view.seen d (Piece (z.0 % z.1.depth) i)) (get_or s.words (address G y) 0)) (λ q. (sym round q, sym same q)) later,
          )
