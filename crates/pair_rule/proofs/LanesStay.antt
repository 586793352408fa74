-- What the receive seat has seen of its own words is as it was after a look, after it is told something, and after it has made a watcher
-- or taken one back; and so its lanes are.
use Rattle.std.proofs.Common.{◌≡◌, ◌≢◌, ℕ, ◌+◌, ◌-◌, ◌*◌, ◌/◌, ◌%◌, ◌<◌, Bool, true, false, ◌&&◌, List, [], ◌∷◌, suc, length, get_or, refl, sym, ap, ◌∙◌, subst, arith, length-set}
use Rattle.std.specs.Prelude.{if◌then◌else◌}
use Rattle.std.proofs.lemmas.Bool.{eq-eqb, lt-ltb}
use Rattle.std.proofs.lemmas.List.{get_or-set_other}
use Rattle.std.proofs.lemmas.List.FromFn.{length-map-range_with_len, get_or-map-range_with_len}
use Rattle.gate_word.specs.Order.{join_of}
use Rattle.pair_core.specs.Words.{bit}
use Rattle.pair_core.specs.Names.{Name, Claim, Take, Return, Piece, Fits, number, claim_words, take_words}
use Rattle.pair_core.specs.State.{word_count}
use Rattle.pair_core.proofs.Facts.{number_one, number_lt}
use Rattle.slot_rows.specs.declared.lane.Lane.{Lane}
use Rattle.slot_rows.specs.Lanes.{wide, width}
use Rattle.slot_rows.proofs.Lists.{at_split}
use mathlib.Core.Option.{some}
use lib.ListN.{get_elem?}
use Rattle.pair_core.specs.Moves.{IsRecvIdle}
use Rattle.pair_rule.specs.First.{with_watcher, with_watcher_back}
use Rattle.pair_rule.specs.Views.{seen, saw, told, told_word, is_own}
use Rattle.pair_rule.specs.Seats.{AreLanes, flag}
use Rattle.pair_rule.specs.declared.view.View.{View}
use Rattle.pair_rule.proofs.Allowed.{word_there}

-- the word x isn't the receive seat's own
abbrev pub IsOther : Name → Type 0
IsOther x = (t : ℕ) → (Take t ≢ x) × (Return t ≢ x)

-- no claim word is the receive seat's own
pub other_claim : (c : ℕ) → IsOther (Claim c)
other_claim c t = ((λ e. absurd (cc)), (λ e. absurd (cc)))

-- and no piece's word
pub other_piece : (d i : ℕ) → IsOther (Piece d i)
other_piece d i t = ((λ e. absurd (cc)), (λ e. absurd (cc)))

-- the same view, where it has seen these words, looked so often, and counts and has made so many watchers
abbrev seeing : View → List ℕ → List ℕ → ℕ → ℕ → View
seeing d words often made watchers = record d { seen = words; looks = often; made = made; recv = record d.recv { watchers = watchers } }

lanes_seeing : (d : View) (words often : List ℕ) (made watchers n : ℕ) (ls : List Lane) → length words ≡ length d.seen
    → ((t : ℕ) → t < take_words d.geometry → (get_or words (number d.geometry (Take t)) 0 ≡ seen d (Take t)) × (get_or words (number d.geometry (Return t)) 0 ≡ seen d (Return t)))
    → AreLanes d n ls → AreLanes (seeing d words often made watchers) n ls
lanes_seeing d words often made watchers n ls size same lanes = record {
  words = size ∙ lanes.words;
  round = lanes.round;
  order = lanes.order;
  parts = lanes.parts;
  total = lanes.total;
  each = λ q l at.
      let a = lanes.each q l at in
      let low : q < d.geometry.recv_parts = subst (λ (z : ℕ). q < z) lanes.parts (at_split ls q l at).0 in
      let there = same (q / 32) (word_there q d.geometry.recv_parts low) in
      let took = ap (λ (z : ℕ). bit z (q % 32)) there.0 in
      let gave = ap (λ (z : ℕ). bit z (q % 32)) there.1 in
      record {
        first = a.first;
        count = a.count;
        taken = took ∙ a.taken;
        out = λ active. ap (λ (z : ℕ). z + flag l.out) gave ∙ a.out active;
        home = a.home;
        unreturned = λ opening stored. gave ∙ a.unreturned opening stored;
        untaken = a.untaken;
      };
}

-- the word y is as it was seen before the look at x
pub seen_else : (d : View) (x y : Name) (w : ℕ) → Fits d.geometry x → Fits d.geometry y → y ≢ x → seen (saw x w d) y ≡ seen d y
seen_else d x y w fits there other =
    get_or-set_other d.seen (number d.geometry x) (number d.geometry y) w 0 (λ e. other (number_one d.geometry y x there fits e))

-- after a look
pub lanes_stay : (d : View) (x : Name) (w n : ℕ) (ls : List Lane) → Fits d.geometry x → IsOther x → AreLanes d n ls → AreLanes (saw x w d) n ls
lanes_stay d x w n ls fits other lanes =
    lanes_seeing d (saw x w d).seen (saw x w d).looks d.made d.recv.watchers n ls (length-set d.seen (number d.geometry x) w)
    (λ t there. (seen_else d x (Take t) w fits there (other t).0, seen_else d x (Return t) w fits there (other t).1)) lanes

-- after a watcher was made
pub lanes_split : (d : View) (n : ℕ) (ls : List Lane) → AreLanes d n ls → AreLanes (with_watcher d) n ls
lanes_split d n ls lanes = lanes_seeing d d.seen d.looks (d.made + 1) (d.recv.watchers + 1) n ls refl (λ t there. (refl, refl)) lanes

-- of the receive side's own words
own_word : (d e : View) (n : ℕ) → d.number ≡ 1 → claim_words d.geometry < n → n < claim_words d.geometry + 1 + 2 * take_words d.geometry → told_word d e n ≡ get_or d.seen n 0
own_word d e n oneth low high =
    let own : is_own d n ≡ true = (λ i. eq-eqb d.number 1 oneth i && (lt-ltb (claim_words d.geometry) n low i && lt-ltb n (claim_words d.geometry + 1 + 2 * take_words d.geometry) high i)) in
    ap (λ (b : Bool). if b then get_or d.seen n 0 else join_of (get_or d.seen n 0) (get_or e.seen n 0)) own

own_seen : (d e : View) (x : Name) → d.number ≡ 1 → Fits d.geometry x → claim_words d.geometry < number d.geometry x → number d.geometry x < claim_words d.geometry + 1 + 2 * take_words d.geometry
    → get_or (told d e).seen (number d.geometry x) 0 ≡ seen d x
own_seen d e x oneth fits low high =
    get_or-map-range_with_len (told_word d e) 0 (word_count d.geometry) (number d.geometry x) (number d.geometry x) 0 (number_lt d.geometry x fits)
    (let z : 0 + number d.geometry x ≡ number d.geometry x = omega arith in z)
    ∙ own_word d e (number d.geometry x) oneth low high

told_same : (d e : View) → d.number ≡ 1 → (t : ℕ) → t < take_words d.geometry
    → (get_or (told d e).seen (number d.geometry (Take t)) 0 ≡ seen d (Take t)) × (get_or (told d e).seen (number d.geometry (Return t)) 0 ≡ seen d (Return t))
told_same d e oneth t there =
    (own_seen d e (Take t) oneth there (omega arith) (omega arith), own_seen d e (Return t) oneth there (omega arith) (omega arith))

told_size : (d e : View) (n : ℕ) (ls : List Lane) → AreLanes d n ls → length (told d e).seen ≡ length d.seen
told_size d e n ls lanes = length-map-range_with_len (told_word d e) 0 (word_count d.geometry) ∙ sym lanes.words

-- after it was told something
pub lanes_told : (d e : View) (n : ℕ) (ls : List Lane) → d.number ≡ 1 → AreLanes d n ls → AreLanes (told d e) n ls
lanes_told d e n ls oneth lanes = lanes_seeing d (told d e).seen d.looks d.made d.recv.watchers n ls (told_size d e n ls lanes) (told_same d e oneth) lanes

-- after a watcher was taken back
pub lanes_join : (d e : View) (n : ℕ) (ls : List Lane) → d.number ≡ 1 → AreLanes d n ls → AreLanes (with_watcher_back d e) n ls
lanes_join d e n ls oneth lanes = lanes_seeing d (told d e).seen d.looks d.made (d.recv.watchers - 1) n ls (told_size d e n ls lanes) (told_same d e oneth) lanes

-- where no lane is out none of their slots is
wide_none : (ls : List Lane) → ((q : ℕ) (l : Lane) → get_elem? ls q ≡ some l → l.out ≡ false) → wide ls ≡ 0
wide_none [] each = refl
wide_none (l ∷ ls) each =
    let here : width l ≡ 0 = ap (λ (b : Bool). let n : ℕ = if b then l.count else 0 in n) (each 0 l refl) in
    let rest = wide_none ls (λ q. each (suc q)) in omega (arith, here, rest)

-- an idle receive side has no slot out
pub none_out : {X : Type 0} (d : View) (xs : List X) (ls : List Lane) → AreLanes d (length xs) ls → IsRecvIdle d.recv → xs ≡ []
none_out d [] ls lanes idle = refl
none_out d (x ∷ xs) ls lanes idle =
    let total = lanes.total in
    let none = wide_none ls (λ q l at. (lanes.each q l at).home (λ active. let a = active.1 in absurd (omega (arith, idle)))) in
    absurd (omega (arith, none))
