-- What a view has seen, and how often it has looked, after a look; and that a look changes nothing else.
use Rattle.std.proofs.Common.{◌≡◌, ◌≢◌, ℕ, ◌+◌, ◌<◌, ◌≤◌, length, get_or, refl, sym, ap, ◌∙◌, subst, arith, length-set, inl, inr}
use Rattle.std.proofs.lemmas.Bool.{cases_eq}
use Rattle.std.proofs.lemmas.List.{get_or-set_same, get_or-set_other}
use Rattle.std.proofs.lemmas.Grind.{get_or-set_at}
use Rattle.gate_word.specs.Order.{IsLater}
use Rattle.pair_core.specs.Names.{Name, Fits, number}
use Rattle.pair_core.proofs.Facts.{later_refl, later_trans, number_lt, number_one}
use Rattle.pair_rule.specs.Views.{seen, looks, saw}
use Rattle.pair_rule.specs.declared.view.View.{View}
use Rattle.part_send.specs.Ends.{IsWide}
use Rattle.part_send.specs.Looking.{HasSeen, OnlyLooked}

-- another word is as it was
module _ (d : View) (x y : Name) (w : ℕ) (fits : Fits d.geometry x) (there : Fits d.geometry y) (other : y ≢ x) where
  apart : number d.geometry y ≢ number d.geometry x
  apart e = other (number_one d.geometry y x there fits e)

  -- the word seen of it is the one before
  pub seen_else : seen (saw x w d) y ≡ seen d y
  seen_else = get_or-set_other d.seen (number d.geometry x) (number d.geometry y) w 0 apart

  -- and so is the count of its looks
  pub looks_else : looks (saw x w d) y ≡ looks d y
  looks_else = get_or-set_other d.looks (number d.geometry x) (number d.geometry y) (looks d x + 1) 0 apart

module _ (d : View) (wide : IsWide d) (x : Name) (fits : Fits d.geometry x) (w : ℕ) where
  seen_room : number d.geometry x < length d.seen
  seen_room = subst (λ (z : ℕ). number d.geometry x < z) (sym wide.words) (number_lt d.geometry x fits)

  looks_room : number d.geometry x < length d.looks
  looks_room = subst (λ (z : ℕ). number d.geometry x < z) (sym wide.counts) (number_lt d.geometry x fits)

  -- the word that was looked at is seen as it was found
  pub seen_here : seen (saw x w d) x ≡ w
  seen_here = get_or-set_same d.seen (number d.geometry x) w 0 seen_room

  -- and has one look more
  pub looks_here : looks (saw x w d) x ≡ looks d x + 1
  looks_here = get_or-set_same d.looks (number d.geometry x) (looks d x + 1) 0 looks_room

  -- no word goes back, where the one found is no earlier
  pub seen_rises : IsLater (seen d x) w → (y : Name) → IsLater (seen d y) (seen (saw x w d) y)
  seen_rises later y = elim (cases_eq (number d.geometry y) (number d.geometry x)) [
    | inl e ↦
        subst (IsLater (seen d y)) (sym (get_or-set_at d.seen (number d.geometry x) (number d.geometry y) w 0 e seen_room))
        (subst (λ (z : ℕ). IsLater (get_or d.seen z 0) w) (sym e) later)
    | inr other ↦ subst (IsLater (seen d y)) (sym (get_or-set_other d.seen (number d.geometry x) (number d.geometry y) w 0 other)) (later_refl (seen d y))
  ]

  -- and no count of looks
  pub looks_rise : (y : Name) → looks d y ≤ looks (saw x w d) y
  looks_rise y = elim (cases_eq (number d.geometry y) (number d.geometry x)) [
    | inl e ↦
        let at = get_or-set_at d.looks (number d.geometry x) (number d.geometry y) (looks d x + 1) 0 e looks_room in
        let same = ap (λ (z : ℕ). get_or d.looks z 0) e in omega arith
    | inr other ↦ let at = get_or-set_other d.looks (number d.geometry x) (number d.geometry y) (looks d x + 1) 0 other in omega arith
  ]

-- a look leaves a word and a count for each word of the pair
pub wide_saw : (d : View) (x : Name) (w : ℕ) → IsWide d → IsWide (saw x w d)
wide_saw d x w wide = record {
  words = length-set d.seen (number d.geometry x) w ∙ wide.words;
  counts = length-set d.looks (number d.geometry x) (looks d x + 1) ∙ wide.counts;
}

-- looks one after another
pub none_looked : (d : View) → OnlyLooked d d
none_looked d = record { same = refl; rises = λ x. later_refl (seen d x); counts = λ x. omega arith }

-- looks after looks are looks
pub then_looked : (a b c : View) → OnlyLooked a b → OnlyLooked b c → OnlyLooked a c
then_looked a b c first second = record {
  same = second.same ∙ ap (λ (z : View). record z { seen = c.seen; looks = c.looks }) first.same;
  rises = λ x. later_trans (seen a x) (seen b x) (seen c x) (first.rises x) (second.rises x);
  counts = λ x. let low = first.counts x in let high = second.counts x in omega arith;
}

-- what was found by a look after looks was found by all of them
pub then_found : (a b c : View) (x : Name) (w : ℕ) → OnlyLooked a b → HasSeen b c x w → HasSeen a c x w
then_found a b c x w first found = record {
  looked = (let low = first.counts x in let high = found.looked in omega arith);
  shown = found.shown;
  later = later_trans (seen a x) (seen b x) w (first.rises x) found.later;
}

-- one look is so, where the word found is no earlier
pub saw_looked : (d : View) → IsWide d → (x : Name) → Fits d.geometry x → (w : ℕ) → IsLater (seen d x) w → OnlyLooked d (saw x w d)
saw_looked d wide x fits w later = record { same = refl; rises = seen_rises d wide x fits w later; counts = looks_rise d wide x fits w }

-- and it found that word
pub saw_found : (d : View) → IsWide d → (x : Name) → Fits d.geometry x → (w : ℕ) → IsLater (seen d x) w → HasSeen d (saw x w d) x w
saw_found d wide x fits w later = record {
  looked = (let h = looks_here d wide x fits w in omega arith);
  shown = seen_here d wide x fits w;
  later = later;
}
