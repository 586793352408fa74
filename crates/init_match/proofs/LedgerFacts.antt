-- What the list of accepted calls keeps besides: each call's turn, and each key's slots. So the partner of a call is
-- looked up in the other side's slots of its key, at the call's turn.
use Rattle.std.proofs.Common.{◌≡◌, ℕ, ◌<◌, ◌≤◌, ◌&&◌, Some, None, List, [], ◌∷◌, ◌++◌, length, get_or, ap, sym, ◌∙◌, refl, arith}
use Rattle.std.specs.List.{slice_get}
use Rattle.std.proofs.lemmas.List.{length-map}
use Rattle.std.proofs.lemmas.Option.{slice_get_past, slice_get_read}
use Rattle.part_geometry.specs.declared.answers.Side.{Side}
use Rattle.init_match.specs.declared.keys.Key.{Key}
use Rattle.init_match.specs.declared.keys.Call.{Call}
use Rattle.init_match.specs.declared.keys.KeyLists.{KeyLists}
use Rattle.init_match.specs.declared.ledger.Ledger.TheInside.{Inside}
use Rattle.init_match.specs.Calls.{is_of, of_key, slots_of, facing, same_side, same_key}
use Rattle.init_match.specs.KeyLists.{IsKeyLists, lists_of}
use Rattle.init_match.specs.Slots.{appended}
use Rattle.init_match.specs.Matching.{turn_of, partner_before}
use Rattle.init_match.specs.Ledger.{IsLedger, turns_after}
use Rattle.init_match.proofs.Placing.{partner_there, partner_none, slots_of-more, turns_more, few_turns}

-- the lists that are kept are the slots of the calls
abbrev pub AreSlots : KeyLists → List Call → Type 0
AreSlots keys calls = (s : Side) (q : Key) → lists_of keys s q ≡ slots_of s q calls

-- as many slots as a call finds of its own side and key is its turn
turn_is : (keys : KeyLists) (calls : List Call) (c : Call) (own : List ℕ) → AreSlots keys calls → own ≡ lists_of keys c.side c.key → length own ≡ turn_of calls c
turn_is keys calls c own are is = ap length (is ∙ are c.side c.key) ∙ length-map (of_key c.side c.key calls) (λ e. e.0)

-- and there are no more of them than calls
pub few_own : (keys : KeyLists) (calls : List Call) (c : Call) (own : List ℕ) → AreSlots keys calls → own ≡ lists_of keys c.side c.key → length own ≤ length calls
few_own keys calls c own are is = let a = turn_is keys calls c own are is in let b = few_turns c.side c.key calls in omega arith

-- where the other side has more slots of the key, the one at the call's turn is that of its partner
pub found : (keys : KeyLists) (calls : List Call) (c : Call) (side : Side) (own others : List ℕ) (slot : ℕ) → AreSlots keys calls → side ≡ facing c.side → own ≡ lists_of keys c.side c.key
    → others ≡ lists_of keys side c.key → length own < length others → slot ≡ get_or others (length own) slot
    → (x : Call) × (slice_get calls slot ≡ Some x) × (partner_before calls c ≡ Some (slot, x))
found keys calls c side own others slot are is own_is others_is inside read =
    let t = turn_is keys calls c own are own_is in
    let o : others ≡ slots_of (facing c.side) c.key calls = others_is ∙ ap (λ s. lists_of keys s c.key) is ∙ are (facing c.side) c.key in
    partner_there calls c slot (ap (slice_get (slots_of (facing c.side) c.key calls)) (sym t) ∙ ap (λ xs. slice_get xs (length own)) (sym o) ∙ slice_get_read others (length others) (length own) slot refl inside read)

-- where it hasn't, no partner is there yet
pub not_found : (keys : KeyLists) (calls : List Call) (c : Call) (side : Side) (own others : List ℕ) → AreSlots keys calls → side ≡ facing c.side → own ≡ lists_of keys c.side c.key
    → others ≡ lists_of keys side c.key → length others ≤ length own → partner_before calls c ≡ None
not_found keys calls c side own others are is own_is others_is past =
    let t = turn_is keys calls c own are own_is in
    let o : others ≡ slots_of (facing c.side) c.key calls = others_is ∙ ap (λ s. lists_of keys s c.key) is ∙ are (facing c.side) c.key in
    partner_none calls c (ap (slice_get (slots_of (facing c.side) c.key calls)) (sym t) ∙ ap (λ xs. slice_get xs (length own)) (sym o) ∙ slice_get_past others (length own) past)

-- a call more
pub record IsGrown (l new : Inside) (c : Call) : Type 0 where
  pub calls : new.calls.items ≡ l.calls.items ++ c ∷ []
  pub turns : new.turns.items ≡ l.turns.items ++ length (lists_of l.keys c.side c.key) ∷ []
  pub keys : IsKeyLists new.keys
  pub slots : (s : Side) (q : Key) → lists_of new.keys s q ≡ appended (same_side s c.side && same_key q c.key) (length l.calls.items) (lists_of l.keys s q)

-- a list of calls that has grown by a call keeps what it ought to keep
pub grown : (l new : Inside) (c : Call) → IsLedger l → IsGrown l new c → IsLedger new
grown l new c s g = record {
  turns = g.turns ∙ ap (λ ts. ts ++ length (lists_of l.keys c.side c.key) ∷ []) s.turns
      ∙ ap (λ n. turns_after [] l.calls.items ++ n ∷ []) (turn_is l.keys l.calls.items c _ s.slots refl)
      ∙ sym (turns_more [] l.calls.items c) ∙ ap (turns_after []) (sym g.calls);
  keys = g.keys;
  slots = λ side key. g.slots side key ∙ ap (appended (is_of side key c) (length l.calls.items)) (s.slots side key) ∙ sym (slots_of-more side key l.calls.items c) ∙ ap (slots_of side key) (sym g.calls);
}
