-- The lists of slots that are kept, by key.
use Rattle.std.specs.Prelude.{◌≡◌, ℕ, ◌<◌, Option, Some, true, List, [], length, slice_index_or}
use Rattle.std.specs.Option.{option_map_or}
use Rattle.std.specs.Ordering.{nat_cmp, ordering_then}
use Rattle.std.specs.BTreeMap.{get}
use Rattle.std.specs.declared.cmp.Ordering.{Ordering}
use Rattle.part_geometry.specs.declared.answers.Side.{Side}
use Rattle.init_match.specs.declared.keys.Key.{Key}
use Rattle.init_match.specs.declared.keys.KeyLists.{KeyLists}
use Rattle.init_match.specs.Calls.{same_key}
use Rattle.init_match.specs.Slots.{Slots, no_slots, side_slots}

-- the order of keys
abbrev pub key_cmp : Key → Key → Ordering
key_cmp a b =
    ordering_then (nat_cmp a.comm b.comm) (
    ordering_then (nat_cmp a.from b.from) (
    ordering_then (nat_cmp a.to b.to) (nat_cmp a.tag b.tag)))

-- which list is that of a key
abbrev pub place_of : KeyLists → Key → Option ℕ
place_of m key = get key_cmp m.index key

-- the slots of a side in the i-th list
abbrev pub slots_at : Side → List Slots → ℕ → List ℕ
slots_at side lists i = side_slots side (slice_index_or lists i no_slots)

-- the slots of a side of a key
unfoldable pub lists_of : KeyLists → Side → Key → List ℕ
lists_of m side key = option_map_or (slots_at side m.lists.items) (place_of m key) []

-- each key that has a list has one of its own
pub record IsKeyLists (m : KeyLists) : Type 0 where
  pub inside : (q : Key) (i : ℕ) → place_of m q ≡ Some i → i < length m.lists.items
  pub apart : (p q : Key) (i : ℕ) → place_of m p ≡ Some i → place_of m q ≡ Some i → same_key p q ≡ true

-- the same slots for each side of each key
abbrev pub SameLists : KeyLists → KeyLists → Type 0
SameLists old new = (s : Side) (q : Key) → lists_of new s q ≡ lists_of old s q
