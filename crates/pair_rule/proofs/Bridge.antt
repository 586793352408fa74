-- From a step of the core to a step of the table: where the core steps to a sound state and the view of the seat that makes
-- the step follows it, the table has the rule again, and shows the core after the step.
use Rattle.std.proofs.Common.{◌≡◌, ◌≢◌, ◌⊎◌, inl, inr, ⊎_elim, ℕ, ◌+◌, ◌<◌, ◌≤◌, Bool, true, List, length, get_or, set, Contains, Option, Some, refl, sym, ap, ◌∙◌, subst, arith, length-set}
use mathlib.Core.Logic.{dite}
use mathlib.Core.Option.{some, some-injective}
use mathlib.Core.Option as maybe
use native.Mathlib.Decide.{ℕ_discrete}
use lib.ListN.{get_elem?}
use Rattle.gate_word.specs.Words.{round_in}
use Rattle.gate_word.specs.Order.{IsLater}
use Rattle.atomic_table.proofs.Lists.{at_set, set_here, set_else}
use Rattle.part_geometry.specs.Shape.{Shape}
use Rattle.part_geometry.specs.Cells.{cells}
use Rattle.part_tables.specs.Bytes.{cell_bytes, part_bytes}
use Rattle.pair_core.specs.Names.{Name, Fits, number, put_word, put}
use Rattle.pair_core.specs.Steps.{saw}
use Rattle.pair_core.specs.Moves.{Move, LayPiece, IsAllowed, after}
use Rattle.pair_core.specs.Sound.{Sound}
use Rattle.pair_core.specs.State.{word_count, ListsWords}
use Rattle.pair_core.specs.Facts.{piece_word, IsKept, BringsHome}
use Rattle.pair_core.specs.declared.view.Mark.{Mark}
use Rattle.pair_core.proofs.Facts.{put_here, put_else, lists_put, number_lt, later_trans}
use Rattle.slot_rows.proofs.Lists.{at_split}
use Rattle.pair_rule.specs.Addresses.{address, HasWords}
use Rattle.pair_rule.specs.Buf.{Buf}
use Rattle.pair_rule.specs.Views as view
use Rattle.pair_rule.specs.Rule.{At, Shown, slot_number, Stands, Given, Agrees, IsMarked, Rule}
use Rattle.pair_rule.specs.declared.view.View.{View}
use Rattle.pair_rule.specs.declared.view.Standing.TheVariants.{Seated, Told, Closed}
use Rattle.pair_rule.specs.declared.rule.Key.{Key}
use Rattle.pair_rule.proofs.Addresses.{address_lt, has_put}
use Rattle.pair_rule.proofs.Core.{CoreLaws}

-- a step of the seat n changed nothing of another seat, and no seat's life
pub record Others (c c' : Shown) (n : ℕ) : Type 0 where
  pub life : (m : ℕ) → c'.life m ≡ c.life m
  pub seen : (m : ℕ) → m ≢ n → (x : Name) → c.seen m x ≡ c'.seen m x
  pub looks : (m : ℕ) → m ≢ n → (x : Name) → c.looks m x ≡ c'.looks m x
  pub pending : (m : ℕ) → m ≢ n → c.pending m ≡ c'.pending m
  pub marks : (m : ℕ) → m ≢ n → c.marks m ≡ c'.marks m
  pub send : n ≢ 0 → c.send ≡ c'.send
  pub recv : n ≢ 1 → c.recv ≡ c'.recv
  pub takes : n ≢ 1 → c.takes ≡ c'.takes

others_agree : (g : Shape) (c c' : Shown) (alone : Bool) (markers watchers : ℕ) (seat : ℕ → ℕ) (i n : ℕ) (e : View)
    → Others c c' n → e.number ≢ n → Agrees g c alone markers watchers seat i e → Agrees g c' alone markers watchers seat i e
others_agree g c c' alone markers watchers seat i n e o other a = record {
  geometry = a.geometry;
  seat_is = a.seat_is;
  given = a.given;
  live = o.life e.number ∙ a.live;
  seen_size = a.seen_size;
  looks_size = a.looks_size;
  seen_is = λ x fits. a.seen_is x fits ∙ o.seen e.number other x;
  looks_is = λ x fits. a.looks_is x fits ∙ o.looks e.number other x;
  pending_is = a.pending_is ∙ o.pending e.number other;
  marks_is = a.marks_is ∙ o.marks e.number other;
  send_is = λ z. a.send_is z ∙ o.send (λ e0. other (z ∙ sym e0));
  markers_is = a.markers_is;
  recv_is = λ z. a.recv_is z ∙ o.recv (λ e1. other (z ∙ sym e1));
  takes_is = λ z. a.takes_is z ∙ o.takes (λ e1. other (z ∙ sym e1));
  watchers_is = a.watchers_is;
}

-- while the send side is alone the receive side's number isn't given
pub one_not_alone : (alone : Bool) (markers watchers n : ℕ) → alone ≡ true → n ≡ 1 → ¬ Given alone markers watchers n
one_not_alone alone markers watchers n is e (inl z) = absurd (omega arith)
one_not_alone alone markers watchers n is e (inr (inl z)) = let no = z.1 in absurd (cc)
one_not_alone alone markers watchers n is e (inr (inr (inl z))) = let low = z.0.0 in absurd (omega arith)
one_not_alone alone markers watchers n is e (inr (inr (inr z))) = let low = z.0.0 in absurd (omega arith)

module _ {T : Type 0} (may : T → ℕ → ℕ → ℕ → Type 0) (key : Key T) where
  abbrev pub Held : (s : At) → Shown → Type 0
  Held s c = (r : Rule may key s) × (r.core ≡ c)

  -- the table after a step of the seat id, whose view becomes d', on the word x, which becomes w; the bytes are then bytes'
  pub steps : (s : At) (r : Rule may key s) (id : ℕ) (d d' : View) (x : Name) (w : ℕ) (homes' : List (maybe.Option (Option Buf))) (c' : Shown) (bytes' : ℕ → ℕ → List ℕ)
      → get_elem? s.views id ≡ some d → d.standing ≡ Seated → d'.standing ≡ Seated → d'.number ≡ d.number → Fits key.geometry x
      → Sound key.geometry c' → ((y : Name) → Fits key.geometry y → put_word x w r.core.word y ≡ c'.word y)
      → ((y : Name) → Fits key.geometry y → IsLater (r.core.word y) (c'.word y)) → Others r.core c' d.number
      → Agrees key.geometry c' r.alone r.markers r.watchers r.seat id d'
      → length homes' ≡ length s.homes
      → ((e c : ℕ) → e < key.geometry.depth → c < cells key.geometry → Stands key.geometry c (get_elem? homes' (slot_number key.geometry e c)) (c'.slot e c))
      → ((e c : ℕ) (b : Buf) → e < key.geometry.depth → c < cells key.geometry → get_elem? homes' (slot_number key.geometry e c) ≡ some (some (Some b))
      → IsKept key.geometry c' e c → 1 ≤ round_in (piece_word key.geometry c' e c) → b.bytes ≡ cell_bytes key.geometry (bytes' (round_in (piece_word key.geometry c' e c))) c)
      → ((n : ℕ) (m : Mark (List ℕ)) → Contains (c'.marks n) m → IsMarked may key bytes' m)
      → ((m : Mark (List ℕ)) → Contains c'.takes m → m.with ≡ part_bytes key.geometry (bytes' m.round) m.partition)
      → Held record { words = set s.words (address key.geometry x) w; homes = homes'; views = set s.views id d' } c'
  steps s r id d d' x w homes' c' bytes' at live live' same fits sound words grows others mine long slots kept marked took =
      let g : Shape = key.geometry in
      let a = r.seats id d at live in
      let index : address g x < length s.words = subst (λ (z : ℕ). address g x < z) (sym r.size) (address_lt g x fits) in
      let set_words : HasWords g (set s.words (address g x) w) (put_word x w r.core.word) = has_put g s.words x w r.core.word r.words fits index in (
        record {
          core = c';
          seat = r.seat;
          alone = r.alone;
          markers = r.markers;
          watchers = r.watchers;
          bytes = bytes';
          shape = r.shape;
          sound = sound;
          size = length-set s.words (address g x) w ∙ r.size;
          room = long ∙ r.room;
          words = λ y f. set_words y f ∙ words y f;
          slots = slots;
          kept = kept;
          seats = λ i e is alive. ⊎_elim
              (λ (t : (i ≡ id) × (d' ≡ e)). subst (λ (z : ℕ × View). Agrees g c' r.alone r.markers r.watchers r.seat z.0 z.1) (λ j. (sym t.0 j, t.1 j)) mine)
              (λ (t : (i ≢ id) × (get_elem? s.views i ≡ some e)). let b = r.seats i e t.1 alive in
              others_agree g r.core c' r.alone r.markers r.watchers r.seat i d.number e others (λ z. t.0 (sym b.seat_is ∙ (ap r.seat z ∙ a.seat_is))) b)
              (at_set s.views id i d' e is);
          notes = λ i e is told. ⊎_elim
              (λ (t : (i ≡ id) × (d' ≡ e)). let no : d'.standing ≡ Told = ap (λ (z : View). z.standing) t.1 ∙ told in absurd (cc))
              (λ (t : (i ≢ id) × (get_elem? s.views i ≡ some e)). let b = r.notes i e t.1 told in record {
                geometry = b.geometry;
                seen_size = b.seen_size;
                seen_is = λ y f. later_than g r.core c' y (get_or e.seen (number g y) 0) (b.seen_is y f) (grows y f);
              })
              (at_set s.views id i d' e is);
          running = λ i e is. ⊎_elim (λ (t : (i ≡ id) × (d' ≡ e)). λ closed. let no : d'.standing ≡ Closed = ap (λ (z : View). z.standing) t.1 ∙ closed in absurd (cc))
              (λ (t : (i ≢ id) × (get_elem? s.views i ≡ some e)). r.running i e t.1) (at_set s.views id i d' e is);
          first = λ is. let b = r.first is in let other : d.number ≢ 1 = λ e. one_not_alone r.alone r.markers r.watchers d.number is e a.given in
              let other' : 1 ≢ d.number = λ e. other (sym e) in record {
                recv = sym (others.recv other) ∙ b.recv;
                seen = λ y f. sym (others.seen 1 other' y) ∙ b.seen y f;
                looks = λ y f. sym (others.looks 1 other' y) ∙ b.looks y f;
                pending = sym (others.pending 1 other') ∙ b.pending;
                marks = sym (others.marks 1 other') ∙ b.marks;
                takes = sym (others.takes other) ∙ b.takes;
              };
          unwatched = r.unwatched;
          new = λ n not one. others.life n ∙ r.new n not one;
          here = λ n alive born. let b = r.here n (sym (others.life n) ∙ alive) born in
              dite (ℕ_discrete (r.seat n) id)
              (λ e. let at' : get_elem? s.views id ≡ some b.0 = ap (get_elem? s.views) (sym e) ∙ b.1 in
              let eq : d ≡ b.0 = some-injective d b.0 (sym at ∙ at') in
              (d', ap (get_elem? (set s.views id d')) e ∙ set_here s.views id d' (there s.views id d at), live', same ∙ (ap (λ (z : View). z.number) eq ∙ b.3)))
              (λ other. (b.0, set_else s.views id (r.seat n) d' other ∙ b.1, b.2, b.3));
          marks = marked;
          takes = took;
        },
        refl,
      )
    where
      there : (l : List View) (i : ℕ) (v : View) → get_elem? l i ≡ some v → i < length l
      there l i v e = (at_split l i v e).0

      later_than : (g : Shape) (c e : Shown) (y : Name) (v : ℕ) → IsLater v (c.word y) → IsLater (c.word y) (e.word y) → IsLater v (e.word y)
      later_than g c e y v p q = later_trans v (c.word y) (e.word y) p q

-- the seat n saw, and nothing else of another seat changed
pub saw_others : (c : Shown) (n : ℕ) (x : Name) (w : ℕ) → Others c (saw n x w c) n
saw_others c n x w = record {
  life = λ m. refl;
  seen = λ m o y. ap (λ (f : Name → ℕ). f y) (sym (put_else c.seen n (put_word x w (c.seen n)) m o));
  looks = λ m o y. ap (λ (f : Name → ℕ). f y) (sym (put_else c.looks n (put_word x (c.looks n x + 1) (c.looks n)) m o));
  pending = λ m o. refl;
  marks = λ m o. refl;
  send = λ o. refl;
  recv = λ o. refl;
  takes = λ o. refl;
}

-- a list of what a seat saw follows what the core's view saw
pub list_saw : (g : Shape) (list : List ℕ) (f : ℕ → Name → ℕ) (n : ℕ) (x : Name) (w : ℕ) → length list ≡ word_count g → Fits g x → ListsWords g list (f n)
    → ListsWords g (set list (number g x) w) (put f n (put_word x w (f n)) n)
list_saw g list f n x w size fits same y there =
    lists_put g list x (number g x) w (f n) w (λ z. z) same fits refl (subst (λ (z : ℕ). number g x < z) (sym size) (number_lt g x fits)) refl y there
    ∙ ap (λ (h : Name → ℕ). h y) (sym (put_here f n (put_word x w (f n))))

-- the view of the seat after it saw w at the word x
pub saw_agrees : (g : Shape) (c : Shown) (alone : Bool) (markers watchers : ℕ) (seat : ℕ → ℕ) (id : ℕ) (d : View) (x : Name) (w : ℕ) → Fits g x
    → Agrees g c alone markers watchers seat id d → Agrees g (saw d.number x w c) alone markers watchers seat id (view.saw x w d)
saw_agrees g c alone markers watchers seat id d x w fits a =
    let n : ℕ = d.number in
    let at : number d.geometry x ≡ number g x = ap (λ (z : Shape). number z x) a.geometry in
    let count : get_or d.looks (number d.geometry x) 0 + 1 ≡ c.looks n x + 1 = ap (λ (z : ℕ). z + 1) (ap (λ (z : ℕ). get_or d.looks z 0) at ∙ a.looks_is x fits) in
    record {
      geometry = a.geometry;
      seat_is = a.seat_is;
      given = a.given;
      live = a.live;
      seen_size = length-set d.seen (number d.geometry x) w ∙ a.seen_size;
      looks_size = length-set d.looks (number d.geometry x) (get_or d.looks (number d.geometry x) 0 + 1) ∙ a.looks_size;
      seen_is = subst (λ (z : ℕ). ListsWords g (set d.seen z w) (put c.seen n (put_word x w (c.seen n)) n)) (sym at) (list_saw g d.seen c.seen n x w a.seen_size fits a.seen_is);
      looks_is = subst (λ (z : ℕ × ℕ). ListsWords g (set d.looks z.0 z.1) (put c.looks n (put_word x (c.looks n x + 1) (c.looks n)) n)) (λ i. (sym at i, sym count i))
          (list_saw g d.looks c.looks n x (c.looks n x + 1) a.looks_size fits a.looks_is);
      pending_is = a.pending_is;
      marks_is = a.marks_is;
      send_is = a.send_is;
      markers_is = a.markers_is;
      recv_is = a.recv_is;
      takes_is = a.takes_is;
      watchers_is = a.watchers_is;
    }

module _ {T : Type 0} (may : T → ℕ → ℕ → ℕ → Type 0) (key : Key T) (L : CoreLaws key.geometry) where
  -- a move that moves no slot, makes no mark and takes nothing
  pub quiet : (s : At) (r : Rule may key s) (id : ℕ) (d d' : View) (m : Move (List ℕ)) (c' : Shown) (x : Name) (w : ℕ)
      → get_elem? s.views id ≡ some d → d.standing ≡ Seated → d'.standing ≡ Seated → d'.number ≡ d.number → Fits key.geometry x
      → IsAllowed key.geometry r.core m → after key.geometry r.core m ≡ c' → ((n p i : ℕ) → m ≢ LayPiece n p i)
      → ((y : Name) → Fits key.geometry y → put_word x w r.core.word y ≡ c'.word y)
      → Others r.core c' d.number
      → Agrees key.geometry c' r.alone r.markers r.watchers r.seat id d'
      → ((e c : ℕ) → r.core.slot e c ≡ c'.slot e c) → ((n : ℕ) → c'.marks n ≡ r.core.marks n) → c'.takes ≡ r.core.takes
      → Held may key record { words = set s.words (address key.geometry x) w; homes = s.homes; views = set s.views id d' } c'
  quiet s r id d d' m c' x w at live live' same fits allowed is other words others mine slots marks takes =
      let g : Shape = key.geometry in
      let before : (e c : ℕ) → e < g.depth → c < cells g → IsKept g c' e c → BringsHome g r.core m e c ⊎ (IsKept g r.core e c × (round_in (piece_word g c' e c) ≡ round_in (piece_word g r.core e c))) =
      λ e c low inside. subst (λ (z : Shown). IsKept g z e c → BringsHome g r.core m e c ⊎ (IsKept g r.core e c × (round_in (piece_word g z e c) ≡ round_in (piece_word g r.core e c)))) is
      (L.facts.kept_before r.core m e c r.sound allowed low inside) in
      steps may key s r id d d' x w s.homes c' r.bytes at live live' same fits
      (subst (Sound g) is (L.kept r.core m r.sound allowed)) words
      (λ y f. subst (λ (z : Shown). IsLater (r.core.word y) (z.word y)) is (L.grows r.core m y r.sound allowed f))
      others mine refl
      (λ e c low inside. subst (Stands g c (get_elem? s.homes (slot_number g e c))) (slots e c) (r.slots e c low inside))
      (λ e c b low inside home kept some. ⊎_elim
      (λ (lay : BringsHome g r.core m e c). absurd (other lay.0 _ _ lay.1))
      (λ (t : IsKept g r.core e c × (round_in (piece_word g c' e c) ≡ round_in (piece_word g r.core e c))).
      r.kept e c b low inside home t.0 (subst (λ (z : ℕ). 1 ≤ z) t.1 some) ∙ ap (λ (k : ℕ). cell_bytes g (r.bytes k) c) (sym t.1))
      (before e c low inside kept))
      (λ n k l. r.marks n k (subst (λ (z : List (Mark (List ℕ))). Contains z k) (marks n) l))
      (λ k l. r.takes k (subst (λ (z : List (Mark (List ℕ))). Contains z k) takes l))
