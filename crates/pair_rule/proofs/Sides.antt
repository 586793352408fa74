-- The steps of the two sides that move no slot: each is a step of the core, and the view follows it.
use Rattle.std.proofs.Common.{◌≡◌, ◌≢◌, ℕ, Bool, List, get_or, set, refl, sym, ap, ◌∙◌, subst}
use mathlib.Core.Option.{some}
use lib.ListN.{get_elem?}
use Rattle.part_geometry.specs.Shape.{Shape}
use Rattle.pair_core.specs.Names.{Name, Fits, put_word}
use Rattle.pair_core.specs.Steps.{saw, wrote, loads}
use Rattle.pair_core.specs.Moves.{Move, LayPiece, after}
use Rattle.pair_core.specs.declared.view.SendSide.{SendSide}
use Rattle.pair_core.specs.declared.view.RecvSide.{RecvSide}
use Rattle.pair_core.proofs.Facts.{any_word}
use Rattle.pair_rule.specs.Addresses.{address}
use Rattle.pair_rule.specs.Steps.{MayMake}
use Rattle.pair_rule.proofs.Allowed.{may_make}
use Rattle.pair_rule.specs.Rule.{At, Shown, Agrees, Rule}
use Rattle.pair_rule.specs.Views as view
use Rattle.pair_rule.specs.declared.view.View.{View}
use Rattle.pair_rule.specs.declared.view.Standing.TheVariants.{Seated}
use Rattle.pair_rule.specs.declared.rule.Key.{Key}
use Rattle.pair_rule.proofs.Core.{CoreLaws}
use Rattle.pair_rule.proofs.Bridge.{Held, Others, saw_others, saw_agrees, quiet}

-- what both words are where one is added to: the list's and the core's
same_words : (x : Name) (v w : ℕ) (f : Name → ℕ) (y : Name) → v ≡ w → put_word x v f y ≡ put_word x w f y
same_words x v w f y e = ap (λ (z : ℕ). put_word x z f y) e

-- a step on the word x that the core says too changes nothing else of others
pub wrote_others : (c : Shown) (n : ℕ) (x : Name) (w : ℕ) → Others c (wrote n x w c) n
wrote_others c n x w = let o = saw_others c n x w in record {
  life = o.life;
  seen = o.seen;
  looks = o.looks;
  pending = o.pending;
  marks = o.marks;
  send = o.send;
  recv = o.recv;
  takes = o.takes;
}

-- where the send side steps, its own side is what changes besides
pub send_others : (c : Shown) (side : SendSide) (x : Name) (w : ℕ) → Others c (record (wrote 0 x w c) { send = side }) 0
send_others c side x w = let o = saw_others c 0 x w in record {
  life = o.life;
  seen = o.seen;
  looks = o.looks;
  pending = o.pending;
  marks = o.marks;
  send = λ no. absurd (no refl);
  recv = o.recv;
  takes = o.takes;
}

pub recv_others : (c : Shown) (side : RecvSide) (x : Name) (w : ℕ) → Others c (record (wrote 1 x w c) { recv = side }) 1
recv_others c side x w = let o = saw_others c 1 x w in record {
  life = o.life;
  seen = o.seen;
  looks = o.looks;
  pending = o.pending;
  marks = o.marks;
  send = o.send;
  recv = λ no. absurd (no refl);
  takes = o.takes;
}

module _ (g : Shape) (c : Shown) (alone : Bool) (markers watchers : ℕ) (seat : ℕ → ℕ) (id : ℕ) (d : View) where
  send_agrees : (side : SendSide) (x : Name) (w : ℕ) → d.number ≡ 0 → Fits g x → Agrees g c alone markers watchers seat id d
      → Agrees g (record (wrote 0 x w c) { send = side }) alone markers watchers seat id (record (view.saw x w d) { send = side })
  send_agrees side x w zeroth fits a =
      let b = subst (λ (z : ℕ). Agrees g (saw z x w c) alone markers watchers seat id (view.saw x w d)) zeroth (saw_agrees g c alone markers watchers seat id d x w fits a) in record {
        geometry = b.geometry;
        seat_is = b.seat_is;
        given = b.given;
        live = b.live;
        seen_size = b.seen_size;
        looks_size = b.looks_size;
        seen_is = b.seen_is;
        looks_is = b.looks_is;
        pending_is = b.pending_is;
        marks_is = b.marks_is;
        send_is = λ _. refl;
        markers_is = b.markers_is;
        recv_is = b.recv_is;
        takes_is = b.takes_is;
        watchers_is = b.watchers_is;
      }

  recv_agrees : (side : RecvSide) (x : Name) (w : ℕ) → d.number ≡ 1 → Fits g x → Agrees g c alone markers watchers seat id d
      → Agrees g (record (wrote 1 x w c) { recv = side }) alone markers watchers seat id (record (view.saw x w d) { recv = side })
  recv_agrees side x w first fits a =
      let b = subst (λ (z : ℕ). Agrees g (saw z x w c) alone markers watchers seat id (view.saw x w d)) first (saw_agrees g c alone markers watchers seat id d x w fits a) in record {
        geometry = b.geometry;
        seat_is = b.seat_is;
        given = b.given;
        live = b.live;
        seen_size = b.seen_size;
        looks_size = b.looks_size;
        seen_is = b.seen_is;
        looks_is = b.looks_is;
        pending_is = b.pending_is;
        marks_is = b.marks_is;
        send_is = b.send_is;
        markers_is = b.markers_is;
        recv_is = λ _. refl;
        takes_is = b.takes_is;
        watchers_is = b.watchers_is;
      }

module _ {T : Type 0} (may : T → ℕ → ℕ → ℕ → Type 0) (key : Key T) (L : CoreLaws key.geometry) where
  -- the table after a step that takes or gives no slot
  abbrev pub stepped_to : At → Name → ℕ → ℕ → View → At
  stepped_to s x w id d' = record { words = set s.words (address key.geometry x) w; homes = s.homes; views = set s.views id d' }

  -- the send side steps: its side becomes as `side` says
  pub sends : (s : At) (r : Rule may key s) (id : ℕ) (d : View) (m : Move (List ℕ)) (name : Shape → Name) (w : ℕ) (side : SendSide → SendSide)
      → get_elem? s.views id ≡ some d → d.standing ≡ Seated → d.number ≡ 0 → Fits key.geometry (name key.geometry) → MayMake d m
      → after key.geometry r.core m ≡ record (wrote 0 (name key.geometry) w r.core) { send = side r.core.send } → ((n p i : ℕ) → m ≢ LayPiece n p i)
      → Held may key (stepped_to s (name key.geometry) w id (record (view.saw (name d.geometry) w d) { send = side d.send })) (after key.geometry r.core m)
  sends s r id d m name w side at live zeroth fits may_make_it is other =
      let g : Shape = key.geometry in let x : Name = name g in let a = r.seats id d at live in
      let allowed = may_make g r.shape r.core r.alone r.markers r.watchers r.seat id d r.sound a m may_make_it in
      let c' : Shown = record (wrote 0 x w r.core) { send = side r.core.send } in
      let view_as : Shape × SendSide → View = λ z. record (view.saw (name z.0) w d) { send = side z.1 } in
      let led = quiet may key L s r id d (view_as (g, r.core.send)) m c' x w at live live refl fits allowed is other (λ y f. refl)
      (subst (Others r.core c') (sym zeroth) (send_others r.core (side r.core.send) x w))
      (send_agrees g r.core r.alone r.markers r.watchers r.seat id d (side r.core.send) x w zeroth fits a)
      (λ e c. refl) (λ n. refl) refl in
      let same : ◌≡◌ {A = Shape × SendSide} (g, r.core.send) (d.geometry, d.send) = λ i. (sym a.geometry i, sym (a.send_is zeroth) i) in
      subst (λ (z : Shown). Held may key (stepped_to s x w id (view_as (d.geometry, d.send))) z) (sym is)
      (subst (λ (z : Shape × SendSide). Held may key (stepped_to s x w id (view_as z)) c') same led)

  pub receives : (s : At) (r : Rule may key s) (id : ℕ) (d : View) (m : Move (List ℕ)) (x : Name) (w : ℕ) (side : RecvSide → RecvSide)
      → get_elem? s.views id ≡ some d → d.standing ≡ Seated → d.number ≡ 1 → Fits key.geometry x → MayMake d m
      → after key.geometry r.core m ≡ record (wrote 1 x w r.core) { recv = side r.core.recv } → ((n p i : ℕ) → m ≢ LayPiece n p i)
      → Held may key (stepped_to s x w id (record (view.saw x w d) { recv = side d.recv })) (after key.geometry r.core m)
  receives s r id d m x w side at live first fits may_make_it is other =
      let g : Shape = key.geometry in let a = r.seats id d at live in
      let allowed = may_make g r.shape r.core r.alone r.markers r.watchers r.seat id d r.sound a m may_make_it in
      let c' : Shown = record (wrote 1 x w r.core) { recv = side r.core.recv } in
      let view_as : RecvSide → View = λ z. record (view.saw x w d) { recv = side z } in
      let led = quiet may key L s r id d (view_as r.core.recv) m c' x w at live live refl fits allowed is other (λ y f. refl)
      (subst (Others r.core c') (sym first) (recv_others r.core (side r.core.recv) x w))
      (recv_agrees g r.core r.alone r.markers r.watchers r.seat id d (side r.core.recv) x w first fits a)
      (λ e c. refl) (λ n. refl) refl in
      subst (λ (z : Shown). Held may key (stepped_to s x w id (view_as d.recv)) z) (sym is)
      (subst (λ (z : RecvSide). Held may key (stepped_to s x w id (view_as z)) c') (sym (a.recv_is first)) led)

  -- a seat looks at the word x, and finds it as it is
  pub looks : (s : At) (r : Rule may key s) (id : ℕ) (d : View) (m : Move (List ℕ)) (x : Name) (w : ℕ)
      → get_elem? s.views id ≡ some d → d.standing ≡ Seated → Fits key.geometry x → MayMake d m → w ≡ get_or s.words (address key.geometry x) 0
      → after key.geometry r.core m ≡ loads d.number x r.core → ((n p i : ℕ) → m ≢ LayPiece n p i)
      → Held may key (stepped_to s x w id (view.saw x w d)) (after key.geometry r.core m)
  looks s r id d m x w at live fits may_make_it found is other =
      let g : Shape = key.geometry in let a = r.seats id d at live in let n : ℕ = d.number in
      let allowed = may_make g r.shape r.core r.alone r.markers r.watchers r.seat id d r.sound a m may_make_it in
      let e : w ≡ r.core.word x = found ∙ r.words x fits in
      let c' : Shown = saw n x w r.core in
      let is' : after g r.core m ≡ c' = is ∙ ap (λ (z : ℕ). saw n x z r.core) (sym e) in
      let led = quiet may key L s r id d (view.saw x w d) m c' x w at live live refl fits allowed is' other
      (λ y f. any_word x y w r.core.word (λ z v. v ≡ r.core.word z) e (λ z. refl))
      (saw_others r.core n x w)
      (saw_agrees g r.core r.alone r.markers r.watchers r.seat id d x w fits a)
      (λ e c. refl) (λ n. refl) refl in
      subst (λ (z : Shown). Held may key (stepped_to s x w id (view.saw x w d)) z) (sym is') led
