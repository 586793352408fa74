-- What a look by the receive end's seat says of the end: it changes the seat's view alone, and of that only what was
-- seen.
use Rattle.std.proofs.Common.{◌≡◌, ℕ, Bool, List, Option, Some, None, sym, ap, ◌∙◌, subst}
use Rattle.std.specs.Option.{MatchOption}
use Rattle.pair_core.specs.declared.view.RecvSide.{RecvSide}
use Rattle.pair_rule.specs.Seats.{RecvHeld}
use Rattle.pair_rule.specs.declared.view.View.{View}
use Rattle.part_recv.specs.Seeing.{Looks, SeesAll, Misses}
use Rattle.part_recv.specs.Watching.{IsNew}
use Rattle.part_recv.specs.Found.{Found, StaysFull}
use Rattle.part_recv.specs.Receiving.{End, IsEnd, end_of}
use Rattle.part_recv.specs.Taking.{Looked, LookedAll}
use Rattle.part_recv.specs.declared.looking.Missed.{Missed}
use Rattle.part_recv.proofs.Walking.{looked_is, looked_geometry}
use Rattle.part_recv.proofs.Ending.{side_same, end_view}

looks_keep : (k q : ℕ) (ws : List ℕ) (s : RecvHeld) (d : View) (a : Bool) (w : ℕ) → Looks k q ws s.view d → IsEnd a w s → IsEnd a w (record s { view = d })
looks_keep k q ws s d a w looks h =
    let g = ap (λ (z : View). z.geometry) looks.view ∙ looked_geometry _ _ ws s.view in
    let r : d.recv ≡ s.view.recv = ap (λ (z : View). z.recv) looks.view ∙ ap (λ (z : View). z.recv) (looked_is _ _ ws s.view) in
    end_view a a w w s d g (ap (λ (z : RecvSide). z.round) r) (side_same a s.view d (sym g) (sym r) h.side) (h.out ∙ sym (ap (λ (z : RecvSide). z.watchers) r)) h

-- whatever a look found, what the end keeps holds after it
pub found_keeps : (k q : ℕ) (o : Option Missed) (s : RecvHeld) (d : View) (a : Bool) (w : ℕ) → Found k q o s.view d → IsEnd a w s → IsEnd a w (record s { view = d })
found_keeps k q None s d a w f h = looks_keep k q f.words s d a w f.looks h
found_keeps k q (Some m) s d a w f h = looks_keep k q _ s d a w f.0.looks h

-- a look that found all pieces full did so for the end
pub found_all : (k q : ℕ) (s t : RecvHeld) (o : End) → end_of s ≡ o → k ≡ s.view.recv.round → (f : (d : View) × (t ≡ record s { view = d }) × SeesAll k q s.view d) → LookedAll q o (end_of t)
found_all k q s t o is same f =
    subst (λ (z : End). LookedAll q z (end_of t)) is record { view = f.0; sees = subst (λ (z : ℕ). SeesAll z q s.view f.0) same f.2; end = ap end_of f.1 }

-- one that found a piece that isn't full did so, and that was new to the end
pub found_missed : (k q i w : ℕ) (s t : RecvHeld) (o : End) → end_of s ≡ o → k ≡ s.view.recv.round → s.view.number ≡ 1 → s.view.recv.released ≡ 0
    → (f : (d : View) × (t ≡ record s { view = d }) × (Misses k q i w s.view d × StaysFull k i w s.view)) → Looked q i w o (end_of t)
found_missed k q i w s t o is same one active f =
    let new : IsNew k i s.view = λ full. f.2.0.missing (f.2.1 one active same full) in
    subst (λ (z : End). Looked q i w z (end_of t)) is record {
      view = f.0;
      misses = subst (λ (z : ℕ). Misses z q i w s.view f.0) same f.2.0;
      new_to = subst (λ (z : ℕ). IsNew z i s.view) same new;
      end = ap end_of f.1;
    }

-- whichever of the two it was, the end says it
pub found_says : (k q : ℕ) (r : Option Missed) (s t : RecvHeld) (o : End) → end_of s ≡ o → k ≡ s.view.recv.round → s.view.number ≡ 1 → s.view.recv.released ≡ 0
    → (d : View) × (t ≡ record s { view = d }) × Found k q r s.view d → MatchOption r (LookedAll q o (end_of t)) (λ (m : Missed). Looked q m.piece m.shown o (end_of t))
found_says k q None s t o is same one active f = found_all k q s t o is same f
found_says k q (Some m) s t o is same one active f = found_missed k q m.piece m.shown s t o is same one active f
