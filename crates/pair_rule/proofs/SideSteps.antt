-- The steps of the sides that move no slot, and the looks, as the table asks for them.
use Rattle.std.proofs.Common.{◌≡◌, ◌≢◌, inl, inr, ℕ, ◌+◌, ◌%◌, ◌^◌, ◌<◌, List, get_or, Option, refl, sym, ap, ◌∙◌, subst, bit_or}
use mathlib.Core.Option.{some}
use lib.ListN.{get_elem?}
use Rattle.atomic_table.proofs.Lists.{set_here}
use Rattle.slot_rows.proofs.Lists.{at_split}
use Rattle.atomic_table.specs.Table.{Step, keeps, Allows}
use Rattle.part_geometry.specs.Shape.{Shape}
use Rattle.part_geometry.specs.Pieces.{pieces}
use Rattle.pair_core.specs.Words.{empty}
use Rattle.pair_core.specs.Names.{Name, Claim, Release, Take, Return, Piece, Fits, claim_words, take_words}
use Rattle.pair_core.specs.Steps.{wrote, loads, enters}
use Rattle.pair_core.specs.Moves.{Move, StorePiece, StoreClaim, LoadClaim, LoadPiece, LoadRelease, ShutClaim, LayPiece, StoreReturn, StoreTake, StoreRelease, after}
use Rattle.pair_core.specs.declared.view.SendSide.{SendSide}
use Rattle.pair_core.specs.declared.view.RecvSide.{RecvSide}
use Rattle.pair_rule.specs.Addresses.{address}
use Rattle.pair_rule.specs.Buf.{Buf}
use Rattle.pair_rule.specs.Rule.{At, Shown, Rule, Holds}
use Rattle.pair_rule.specs.Views as view
use Rattle.pair_rule.specs.Told.{Knows, Learns}
use Rattle.pair_rule.specs.Steps.{MayMake, goes}
use Rattle.pair_rule.specs.declared.view.View.{View}
use Rattle.pair_rule.specs.declared.view.Standing.TheVariants.{Seated}
use Rattle.pair_rule.specs.declared.rule.Key.{Key}
use Rattle.pair_rule.proofs.Core.{CoreLaws}
use Rattle.pair_rule.proofs.Bridge.{Held}
use Rattle.pair_rule.proofs.Allowed.{place_there}
use Rattle.pair_rule.proofs.Learning.{learns, knows}
use Rattle.pair_rule.proofs.Sides.{stepped_to, sends, receives, looks}

module _ {T : Type 0} (may : T → ℕ → ℕ → ℕ → Type 0) (key : Key T) (L : CoreLaws key.geometry) where
  -- a seat is one of a running pair
  pub of_running : (s : At) → Holds may key s → (id : ℕ) (d : View) → get_elem? s.views id ≡ some d → d.standing ≡ Seated → Rule may key s
  of_running s (inl r) id d at live = r
  of_running s (inr e) id d at live = absurd (e.over id d at live)

  -- a step that moves no slot may be made, where it leads to a state of the core
  pub going : (slots id : ℕ) (d : View) (held : List (ℕ × Option Buf)) (x : Name) (f found : ℕ → ℕ) (view : ℕ → View → View) (tells : ℕ → View → Type 0) (st : Step (Option Buf)) → d.standing ≡ Seated
      → ((s : At) (r : Rule may key s) → get_elem? s.views id ≡ some d
      → (c' : Shown) × Held may key (stepped_to may key L s x (f (get_or s.words (address key.geometry x) 0)) id (view (found (get_or s.words (address key.geometry x) 0)) d)) c'
      × tells (found (get_or s.words (address key.geometry x) 0)) d)
      → Allows (Holds may key) slots id (d, held) (address key.geometry x) f (λ n. goes view tells st (d, held) (found n))
  going slots id d held x f found view tells st live leads s h deep at small =
      let l = leads s (of_running s h id d at live) at in (view (found (get_or s.words (address key.geometry x) 0)) d, keeps, tt, inl l.1.0, (refl, l.2))

  module _ (s : At) (r : Rule may key s) (id : ℕ) (d : View) (at : get_elem? s.views id ≡ some d) (live : d.standing ≡ Seated) where
    -- the send side's stores
    pub store_piece_leads : (k i : ℕ) → MayMake d (StorePiece k i)
        → Held may key (stepped_to may key L s (Piece (k % key.geometry.depth) i) (empty k) id (view.stored_piece k i d)) (after key.geometry r.core (StorePiece k i))
    store_piece_leads k i h =
        let a = r.seats id d at live in
        sends may key L s r id d (StorePiece k i) (λ g. Piece (k % g.depth) i) (empty k) (λ y. record { round = k; pieces = i + 1; opened = 0; shut = 0; markers = y.markers }) at live h.0
        (place_there k key.geometry.depth r.shape.depth.0, subst (λ (z : Shape). i < pieces z) a.geometry h.1) h refl (λ n p j e. absurd (cc))

    pub store_claim_leads : (k c : ℕ) → MayMake d (StoreClaim k c)
        → Held may key (stepped_to may key L s (Claim c) (empty k) id (view.stored_claim c d)) (after key.geometry r.core (StoreClaim k c))
    store_claim_leads k c h =
        let a = r.seats id d at live in
        let here : k ≡ d.send.round = h.2 in
        let now : d.send.round ≡ r.core.send.round = ap (λ (z : SendSide). z.round) (a.send_is h.0) in
        let word : empty d.send.round ≡ empty k = ap empty (sym here) in
        let led = sends may key L s r id d (StoreClaim k c) (λ g. Claim c) (empty k) (λ y. record y { opened = c + 1 }) at live h.0
        (subst (λ (z : Shape). c < claim_words z) a.geometry h.1) h
        (ap (λ (z : ℕ). let e : Shown = record (wrote 0 (Claim c) (empty z) r.core) { send = record r.core.send { opened = c + 1 } } in e) (sym (here ∙ now))) (λ n p j e. absurd (cc)) in
        subst (λ (z : ℕ). Held may key (stepped_to may key L s (Claim c) (empty k) id (record (view.saw (Claim c) z d) { send = record d.send { opened = c + 1 } })) (after key.geometry r.core (StoreClaim k c))) (sym word) led

    -- its shut
    pub shut_claim_leads : (c v : ℕ) → v ≡ get_or s.words (address key.geometry (Claim c)) 0 → MayMake d (ShutClaim c)
        → Held may key (stepped_to may key L s (Claim c) (bit_or v (2 ^ 32)) id (view.shut_claim c (bit_or v (2 ^ 32)) d)) (after key.geometry r.core (ShutClaim c))
    shut_claim_leads c v found h =
        let a = r.seats id d at live in
        let fits : c < claim_words key.geometry = subst (λ (z : Shape). c < claim_words z) a.geometry h.1 in
        let is : v ≡ r.core.word (Claim c) = found ∙ r.words (Claim c) fits in
        sends may key L s r id d (ShutClaim c) (λ g. Claim c) (bit_or v (2 ^ 32)) (λ y. record y { shut = c + 1 }) at live h.0 fits h
        (ap (λ (z : ℕ). let e : Shown = record (wrote 0 (Claim c) (bit_or z (2 ^ 32)) r.core) { send = record r.core.send { shut = c + 1 } } in e) (sym is)) (λ n p j e. absurd (cc))

    -- the receive side's stores
    pub store_return_leads : (k t : ℕ) → MayMake d (StoreReturn k t)
        → Held may key (stepped_to may key L s (Return t) (empty k) id (view.stored_return k t d)) (after key.geometry r.core (StoreReturn k t))
    store_return_leads k t h =
        let a = r.seats id d at live in
        receives may key L s r id d (StoreReturn k t) (Return t) (empty k) (λ y. record { round = k; returns = t + 1; takes = 0; released = 0; watchers = y.watchers }) at live h.0
        (subst (λ (z : Shape). t < take_words z) a.geometry h.1) h refl (λ n p j e. absurd (cc))

    pub store_take_leads : (k t : ℕ) → MayMake d (StoreTake k t)
        → Held may key (stepped_to may key L s (Take t) (empty k) id (view.stored_take t d)) (after key.geometry r.core (StoreTake k t))
    store_take_leads k t h =
        let a = r.seats id d at live in
        let here : k ≡ d.recv.round = h.2 in
        let now : d.recv.round ≡ r.core.recv.round = ap (λ (z : RecvSide). z.round) (a.recv_is h.0) in
        let led = receives may key L s r id d (StoreTake k t) (Take t) (empty k) (λ y. record y { takes = t + 1 }) at live h.0
        (subst (λ (z : Shape). t < take_words z) a.geometry h.1) h
        (ap (λ (z : ℕ). let e : Shown = record (wrote 1 (Take t) (empty z) r.core) { recv = record r.core.recv { takes = t + 1 } } in e) (sym (here ∙ now))) (λ n p j e. absurd (cc)) in
        subst (λ (z : ℕ). Held may key (stepped_to may key L s (Take t) (empty k) id (record (view.saw (Take t) z d) { recv = record d.recv { takes = t + 1 } })) (after key.geometry r.core (StoreTake k t))) (sym (ap empty (sym here))) led

    pub store_release_leads : (k : ℕ) → MayMake d (StoreRelease k)
        → Held may key (stepped_to may key L s Release (empty k) id (view.released d)) (after key.geometry r.core (StoreRelease k))
    store_release_leads k h =
        let a = r.seats id d at live in
        let here : k ≡ d.recv.round = h.1 in
        let now : d.recv.round ≡ r.core.recv.round = ap (λ (z : RecvSide). z.round) (a.recv_is h.0) in
        let led = receives may key L s r id d (StoreRelease k) Release (empty k) (λ y. record y { released = 1 }) at live h.0 tt h
        (ap (λ (z : ℕ). let e : Shown = record (wrote 1 Release (empty z) r.core) { recv = record r.core.recv { released = 1 } } in e) (sym (here ∙ now))) (λ n p j e. absurd (cc)) in
        subst (λ (z : ℕ). Held may key (stepped_to may key L s Release (empty k) id (record (view.saw Release z d) { recv = record d.recv { released = 1 } })) (after key.geometry r.core (StoreRelease k))) (sym (ap empty (sym here))) led

    -- a look: the word found is v
    look_leads : (m : Move (List ℕ)) (x : Name) (v : ℕ) → v ≡ get_or s.words (address key.geometry x) 0 → Fits key.geometry x → MayMake d m
        → after key.geometry r.core m ≡ loads d.number x r.core → ((n p i : ℕ) → m ≢ LayPiece n p i)
        → Held may key (stepped_to may key L s x v id (view.saw x v d)) (after key.geometry r.core m) × Learns d x v
    look_leads m x v found fits h is other =
        let a = r.seats id d at live in
        let led = looks may key L s r id d m x v at live fits h found is other in
        let r' = led.0 in let d' : View = view.saw x v d in
        let a' = r'.seats id d' (set_here s.views id d' (at_split s.views id d at).0) live in
        let word : r.core.word x ≡ v = sym (found ∙ r.words x fits) in
        let after' : Knows d' = knows key.geometry r'.shape L r'.core r'.alone r'.markers r'.watchers r'.seat id d' r'.sound a' in (
          led,
          subst (Learns d x) word (learns key.geometry r.shape L r.core r.alone r.markers r.watchers r.seat id d r.sound a x fits
              (subst (λ (z : ℕ). Knows (view.saw x z d)) (sym word) after')),
        )

    entered : (n : ℕ) (x : Name) → d.number ≡ n → loads n x (enters n r.core) ≡ loads d.number x r.core
    entered n x e = let a = r.seats id d at live in
        ap (λ (z : ℕ). loads z x (enters z r.core)) (sym e) ∙ ap (loads d.number x) (L.facts.enters_live r.core d.number a.live)

    -- the looks
    pub load_claim_leads : (n c v : ℕ) → v ≡ get_or s.words (address key.geometry (Claim c)) 0 → MayMake d (LoadClaim n c)
        → Held may key (stepped_to may key L s (Claim c) v id (view.saw (Claim c) v d)) (after key.geometry r.core (LoadClaim n c)) × Learns d (Claim c) v
    load_claim_leads n c v found h = look_leads (LoadClaim n c) (Claim c) v found (subst (λ (z : Shape). c < claim_words z) (r.seats id d at live).geometry h.1) h (entered n (Claim c) h.0) (λ j p i e. absurd (cc))

    pub load_piece_leads : (n e i v : ℕ) → v ≡ get_or s.words (address key.geometry (Piece e i)) 0 → MayMake d (LoadPiece n e i)
        → Held may key (stepped_to may key L s (Piece e i) v id (view.saw (Piece e i) v d)) (after key.geometry r.core (LoadPiece n e i)) × Learns d (Piece e i) v
    load_piece_leads n e i v found h = look_leads (LoadPiece n e i) (Piece e i) v found (subst (λ (z : Shape). (e < z.depth) × (i < pieces z)) (r.seats id d at live).geometry (h.1, h.2)) h (entered n (Piece e i) h.0) (λ j p k q. absurd (cc))

    pub load_release_leads : (v : ℕ) → v ≡ get_or s.words (address key.geometry Release) 0 → MayMake d LoadRelease
        → Held may key (stepped_to may key L s Release v id (view.saw Release v d)) (after key.geometry r.core LoadRelease) × Learns d Release v
    load_release_leads v found h = look_leads LoadRelease Release v found tt h (ap (λ (z : ℕ). loads z Release r.core) (sym h)) (λ j p i e. absurd (cc))
