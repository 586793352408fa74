-- Words only grow: after an allowed move each word is the one before it or later. A move changes one word at most: it
-- adds a bit to it, or stores a later round's.
use Rattle.std.proofs.Common.{◌≡◌, ◌≢◌, ◌⊎◌, inl, inr, ⊎_elim, ℕ, suc, ◌+◌, ◌-◌, ◌*◌, ◌/◌, ◌%◌, ◌^◌, ◌<◌, ◌≤◌, Bool, true, false, ◌==◌, Option, Some, None, refl, sym, ap, ◌∙◌, subst, arith, bit_or}
use Rattle.std.specs.Prelude.{if◌then◌else◌}
use Rattle.gate_word.specs.Words.{round_in}
use Rattle.gate_word.specs.Order.{IsLater}
use Rattle.part_geometry.specs.Shape.{Shape, IsShape}
use Rattle.part_geometry.specs.Pieces.{pieces, first_part, Touches}
use Rattle.pair_core.specs.Words.{empty}
use Rattle.pair_core.specs.Names.{Name, Claim, Release, Take, Return, Piece, claim_words, take_words, Fits, put_word}
use Rattle.pair_core.specs.Core.{Core}
use Rattle.pair_core.specs.Steps.{enters, entered, counted, tries_claim, claims, loads}
use Rattle.pair_core.specs.Moves.{Move, StorePiece, StoreClaim, LoadClaim, LoadPiece, LoadRelease, ShutClaim, TryClaim, LayPiece, StoreReturn, StoreTake, TakePart, ReturnPart, StoreRelease, Split, Rise, Join, IsAllowed, after, joins, joined, lays}
use Rattle.pair_core.specs.Sound.{Sound}
use Rattle.pair_core.specs.declared.view.Pending.{Pending}
use Rattle.pair_core.specs.declared.view.Life.{Life}
use Rattle.pair_core.specs.declared.view.Life.TheVariants.{Blank, Live, Spent}
use Rattle.pair_core.proofs.Puts.{any_word}
use Rattle.pair_core.proofs.Words.{empty_round, later_refl, later_or, later_newer}
use Rattle.pair_core.proofs.SendFacts.{next_first, next_more, IsNext, seen_release, live_unspent}
use Rattle.pair_core.proofs.Cut.{some_takes, bit_small}

pend_one : (x y : Pending) → Some x ≡ Some y → x ≡ y
pend_one x y e = cc

module _ {A : Type 0} where
  -- the word y became w
  grown : (g : Shape) (s : Core A) (y : Name) (w : ℕ) → (Fits g y → IsLater (s.word y) w) → (x : Name) → Fits g x → IsLater (s.word x) (put_word y w s.word x)
  grown g s y w later x fits = any_word y x w s.word (λ z v. Fits g z → IsLater (s.word z) v) later (λ z _. later_refl (s.word z)) fits

  enters_word : (s : Core A) (n : ℕ) (x : Name) → IsLater (s.word x) ((enters n s).word x)
  enters_word s n x = go (s.life n)
    where
      counts : (b : Bool) → IsLater (s.word x) ((counted b n s).word x)
      counts true = later_refl (s.word x)
      counts false = later_refl (s.word x)

      go : (l : Life) → IsLater (s.word x) ((entered l n s).word x)
      go Blank = counts (n % 2 == 0)
      go Live = later_refl (s.word x)
      go Spent = later_refl (s.word x)

  joins_word : (g : Shape) (s : Core A) (n : ℕ) (x : Name) → IsLater (s.word x) ((joins g n s).word x)
  joins_word g s n x = go (n % 2 == 0)
    where
      go : (b : Bool) → IsLater (s.word x) ((joined b g n s).word x)
      go true = later_refl (s.word x)
      go false = later_refl (s.word x)

  tries_word : (g : Shape) (s : Core A) (n p : ℕ) (a : A) (x : Name) → Fits g x → IsLater (s.word x) ((tries_claim g n p a s).word x)
  tries_word g s n p a x fits = go (s.word (Claim (p / 32)) == s.seen n (Claim (p / 32)))
    where
      go : (b : Bool) → IsLater (s.word x) ((if b then claims g n p a s else loads n (Claim (p / 32)) s).word x)
      go true = grown g s (Claim (p / 32)) _ (λ _. later_or (s.word (Claim (p / 32))) (p % 32) (omega arith)) x fits
      go false = later_refl (s.word x)

  lays_word : (g : Shape) (s : Core A) (n i : ℕ) (o : Option Pending) (x : Name) → Fits g x → ((y : Pending) → o ≡ Some y → y.partition - first_part g i < 33) → IsLater (s.word x) ((lays g n i o s).word x)
  lays_word g s n i (Some y) x fits small = grown g s (Piece (y.round % g.depth) i) _ (λ _. later_or (s.word (Piece (y.round % g.depth) i)) (y.partition - first_part g i) (small y refl)) x fits
  lays_word g s n i None x fits small = later_refl (s.word x)

  stores_piece_word : (g : Shape) → IsShape g → (s : Core A) (k i : ℕ) → Sound g s → IsAllowed g s (StorePiece k i) → round_in (s.word (Piece (k % g.depth) i)) < k
  stores_piece_word g v s k i r a =
      let claim : ℕ → ℕ = λ c. s.word (Claim c) in let piece : ℕ → ℕ → ℕ = λ d j. s.word (Piece d j) in let released : ℕ = round_in (s.word Release) in
      let saw = seen_release g s 0 r (live_unspent (s.life 0) r.lives.send) in
      let n : IsNext g claim piece s.send released k i = ⊎_elim
      (λ first. subst (IsNext g claim piece s.send released k) (sym first.0)
      (next_first g v claim piece s.send s.recv released (round_in (s.seen 0 Release)) k r.progress r.gates r.pieces first.1 first.2 saw a.2 (let x = a.0 in omega arith)))
      (λ more. subst (λ (z : ℕ). IsNext g claim piece s.send released z i) (sym more.2)
      (next_more g v claim piece s.send s.recv released i r.progress r.gates r.pieces a.0 more.1))
      a.3 in
      let old = n.older in let positive = n.some in let deep = v.depth.0 in omega arith

  stores_return_word : (g : Shape) → IsShape g → (s : Core A) (k t : ℕ) → Sound g s → IsAllowed g s (StoreReturn k t) → round_in (s.word (Return t)) < k
  stores_return_word g v s k t r a = let words = some_takes g v in ⊎_elim
      (λ idle. let done = r.progress.ends_last (omega arith) in let all = r.progress.takes_last (omega arith) in let e = r.receiving.return_now t (omega arith) in omega arith)
      (λ more. let e = r.receiving.return_past t (omega arith) a.0 in omega arith)
      a.2

  -- whichever the move is, no word is earlier after it
  pub words_grow : (g : Shape) → IsShape g → (s : Core A) (m : Move A) (x : Name) → Sound g s → IsAllowed g s m → Fits g x → IsLater (s.word x) ((after g s m).word x)
  words_grow g v s (StorePiece k i) x r a fits = grown g s (Piece (k % g.depth) i) (empty k) (λ _. later_newer _ _ (let low = stores_piece_word g v s k i r a in let e = empty_round k in omega arith)) x fits
  words_grow g v s (StoreClaim k c) x r a fits = grown g s (Claim c) (empty s.send.round)
      (λ _. later_newer _ _ (let e = (r.gates.is_past c (let z = a.3 in omega arith) a.0).0 in let f = empty_round s.send.round in omega arith)) x fits
  words_grow g v s (LoadClaim n c) x r a fits = enters_word s n x
  words_grow g v s (LoadPiece n d i) x r a fits = enters_word s n x
  words_grow g v s LoadRelease x r a fits = later_refl (s.word x)
  words_grow g v s (ShutClaim c) x r a fits = grown g s (Claim c) _ (λ _. later_or (s.word (Claim c)) 32 (omega arith)) x fits
  words_grow g v s (TryClaim n p b) x r a fits = tries_word g s n p b x fits
  words_grow g v s (LayPiece n p i) x r a fits = lays_word g s n i (s.pending n) x fits (λ y e.
      let same : a.0 ≡ y = pend_one a.0 y (sym a.1 ∙ e) in let may = a.2 in let small = bit_small g v i p may.piece may.touches in
      let part : y.partition ≡ p = ap (λ (z : Pending). z.partition) (sym same) ∙ may.partition in omega arith)
  words_grow g v s (StoreReturn k t) x r a fits = grown g s (Return t) (empty k) (λ _. later_newer _ _ (let low = stores_return_word g v s k t r a in let e = empty_round k in omega arith)) x fits
  words_grow g v s (StoreTake k t) x r a fits = grown g s (Take t) (empty s.recv.round)
      (λ _. later_newer _ _ (let e = r.receiving.take_past t (let z = a.3 in omega arith) a.0 in let f = empty_round s.recv.round in omega arith)) x fits
  words_grow g v s (TakePart q b) x r a fits = grown g s (Take (q / 32)) _ (λ _. later_or (s.word (Take (q / 32))) (q % 32) (omega arith)) x fits
  words_grow g v s (ReturnPart q) x r a fits = grown g s (Return (q / 32)) _ (λ _. later_or (s.word (Return (q / 32))) (q % 32) (omega arith)) x fits
  words_grow g v s (StoreRelease k) x r a fits = grown g s Release (empty s.recv.round)
      (λ _. later_newer _ _ (let e = r.progress.current in let f = empty_round s.recv.round in let o = a.1.1 in omega arith)) x fits
  words_grow g v s (Split n) x r a fits = enters_word s n x
  words_grow g v s (Rise n w more) x r a fits = later_refl (s.word x)
  words_grow g v s (Join n) x r a fits = joins_word g s n x
