-- A seat's first event, loads, and what a seat learns keep soundness. These change who has a view and what was seen,
-- and the groups of words and slots read neither; the seats that are out are one more, in the list that counts them.
use Rattle.std.proofs.Common.{◌≡◌, ◌≢◌, inl, inr, ⊎_elim, ℕ, ◌+◌, ◌%◌, ◌<◌, ◌≤◌, Bool, true, false, ◌==◌, List, ◌∷◌, Option, Some, refl, sym, ap, ◌∙◌, subst, arith}
use Rattle.std.specs.Prelude.{if◌then◌else◌}
use Rattle.std.proofs.lemmas.Bool.{cases_lt, cases_eq, eq-eqb, ne_eqb}
use Rattle.gate_word.specs.Words.{round_in}
use Rattle.gate_word.specs.Order.{IsLater}
use Rattle.gate_word.proofs.Laws.{order}
use Rattle.part_geometry.specs.Shape.{Shape}
use Rattle.part_geometry.specs.Cells.{cells, send_of}
use Rattle.pair_core.specs.Names.{Name, Claim, Release, Take, Return, Piece, Fits, put}
use Rattle.pair_core.specs.Core.{Core, Slot, Out, IsMarker, IsWatcher}
use Rattle.pair_core.specs.Steps.{counted, entered, enters}
use Rattle.pair_core.specs.Moves.{first_word, IsAllowed, after, LoadClaim, LoadPiece, LoadRelease, Split, Rise}
use Rattle.pair_core.specs.Sound.{Progress, Gates, Pieces, Receiving, Claims, IsLent, Slots, Marks, Seen, SeesOpened, News, Owns, occurrences, Counts, Lives, Sound}
use Rattle.pair_core.specs.declared.view.Mark.{Mark}
use Rattle.pair_core.specs.declared.view.Pending.{Pending}
use Rattle.pair_core.specs.declared.view.SendSide.{SendSide}
use Rattle.pair_core.specs.declared.view.RecvSide.{RecvSide}
use Rattle.pair_core.specs.declared.view.Life.{Life}
use Rattle.pair_core.specs.declared.view.Life.TheVariants.{Blank, Live, Spent}
use Rattle.pair_core.proofs.Words.{later_trans, later_round}
use Rattle.pair_core.proofs.Puts.{put_here, put_cases}
use Rattle.pair_core.proofs.Frames.{news_kept, news_else, live_not_blank}
use Rattle.pair_core.proofs.Loads.{loads_keeps}

-- The groups read nothing of how many seats are out.
pub progress_counts : (g : Shape) (released : ℕ) (send : SendSide) (recv : RecvSide) (m w : ℕ) → Progress g released send recv → Progress g released (record send { markers = m }) (record recv { watchers = w })
progress_counts g released send recv m w p = record {
  some = p.some;
  pieces_most = p.pieces_most;
  opened = p.opened;
  shut = p.shut;
  opens_last = p.opens_last;
  shuts_last = p.shuts_last;
  begun = p.begun;
  behind = p.behind;
  ahead = p.ahead;
  some_return = p.some_return;
  returns = p.returns;
  takes = p.takes;
  takes_last = p.takes_last;
  ends_last = p.ends_last;
  ends_once = p.ends_once;
  current = p.current;
}

-- the gates, for any count of markers
pub gates_counts : (g : Shape) (claim : ℕ → ℕ) (send : SendSide) (m : ℕ) → Gates g claim send → Gates g claim (record send { markers = m })
gates_counts g claim send m h = record { is_shut = h.is_shut; is_open = h.is_open; is_past = h.is_past; all_ended = h.all_ended; all_past = h.all_past }

-- the pieces, for any count of markers
pub pieces_counts : (g : Shape) (claim : ℕ → ℕ) (piece : ℕ → ℕ → ℕ) (send : SendSide) (m : ℕ) → Pieces g claim piece send → Pieces g claim piece (record send { markers = m })
pieces_counts g claim piece send m h = record { other = h.other; waiting = h.waiting; current = h.current; ended = h.ended; claimed = h.claimed }

-- the take and return words, for any count of watchers
pub receiving_counts : (g : Shape) (take ret : ℕ → ℕ) (recv : RecvSide) (w : ℕ) → Receiving g take ret recv → Receiving g take ret (record recv { watchers = w })
receiving_counts g take ret recv w r = record {
  return_now = r.return_now;
  return_past = r.return_past;
  take_now = r.take_now;
  take_past = r.take_past;
  all_returned = r.all_returned;
  all_taken = r.all_taken;
  none_returned = r.none_returned;
  none_taken = r.none_taken;
  within = r.within;
  done = r.done;
}

-- pending claims, where each one's seat has a view still, and its mark
pub claims_counts : (g : Shape) (claim : ℕ → ℕ) (piece : ℕ → ℕ → ℕ) (send : SendSide) (life life' : ℕ → Life) (pending : ℕ → Option Pending) (who who' : ℕ → ℕ → ℕ) (m : ℕ)
    → ((n : ℕ) (x : Pending) → pending n ≡ Some x → life n ≡ Live → IsMarker n → life' n ≡ Live)
    → ((k p : ℕ) (x : Pending) → pending (who k p) ≡ Some x → who' k p ≡ who k p)
    → Claims g claim piece send life pending who → Claims g claim piece (record send { markers = m }) life' pending who'
claims_counts g claim piece send life life' pending who who' m alive same h = record {
  each = λ n x e. let is = h.each n x e in record {
    round = is.round;
    partition = is.partition;
    claimed = is.claimed;
    marker = is.marker;
    live = alive n x e is.live is.marker;
    seat = same x.round x.partition x (ap pending is.seat ∙ e) ∙ is.seat;
    laid = is.laid;
    some = is.some;
  };
  all = λ p i low inside touch owed. let have = h.all p i low inside touch owed in
      (have.0, ap pending (same send.round p have.0 have.1) ∙ have.1, have.2);
}

-- the slots, where each that is lent is lent to the same seat
pub slots_counts : (g : Shape) (claim take ret : ℕ → ℕ) (piece : ℕ → ℕ → ℕ) (send : SendSide) (recv : RecvSide) (slot : ℕ → ℕ → Slot) (who who' : ℕ → ℕ → ℕ) (m w : ℕ)
    → ((c : ℕ) → c < cells g → IsLent g claim piece send c → who' send.round (send_of g c) ≡ who send.round (send_of g c))
    → Slots g claim take ret piece send recv slot who → Slots g claim take ret piece (record send { markers = m }) (record recv { watchers = w }) slot who'
slots_counts g claim take ret piece send recv slot who who' m w same h = record {
  lent = λ c inside l. h.lent c inside l ∙ ap (λ (z : ℕ). Out z) (sym (same c inside l));
  held = h.held;
  home = h.home;
  tied = h.tied;
}

-- a list with a number put before it
pub occurs_here : (n : ℕ) (ms : List ℕ) → occurrences n (n ∷ ms) ≡ 1 + occurrences n ms
occurs_here n ms = ap (λ (b : Bool). (if b then 1 else 0) + occurrences n ms) (eq-eqb n n refl)

-- another number before it changes no count
pub occurs_else : (n m : ℕ) (ms : List ℕ) → m ≢ n → occurrences n (m ∷ ms) ≡ occurrences n ms
occurs_else n m ms other = ap (λ (b : Bool). (if b then 1 else 0) + occurrences n ms) (ne_eqb m n other) ∙ omega arith

-- a seat of the sort that had no view gets one
pub counts_more : (IsSort : ℕ → Type 0) (life : ℕ → Life) (n count : ℕ) → IsSort n → life n ≢ Live → Counts IsSort life count → Counts IsSort (put life n Live) (count + 1)
counts_more IsSort life n count sort dead h =
    let none : occurrences n h.seats ≡ 0 = elim (cases_lt 0 (occurrences n h.seats)) [ inl some ↦ absurd (dead (h.only n some).1) | inr not_some ↦ omega arith ] in
    record {
      seats = n ∷ h.seats;
      number = let e = h.number in omega arith;
      all = put_cases life n Live (λ m z. IsSort m → z ≡ Live → occurrences m (n ∷ h.seats) ≡ 1) (λ _ _. occurs_here n h.seats ∙ omega arith)
          (λ m other is alive. occurs_else m n h.seats (λ e. other (sym e)) ∙ h.all m is alive);
      only = put_cases life n Live (λ m z. 1 ≤ occurrences m (n ∷ h.seats) → IsSort m × (z ≡ Live)) (λ _. (sort, refl))
          (λ m other some. h.only m (let e = occurs_else m n h.seats (λ f. other (sym f)) in omega arith));
    }

-- a seat of another sort
pub counts_else : (IsSort : ℕ → Type 0) (life : ℕ → Life) (n count : ℕ) (x : Life) → ¬ IsSort n → Counts IsSort life count → Counts IsSort (put life n x) count
counts_else IsSort life n count x other h = record {
  seats = h.seats;
  number = h.number;
  all = put_cases life n x (λ m z. IsSort m → z ≡ Live → occurrences m h.seats ≡ 1) (λ is _. absurd (other is)) (λ m _ is alive. h.all m is alive);
  only = put_cases life n x (λ m z. 1 ≤ occurrences m h.seats → IsSort m × (z ≡ Live)) (λ some. absurd (other (h.only n some).0)) (λ m _ some. h.only m some);
}

module _ {A : Type 0} where
  -- marks, where each marker that has some has a view still
  pub marks_lives : (g : Shape) (claim : ℕ → ℕ) (life life' : ℕ → Life) (marks : ℕ → List (Mark A)) (who : ℕ → ℕ → ℕ)
      → ((n : ℕ) → IsMarker n → life n ≡ Live → life' n ≡ Live) → Marks g claim life marks who → Marks g claim life' marks who
  marks_lives g claim life life' marks who alive h = record {
    own = λ n k p some. let o = h.own n k p some in (o.0, o.1, o.2, o.3, ⊎_elim (λ (z : n ≡ 0). inl z) (λ (z : IsMarker n × (life n ≡ Live)). inr (z.0, alive n z.0 z.1)) o.4);
    all = h.all;
  }

  -- which seats have a view, and what they saw, where markers stay and no seat comes back
  pub recounted : (g : Shape) (s : Core A) (life' : ℕ → Life) (seen' looks' : ℕ → Name → ℕ) (m w : ℕ) → Sound g s
      → ((n : ℕ) → IsMarker n → s.life n ≡ Live → life' n ≡ Live)
      → Seen g s.word life' seen' → SeesOpened s.send (seen' 0) → News g life' seen' looks' s.pending s.marks → Owns g (λ t. s.word (Take t)) (λ t. s.word (Return t)) (seen' 1) → Lives life' m w
      → Sound g (record s { life = life'; seen = seen'; looks = looks'; send = record s.send { markers = m }; recv = record s.recv { watchers = w } })
  recounted g s life' seen' looks' m w r alive seen opened news owns lives =
      let claim : ℕ → ℕ = λ c. s.word (Claim c) in let take : ℕ → ℕ = λ t. s.word (Take t) in let ret : ℕ → ℕ = λ t. s.word (Return t) in let piece : ℕ → ℕ → ℕ = λ d i. s.word (Piece d i) in
      record {
        who = r.who;
        progress = progress_counts g (round_in (s.word Release)) s.send s.recv m w r.progress;
        gates = gates_counts g claim s.send m r.gates;
        pieces = pieces_counts g claim piece s.send m r.pieces;
        receiving = receiving_counts g take ret s.recv w r.receiving;
        arrived = r.arrived;
        claims = claims_counts g claim piece s.send s.life life' s.pending r.who r.who m (λ n _ _ live is. alive n is live) (λ k p x e. refl) r.claims;
        slots = slots_counts g claim take ret piece s.send s.recv s.slot r.who r.who m w (λ c _ _. refl) r.slots;
        marks = marks_lives g claim s.life life' s.marks r.who alive r.marks;
        takes = r.takes;
        unused = r.unused;
        seen = seen;
        opened = opened;
        news = news;
        owns = owns;
        lives = lives;
      }

  -- a seat without a view is neither side
  blank_two : (g : Shape) (s : Core A) (n : ℕ) → Sound g s → s.life n ≡ Blank → 2 ≤ n
  blank_two g s n r blank = elim (cases_lt n 2) [
    | inl low ↦ absurd (elim (cases_eq n 0) [
      | inl e ↦ let a : s.life n ≡ Live = ap s.life e ∙ r.lives.send in cc
      | inr o ↦ let e : n ≡ 1 = omega arith in let a : s.life n ≡ Live = ap s.life e ∙ r.lives.recv in cc
    ])
    | inr not_low ↦ omega arith
  ]

  blank_enters : (g : Shape) (s : Core A) (n : ℕ) → Sound g s → s.life n ≡ Blank → Sound g (counted (n % 2 == 0) n s)
  blank_enters g s n r blank =
      let two = blank_two g s n r blank in
      let life' : ℕ → Life = put s.life n Live in
      let dead : s.life n ≢ Live = λ e. absurd (cc) in
      let alive : (m : ℕ) → s.life m ≡ Live → life' m ≡ Live = put_cases s.life n Live (λ m z. s.life m ≡ Live → z ≡ Live) (λ _. refl) (λ _ _ e. e) in
      let before : (m : ℕ) → life' m ≢ Spent → s.life m ≢ Spent = put_cases s.life n Live (λ m z. z ≢ Spent → s.life m ≢ Spent) (λ _ e. absurd (cc)) (λ _ _ h. h) in
      let blank_before : (m : ℕ) → life' m ≡ Blank → s.life m ≡ Blank = put_cases s.life n Live (λ m z. z ≡ Blank → s.life m ≡ Blank) (λ e. absurd (cc)) (λ _ _ e. e) in
      let seen : Seen g s.word life' s.seen = record { present = λ m x live fits. r.seen.present m x (before m live) fits; first = r.seen.first } in
      let news : News g life' s.seen s.looks s.pending s.marks = news_kept g s.life life' s.seen s.seen s.looks s.looks s.pending s.pending s.marks s.marks
      (λ m e. (blank_before m e, refl, refl, refl, refl)) r.news in
      elim (cases_eq (n % 2) 0) [
        | inl e ↦ subst (λ (b : Bool). Sound g (counted b n s)) (sym (eq-eqb (n % 2) 0 e))
            (recounted g s life' s.seen s.looks (s.send.markers + 1) s.recv.watchers r (λ m _. alive m) seen r.opened news r.owns record {
              send = alive 0 r.lives.send;
              recv = alive 1 r.lives.recv;
              markers_out = counts_more IsMarker s.life n s.send.markers (two, e) dead r.lives.markers_out;
              watchers_out = counts_else IsWatcher s.life n s.recv.watchers Live (λ odd. let o = odd.1 in omega arith) r.lives.watchers_out;
            })
        | inr o ↦ subst (λ (b : Bool). Sound g (counted b n s)) (sym (ne_eqb (n % 2) 0 o))
            (recounted g s life' s.seen s.looks s.send.markers (s.recv.watchers + 1) r (λ m _. alive m) seen r.opened news r.owns record {
              send = alive 0 r.lives.send;
              recv = alive 1 r.lives.recv;
              markers_out = counts_else IsMarker s.life n s.send.markers Live (λ even. o even.1) r.lives.markers_out;
              watchers_out = counts_more IsWatcher s.life n s.recv.watchers (two, omega arith) dead r.lives.watchers_out;
            })
      ]

  -- the first event of a seat, and each later one
  pub enters_keeps : (g : Shape) (s : Core A) (n : ℕ) → s.life n ≢ Spent → Sound g s → Sound g (enters n s)
  enters_keeps g s n unspent r = go (s.life n) refl
    where
      go : (l : Life) → s.life n ≡ l → Sound g (entered l n s)
      go Blank e = blank_enters g s n r e
      go Live e = r
      go Spent e = absurd (unspent e)

  -- and then it has a view
  counted_there : (b : Bool) (n : ℕ) (s : Core A) → (counted b n s).life n ≢ Blank
  counted_there true n s = live_not_blank (put s.life n Live n) (put_here s.life n Live)
  counted_there false n s = live_not_blank (put s.life n Live n) (put_here s.life n Live)

  -- so no seat is blank after it entered
  pub entered_there : (l : Life) (n : ℕ) (s : Core A) → s.life n ≡ l → (entered l n s).life n ≢ Blank
  entered_there Blank n s e = counted_there (n % 2 == 0) n s
  entered_there Live n s e = live_not_blank (s.life n) e
  entered_there Spent n s e = λ f. absurd (cc)

  -- to get a view keeps soundness
  pub split_keeps : (g : Shape) (s : Core A) (n : ℕ) → Sound g s → IsAllowed g s (Split n) → Sound g (after g s (Split n))
  split_keeps g s n r allowed = enters_keeps g s n (let blank : s.life n ≡ Blank = allowed.1 in λ e. absurd (cc)) r

  -- a load of a claim word keeps soundness, and with it the first event
  pub load_claim_keeps : (g : Shape) (s : Core A) (n c : ℕ) → Sound g s → IsAllowed g s (LoadClaim n c) → Sound g (after g s (LoadClaim n c))
  load_claim_keeps g s n c r allowed = loads_keeps g (enters n s) n (Claim c) (entered_there (s.life n) n s refl) (enters_keeps g s n allowed.0 r)

  -- so does a load of a piece word
  pub load_piece_keeps : (g : Shape) (s : Core A) (n d i : ℕ) → Sound g s → IsAllowed g s (LoadPiece n d i) → Sound g (after g s (LoadPiece n d i))
  load_piece_keeps g s n d i r allowed = loads_keeps g (enters n s) n (Piece d i) (entered_there (s.life n) n s refl) (enters_keeps g s n allowed.0 r)

  -- and of the release word, which the send side alone reads
  pub load_release_keeps : (g : Shape) (s : Core A) → Sound g s → IsAllowed g s LoadRelease → Sound g (after g s LoadRelease)
  load_release_keeps g s r allowed = loads_keeps g s 0 Release (live_not_blank (s.life 0) r.lives.send) r

  -- what a seat is told of words that were so
  pub rise_keeps : (g : Shape) (s : Core A) (n : ℕ) (w : Name → ℕ) (more : ℕ) → Sound g s → IsAllowed g s (Rise n w more) → Sound g (after g s (Rise n w more))
  rise_keeps g s n w more r allowed = let between = allowed.1 in record {
    who = r.who;
    progress = r.progress;
    gates = r.gates;
    pieces = r.pieces;
    receiving = r.receiving;
    arrived = r.arrived;
    claims = r.claims;
    slots = r.slots;
    marks = r.marks;
    takes = r.takes;
    unused = r.unused;
    seen = record {
      present = put_cases s.seen n w (λ m f. (x : Name) → s.life m ≢ Spent → Fits g x → IsLater (f x) (s.word x)) (λ x _ fits. (between x fits).1) (λ m _. r.seen.present m);
      first = put_cases s.seen n w (λ m f. (x : Name) → Fits g x → IsLater (first_word g x) (f x))
          (λ x fits. later_trans (first_word g x) (s.seen n x) (w x) (r.seen.first n x fits) (between x fits).0) (λ m _. r.seen.first m);
    };
    opened = λ c unshut low. put_cases s.seen n w (λ m f. m ≡ 0 → round_in (f (Claim c)) ≡ s.send.round)
        (λ e.
        let most = r.progress.opened in let fits : Fits g (Claim c) = omega arith in
        let b = between (Claim c) fits in
        let least = later_round (s.seen n (Claim c)) (w (Claim c)) b.0 in let highest = later_round (w (Claim c)) (s.word (Claim c)) b.1 in
        let old : round_in (s.seen n (Claim c)) ≡ s.send.round = ap (λ (k : ℕ). round_in (s.seen k (Claim c))) e ∙ r.opened c unshut low in
        let now = (r.gates.is_open c (omega arith) low).0 in omega arith)
        (λ m _ e. ap (λ (k : ℕ). round_in (s.seen k (Claim c))) e ∙ r.opened c unshut low) 0 refl;
    news = news_else g s.life s.seen s.looks s.pending s.marks n _ _ (live_not_blank (s.life n) allowed.0) r.news;
    owns = put_cases s.seen n w (λ m f. m ≡ 1 → Owns g (λ t. s.word (Take t)) (λ t. s.word (Return t)) f)
        (λ e. record {
          takes = λ t h. same (Take t) h (ap (λ (z : ℕ). s.seen z (Take t)) e ∙ r.owns.takes t h);
          returns = λ t h. same (Return t) h (ap (λ (z : ℕ). s.seen z (Return t)) e ∙ r.owns.returns t h);
        })
        (λ m _ e. subst (λ (z : ℕ). Owns g (λ t. s.word (Take t)) (λ t. s.word (Return t)) (s.seen z)) (sym e) r.owns) 1 refl;
    lives = r.lives;
  }
    where
      same : (x : Name) → Fits g x → s.seen n x ≡ s.word x → w x ≡ s.word x
      same x fits e = order.antisymmetric (w x) (s.word x) (allowed.1 x fits).1 (subst (λ (z : ℕ). IsLater z (w x)) e (allowed.1 x fits).0)
