-- The sentences of the laws, from the order in which entries come: each entry of a history follows what came before it,
-- and so each sentence is read off the entry that it speaks of.
use Rattle.std.proofs.Common.{◌≡◌, ◌≢◌, inl, inr, ⊎_elim, ℕ, suc, ◌+◌, ◌-◌, ◌<◌, ◌≤◌, List, [], ◌∷◌, ◌++◌, refl, ap, subst, arith}
use Rattle.std.proofs.lemmas.Bool.{cases_lt}
use Rattle.part_geometry.specs.Shape.{Shape, IsShape}
use Rattle.part_geometry.specs.Pieces.{pieces, Touches}
use Rattle.pair_core.specs.History.{Entry, Open, Mark, Lay, Out, Listen, Take, Release, Shut, Has, Follows, IsInOrder}
use Rattle.pair_core.specs.Laws.{rounds, opened, shut, listened, released, down, AreInOrder, KeepsOrder, KeepsOrderAlways, StaysSound, TakesItsRound}
use Rattle.pair_core.proofs.Start.{starts_sound}
use Rattle.pair_core.proofs.Keeps.{keeps, reaches}
use Rattle.pair_core.proofs.ReceiveTakes.{take_home}

-- an entry follows what came before it
at : (g : Shape) (newer older : List Entry) (e : Entry) → IsInOrder g (newer ++ e ∷ older) → Follows g older e × IsInOrder g older
at g [] older e o = (o.0, o.1)
at g (x ∷ newer) older e o = at g newer older e o.1

split_at : (g : Shape) (h newer older : List Entry) (e : Entry) → IsInOrder g h → h ≡ newer ++ e ∷ older → Follows g older e × IsInOrder g older
split_at g h newer older e o is = at g newer older e (subst (IsInOrder g) is o)

-- an entry that stands in a history follows what came before it
had : (g : Shape) (h : List Entry) (e : Entry) (P : Type 0) → ((past : List Entry) → Follows g past e → P) → IsInOrder g h → Has h e → P
had g [] e P says o has = absurd has
had g (x ∷ h) e P says o has = ⊎_elim (λ (same : x ≡ e). says h (subst (Follows g h) same o.0)) (λ (old : Has h e). had g h e P says o.1 old) has

-- what was laid was marked
lay_marked : (g : Shape) (h : List Entry) (k p i : ℕ) → IsInOrder g h → Has h (Lay k p i) → Has h (Mark k p)
lay_marked g [] k p i o has = absurd has
lay_marked g (x ∷ h) k p i o has = ⊎_elim
    (λ (e : x ≡ Lay k p i). inr ((subst (Follows g h) e o.0).3))
    (λ (old : Has h (Lay k p i)). inr (lay_marked g h k p i o.1 old)) has

-- the rounds of a sort of entry, and the entries, are 1 to n
record Counted (mk : ℕ → Entry) (h : List Entry) (ks : List ℕ) : Type 0 where
  -- the last of them
  pub n : ℕ
  -- the list has them, the newest first
  pub is : ks ≡ down n
  -- an entry is of one of them
  pub only : (j : ℕ) → Has h (mk j) → (1 ≤ j) × (j ≤ n)
  -- and each has an entry
  pub all : (j : ℕ) → 1 ≤ j → j ≤ n → Has h (mk j)

count_other : (mk : ℕ → Entry) (h : List Entry) (ks : List ℕ) (e : Entry) → ((j : ℕ) → e ≢ mk j) → Counted mk h ks → Counted mk (e ∷ h) ks
count_other mk h ks e other c = record {
  n = c.n;
  is = c.is;
  only = λ j has. ⊎_elim (λ same. absurd (other j same)) (c.only j) has;
  all = λ j low high. inr (c.all j low high);
}

count_next : (mk : ℕ → Entry) (h : List Entry) (ks : List ℕ) (k : ℕ) → ((i j : ℕ) → mk i ≡ mk j → i ≡ j) → 1 ≤ k → ¬ Has h (mk k) → (2 ≤ k → Has h (mk (k - 1)))
    → Counted mk h ks → Counted mk (mk k ∷ h) (k ∷ ks)
count_next mk h ks k same some new before c =
    let above : c.n < k = elim (cases_lt c.n k) [ inl l ↦ l | inr l ↦ absurd (new (c.all k some (omega arith))) ] in
    let near : k ≤ c.n + 1 = elim (cases_lt k 2) [ inl l ↦ omega arith | inr l ↦ let x = (c.only (k - 1) (before (omega arith))).1 in omega arith ] in
    let next : k ≡ suc c.n = omega arith in
    record {
      n = suc c.n;
      is = (λ i. next i ∷ c.is i);
      only = λ j has. ⊎_elim (λ e. let x = same k j e in (omega arith, omega arith)) (λ old. let x = c.only j old in let y = x.0 in let z = x.1 in (y, omega arith)) has;
      all = λ j low high. elim (cases_lt j k) [ inl l ↦ inr (c.all j low (omega arith)) | inr l ↦ let e : k ≡ j = omega arith in inl (ap mk e) ];
    }

none_counted : (mk : ℕ → Entry) → Counted mk [] []
none_counted mk = record { n = 0; is = refl; only = λ j has. absurd has; all = λ j low high. absurd (omega arith) }

opens_counted : (g : Shape) (h : List Entry) → IsInOrder g h → Counted Open h (rounds opened h)
opens_counted g [] o = none_counted Open
opens_counted g (Open k ∷ h) o = count_next Open h (rounds opened h) k (λ i j e. cc) o.0.0 o.0.1 (λ two. (o.0.2 two).0) (opens_counted g h o.1)
opens_counted g (e ∷ h) o = count_other Open h (rounds opened h) _ (λ j x. cc) (opens_counted g h o.1)

shuts_counted : (g : Shape) (h : List Entry) → IsInOrder g h → Counted Shut h (rounds shut h)
shuts_counted g [] o = none_counted Shut
shuts_counted g (Shut k ∷ h) o = count_next Shut h (rounds shut h) k (λ i j e. cc) o.0.0 o.0.1 o.0.4 (shuts_counted g h o.1)
shuts_counted g (e ∷ h) o = count_other Shut h (rounds shut h) _ (λ j x. cc) (shuts_counted g h o.1)

listens_counted : (g : Shape) (h : List Entry) → IsInOrder g h → Counted Listen h (rounds listened h)
listens_counted g [] o = none_counted Listen
listens_counted g (Listen k ∷ h) o = count_next Listen h (rounds listened h) k (λ i j e. cc) o.0.0 o.0.1 (λ two. (o.0.2 two).0) (listens_counted g h o.1)
listens_counted g (e ∷ h) o = count_other Listen h (rounds listened h) _ (λ j x. cc) (listens_counted g h o.1)

releases_counted : (g : Shape) (h : List Entry) → IsInOrder g h → Counted Release h (rounds released h)
releases_counted g [] o = none_counted Release
releases_counted g (Release k ∷ h) o = count_next Release h (rounds released h) k (λ i j e. cc) o.0.0 o.0.1 o.0.3 (releases_counted g h o.1)
releases_counted g (e ∷ h) o = count_other Release h (rounds released h) _ (λ j x. cc) (releases_counted g h o.1)

in_order : (mk : ℕ → Entry) (h : List Entry) (ks : List ℕ) → Counted mk h ks → AreInOrder ks
in_order mk h ks c = (c.n, c.is)

-- a history in which each entry follows what came before keeps each sentence
pub keeps_order : (g : Shape) (h : List Entry) → IsInOrder g h → KeepsOrder g h
keeps_order g h o = record {
  marks_a_part = λ k p has. had g h (Mark k p) (p < g.send_parts) (λ past f. f.0) o has;
  lays_where_they_touch = λ k p i has. had g h (Lay k p i) ((i < pieces g) × Touches g i p) (λ past f. (f.0, f.1)) o has;
  sends_a_piece = λ k i has. had g h (Out k i) (i < pieces g) (λ past f. f.0) o has;
  takes_a_part = λ k q has. had g h (Take k q) (q < g.recv_parts) (λ past f. f.0) o has;
  piece_goes_out_once = λ k i newer older e. (split_at g h newer older (Out k i) o e).0.1;
  part_is_marked_once = λ k p newer older e. (split_at g h newer older (Mark k p) o e).0.1;
  part_is_laid_once = λ k p i newer older e. (split_at g h newer older (Lay k p i) o e).0.2;
  part_is_taken_once = λ k q newer older e. (split_at g h newer older (Take k q) o e).0.1;
  out_right_after_a_lay = λ k i newer older e. let f = split_at g h newer older (Out k i) o e in let last = f.0.2 in
      (last.0, last.1, (subst (IsInOrder g) last.2 f.1).0.1, last.2);
  out_after_all_lays = λ k i newer older e. (split_at g h newer older (Out k i) o e).0.3;
  lay_after_its_mark = λ k p i newer older e. (split_at g h newer older (Lay k p i) o e).0.3;
  out_after_all_marks = λ k i newer older e p t. let f = split_at g h newer older (Out k i) o e in lay_marked g older k p i f.1 (f.0.3 p t);
  mark_after_open = λ k p newer older e. (split_at g h newer older (Mark k p) o e).0.2;
  mark_before_shut = λ k p newer older e. (split_at g h newer older (Mark k p) o e).0.3;
  shut_after_all_outs = λ k newer older e. (split_at g h newer older (Shut k) o e).0.3;
  take_after_listen = λ k q newer older e. (split_at g h newer older (Take k q) o e).0.2;
  take_after_all_outs = λ k q newer older e. (split_at g h newer older (Take k q) o e).0.3;
  release_after_all_takes = λ k newer older e. (split_at g h newer older (Release k) o e).0.2;
  opens_in_order = in_order Open h (rounds opened h) (opens_counted g h o);
  shuts_in_order = in_order Shut h (rounds shut h) (shuts_counted g h o);
  listens_in_order = in_order Listen h (rounds listened h) (listens_counted g h o);
  releases_in_order = in_order Release h (rounds released h) (releases_counted g h o);
  outs_never_fall = λ k i newer older e. (split_at g h newer older (Out k i) o e).0.4;
  takes_never_fall = λ k q newer older e. (split_at g h newer older (Take k q) o e).0.4;
  open_after_release = λ k deep newer older e. (split_at g h newer older (Open k) o e).0.3 deep;
}

-- soundness holds at first, through each move, and so always
pub stays_sound : {A : Type 0} (g : Shape) → IsShape g → StaysSound A g
stays_sound {A} g v = record {
  first = starts_sound g v;
  kept = λ s m r a. keeps g v s m r a;
  always = λ ms s h happened. (reaches g v ms s h happened).sound;
}

-- each list of moves has a history that keeps the sentences
pub order_always : {A : Type 0} (g : Shape) → IsShape g → KeepsOrderAlways A g
order_always {A} g v ms s h happened = keeps_order g h (reaches g v ms s h happened).order

-- the slots that a take takes have its round
pub takes_its_round : {A : Type 0} (g : Shape) → IsShape g → TakesItsRound A g
takes_its_round {A} g v s q c x r a inside is = take_home g v s q r a.0 a.1 a.2 a.3 c inside is
