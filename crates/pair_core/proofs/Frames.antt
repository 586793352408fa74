-- What a step on one word leaves of the groups that range over all words and seats: it is enough to look at the word
-- and the seat that changed.
use Rattle.std.proofs.Common.{◌≡◌, ◌≢◌, ℕ, ◌^◌, ◌<◌, List, Option, refl, sym, ap, ◌∙◌, subst, bit_or}
use Rattle.gate_word.specs.Order.{IsLater}
use Rattle.part_geometry.specs.Shape.{Shape}
use Rattle.pair_core.specs.Words.{bit, empty}
use Rattle.pair_core.specs.Names.{Name, Fits, put, put_word}
use Rattle.pair_core.specs.Moves.{first_word}
use Rattle.pair_core.specs.Sound.{Seen, SeesOpened, IsNew, News, Owns, Unused, IsUsed}
use Rattle.pair_core.specs.declared.view.Mark.{Mark}
use Rattle.pair_core.specs.declared.view.Pending.{Pending}
use Rattle.pair_core.specs.declared.view.SendSide.{SendSide}
use Rattle.pair_core.specs.declared.view.Life.{Life}
use Rattle.pair_core.specs.declared.view.Life.TheVariants.{Blank, Live, Spent}
use Rattle.pair_core.proofs.Words.{later_refl, later_trans, empty_bit, bit_or_else}
use Rattle.pair_core.proofs.Puts.{put_here, put_else, put_cases, any_word, both_words}

-- each word is the first one or a later one, since the send side saw it so
pub words_first : (g : Shape) (word : Name → ℕ) (life : ℕ → Life) (seen : ℕ → Name → ℕ) → life 0 ≡ Live → Seen g word life seen → (x : Name) → Fits g x → IsLater (first_word g x) (word x)
words_first g word life seen alive all x fits =
    later_trans (first_word g x) (seen 0 x) (word x) (all.first 0 x fits) (all.present 0 x (λ e. let a : life 0 ≡ Live = alive in absurd (cc)) fits)

-- what a seat saw of one word is no earlier than the first word
first_put : (g : Shape) (seen : ℕ → Name → ℕ) (n : ℕ) (x : Name) (w : ℕ) → ((m : ℕ) (y : Name) → Fits g y → IsLater (first_word g y) (seen m y)) → (Fits g x → IsLater (first_word g x) w)
    → (m : ℕ) (y : Name) → Fits g y → IsLater (first_word g y) (put seen n (put_word x w (seen n)) m y)
first_put g seen n x w all more m y fits =
    put_cases seen n (put_word x w (seen n)) (λ _ f. IsLater (first_word g y) (f y))
    (any_word x y w (seen n) (λ z v. Fits g z → IsLater (first_word g z) v) more (λ z f. all n z f) fits)
    (λ i _. all i y fits) m

-- a word grows to w, and the seat n saw it
pub sees : (g : Shape) (word : Name → ℕ) (life : ℕ → Life) (seen : ℕ → Name → ℕ) (n : ℕ) (x : Name) (w : ℕ)
    → life 0 ≡ Live → Seen g word life seen → (Fits g x → IsLater (word x) w) → Seen g (put_word x w word) life (put seen n (put_word x w (seen n)))
sees g word life seen n x w alive all more = record {
  present = λ m y live fits. put_cases seen n (put_word x w (seen n)) (λ i f. life i ≢ Spent → IsLater (f y) (put_word x w word y))
      (λ here. both_words x y w w (seen n) word (λ z a b. Fits g z → IsLater a b) (λ _. later_refl w) (λ z f. all.present n z here f) fits)
      (λ i _ here. later_trans (seen i y) (word y) (put_word x w word y) (all.present i y here fits)
      (any_word x y w word (λ z v. Fits g z → IsLater (word z) v) more (λ z _. later_refl (word z)) fits))
      m live;
  first = first_put g seen n x w all.first (λ f. later_trans (first_word g x) (word x) w (words_first g word life seen alive all x f) (more f));
}

-- the seat n saw a word as it is
pub looks_at : (g : Shape) (word : Name → ℕ) (life : ℕ → Life) (seen : ℕ → Name → ℕ) (n : ℕ) (x : Name)
    → life 0 ≡ Live → Seen g word life seen → Seen g word life (put seen n (put_word x (word x) (seen n)))
looks_at g word life seen n x alive all = record {
  present = λ m y live fits. put_cases seen n (put_word x (word x) (seen n)) (λ i f. life i ≢ Spent → IsLater (f y) (word y))
      (λ here. any_word x y (word x) (seen n) (λ z v. Fits g z → IsLater v (word z)) (λ _. later_refl (word x)) (λ z f. all.present n z here f) fits)
      (λ i _ here. all.present i y here fits)
      m live;
  first = first_put g seen n x (word x) all.first (λ f. words_first g word life seen alive all x f);
}

-- what another seat saw leaves what the send side has seen
pub opened_else : (send : SendSide) (seen : ℕ → Name → ℕ) (n : ℕ) (f : Name → ℕ) → n ≢ 0 → SeesOpened send (seen 0) → SeesOpened send (put seen n f 0)
opened_else send seen n f other sees_it = subst (SeesOpened send) (sym (put_else seen n f 0 (λ e. other (sym e)))) sees_it

-- a seat that has a view is no seat without one
pub live_not_blank : (x : Life) → x ≡ Live → x ≢ Blank
live_not_blank x e f = absurd (cc)

module _ {A : Type 0} where
  -- a seat without a view had none, and the same in its parts
  pub news_kept : (g : Shape) (life life' : ℕ → Life) (seen seen' looks looks' : ℕ → Name → ℕ) (pending pending' : ℕ → Option Pending) (marks marks' : ℕ → List (Mark A))
      → ((m : ℕ) → life' m ≡ Blank → (life m ≡ Blank) × (seen' m ≡ seen m) × (looks' m ≡ looks m) × (pending' m ≡ pending m) × (marks' m ≡ marks m))
      → News g life seen looks pending marks → News g life' seen' looks' pending' marks'
  news_kept g life life' seen seen' looks looks' pending pending' marks marks' same all m blank =
      let e = same m blank in let new : IsNew g (seen m) (looks m) (pending m) (marks m) = all m e.0 in record {
        seen = λ x fits. ap (λ (f : Name → ℕ). f x) e.1 ∙ new.seen x fits;
        looks = λ x fits. ap (λ (f : Name → ℕ). f x) e.2 ∙ new.looks x fits;
        pending = e.3 ∙ new.pending;
        marks = e.4 ∙ new.marks;
      }

  -- the seat n, which has a view, did something
  pub news_else : (g : Shape) (life : ℕ → Life) (seen looks : ℕ → Name → ℕ) (pending : ℕ → Option Pending) (marks : ℕ → List (Mark A)) (n : ℕ) (f h : Name → ℕ)
      → life n ≢ Blank → News g life seen looks pending marks → News g life (put seen n f) (put looks n h) pending marks
  news_else g life seen looks pending marks n f h some = news_kept g life life seen (put seen n f) looks (put looks n h) pending pending marks marks
      (λ m blank. let other : m ≢ n = λ e. some (ap life (sym e) ∙ blank) in (blank, put_else seen n f m other, put_else looks n h m other, refl, refl))

  -- and its pending claim and its marks changed too
  pub news_claim : (g : Shape) (life : ℕ → Life) (seen looks : ℕ → Name → ℕ) (pending : ℕ → Option Pending) (marks : ℕ → List (Mark A)) (n : ℕ) (f h : Name → ℕ) (o : Option Pending) (l : List (Mark A))
      → life n ≢ Blank → News g life seen looks pending marks → News g life (put seen n f) (put looks n h) (put pending n o) (put marks n l)
  news_claim g life seen looks pending marks n f h o l some = news_kept g life life seen (put seen n f) looks (put looks n h) pending (put pending n o) marks (put marks n l)
      (λ m blank. let other : m ≢ n = λ e. some (ap life (sym e) ∙ blank) in (blank, put_else seen n f m other, put_else looks n h m other, put_else pending n o m other, put_else marks n l m other))

  -- and its pending claim changed too
  pub news_lay : (g : Shape) (life : ℕ → Life) (seen looks : ℕ → Name → ℕ) (pending : ℕ → Option Pending) (marks : ℕ → List (Mark A)) (n : ℕ) (f h : Name → ℕ) (o : Option Pending)
      → life n ≢ Blank → News g life seen looks pending marks → News g life (put seen n f) (put looks n h) (put pending n o) marks
  news_lay g life seen looks pending marks n f h o some = news_kept g life life seen (put seen n f) looks (put looks n h) pending (put pending n o) marks marks
      (λ m blank. let other : m ≢ n = λ e. some (ap life (sym e) ∙ blank) in (blank, put_else seen n f m other, put_else looks n h m other, put_else pending n o m other, refl))

-- what another seat saw leaves what the receive side has seen
pub owns_else : (g : Shape) (take ret : ℕ → ℕ) (seen : ℕ → Name → ℕ) (n : ℕ) (f : Name → ℕ) → n ≢ 1 → Owns g take ret (seen 1) → Owns g take ret (put seen n f 1)
owns_else g take ret seen n f other owns = subst (Owns g take ret) (sym (put_else seen n f 1 (λ e. other (sym e)))) owns

-- what the receive side saw itself
pub owns_here : (g : Shape) (take ret : ℕ → ℕ) (seen : ℕ → Name → ℕ) (f : Name → ℕ) → Owns g take ret f → Owns g take ret (put seen 1 f 1)
owns_here g take ret seen f owns = subst (Owns g take ret) (sym (put_here seen 1 f)) owns

-- a word that has no unused bit is put
pub unused_put : (g : Shape) (word : Name → ℕ) (x : Name) (w : ℕ) → Unused g word → (Fits g x → (j : ℕ) → j < 33 → ¬ IsUsed g x j → bit w j ≡ 0) → Unused g (put_word x w word)
unused_put g word x w all clean y j fits small unused =
    any_word x y w word (λ z v. Fits g z → ¬ IsUsed g z j → bit v j ≡ 0) (λ f o. clean f j small o) (λ z f o. all z j f small o) fits unused

-- a word is put that is empty
pub unused_empty : (g : Shape) (word : Name → ℕ) (x : Name) (k : ℕ) → Unused g word → Unused g (put_word x (empty k) word)
unused_empty g word x k all = unused_put g word x (empty k) all (λ _ j small _. empty_bit k j small)

-- a bit is added that stands for something
pub unused_or : (g : Shape) (word : Name → ℕ) (x : Name) (i : ℕ) → Unused g word → (Fits g x → IsUsed g x i) → Unused g (put_word x (bit_or (word x) (2 ^ i)) word)
unused_or g word x i all used = unused_put g word x (bit_or (word x) (2 ^ i)) all
    (λ f j small other. bit_or_else (word x) i j (λ e. other (subst (IsUsed g x) (sym e) (used f))) ∙ all x j f small other)
