-- Products with sums, and of three numbers: by induction on the first factor, where each step adds or takes the other
-- one more time.
use Rattle.std.proofs.Common.{◌≡◌, ◌∙◌, refl, sym, ap, zero, suc, ℤ, pos, negsuc, ◌+ℤ◌, ◌-ℤ◌, ◌*ℤ◌, arith}
use Rattle.std.proofs.lemmas.Int.{ints}
use Rattle.std.proofs.Math.IntN.{zero-*ℤ, suc_ℤ-*ℤ, pred_ℤ-*ℤ, *ℤ_comm}

-- a sum of equals, and a difference
add-to : (x y z u v t a b : ℤ) → x ≡ y +ℤ z → u ≡ x +ℤ (a +ℤ b) → v ≡ y +ℤ a → t ≡ z +ℤ b → u ≡ v +ℤ t
add-to x y z u v t a b e p q r = omega (arith, ints, e, p, q, r)

take-from : (x y z u v t a b : ℤ) → x ≡ y +ℤ z → u ≡ x -ℤ (a +ℤ b) → v ≡ y -ℤ a → t ≡ z -ℤ b → u ≡ v +ℤ t
take-from x y z u v t a b e p q r = omega (arith, ints, e, p, q, r)

spread-zero : (a b : ℤ) → pos zero *ℤ (a +ℤ b) ≡ pos zero *ℤ a +ℤ pos zero *ℤ b
spread-zero a b = rw (zero-*ℤ (a +ℤ b), zero-*ℤ a, zero-*ℤ b) refl

-- a product with a sum
pub spread : (w a b : ℤ) → w *ℤ (a +ℤ b) ≡ w *ℤ a +ℤ w *ℤ b
spread (pos zero) a b = spread-zero a b
spread (pos (suc n)) a b =
    add-to _ _ _ _ _ _ a b (spread (pos n) a b) (suc_ℤ-*ℤ (pos n) (a +ℤ b)) (suc_ℤ-*ℤ (pos n) a) (suc_ℤ-*ℤ (pos n) b)
spread (negsuc zero) a b =
    take-from _ _ _ _ _ _ a b (spread-zero a b) (pred_ℤ-*ℤ (pos zero) (a +ℤ b)) (pred_ℤ-*ℤ (pos zero) a) (pred_ℤ-*ℤ (pos zero) b)
spread (negsuc (suc n)) a b =
    take-from _ _ _ _ _ _ a b (spread (negsuc n) a b) (pred_ℤ-*ℤ (negsuc n) (a +ℤ b)) (pred_ℤ-*ℤ (negsuc n) a) (pred_ℤ-*ℤ (negsuc n) b)

-- a sum times a number is the sum of both products
pub spread-left : (a b m : ℤ) → (a +ℤ b) *ℤ m ≡ a *ℤ m +ℤ b *ℤ m
spread-left a b m = *ℤ_comm (a +ℤ b) m ∙ (spread m a b ∙ λ i. *ℤ_comm m a i +ℤ *ℤ_comm m b i)

spread-minus : (a b m : ℤ) → (a -ℤ b) *ℤ m ≡ a *ℤ m -ℤ b *ℤ m
spread-minus a b m =
    let whole : a ≡ a -ℤ b +ℤ b = omega (arith, ints) in
    let e = ap (λ z. z *ℤ m) whole ∙ spread-left (a -ℤ b) b m in
    omega (arith, ints, e)

-- a product of three numbers
pub associate : (w h m : ℤ) → w *ℤ h *ℤ m ≡ w *ℤ (h *ℤ m)
associate (pos zero) h m = rw (zero-*ℤ h, zero-*ℤ m, zero-*ℤ (h *ℤ m)) refl
associate (pos (suc n)) h m =
    ap (λ z. z *ℤ m) (suc_ℤ-*ℤ (pos n) h)
    ∙ (spread-left (pos n *ℤ h) h m ∙ (ap (λ z. z +ℤ h *ℤ m) (associate (pos n) h m) ∙ sym (suc_ℤ-*ℤ (pos n) (h *ℤ m))))
associate (negsuc zero) h m =
    ap (λ z. z *ℤ m) (pred_ℤ-*ℤ (pos zero) h)
    ∙ (spread-minus (pos zero *ℤ h) h m
    ∙ (ap (λ z. z -ℤ h *ℤ m) (ap (λ z. z *ℤ m) (zero-*ℤ h) ∙ (zero-*ℤ m ∙ sym (zero-*ℤ (h *ℤ m)))) ∙ sym (pred_ℤ-*ℤ (pos zero) (h *ℤ m))))
associate (negsuc (suc n)) h m =
    ap (λ z. z *ℤ m) (pred_ℤ-*ℤ (negsuc n) h)
    ∙ (spread-minus (negsuc n *ℤ h) h m ∙ (ap (λ z. z -ℤ h *ℤ m) (associate (negsuc n) h m) ∙ sym (pred_ℤ-*ℤ (negsuc n) (h *ℤ m))))
