-- How many elements a message has. Where some number from 1 to 8,192 is a multiple of both numbers of partitions, one of
-- its multiples is among the 8,192 numbers from any number on.
use Rattle.std.proofs.Common.{◌≡◌, ◌∙◌, refl, sym, ap, subst, ℕ, ◌+◌, ◌*◌, ◌/◌, ◌%◌, ◌<◌, ◌≤◌, true, Option, Some, None, Result, Ok, arith}
use Rattle.std.specs.Prelude.{◌==◌, min, is_some, unwrap_or}
use Rattle.std.specs.Option.{IsSome}
use Rattle.std.proofs.lemmas.Bool.{and_parts, eqb-true}
use Rattle.std.proofs.lemmas.Bool.Decides.{nat_tests}
use Rattle.std.proofs.lemmas.Nat.{mul-mod_second, div-add-mod'}
use Rattle.part_geometry.specs.Shape.{IsShape, Shape}
use Rattle.part_geometry.specs.declared.geometry.GeometryFault.{GeometryFault}
use Rattle.halo_message.specs.Kept.{IsKept}
use Rattle.halo_message.specs.Message.{IsMessage, Message, cut_as, elements, first_shared, is_shared}
use Rattle.halo_message.proofs.Finding.{found, rounded-up, some-found}

-- a multiple of a multiple
multiple : (a q m : ℕ) → m % a ≡ 0 → 0 < a → (q * m) % a ≡ 0
multiple a q m even some = sym (mul-mod_second q m a) ∙ (ap (λ x. (q * x) % a) even ∙ (let none : q * 0 ≡ 0 = omega arith in ap (λ x. x % a) none ∙ omega arith))

-- a multiple of a shared multiple is shared
shared-times : (a b q m : ℕ) → 0 < a → 0 < b → is_shared a b m ≡ true → is_shared a b (q * m) ≡ true
shared-times a b q m some other both =
    let h = and_parts (m % a == 0) (m % b == 0) both in
    let left : (q * m) % a ≡ 0 = multiple a q m (eqb-true (m % a) 0 h.0) some in
    let right : (q * m) % b ≡ 0 = multiple b q m (eqb-true (m % b) 0 h.1) other in
    grind (arith, nat_tests)

is_some-Some : {X : Type 0} (o : Option X) → is_some o ≡ true → (x : X) × (o ≡ Some x)
is_some-Some None e = absurd cc
is_some-Some (Some x) e = (x, refl)

-- where a shared multiple is at most 8,192, there is one among the 8,192 numbers from v on
pub shared-there : (a b v : ℕ) → 0 < a → 0 < b → is_some (first_shared a b 1) ≡ true → IsSome (first_shared a b v)
unfolding first_shared
shared-there a b v some other few =
    let s = is_some-Some (first_shared a b 1) few in
    let f = found (is_shared a b) 8192 1 s.0 s.1 in
    let from = f.from in let below = f.below in
    let q = v / s.0 + min 1 (v % s.0) in
    let up = rounded-up v s.0 q from refl in
    some-found (is_shared a b) 8192 v (q * s.0) up.0 (omega arith) (shared-times a b q s.0 some other f.passes)

-- what is known of the number of elements
pub record AreElements (a b v n : ℕ) : Type 0 where
  pub enough : v ≤ n
  pub few : n ≤ v + 8191
  pub shared : is_shared a b n ≡ true
  pub send : n / a * a ≡ n
  pub recv : n / b * b ≡ n

-- it is known of the first shared multiple
pub elements-from : (a b v n : ℕ) → first_shared a b v ≡ Some n → AreElements a b v n
unfolding first_shared
elements-from a b v n is =
    let f = found (is_shared a b) 8192 v n is in
    let from = f.from in let below = f.below in
    let h = and_parts (n % a == 0) (n % b == 0) f.passes in
    let left = eqb-true (n % a) 0 h.0 in let right = eqb-true (n % b) 0 h.1 in
    let whole = div-add-mod' n a in let other = div-add-mod' n b in
    record { enough = from; few = omega arith; shared = f.passes; send = omega arith; recv = omega arith }

-- ---- what is kept

-- the number of elements and the cut make what is kept of a message
pub kept : (m : Message) (n : ℕ) (g : Shape) → IsMessage m → first_shared m.send_parts m.recv_parts m.values ≡ Some n
    → g ≡ cut_as n m.send_parts m.recv_parts m.grain m.depth → IsShape g
    → IsKept record { values = m.values; elements = n; geometry = g }
kept m n g s is same shape =
    let e = elements-from m.send_parts m.recv_parts m.values n is in
    let whole : n ≡ elements m = sym (ap (λ o. unwrap_or o 0) is) in
    let send = e.send in let recv = e.recv in
    subst (λ h. IsShape h → IsKept record { values = m.values; elements = n; geometry = h }) (sym same)
    (λ fine. record {
      limits = s;
      elements = whole;
      enough = e.enough;
      few = e.few;
      geometry = ap (λ k. cut_as k m.send_parts m.recv_parts m.grain m.depth) whole;
      send = (let t : m.send_parts * (n / m.send_parts * 8) ≡ n / m.send_parts * m.send_parts * 8 = omega arith in omega arith);
      recv = (let t : m.recv_parts * (n / m.recv_parts * 8) ≡ n / m.recv_parts * m.recv_parts * 8 = omega arith in omega arith);
      shape = fine;
    })
    shape

-- the number of elements is within the limits of a cut
pub elements-within : (a b v n : ℕ) → 1 ≤ v → v ≤ 8200 → AreElements a b v n → (1 ≤ n) × (n ≤ 16392)
elements-within a b v n some few e = let more = e.enough in let less = e.few in (omega arith, omega arith)

-- two answers that are one have one cut
pub ok-same : (a b : Shape) → ◌≡◌ {A = Result Shape GeometryFault} (Ok a) (Ok b) → a ≡ b
ok-same a b e = cc
