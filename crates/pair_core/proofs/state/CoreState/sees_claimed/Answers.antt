use Rattle.std.proofs.Common.{◌<◌, ◌/◌, ◌%◌, ℕ, ap, sym, refl, true≢false, below_more, arith}
use Rattle.gate_word.specs.Words.{round_in}
use Rattle.part_geometry.specs.Shape.{Shape}
use Rattle.pair_core.specs.Words.{bit}
use Rattle.pair_core.specs.Names.{Claim}
use Rattle.pair_core.proofs.Cut.{claim_word}
use Rattle.pair_core.proofs.StateSeats.{send_at}
use Rattle.pair_core.proofs.state.CoreState.sees_claimed.Goals as goal

pub returns-then-round_of-round : goal.returns-then-round_of-round
returns-then-round_of-round c = λ core shows.
    let s = c.args.self.now in let at = send_at s.tables s.words.items s.slots.items s.send s.recv s.seats.items s.kept in
    let low : c.loop-p.p < s.tables.send_parts = omega (arith, c.send_parts-parts.ensures.value, ap (λ (g : Shape). g.send_parts) c.geometry.ensures.value) in
    let seen = c.seen-word.ensures core 0 (Claim (c.loop-p.p / 32)) shows at (claim_word s.tables c.loop-p.p low) refl in
    (λ no. absurd (true≢false (sym no)), λ all. let one = (all c.loop-p.p low).0 in let e = ap round_in seen in absurd (omega (arith, c.round_of.ensures.value)))

pub returns-then-bit_of-ne1 : goal.returns-then-bit_of-ne1
returns-then-bit_of-ne1 c = λ core shows.
    let s = c.args.self.now in let at = send_at s.tables s.words.items s.slots.items s.send s.recv s.seats.items s.kept in
    let low : c.loop-p.p < s.tables.send_parts = omega (arith, c.send_parts-parts.ensures.value, ap (λ (g : Shape). g.send_parts) c.geometry.ensures.value) in
    let seen = c.seen-word.ensures core 0 (Claim (c.loop-p.p / 32)) shows at (claim_word s.tables c.loop-p.p low) refl in
    (λ no. absurd (true≢false (sym no)), λ all. let one = (all c.loop-p.p low).1 in let e = ap (λ (w : ℕ). bit w (c.loop-p.p % 32)) seen in absurd (omega (arith, c.bit_of.ensures)))

pub loop-p-preserved : goal.loop-p-preserved
loop-p-preserved c = λ core shows.
    let s = c.args.self.now in let at = send_at s.tables s.words.items s.slots.items s.send s.recv s.seats.items s.kept in
    let low : c.loop-p.p < s.tables.send_parts = omega (arith, c.send_parts-parts.ensures.value, ap (λ (g : Shape). g.send_parts) c.geometry.ensures.value) in
    let seen = c.seen-word.ensures core 0 (Claim (c.loop-p.p / 32)) shows at (claim_word s.tables c.loop-p.p low) refl in
    let e = ap round_in seen in let b = ap (λ (w : ℕ). bit w (c.loop-p.p % 32)) seen in
    below_more _ _ (c.loop-p.invariant core shows) (omega (arith, c.round_of.ensures.value), omega (arith, c.bit_of.ensures))

pub returns : goal.returns
returns c = λ core shows.
    let e = ap (λ (g : Shape). g.send_parts) c.geometry.ensures.value in
    (λ _ p low. c.loop-p.invariant core shows p (omega (arith, c.send_parts-parts.ensures.value)), λ _. refl)
