use Rattle.std.proofs.Common.{ℕ, sym, subst}
use Rattle.std.proofs.lemmas.List.FromFn.{length-map-range_with_len}
use Rattle.pair_core.specs.Names.{Claim}
use Rattle.pair_core.specs.State.{word_count}
use Rattle.pair_rule.specs.Seats.{MarkHeld}
use Rattle.pair_rule.specs.Views.{told, told_word}
use Rattle.pair_rule.specs.declared.view.View.{View}
use Rattle.part_send.specs.Ends.{IsWide, IsFree, IsTold}
use Rattle.part_send.proofs.Views.{seen_here, wide_saw}
use Rattle.part_send.proofs.marker.Marker.learn.Goals as goal

pub invariant_of-self : goal.invariant_of-self
invariant_of-self g c =
    let i = c.self.invariant.0 in let s = c.self.inside.seat in let w : ℕ = c.learn_marker-word.result in let d : View = told s.view c.args.note.view in
    let wide : IsWide d = record {
      words = length-map-range_with_len (told_word s.view c.args.note.view) 0 (word_count s.view.geometry);
      counts = i.wide.counts;
    } in
    subst (λ (z : MarkHeld). IsFree z × IsTold z.view 0 w) (sym c.learn_marker-word.ensures.step) (
      record { shape = i.shape; marker = i.marker; none = i.none; home = i.home; wide = wide_saw d (Claim 0) w wide },
      λ inside. seen_here d wide (Claim 0) inside w,
    )
