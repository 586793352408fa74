use Rattle.std.proofs.Common.{◌∙◌, refl}
use Rattle.grid_text.specs.Printing.{summary_text}
use Rattle.grid_text.proofs.summary.print_summary.Goals as goal

pub returns : goal.returns
unfolding summary_text
returns c =
    c.in_ok-push_tail.ensures
    ∙ rw (c.in_ok-push_head.ensures, c.new-text.ensures.items, c.rows.ensures.value, c.cols.ensures.value, c.values.ensures.values) refl
