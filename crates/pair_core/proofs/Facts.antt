-- What a layer above may rest on, and the lemmas that its own proofs use: it imports this file alone.
use Rattle.std.proofs.Common.{subst, arith}
use Rattle.part_geometry.specs.Shape.{Shape, IsShape}
use Rattle.part_geometry.specs.Cells.{send_of}
use Rattle.part_geometry.specs.Pieces.{piece_of, TouchesRecv}
use Rattle.pair_core.specs.Facts.{StateFacts}
use Rattle.pair_core.proofs.Cut.{cell_piece, cell_touches, cell_touches_recv}
use Rattle.pair_core.proofs.Claims.{claim_home, claim_unmarked, claim_untaken_cell}
use Rattle.pair_core.proofs.Lays.{pends_now, unlaid_out}
use Rattle.pair_core.proofs.ReceiveFacts.{stays_full}
use Rattle.pair_core.proofs.ReceiveTakes.{take_home, take_kept}
use Rattle.pair_core.proofs.ReceiveEnds.{return_out}
use Rattle.pair_core.proofs.ReceiveMarks.{one_seat, mark_once, none_pend, idle_marks, take_marked}
use Rattle.pair_core.proofs.FactsKept.{kept_before, return_unkept, claim_unkept}
use Rattle.pair_core.proofs.FactsMarks.{open_is_active, may_claim_active, only_marked, claimed_marked, seen_open, seen_marked, all_laid, only_taken, all_taken, received_sent, enters_live}
pub use Rattle.pair_core.proofs.Puts.{put_here, put_else, put_cases, put_at, put_pair_here, put_pair_else, put_pair_cases, put_pair_at, put_cases_both, put_pair_cases_both, any_word, both_words}
pub use Rattle.pair_core.proofs.StateNumbers.{word_here, word_else, number_lt, number_one, lists_put, row_lt, row_one, cell_one}
pub use Rattle.pair_core.proofs.Words.{bit_lt, bit_or_here, bit_or_else, bit_or_more, round_or, empty_round, empty_bit, later_round, later_bit, later_of, later_refl, later_trans, later_or, later_newer}
pub use Rattle.pair_core.proofs.Keeps.{keeps}
pub use Rattle.pair_core.proofs.Cut.{touch_part, bit_small}
use Rattle.pair_core.proofs.Grow.{words_grow}
pub use Rattle.pair_core.proofs.Start.{starts_sound}

-- each sentence of what a layer above may rest on holds, by the lemma of its name or one beside it
pub facts : {A : Type 0} (g : Shape) → IsShape g → StateFacts A g
facts {A} g v = record {
  words_grow = words_grow g v;
  open_is_active = open_is_active g v;
  may_claim_active = may_claim_active g v;
  claim_home = claim_home g v;
  claim_unmarked = λ s p n. claim_unmarked g v s p n;
  claim_untaken = claim_untaken_cell g v;
  claim_unkept = claim_unkept g v;
  pending_is = λ s n x r at. let h = pends_now g v s n x r at in let e = h.round in let some = h.some in (h.round, omega arith, h.partition, h.marker, h.live, h.marked);
  pending_out = λ s n c x. unlaid_out g s n x c;
  take_home = λ s q c a r ok inside is. let kept = take_kept g v s q r ok.0 ok.1 ok.2 ok.3 c inside is in (take_home g v s q r ok.0 ok.1 ok.2 ok.3 c inside is, kept.0, kept.1);
  take_marked = λ s q c a r ok inside is. take_marked g v s r ok.1.1 q (piece_of g c) (send_of g c) ok.3 (cell_piece g c inside)
      (subst (TouchesRecv g (piece_of g c)) is (cell_touches_recv g c inside)) (cell_touches g c inside);
  return_out = λ s q c r ok. return_out g s q r ok.1 ok.2 ok.3 c;
  kept_before = kept_before g v;
  return_unkept = return_unkept g;
  stays_full = λ s n i r. (λ unreleased. stays_full g v s r unreleased n i);
  none_pend = λ s n r none. none_pend g s r none n;
  all_laid = all_laid g v;
  seen_marked = seen_marked g v;
  seen_open = seen_open g;
  claimed_marked = claimed_marked g;
  all_marked = λ s k p r none idle. idle_marks g v s r none idle k p;
  only_marked = only_marked g;
  all_taken = all_taken g;
  only_taken = only_taken g;
  received_sent = received_sent g;
  one_view = λ s n m k p r. one_seat g s r n m k p;
  marked_once = λ s n k p r. mark_once g s r n k p;
  enters_live = enters_live;
}
