use Rattle.std.proofs.Common.{ap, ◌∙◌, ◌∷◌}
use Rattle.pair_core.specs.Steps.{mark}
use Rattle.pair_core.proofs.state.CoreState.add_take.Goals as goal

pub returns-clause-shows : goal.returns-clause-shows
returns-clause-shows c = λ core shows. record {
  words_are = shows.words_are;
  slots_are = shows.slots_are;
  send_are = shows.send_are;
  recv_are = shows.recv_are;
  seats_are = λ at v is. let view = shows.seats_are at v is in record { live = view.live; seen = view.seen; looks = view.looks; pending = view.pending; marks = view.marks };
  others_are = λ n none. let b = shows.others_are n none in record { blank = b.blank; new = b.new };
  takes_are = c.in_ok-push_front.ensures.items ∙ ap (λ l. mark c.args.round c.args.partition tt ∷ l) shows.takes_are;
}
