use Rattle.pair_core.proofs.StateSlots.{filled_slots}
use Rattle.pair_core.proofs.state.CoreState.put_slots.Goals as goal

pub returns-clause-shows : goal.returns-clause-shows
returns-clause-shows c = λ core shows. record {
  words_are = shows.words_are;
  slots_are = filled_slots c.args.self.now.tables c.args.place c.args.pick c.args.spot c.args.self.now.slots.items c.fill.new.slots.items core.slot shows.slots_are c.fill.ensures.filled;
  send_are = shows.send_are;
  recv_are = shows.recv_are;
  seats_are = λ at v is. let view = shows.seats_are at v is in record { live = view.live; seen = view.seen; looks = view.looks; pending = view.pending; marks = view.marks };
  others_are = λ n none. let b = shows.others_are n none in record { blank = b.blank; new = b.new };
  takes_are = shows.takes_are;
}
