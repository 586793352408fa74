use Rattle.std.proofs.Common.{refl, ◌<◌, length, arith}
use Rattle.pair_core.proofs.StateNumbers.{lists_put}
use Rattle.pair_core.proofs.state.CoreState.put.Goals as goal

pub returns-clause-shows : goal.returns-clause-shows
returns-clause-shows c = λ core x shows fits at.
    let size = c.args.self.now.kept.words_size in
    let inside : c.args.index < length c.args.self.now.words.items = omega (arith, c.requires) in
    record {
      words_are = lists_put c.args.self.now.tables c.args.self.now.words.items x c.args.index c.args.word core.word c.args.word (λ z. z) shows.words_are fits at inside refl;
      slots_are = shows.slots_are;
      send_are = shows.send_are;
      recv_are = shows.recv_are;
      seats_are = λ at v is. let view = shows.seats_are at v is in record { live = view.live; seen = view.seen; looks = view.looks; pending = view.pending; marks = view.marks };
      others_are = λ n none. let b = shows.others_are n none in record { blank = b.blank; new = b.new };
      takes_are = shows.takes_are;
    }
