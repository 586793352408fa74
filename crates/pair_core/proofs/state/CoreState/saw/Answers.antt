use Rattle.std.proofs.Common.{◌∙◌, ◌<◌, ℕ, ap, sym, subst, length, arith}
use Rattle.std.proofs.Math.ListN.{length-set}
use Rattle.pair_core.specs.Steps.{saw as saw_core}
use Rattle.pair_core.specs.State.{IsView}
use Rattle.pair_core.proofs.StateSeats.{read_seat, at_seat, at_set, kept_set, seats_set, saw_else, saw_here}
use Rattle.pair_core.proofs.state.CoreState.saw.Goals as goal

pub invariant_of-self : goal.invariant_of-self
invariant_of-self c =
    let s = c.args.self.now in let old = c.index_mut.result.now in
    let is = read_seat s.seats.items c.args.at old c.requires.at c.index_mut.ensures.value in
    record {
      kept = kept_set s.tables s.words.items s.slots.items s.send s.recv s.seats.items c.args.at old c.saw.new.self s.kept is c.saw.ensures.seat
          (ap length c.saw.ensures.seen ∙ (length-set old.seen.items c.args.index c.args.word ∙ s.kept.seen c.args.at old is))
          (ap length c.saw.ensures.looks ∙ (length-set old.looks.items c.args.index _ ∙ s.kept.looks c.args.at old is));
    }

pub returns-clause-seats : goal.returns-clause-seats
returns-clause-seats c =
    let s = c.args.self.now in let old = c.index_mut.result.now in
    let is = read_seat s.seats.items c.args.at old c.requires.at c.index_mut.ensures.value in
    at_set s.seats.items c.args.at old c.saw.new.self is c.saw.ensures.seat

pub returns-clause-shows : goal.returns-clause-shows
returns-clause-shows c = λ core n x shows there fits at.
    let s = c.args.self.now in let old = c.index_mut.result.now in
    let is = read_seat s.seats.items c.args.at old c.requires.at c.index_mut.ensures.value in
    let own = at_seat s.seats.items c.args.at n old is there in
    let low : c.args.index < length old.seen.items = (let l = s.kept.seen c.args.at old is in omega (arith, c.requires.index)) in
    let low' : c.args.index < length old.looks.items = (let l = s.kept.looks c.args.at old is in omega (arith, c.requires.index)) in
    let view = saw_here s.tables old c.saw.new.self x c.args.index c.args.word core (shows.seats_are c.args.at old is) fits at low low'
    c.saw.ensures.seat c.saw.ensures.seen c.saw.ensures.looks c.saw.ensures.pending c.saw.ensures.marks in
    let all = seats_set s.tables s.words.items s.slots.items s.send s.recv s.seats.items c.args.at old c.saw.new.self core (saw_core n x c.args.word core) s.kept
    (record { each = shows.seats_are; others = shows.others_are }) is c.saw.ensures.seat
    (subst (λ (z : ℕ). IsView s.tables c.saw.new.self (saw_core z x c.args.word core)) own view)
    (λ m other. saw_else n x c.args.word core m (λ e. other (e ∙ sym own))) in
    record {
      words_are = shows.words_are;
      slots_are = shows.slots_are;
      send_are = shows.send_are;
      recv_are = shows.recv_are;
      seats_are = all.each;
      others_are = all.others;
      takes_are = shows.takes_are;
    }

pub saw-requires-clause-seen : goal.saw-requires-clause-seen
saw-requires-clause-seen c =
    let s = c.args.self.now in let old = c.index_mut.result.now in
    let size = s.kept.seen c.args.at old (read_seat s.seats.items c.args.at old c.requires.at c.index_mut.ensures.value) in omega (arith, c.requires.index)

pub saw-requires-clause-looks : goal.saw-requires-clause-looks
saw-requires-clause-looks c =
    let s = c.args.self.now in let old = c.index_mut.result.now in
    let size = s.kept.looks c.args.at old (read_seat s.seats.items c.args.at old c.requires.at c.index_mut.ensures.value) in omega (arith, c.requires.index)
