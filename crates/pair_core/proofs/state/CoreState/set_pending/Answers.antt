use Rattle.std.proofs.Common.{◌∙◌, ℕ, ap, sym, subst, length}
use Rattle.pair_core.specs.Names.{put}
use Rattle.pair_core.specs.State.{IsView}
use Rattle.pair_core.proofs.StateSeats.{read_seat, at_seat, at_set, kept_set, seats_set, pends_else, pends_here}
use Rattle.pair_core.proofs.state.CoreState.set_pending.Goals as goal

pub invariant_of-self : goal.invariant_of-self
invariant_of-self c =
    let s = c.args.self.now in let old = c.index_mut.result.now in let e = c.set_pending.ensures in
    let is = read_seat s.seats.items c.args.at old c.requires c.index_mut.ensures.value in
    record {
      kept = kept_set s.tables s.words.items s.slots.items s.send s.recv s.seats.items c.args.at old c.set_pending.new.self s.kept is e.seat
          (ap (λ v. length v.items) e.seen ∙ s.kept.seen c.args.at old is) (ap (λ v. length v.items) e.looks ∙ s.kept.looks c.args.at old is);
    }

pub returns-clause-seats : goal.returns-clause-seats
returns-clause-seats c =
    let s = c.args.self.now in let old = c.index_mut.result.now in
    at_set s.seats.items c.args.at old c.set_pending.new.self (read_seat s.seats.items c.args.at old c.requires c.index_mut.ensures.value) c.set_pending.ensures.seat

pub returns-clause-shows : goal.returns-clause-shows
returns-clause-shows c = λ core n shows there.
    let s = c.args.self.now in let old = c.index_mut.result.now in let e = c.set_pending.ensures in
    let is = read_seat s.seats.items c.args.at old c.requires c.index_mut.ensures.value in
    let own = at_seat s.seats.items c.args.at n old is there in
    let view = pends_here s.tables old c.set_pending.new.self c.args.pending core (shows.seats_are c.args.at old is) e.seat e.seen e.looks e.pending e.marks in
    let all = seats_set s.tables s.words.items s.slots.items s.send s.recv s.seats.items c.args.at old c.set_pending.new.self core (record core { pending = put core.pending n c.args.pending }) s.kept
    (record { each = shows.seats_are; others = shows.others_are }) is e.seat
    (subst (λ (z : ℕ). IsView s.tables c.set_pending.new.self (record core { pending = put core.pending z c.args.pending })) own view)
    (λ m other. pends_else n c.args.pending core m (λ f. other (f ∙ sym own))) in
    record {
      words_are = shows.words_are;
      slots_are = shows.slots_are;
      send_are = shows.send_are;
      recv_are = shows.recv_are;
      seats_are = all.each;
      others_are = all.others;
      takes_are = shows.takes_are;
    }
