use Rattle.std.proofs.Common.{◌∙◌, ◌∷◌, ℕ, ap, sym, refl, subst, length}
use Rattle.pair_core.specs.Names.{put}
use Rattle.pair_core.specs.Steps.{mark}
use Rattle.pair_core.specs.State.{IsView}
use Rattle.pair_core.proofs.StateSeats.{read_seat, at_seat, at_set, kept_set, seats_set, marked_else, marked_here, view_equal, ok_map, err_map}
use Rattle.pair_core.proofs.state.CoreState.add_mark.Goals as goal

pub invariant_of-self : goal.invariant_of-self
invariant_of-self c =
    let s = c.args.self.now in let old = c.index_mut.result.now in let e = c.add_mark.ensures in
    let is = read_seat s.seats.items c.args.at old c.requires c.index_mut.ensures.value in
    record {
      kept = kept_set s.tables s.words.items s.slots.items s.send s.recv s.seats.items c.args.at old c.add_mark.new.self s.kept is e.seat
          (ap (λ v. length v.items) e.seen ∙ s.kept.seen c.args.at old is) (ap (λ v. length v.items) e.looks ∙ s.kept.looks c.args.at old is);
    }

pub returns-clause-seats : goal.returns-clause-seats
returns-clause-seats c =
    let s = c.args.self.now in let old = c.index_mut.result.now in
    at_set s.seats.items c.args.at old c.add_mark.new.self (read_seat s.seats.items c.args.at old c.requires c.index_mut.ensures.value) c.add_mark.ensures.seat

pub returns-clause-shows : goal.returns-clause-shows
returns-clause-shows c =
    let s = c.args.self.now in let old = c.index_mut.result.now in let e = c.add_mark.ensures in
    let is = read_seat s.seats.items c.args.at old c.requires c.index_mut.ensures.value in
    ok_map c.add_mark.result _ _ (λ _ marks core n shows there.
    let own = at_seat s.seats.items c.args.at n old is there in
    let l = mark c.args.round c.args.partition tt ∷ core.marks n in
    let was = (shows.seats_are c.args.at old is).marks ∙ ap core.marks own in
    let view = marked_here s.tables old c.add_mark.new.self l core (shows.seats_are c.args.at old is) e.seat e.seen e.looks e.pending (marks ∙ ap (λ k. mark c.args.round c.args.partition tt ∷ k) was) in
    let all = seats_set s.tables s.words.items s.slots.items s.send s.recv s.seats.items c.args.at old c.add_mark.new.self core (record core { marks = put core.marks n l }) s.kept
    (record { each = shows.seats_are; others = shows.others_are }) is e.seat
    (subst (λ (z : ℕ). IsView s.tables c.add_mark.new.self (record core { marks = put core.marks z l })) own view)
    (λ m other. marked_else n l core m (λ f. other (f ∙ sym own))) in
    record {
      words_are = shows.words_are;
      slots_are = shows.slots_are;
      send_are = shows.send_are;
      recv_are = shows.recv_are;
      seats_are = all.each;
      others_are = all.others;
      takes_are = shows.takes_are;
    }) e.marks

pub returns-clause-memory : goal.returns-clause-memory
returns-clause-memory c =
    let s = c.args.self.now in let old = c.index_mut.result.now in let e = c.add_mark.ensures in
    let is = read_seat s.seats.items c.args.at old c.requires c.index_mut.ensures.value in
    err_map c.add_mark.result _ _ (λ _ marks core shows.
    let all = seats_set s.tables s.words.items s.slots.items s.send s.recv s.seats.items c.args.at old c.add_mark.new.self core core s.kept
    (record { each = shows.seats_are; others = shows.others_are }) is e.seat
    (view_equal s.tables old c.add_mark.new.self core (shows.seats_are c.args.at old is) e.seat e.seen e.looks e.pending marks)
    (λ m other. record { life = refl; seen = refl; looks = refl; pending = refl; marks = refl }) in
    record {
      words_are = shows.words_are;
      slots_are = shows.slots_are;
      send_are = shows.send_are;
      recv_are = shows.recv_are;
      seats_are = all.each;
      others_are = all.others;
      takes_are = shows.takes_are;
    }) e.memory
