use Rattle.std.proofs.Common.{◌≡◌, ◌+◌, ◌++◌, ◌∷◌, [], map, vec_len, sym, ap, ◌∙◌, append_assoc, arith}
use Rattle.rank_pool.proofs.Filling.{waits_more}
use Rattle.rank_pool.proofs.Turns.{all_at}
use Rattle.rank_pool.proofs.row.into_row.Goals as goal

pub loop-preserved : goal.loop-preserved
loop-preserved g c =
    let i = c.loop.invariant in
    let rest = map (λ x. x.job) c.loop.row in
    let popped : c.loop.jobs.items ≡ c.pop.new.self.items ++ c.in-Some.job ∷ [] = c.in-Some.ensures.items in
    let whole : c.pop.new.self.items ++ (c.in-Some.job ∷ rest) ≡ c.args.jobs.now.items =
    sym (append_assoc c.pop.new.self.items (c.in-Some.job ∷ []) rest) ∙ ap (λ l. l ++ rest) (sym popped) ∙ i.jobs in
    let is = all_at (λ j. g.J.Job.belongs j c.args.shared.now) c.pop.new.self.items rest c.args.jobs.now.items c.in-Some.job whole c.requires.belongs in
    let fewer : vec_len c.loop.jobs ≡ vec_len c.pop.new.self + 1 = sym c.in-Some.ensures.cases in
    let count = i.count in
    record {
      jobs = ap (λ l. c.pop.new.self.items ++ map (λ x. x.job) l) c.in-Ok.ensures.items ∙ whole;
      waits = waits_more g.J.Job.which g.J.Job.belongs g.J.Job.over c.args.shared.now _ _ _ c.loop.row c.push_front.new.self c.in-Ok.ensures.items c.len.ensures c.of.ensures is fewer i.waits;
      count = omega arith;
      room = c.pop.ensures.capacity ∙ i.room;
    }
