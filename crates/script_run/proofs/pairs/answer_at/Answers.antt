use Rattle.std.proofs.Common.{◌<◌, ◌≤◌, length, sym, subst, arith}
use Rattle.script_run.specs.declared.pairs.NamedPair.{NamedPair}
use Rattle.std.proofs.lemmas.Option.{slice_get_past}
use Rattle.script_run.specs.Pairs.{StandsPair}
use Rattle.script_run.proofs.Zips.{zip_length, zip_at, zip_set}
use Rattle.script_run.proofs.pairs.answer_at.Goals as goal

pub returns-then-index-len : goal.returns-then-index-len
returns-then-index-len c = λ ps z.
    let past : length ps ≤ c.args.n = omega (arith, zip_length StandsPair c.args.pairs.now.items ps z) in
    rw (slice_get_past ps c.args.n past) (c.new.ensures.bytes, z)

pub returns : goal.returns
returns c = λ ps z.
    let inside : c.args.n < length c.args.pairs.now.items = omega arith in
    let a = zip_at StandsPair c.args.pairs.now.items ps c.args.n c.index_mut.result.now z inside in
    let here : StandsPair c.index_mut.result.now a.item = subst (λ (v : NamedPair). StandsPair v a.item) (sym c.index_mut.ensures.value) a.agrees in
    let r = c.answer.ensures a.item here in
    rw a.is (r.0, zip_set StandsPair c.args.pairs.now.items ps c.args.n c.answer.new.self _ z r.1)
