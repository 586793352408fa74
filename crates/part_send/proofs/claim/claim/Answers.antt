use Rattle.std.proofs.Common.{◌≡◌, ℕ, ◌+◌, ◌-◌, ◌/◌, ◌%◌, ◌<◌, arith}
use Rattle.std.proofs.lemmas.Result.{err_from_is_err_and}
use Rattle.pair_core.specs.Names.{Claim, claim_words}
use Rattle.pair_core.proofs.Facts.{later_trans}
use Rattle.pair_rule.specs.Views.{seen}
use Rattle.part_send.proofs.Kept.{often_told, won_told}
use Rattle.part_send.proofs.Winning.{others_few, one_more, lost_often, refused_often, won_often}
use Rattle.part_send.proofs.claim.claim.Goals as goal

pub returns-in_err-refuse_word-clause-answer : goal.returns-in_err-refuse_word-clause-answer
returns-in_err-refuse_word-clause-answer g c =
    let i = c.loop.invariant in let least = i.least in
    let p = err_from_is_err_and c.from_residual.result c.from_residual.ensures.1 in
    rw (p.1, p.2)
    (refused_often c.args.seat.now c.requires.free.wide (c.loop.steps - c.args.steps.now) c.args.round c.args.partition c.loop.told.word c.args.bytes.now c.loop.seat
    c.in_err-refuse_word.field-0.0 c.requires.right i.seat i.later (λ none. i.lets (omega arith)) c.in_err-refuse_word.ensures)

pub returns-in_err-refuse_word-2-clause-answer : goal.returns-in_err-refuse_word-2-clause-answer
returns-in_err-refuse_word-2-clause-answer g c =
    let i = c.loop.invariant in let least = i.least in
    let p = err_from_is_err_and c.from_residual-in_err-refuse_word-2.result c.from_residual-in_err-refuse_word-2.ensures.1 in
    rw (p.1, p.2)
    (refused_often c.args.seat.now c.requires.free.wide (c.loop.steps - c.args.steps.now) c.args.round c.args.partition c.loop.told.word c.args.bytes.now c.loop.seat
    c.in_err-refuse_word-2.field-0.0 c.requires.right i.seat i.later (λ none. i.lets (omega arith)) c.in_err-refuse_word-2.ensures)

pub returns-in_err-refuse_word-clause-told : goal.returns-in_err-refuse_word-clause-told
returns-in_err-refuse_word-clause-told g c =
    let i = c.loop.invariant in
    often_told c.args.seat.now c.requires.free.wide c.loop.seat (c.args.partition / 32) c.loop.told.number (c.loop.steps - c.args.steps.now) c.loop.told.word i.seat i.number

pub returns-in_err-refuse_word-2-clause-told : goal.returns-in_err-refuse_word-2-clause-told
returns-in_err-refuse_word-2-clause-told g c =
    let i = c.loop.invariant in
    often_told c.args.seat.now c.requires.free.wide c.loop.seat (c.args.partition / 32) c.loop.told.number (c.loop.steps - c.args.steps.now) c.loop.told.word i.seat i.number

pub returns-then-found-told-clause-answer : goal.returns-then-found-told-clause-answer
returns-then-found-told-clause-answer g c =
    let i = c.loop.invariant in let least = i.least in let tick = c.tick.ensures in
    won_often c.args.seat.now c.loop.seat c.try_claim-found.new.seat c.args.round c.args.partition c.loop.told.word (c.loop.steps - c.args.steps.now) _ c.args.bytes.now
    i.seat (c.try_claim-found.ensures.won c.if-found-told.true) c.in_ok-refuse_word.ensures i.later (omega arith)

pub returns-then-found-told-clause-told : goal.returns-then-found-told-clause-told
returns-then-found-told-clause-told g c =
    let i = c.loop.invariant in
    won_told c.args.seat.now c.requires.free.wide c.loop.seat c.try_claim-found.new.seat c.loop.told.word c.try_claim-found.result c.args.partition c.loop.told.number
    (c.loop.steps - c.args.steps.now) c.args.bytes.now i.seat (c.try_claim-found.ensures.won c.if-found-told.true) c.if-found-told.true i.number

pub loop-preserved : goal.loop-preserved
loop-preserved g c =
    let i = c.loop.invariant in let old = c.args.seat.now in let p : ℕ = c.args.partition in let w : ℕ = c.try_claim-found.result in
    let there : p / 32 < claim_words old.view.geometry = (let low = c.requires.right.0 in omega arith) in
    let lost = c.try_claim-found.ensures.lost c.if-found-told.false in
    let tick = c.tick.ensures in let least = i.least in let most = i.most in
    let many : c.tick.new.self - c.args.steps.now ≡ c.loop.steps - c.args.steps.now + 1 = omega arith in
    record {
      number = i.number;
      seat = lost_often old c.requires.free.wide (Claim (p / 32)) there (c.loop.steps - c.args.steps.now) (c.tick.new.self - c.args.steps.now) c.loop.told.word w c.loop.seat _ i.seat lost many;
      later = later_trans (seen old.view (Claim (p / 32))) c.loop.told.word w i.later c.try_claim-found.ensures.later;
      least = omega arith;
      most = omega arith;
      lets = λ none. absurd (omega arith);
      few = λ now.
          let was = c.in_ok-refuse_word.ensures in
          let so = i.few was in
          let more = one_more c.loop.told.word w c.args.round p was now c.try_claim-found.ensures.later c.if-found-told.false in omega arith;
    }

pub unreachable-requires : goal.unreachable-requires
unreachable-requires g c =
    let p : ℕ = c.args.partition in
    let most = c.loop.invariant.few c.in_ok-refuse_word-2.ensures in
    let few = others_few c.loop.told.word (p % 32) 32 (omega arith) in
    let all = c.loop-test.false in omega arith
