use Rattle.std.proofs.Common.{◌==◌, ℕ, rules, tests}
use Rattle.std.proofs.lemmas.Result.{IfOk-weaker}
use Rattle.std.proofs.lemmas.Iterator.Consumers.{map_from_collect}
use Rattle.std.proofs.lemmas.Iterator.Splits.{YieldsList-from_slice_split}
use Rattle.text_words.proofs.PartCounts.{parts_few}
use Rattle.text_words.proofs.lines.split.Goals as goal

pub returns-clause-parts : goal.returns-clause-parts
returns-clause-parts c =
    map_from_collect _ c.collect.ensures.ran
    (YieldsList-from_slice_split _ _ c.args.bytes.now c.split.ensures.rest c.split.ensures.done c.split.ensures.closure
    (λ x r q k. search (rules, tests)))

pub returns-clause-few : goal.returns-clause-few
returns-clause-few c = IfOk-weaker c.collect.result _ _
    (λ parts is. parts_few (λ (byte : ℕ). byte == c.args.at) c.args.bytes.now parts.items is) (returns-clause-parts c)
