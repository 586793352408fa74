use Rattle.std.proofs.Common.{arith}
use Rattle.std.proofs.lemmas.Nat.{mul-le}
use Rattle.init_match.proofs.PairFacts.{within}
use Rattle.init_match.proofs.numbers.check_numbers.Goals as goal

pub overflow_mul-call : goal.overflow_mul-call
overflow_mul-call c =
    let parts = within _ _ _ _ c.is_within.ensures c.if-not-is_within.false in
    let bytes = within _ _ _ _ c.is_within-2.ensures c.if-not-is_within-2.false in
    let most = mul-le c.args.call.parts c.args.call.bytes 1024 1048576 parts.1 bytes.1 in
    omega arith

pub returns-clause-fit : goal.returns-clause-fit
returns-clause-fit c = record {
  parts = within _ _ _ _ c.is_within.ensures c.if-not-is_within.false;
  bytes = within _ _ _ _ c.is_within-2.ensures c.if-not-is_within-2.false;
  length = omega arith;
}
