-- What the read gave is the block; where the read or the room for it fails, no more than that was taken.
use Rattle.std.proofs.Common.{ℕ, ◌≤◌, List, [], length, take, Option, Result, Ok, Err, OnErr, sym, arith, rules}
use Rattle.std.specs.Io.KnownBytes.{Consumes, Keeps}
use Rattle.std.proofs.lemmas.Grind.{common_steps}
use Rattle.std.proofs.KnownBytes.{Consumes-nil, Consumes-kept}
use Rattle.part_io.specs.Block.{TakesAtMost}
use Rattle.part_io.proofs.file_shelf.add_block.Goals as goal

none_taken : (a b : Option (List ℕ)) (n : ℕ) → Keeps a b → TakesAtMost a b n
none_taken a b n kept = ([], omega arith, Consumes-kept a a b [] (Consumes-nil a) kept)

some_taken : (a b : Option (List ℕ)) (bytes : List ℕ) (n : ℕ) → length bytes ≤ n → Consumes a b bytes → TakesAtMost a b n
some_taken a b bytes n few taken = (bytes, few, taken)

on_err : {T E : Type 0} (result : Result T E) (P : Type 0) → P → OnErr result P
on_err (Ok x) P p = tt
on_err (Err e) P p = p

pub returns-in_err-count-clause-taken : goal.returns-in_err-count-clause-taken
returns-in_err-count-clause-taken g c = on_err _ _ (none_taken _ _ _ c.in_err-count.ensures.none_lost)

pub returns-in_err-extend_from_slice-clause-taken : goal.returns-in_err-extend_from_slice-clause-taken
returns-in_err-extend_from_slice-clause-taken g c =
    on_err _ _ (some_taken _ _ (take c.in_ok-count.count c.read_some.new.block) _ (search rules) c.in_ok-count.ensures.given)

pub returns-clause-block : goal.returns-clause-block
returns-clause-block g c = record {
  block = take c.in_ok-count.count c.read_some.new.block;
  added = grind (arith, common_steps);
  counted = sym c.in_ok-count.ensures.bound.1;
  within = search rules;
  given = c.in_ok-count.ensures.given;
}

pub returns-clause-end : goal.returns-clause-end
returns-clause-end g c = c.in_ok-count.ensures.end
