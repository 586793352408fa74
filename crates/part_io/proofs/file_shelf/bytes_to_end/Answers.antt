-- What was taken before a read, and then by it: that is what is kept, and at the reader's end all that it had.
use Rattle.std.proofs.Common.{◌≡◌, ℕ, ◌+◌, ◌<◌, ◌≤◌, List, [], ◌++◌, length, Option, Some, None, IfSome, Err, ap, refl, sym, subst, arith, rules}
use Rattle.std.proofs.lemmas.List.{length-append}
use Rattle.std.specs.Io.KnownBytes.{Consumes}
use Rattle.std.proofs.KnownBytes.{Consumes-all, Consumes-nil, Consumes-trans}
use Rattle.part_io.specs.Block.{ReadsToEnd, TakesAtMost, IsOfOutside}
use Rattle.part_io.specs.declared.answers.ReadAnswer.{ReadAnswer}
use Rattle.part_io.specs.declared.answers.ReadAnswer.TheVariants.{Missing, TooLong, Failed, NoMemory}
use Rattle.part_io.proofs.file_shelf.bytes_to_end.Goals as goal

takes-more : (a b c : Option (List ℕ)) (bytes : List ℕ) (more n : ℕ) → Consumes a b bytes → TakesAtMost b c more → length bytes + more ≤ n
    → TakesAtMost a c n
takes-more a b c bytes more n before after room =
    let both = length-append bytes after.0 in
    let few = after.1 in
    (bytes ++ after.0, omega arith, Consumes-trans a b c bytes after.0 before after.2)

kept : (a b c : Option (List ℕ)) (old new block : List ℕ) → Consumes a b old → Consumes b c block → new ≡ old ++ block → Consumes a c new
kept a b c old new block before after is = subst (Consumes a c) (sym is) (Consumes-trans a b c old block before after)

-- more bytes than n were there, where more were taken
more-there : (a b : Option (List ℕ)) (bytes : List ℕ) (n : ℕ) → Consumes a b bytes → n < length bytes → IfSome a (λ known. n < length known)
more-there None b bytes n taken less = tt
more-there (Some x) None bytes n taken less = absurd taken
more-there (Some x) (Some y) bytes n taken less = let long = ap length taken in let both = length-append bytes y in omega arith

-- an error of the outside says nothing of what the reader had
ends_outside : (left : Option (List ℕ)) (limit : ℕ) (e : ReadAnswer) → IsOfOutside e → ReadsToEnd left limit (Err e)
ends_outside left limit Missing outside = absurd outside
ends_outside left limit (TooLong told) outside = absurd outside
ends_outside left limit Failed outside = tt
ends_outside left limit NoMemory outside = tt

pub loop-turn-init : goal.loop-turn-init
loop-turn-init g c = record {
  turns = omega arith;
  within = omega (arith, c.new-bytes.ensures.len);
  given = subst (Consumes _ _) (sym c.new-bytes.ensures.items) (Consumes-nil _);
}

pub loop-turn-preserved : goal.loop-turn-preserved
loop-turn-preserved g c =
    let b = c.in_ok-count.ensures.block in
    let grown = ap length b.added in
    let both = length-append c.loop-turn.bytes.items b.block in
    let few = b.counted in
    record {
      turns = omega arith;
      within = omega arith;
      given = kept _ _ _ _ _ b.block c.loop-turn.invariant.given b.given b.added;
    }

pub returns-in_err-count-clause-answer : goal.returns-in_err-count-clause-answer
returns-in_err-count-clause-answer g c =
    let ends = ends_outside (g.R.Read.remaining c.args.reader.now) c.args.limit _ c.in_err-count.ensures.error in search rules

pub returns-in_err-count-clause-taken : goal.returns-in_err-count-clause-taken
returns-in_err-count-clause-taken g c =
    takes-more _ _ _ _ _ _ c.loop-turn.invariant.given c.in_err-count.ensures.taken (omega arith)

pub returns-then-count-eq0-clause-answer : goal.returns-then-count-eq0-clause-answer
returns-then-count-eq0-clause-answer g c =
    let b = c.in_ok-count.ensures.block in
    Consumes-all _ _ _ [] _ (kept _ _ _ _ _ b.block c.loop-turn.invariant.given b.given b.added) (c.in_ok-count.ensures.end c.if-count-eq0.true) refl

pub returns-then-count-eq0-clause-taken : goal.returns-then-count-eq0-clause-taken
returns-then-count-eq0-clause-taken g c =
    let b = c.in_ok-count.ensures.block in
    let few = b.counted in
    let room = b.within in
    takes-more _ _ _ _ c.in_ok-count.count _ c.loop-turn.invariant.given (b.block, omega arith, b.given) (omega arith)

pub returns-then-most-len-clause-answer : goal.returns-then-most-len-clause-answer
returns-then-most-len-clause-answer g c =
    let b = c.in_ok-count.ensures.block in
    (refl, more-there _ _ _ _ (kept _ _ _ _ _ b.block c.loop-turn.invariant.given b.given b.added) (omega arith))

pub returns-then-most-len-clause-taken : goal.returns-then-most-len-clause-taken
returns-then-most-len-clause-taken g c =
    let b = c.in_ok-count.ensures.block in
    let few = b.counted in
    let room = b.within in
    takes-more _ _ _ _ c.in_ok-count.count _ c.loop-turn.invariant.given (b.block, omega arith, b.given) (omega arith)

pub returns-then-count-eq0-clause-within : goal.returns-then-count-eq0-clause-within
returns-then-count-eq0-clause-within g c =
    let b = c.in_ok-count.ensures.block in
    let grown = ap length b.added in
    let both = length-append c.loop-turn.bytes.items b.block in
    let few = b.counted in
    omega arith
