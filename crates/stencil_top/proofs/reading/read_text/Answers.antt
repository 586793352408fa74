use Rattle.std.proofs.Common.{ℕ}
use Rattle.stencil_top.proofs.reading.read_text.Goals as goal
use Rattle.std.proofs.Common.{subst}
use Rattle.stencil_top.proofs.Texts.{long_file, no_file, failed, no_memory}
use Rattle.part_io.specs.Shelf.{Reads, CountsFailed}
use Rattle.part_io.specs.declared.answers.ReadAnswer.{ReadAnswer}
use Rattle.std.proofs.Common.{Err, Vec}
use Rattle.std.specs.declared.alloc.Global.{Global}

pub returns-in-Err-TooLong-clause-reads : goal.returns-in-Err-TooLong-clause-reads
returns-in-Err-TooLong-clause-reads g c =
    let e = c.in-Err-TooLong.ensures in
    long_file (g.H.Shelf.files c.args.shelf.now) c.args.text c.args.name.now _ _ c.limit.result c.in-Err-TooLong.field-0-0 c.limit.ensures
    (subst (λ (a : ReadAnswer). Reads (g.H.Shelf.files c.args.shelf.now) c.args.name.now c.limit.result (Err a)) c.in-Err-TooLong.field-0-is c.in-Err-TooLong.ensures.answer)

pub returns-in-Err-Missing-clause-reads : goal.returns-in-Err-Missing-clause-reads
returns-in-Err-Missing-clause-reads g c =
    no_file (g.H.Shelf.files c.args.shelf.now) c.args.text c.args.name.now _ _ c.limit.result
    (subst (λ (a : ReadAnswer). Reads (g.H.Shelf.files c.args.shelf.now) c.args.name.now c.limit.result (Err a)) c.in-Err-Missing.field-0-is c.in-Err-Missing.ensures.answer)

pub returns-in-Err-Failed-clause-reads : goal.returns-in-Err-Failed-clause-reads
returns-in-Err-Failed-clause-reads g c =
    failed _ _ _ _ _
    (subst (λ (a : ReadAnswer). CountsFailed {T = Vec ℕ Global} (g.H.Shelf.faults c.args.shelf.now) (g.H.Shelf.faults c.read.new.self) (Err a)) c.in-Err-Failed.field-0-is c.in-Err-Failed.ensures.cause.counted)

pub returns-in-Err-NoMemory-clause-reads : goal.returns-in-Err-NoMemory-clause-reads
returns-in-Err-NoMemory-clause-reads g c = no_memory _ _ _ _ _
