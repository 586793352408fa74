use Rattle.std.proofs.Common.{◌≡◌, true, false}
use Rattle.csv.specs.Records.{fields_of}
use Rattle.grid_text.proofs.RecordsLeft.{read-none, read-some}
use Rattle.grid_text.proofs.records.next.Goals as goal

pub returns-in-Ok-clause-found : goal.returns-in-Ok-clause-found
returns-in-Ok-clause-found c = λ e.
    let found : c.in-Ok.found ≡ true = cc in
    let reads = rw found at (c.in-Ok.ensures.reads c.requires.trim c.requires.ready) in
    (read-some c.args.reader.now c.read_byte_record.new.self (fields_of c.read_byte_record.new.row) c.requires reads (c.in-Ok.ensures.reads_on found)).1

pub returns-in-Ok-clause-none : goal.returns-in-Ok-clause-none
returns-in-Ok-clause-none c = λ e.
    let found : c.in-Ok.found ≡ false = cc in
    let reads = rw found at (c.in-Ok.ensures.reads c.requires.trim c.requires.ready) in
    read-none c.args.reader.now c.read_byte_record.new.self (fields_of c.read_byte_record.new.row) c.requires reads
