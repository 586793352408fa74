use Rattle.csv.specs.Reading.{strip_bom}
use Rattle.grid_text.proofs.RecordsLeft.{left-all}
use Rattle.grid_text.proofs.records.open.Goals as goal

pub returns-clause-left : goal.returns-clause-left
returns-clause-left c =
    rw (c.from_reader.ensures.source, c.from_reader.ensures.state) (left-all (strip_bom c.args.text.now))
