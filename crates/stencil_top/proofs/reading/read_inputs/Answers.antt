-- Where no file is named, none is read.
use Rattle.stencil_top.proofs.Inputs.{no_file_read}
use Rattle.stencil_top.proofs.reading.read_inputs.Goals as goal

pub returns-in-None-clause-finds : goal.returns-in-None-clause-finds
returns-in-None-clause-finds g c = no_file_read c.args.source.now _ c.in-Make.size c.in-Make.weights _ _ _ c.in-Make.is c.in-None.is c.made_alone.ensures
