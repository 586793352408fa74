-- Past the counts, the write does what `take` does with this number.
use Rattle.part_io.proofs.mem_sink.MemSinkSink.write.Goals as goal

pub returns-then-is_err-clause-adds : goal.returns-then-is_err-clause-adds
returns-then-is_err-clause-adds c = c.take-taken.ensures.adds

pub returns-then-is_err-clause-done : goal.returns-then-is_err-clause-done
returns-then-is_err-clause-done c = c.take-taken.ensures.done

pub returns-then-is_err-clause-refused : goal.returns-then-is_err-clause-refused
returns-then-is_err-clause-refused c = c.take-taken.ensures.refused

pub returns-then-is_err-clause-taken : goal.returns-then-is_err-clause-taken
returns-then-is_err-clause-taken c = c.take-taken.ensures.taken

pub returns-then-is_err-clause-failing : goal.returns-then-is_err-clause-failing
returns-then-is_err-clause-failing c = c.take-taken.ensures.failing

pub returns-else-is_err-clause-adds : goal.returns-else-is_err-clause-adds
returns-else-is_err-clause-adds c = c.take-taken.ensures.adds

pub returns-else-is_err-clause-done : goal.returns-else-is_err-clause-done
returns-else-is_err-clause-done c = c.take-taken.ensures.done

pub returns-else-is_err-clause-refused : goal.returns-else-is_err-clause-refused
returns-else-is_err-clause-refused c = c.take-taken.ensures.refused

pub returns-else-is_err-clause-taken : goal.returns-else-is_err-clause-taken
returns-else-is_err-clause-taken c = c.take-taken.ensures.taken

pub returns-else-is_err-clause-failing : goal.returns-else-is_err-clause-failing
returns-else-is_err-clause-failing c = c.take-taken.ensures.failing
