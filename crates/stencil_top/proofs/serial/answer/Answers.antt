use Rattle.stencil_top.specs.declared.note.Note.TheVariants.{CannotWrite}
use Rattle.stencil_top.proofs.Ends.{written_in_part}
use Rattle.stencil_top.proofs.serial.answer.Goals as goal

pub returns-clause-write : goal.returns-clause-write
returns-clause-write g c = λ failed.
    written_in_part _ _ _ _ c.in_ok-output.output.items c.deref.result.now c.write_out.result CannotWrite
    c.in_ok-output.ensures.gives c.deref.ensures.value c.write_out.ensures.adds failed
