use Rattle.part_recv.proofs.Walking.{Walked}
use Rattle.part_recv.proofs.looking.look_over.Given as goal

abbrev pub invariant-loop-piece : goal.invariant-loop-piece
invariant-loop-piece g l = Walked g.S.Seated.with_view g.S.Seated.view_of g.S.Seated.table_of l.round l.place l.first l.fn.seat l.seat l.piece
