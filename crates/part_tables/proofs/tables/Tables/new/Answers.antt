use Rattle.part_tables.proofs.tables.Tables.new.Goals as goal

pub invariant_of-result : goal.invariant_of-result
invariant_of-result c = record {
  shape = c.total-total.ensures.limits;
  all_cells = c.in_ok-cells.ensures.cells;
  sent_firsts = c.in_ok-sent.ensures;
  received_firsts = c.in_ok-received.ensures;
  all_runs = c.in_ok-runs.ensures;
}
